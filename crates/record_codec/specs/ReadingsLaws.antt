-- Laws: how the values of services and jobs are read.
use Rattle.std.specs.Prelude.{◌≡◌, ℕ, Bool, true, false, List, ◌∷◌, ◌++◌, ⊤, Option, Some, None, option_and_then, ◌==◌}
use Rattle.std.proofs.Common.{ap, subst, ◌∙◌, inl, inr, arith}
use Rattle.std.proofs.lemmas.Bool.{eqb-true}
use Rattle.std.specs.Int.{w64, to_be_bytes}
use Rattle.std.specs.Option.{option_map}
use Rattle.kd_base.specs.Text.{IsName, padded}
use Rattle.kd_base.specs.Field.{list}
use Rattle.kd_base.specs.ToolsLaws.{chosen, some_is, map_some, and_some}
use Rattle.kdcs_types.specs.declared.key.ServiceId.{ServiceId}
use Rattle.kdcs_types.specs.declared.key.ServiceId.TheVariants.{Dialogue, Asynchronous}
use Rattle.kdcs_types.specs.declared.key.Target.{Target}
use Rattle.kdcs_types.specs.declared.key.Target.TheVariants.{Tac, Lterm}
use Rattle.record_codec.specs.Values.{last_bytes, flag, lterm_bytes, target_bytes}
use Rattle.record_codec.specs.Fields.{AreBytes, IsShort, name_field, number_field, list_field, either}
use Rattle.record_codec.specs.FieldsLaws.{IsReading, either_there, by_byte, names_are_read, u64s_are_read, lists_are_read}
use Rattle.record_codec.specs.Readings.{always, turned, flag_reading, no_message, some_message, last_reading, to_tac, to_lterm, target_reading, LastFits, TargetFits, eight_spaces, no_lterm}
use Rattle.record_codec.specs.Readings.{lterm_reading, LtermFits}

-- ---- flags, last messages and targets

-- what was read was turned so
pub turned_there : {A B : Type 0} (f : A → B) (reads : List ℕ → Option (A × List ℕ)) (of_a : A → List ℕ) (F : A → Type 0) (h : IsReading reads of_a F) (x : B) (bytes rest : List ℕ) → AreBytes bytes → turned f reads bytes ≡ Some (x, rest)
    → (a : A) × (f a ≡ x) × (bytes ≡ of_a a ++ rest) × F a
turned_there {A} f reads of_a F h x bytes rest are e =
    let m = map_some (λ (p : A × List ℕ). (f p.0, p.1)) (reads bytes) (x, rest) e in
    let p : A × List ℕ = m.0 in
    let s = h.stands_there p.0 bytes p.1 are m.1 in
    (p.0, ap (λ q. q.0) m.2, s.0 ∙ ap (λ q. of_a p.0 ++ q.1) m.2, s.1)

pub turned_back : {A B : Type 0} (f : A → B) (reads : List ℕ → Option (A × List ℕ)) (of_a : A → List ℕ) (F : A → Type 0) (h : IsReading reads of_a F) (a : A) (rest : List ℕ) → F a → turned f reads (of_a a ++ rest) ≡ Some (f a, rest)
turned_back f reads of_a F h a rest fits = ap (option_map (λ p. (f p.0, p.1))) (h.comes_back a rest fits)

abbrev pub AnyFlag : Bool → Type 0
AnyFlag b = ⊤

pub flags_are_read : IsReading flag_reading flag AnyFlag
flags_are_read = record { comes_back = back; stands_there = there }
  where
    back : (x : Bool) (rest : List ℕ) → ⊤ → flag_reading (flag x ++ rest) ≡ Some (x, rest)
    back true rest fits = by_byte (either 0 (always false) 1 (always true)) 1 rest (omega arith)
    back false rest fits = by_byte (either 0 (always false) 1 (always true)) 0 rest (omega arith)

    there : (x : Bool) (bytes rest : List ℕ) → AreBytes bytes → flag_reading bytes ≡ Some (x, rest) → (bytes ≡ flag x ++ rest) × ⊤
    there x bytes rest are e =
        either_there 0 (always false) 1 (always true) x bytes rest ((bytes ≡ flag x ++ rest) × ⊤)
        (λ left is _ f. (is ∙ ap (λ (p : Bool × List ℕ). flag p.0 ++ p.1) (some_is (false, left) (x, rest) f), tt))
        (λ left is _ f. (is ∙ ap (λ (p : Bool × List ℕ). flag p.0 ++ p.1) (some_is (true, left) (x, rest) f), tt))
        are e

pub lasts_are_read : IsReading last_reading last_bytes LastFits
lasts_are_read = record { comes_back = back; stands_there = there }
  where
    back : (x : Option (List ℕ)) (rest : List ℕ) → LastFits x → last_reading (last_bytes x ++ rest) ≡ Some (x, rest)
    back None rest fits = by_byte (either 0 (always no_message) 1 (turned some_message list_field)) 0 rest (omega arith)
    back (Some message) rest fits =
        by_byte (either 0 (always no_message) 1 (turned some_message list_field)) 1 (list message ++ rest) (omega arith)
        ∙ turned_back some_message list_field list IsShort lists_are_read message rest fits

    there : (x : Option (List ℕ)) (bytes rest : List ℕ) → AreBytes bytes → last_reading bytes ≡ Some (x, rest) → (bytes ≡ last_bytes x ++ rest) × LastFits x
    there x bytes rest are e =
        either_there 0 (always no_message) 1 (turned some_message list_field) x bytes rest ((bytes ≡ last_bytes x ++ rest) × LastFits x)
        (λ left is _ f.
        let same : (no_message, left) ≡ (x, rest) = some_is (no_message, left) (x, rest) f in
        subst (λ (p : Option (List ℕ) × List ℕ). (bytes ≡ last_bytes p.0 ++ p.1) × LastFits p.0) same (is, tt))
        (λ left is bytes_there f.
        let t = turned_there some_message list_field list IsShort lists_are_read x left rest bytes_there f in
        subst (λ (o : Option (List ℕ)). (bytes ≡ last_bytes o ++ rest) × LastFits o) t.1 (is ∙ ap (λ (l : List ℕ). 1 ∷ l) t.2, t.3))
        are e

pub targets_are_read : IsReading target_reading target_bytes TargetFits
targets_are_read = record { comes_back = back; stands_there = there }
  where
    back : (x : Target) (rest : List ℕ) → TargetFits x → target_reading (target_bytes x ++ rest) ≡ Some (x, rest)
    back (Tac tac) rest fits =
        by_byte (either 84 (turned to_tac name_field) 76 (turned to_lterm name_field)) 84 (padded tac ++ rest) (omega arith)
        ∙ turned_back to_tac name_field padded IsName names_are_read tac rest fits
    back (Lterm lterm) rest fits =
        by_byte (either 84 (turned to_tac name_field) 76 (turned to_lterm name_field)) 76 (padded lterm ++ rest) (omega arith)
        ∙ turned_back to_lterm name_field padded IsName names_are_read lterm rest fits

    there : (x : Target) (bytes rest : List ℕ) → AreBytes bytes → target_reading bytes ≡ Some (x, rest) → (bytes ≡ target_bytes x ++ rest) × TargetFits x
    there x bytes rest are e =
        either_there 84 (turned to_tac name_field) 76 (turned to_lterm name_field) x bytes rest ((bytes ≡ target_bytes x ++ rest) × TargetFits x)
        (λ left is bytes_there f.
        let t = turned_there to_tac name_field padded IsName names_are_read x left rest bytes_there f in
        subst (λ (o : Target). (bytes ≡ target_bytes o ++ rest) × TargetFits o) t.1 (is ∙ ap (λ (l : List ℕ). 84 ∷ l) t.2, t.3))
        (λ left is bytes_there f.
        let t = turned_there to_lterm name_field padded IsName names_are_read x left rest bytes_there f in
        subst (λ (o : Target). (bytes ≡ target_bytes o ++ rest) × TargetFits o) t.1 (is ∙ ap (λ (l : List ℕ). 76 ∷ l) t.2, t.3))
        are e

-- ---- the LTERM of a service

pub lterms_are_read : (id : ServiceId) → IsReading (lterm_reading id) lterm_bytes (LtermFits id)
lterms_are_read id = record { comes_back = back id; stands_there = there id }
  where
    back : (id : ServiceId) (x : Option (List ℕ)) (rest : List ℕ) → LtermFits id x → lterm_reading id (lterm_bytes x ++ rest) ≡ Some (x, rest)
    back (Dialogue user) None rest fits = ap (option_and_then no_lterm) (u64s_are_read.comes_back eight_spaces rest (omega arith))
    back (Dialogue user) (Some lterm) rest fits = absurd fits
    back (Asynchronous number) None rest fits = absurd fits
    back (Asynchronous number) (Some lterm) rest fits = turned_back some_message name_field padded IsName names_are_read lterm rest fits

    there : (id : ServiceId) (x : Option (List ℕ)) (bytes rest : List ℕ) → AreBytes bytes → lterm_reading id bytes ≡ Some (x, rest) → (bytes ≡ lterm_bytes x ++ rest) × LtermFits id x
    there (Dialogue user) x bytes rest are e =
        let a = and_some no_lterm (number_field w64 bytes) (x, rest) e in
        let p : ℕ × List ℕ = a.0 in
        let s = u64s_are_read.stands_there p.0 bytes p.1 are a.1 in
        elim (chosen (p.0 == eight_spaces) (Some (no_message, p.1)) None (Some (x, rest)) a.2) [
          | inl h ↦
              let same : (no_message, p.1) ≡ (x, rest) = some_is (no_message, p.1) (x, rest) h.1 in
              let spaces : bytes ≡ lterm_bytes None ++ p.1 = s.0 ∙ ap (λ (n : ℕ). to_be_bytes w64 n ++ p.1) (eqb-true p.0 eight_spaces h.0) in
              subst (λ (q : Option (List ℕ) × List ℕ). (bytes ≡ lterm_bytes q.0 ++ q.1) × LtermFits (Dialogue user) q.0) same (spaces, tt)
          | inr h ↦ absurd (cc h.1)
        ]
    there (Asynchronous number) x bytes rest are e =
        let t = turned_there some_message name_field padded IsName names_are_read x bytes rest are e in
        subst (λ (o : Option (List ℕ)). (bytes ≡ lterm_bytes o ++ rest) × LtermFits (Asynchronous number) o) t.1 (t.2, t.3)
