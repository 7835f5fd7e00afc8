-- A chain that is read so far.
use Rattle.std.proofs.Common.{◌≡◌, ℕ, zero, suc, ◌+◌, ◌-◌, ◌*◌, ◌<◌, ◌≤◌, ◌^◌, Bool, true, false, cond, ltb, ◌&&◌, List, [], ◌∷◌, ◌++◌, length, take, drop, Option, Some, None, refl, ap, sym, subst, ◌∙◌, arith, append_assoc, eqb}
use Rattle.std.proofs.Common.{length-append}
use Rattle.std.specs.Option.{option_map, option_and_then}
use Rattle.kd_device.specs.Device.{State, Frame, SameFaults, SameNames}
use Rattle.std.specs.Prelude.{IsTrue}
use Rattle.kd_device.specs.Rest.{Rests}
use Rattle.kd_records.specs.declared.key.RecordKey.{RecordKey}
use Rattle.std.specs.Int.{w32}
use Rattle.std.specs.Str.{bytes_eq}
use Rattle.kdcfile_layout.specs.Fields.{number}
use Rattle.kdcfile_layout.specs.Layout.{chain_head}
use Rattle.kdcfile_layout.specs.Chains.{Held, page_at, part_of, part_at, Chained, last_with, chain_of}
use Rattle.kdcfile_load.specs.Reads.{page_in}
use Rattle.std.proofs.lemmas.List.{length-take-le}
use Rattle.std.proofs.lemmas.Bool.{cond-true, cond-false, eq-eqb, ne_eqb, lt-leb}
use Rattle.kdcfile_layout.specs.ReadChains.{Holds}
use Rattle.kdcfile_layout.specs.ReadChainsLaws.{holds_rest}
use Rattle.kdcfile_load.proofs.RestedLaws.{rested_then}
use Rattle.kdcfile_load.proofs.SoFar.{onto, Reading}

-- the first of several pages is full
one_fits : (m left room : ℕ) → (suc (suc left) - 1) * m ≤ room → m ≤ room
one_fits m left room h =
    let e : suc (suc left) - 1 ≡ suc left = omega arith in
    let P : ℕ → Type 0 = λ x. x * m ≤ room in
    let g : suc left * m ≤ room = subst P e h in
    omega (arith, g)

onto_more : (pages value : List ℕ) (p : ℕ) (piece : List ℕ) (o : Option Chained) → onto pages value (option_map (λ (r : Chained). (p ∷ r.0, piece ++ r.1)) o) ≡ onto (pages ++ p ∷ []) (value ++ piece) o
onto_more pages value p piece None = refl
onto_more pages value p piece (Some r) = λ z. Some (sym (append_assoc pages (p ∷ []) r.0) z, sym (append_assoc value piece r.1) z)

-- a page that there is not is no part
pub part_there : (size count : ℕ) (h : List ℕ) (k : RecordKey) (n part p : ℕ) → 48 ≤ size → part_of size k n part (page_in size count h p) ≡ part_at size count h k n part p
part_there size count h k n part p le = by (ltb p count)
  where
    none : part_of size k n part [] ≡ None
    none = ap (λ (b : Bool). cond (b && bytes_eq (take 48 []) (chain_head k n part (number w32 33 []))) (Some (number w32 33 [], drop 48 [])) None) (lt-leb size 0 (omega (arith, le)))

    by : (b : Bool) → part_of size k n part (cond b (page_at size h p) []) ≡ cond b (part_of size k n part (page_at size h p)) None
    by true = refl
    by false = none

module _ (size count : ℕ) (h : List ℕ) (k : RecordKey) (n part room p : ℕ) (pages value : List ℕ) where
  pub none_here : (left : ℕ) → part_at size count h k n part p ≡ None → onto pages value (chain_of size count h k n part (suc left) room p) ≡ None
  unfolding chain_of
  none_here zero e = ap (λ (o : Option Held). onto pages value (option_and_then (λ (q : Held). last_with room p q) o)) e
  none_here (suc left) e =
      ap (λ (o : Option Held). onto pages value (option_and_then (λ (q : Held). option_map (λ (r : Chained). (p ∷ r.0, take (size - 48) q.1 ++ r.1)) (chain_of size count h k n (part + 1) (suc left) (room - (size - 48)) q.0)) o)) e

  pub more_here : (left : ℕ) (q : Held) → part_at size count h k n part p ≡ Some q
      → onto pages value (chain_of size count h k n part (suc (suc left)) room p) ≡ onto (pages ++ p ∷ []) (value ++ take (size - 48) q.1) (chain_of size count h k n (part + 1) (suc left) (room - (size - 48)) q.0)
  unfolding chain_of
  more_here left q e =
      ap (λ (o : Option Held). onto pages value (option_and_then (λ (x : Held). option_map (λ (r : Chained). (p ∷ r.0, take (size - 48) x.1 ++ r.1)) (chain_of size count h k n (part + 1) (suc left) (room - (size - 48)) x.0)) o)) e
      ∙ onto_more pages value p (take (size - 48) q.1) (chain_of size count h k n (part + 1) (suc left) (room - (size - 48)) q.0)

  pub last_here : (q : Held) → part_at size count h k n part p ≡ Some q → onto pages value (chain_of size count h k n part (suc zero) room p) ≡ onto pages value (last_with room p q)
  unfolding chain_of
  last_here q e = ap (λ (o : Option Held). onto pages value (option_and_then (λ (x : Held). last_with room p x) o)) e

module _ (size count : ℕ) (k : RecordKey) (n left first part room p : ℕ) (pages value : List ℕ) (a b : State) (la lb : ℕ → List ℕ → List ℕ → Type 0) (so_far : Reading size count k n left first part room p pages value a b la lb) where
  at_left : IsTrue a.told → (m : ℕ) → left - part ≡ m → onto pages value (chain_of size count a.holds k n part m room p) ≡ chain_of size count a.holds k n 0 left n first
  at_left told m e = subst (λ (x : ℕ). onto pages value (chain_of size count a.holds k n part x room p) ≡ chain_of size count a.holds k n 0 left n first) e (so_far.so_far told)

  pub none_now : part < left → IsTrue a.told → part_at size count a.holds k n part p ≡ None → None ≡ chain_of size count a.holds k n 0 left n first
  none_now lt told e = sym (none_here size count a.holds k n part room p pages value (left - part - 1) e) ∙ at_left told (suc (left - part - 1)) (omega (arith, lt))

  module _ (q : Held) where
    pub more_now : part < left - 1 → size ≤ length q.1 + 48 → (IsTrue a.told → part_at size count a.holds k n part p ≡ Some q) → (d : State) (ld : ℕ → List ℕ → List ℕ → Type 0) → Frame b d → SameNames b d → SameFaults b d → (IsTrue b.told → Rests b d lb ld)
        → (pages' value' : List ℕ) (room' : ℕ) → pages' ≡ pages ++ p ∷ [] → value' ≡ value ++ take (size - 48) q.1 → room' ≡ room - (size - 48) → Reading size count k n left first (part + 1) room' q.0 pages' value' a d la ld
    more_now lt wide here d ld frame names fine rests pages' value' room' pages_are value_is room_is =
        let now : left - part ≡ suc (suc (left - part - 2)) = omega (arith, lt) in
        let next : left - (part + 1) ≡ suc (left - part - 2) = omega (arith, lt) in
        let least : (suc (suc (left - part - 2)) - 1) * (size - 48) ≤ room = subst (λ (x : ℕ). (x - 1) * (size - 48) ≤ room) now so_far.holds.least in
        let room_for : size - 48 ≤ room = one_fits (size - 48) (left - part - 2) room least in
        record {
          rested = rested_then a b la lb so_far.rested d ld frame names fine rests;
          parts = ap (λ (l : List ℕ). length l) pages_are ∙ omega (arith, length-append pages (p ∷ []), so_far.parts);
          bytes =
              omega (arith, ap (λ (l : List ℕ). length l) value_is, length-append value (take (size - 48) q.1), length-take-le (size - 48) q.1 (omega (arith, wide)), so_far.bytes, room_is, room_for);
          holds =
              subst (λ (x : ℕ). Holds size x room') (sym next)
              (subst (λ (x : ℕ). Holds size (suc (left - part - 2)) x) (sym room_is) (holds_rest size (left - part - 2) room (subst (λ (x : ℕ). Holds size x room) now so_far.holds)));
          so_far = λ told.
              ap (λ (x : List ℕ). onto x value' (chain_of size count a.holds k n (part + 1) (left - (part + 1)) room' q.0)) pages_are
              ∙ ap (λ (x : List ℕ). onto (pages ++ p ∷ []) x (chain_of size count a.holds k n (part + 1) (left - (part + 1)) room' q.0)) value_is
              ∙ ap (λ (x : ℕ). onto (pages ++ p ∷ []) (value ++ take (size - 48) q.1) (chain_of size count a.holds k n (part + 1) x room' q.0)) next
              ∙ ap (λ (x : ℕ). onto (pages ++ p ∷ []) (value ++ take (size - 48) q.1) (chain_of size count a.holds k n (part + 1) (suc (left - part - 2)) x q.0)) room_is
              ∙ sym (more_here size count a.holds k n part room p pages value (left - part - 2) q (here told))
              ∙ at_left told (suc (suc (left - part - 2))) now;
        }

    -- all of the value is there after the last page
    pub last_bytes : part ≡ left - 1 → size ≤ length q.1 + 48 → (value' : List ℕ) → value' ≡ value ++ take room q.1 → length value' ≡ n
    last_bytes last wide value' value_is =
        let one : left - part ≡ suc zero = omega (arith, so_far.holds.some, last) in
        let most : room ≤ suc zero * (size - 48) = subst (λ (x : ℕ). room ≤ x * (size - 48)) one so_far.holds.most in
        omega (arith, ap (λ (l : List ℕ). length l) value_is, length-append value (take room q.1), length-take-le room q.1 (omega (arith, most, wide, so_far.holds.block)), so_far.bytes)

    pub last_pages : part ≡ left - 1 → (pages' : List ℕ) → pages' ≡ pages ++ p ∷ [] → length pages' ≡ left
    last_pages last pages' pages_are = ap (λ (l : List ℕ). length l) pages_are ∙ omega (arith, length-append pages (p ∷ []), so_far.parts, last, so_far.holds.some)

    pub last_now : (last : ℕ) → part ≡ last → last ≡ left - 1 → IsTrue a.told → part_at size count a.holds k n last p ≡ Some q → onto pages value (last_with room p q) ≡ chain_of size count a.holds k n 0 left n first
    last_now last part_is last_is told e =
        let here : part_at size count a.holds k n part p ≡ Some q = ap (λ (x : ℕ). part_at size count a.holds k n x p) part_is ∙ e in
        sym (last_here size count a.holds k n part room p pages value q here) ∙ at_left told (suc zero) (omega (arith, so_far.holds.some, part_is, last_is))

  pub none_last : (last : ℕ) → part ≡ last → last ≡ left - 1 → IsTrue a.told → part_at size count a.holds k n last p ≡ None → None ≡ chain_of size count a.holds k n 0 left n first
  none_last last part_is last_is told e = none_now (omega (arith, so_far.holds.some)) told (ap (λ (x : ℕ). part_at size count a.holds k n x p) part_is ∙ e)

-- the last page names another
pub not_last : (pages value : List ℕ) (room p : ℕ) (q : Held) → (q.0 ≡ 2 ^ 32 - 1 → ⊥) → onto pages value (last_with room p q) ≡ None
not_last pages value room p q apart = ap (λ (o : Option Chained). onto pages value o) (cond-false (eqb q.0 (2 ^ 32 - 1)) (Some (p ∷ [], take room q.1)) None (ne_eqb q.0 (2 ^ 32 - 1) apart))

-- or none
pub is_last : (pages value : List ℕ) (room p : ℕ) (q : Held) → q.0 ≡ 2 ^ 32 - 1 → onto pages value (last_with room p q) ≡ Some (pages ++ p ∷ [], value ++ take room q.1)
is_last pages value room p q e = ap (λ (o : Option Chained). onto pages value o) (cond-true (eqb q.0 (2 ^ 32 - 1)) (Some (p ∷ [], take room q.1)) None (eq-eqb q.0 (2 ^ 32 - 1) e))
