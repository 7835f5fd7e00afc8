-- Slots that were read have keys that records can have.
use Rattle.std.proofs.Common.{◌≡◌, ⊎_elim, ℕ, zero, suc, ◌+◌, ◌*◌, ◌≤◌, cond, eqb, ltb, List, [], ◌∷◌, ◌++◌, length, take, drop, get_or, Option, Some, None, refl, subst, arith, length-append}
use Rattle.std.proofs.Common.{length-drop}
use Rattle.std.specs.Option.{option_map}
use Rattle.std.specs.Int.{w32}
use Rattle.std.specs.Str.{bytes_eq}
use Rattle.std.proofs.lemmas.Bool.{ltb-false, eqb-false}
use Rattle.std.proofs.lemmas.Option.{same_Some}
use Rattle.std.proofs.lemmas.List.{length-take-le}
use Rattle.std.proofs.lemmas.List.Elements.{All-nil, All-cons, All-append}
use Rattle.kd_base.specs.ToolsLaws.{chosen, map_some, and_some}
use Rattle.kdcfile_layout.specs.Fields.{AreBytes, number, key_at}
use Rattle.kdcfile_layout.specs.FieldsLaws.{AreBytes_drop}
use Rattle.kdcfile_layout.specs.TestsLaws.{unless, when}
use Rattle.kdcfile_layout.specs.Layout.{zeros}
use Rattle.kdcfile_layout.specs.declared.kdcfile_read.slot.First.{First}
use Rattle.kdcfile_layout.specs.Slots.{free_slot_of, used_slot_of, slot_of, slots_of}
use Rattle.kdcfile_load.specs.Reads.{IsFirst, AreFirsts}

used_first : (bytes : List ℕ) (o : Option First) → AreBytes bytes → 32 ≤ length bytes → (get_or bytes 0 0 ≡ 0 → ⊥) → used_slot_of bytes ≡ Some o → IsFirst o
used_first bytes o are long some e =
    let there = when (bytes_eq (take 3 (drop 29 bytes)) (zeros 3)) (Some (Some (record { key = key_at bytes; page = number w32 25 bytes }))) o e in
    subst IsFirst (same_Some (Some (record { key = key_at bytes; page = number w32 25 bytes })) o there.1)
    (record { kind_from_one = omega (arith, some); kind_is_byte = are 0; key_length = length-take-le 24 (drop 1 bytes) (omega (arith, length-drop 1 bytes, long)) })

free_first : (bytes : List ℕ) (o : Option First) → free_slot_of bytes ≡ Some o → IsFirst o
free_first bytes o e = subst IsFirst (same_Some None o (when (bytes_eq (take 32 bytes) (zeros 32)) (Some None) o e).1) tt

slot_first : (bytes : List ℕ) (o : Option First) → AreBytes bytes → slot_of bytes ≡ Some o → IsFirst o
unfolding slot_of
slot_first bytes o are e =
    let there = unless (ltb (length bytes) 32) (cond (eqb (get_or bytes 0 0) 0) (free_slot_of bytes) (used_slot_of bytes)) o e in
    ⊎_elim
    (λ free. free_first bytes o free.1)
    (λ used. used_first bytes o are (ltb-false (length bytes) 32 there.0) (eqb-false (get_or bytes 0 0) 0 used.0) used.1)
    (chosen (eqb (get_or bytes 0 0) 0) (free_slot_of bytes) (used_slot_of bytes) (Some o) there.1)

pub firsts_of : (n : ℕ) (bytes : List ℕ) (slots : List (Option First)) → AreBytes bytes → slots_of n bytes ≡ Some slots → AreFirsts n slots
unfolding slots_of
firsts_of zero bytes slots are e = subst (λ (l : List (Option First)). AreFirsts 0 l) (same_Some [] slots e) (record { number = refl; keys = All-nil IsFirst })
firsts_of (suc n) bytes slots are e =
    let first = and_some (λ (o : Option First). option_map (λ (os : List (Option First)). o ∷ os) (slots_of n (drop 32 bytes))) (slot_of bytes) slots e in
    let rest = map_some (λ (os : List (Option First)). first.0 ∷ os) (slots_of n (drop 32 bytes)) slots first.2 in
    let more = firsts_of n (drop 32 bytes) rest.0 (AreBytes_drop 32 bytes are) rest.1 in
    subst (λ (l : List (Option First)). AreFirsts (suc n) l) rest.2
    (record { number = omega (arith, more.number); keys = All-cons IsFirst first.0 rest.0 (slot_first bytes first.0 are first.1) more.keys })

pub more_firsts : (pages per : ℕ) (slots more : List (Option First)) → AreFirsts (pages * per) slots → AreFirsts per more → AreFirsts ((pages + 1) * per) (slots ++ more)
more_firsts pages per slots more are also = record {
  number = omega (arith, length-append slots more, are.number, also.number);
  keys = All-append IsFirst slots more are.keys also.keys;
}
