-- One turn of each reader.
use Rattle.std.proofs.Common.{◌≡◌, ℕ, suc, ◌<◌, List, [], ◌∷◌, length, drop, Option, Some, None, refl, ap, ltb}
use Rattle.std.specs.Option.{option_map, option_and_then}
use Rattle.std.proofs.lemmas.Bool.{cond-true, lt-ltb}
use Rattle.kd_base.specs.Tools.{onto}
use Rattle.kdcfile_layout.specs.Reading.{numbers_of}
use Rattle.kdcfile_layout.specs.declared.kdcfile_read.slot.First.{First}
use Rattle.kdcfile_layout.specs.Slots.{slot_of, slots_of}

pub no_numbers : (bytes : List ℕ) → numbers_of 0 bytes ≡ Some []
unfolding numbers_of
no_numbers bytes = refl

pub no_number : (n : ℕ) (bytes : List ℕ) → length bytes < 4 → numbers_of (suc n) bytes ≡ None
unfolding numbers_of
no_number n bytes lt = cond-true (ltb (length bytes) 4) _ _ (lt-ltb (length bytes) 4 lt)

pub no_slots : (bytes : List ℕ) → slots_of 0 bytes ≡ Some []
unfolding slots_of
no_slots bytes = refl

pub no_slot : (n : ℕ) (bytes : List ℕ) → slot_of bytes ≡ None → slots_of (suc n) bytes ≡ None
unfolding slots_of
no_slot n bytes e = ap (λ (x : Option (Option First)). option_and_then (λ (o : Option First). option_map (λ (os : List (Option First)). o ∷ os) (slots_of n (drop 32 bytes))) x) e

pub a_slot : (n : ℕ) (bytes : List ℕ) (o : Option First) → slot_of bytes ≡ Some o → slots_of (suc n) bytes ≡ onto (o ∷ []) (slots_of n (drop 32 bytes))
unfolding slots_of
a_slot n bytes o e = ap (λ (x : Option (Option First)). option_and_then (λ (q : Option First). option_map (λ (os : List (Option First)). q ∷ os) (slots_of n (drop 32 bytes))) x) e
