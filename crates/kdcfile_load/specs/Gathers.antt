-- Records in the order of slots, and in the order of their keys.
use Rattle.std.specs.Prelude.{◌≡◌, ℕ, List, [], ◌∷◌, length, Option, Some, None}
use Rattle.std.specs.FinMap.{find, put}
use Rattle.kd_records.specs.Contents.{Record}
use Rattle.kd_records.specs.Keys.{key_cmp}
use Rattle.kd_records.specs.Charge.{charge_of}
use Rattle.kdcfile_layout.specs.declared.chain.Chain.{Chain}

-- the records with these, each put in its place
abbrev pub gathered : List Record → List Record → List Record
gathered items [] = items
gathered items (r ∷ records) = gathered (put key_cmp r.0 r.1 items) records

-- no key of these records is there, and none is there twice
abbrev pub AreNew : List Record → List Record → Type 0
AreNew items [] = Unit {0}
AreNew items (r ∷ records) = (find key_cmp r.0 items ≡ None) × AreNew (put key_cmp r.0 r.1 items) records

-- the used slots have these records in order, each with as many pages as its charge
abbrev pub AreKept : ℕ → List (Option Chain) → List Record → Type 0
AreKept size [] [] = Unit {0}
AreKept size [] (r ∷ records) = ⊥
AreKept size (None ∷ slots) records = AreKept size slots records
AreKept size (Some c ∷ slots) [] = ⊥
AreKept size (Some c ∷ slots) (r ∷ records) = (c.key ≡ r.0) × (length c.pages ≡ charge_of size (length r.1)) × AreKept size slots records
