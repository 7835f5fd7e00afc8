-- What is in a slot once another was filled.
use Rattle.std.proofs.Common.{◌≡◌, ◌≢◌, ◌<◌, Bool, true, false, List, length, set, Option, Some, None, refl, arith, length-set, get_or-set_same, get_or-set_other}
use Rattle.std.specs.Prelude.{replicate}
use Rattle.std.proofs.lemmas.Option.{slice_get-get_or, unwrap_or-slice_get}
use Rattle.kdcdef_read.specs.declared.words.Key.{Key}
use Rattle.kdcdef_read.specs.declared.words.Key.TheVariants as keys
use Rattle.kdcdef_read.specs.declared.value.Value.{Value}
use Rattle.kdcdef_read.specs.Words.{place_of}
use Rattle.kdcdef_read.specs.Filling.{slot_at, is_taken}
use Rattle.kdcdef_read.proofs.Keys.{within}

pub slot_same : (slots : List (Option Value)) (key : Key) (v : Value) → length slots ≡ 28 → slot_at (set slots (place_of key) (Some v)) key ≡ Some v
slot_same slots key v full =
    let w : place_of key < 28 = within key in
    let lt : place_of key < length slots = omega arith in
    let len : place_of key < length (set slots (place_of key) (Some v)) = omega (arith, length-set {A = Option Value}) in
    rw (slice_get-get_or (set slots (place_of key) (Some v)) (place_of key) None len, get_or-set_same slots (place_of key) (Some v) None lt) refl

pub slot_other : (slots : List (Option Value)) (key other : Key) (v : Value) → length slots ≡ 28 → place_of other ≢ place_of key → slot_at (set slots (place_of key) (Some v)) other ≡ slot_at slots other
slot_other slots key other v full ne =
    let w : place_of other < 28 = within other in
    let lt : place_of other < length slots = omega arith in
    let len : place_of other < length (set slots (place_of key) (Some v)) = omega (arith, length-set {A = Option Value}) in
    rw (slice_get-get_or (set slots (place_of key) (Some v)) (place_of other) None len, get_or-set_other slots (place_of key) (place_of other) (Some v) None ne, slice_get-get_or slots (place_of other) None lt) refl

pub taken_same : (taken : List Bool) (key : Key) → length taken ≡ 28 → is_taken (set taken (place_of key) true) key ≡ true
taken_same taken key full =
    let w : place_of key < 28 = within key in
    let lt : place_of key < length taken = omega arith in
    rw (unwrap_or-slice_get (set taken (place_of key) true) (place_of key) false, get_or-set_same taken (place_of key) true false lt) refl

pub taken_other : (taken : List Bool) (key other : Key) → place_of other ≢ place_of key → is_taken (set taken (place_of key) true) other ≡ is_taken taken other
taken_other taken key other ne =
    rw (unwrap_or-slice_get (set taken (place_of key) true) (place_of other) false, get_or-set_other taken (place_of key) (place_of other) true false ne, unwrap_or-slice_get taken (place_of other) false) refl

-- at the beginning
pub no_slot : (key : Key) → slot_at (replicate 28 None) key ≡ None
no_slot keys.First = refl
no_slot key = refl

pub no_key : (key : Key) → is_taken (replicate 28 false) key ≡ false
no_key keys.First = refl
no_key key = refl
