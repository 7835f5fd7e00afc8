-- The records that are read so far, one after another.
use Rattle.std.proofs.Common.{◌≡◌, ℕ, suc, ◌+◌, ◌-◌, ◌<◌, ◌≤◌, true, false, List, [], ◌∷◌, ◌++◌, Option, Some, None, refl, sym, ap, subst, ◌∙◌, arith}
use Rattle.std.proofs.lemmas.Bool.{cond-true, cond-false}
use Rattle.std.proofs.lemmas.List.{append-nil}
use Rattle.kd_base.specs.Tools.{onto}
use Rattle.kd_base.specs.ToolsLaws.{onto_then}
use Rattle.kd_records.specs.declared.key.RecordKey.{RecordKey}
use Rattle.kd_records.specs.Contents.{Record}
use Rattle.device_tests.specs.Reading.{record_at, after_record, records_of, comes_after}
use Rattle.device_tests.specs.ReadRecordsLaws.{one_and_more, no_more, none_left}

pub onto_none : (so_far : List Record) (o : Option (List Record)) → o ≡ None → onto so_far o ≡ None
onto_none so_far o e = ap (λ (m : Option (List Record)). onto so_far m) e

one_fewer : (count slot : ℕ) → slot < count → count - slot ≡ suc (count - (slot + 1))
one_fewer count slot lt = omega arith

module _ (so_far : List Record) (previous : Option RecordKey) (count slot : ℕ) (left : List ℕ) (total : Option (List Record)) (lt : slot < count) (is : onto so_far (records_of previous (count - slot) left) ≡ total) where
  on : (m : ℕ) → count - slot ≡ m → onto so_far (records_of previous m left) ≡ total
  on m e = let P : ℕ → Type 0 = λ n. onto so_far (records_of previous n left) ≡ total in subst P e is

  next : onto so_far (records_of previous (suc (count - (slot + 1))) left) ≡ total
  next = on (suc (count - (slot + 1))) (one_fewer count slot lt)

  pub ended : record_at left ≡ None → None ≡ total
  ended e = sym (onto_none so_far (records_of previous (suc (count - (slot + 1))) left) (no_more previous (count - (slot + 1)) left e)) ∙ next

  pub out_of_order : (r : Record) → record_at left ≡ Some r → comes_after previous r.0 ≡ false → None ≡ total
  out_of_order r found apart = sym (onto_none so_far (records_of previous (suc (count - (slot + 1))) left) (one_and_more previous (count - (slot + 1)) left r found ∙ cond-false (comes_after previous r.0) _ _ apart)) ∙ next

  one_more_there : (r : Record) → record_at left ≡ Some r → comes_after previous r.0 ≡ true
      → onto (so_far ++ r ∷ []) (records_of (Some r.0) (count - (slot + 1)) (after_record r left)) ≡ total
  one_more_there r found behind =
      onto_then so_far (r ∷ []) (records_of (Some r.0) (count - (slot + 1)) (after_record r left))
      ∙ sym (ap (λ (o : Option (List Record)). onto so_far o) (one_and_more previous (count - (slot + 1)) left r found ∙ cond-true (comes_after previous r.0) _ _ behind))
      ∙ next

  pub one_more : (r : Record) → record_at left ≡ Some r → comes_after previous r.0 ≡ true → (pushed : List Record) (rest : List ℕ) → pushed ≡ so_far ++ r ∷ [] → rest ≡ after_record r left
      → onto pushed (records_of (Some r.0) (count - (slot + 1)) rest) ≡ total
  one_more r found behind pushed rest pushed_is rest_is =
      ap (λ (l : List Record). onto l (records_of (Some r.0) (count - (slot + 1)) rest)) pushed_is
      ∙ ap (λ (l : List ℕ). onto (so_far ++ r ∷ []) (records_of (Some r.0) (count - (slot + 1)) l)) rest_is
      ∙ one_more_there r found behind

pub all_read : (so_far : List Record) (previous : Option RecordKey) (count slot : ℕ) (left : List ℕ) (total : Option (List Record)) → count ≤ slot → onto so_far (records_of previous (count - slot) left) ≡ total
    → Some so_far ≡ total
all_read so_far previous count slot left total le is =
    let P : ℕ → Type 0 = λ n. onto so_far (records_of previous n left) ≡ total in
    let none : count - slot ≡ 0 = omega arith in
    ap (λ (l : List Record). Some l) (sym (append-nil so_far)) ∙ sym (ap (λ (o : Option (List Record)). onto so_far o) (none_left previous left)) ∙ subst P none is

none_yet : (total : Option (List Record)) → onto [] total ≡ total
none_yet None = refl
none_yet (Some l) = refl

pub at_first : (so_far : List Record) (count : ℕ) (image : List ℕ) → so_far ≡ [] → onto so_far (records_of None (count - 0) image) ≡ records_of None count image
at_first so_far count image is =
    let all : count - 0 ≡ count = omega arith in
    ap (λ (l : List Record). onto l (records_of None (count - 0) image)) is ∙ none_yet (records_of None (count - 0) image) ∙ ap (λ (n : ℕ). records_of None n image) all
