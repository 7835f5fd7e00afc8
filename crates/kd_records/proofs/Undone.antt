-- What a key had before a change takes the change back.
use Rattle.std.specs.Prelude.{◌≡◌, refl, ℕ, IsTrue, List, [], ◌∷◌, ◌++◌, Option, None, Some}
use Rattle.std.proofs.Common.{ap, sym, subst, ◌∙◌}
use Rattle.std.specs.FinMap.{find, is_sorted}
use Rattle.kd_base.specs.ChangedLaws.{with_value, with_sorted, changed_back}
use Rattle.kd_records.specs.declared.key.RecordKey.{RecordKey}
use Rattle.kd_records.specs.Keys.{key_cmp}
use Rattle.kd_records.specs.KeyLaws.{key_total, same_key}
use Rattle.kd_records.specs.Contents.{Record, Change, changed}
use Rattle.kd_records.specs.InPlace.{undone}

-- a change is the one of pairs
same_change : (k : RecordKey) (value : Option (List ℕ)) (records : List Record) → changed records (k, value) ≡ with_value key_cmp k value records
same_change k None records = refl
same_change k (Some v) records = refl

changed_sorted : (k : RecordKey) (value : Option (List ℕ)) (records : List Record) → IsTrue (is_sorted key_cmp records) → IsTrue (is_sorted key_cmp (changed records (k, value)))
changed_sorted k value records up = rw (same_change k value records) (with_sorted key_cmp key_total k value records up)

-- the changes that take all others back take one more back first
pub undone_last : (undo : List Change) (c : Change) (records : List Record) → undone (undo ++ c ∷ []) records ≡ undone undo (changed records c)
undone_last [] c records = refl
undone_last (d ∷ undo) c records = ap (λ (l : List Record). changed l d) (undone_last undo c records)

-- one more change, and what its key had: together they change nothing of what is before all of them
undone_more : (undo : List Change) (k : RecordKey) (value : Option (List ℕ)) (records : List Record) → IsTrue (is_sorted key_cmp records)
    → undone (undo ++ (k, find key_cmp k records) ∷ []) (changed records (k, value)) ≡ undone undo records
undone_more undo k value records up =
    undone_last undo (k, find key_cmp k records) (changed records (k, value))
    ∙ ap (undone undo)
    (
    same_change k (find key_cmp k records) (changed records (k, value))
    ∙ ap (with_value key_cmp k (find key_cmp k records)) (same_change k value records)
    ∙ changed_back key_cmp key_total same_key k value records up)

-- the same, where the lists go by several names
pub undone_after : (undo more : List Change) (k : RecordKey) (value old : Option (List ℕ)) (records same after : List Record) → IsTrue (is_sorted key_cmp records) → same ≡ records → old ≡ find key_cmp k same → after ≡ changed same (k, value)
    → more ≡ undo ++ (k, old) ∷ [] → undone more after ≡ undone undo records
undone_after undo more k value old records same after up s o a m =
    rw (m, a, o)
    (subst (λ (l : List Record). undone (undo ++ (k, find key_cmp k l) ∷ []) (changed l (k, value)) ≡ undone undo records) (sym s) (undone_more undo k value records up))

pub sorted_after : (k : RecordKey) (value : Option (List ℕ)) (records same after : List Record) → IsTrue (is_sorted key_cmp records) → same ≡ records → after ≡ changed same (k, value) → IsTrue (is_sorted key_cmp after)
sorted_after k value records same after up s a =
    rw a (subst (λ (l : List Record). IsTrue (is_sorted key_cmp (changed l (k, value)))) (sym s) (changed_sorted k value records up))
