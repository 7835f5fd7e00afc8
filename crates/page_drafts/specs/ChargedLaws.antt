-- What a patch puts is charged in the content that it makes.
use Rattle.std.proofs.Common.{◌≡◌, ℕ, ◌≤◌, List, [], ◌∷◌, length, Option, Some, None, ap, sym, ◌∙◌, arith}
use Rattle.std.specs.Prelude.{IsTrue}
use Rattle.std.specs.FinMap.{find, is_sorted}
use Rattle.std.specs.Option.{unwrap_or}
use Rattle.std.proofs.lemmas.List.Sums.{sum_by-cons}
use Rattle.std.proofs.lemmas.Option.{none-some}
use Rattle.kd_records.specs.declared.key.RecordKey.{RecordKey}
use Rattle.kd_records.specs.Keys.{key_cmp}
use Rattle.kd_records.specs.Contents.{Record, Change, changed, changed_all}
use Rattle.kd_records.specs.ContentLaws.{change_says_what_is_found, find_changed_all, patch_keeps_order}
use Rattle.kd_records.specs.Charge.{charge_of, total_charge}
use Rattle.kdcfile_layout.specs.Bound.{charge_put, put_charge}
use Rattle.page_drafts.specs.Counts.{if_any}
use Rattle.page_drafts.specs.CountsLaws.{over_without, ascending_changed}
use Rattle.page_drafts.specs.PassesLaws.{tail_sorted, said_first, said_other, not_again}

-- each record that is put is there
abbrev HasPut : List Change → List Record → Type 0
HasPut changes items = (k : RecordKey) (v : List ℕ) → find key_cmp k changes ≡ Some (Some v) → find key_cmp k items ≡ Some v

other_key : (q : RecordKey) (v : List ℕ) (c : Change) (changes : List Change) → IsTrue (is_sorted key_cmp (c ∷ changes)) → find key_cmp q changes ≡ Some (Some v) → q ≡ c.0 → ⊥
other_key q v c changes sorted found e = none-some (Some v) (sym (not_again q c changes e sorted) ∙ found)

has_rest : (c : Change) (changes : List Change) (items : List Record) → IsTrue (is_sorted key_cmp (c ∷ changes)) → HasPut (c ∷ changes) items → HasPut changes items
has_rest c changes items sorted has q v found = has q v (said_other q c changes (other_key q v c changes sorted found) ∙ found)

values_charged : (size : ℕ) (changes : List Change) (items : List Record) → IsTrue (is_sorted key_cmp changes) → IsTrue (is_sorted key_cmp items) → HasPut changes items → put_charge size changes ≤ total_charge size items
values_charged size [] items sorted ascending has = omega arith
values_charged size ((k, None) ∷ changes) items sorted ascending has =
    omega (arith, sum_by-cons (λ (c : Change). charge_put size c.1) (k, None) changes, values_charged size changes items (tail_sorted (k, None) changes sorted) ascending (has_rest (k, None) changes items sorted has))
values_charged size ((k, Some w) ∷ changes) items sorted ascending has =
    let here : find key_cmp k items ≡ Some w = has k w (said_first k (k, Some w) changes (λ z. k)) in
    let rest = values_charged size changes (changed items (k, None)) (tail_sorted (k, Some w) changes sorted) (ascending_changed items k None ascending)
    (λ q v found. (change_says_what_is_found items k None).1 q (other_key q v (k, Some w) changes sorted found) ∙ has_rest (k, Some w) changes items sorted has q v found) in
    omega (
      arith,
      sum_by-cons (λ (c : Change). charge_put size c.1) (k, Some w) changes,
      rest,
      over_without (λ (v : List ℕ). charge_of size (length v)) k items ascending,
      ap (λ (o : Option (List ℕ)). if_any (λ (v : List ℕ). charge_of size (length v)) o) here,
    )

pub put_charged : (size : ℕ) (items : List Record) (changes : List Change) → IsTrue (is_sorted key_cmp items) → IsTrue (is_sorted key_cmp changes) → put_charge size changes ≤ total_charge size (changed_all items changes)
put_charged size items changes ascending sorted =
    values_charged size changes (changed_all items changes) sorted (patch_keeps_order (record { clock = 0; next_job = 0; items = items }) (record { clock = 0; next_job = 0; items = changes }) ascending)
    (λ k v found. find_changed_all k changes items sorted ∙ ap (λ (o : Option (Option (List ℕ))). unwrap_or o (find key_cmp k items)) found)
