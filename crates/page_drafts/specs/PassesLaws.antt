-- A patch in two passes: what it removes, and then what it puts.
use Rattle.std.proofs.Common.{◌≡◌, ⊎_elim, ℕ, zero, suc, ◌+◌, Bool, cond, T, List, [], ◌∷◌, length, Option, Some, None, refl, ap, sym, subst, ◌∙◌, arith}
use Rattle.std.specs.Prelude.{IsTrue}
use Rattle.std.specs.Option.{unwrap_or}
use Rattle.std.specs.Ordering.{eq_by_cmp}
use Rattle.std.specs.FinMap.{find, is_sorted}
use Rattle.std.specs.FinMap.Entries.{below_all, same_entries}
use Rattle.std.proofs.lemmas.List.Sums.{sum_by-cons}
use Rattle.std.proofs.lemmas.Option.{none-some, same_Some}
use Rattle.kd_base.specs.ToolsLaws.{both_true}
use Rattle.kd_records.specs.declared.key.RecordKey.{RecordKey}
use Rattle.kd_records.specs.Keys.{key_cmp}
use Rattle.kd_records.specs.KeyLaws.{key_total, same_key}
use Rattle.kd_records.specs.Contents.{Record, Change, changed, changed_all}
use Rattle.kd_records.specs.ContentLaws.{change_says_what_is_found, find_changed_all, patch_keeps_order}
use Rattle.kdcfile_layout.specs.Places.{At}
use Rattle.kdcfile_layout.specs.PlacesLaws.{no_item}
use Rattle.page_drafts.specs.CountsLaws.{same_first, ascending_changed}
use Rattle.page_drafts.specs.Freed.{AreOnce}
use Rattle.page_drafts.specs.Passes.{Said, left_by, put_by}
use Rattle.page_drafts.specs.DraftRuns.{removed_all, put_all, removals, puts, is_removal, is_put}
use Rattle.page_drafts.specs.TablesLaws.{tied, untied}
use Rattle.page_drafts.specs.DraftsLaws.{same_or_not}

pub tail_sorted : (c : Change) (changes : List Change) → IsTrue (is_sorted key_cmp (c ∷ changes)) → IsTrue (is_sorted key_cmp changes)
tail_sorted c changes h = (both_true (below_all key_cmp c.0 changes) (is_sorted key_cmp changes) h).1

-- what a patch says of its first key, and of others
pub said_first : (q : RecordKey) (c : Change) (changes : List Change) → q ≡ c.0 → find key_cmp q (c ∷ changes) ≡ Some c.1
said_first q c changes e = ap (λ (b : Bool). cond b (Some c.1) (find key_cmp q changes)) (ap (λ (j : RecordKey). eq_by_cmp key_cmp j c.0) e ∙ tied c.0)

pub said_other : (q : RecordKey) (c : Change) (changes : List Change) → (q ≡ c.0 → ⊥) → find key_cmp q (c ∷ changes) ≡ find key_cmp q changes
said_other q c changes apart = ap (λ (b : Bool). cond b (Some c.1) (find key_cmp q changes)) (untied q c.0 apart)

pub not_again : (q : RecordKey) (c : Change) (changes : List Change) → q ≡ c.0 → IsTrue (is_sorted key_cmp (c ∷ changes)) → find key_cmp q changes ≡ None
not_again q c changes e sorted = same_first q c changes (ap (λ (j : RecordKey). eq_by_cmp key_cmp j c.0) e ∙ tied c.0) sorted

found_left : (q : RecordKey) (changes : List Change) (items : List Record) → IsTrue (is_sorted key_cmp changes) → find key_cmp q (removed_all items changes) ≡ left_by (find key_cmp q changes) (find key_cmp q items)
found_left q [] items sorted = refl
found_left q ((k, None) ∷ changes) items sorted =
    let said = change_says_what_is_found items k None in
    found_left q changes (changed items (k, None)) (tail_sorted (k, None) changes sorted)
    ∙ ⊎_elim
    (λ e.
    ap (λ (o : Said). left_by o (find key_cmp q (changed items (k, None)))) (not_again q (k, None) changes e sorted)
    ∙ ap (λ (j : RecordKey). find key_cmp j (changed items (k, None))) e ∙ said.0
    ∙ sym (ap (λ (o : Said). left_by o (find key_cmp q items)) (said_first q (k, None) changes e)))
    (λ apart.
    ap (λ (o : Option (List ℕ)). left_by (find key_cmp q changes) o) (said.1 q apart)
    ∙ sym (ap (λ (o : Said). left_by o (find key_cmp q items)) (said_other q (k, None) changes apart)))
    (same_or_not q k)
found_left q ((k, Some v) ∷ changes) items sorted =
    found_left q changes items (tail_sorted (k, Some v) changes sorted)
    ∙ ⊎_elim
    (λ e.
    ap (λ (o : Said). left_by o (find key_cmp q items)) (not_again q (k, Some v) changes e sorted)
    ∙ sym (ap (λ (o : Said). left_by o (find key_cmp q items)) (said_first q (k, Some v) changes e)))
    (λ apart. sym (ap (λ (o : Said). left_by o (find key_cmp q items)) (said_other q (k, Some v) changes apart)))
    (same_or_not q k)

pub found_put : (q : RecordKey) (changes : List Change) (items : List Record) → IsTrue (is_sorted key_cmp changes) → find key_cmp q (put_all items changes) ≡ put_by (find key_cmp q changes) (find key_cmp q items)
found_put q [] items sorted = refl
found_put q ((k, Some v) ∷ changes) items sorted =
    let said = change_says_what_is_found items k (Some v) in
    found_put q changes (changed items (k, Some v)) (tail_sorted (k, Some v) changes sorted)
    ∙ ⊎_elim
    (λ e.
    ap (λ (o : Said). put_by o (find key_cmp q (changed items (k, Some v)))) (not_again q (k, Some v) changes e sorted)
    ∙ ap (λ (j : RecordKey). find key_cmp j (changed items (k, Some v))) e ∙ said.0
    ∙ sym (ap (λ (o : Said). put_by o (find key_cmp q items)) (said_first q (k, Some v) changes e)))
    (λ apart.
    ap (λ (o : Option (List ℕ)). put_by (find key_cmp q changes) o) (said.1 q apart)
    ∙ sym (ap (λ (o : Said). put_by o (find key_cmp q items)) (said_other q (k, Some v) changes apart)))
    (same_or_not q k)
found_put q ((k, None) ∷ changes) items sorted =
    found_put q changes items (tail_sorted (k, None) changes sorted)
    ∙ ⊎_elim
    (λ e.
    ap (λ (o : Said). put_by o (find key_cmp q items)) (not_again q (k, None) changes e sorted)
    ∙ sym (ap (λ (o : Said). put_by o (find key_cmp q items)) (said_first q (k, None) changes e)))
    (λ apart. sym (ap (λ (o : Said). put_by o (find key_cmp q items)) (said_other q (k, None) changes apart)))
    (same_or_not q k)

both_said : (said : Said) (o : Option (List ℕ)) → put_by said (left_by said o) ≡ unwrap_or said o
both_said None o = refl
both_said (Some None) o = refl
both_said (Some (Some v)) o = refl

sorted_removed : (changes : List Change) (items : List Record) → IsTrue (is_sorted key_cmp items) → IsTrue (is_sorted key_cmp (removed_all items changes))
sorted_removed [] items h = h
sorted_removed ((k, None) ∷ changes) items h = sorted_removed changes (changed items (k, None)) (ascending_changed items k None h)
sorted_removed ((k, Some v) ∷ changes) items h = sorted_removed changes items h

pub sorted_put : (changes : List Change) (items : List Record) → IsTrue (is_sorted key_cmp items) → IsTrue (is_sorted key_cmp (put_all items changes))
sorted_put [] items h = h
sorted_put ((k, None) ∷ changes) items h = sorted_put changes items h
sorted_put ((k, Some v) ∷ changes) items h = sorted_put changes (changed items (k, Some v)) (ascending_changed items k (Some v) h)

-- both passes together make what the patch makes
pub two_passes : (items : List Record) (changes : List Change) → IsTrue (is_sorted key_cmp items) → IsTrue (is_sorted key_cmp changes) → put_all (removed_all items changes) changes ≡ changed_all items changes
two_passes items changes h sorted =
    same_entries key_cmp key_total same_key (put_all (removed_all items changes) changes) (changed_all items changes)
    (subst T (sym (sorted_put changes (removed_all items changes) (sorted_removed changes items h))) tt)
    (subst T (sym (patch_keeps_order (record { clock = 0; next_job = 0; items = items }) (record { clock = 0; next_job = 0; items = changes }) h)) tt)
    (λ q. found_put q changes (removed_all items changes) sorted ∙ ap (λ (o : Option (List ℕ)). put_by (find key_cmp q changes) o) (found_left q changes items sorted) ∙ both_said (find key_cmp q changes) (find key_cmp q items) ∙ sym (find_changed_all q changes items sorted))

-- each change removes or puts
pub passes_count : (changes : List Change) → removals changes + puts changes ≡ length changes
passes_count [] = omega arith
passes_count ((k, None) ∷ changes) = omega (arith, passes_count changes, sum_by-cons (λ (c : Change). is_removal c.1) (k, None) changes, sum_by-cons (λ (c : Change). is_put c.1) (k, None) changes)
passes_count ((k, Some v) ∷ changes) = omega (arith, passes_count changes, sum_by-cons (λ (c : Change). is_removal c.1) (k, Some v) changes, sum_by-cons (λ (c : Change). is_put c.1) (k, Some v) changes)

-- ---- each key is once in an ascending patch

not_there : (changes : List Change) (n : ℕ) (k : RecordKey) (b : Change) → At changes n b → b.0 ≡ k → find key_cmp k changes ≡ None → ⊥
not_there [] n k b at e none = no_item n b at
not_there (c ∷ changes) zero k b at e none = none-some c.1 (sym none ∙ said_first k c changes (sym e ∙ ap (λ (x : Change). x.0) (sym (same_Some c b at))))
not_there (c ∷ changes) (suc n) k b at e none =
    ⊎_elim
    (λ same. none-some c.1 (sym none ∙ said_first k c changes same))
    (λ apart. not_there changes n k b at e (sym (said_other k c changes apart) ∙ none))
    (same_or_not k c.0)

not_later : (c : Change) (changes : List Change) (m : ℕ) (b d : Change) → IsTrue (is_sorted key_cmp (c ∷ changes)) → Some c ≡ Some b → At changes m d → d.0 ≡ b.0 → ⊥
not_later c changes m b d sorted is at e = not_there changes m b.0 d at e (not_again b.0 c changes (ap (λ (x : Change). x.0) (sym (same_Some c b is))) sorted)

pub ascending_once : (changes : List Change) → IsTrue (is_sorted key_cmp changes) → AreOnce changes
ascending_once [] sorted n m b d x y e = absurd (no_item n b x)
ascending_once (c ∷ changes) sorted zero zero b d x y e = refl
ascending_once (c ∷ changes) sorted zero (suc m) b d x y e = absurd (not_later c changes m b d sorted x y (sym e))
ascending_once (c ∷ changes) sorted (suc n) zero b d x y e = absurd (not_later c changes n d b sorted y x e)
ascending_once (c ∷ changes) sorted (suc n) (suc m) b d x y e = ap suc (ascending_once changes (tail_sorted c changes sorted) n m b d x y e)
