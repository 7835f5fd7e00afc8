-- Drafts whose ticks are in range, and the jobs that they become, one after another.
use Rattle.std.proofs.Common.{◌≡◌, ◌+◌, ◌<◌, ◌≤◌, ℕ, zero, suc, List, [], ◌∷◌, ◌++◌, length, get_or, drop, sym, ap, ◌∙◌, append_assoc, add-one, arith, drop-cons}
use Rattle.std.proofs.lemmas.List.{drop_all, append-nil}
use Rattle.kdcs_types.specs.declared.service.Job.{Job}
use Rattle.abstract_monitor.specs.declared.draft.Draft.{Draft}
use Rattle.abstract_monitor.specs.Endings.{numbered}
use Rattle.open_transaction.specs.Drafts.{IsInTicks, AreInTicks, job_of}

pub in_ticks_push : (ds : List Draft) (d : Draft) → AreInTicks ds → IsInTicks d.due → AreInTicks (ds ++ d ∷ [])
in_ticks_push [] d h k = (k, tt)
in_ticks_push (e ∷ ds) d h k = (h.0, in_ticks_push ds d h.1 k)

pub in_ticks_at : (ds : List Draft) (i : ℕ) (d : Draft) → AreInTicks ds → i < length ds → IsInTicks (get_or ds i d).due
in_ticks_at [] i d h lt = absurd (omega arith)
in_ticks_at (e ∷ ds) zero d h lt = h.0
in_ticks_at (e ∷ ds) (suc i) d h lt = in_ticks_at ds i d h.1 (omega arith)

-- one more draft
pub numbered_more : (number clock : ℕ) (user lterm : List ℕ) (ds : List Draft) (i : ℕ) (x : Draft) (jobs : List Job) (job : Job) (new all : List Job) → i < length ds → x ≡ get_or ds i x
    → job ≡ job_of number clock user lterm x → new ≡ jobs ++ job ∷ [] → jobs ++ numbered number clock user lterm (drop i ds) ≡ all
    → new ++ numbered (number + 1) clock user lterm (drop (i + 1) ds) ≡ all
unfolding numbered
numbered_more number clock user lterm ds i x jobs job new all lt at made pushed h =
    let e : x ∷ drop (i + 1) ds ≡ drop i ds = rw add-one (ap (λ (y : Draft). y ∷ drop (suc i) ds) at ∙ sym (drop-cons ds i x lt)) in
    ap (λ (l : List Job). l ++ numbered (number + 1) clock user lterm (drop (i + 1) ds)) (pushed ∙ ap (λ (j : Job). jobs ++ j ∷ []) made)
    ∙ append_assoc jobs (job_of number clock user lterm x ∷ []) (numbered (number + 1) clock user lterm (drop (i + 1) ds))
    ∙ ap (λ (l : List Draft). jobs ++ numbered number clock user lterm l) e ∙ h

-- no more drafts
pub numbered_all : (number clock : ℕ) (user lterm : List ℕ) (ds : List Draft) (i : ℕ) (jobs all : List Job) → length ds ≤ i → jobs ++ numbered number clock user lterm (drop i ds) ≡ all → jobs ≡ all
unfolding numbered
numbered_all number clock user lterm ds i jobs all le h =
    sym (ap (λ (l : List Draft). jobs ++ numbered number clock user lterm l) (drop_all i ds le) ∙ append-nil jobs) ∙ h
