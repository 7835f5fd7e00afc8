-- What is written on the pages of a plan.
use Rattle.std.proofs.Common.{◌≡◌, inl, inr, ⊎_elim, ℕ, ◌*◌, ◌<◌, ◌≤◌, Bool, List, [], ◌∷◌, length, sym, subst, arith}
use Rattle.std.specs.Prelude.{All}
use Rattle.std.proofs.lemmas.List.Sums.{sum_by-cons}
use Rattle.std.proofs.lemmas.List.Elements.{All-head, All-tail, All-weaker}
use Rattle.kdcfile_layout.specs.Places.{At}
use Rattle.kdcfile_layout.specs.declared.page.PageWrite.{PageWrite}
use Rattle.kdcfile_layout.specs.Layout.{Layout, page_place, page_count}
use Rattle.kdcfile_layout.specs.Writes.{total}
use Rattle.kdcfile_layout.specs.PagesLaws.{pages_apart}
use Rattle.kdcfile_layout.specs.Crash.{IsFree, AllFree}
use Rattle.page_drafts.specs.Drafts.{IsPlan, IsUnnamed}
use Rattle.page_drafts.specs.Drafting.{IsOnPlan}

-- they are no more bytes than whole pages
pub total_most : (size : ℕ) (plan : List ℕ) (ws : List PageWrite) → All (IsOnPlan size plan) ws → total ws ≤ length ws * size
total_most size plan [] all = omega arith
total_most size plan (w ∷ ws) all =
    omega (arith, sum_by-cons (λ (v : PageWrite). length v.bytes) w ws, total_most size plan ws (All-tail (IsOnPlan size plan) w ws all), (All-head (IsOnPlan size plan) w ws all).4)

-- they are of pages that there are
pub pages_there : (size pool : ℕ) (plan : List ℕ) → IsPlan size pool plan → (ws : List PageWrite) → All (IsOnPlan size plan) ws → All (λ (w : PageWrite). (p : ℕ) × (p < page_count size pool) × (w.at ≡ page_place size p) × (length w.bytes ≤ size)) ws
pages_there size pool plan planned ws on_plan =
    All-weaker (IsOnPlan size plan) (λ (w : PageWrite). (p : ℕ) × (p < page_count size pool) × (w.at ≡ page_place size p) × (length w.bytes ≤ size))
    (λ w on. (on.1, planned.below on.0 on.1 on.2, on.3, on.4)) ws on_plan

module _ (size : ℕ) (plan : List ℕ) (ws : List PageWrite) (on_plan : All (IsOnPlan size plan) ws) where
  -- an image that names none of the plan's pages is apart from them
  pub plan_free : (second : Bool) (l : Layout) → IsUnnamed l plan → AllFree size second l ws
  plan_free second l unnamed =
      All-weaker (IsOnPlan size plan) (IsFree size second l)
      (λ w on.
      inr (omega (arith, on.3), λ u p named. ⊎_elim (λ lower. inl (omega (arith, on.3, lower))) (λ upper. inr (omega (arith, on.3, on.4, upper))) (pages_apart size p on.1 (λ same. unnamed u p on.0 named (subst (λ (m : ℕ). At plan on.0 m) (sym same) on.2)))))
      ws on_plan
