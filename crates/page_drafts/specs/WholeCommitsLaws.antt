-- A commit of a whole content: what it writes is, with the root, the other image, also one with other sizes and another
-- fingerprint; and where just the pages of its plan are used, all is stored.
use Rattle.std.proofs.Common.{◌≡◌, ℕ, ◌+◌, ◌*◌, ◌≤◌, Bool, true, not, List, length, Option, None, Some, ap, sym, subst, arith}
use Rattle.std.proofs.Math.Nat.{mul-le-mul_left}
use Rattle.kd_device.specs.Device.{written}
use Rattle.kd_records.specs.declared.content.Content.{Content}
use Rattle.kd_records.specs.Contents.{IsContent}
use Rattle.kd_records.specs.Charge.{total_charge}
use Rattle.kd_records.specs.Identity.{Identity, IsIdentity}
use Rattle.kdcfile_layout.specs.Places.{At}
use Rattle.kdcfile_layout.specs.Pools.{free_count}
use Rattle.kdcfile_layout.specs.Layout.{StandsAt, Layout, IsImage, Stands, root_place, page_count, head, root}
use Rattle.kdcfile_layout.specs.Writes.{written_all, total}
use Rattle.kdcfile_layout.specs.Crash.{AllFree}
use Rattle.kdcfile_layout.specs.CrashLaws.{image_after, all_keep, long}
use Rattle.kdcfile_layout.specs.Stored.{IsStored}
use Rattle.page_drafts.specs.CommitsLaws.{ended}
use Rattle.page_drafts.specs.Drafts.{IsUnnamed}
use Rattle.page_drafts.specs.Drafting.{Drafting, IsDraft}
use Rattle.page_drafts.specs.OnPlanLaws.{total_most, plan_free}
use Rattle.page_drafts.specs.WholeDrafts.{CanPrepareWhole, PreparedWhole}

module _ (j : Identity) (is : IsIdentity j) (y : Content) (content : IsContent y) (plan : List ℕ) (from : Layout) (can : CanPrepareWhole j.blksize j.pages y.items plan from) (e : Drafting) (made : PreparedWhole j.blksize plan y.items from e) where
  draft : (file : Option (List ℕ)) → IsDraft j.blksize j.pages y.items plan file e
  draft file = made.draft j.pages file can

  -- ---- the pages that are written

  pub whole_count : length e.writes ≡ e.taken
  whole_count = (draft None).count

  pub whole_most : total e.writes ≤ j.blksize * (total_charge j.blksize y.items + length from.directory)
  whole_most = let le : e.taken ≤ total_charge j.blksize y.items + length from.directory = made.most in omega (arith, ap (λ (n : ℕ). n * j.blksize) whole_count, total_most j.blksize plan e.writes (draft None).on_plan, mul-le-mul_left j.blksize le)

  pub whole_free : (second : Bool) (l : Layout) → IsUnnamed l plan → AllFree j.blksize second l e.writes
  whole_free = plan_free j.blksize plan e.writes (draft None).on_plan

  -- ---- the pages that are used

  pub whole_stored : (used : List Bool) → length used ≡ page_count j.blksize j.pages → ((n p : ℕ) → At plan n p → At used p true) → free_count used + length plan ≡ page_count j.blksize j.pages → length plan ≡ total_charge j.blksize y.items + length from.directory
      → IsStored j y e.layout used
  whole_stored used pages planned free count =
      let d = (draft None).drafted in
      record {
        identity = is;
        content = content;
        layout = d.layout;
        charged = d.charged;
        pages = pages;
        named = λ u p named. let on = made.named j.pages can u p named in planned on.0 p on.1;
        free = omega (arith, free, count, can.layout.directory);
      }

  -- ---- the other image

  pub whole_would_be : (i : Identity) (second : Bool) (x : Content) (l : Layout) (h : List ℕ) → i.blksize ≡ j.blksize → IsUnnamed l plan → Stands i second x l h → IsImage j (not second) y e.layout (written (written_all h e.writes) (root_place (not second)) (root j y e.layout.directory))
  whole_would_be i second x l h same unnamed stands =
      let free = subst (λ (size : ℕ). AllFree size second l e.writes) (sym same) (whole_free second l unnamed) in
      let old = image_after i second x l h stands e.writes free in
      let headed = subst (λ (size : ℕ). StandsAt 0 (head (record i { blksize = size })) (written_all h e.writes)) same old.headed in
      ended j is second y e.layout e.stale plan e.taken (written_all h e.writes) (draft (Some h)).drafted made.clean headed (omega (arith, long i second x l h stands.image, (all_keep e.writes h).no_shorter)) content
