-- A whole content has its pages and its slots, and what is made of it is stored and has its image.
use Rattle.std.proofs.Common.{◌≡◌, ℕ, ◌+◌, ◌-◌, ◌*◌, ◌<◌, ◌≤◌, ◌^◌, Bool, true, false, not, cond, List, [], length, replicate, Option, None, Some, refl, ap, sym, subst, ◌∙◌, arith, length-append}
use Rattle.std.proofs.lemmas.Bool.{false≢true}
use Rattle.std.proofs.lemmas.Option.{none-some, slice_get-get_or}
use Rattle.std.proofs.lemmas.List.{length-replicate, get_or-replicate}
use Rattle.std.proofs.lemmas.List.Folds.{sum_by-replicate}
use Rattle.kd_records.specs.declared.content.Content.{Content}
use Rattle.kd_records.specs.Contents.{Record, IsContent}
use Rattle.kd_records.specs.Charge.{total_charge}
use Rattle.kd_records.specs.ChargeLaws.{length_within}
use Rattle.kd_records.specs.Identity.{Identity, IsIdentity}
use Rattle.kdcfile_layout.specs.Places.{At}
use Rattle.kdcfile_layout.specs.PlacesLaws.{at_one, at_within, at_front}
use Rattle.kdcfile_layout.specs.Pools.{ArePlanned, free_count}
use Rattle.kdcfile_layout.specs.PoolsLaws.{length_flagged, flag_set, count_used}
use Rattle.kdcfile_layout.specs.declared.chain.Chain.{Chain}
use Rattle.kdcfile_layout.specs.Layout.{Layout, InRoot, InChain, IsLayout, directory_pages, page_count, slots_in_page, free_slot}
use Rattle.kdcfile_layout.specs.CrashLaws.{some_slots, per_root}
use Rattle.kdcfile_layout.specs.Stored.{IsStored}
use Rattle.kdcfile_layout.specs.Writes.{total}
use Rattle.kdcfile_layout.specs.Fresh.{free_layout}
use Rattle.kdcfile_layout.specs.FreshLaws.{free_is_layout}
use Rattle.kdcfile_layout.specs.Opened.{root_for}
use Rattle.page_drafts.specs.CommitsLaws.{slots_cover}
use Rattle.page_drafts.specs.Drafting.{Drafting}
use Rattle.page_drafts.specs.Drafts.{IsPlan, IsUnnamed}
use Rattle.page_drafts.specs.OnPlanLaws.{pages_there}
use Rattle.page_drafts.specs.WholeDrafts.{unwritten, CanPrepareWhole}
use Rattle.page_drafts.specs.WholeCommitsLaws.{whole_count, whole_most, whole_free, whole_stored, whole_would_be}
use Rattle.kdcfile_store.specs.declared.carrying.Whole.{Whole}
use Rattle.kdcfile_store.specs.Whole.{widened, whole_pages, used_by, AreUsed, CanDraftWhole, IsWholeDraft, IsWholeContent}

-- ---- the plan's pages are there, and the image that is selected names none of them

module _ (size pool : ℕ) (used : List Bool) (wide : length used ≤ page_count size pool) (needed : ℕ) (plan : List ℕ) (planned : ArePlanned (widened size pool used) needed plan) where
  pub plan_there : IsPlan size pool plan
  plan_there = record {
    distinct = planned.distinct;
    below = λ n p at.
        let new : ℕ = page_count size pool - length used in
        omega (arith, at_within (widened size pool used) p false (planned.clear n p at), length-append used (replicate new false), length-replicate new false, wide);
  }

  pub plan_unnamed : (l : Layout) → AreUsed l used → IsUnnamed l plan
  plan_unnamed l are u p n named at =
      false≢true (at_one (widened size pool used) p false true (planned.clear n p at) (at_front used (replicate (page_count size pool - length used) false) p true (are u p named)))

-- ---- just they are used, and others stand for those of the directory until it is written

free_pages : (n : ℕ) → free_count (replicate n false) ≡ n
free_pages n = omega (arith, sum_by-replicate (λ (u : Bool). cond (not u) 1 0) n false)

module _ (size pool : ℕ) (plan : List ℕ) (items : List Record) (can : CanDraftWhole size pool plan items) where
  clear : (n p : ℕ) → At plan n p → At (replicate (page_count size pool) false) p false
  clear n p at =
      let pages : List Bool = replicate (page_count size pool) false in
      let below : p < page_count size pool = can.planned.below n p at in
      let lt : p < length pages = omega (arith, below, length-replicate (page_count size pool) false) in
      slice_get-get_or pages p false lt ∙ ap (λ (b : Bool). Some b) (get_or-replicate (page_count size pool) p false false below)

  pub length_used : length (used_by size pool plan) ≡ page_count size pool
  length_used = length_flagged true plan (replicate (page_count size pool) false) ∙ length-replicate (page_count size pool) false

  pub plan_used : (n p : ℕ) → At plan n p → At (used_by size pool plan) p true
  plan_used n p at = flag_set plan (replicate (page_count size pool) false) n p at (at_within (replicate (page_count size pool) false) p false (clear n p at))

  pub free_left : free_count (used_by size pool plan) + length plan ≡ page_count size pool
  free_left = omega (arith, count_used plan (replicate (page_count size pool) false) can.planned.distinct clear, free_pages (page_count size pool))

  pub enough_others : directory_pages size pool ≤ free_count (used_by size pool plan)
  enough_others = omega (arith, free_left, can.count, can.charge)

  module _ (used : List Bool) (used_are : used ≡ used_by size pool plan) (needed : ℕ) (needed_is : needed ≡ directory_pages size pool) (others : List ℕ) (planned : ArePlanned used needed others) where
    unused : (n p : ℕ) → At others n p → At (used_by size pool plan) p false
    unused n p at = subst (λ (u : List Bool). At u p false) used_are (planned.clear n p at)

    layout : IsLayout size pool [] (free_layout size pool others)
    layout = free_is_layout size pool others (planned.count ∙ needed_is) planned.distinct (λ k p at. omega (arith, at_within (used_by size pool plan) p false (unused k p at), length_used))

    unnamed : IsUnnamed (free_layout size pool others) plan
    unnamed (InRoot k) p n named at = false≢true (at_one (used_by size pool plan) p false true (unused k p named) (plan_used n p at))
    unnamed (InChain s a) p n (c, slot, page) at = let v = layout.table.kept s c slot in none-some v.0 v.1

    can_prepare_whole : CanPrepareWhole size pool items plan (free_layout size pool others)
    can_prepare_whole = record {
      planned = can.planned;
      unnamed = unnamed;
      layout = layout;
      ascending = can.ascending;
      slots =
          omega (
            arith,
            length_within size items,
            can.charge,
            layout.slots,
            slots_cover pool (slots_in_page size) (some_slots size can.size_is),
          );
    }

    pub can_begin : (directory : List ℕ) (slots : List (Option Chain)) (d : Drafting) → directory ≡ others → slots ≡ replicate (directory_pages size pool * slots_in_page size) free_slot → d ≡ unwritten (record { directory = directory; slots = slots }) → CanPrepareWhole size pool items plan d.layout
    can_begin directory slots d directory_is slots_are is = rw (is, directory_is, slots_are) can_prepare_whole

-- ---- what is made

module _ (j : Identity) (is : IsIdentity j) (y : Content) (content : IsContent y) (charge : total_charge j.blksize y.items ≤ j.pages) (used : List Bool) (wide : length used ≤ page_count j.blksize j.pages) (plan : List ℕ) (planned : ArePlanned (widened j.blksize j.pages used) (whole_pages j.blksize j.pages y.items) plan) where
  pub can_draft_whole : CanDraftWhole j.blksize j.pages plan y.items
  can_draft_whole = record {
    size_is = is.blksize;
    most = is.most;
    records = content.records;
    ascending = content.ascending;
    charge = charge;
    planned = plan_there j.blksize j.pages used wide _ plan planned;
    count = planned.count;
  }

  module _ (e : Drafting) (draft : IsWholeDraft j.blksize j.pages plan y.items e) (w : Whole) (content_is : w.filed.content ≡ y) (table_is : w.filed.table ≡ e.layout.slots) (root_is : w.root ≡ root_for j y e.layout.directory) (pool_is : w.pool ≡ used_by j.blksize j.pages plan) (writes_are : w.writes.items ≡ e.writes) where
    few_writes : length e.writes < 2 ^ 32
    few_writes =
        omega (
          arith,
          whole_count j is y content plan draft.from draft.can e draft.prepared,
          draft.prepared.most,
          draft.can.layout.directory,
          charge,
          is.most,
          per_root j.blksize j.pages is.blksize is.most,
        )

    bytes_most : total e.writes ≤ j.blksize * whole_pages j.blksize j.pages y.items
    bytes_most = subst (λ (n : ℕ). total e.writes ≤ j.blksize * (total_charge j.blksize y.items + n)) draft.can.layout.directory (whole_most j is y content plan draft.from draft.can e draft.prepared)

    stored : IsStored j y e.layout (used_by j.blksize j.pages plan)
    stored =
        whole_stored j is y content plan draft.from draft.can e draft.prepared (used_by j.blksize j.pages plan) (length_used j.blksize j.pages plan y.items can_draft_whole) (plan_used j.blksize j.pages plan y.items can_draft_whole) (free_left j.blksize j.pages plan y.items can_draft_whole)
        (planned.count ∙ ap (λ (n : ℕ). total_charge j.blksize y.items + n) (sym draft.can.layout.directory))

    apart : (l : Layout) → AreUsed l used → IsUnnamed l plan
    apart = plan_unnamed j.blksize j.pages used wide _ plan planned

    pub is_whole : IsWholeContent used j y w
    is_whole = record {
      content = content_is;
      root = rw root_is refl;
      pages = rw writes_are (pages_there j.blksize j.pages plan can_draft_whole.planned e.writes (draft.prepared.draft j.pages None draft.can).on_plan);
      few = rw writes_are few_writes;
      most = rw writes_are bytes_most;
      stored = rw (root_is, table_is, pool_is) stored;
      apart = λ second l are. rw writes_are (whole_free j is y content plan draft.from draft.can e draft.prepared second l (apart l are));
      would_be = λ i second x l h same are stands. rw (root_is, table_is, writes_are) (whole_would_be j is y content plan draft.from draft.can e draft.prepared i second x l h same (apart l are) stands);
    }
