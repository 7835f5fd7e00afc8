use Rattle.std.proofs.Common.{◌∙◌, List, ℕ, refl, ap, subst}
use Rattle.kd_records.specs.Contents.{Record}
use Rattle.kdcfile_layout.specs.Opened.{root_for}
use Rattle.kdcfile_layout.specs.Pools.{ArePlanned}
use Rattle.page_drafts.specs.Undoing.{Changing}
use Rattle.kdcfile_store.specs.Paged.{identity_with}
use Rattle.kdcfile_store.specs.Whole.{IsWholeDraft, used_by, whole_pages, widened}
use Rattle.kdcfile_store.proofs.WholeMaking.{plan_there, can_draft_whole, is_whole}
use Rattle.kdcfile_store.proofs.carrying.make_whole.Goals as goal

pub used_pool-requires-clause-planned : goal.used_pool-requires-clause-planned
used_pool-requires-clause-planned c = rw c.as_slice.ensures (plan_there c.args.limits.now.blksize c.args.limits.now.pgpool c.args.pool.now c.requires.wider _ c.in_ok-plan.plan c.in_ok-plan.ensures)

pub whole_draft-requires-clause-can : goal.whole_draft-requires-clause-can
whole_draft-requires-clause-can c =
    let j = identity_with c.args.limits.now c.args.fingerprint.now in
    let planned = subst (λ (items : List Record). ArePlanned (widened j.blksize j.pages c.args.pool.now) (whole_pages j.blksize j.pages items) c.in_ok-plan.plan) c.as_slice-records.ensures c.in_ok-plan.ensures in
    rw (c.as_slice-2.ensures, c.as_slice-records.ensures) (can_draft_whole j c.requires.identity c.args.content c.requires.content c.requires.charge c.args.pool.now c.requires.wider c.in_ok-plan.plan planned)

pub returns : goal.returns
returns c =
    let j = identity_with c.args.limits.now c.args.fingerprint.now in
    let planned = subst (λ (items : List Record). ArePlanned (widened j.blksize j.pages c.args.pool.now) (whole_pages j.blksize j.pages items) c.in_ok-plan.plan) c.as_slice-records.ensures c.in_ok-plan.ensures in
    let draft =
    subst (λ (items : List Record). IsWholeDraft j.blksize j.pages c.in_ok-plan.plan items c.in_ok-draft.draft) c.as_slice-records.ensures
    (subst (λ (plan : List ℕ). IsWholeDraft j.blksize j.pages plan c.as_slice-records.result.now c.in_ok-draft.draft) c.as_slice-2.ensures c.in_ok-draft.ensures) in
    is_whole j c.requires.identity c.args.content c.requires.content c.requires.charge c.args.pool.now c.requires.wider c.in_ok-plan.plan planned c.in_ok-draft.draft draft _ refl
    (c.done.ensures ∙ ap (λ (t : Changing). t.slots) c.into_parts-parts.ensures.table)
    (c.whole_root-root.ensures ∙ ap (λ (d : List ℕ). root_for j c.args.content d) (c.from_vec-directory.ensures ∙ c.into_parts-parts.ensures.directory))
    (c.in_ok-used.ensures ∙ ap (λ (plan : List ℕ). used_by j.blksize j.pages plan) c.as_slice.ensures)
    c.into_parts-parts.ensures.writes
