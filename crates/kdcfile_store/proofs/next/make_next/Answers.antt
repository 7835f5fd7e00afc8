use Rattle.std.proofs.Common.{◌∙◌, List, Option, ap, subst}
use Rattle.kd_records.specs.declared.content.Content.{Content}
use Rattle.kd_records.specs.Contents.{patched}
use Rattle.kd_records.specs.InPlace.{Patching}
use Rattle.kdcfile_layout.specs.declared.chain.Chain.{Chain}
use Rattle.kdcfile_layout.specs.Opened.{layout_in}
use Rattle.page_drafts.specs.Prepared.{Prepared}
use Rattle.kdcfile_store.proofs.Planning.{plan_few, plan_enough, can_draft, few_planned}
use Rattle.kdcfile_store.proofs.Making.{few_records, is_next}
use Rattle.kdcfile_store.proofs.next.make_next.Goals as goal

pub next_plan-requires-clause-few : goal.next_plan-requires-clause-few
next_plan-requires-clause-few c = plan_few c.args.image.now _ _ _ _ c.requires.stored c.requires.patch c.requires.charge_before c.requires.charge_after

pub next_plan-requires-clause-enough : goal.next_plan-requires-clause-enough
next_plan-requires-clause-enough c = plan_enough c.args.image.now _ _ _ _ c.requires.stored c.requires.patch c.requires.charge_before c.requires.charge_after

pub next_draft-requires : goal.next_draft-requires
next_draft-requires c = rw c.into_parts-table.ensures (can_draft c.args.image.now _ _ _ _ c.requires.stored c.requires.patch c.requires.charge_before c.requires.charge_after _ c.in-Ok.ensures)

pub next_of-requires-clause-few : goal.next_of-requires-clause-few
next_of-requires-clause-few c = few_records c.args.image.now _ _ _ _ c.requires.stored c.requires.patch c.requires.charge_before c.requires.charge_after c.in-Ok-patch_in_place.content (ap (λ (p : Patching). p.content) c.in-Ok-patch_in_place.ensures.ok ∙ ap (λ (f : List (Option Chain) × Content). patched f.1 c.args.patch.now) c.into_parts-table.ensures)

pub returns-in-Ok-next_draft-clause-ok : goal.returns-in-Ok-next_draft-clause-ok
returns-in-Ok-next_draft-clause-ok c =
    is_next c.args.image.now _ _ _ _ c.requires.stored c.requires.patch c.requires.charge_before c.requires.charge_after c.in-Ok-patch_in_place.content (ap (λ (p : Patching). p.content) c.in-Ok-patch_in_place.ensures.ok ∙ ap (λ (f : List (Option Chain) × Content). patched f.1 c.args.patch.now) c.into_parts-table.ensures) _ _ c.in-Ok.ensures
    (few_planned c.args.image.now _ _ _ _ c.requires.stored c.requires.patch c.requires.charge_before c.requires.charge_after _ c.in-Ok.ensures) c.args.long _ (subst (λ (f : List (Option Chain) × Content). Prepared c.args.image.now.blksize c.args.long c.in-Ok.plan.pages c.args.patch.now.items (layout_in c.args.image.now.root f.0) c.in-Ok-next_draft.draft) c.into_parts-table.ensures c.in-Ok-next_draft.ensures.ok) _ c.next_of.ensures
