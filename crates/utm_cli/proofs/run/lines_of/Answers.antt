use Rattle.std.proofs.Common.{◌≡◌, sym, subst}
use Rattle.std.specs.Prelude.{IfOk}
use Rattle.std.proofs.lemmas.Result.{IfOk-weaker}
use Rattle.call_parts.specs.Asking.{CanRun, looking_errand}
use Rattle.utm_cli.specs.Parts.{looked_by}
use Rattle.call_parts.specs.declared.errand.Looking.{Looking}
use Rattle.call_parts.specs.declared.errand.Looking.TheVariants.{Trail}
use Rattle.utm_cli.proofs.Trailed.{text_is}
use Rattle.utm_cli.proofs.Turns.{turns_as}
use Rattle.utm_cli.proofs.run.lines_of.Goals as goal

pub returns-in-Trail-clause-lines : goal.returns-in-Trail-clause-lines
returns-in-Trail-clause-lines c =
    subst (λ (l : Looking). IfOk c.trail_text.result (λ lines. lines ≡ looked_by l (looking_errand c.args.work l) c.args.tables)) (sym c.in-Trail.is)
    (IfOk-weaker c.trail_text.result _ _ (λ lines is. text_is (looking_errand c.args.work (Trail c.in-Trail.commands)) c.args.tables c.as_slice.result.now c.as_slice.ensures lines is) c.trail_text.ensures.text)

pub trail_text-requires-clause-steps : goal.trail_text-requires-clause-steps
trail_text-requires-clause-steps c = turns_as (looking_errand c.args.work (Trail c.in-Trail.commands)) c.as_slice.result.now c.as_slice.ensures (subst (λ (l : Looking). CanRun (looking_errand c.args.work l)) c.in-Trail.is c.requires.can)
