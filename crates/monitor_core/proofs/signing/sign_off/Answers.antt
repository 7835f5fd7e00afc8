use Rattle.std.proofs.Common.{◌∙◌}
use Rattle.std.proofs.lemmas.Result.{on_ok_weaker}
use Rattle.kdcs_types.specs.declared.key.ServiceId.TheVariants.{Dialogue}
use Rattle.service_ends.specs.Standing.{state_of}
use Rattle.service_ends.specs.Whole.{app_of}
use Rattle.monitor_core.specs.StatedLaws.{sound_tables}
use Rattle.monitor_core.proofs.Signs.{over_fits, rests, signs_off, signs_off_over, still_fits}
use Rattle.monitor_core.proofs.signing.sign_off.Goals as goal

pub close-requires-clause-unplaced : goal.close-requires-clause-unplaced
close-requires-clause-unplaced c = rests (state_of c.args.parts.now) (state_of c.withdraw.new.self) (Dialogue c.args.user.now) c.withdraw.ensures.state

pub set_row-requires-clause-before : goal.set_row-requires-clause-before
set_row-requires-clause-before c =
    still_fits (app_of c.args.parts.now) c.args.pterm.now c.args.user.now (state_of c.args.parts.now) (state_of c.withdraw.new.self) (state_of c.close.new.self) (state_of c.sign_off.new.self)
    c.withdraw.ensures.state c.close.ensures.state c.sign_off.ensures.state (sound_tables c.args.parts.now c.requires.whole.facts) _
    (c.sign_off.ensures.same.generation ∙ c.close.ensures.same.generation ∙ c.withdraw.ensures.same.generation)

pub set_row-requires-clause-after : goal.set_row-requires-clause-after
set_row-requires-clause-after c =
    over_fits (app_of c.args.parts.now) c.args.pterm.now c.args.user.now (state_of c.args.parts.now) (state_of c.withdraw.new.self) (state_of c.close.new.self) (state_of c.sign_off.new.self)
    c.withdraw.ensures.state c.close.ensures.state c.sign_off.ensures.state (sound_tables c.args.parts.now c.requires.whole.facts) _
    (c.sign_off.ensures.same.generation ∙ c.close.ensures.same.generation ∙ c.withdraw.ensures.same.generation)

pub returns-then-keeps-clause-state : goal.returns-then-keeps-clause-state
returns-then-keeps-clause-state c =
    signs_off (app_of c.args.parts.now) c.args.pterm.now c.args.user.now (state_of c.args.parts.now) (state_of c.withdraw.new.self) (state_of c.close.new.self) (state_of c.sign_off.new.self)
    c.withdraw.ensures.state c.close.ensures.state c.sign_off.ensures.state c.restarts-keeps.result c.restarts-keeps.ensures c.if-keeps.true

pub returns-clause-state : goal.returns-clause-state
returns-clause-state c =
    on_ok_weaker c.set_row.result
    (signs_off_over (app_of c.args.parts.now) c.args.pterm.now c.args.user.now (state_of c.args.parts.now) (state_of c.withdraw.new.self) (state_of c.close.new.self) (state_of c.sign_off.new.self)
    c.withdraw.ensures.state c.close.ensures.state c.sign_off.ensures.state c.restarts-keeps.result c.restarts-keeps.ensures c.if-keeps.false _)
    c.set_row.ensures.state
