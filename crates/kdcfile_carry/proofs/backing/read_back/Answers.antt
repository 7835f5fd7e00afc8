use Rattle.std.proofs.Common.{sym, ◌∙◌, true≢false}
use Rattle.kdcfile_carry.proofs.Backed.{same_kept, still_only, there_is_image}
use Rattle.kdcfile_carry.proofs.backing.read_back.Goals as goal

pub returns-then-are_same-clause-at_rest : goal.returns-then-are_same-clause-at_rest
returns-then-are_same-clause-at_rest g c = λ told. still_only (g.D.Device.state c.args.device.now) (g.D.Device.state c.load.new.device) (g.D.Device.leaves c.args.device.now) (g.D.Device.leaves c.load.new.device) (c.requires.kept told).at_rest (c.load.ensures.rests told)

pub returns-then-are_same-clause-fine : goal.returns-then-are_same-clause-fine
returns-then-are_same-clause-fine g c = λ none. c.in-Ok.ensures.fine (λ is. absurd cc)

pub returns-in-Ok-clause-differs : goal.returns-in-Ok-clause-differs
returns-in-Ok-clause-differs g c = λ is told.
    true≢false (sym (c.are_same.ensures.1 (same_kept c.args.written c.in-Ok.read (g.D.Device.state c.args.device.now).holds (c.requires.kept told).bytes (c.in-Ok.ensures.stands told))) ∙ c.if-are_same.false)

pub returns-in-Ok-clause-at_rest : goal.returns-in-Ok-clause-at_rest
returns-in-Ok-clause-at_rest g c = λ told. still_only (g.D.Device.state c.args.device.now) (g.D.Device.state c.load.new.device) (g.D.Device.leaves c.args.device.now) (g.D.Device.leaves c.load.new.device) (c.requires.kept told).at_rest (c.load.ensures.rests told)

pub returns-in-Ok-clause-fine : goal.returns-in-Ok-clause-fine
returns-in-Ok-clause-fine g c = λ none. c.in-Ok.ensures.fine (λ is. absurd cc)

pub returns-in-Err-NotKdcfile-clause-differs : goal.returns-in-Err-NotKdcfile-clause-differs
returns-in-Err-NotKdcfile-clause-differs g c = λ is told.
    there_is_image c.args.written (g.D.Device.state c.args.device.now).holds (c.requires.kept told).bytes (c.in-Err-NotKdcfile.ensures.none (let e = c.in-Err-NotKdcfile.field-0-is in cc) told)
