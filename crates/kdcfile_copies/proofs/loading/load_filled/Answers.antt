use Rattle.std.proofs.Common.{Err, ap}
use Rattle.kdcfile_load.specs.declared.fault.LoadError.{LoadError}
use Rattle.kdcfile_copies.proofs.Told.{answered, kept_answer}
use Rattle.kdcfile_copies.specs.declared.answer.Found.TheVariants.{NoCopy}
use Rattle.kdcfile_copies.specs.CopiesLaws.{no_image_is_no_copy}
use Rattle.kdcfile_copies.proofs.loading.load_filled.Goals as goal

pub returns-in-Ok-clause-kept : goal.returns-in-Ok-clause-kept
returns-in-Ok-clause-kept g c = λ told.
    let a = g.D.Device.state c.args.device.now in
    let b = g.D.Device.state c.load.new.device in
    kept_answer a b (g.D.Device.leaves c.args.device.now) (g.D.Device.leaves c.load.new.device) c.found_in.result (c.requires.at_rest told) (c.load.ensures.rests told)
    (answered c.in-Ok.store c.found_in.result a.holds c.found_in.ensures (c.in-Ok.ensures.stands told) (c.requires.filled told))

pub returns-in-Err-NotKdcfile-clause-kept : goal.returns-in-Err-NotKdcfile-clause-kept
returns-in-Err-NotKdcfile-clause-kept g c = λ told.
    let a = g.D.Device.state c.args.device.now in
    let b = g.D.Device.state c.load.new.device in
    kept_answer a b (g.D.Device.leaves c.args.device.now) (g.D.Device.leaves c.load.new.device) NoCopy (c.requires.at_rest told) (c.load.ensures.rests told)
    (c.requires.filled told, no_image_is_no_copy a.holds (c.in-Err-NotKdcfile.ensures.none (ap (λ (e : LoadError). Err e) c.in-Err-NotKdcfile.field-0-is) told))
