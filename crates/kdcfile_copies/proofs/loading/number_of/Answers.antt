use Rattle.std.proofs.Common.{arith, rules}
use Rattle.kdcfile_layout.specs.Fields.{AreBytes}
use Rattle.kdcfile_copies.specs.CopiesLaws.{eight_bytes}
use Rattle.kdcfile_copies.proofs.loading.number_of.Goals as goal

pub returns-clause-some : goal.returns-clause-some
returns-clause-some c =
    let are : AreBytes c.args.bytes.now = search rules in
    eight_bytes c.args.bytes.now c.u64_in.result are (omega arith) c.u64_in.ensures
