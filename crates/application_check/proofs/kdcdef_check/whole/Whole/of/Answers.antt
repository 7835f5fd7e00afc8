use Rattle.std.proofs.Common.{◌∙◌, arith}
use Rattle.application_check.proofs.kdcdef_check.Counting.{user_count, lterm_count}
use Rattle.application_check.proofs.kdcdef_check.whole.Whole.of.Goals as goal

pub returns : goal.returns
returns c =
    let ss = c.args.statements.now in
    record {
      max = c.max_given.ensures;
      users = c.users.ensures ∙ c.requires.counts 3 (omega arith) ∙ user_count ss;
      restarts = c.restart_count.ensures.count;
      lterms = c.lterms.ensures ∙ c.requires.counts 5 (omega arith) ∙ lterm_count ss;
      double = c.double_said.ensures;
    }
