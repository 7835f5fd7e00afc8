use Rattle.call_parts.proofs.MadeTexts.{round_put}
use Rattle.call_parts.proofs.made_input.input.put_round.Goals as goal

pub returns : goal.returns
returns c = round_put c.args.all c.args.i c.args.out.now c.put_input.new.out c.put_where.new.out c.put_where-2.new.out c.in_ok-put_input.ensures c.is_run_due.result c.is_run_due.ensures c.in_ok-put_where.ensures c.put_where-2.result c.put_where-2.ensures
