use Rattle.lab_cli.proofs.Outcomes.{IsUpTo}
use Rattle.lab_cli.proofs.printing.print_outcomes.Given as goal

abbrev pub invariant-loop-outcome : goal.invariant-loop-outcome
invariant-loop-outcome g l = IsUpTo g.C.Console.passes l.fn.setting l.tables l.commands l.one.items l.explored l.others l.fn.console l.outcome-index l.number l.setting l.console
