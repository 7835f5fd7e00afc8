use Rattle.std.proofs.Common.{ℕ, List, subst}
use Rattle.lab_turns.specs.Consoles.{printed}
use Rattle.lab_scripts.proofs.parting.tell_parting.Goals as goal

pub returns-clause-told : goal.returns-clause-told
returns-clause-told g c = (
  c.in_ok-setting.told,
  c.in_ok-setting.ensures.told,
  subst (λ (l : List ℕ). g.C.Console.passes c.args.console.now (printed l) c.put.new.self) c.as_slice.ensures c.in_ok-put.ensures,
)
