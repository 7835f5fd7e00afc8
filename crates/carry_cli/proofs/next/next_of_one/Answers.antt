use Rattle.std.proofs.Common.{subst}
use Rattle.carry_cli.specs.Seeing.{IsSeen}
use Rattle.carry_cli.specs.declared.seeing.Seen.{Seen}
use Rattle.carry_cli.proofs.Going.{foreign_refused}
use Rattle.carry_cli.proofs.next.next_of_one.Goals as goal

pub returns-in-Foreign : goal.returns-in-Foreign
returns-in-Foreign c = λ bytes h. foreign_refused c.args.work.now.application.generation c.args.work.now.fingerprint bytes (subst (λ (s : Seen). IsSeen s bytes) c.in-Foreign.is h)
