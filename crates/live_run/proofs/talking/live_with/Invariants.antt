use Rattle.std.proofs.Common.{◌≡◌}
use Rattle.live_run.proofs.SoFar.{SoFar}
use Rattle.live_run.proofs.talking.live_with.Given as goal

abbrev pub invariant-loop-number : goal.invariant-loop-number
invariant-loop-number g l = record {
  so_far : SoFar g.K.Keeper.stands g.K.Reopens.commit_most g.K.Keeper.fine l.fn.fingerprint l.fn.core (g.I.Typing.typing l.initial.typing) (g.I.Typing.typing l.typing) l.core l.auto' l.number (g.K.Keeper.identity l.keeper) (g.K.Keeper.kept l.keeper) (g.K.Keeper.file l.keeper) (g.K.Keeper.state l.initial.keeper) (g.K.Keeper.state l.keeper) (g.K.Keeper.leaves l.initial.keeper) (g.K.Keeper.leaves l.keeper);
  ready : g.K.Keeper.ready l.keeper;
  heard : (g.I.Typing.typing l.typing).faults ≡ (g.I.Typing.typing l.initial.typing).faults;
  place : g.K.Keeper.place l.keeper ≡ g.K.Keeper.place l.initial.keeper;
}
