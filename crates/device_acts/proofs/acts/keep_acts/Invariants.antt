use Rattle.std.proofs.Common.{◌≡◌, ◌≤◌, ◌+◌, take, drop}
use Rattle.std.specs.Prelude.{IsTrue}
use Rattle.device_acts.specs.Acting.{acts_most, content_after, AreCommittable}
use Rattle.device_acts.specs.ActingLaws.{Running}
use Rattle.device_acts.proofs.acts.keep_acts.Given as goal

abbrev pub invariant-loop-act : goal.invariant-loop-act
invariant-loop-act g l = record {
  ready : g.K.Keeper.ready l.keeper;
  identity : g.K.Keeper.identity l.keeper ≡ g.K.Keeper.identity l.fn.keeper;
  place : g.K.Keeper.place l.keeper ≡ g.K.Keeper.place l.fn.keeper;
  content : g.K.Keeper.kept l.keeper ≡ content_after (g.K.Keeper.kept l.fn.keeper) (take l.act-index l.acts);
  can : AreCommittable (g.K.Keeper.identity l.fn.keeper) (g.K.Keeper.kept l.keeper) (drop l.act-index l.acts);
  put : IsTrue (g.K.Keeper.state l.fn.keeper).told → (g.K.Keeper.state l.keeper).put ≤ (g.K.Keeper.state l.fn.keeper).put + acts_most g.K.Keeper.most_written (g.K.Keeper.identity l.fn.keeper) (g.K.Keeper.kept l.fn.keeper) (take l.act-index l.acts);
  run : Running g.K.Keeper.fine content_after (g.K.Keeper.stands (g.K.Keeper.identity l.fn.keeper)) (g.K.Keeper.file l.keeper) (g.K.Keeper.kept l.fn.keeper) l.acts (take l.act-index l.acts) (g.K.Keeper.state l.fn.keeper) (g.K.Keeper.state l.keeper) (g.K.Keeper.leaves l.fn.keeper) (g.K.Keeper.leaves l.keeper);
}
