use Rattle.std.proofs.Common.{sym, subst}
use Rattle.std.specs.List.{list_all}
use Rattle.std.specs.Prelude.{IsTrue, refl}
use Rattle.kdcs_types.specs.declared.act.Changes.{Changes}
use Rattle.kdcs_types.specs.Tables.{AreChanges}
use Rattle.abstract_monitor.specs.Endings.{durable}
use Rattle.open_transaction.specs.Transactions.{transaction_of}
use Rattle.table_fit.specs.Pages.{leaves_short}
use Rattle.sync_points.specs.MadeLaws.{points_are}
use Rattle.sync_points.specs.ShortLaws.{points_short}
use Rattle.sync_points.proofs.Refusing.{fills_pool, made, passes}
use Rattle.sync_points.proofs.points.point_with.Goals as goal

pub point_changes-requires-clause-clock : goal.point_changes-requires-clause-clock
unfolding durable
point_changes-requires-clause-clock c = c.requires.stands.sound.suits.clock

pub is_pool_full-requires : goal.is_pool_full-requires
is_pool_full-requires c =
    let g = c.args.generation.now in
    let t = c.args.tables.now in
    let w = c.args.transaction.now in
    let limits = c.max-limits.ensures.sound.limits in
    let is_made = sym (made g t w c.args.outcome c.requires.stands c.in_ok-changes.ensures c.in_ok-row.ensures) in
    record {
      charge = c.requires.charge;
      fit = c.requires.stands.sound.suits.charge;
      changes = subst (λ (cs : Changes). AreChanges cs.items) is_made (points_are g t w.id (transaction_of w) c.args.outcome c.requires.stands);
      short = subst (λ (cs : Changes). IsTrue (list_all (leaves_short g) cs.items)) is_made (points_short g limits t w.id (transaction_of w) c.requires.stands c.args.outcome);
    }

pub returns-then-is_pool_full : goal.returns-then-is_pool_full
returns-then-is_pool_full c =
    fills_pool _ _ c.args.transaction.now c.args.outcome c.requires.stands c.args.generation.now.limits c.args.areas refl refl c.requires.areas c.requires.few_gssbs refl c.requires.few_jobs _ c.is_pool_full.ensures
    (made _ _ c.args.transaction.now c.args.outcome c.requires.stands c.in_ok-changes.ensures c.in_ok-row.ensures) c.if-is_pool_full.true

pub returns : goal.returns
returns c =
    passes _ _ c.args.transaction.now c.args.outcome c.requires.stands c.args.generation.now.limits c.args.areas refl refl c.requires.areas c.requires.few_gssbs refl c.requires.few_jobs _ c.is_pool_full.ensures
    (made _ _ c.args.transaction.now c.args.outcome c.requires.stands c.in_ok-changes.ensures c.in_ok-row.ensures) c.if-is_pool_full.false _ c.in_ok-row.ensures
