use Rattle.std.proofs.Common.{Err, refl, sym, subst}
use Rattle.call_parts.specs.Asking.{errand_for}
use Rattle.utm_cli.specs.PartsTwo.{DoesTwo}
use Rattle.call_parts.specs.declared.errand.Task.{Task}
use Rattle.call_parts.specs.declared.errand.Task.TheVariants as task
use Rattle.refusals.specs.declared.error.FileRefusal.TheVariants.{TwoCopies}
use Rattle.call_parts.specs.declared.error.CallError.TheVariants.{Refused}
use Rattle.call_parts.specs.declared.words.Word.TheVariants.{Update}
use Rattle.call_ends.specs.SaidLaws.{none_failed}
use Rattle.utm_cli.proofs.twin.Does.{not_looked_at, refused_does}
use Rattle.utm_cli.proofs.twin.double.over_copies.Goals as goal

pub returns-in-Store : goal.returns-in-Store
returns-in-Store g c = subst (λ (t : Task). DoesTwo (errand_for c.args.work t) c.args.base.now c.keep_copies.result (g.T.Twin.both c.args.twin.now) (g.T.Twin.both c.keep_copies.new.twin) (g.T.Twin.leaves c.args.twin.now) (g.T.Twin.leaves c.keep_copies.new.twin)) (sym c.in-Store.is) (c.keep_copies.ensures)

pub returns-in-Look : goal.returns-in-Look
returns-in-Look g c = subst (λ (t : Task). DoesTwo (errand_for c.args.work t) c.args.base.now c.look_copies.result (g.T.Twin.both c.args.twin.now) (g.T.Twin.both c.look_copies.new.twin) (g.T.Twin.leaves c.args.twin.now) (g.T.Twin.leaves c.look_copies.new.twin)) (sym c.in-Look.is) (c.look_copies.ensures)

pub returns-in-Audit : goal.returns-in-Audit
returns-in-Audit g c = subst (λ (t : Task). DoesTwo (errand_for c.args.work t) c.args.base.now c.audit_copies.result (g.T.Twin.both c.args.twin.now) (g.T.Twin.both c.audit_copies.new.twin) (g.T.Twin.leaves c.args.twin.now) (g.T.Twin.leaves c.audit_copies.new.twin)) (sym c.in-Audit.is) (c.audit_copies.ensures c.args.base.now)

pub returns-in-Update : goal.returns-in-Update
returns-in-Update g c =
    subst (λ (t : Task). DoesTwo (errand_for c.args.work t) c.args.base.now (Err (Refused TwoCopies)) (g.T.Twin.both c.args.twin.now) (g.T.Twin.both c.args.twin.now) (g.T.Twin.leaves c.args.twin.now) (g.T.Twin.leaves c.args.twin.now)) (sym c.in-Update.is)
    (refused_does (errand_for c.args.work task.Update) c.args.base.now _ _ _ _ (not_looked_at g.T.Twin.both g.T.Twin.leaves g.met.T.Twin.sent_now g.met.T.Twin.earlier Update c.args.base.now c.args.twin.now) TwoCopies refl (none_failed (g.T.Twin.both c.args.twin.now)))
