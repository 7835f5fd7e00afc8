use Rattle.std.proofs.Common.{sym, subst}
use Rattle.call_parts.specs.Asking.{errand_for}
use Rattle.utm_cli.specs.Parts.{DoesOne}
use Rattle.call_parts.specs.declared.errand.Task.{Task}
use Rattle.utm_cli.proofs.Running.{audit_does, look_does, store_does, update_does}
use Rattle.utm_cli.proofs.run.run_over.Goals as goal

pub returns-in-Store : goal.returns-in-Store
returns-in-Store g c =
    subst (λ (t : Task). DoesOne (errand_for c.args.work t) c.args.name.now c.run_stored.result (g.D.Device.state c.args.device.now) (g.D.Device.state c.run_stored.new.device) (g.D.Device.leaves c.args.device.now) (g.D.Device.leaves c.run_stored.new.device)) (sym c.in-Store.is)
    (store_does c.args.work c.in-Store.storing c.args.name.now c.run_stored.result (g.D.Device.state c.args.device.now) (g.D.Device.state c.run_stored.new.device) (g.D.Device.leaves c.args.device.now) (g.D.Device.leaves c.run_stored.new.device) c.run_stored.ensures.done c.run_stored.ensures.refused c.run_stored.ensures.fine c.run_stored.ensures.failed c.run_stored.ensures.stopped c.run_stored.ensures.halted c.run_stored.ensures.still c.run_stored.ensures.any_moment c.run_stored.ensures.written c.run_stored.ensures.left c.run_stored.ensures.names c.run_stored.ensures.named c.run_stored.ensures.frame)

pub returns-in-Look : goal.returns-in-Look
returns-in-Look g c =
    subst (λ (t : Task). DoesOne (errand_for c.args.work t) c.args.name.now c.look_over.result (g.D.Device.state c.args.device.now) (g.D.Device.state c.look_over.new.device) (g.D.Device.leaves c.args.device.now) (g.D.Device.leaves c.look_over.new.device)) (sym c.in-Look.is)
    (look_does c.args.work c.in-Look.looking c.args.name.now c.look_over.result (g.D.Device.state c.args.device.now) (g.D.Device.state c.look_over.new.device) (g.D.Device.leaves c.args.device.now) (g.D.Device.leaves c.look_over.new.device) c.look_over.ensures.done c.look_over.ensures.refused c.look_over.ensures.fine c.look_over.ensures.failed c.look_over.ensures.still c.look_over.ensures.front c.look_over.ensures.unwritten c.look_over.ensures.names c.look_over.ensures.named c.look_over.ensures.frame)

pub returns-in-Update : goal.returns-in-Update
returns-in-Update g c =
    subst (λ (t : Task). DoesOne (errand_for c.args.work t) c.args.name.now c.update_over.result (g.D.Device.state c.args.device.now) (g.D.Device.state c.update_over.new.device) (g.D.Device.leaves c.args.device.now) (g.D.Device.leaves c.update_over.new.device)) (sym c.in-Update.is)
    (update_does c.args.work c.args.name.now c.update_over.result (g.D.Device.state c.args.device.now) (g.D.Device.state c.update_over.new.device) (g.D.Device.leaves c.args.device.now) (g.D.Device.leaves c.update_over.new.device) c.update_over.ensures.done c.update_over.ensures.refused c.update_over.ensures.fine c.update_over.ensures.failed c.update_over.ensures.still c.update_over.ensures.any_moment c.update_over.ensures.written c.update_over.ensures.left c.update_over.ensures.names c.update_over.ensures.named c.update_over.ensures.frame)

pub returns-in-Audit : goal.returns-in-Audit
returns-in-Audit g c =
    subst (λ (t : Task). DoesOne (errand_for c.args.work t) c.args.name.now c.audit.result (g.D.Device.state c.args.device.now) (g.D.Device.state c.audit.new.device) (g.D.Device.leaves c.args.device.now) (g.D.Device.leaves c.audit.new.device)) (sym c.in-Audit.is)
    (audit_does c.args.work c.in-Audit.trail c.args.name.now c.audit.result (g.D.Device.state c.args.device.now) (g.D.Device.state c.audit.new.device) (g.D.Device.leaves c.args.device.now) (g.D.Device.leaves c.audit.new.device) c.audit.ensures.done c.audit.ensures.refused c.audit.ensures.fine c.audit.ensures.failed c.audit.ensures.still c.audit.ensures.front c.audit.ensures.frame c.audit.ensures.names)
