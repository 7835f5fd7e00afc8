use Rattle.std.proofs.Common.{ap}
use Rattle.kdcs_types.specs.declared.key.Key.TheVariants as key
use Rattle.kdcs_types.specs.Tables.{gssb_key, tls_key, uls_key, service_key, job_key, shown_key}
use Rattle.kdcs_types.specs.RowsKept.{tables_in}
use Rattle.kdcs_types.proofs.AtPlaces.{removed_in}
use Rattle.kdcs_types.proofs.row_lists.RowLists.remove.Goals as goal

pub returns-in-Gssb-clause-rows : goal.returns-in-Gssb-clause-rows
returns-in-Gssb-clause-rows c =
    rw c.in-Gssb.is (ap (λ l. record (tables_in 0 0 c.args.self.now) { gssbs = l })
    (removed_in gssb_key (key.Gssb c.in-Gssb.name) _ _ c.requires.sorted.gssbs c.deref.ensures.value _ c.gssb_place-place.ensures _ c.remove.ensures.items))

pub returns-in-Tls-clause-rows : goal.returns-in-Tls-clause-rows
returns-in-Tls-clause-rows c =
    rw c.in-Tls.is (ap (λ l. record (tables_in 0 0 c.args.self.now) { tlss = l })
    (removed_in tls_key (key.Tls c.in-Tls.block c.in-Tls.lterm) _ _ c.requires.sorted.tlss c.deref-in-Tls.ensures.value _ c.tls_place-place.ensures _ c.remove-in-Tls.ensures.items))

pub returns-in-Uls-clause-rows : goal.returns-in-Uls-clause-rows
returns-in-Uls-clause-rows c =
    rw c.in-Uls.is (ap (λ l. record (tables_in 0 0 c.args.self.now) { ulss = l })
    (removed_in uls_key (key.Uls c.in-Uls.block c.in-Uls.user) _ _ c.requires.sorted.ulss c.deref-in-Uls.ensures.value _ c.uls_place-place.ensures _ c.remove-in-Uls.ensures.items))

pub returns-in-Service-clause-rows : goal.returns-in-Service-clause-rows
returns-in-Service-clause-rows c =
    rw c.in-Service.is (ap (λ l. record (tables_in 0 0 c.args.self.now) { services = l })
    (removed_in service_key (key.Service c.in-Service.id) _ _ c.requires.sorted.services c.deref-in-Service.ensures.value _ c.service_place-place.ensures _ c.remove-in-Service.ensures.items))

pub returns-in-Job-clause-rows : goal.returns-in-Job-clause-rows
returns-in-Job-clause-rows c =
    rw c.in-Job.is (ap (λ l. record (tables_in 0 0 c.args.self.now) { jobs = l })
    (removed_in job_key (key.Job c.in-Job.number) _ _ c.requires.sorted.jobs c.deref-in-Job.ensures.value _ c.job_place-place.ensures _ c.remove-in-Job.ensures.items))

pub returns-in-Shown-clause-rows : goal.returns-in-Shown-clause-rows
returns-in-Shown-clause-rows c =
    rw c.in-Shown.is (ap (λ l. record (tables_in 0 0 c.args.self.now) { shown = l })
    (removed_in shown_key (key.Shown c.in-Shown.lterm) _ _ c.requires.sorted.shown c.deref-in-Shown.ensures.value _ c.shown_place-place.ensures _ c.remove-in-Shown.ensures.items))
