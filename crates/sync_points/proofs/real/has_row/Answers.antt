use Rattle.std.proofs.Common.{sym, ap, ◌∙◌, Some}
use Rattle.std.specs.Option.{option_eq}
use Rattle.kdcs_types.specs.Same.{job_value_eq, service_eq}
use Rattle.sync_points.specs.RowsLaws.{same_gssb, same_tls, same_uls, same_service, same_job, same_shown}
use Rattle.sync_points.proofs.real.has_row.Goals as goal

pub returns-in-Gssb : goal.returns-in-Gssb
returns-in-Gssb c = rw c.in-Gssb.is (c.has_content.ensures ∙ sym (same_gssb c.args.tables.now c.in-Gssb.name c.in-Gssb.content))

pub returns-in-Tls : goal.returns-in-Tls
returns-in-Tls c = rw c.in-Tls.is (c.has_content-in-Tls.ensures ∙ sym (same_tls c.args.tables.now c.in-Tls.block c.in-Tls.lterm c.in-Tls.content))

pub returns-in-Uls : goal.returns-in-Uls
returns-in-Uls c = rw c.in-Uls.is (c.has_content-in-Uls.ensures ∙ sym (same_uls c.args.tables.now c.in-Uls.block c.in-Uls.user c.in-Uls.content))

pub returns-in-Some : goal.returns-in-Some
returns-in-Some c =
    rw c.in-Service.is (c.same_service.ensures ∙ ap (option_eq service_eq (Some c.in-Service.service)) c.in-Some.ensures ∙ sym (same_service c.args.tables.now c.in-Service.id c.in-Service.service))

pub returns-in-Some-job : goal.returns-in-Some-job
returns-in-Some-job c =
    rw c.in-Job.is (c.same_value.ensures ∙ ap (option_eq job_value_eq (Some c.in-Job.value)) c.in-Some-job.ensures ∙ sym (same_job c.args.tables.now c.in-Job.number c.in-Job.value))

pub returns-in-Some-shown_at : goal.returns-in-Some-shown_at
returns-in-Some-shown_at c =
    rw c.in-Shown.is (c.same_value-in-Some-shown_at.ensures ∙ ap (option_eq job_value_eq (Some c.in-Shown.value)) c.in-Some-shown_at.ensures ∙ sym (same_shown c.args.tables.now c.in-Shown.lterm c.in-Shown.value))
