use Rattle.abstract_monitor.specs.Commands.{started}
use Rattle.laws_of_states.specs.EndsLaws.{durable_same}
use Rattle.call_ends.proofs.lawful.scripts_of_suited_tables_run_lawfully.Goals as goal

pub returns : goal.returns
returns c = λ app applies t sorted suits script names. record {
  lasting = durable_same app.generation t suits;
  steps = c.runs_are_lawful.ensures.runs app t script applies names sorted suits;
  access = c.runs_keep_access.ensures app t script applies names sorted suits;
  ruleless = c.locks_make_the_rule.ensures app.generation;
  keyless_runs = c.locks_make_the_trace.ensures app;
  jobs = λ first more rest whole. c.jobs_are_done_once.ensures app (started app t) script applies names (c.facts_hold_along_every_script.ensures.starts app t applies sorted suits) first more rest whole;
  resumes = λ done left whole. c.cuts_resume.ensures app t script applies names sorted suits done left whole;
  serial = λ done left whole. c.cuts_are_serial.ensures app t script applies names sorted suits done left whole;
  runs = λ many are. c.runs_keep_jobs.ensures app t many applies sorted suits are;
}
