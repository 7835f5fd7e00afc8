-- A run from tables that a KDCFILE may keep.
use Rattle.std.proofs.Common.{◌≡◌, ℕ, List, length, refl, sym, ap, subst, ◌∙◌}
use Rattle.std.specs.Prelude.{◌≤◌}
use Rattle.kd_base.specs.Limits.{longest_text}
use Rattle.kdcs_types.specs.Tables.{TableRows}
use Rattle.abstract_monitor.specs.Commands.{started}
use Rattle.abstract_monitor.specs.Endings.{durable}
use Rattle.abstract_monitor.specs.State.{Application, State}
use Rattle.laws_of_states.specs.Suits.{Suits}
use Rattle.laws_of_states.specs.TablesStayLaws.{started_tables}
use Rattle.laws_of_states.specs.EndsLaws.{durable_same}
use Rattle.monitor_core.specs.CoreSteps.{durable_of}
use Rattle.monitor_core.specs.CoreValue.{CoreValue}
use Rattle.audit_trail.specs.Places.{trail_in}
use Rattle.audit_trail.specs.RoundTrip.{TrailsComeBack}
use Rattle.trail_run.specs.OwnTrails.{OwnEntriesHold, OwnTrailsAreWritable, entries_of}
use Rattle.trail_run.specs.OwnAudits.{OwnTrailsHold}

-- a core that started from tables that suit has them as its durable ones
pub starts_durable : (app : Application) (t : TableRows) (c : CoreValue) → Suits app.generation t → c.application ≡ app → c.state ≡ started c.application t → t ≡ durable_of c
starts_durable app t c suits is at =
    sym
    (ap (λ (s : State). durable c.application.generation s.tables) at
    ∙ ap (durable c.application.generation) (started_tables c.application t)
    ∙ durable_same c.application.generation t (subst (λ (a : Application). Suits a.generation t) (sym is) suits))

pub own_trails : OwnEntriesHold → OwnTrailsAreWritable → TrailsComeBack → OwnTrailsHold
own_trails hold writable back app fingerprint t script text own = (
  ap trail_in own.written
      ∙ back fingerprint t (entries_of app t script)
      (writable app fingerprint t script own.run own.fingerprint_length own.bytes.fingerprint_bytes own.bytes.rows own.bytes.entries own.short_runs)
      (subst (λ (l : List ℕ). length l ≤ longest_text) own.written own.short),
  (hold app t script own.run, refl),
)
