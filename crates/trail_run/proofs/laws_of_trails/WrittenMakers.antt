-- What made the commit of a step can be written.
use Rattle.std.specs.Prelude.{◌≡◌, refl, ℕ, ◌+◌, Bool, true, false, nat_le, IfSome, Option, Some, None}
use Rattle.std.proofs.Common.{arith}
use Rattle.std.proofs.lemmas.Bool.{leb-true}
use Rattle.std.specs.FinMap.{find}
use Rattle.kd_base.specs.Limits.{last_clock}
use Rattle.kd_base.specs.Text.{IsName}
use Rattle.application_types.specs.Soundness.{AreLimits, AreNamed}
use Rattle.kdcs_types.specs.declared.key.ServiceId.TheVariants.{Dialogue}
use Rattle.kdcs_types.specs.declared.service.Job.{Job}
use Rattle.kdcs_types.specs.declared.service.JobValue.{JobValue}
use Rattle.kdcs_types.specs.declared.service.Service.{Service}
use Rattle.kdcs_types.specs.declared.service.Settled.{Settled}
use Rattle.kdcs_types.specs.Tables.{TableRows, service_of, shown_of}
use Rattle.abstract_monitor.specs.declared.command.Command.{Command}
use Rattle.abstract_monitor.specs.declared.command.Command.TheVariants.{Input, Tick, Run, Turn, Drop, Print, PrintLast, Restart}
use Rattle.abstract_monitor.specs.declared.input_use.Use.{Use}
use Rattle.abstract_monitor.specs.declared.input_use.Use.TheVariants.{Sign, Display, Output, Again}
use Rattle.abstract_monitor.specs.Bytes.{Bytes, bytes_cmp}
use Rattle.abstract_monitor.specs.Commands.{ScriptStep, Maker, ByTick, ByShow, ByTransaction, maker_of, turned_step, lterm_at, user_at, signed_on_by, due_for, show_by, show_next, show_again_by}
use Rattle.abstract_monitor.specs.Commands.{last_by, display, used, use_now, tick_by, drop_by, command_of}
use Rattle.abstract_monitor.specs.CommandsOf.{IsCommandOf}
use Rattle.abstract_monitor.specs.State.{Application, Session, State}
use Rattle.abstract_monitor.specs.Turns.{turn_of}
use Rattle.laws_of_states.specs.Applications.{IsApplication}
use Rattle.laws_of_states.specs.Keeping.{HasFacts}
use Rattle.laws_of_runs.proofs.Settling.{IfSettled, turn_ends_so}
use Rattle.laws_of_states.specs.StatesLaws.{lterm_declared}
use Rattle.audit_trail.specs.RoundTrip.{HasFewDigits}
use Rattle.trail_run.proofs.laws_of_trails.WrittenEntries.{IsKeptWell, transaction_kept}
use Rattle.trail_run.proofs.laws_of_trails.WrittenRows.{lterm_named}
use Rattle.trail_run.specs.WrittenNames.{StateKeepsNames}

-- few ticks, the name of an LTERM, or what a transaction kept well
abbrev pub IsWellMade : Maker → Type 0
IsWellMade (ByTick ticks) = HasFewDigits ticks
IsWellMade (ByShow lterm) = IsName lterm
IsWellMade (ByTransaction kept) = IsKeptWell kept

abbrev pub StepIsWellMade : ScriptStep → Type 0
StepIsWellMade d = IfSome d.by IsWellMade

module _ (app : Application) (application : IsApplication app) (limits : AreLimits app.generation.limits) (names : AreNamed app.generation) (s : State) (facts : HasFacts app s) (h : StateKeepsNames s) where
  pub turn_made : (task : ℕ) → StepIsWellMade (turned_step (turn_of app s task))
  turn_made task =
      as_made (turn_of app s task).after.tables (turn_of app s task).settled
      (turn_ends_so app s task (λ t kept. IsKeptWell kept) (λ id x ending is now. transaction_kept app limits names s facts h id x is ending)
      (λ id x o cause is now refused. transaction_kept app limits names s facts h id x is _))
    where
      as_made : (t : TableRows) (o : Option Settled) → IfSettled (λ u kept. IsKeptWell kept) t o → IfSome (maker_of o) IsWellMade
      as_made t None k = tt
      as_made t (Some kept) k = k

  signs_on : (pterm user lterm : Bytes) (o : Option Service) → StepIsWellMade (signed_on_by app s pterm user lterm o)
  signs_on pterm user lterm None = tt
  signs_on pterm user lterm (Some row) = tt

  shows : (lterm no_message : Bytes) (line_of : Bytes → Bytes) → IsName lterm → StepIsWellMade (show_next app s lterm no_message line_of)
  unfolding show_next
  shows lterm no_message line_of is = by (due_for s lterm)
    where
      by : (o : Option Job) → StepIsWellMade (show_by app s lterm no_message line_of o)
      by None = tt
      by (Some job) = is

  again : (no_message : Bytes) (line_of : Bytes → Bytes) (o : Option JobValue) → StepIsWellMade (show_again_by s no_message line_of o)
  again no_message line_of None = tt
  again no_message line_of (Some value) = tt

  displays : (pterm : Bytes) (o : Option Bytes) → StepIsWellMade (display s pterm o)
  displays pterm None = tt
  displays pterm (Some message) = tt

  drops : (pterm : Bytes) (o : Option Session) → StepIsWellMade (drop_by app s pterm o)
  drops pterm None = tt
  drops pterm (Some v) = tt

  -- a TICK past the greatest clock makes no commit
  ticks_on : (ticks : ℕ) (within : Bool) → nat_le (s.tables.clock + ticks) last_clock ≡ within → StepIsWellMade (tick_by app s ticks (s.tables.clock + ticks) within)
  ticks_on ticks false e = tt
  ticks_on ticks true e = omega (arith, leb-true (s.tables.clock + ticks) last_clock e)

  uses : (pterm : Bytes) (u : Use) → IsName (lterm_at app pterm) → StepIsWellMade (used app s pterm (lterm_at app pterm) (user_at s pterm) u)
  unfolding used
  uses pterm (Sign name) is = signs_on pterm name (lterm_at app pterm) (service_of s.tables (Dialogue name))
  uses pterm Display is = displays pterm (last_by (find bytes_cmp pterm s.signed))
  uses pterm Output is = shows (lterm_at app pterm) _ _ is
  uses pterm Again is = again _ _ (shown_of s.tables (lterm_at app pterm))
  uses pterm _ is = tt

  at_name : (pterm : Bytes) → IsCommandOf app.generation (Print pterm) → IsName (lterm_at app pterm)
  at_name pterm of = lterm_named app.generation limits names (lterm_at app pterm) (lterm_declared app pterm application of)

  pub command_made : (c : Command) → IsCommandOf app.generation c → StepIsWellMade (command_of app s c)
  unfolding command_of
  command_made (Input pterm text) of = uses pterm (use_now app s pterm text) (at_name pterm of)
  command_made (Tick ticks) of = ticks_on ticks _ refl
  command_made (Run turns) of = tt
  command_made (Turn task) of = turn_made task
  command_made (Drop pterm) of = drops pterm (find bytes_cmp pterm s.signed)
  command_made (Print pterm) of = shows (lterm_at app pterm) _ _ (at_name pterm of)
  command_made (PrintLast pterm) of = again _ _ (shown_of s.tables (lterm_at app pterm))
  command_made Restart of = tt
