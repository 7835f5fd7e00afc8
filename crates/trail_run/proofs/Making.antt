-- What made the commit of a command.
use Rattle.std.proofs.Common.{◌≡◌, refl}
use Rattle.std.specs.Prelude.{ℕ, Bool, true, false, Option, Some, None, nat_le, ◌+◌}
use Rattle.std.specs.FinMap.{find}
use Rattle.kd_base.specs.Limits.{last_clock}
use Rattle.kdcs_types.specs.declared.key.ServiceId.TheVariants.{Dialogue}
use Rattle.kdcs_types.specs.declared.service.Job.{Job}
use Rattle.kdcs_types.specs.declared.service.JobValue.{JobValue}
use Rattle.kdcs_types.specs.declared.service.Service.{Service}
use Rattle.kdcs_types.specs.Tables.{service_of, shown_of}
use Rattle.abstract_monitor.specs.Bytes.{Bytes, bytes_cmp}
use Rattle.abstract_monitor.specs.declared.command.Command.{Command}
use Rattle.abstract_monitor.specs.declared.command.Command.TheVariants.{Input, Tick, Run, Turn, Drop, Print, PrintLast, Restart}
use Rattle.abstract_monitor.specs.declared.input_use.Use.{Use}
use Rattle.abstract_monitor.specs.declared.input_use.Use.TheVariants.{Sign, SignRefused, SignFirst, AlreadySigned, Off, Display, Output, Again, Busy, TooLong, Next, Start, TacRefused}
use Rattle.abstract_monitor.specs.Commands.{ScriptStep, command_of, display, drop_by, due_for, last_by, lterm_at, out_again, show_again_by, show_by, show_next, signed_on_by, tick_by, use_now, used}
use Rattle.abstract_monitor.specs.Commands.{user_at}
use Rattle.abstract_monitor.specs.Lines.{asy_line, no_message_line, prt_line}
use Rattle.abstract_monitor.specs.State.{Application, Session, State}
use Rattle.monitor_core.specs.Commanding.{IsCoreCommand}
use Rattle.audit_trail.specs.declared.entry.By.{By}
use Rattle.audit_trail.specs.declared.entry.By.TheVariants as by
use Rattle.trail_run.specs.Entries.{changes_among, entry_by, entry_in}
use Rattle.trail_run.specs.Running.{by_for}

-- if the step commits, this made it
abbrev IsMadeBy : Option By → ScriptStep → Type 0
IsMadeBy maker d = entry_by (changes_among d.acts) maker ≡ entry_in d

module _ (app : Application) (s : State) where
  signed_on_makes : (maker : Option By) (pterm user lterm : Bytes) (row : Option Service) → IsMadeBy maker (signed_on_by app s pterm user lterm row)
  signed_on_makes maker pterm user lterm None = refl
  signed_on_makes maker pterm user lterm (Some row) = by_last row.last
    where
      by_last : (last : Option Bytes) → entry_by (changes_among (out_again pterm last)) maker ≡ entry_by (changes_among (out_again pterm last)) None
      by_last None = refl
      by_last (Some message) = refl

  shows : (lterm none : Bytes) (line_of : Bytes → Bytes) (job : Option Job) → IsMadeBy (Some (by.Shown lterm)) (show_by app s lterm none line_of job)
  shows lterm none line_of None = refl
  shows lterm none line_of (Some job) = refl

  shows_next : (lterm none : Bytes) (line_of : Bytes → Bytes) → IsMadeBy (Some (by.Shown lterm)) (show_next app s lterm none line_of)
  unfolding show_next
  shows_next lterm none line_of = shows lterm none line_of (due_for s lterm)

  shows_again : (maker : Option By) (none : Bytes) (line_of : Bytes → Bytes) (value : Option JobValue) → IsMadeBy maker (show_again_by s none line_of value)
  shows_again maker none line_of None = refl
  shows_again maker none line_of (Some value) = refl

  displays : (maker : Option By) (pterm : Bytes) (last : Option Bytes) → IsMadeBy maker (display s pterm last)
  displays maker pterm None = refl
  displays maker pterm (Some message) = refl

  uses : (pterm lterm user : Bytes) (means : Use) → IsMadeBy (Some (by.Shown lterm)) (used app s pterm lterm user means)
  unfolding used
  uses pterm lterm user (Sign name) = signed_on_makes (Some (by.Shown lterm)) pterm name (lterm_at app pterm) (service_of s.tables (Dialogue name))
  uses pterm lterm user (SignRefused fault) = refl
  uses pterm lterm user SignFirst = refl
  uses pterm lterm user AlreadySigned = refl
  uses pterm lterm user Off = refl
  uses pterm lterm user Display = displays (Some (by.Shown lterm)) pterm (last_by (find bytes_cmp pterm s.signed))
  uses pterm lterm user Output = shows_next lterm (no_message_line pterm) (asy_line pterm)
  uses pterm lterm user Again = shows_again (Some (by.Shown lterm)) (no_message_line pterm) (asy_line pterm) (shown_of s.tables lterm)
  uses pterm lterm user Busy = refl
  uses pterm lterm user TooLong = refl
  uses pterm lterm user (Next text) = refl
  uses pterm lterm user (Start tac text) = refl
  uses pterm lterm user (TacRefused fault) = refl

  ticks_by : (ticks clock : ℕ) (within : Bool) → IsMadeBy (Some (by.Tick ticks)) (tick_by app s ticks clock within)
  ticks_by ticks clock true = refl
  ticks_by ticks clock false = refl

  drops : (pterm : Bytes) (session : Option Session) → IsMadeBy None (drop_by app s pterm session)
  drops pterm None = refl
  drops pterm (Some v) = refl

  pub made_by : (command : Command) → IsCoreCommand command → IsMadeBy (by_for app command) (command_of app s command)
  unfolding command_of
  made_by (Input pterm text) single = uses pterm (lterm_at app pterm) (user_at s pterm) (use_now app s pterm text)
  made_by (Tick ticks) single = ticks_by ticks (s.tables.clock + ticks) (nat_le (s.tables.clock + ticks) last_clock)
  made_by (Run turns) single = absurd single
  made_by (Turn task) single = absurd single
  made_by (Drop pterm) single = drops pterm (find bytes_cmp pterm s.signed)
  made_by (Print pterm) single = shows_next (lterm_at app pterm) (no_message_line pterm) (prt_line pterm)
  made_by (PrintLast pterm) single = shows_again None (no_message_line pterm) (prt_line pterm) (shown_of s.tables (lterm_at app pterm))
  made_by Restart single = absurd single
