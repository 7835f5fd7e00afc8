-- What KDCOUT and PRINT show goes to the terminal of its LTERM.
use Rattle.std.specs.Prelude.{◌≡◌, ◌⊎◌, refl, ℕ, ◌+◌, Bool, true, false, [], Option, Some, None, nat_le}
use Rattle.std.proofs.Common.{ap, subst, inl, inr}
use Rattle.std.specs.FinMap.{find}
use Rattle.kdcs_types.specs.declared.key.ServiceId.TheVariants.{Dialogue}
use Rattle.kdcs_types.specs.declared.service.Job.{Job}
use Rattle.kdcs_types.specs.declared.service.JobValue.{JobValue}
use Rattle.kdcs_types.specs.declared.service.Service.{Service}
use Rattle.kdcs_types.specs.declared.service.Settled.{Settled}
use Rattle.kd_base.specs.Limits.{last_clock}
use Rattle.kdcs_types.specs.Tables.{service_of, shown_of}
use Rattle.abstract_monitor.specs.declared.input_use.Use.{Use}
use Rattle.abstract_monitor.specs.declared.input_use.Use.TheVariants.{Sign, Display, Output, Again}
use Rattle.abstract_monitor.specs.Bytes.{Bytes, bytes_cmp}
use Rattle.abstract_monitor.specs.Lines.{asy_line, prt_line, no_message_line}
use Rattle.abstract_monitor.specs.State.{Application, Session, State}
use Rattle.abstract_monitor.specs.Turns.{turn_of}
use Rattle.abstract_monitor.specs.declared.command.Command.TheVariants.{Input, Tick, Run, Turn, Drop, Print, PrintLast, Restart}
use Rattle.abstract_monitor.specs.Commands.{ScriptStep, Maker, ByTick, ByShow, ByTransaction, signed_on_by, show_next, show_by, show_again_by, due_for, display, last_by, used, use_now, tick_by}
use Rattle.abstract_monitor.specs.Commands.{drop_by, command_of, lterm_at, maker_of}
use Rattle.laws_of_states.specs.Commits.{SendsNext}
use Rattle.laws_of_states.specs.Frames.{ShowsAtItsTerminal}

-- what a step shows
abbrev Shows : Application → State → Bytes → ScriptStep → Type 0
Shows app s lterm d = (job : Job) × (due_for s lterm ≡ Some job) × SendsNext app lterm job.value.message d.acts

-- nothing was shown
none_shown : {A : Type 0} (lterm : Bytes) → None ≡ Some (ByShow lterm) → A
none_shown lterm e = absurd cc

by_transaction : {A : Type 0} (kept : Option Settled) (lterm : Bytes) → maker_of kept ≡ Some (ByShow lterm) → A
by_transaction None lterm e = absurd cc
by_transaction (Some kept) lterm e = absurd cc

same_lterm : (a b : Bytes) → Some (ByShow a) ≡ Some (ByShow b) → a ≡ b
same_lterm a b e = ap of e
  where
    of : Option Maker → Bytes
    of None = []
    of (Some (ByTick ticks)) = []
    of (Some (ByShow lterm)) = lterm
    of (Some (ByTransaction kept)) = []

module _ (app : Application) (s : State) (pterm : Bytes) where
  at_terminal : (line_of : Bytes → Bytes) (message : Bytes) → (line_of message ≡ asy_line pterm message) ⊎ (line_of message ≡ prt_line pterm message) → (pterm2 : Bytes) × ((lterm_at app pterm2 ≡ lterm_at app pterm) × ((line_of message ≡ asy_line pterm2 message) ⊎ (line_of message ≡ prt_line pterm2 message)))
  at_terminal line_of message is = (pterm, (refl, is))

  shown : (line_of : Bytes → Bytes) → ((message : Bytes) → (line_of message ≡ asy_line pterm message) ⊎ (line_of message ≡ prt_line pterm message)) → (none : Bytes) (job : Option Job) → due_for s (lterm_at app pterm) ≡ job → (lterm : Bytes)
      → (show_by app s (lterm_at app pterm) none line_of job).by ≡ Some (ByShow lterm) → Shows app s lterm (show_by app s (lterm_at app pterm) none line_of job)
  shown line_of is none None e lterm h = none_shown lterm h
  shown line_of is none (Some job) e lterm h =
      subst (λ l. Shows app s l (show_by app s (lterm_at app pterm) none line_of (Some job))) (same_lterm _ lterm h) (job, e, at_terminal line_of job.value.message (is job.value.message))

signed_none : (app : Application) (s : State) (pterm user lterm : Bytes) (row : Option Service) (l : Bytes) → (signed_on_by app s pterm user lterm row).by ≡ Some (ByShow l) → Shows app s l (signed_on_by app s pterm user lterm row)
signed_none app s pterm user lterm None l h = none_shown l h
signed_none app s pterm user lterm (Some row) l h = none_shown l h

again_none : (app : Application) (s : State) (none : Bytes) (line_of : Bytes → Bytes) (value : Option JobValue) (l : Bytes) → (show_again_by s none line_of value).by ≡ Some (ByShow l) → Shows app s l (show_again_by s none line_of value)
again_none app s none line_of None l h = none_shown l h
again_none app s none line_of (Some value) l h = none_shown l h

display_none : (app : Application) (s : State) (pterm : Bytes) (last : Option Bytes) (l : Bytes) → (display s pterm last).by ≡ Some (ByShow l) → Shows app s l (display s pterm last)
display_none app s pterm None l h = none_shown l h
display_none app s pterm (Some message) l h = none_shown l h

use_shows : (app : Application) (s : State) (pterm user : Bytes) (u : Use) (l : Bytes) → (used app s pterm (lterm_at app pterm) user u).by ≡ Some (ByShow l) → Shows app s l (used app s pterm (lterm_at app pterm) user u)
unfolding used show_next
use_shows app s pterm user (Sign name) l h = signed_none app s pterm name (lterm_at app pterm) (service_of s.tables (Dialogue name)) l h
use_shows app s pterm user Display l h = display_none app s pterm (last_by (find bytes_cmp pterm s.signed)) l h
use_shows app s pterm user Output l h = shown app s pterm (asy_line pterm) (λ m. inl refl) (no_message_line pterm) (due_for s (lterm_at app pterm)) refl l h
use_shows app s pterm user Again l h = again_none app s (no_message_line pterm) (asy_line pterm) (shown_of s.tables (lterm_at app pterm)) l h
use_shows app s pterm user _ l h = none_shown l h

tick_none : (app : Application) (s : State) (ticks clock : ℕ) (b : Bool) (l : Bytes) → (tick_by app s ticks clock b).by ≡ Some (ByShow l) → Shows app s l (tick_by app s ticks clock b)
tick_none app s ticks clock true l h = absurd cc
tick_none app s ticks clock false l h = none_shown l h

drop_none : (app : Application) (s : State) (pterm : Bytes) (v : Option Session) (l : Bytes) → (drop_by app s pterm v).by ≡ Some (ByShow l) → Shows app s l (drop_by app s pterm v)
drop_none app s pterm None l h = none_shown l h
drop_none app s pterm (Some v) l h = none_shown l h

pub shows_at_its_terminal : ShowsAtItsTerminal
unfolding command_of show_next
shows_at_its_terminal app s (Input pterm text) l h = use_shows app s pterm _ (use_now app s pterm text) l h
shows_at_its_terminal app s (Tick ticks) l h = tick_none app s ticks _ (nat_le (s.tables.clock + ticks) last_clock) l h
shows_at_its_terminal app s (Run turns) l h = none_shown l h
shows_at_its_terminal app s (Turn task) l h = by_transaction (turn_of app s task).settled l h
shows_at_its_terminal app s (Drop pterm) l h = drop_none app s pterm (find bytes_cmp pterm s.signed) l h
shows_at_its_terminal app s (Print pterm) l h = shown app s pterm (prt_line pterm) (λ m. inr refl) (no_message_line pterm) (due_for s (lterm_at app pterm)) refl l h
shows_at_its_terminal app s (PrintLast pterm) l h = again_none app s (no_message_line pterm) (prt_line pterm) (shown_of s.tables (lterm_at app pterm)) l h
shows_at_its_terminal app s Restart l h = none_shown l h
