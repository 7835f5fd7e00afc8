-- The steps of TICK.
use Rattle.std.specs.Prelude.{◌≡◌, ℕ, Bool, true, ◌+◌, ◌≤◌, List, [], ◌∷◌}
use Rattle.std.proofs.Common.{arith, sym, ap, subst, ◌∙◌}
use Rattle.std.proofs.lemmas.Bool.{le-leb}
use Rattle.kdcs_types.specs.declared.act.Act.{Act}
use Rattle.kdcs_types.specs.declared.act.Act.TheVariants.{Commit, Emit}
use Rattle.kdcs_types.specs.declared.act.Changes.{Changes}
use Rattle.kd_base.specs.Limits.{last_clock}
use Rattle.kdcs_types.specs.Tables.{TableRows, changed}
use Rattle.abstract_monitor.specs.Bytes.{Bytes}
use Rattle.abstract_monitor.specs.Commands.{tick_by, ticked}
use Rattle.abstract_monitor.specs.Lines.{tick_line}
use Rattle.abstract_monitor.specs.State.{State}
use Rattle.laws_of_states.specs.CommitLaws.{tick_changes}
use Rattle.laws_of_states.specs.ShowsLaws.{tick_made}
use Rattle.laws_of_states.specs.EndsLaws.{ticks_stay_sound}
use Rattle.laws_of_states.specs.PointLaws.{AreSound}
use Rattle.table_fit.specs.Pages.{FitPool}
use Rattle.service_ends.specs.declared.core_state.parts.MonitorParts.{MonitorParts}
use Rattle.service_ends.specs.Standing.{state_of}
use Rattle.service_ends.specs.Whole.{app_of}
use Rattle.monitor_core.specs.Commanding.{Comes}

-- another clock leaves the pages as they are
pub tick_fits : (p : MonitorParts) (ticks clock : ℕ) (changes : Changes) (now : ℕ) → AreSound p.generation p.tables → now ≡ p.tables.clock → (now + ticks ≤ last_clock) × (clock ≡ now + ticks) → changes ≡ tick_changes p.tables clock
    → FitPool p.generation (changed p.tables changes)
tick_fits p ticks clock changes now sound is_now sum is =
    let less = (ticks_stay_sound p.generation p.tables clock sound (subst (λ (n : ℕ). n ≤ last_clock) (sym sum.1) sum.0)).charge in
    let fit : FitPool p.generation (record p.tables { clock = clock }) = omega (arith, less, sound.suits.charge) in
    subst (FitPool p.generation) (sym (ap (changed p.tables) is ∙ (tick_made p.generation p.tables clock).tables)) fit

-- the greatest clock is not passed
pub tick_comes : (p : MonitorParts) (ticks clock : ℕ) (changes : Changes) (line : Bytes) (after : State) (now : ℕ) → now ≡ p.tables.clock
    → (now + ticks ≤ last_clock) × (clock ≡ now + ticks)
    → changes ≡ tick_changes p.tables clock
    → line ≡ tick_line clock
    → after ≡ record (state_of p) { tables = changed p.tables changes }
    → (acts : List Act) → acts ≡ Commit changes ∷ Emit line ∷ []
    → Comes after acts (ticked (app_of p) (state_of p) ticks)
tick_comes p ticks clock changes line after now is_now sum is said came acts done =
    let made = tick_made p.generation p.tables clock in
    let there : (p.tables.clock + ticks ≤ last_clock) × (clock ≡ p.tables.clock + ticks) = subst (λ (n : ℕ). (n + ticks ≤ last_clock) × (clock ≡ n + ticks)) is_now sum in
    subst (λ (b : Bool). Comes after acts (tick_by (app_of p) (state_of p) ticks (p.tables.clock + ticks) b)) (sym (le-leb (p.tables.clock + ticks) last_clock there.0))
    (subst (λ (n : ℕ). Comes after acts (tick_by (app_of p) (state_of p) ticks n true)) there.1 record {
      state = came ∙ ap (λ (t : TableRows). record (state_of p) { tables = t }) (ap (changed p.tables) is ∙ made.tables);
      acts = done ∙ (λ i. Commit ((is ∙ sym made.exact) i) ∷ Emit (said i) ∷ []);
    })
