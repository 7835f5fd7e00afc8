-- What is done from a place, by the monitor that starts there.
use Rattle.std.proofs.Common.{◌≡◌, ◌∙◌, ℕ, Bool, true, false, List, Ok, ap, sym, subst}
use Rattle.std.specs.Prelude.{◌↔◌, IsTrue, cond}
use Rattle.abstract_monitor.specs.declared.command.Command.{Command}
use Rattle.abstract_monitor.specs.Commands.{started}
use Rattle.abstract_monitor.specs.State.{Application, State}
use Rattle.laws_of_states.specs.Keeping.{IsScriptOf}
use Rattle.script_read.specs.Commands.{script_in}
use Rattle.monitor_core.specs.CoreValue.{CoreValue}
use Rattle.lab_turns.specs.Consoles.{Passed}
use Rattle.lab_turns.specs.Heard.{Heard, TellsScript}
use Rattle.lab_turns.specs.Printing.{Prints}
use Rattle.lab_scripts.specs.Expected.{expected_of, sent_of}
use Rattle.lab_scripts.specs.Met.{IsMet}
use Rattle.lab_scripts.specs.Printing.{TellsTest}
use Rattle.lab_scripts.specs.Talking.{Talked}
use Rattle.lab_cli.specs.Doing.{Talks, Tests, Traces}
use Rattle.lab_cli.specs.Places.{app_of, start_of}
use Rattle.lab_cli.specs.declared.reading.Place.{Place}

-- the state of a monitor that was started at a place
pub state_at : (p : Place) (app : Application) (s : State) → app ≡ app_of p → s ≡ started app p.tables → s ≡ start_of p
state_at p app s is from = from ∙ ap (λ (x : Application). started x p.tables) is

module _ {C : Type 0} (passes : C → List Passed → C → Type 0) (p : Place) (app : Application) (s : State) (app_is : app ≡ app_of p) (state_is : s ≡ start_of p) (a b : C) where
  pub traces : (commands : List Command) → commands ≡ p.commands.items → (tale : List Heard) → TellsScript app s commands tale → (traces' : Bool) (source' : List (List ℕ)) → Prints passes tale true p.units a traces' source' b → Traces passes p a b
  traces commands is tale tells traces' source' prints = (
    tale,
    subst (λ (x : Application). TellsScript x (start_of p) p.commands.items tale) app_is (subst (λ (x : State). TellsScript app x p.commands.items tale) state_is (subst (λ (l : List Command). TellsScript app s l tale) is tells)),
    prints.passed,
  )

  pub talks : (prompted : Bool) (d : CoreValue) → Talked passes prompted app s false p.units a d b → Talks passes prompted p a b
  talks prompted d talked = (d, subst (λ (x : Application). Talked passes prompted x (start_of p) false p.units a d b) app_is (subst (λ (x : State). Talked passes prompted app x false p.units a d b) state_is talked))

  -- the same script, from the same state
  sent_is : (commands : List Command) → commands ≡ p.commands.items → sent_of app s commands ≡ sent_of (app_of p) (start_of p) p.commands.items
  sent_is commands is = λ i. sent_of (app_is i) (state_is i) (is i)

  pub tests : (commands : List Command) → commands ≡ p.commands.items → (script : List ℕ) → script ≡ p.script.items → (met : Bool) → IsTrue met ↔ IsMet (expected_of script) (sent_of app s commands) → TellsTest passes (expected_of script) (sent_of app s commands) met a b → (status : ℕ) → status ≡ cond met 0 1 → Tests passes p a b status
  tests commands is script script_is met just tells status code =
      let sent = sent_is commands is in (
        met,
        code,
        subst (λ (x : List (List (List ℕ))). IsTrue met ↔ IsMet (expected_of p.script.items) x) sent (subst (λ (l : List ℕ). IsTrue met ↔ IsMet (expected_of l) (sent_of app s commands)) script_is just),
        subst (λ (x : List (List (List ℕ))). TellsTest passes (expected_of p.script.items) x met a b) sent (subst (λ (l : List ℕ). TellsTest passes (expected_of l) (sent_of app s commands) met a b) script_is tells),
      )

-- a script of the place is one of the monitor that starts there
pub names_at : (p : Place) (app : Application) → app ≡ app_of p → (commands : List Command) → commands ≡ p.commands.items → IsScriptOf (app_of p) p.commands.items → IsScriptOf app commands
names_at p app is commands same names = subst (λ (x : Application). IsScriptOf x commands) (sym is) (subst (λ (l : List Command). IsScriptOf (app_of p) l) (sym same) names)

-- and what its script says
pub says_at : (p : Place) (app : Application) → app ≡ app_of p → (commands : List Command) → commands ≡ p.commands.items → (script : List ℕ) → script ≡ p.script.items → script_in p.application.generation p.script.items ≡ Ok p.commands.items → script_in app.generation script ≡ Ok commands
says_at p app is commands same script script_is says =
    subst (λ (x : Application). script_in x.generation script ≡ Ok commands) (sym is) (subst (λ (l : List ℕ). script_in p.application.generation l ≡ Ok commands) (sym script_is) (subst (λ (l : List Command). script_in p.application.generation p.script.items ≡ Ok l) (sym same) says))
