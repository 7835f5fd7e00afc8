-- What is done from a place, by the word that asks for it.
use Rattle.std.specs.Prelude.{◌≡◌, ◌++◌, ◌↔◌, ◌≤◌, ℕ, Bool, true, false, IsTrue, List, cond, sum_by}
use Rattle.monitor_core.specs.CoreValue.{CoreValue}
use Rattle.lab_turns.specs.Consoles.{Passed, printed}
use Rattle.lab_turns.specs.Heard.{Heard, TellsScript}
use Rattle.lab_turns.specs.TurnLines.{tale_text}
use Rattle.lab_scripts.specs.Expected.{Expectation, expected_of, sent_of}
use Rattle.lab_scripts.specs.Met.{IsMet}
use Rattle.lab_scripts.specs.Printing.{TellsTest}
use Rattle.lab_scripts.specs.Talking.{Talked}
use Rattle.lab_orders.specs.declared.explored.Explored.{Explored}
use Rattle.lab_orders.specs.declared.explored.Outcome.{Outcome}
use Rattle.lab_orders.specs.Exploring.{AreAll, AreDistinct, AreOrdered, AreOutcomes, AreToldSerial, IsTried}
use Rattle.lab_orders.specs.Told.{AreMore}
use Rattle.lab_cli.specs.ExploredText.{TellsExplored}
use Rattle.lab_cli.specs.Exploring.{do_differ}
use Rattle.lab_cli.specs.Invariants.{all_breaks_text}
use Rattle.lab_cli.specs.Places.{app_of, start_of}
use Rattle.lab_cli.specs.declared.reading.Place.{Place}
use Rattle.lab_cli.specs.declared.words.Word.{Word}
use Rattle.lab_cli.specs.declared.words.Word.TheVariants.{Check, Trace, Talk, Explore, Test}

-- `trace`: the text of all that is heard of the script was printed, turns and all
abbrev pub Traces : {C : Type 0} → (passes : C → List Passed → C → Type 0) → Place → (a b : C) → Type 0
Traces passes p a b = (tale : List Heard) × TellsScript (app_of p) (start_of p) p.commands.items tale × passes a (printed (tale_text true p.units tale)) b

-- `talk`: all lines that are typed were performed, and of each was printed what it says; turns are not printed at first
abbrev pub Talks : {C : Type 0} → (passes : C → List Passed → C → Type 0) → (prompted : Bool) → Place → (a b : C) → Type 0
Talks passes prompted p a b = (d : CoreValue) × Talked passes prompted (app_of p) (start_of p) false p.units a d b

-- what the script of a place expects of its commands, and what these send
abbrev pub expected_at : Place → List Expectation
expected_at p = expected_of p.script.items

abbrev pub sent_at : Place → List (List (List ℕ))
sent_at p = sent_of (app_of p) (start_of p) p.commands.items

-- `test`: how many lines are met was printed, or the first difference
abbrev pub Tests : {C : Type 0} → (passes : C → List Passed → C → Type 0) → Place → (a b : C) → (status : ℕ) → Type 0
Tests passes p a b status = (met : Bool) × (status ≡ cond met 0 1) × (IsTrue met ↔ IsMet (expected_at p) (sent_at p)) × TellsTest passes (expected_at p) (sent_at p) met a b

-- `explore`: the outcomes of the orders of the script: of all, each tried or stood for, or of so many
pub record Explores (p : Place) (most : ℕ) (e : Explored) : Type 0 where
  pub outcomes : AreOutcomes (app_of p) p.tables p.commands.items e.outcomes
  pub orders : AreOrdered (app_of p) p.tables p.commands.items e.outcomes
  pub all : e.all ≡ true → AreAll (app_of p) p.tables p.commands.items e.outcomes
  pub tried : IsTried (app_of p) p.tables p.commands.items e
  pub each : e.each ≡ true → e.all ≡ true
  pub more : e.each ≡ false → AreMore (app_of p) p.commands.items (start_of p) most
  pub serial : e.all ≡ true → AreToldSerial (app_of p) p.tables p.commands.items e.outcomes
  pub distinct : AreDistinct e.outcomes
  pub counted : sum_by (λ (o : Outcome). o.orders) e.outcomes ≡ e.orders
  pub at_most : e.orders ≤ most
  pub drawn : e.all ≡ false → e.orders ≡ most

-- and the text that tells of them was printed, and what they break
abbrev pub PrintsExplored : {C : Type 0} → (passes : C → List Passed → C → Type 0) → (number : ℕ) → Explored → Place → (a b : C) → Type 0
PrintsExplored passes number e p a b = (text : List ℕ) × TellsExplored (app_of p) (start_of p) p.units p.commands.items number e text × passes a (printed (text ++ all_breaks_text p.script.items 1 e.outcomes)) b

-- what was done with a place, and the status
abbrev pub Does : {C : Type 0} → (passes : C → List Passed → C → Type 0) → (prompted : Bool) → Word → Place → (a b : C) → (status : ℕ) → Type 0
Does passes prompted Check p a b status = ⊥
Does passes prompted Trace p a b status = (status ≡ 0) × Traces passes p a b
Does passes prompted Talk p a b status = (status ≡ 0) × Talks passes prompted p a b
Does passes prompted (Explore most number) p a b status = (e : Explored) × Explores p most e × (status ≡ cond (do_differ p.script.items e.outcomes e.all) 1 0) × PrintsExplored passes number e p a b
Does passes prompted Test p a b status = Tests passes p a b status
