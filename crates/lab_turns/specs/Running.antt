-- A monitor between two steps of a script.
use Rattle.std.specs.Prelude.{◌≡◌, ℕ, ◌+◌, List, length}
use Rattle.kdcs_types.specs.Tables.{TableRows}
use Rattle.abstract_monitor.specs.Commands.{ScriptStep, state_after}
use Rattle.laws_of_states.specs.Applications.{IsApplication}
use Rattle.laws_of_states.specs.Keeping.{HasFacts}
use Rattle.monitor_core.specs.CoreSteps.{durable_of}
use Rattle.monitor_core.specs.CoreValue.{CoreValue}
use Rattle.lab_turns.specs.Heard.{Heard, AreSteps}

-- the state has its facts, and the tables beside a core are its durable ones
pub record IsBeside (c : CoreValue) (t : TableRows) : Type 0 where
  pub application : IsApplication c.application
  pub facts : HasFacts c.application c.state
  pub durable : t ≡ durable_of c

-- the monitor came to the state after some steps
pub record DidSteps (c : CoreValue) (steps : List ScriptStep) (d : CoreValue) : Type 0 where
  pub application : d.application ≡ c.application
  pub state : d.state ≡ state_after c.state steps

-- the monitor came to the state after some steps, and all of them were heard of
pub record ToldSteps {L : Type 0} (hears : L → List Heard → L → Type 0) (c : CoreValue) (steps : List ScriptStep) (before after : L) (d : CoreValue) : Type 0 where
  pub did : DidSteps c steps d
  pub own : List Heard
  pub told : AreSteps own steps
  pub heard : hears before own after

-- and the tables beside it are its durable ones; the steps were counted, and what is borrowed is the same
pub record Watched {L : Type 0} (hears : L → List Heard → L → Type 0) (c : CoreValue) (steps : List ScriptStep) (before after : L) (d : CoreValue) (t : TableRows) (count count' : ℕ) (place place' : List ℕ) : Type 0 where
  pub told : ToldSteps hears c steps before after d
  pub beside : IsBeside d t
  pub counted : count' ≡ count + length steps
  pub same_place : place' ≡ place
