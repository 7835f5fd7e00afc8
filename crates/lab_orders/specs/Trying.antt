-- What the code of a search comes to at one turn, and where it asks whether any has an effect.
use Rattle.std.specs.Prelude.{◌≡◌, ℕ, Bool, true, false, Option, Some, None}
use Rattle.abstract_monitor.specs.Turns.{turn_of}
use Rattle.laws_of_states.specs.Keeping.{HasFacts}
use Rattle.laws_of_runs.specs.Replays.{AllReplay}
use Rattle.monitor_core.specs.CoreValue.{CoreValue}
use Rattle.service_ends.specs.Ending.{turned_to}
use Rattle.service_ends.specs.declared.turned.Turned.{Turned as Did}
use Rattle.lab_walks.specs.Orders.{has_effect}
use Rattle.lab_walks.specs.Signs.{is_at_rest}

-- a turn with an effect was done, or the state is as it was
abbrev pub DidOrNot : CoreValue → (task : ℕ) → CoreValue → Option Did → Type 0
DidOrNot c task d (Some did) = (has_effect c.application c.state task ≡ true) × (turned_to d.state did ≡ turn_of c.application c.state task)
DidOrNot c task d None = (has_effect c.application c.state task ≡ false) × (d.state ≡ c.state)

pub record Tried (c : CoreValue) (task : ℕ) (d : CoreValue) (did : Option Did) : Type 0 where
  pub application : d.application ≡ c.application
  pub facts : HasFacts d.application d.state
  pub replays : AllReplay d.application d.state
  pub exact : DidOrNot c task d did

-- it was tried, and had an effect or left the state as it was
pub record TriedEffect (c : CoreValue) (task : ℕ) (d : CoreValue) (moved : Bool) : Type 0 where
  pub application : d.application ≡ c.application
  pub facts : HasFacts d.application d.state
  pub effect : has_effect c.application c.state task ≡ moved
  pub stays : moved ≡ false → d.state ≡ c.state

-- whether no task's turn has an effect; then the core is as it was
pub record Rested (c d : CoreValue) (rests : Bool) : Type 0 where
  pub application : d.application ≡ c.application
  pub is : rests ≡ is_at_rest c.application c.state
  pub stays : rests ≡ true → d.state ≡ c.state
