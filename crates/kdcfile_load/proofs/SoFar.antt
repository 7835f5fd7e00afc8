-- A chain that is read so far.
use Rattle.std.proofs.Common.{◌≡◌, ℕ, ◌+◌, ◌-◌, List, ◌++◌, length, Option}
use Rattle.std.specs.Option.{option_map}
use Rattle.std.specs.Prelude.{IsTrue}
use Rattle.kd_device.specs.Device.{State}
use Rattle.kd_records.specs.declared.key.RecordKey.{RecordKey}
use Rattle.kdcfile_layout.specs.Chains.{Chained, chain_of}
use Rattle.kdcfile_layout.specs.ReadChains.{Holds}
use Rattle.kdcfile_load.proofs.Rested.{Rested}

-- what was read before, in front of what follows
abbrev pub onto : List ℕ → List ℕ → Option Chained → Option Chained
onto pages value more = option_map (λ (r : Chained). (pages ++ r.0, value ++ r.1)) more

-- the loop over the parts but the last: the device rests, and what was read goes in front of what follows
pub record Reading (size count : ℕ) (k : RecordKey) (n left first part room p : ℕ) (pages value : List ℕ) (a b : State) (la lb : ℕ → List ℕ → List ℕ → Type 0) : Type 0 where
  pub rested : Rested a b la lb
  pub holds : Holds size (left - part) room
  pub parts : length pages ≡ part
  pub bytes : length value + room ≡ n
  pub so_far : IsTrue a.told → onto pages value (chain_of size count a.holds k n part (left - part) room p) ≡ chain_of size count a.holds k n 0 left n first
