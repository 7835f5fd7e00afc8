-- What tables a store keeps, as an application that starts from it sees them.
use Rattle.std.specs.Prelude.{◌≡◌, List, ℕ}
use Rattle.kd_records.specs.Identity.{Identity}
use Rattle.application_types.specs.Generation.{Generated}
use Rattle.kdcs_types.specs.Tables.{TableRows}
use Rattle.kdcfile_store.specs.Paged.{Paged}
use Rattle.laws_of_states.specs.Suits.{SuitsFrom}
use Rattle.device_acts.specs.Stands.{KeepsTables}

-- the store keeps no tables, or some of these texts that do not suit the generation
pub record KeepsNoneFor (g : Generated) (fingerprint : List ℕ) (store : Paged) : Type 0 where
  pub own_texts : (i : Identity) (t : TableRows) → KeepsTables i store t → i.fingerprint ≡ fingerprint
  pub unsuited : (i : Identity) (t : TableRows) → KeepsTables i store t → SuitsFrom g i.blksize i.pages t → ⊥

-- the store keeps some tables of texts with another fingerprint
pub record KeepsOthers (stored fingerprint : List ℕ) (store : Paged) : Type 0 where
  pub differs : stored ≡ fingerprint → ⊥
  pub keeps : (t : TableRows) × KeepsTables store.identity store t
  pub made_with : store.identity.fingerprint ≡ stored
