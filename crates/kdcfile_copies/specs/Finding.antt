-- What is found in a file.
use Rattle.std.specs.Prelude.{◌≡◌, ℕ, List, []}
use Rattle.kd_records.specs.Identity.{IsIdentity}
use Rattle.kdcfile_store.specs.Paged.{Paged, HasFile}
use Rattle.kdcfile_copies.specs.declared.answer.LoadedCopy.{LoadedCopy}
use Rattle.kdcfile_copies.specs.declared.answer.Found.{Found}
use Rattle.kdcfile_copies.specs.declared.answer.Found.TheVariants.{Empty, NoCopy, Copy}
use Rattle.kdcfile_copies.specs.Copies.{IsNoCopy, HasSequence, bare}
use Rattle.kdcfile_copies.specs.Keeping.{CopyKeeps}

-- a copy that was loaded: its store keeps it
pub record IsLoaded (c : LoadedCopy) : Type 0 where
  pub identity : IsIdentity c.store.identity
  pub keeps : CopyKeeps c.store c.sequence (bare c.store.content)

-- of a file with these bytes this is the answer
abbrev pub IsAnswer : Found → List ℕ → Type 0
IsAnswer Empty bytes = bytes ≡ []
IsAnswer NoCopy bytes = (bytes ≡ [] → ⊥) × IsNoCopy bytes
IsAnswer (Copy c) bytes = HasFile c.store bytes

-- what is known of an answer on any device
abbrev pub IsFound : Found → Type 0
IsFound Empty = Unit {0}
IsFound NoCopy = Unit {0}
IsFound (Copy c) = IsLoaded c

-- what is found in a store that was loaded: the copy, where its content has a sequence
abbrev pub IsFoundIn : Paged → Found → Type 0
IsFoundIn s Empty = ⊥
IsFoundIn s NoCopy = (n : ℕ) → HasSequence n s.content → ⊥
IsFoundIn s (Copy c) = (c.store ≡ s) × IsLoaded c
