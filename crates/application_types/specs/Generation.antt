-- A generation, as contracts and the definitions of the monitor see it.
use Rattle.std.specs.Prelude.{ℕ, Bool, true, false, List, Option, Some, None, option_and_then, bytes_eq, nat_eq}
use Rattle.std.specs.List.{list_any}
use Rattle.std.specs.Map.{lookup}
use Rattle.application_types.specs.declared.kdcdef_types.entry.TacEntry.{TacEntry}
use Rattle.application_types.specs.declared.kdcdef_types.entry.UserEntry.{UserEntry}
use Rattle.application_types.specs.declared.kdcdef_types.entry.PtermEntry.{PtermEntry}
use Rattle.application_types.specs.declared.kdcdef_types.entry.LtermEntry.{LtermEntry}
use Rattle.application_types.specs.declared.kdcdef_types.entry.KeySet.{KeySet}
use Rattle.application_types.specs.declared.kdcdef_types.entry.KeySet.TheVariants.{Master, Codes}
use Rattle.application_types.specs.declared.kdcdef_types.limits.Limits.{Limits}
use Rattle.application_types.specs.declared.kdcdef_types.limits.Counts.{Counts}

-- the limits, and each table in the order of its statements
pub record Generated : Type 0 where
  pub limits : Limits
  -- names, with the lines of their statements
  pub programs : List (List ℕ × ℕ)
  pub tacs : List (List ℕ × TacEntry)
  pub users : List (List ℕ × UserEntry)
  pub pterms : List (List ℕ × PtermEntry)
  pub lterms : List (List ℕ × LtermEntry)
  pub tls : List (List ℕ)
  pub uls : List (List ℕ)
  -- TAC classes, with the tasks that may work for them
  pub classes : List (ℕ × ℕ)
  -- key sets, with the codes that they have
  pub ksets : List (List ℕ × KeySet)
  pub counts : Counts
  -- the line of the statement that says DOUBLE, where the KDCFILE has two copies
  pub double : Option ℕ

-- the entry of a name
abbrev pub entry_of : {A : Type 0} → List (List ℕ × A) → List ℕ → Option A
entry_of entries name = lookup (bytes_eq name) entries

abbrev pub tac_of : Generated → List ℕ → Option TacEntry
tac_of g name = entry_of g.tacs name

abbrev pub user_of : Generated → List ℕ → Option UserEntry
user_of g name = entry_of g.users name

abbrev pub pterm_of : Generated → List ℕ → Option PtermEntry
pterm_of g name = entry_of g.pterms name

abbrev pub lterm_of : Generated → List ℕ → Option LtermEntry
lterm_of g name = entry_of g.lterms name

abbrev pub has_tls : Generated → List ℕ → Bool
has_tls g name = list_any (bytes_eq name) g.tls

abbrev pub has_uls : Generated → List ℕ → Bool
has_uls g name = list_any (bytes_eq name) g.uls

-- how many tasks may work for a class, where a statement says so
abbrev pub class_limit : Generated → ℕ → Option ℕ
class_limit g class = lookup (nat_eq class) g.classes

-- ---- keys and locks

-- whether a key set has a code
abbrev pub has_code : KeySet → ℕ → Bool
has_code Master code = true
has_code (Codes codes) code = list_any (nat_eq code) codes

-- the same where there may be no key set, which has no code
abbrev pub keys_have : Option KeySet → ℕ → Bool
keys_have None code = false
keys_have (Some keys) code = has_code keys code

-- the code that a TAC asks for, where it has a lock
abbrev pub lock_of : Generated → List ℕ → Option ℕ
lock_of g tac = option_and_then (λ (entry : TacEntry). entry.lock) (tac_of g tac)

-- the key set of this name, where there is a name
abbrev pub keys_named : Generated → Option (List ℕ) → Option KeySet
keys_named g name = option_and_then (λ (kset : List ℕ). entry_of g.ksets kset) name

-- the key set of a user
abbrev pub user_keys : Generated → List ℕ → Option KeySet
user_keys g user = option_and_then (λ (entry : UserEntry). keys_named g entry.kset) (user_of g user)

-- the key set of an LTERM
abbrev pub lterm_keys : Generated → List ℕ → Option KeySet
lterm_keys g lterm = option_and_then (λ (entry : LtermEntry). keys_named g entry.kset) (lterm_of g lterm)
