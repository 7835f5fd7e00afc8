-- What the passes over the statements have, one statement after another.
use Rattle.std.specs.Prelude.{◌≡◌, ℕ, ◌<◌, ◌≤◌, ◌&&◌, ◌==◌, Bool, false, nat_eq, bytes_eq, is_some, is_none, List, [], ◌∷◌, length, take, slice_get, Option, Some, None, fold, slice_index}
use Rattle.std.specs.List.{All, list_any}
use Rattle.std.specs.Map.{lookup}
use Rattle.indexmap.specs.IndexMap.{insert_entry}
use Rattle.indexmap.specs.IndexSet.{insert_key}
use Rattle.kd_base.specs.FirstFaults.{earlier_by, IsFirstBy, first_true, IsTested}
use Rattle.kd_base.specs.Text.{IsName}
use Rattle.application_types.specs.declared.kdcdef_types.entry.PtermEntry.{PtermEntry}
use Rattle.application_types.specs.declared.kdcdef_types.limits.Limits.{Limits}
use Rattle.application_types.specs.declared.kdcdef_types.limits.Counts.{Counts}
use Rattle.application_types.specs.declared.kdcdef_types.statement.Said.{Said}
use Rattle.application_types.specs.declared.kdcdef_types.statement.Said.TheVariants.{Tac, User, Pterm, Lterm}
use Rattle.application_types.specs.declared.kdcdef_types.statement.Statement.{Statement}
use Rattle.application_types.specs.Generation.{Generated, entry_of, tac_of, user_of, pterm_of, lterm_of, has_tls, has_uls, class_limit}
use Rattle.application_check.specs.Generating.{as_program, as_tac, as_user, as_pterm, as_lterm, as_tls, as_uls, as_class, as_kset, said_as, max_given, double_said, generated}
use Rattle.application_check.specs.Faults.{kind_of, kind_count, is_taken, shares_lterm, has_other_class, lacks_program, lacks_lterm, lacks_kset, is_end, has_small_pool, lacks_user, has_full_pool}
use Rattle.application_check.specs.Faults.{line_of, number_of}
use Rattle.application_check.specs.declared.kdcdef_check.fault.CheckFault.{CheckFault}
use Rattle.application_check.specs.declared.kdcdef_check.fault.CheckFault.TheVariants.{NameTwice, NoProgram, NoLterm, LtermTwice, NoMax, ClassOfWrongKind, PoolTooSmall, NoUser, TooMany, NoKset}
use Rattle.application_check.specs.declared.kdcdef_check.fault.CheckFault.TheVariants.{PoolForDouble}
use Rattle.application_check.specs.declared.kdcdef_check.tally.Tally.{Tally}
use Rattle.application_check.specs.declared.kdcdef_check.tables.Tables.{Tables}
use Rattle.application_check.specs.declared.kdcdef_check.whole.Whole.{Whole}
use Rattle.application_types.specs.Soundness.{restart_count}

-- ---- the first fault

-- the first of two faults that were found
abbrev pub earlier : Option CheckFault → Option CheckFault → Option CheckFault
earlier a b = earlier_by line_of number_of a b

-- none is such a fault, or it is one, and comes first of them
abbrev pub IsFirstOf : (CheckFault → Type 0) → Option CheckFault → Type 0
IsFirstOf Such found = IsFirstBy line_of number_of Such found

-- a fault of one of the first n statements
abbrev pub AmongFirst : List Statement → (ℕ → Statement → CheckFault → Type 0) → ℕ → CheckFault → Type 0
AmongFirst ss Such n fault = (i : ℕ) × (s : Statement) × (i < n) × (slice_get ss i ≡ Some s) × Such i s fault

-- a statement's own faults in their order, each with its test, where so many of its kind are before it
abbrev pub own_tests : Generated → ℕ → Statement → List (Bool × CheckFault)
own_tests g count s =
    (is_taken g s.said, NameTwice s.line)
    ∷ (shares_lterm g s.said, LtermTwice s.line)
    ∷ (has_other_class s.said, ClassOfWrongKind s.line)
    ∷ (count == 20000, TooMany s.line)
    ∷ []

-- the first of them
abbrev pub own_fault : Generated → ℕ → Statement → Option CheckFault
own_fault g count s = first_true (own_tests g count s)

-- a statement's faults against all statements in their order
abbrev pub outer_tests : List Statement → Statement → List (Bool × CheckFault)
outer_tests all s =
    (lacks_program (generated all) s.said, NoProgram s.line)
    ∷ (lacks_lterm (generated all) s.said, NoLterm s.line)
    ∷ (is_end s.said && is_none (max_given all).appliname, NoMax s.line)
    ∷ (is_end s.said && has_small_pool (generated all), PoolTooSmall s.line)
    ∷ (is_end s.said && lacks_user (generated all), NoUser s.line)
    ∷ (lacks_kset (generated all) s.said, NoKset s.line)
    ∷ (is_end s.said && has_full_pool (generated all), PoolForDouble s.line)
    ∷ []

-- the first of them
abbrev pub outer_fault : List Statement → Statement → Option CheckFault
outer_fault all s = first_true (outer_tests all s)

-- a statement has the fault at itself and those before it
abbrev pub OwnFault : List Statement → ℕ → Statement → CheckFault → Type 0
OwnFault all i s fault = IsTested (own_tests (generated (take i all)) (kind_count (kind_of s.said) (take i all)) s) fault

-- a statement has the fault against all statements
abbrev pub OuterFault : List Statement → ℕ → Statement → CheckFault → Type 0
OuterFault all i s fault = IsTested (outer_tests all s) fault

-- ---- tables

-- the LTERM of a PTERM
abbrev pub lterm_said : Said → Option (List ℕ)
lterm_said (Pterm name entry) = Some entry.lterm
lterm_said _ = None

-- a table with one more entry, or none; a name that is there keeps its place and takes the value
abbrev pub put : {K V : Type 0} → (K → K → Bool) → Option (K × V) → List (K × V) → List (K × V)
put eq None entries = entries
put eq (Some entry) entries = insert_entry eq entries entry.0 entry.1

-- a set with one more key, or none
abbrev pub put_key : {K : Type 0} → (K → K → Bool) → Option K → List K → List K
put_key eq None keys = keys
put_key eq (Some key) keys = insert_key eq keys key

-- the tables after one more statement
pub record IsAdded (old new : Tables) (line : ℕ) (said : Said) : Type 0 where
  pub programs : new.programs.entries ≡ put bytes_eq (as_program line said) old.programs.entries
  pub tacs : new.tacs.entries ≡ put bytes_eq (as_tac said) old.tacs.entries
  pub users : new.users.entries ≡ put bytes_eq (as_user said) old.users.entries
  pub pterms : new.pterms.entries ≡ put bytes_eq (as_pterm said) old.pterms.entries
  pub lterms : new.lterms.entries ≡ put bytes_eq (as_lterm said) old.lterms.entries
  pub tls : new.tls.keys ≡ put_key bytes_eq (as_tls said) old.tls.keys
  pub uls : new.uls.keys ≡ put_key bytes_eq (as_uls said) old.uls.keys
  pub classes : new.classes.entries ≡ put nat_eq (as_class said) old.classes.entries
  pub ksets : new.ksets.entries ≡ put bytes_eq (as_kset said) old.ksets.entries
  pub served : new.served.keys ≡ put_key bytes_eq (lterm_said said) old.served.keys

-- what the statements make, put in one after another
abbrev pub filled_by : {A : Type 0} → (Option A → List A → List A) → (Statement → Option A) → List Statement → List A
filled_by {A} add f ss = fold (λ (made : List A) (s : Statement). add (f s) made) [] ss

-- a table of what the statements make
abbrev pub table_of : {K V : Type 0} → (K → K → Bool) → (Statement → Option (K × V)) → List Statement → List (K × V)
table_of eq f ss = filled_by (put eq) f ss

abbrev pub keys_table : {K : Type 0} → (K → K → Bool) → (Statement → Option K) → List Statement → List K
keys_table eq f ss = filled_by (put_key eq) f ss

-- the tables were filled from these statements
pub record AreFilled (t : Tables) (ss : List Statement) : Type 0 where
  pub programs : t.programs.entries ≡ table_of bytes_eq (λ (s : Statement). as_program s.line s.said) ss
  pub tacs : t.tacs.entries ≡ table_of bytes_eq (λ (s : Statement). as_tac s.said) ss
  pub users : t.users.entries ≡ table_of bytes_eq (λ (s : Statement). as_user s.said) ss
  pub pterms : t.pterms.entries ≡ table_of bytes_eq (λ (s : Statement). as_pterm s.said) ss
  pub lterms : t.lterms.entries ≡ table_of bytes_eq (λ (s : Statement). as_lterm s.said) ss
  pub tls : t.tls.keys ≡ keys_table bytes_eq (λ (s : Statement). as_tls s.said) ss
  pub uls : t.uls.keys ≡ keys_table bytes_eq (λ (s : Statement). as_uls s.said) ss
  pub classes : t.classes.entries ≡ table_of nat_eq (λ (s : Statement). as_class s.said) ss
  pub ksets : t.ksets.entries ≡ table_of bytes_eq (λ (s : Statement). as_kset s.said) ss
  pub served : t.served.keys ≡ keys_table bytes_eq (λ (s : Statement). lterm_said s.said) ss

-- the name of a TAC, a user, a PTERM or an LTERM is one
abbrev pub IsNamed : Said → Type 0
IsNamed (Tac name entry) = IsName name
IsNamed (User name entry) = IsName name
IsNamed (Pterm name entry) = IsName name
IsNamed (Lterm name entry) = IsName name
IsNamed _ = Unit {0}

abbrev pub AllNamed : List Statement → Type 0
AllNamed ss = All (λ (s : Statement). IsNamed s.said) ss

-- the tables have the names of a generation
pub record HaveNames (t : Tables) (g : Generated) : Type 0 where
  pub programs : (name : List ℕ) → is_some (entry_of t.programs.entries name) ≡ is_some (entry_of g.programs name)
  pub tacs : (name : List ℕ) → is_some (entry_of t.tacs.entries name) ≡ is_some (tac_of g name)
  pub users : (name : List ℕ) → is_some (entry_of t.users.entries name) ≡ is_some (user_of g name)
  pub pterms : (name : List ℕ) → is_some (entry_of t.pterms.entries name) ≡ is_some (pterm_of g name)
  pub lterms : (name : List ℕ) → is_some (entry_of t.lterms.entries name) ≡ is_some (lterm_of g name)
  pub tls : (name : List ℕ) → list_any (bytes_eq name) t.tls.keys ≡ has_tls g name
  pub uls : (name : List ℕ) → list_any (bytes_eq name) t.uls.keys ≡ has_uls g name
  pub classes : (class : ℕ) → is_some (lookup (nat_eq class) t.classes.entries) ≡ is_some (class_limit g class)
  pub ksets : (name : List ℕ) → is_some (entry_of t.ksets.entries name) ≡ is_some (entry_of g.ksets name)
  pub served : (name : List ℕ) → list_any (bytes_eq name) t.served.keys ≡ list_any (λ (p : List ℕ × PtermEntry). bytes_eq name p.1.lterm) g.pterms

-- the tables that other statements name have the names of a generation
pub record HaveNamed (t : Tables) (g : Generated) : Type 0 where
  pub programs : (name : List ℕ) → is_some (entry_of t.programs.entries name) ≡ is_some (entry_of g.programs name)
  pub lterms : (name : List ℕ) → is_some (entry_of t.lterms.entries name) ≡ is_some (lterm_of g name)
  pub ksets : (name : List ℕ) → is_some (entry_of t.ksets.entries name) ≡ is_some (entry_of g.ksets name)

-- the same tables were filled from these statements
pub record AreNamedFilled (t : Tables) (ss : List Statement) : Type 0 where
  pub programs : t.programs.entries ≡ table_of bytes_eq (λ (s : Statement). as_program s.line s.said) ss
  pub lterms : t.lterms.entries ≡ table_of bytes_eq (λ (s : Statement). as_lterm s.said) ss
  pub ksets : t.ksets.entries ≡ table_of bytes_eq (λ (s : Statement). as_kset s.said) ss

-- ---- counts

pub record IsTallyOf (t : Tally) (ss : List Statement) : Type 0 where
  pub kinds : length t.counts ≡ 12
  pub counts : (kind : ℕ) → kind < 12 → slice_index t.counts kind ≡ kind_count kind ss

-- no kind has more than 20,000
abbrev pub AreFew : Tally → Type 0
AreFew t = (kind : ℕ) → kind < 12 → slice_index t.counts kind ≤ 20000

abbrev pub counts_in : Tally → ℕ → Counts
counts_in t passed = record { users = slice_index t.counts 3; pterms = slice_index t.counts 4; lterms = slice_index t.counts 5; tacs = slice_index t.counts 2; programs = slice_index t.counts 1; passed_statements = slice_index t.counts 10; passed_operands = passed }

-- the generation that filled tables, limits, counts and the line of DOUBLE are
abbrev pub made_of : Tables → Limits → Counts → Option ℕ → Generated
made_of t limits counts double = record { limits = limits; programs = t.programs.entries; tacs = t.tacs.entries; users = t.users.entries; pterms = t.pterms.entries; lterms = t.lterms.entries; tls = t.tls.keys; uls = t.uls.keys; classes = t.classes.entries; ksets = t.ksets.entries; counts = counts; double = double }

-- a USER statement with RESTART=YES
abbrev pub is_restart : Said → Bool
is_restart (User name entry) = entry.restart
is_restart _ = false

-- what all statements say together
pub record SaysTogether (w : Whole) (ss : List Statement) : Type 0 where
  pub max : w.max ≡ max_given ss
  pub users : w.users ≡ length (said_as as_user ss)
  pub restarts : w.restarts ≡ restart_count (said_as as_user ss)
  pub lterms : w.lterms ≡ length (said_as as_lterm ss)
  pub double : w.double ≡ double_said ss
