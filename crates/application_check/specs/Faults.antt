-- A fault is at a statement.
use Rattle.std.specs.Prelude.{◌≡◌, ℕ, ◌+◌, Bool, true, false, not, ◌&&◌, ◌||◌, ◌==◌, nat_lt, codes, List, length, take, slice_get, Option, Some, None, Result, is_some, is_none, IsTrue, bytes_eq}
use Rattle.std.specs.Prelude.{count_by}
use Rattle.std.specs.List.{list_any}
use Rattle.kd_base.specs.FirstFaults.{first_by, IsFirstBy, GivesUnless}
use Rattle.application_types.specs.declared.kdcdef_types.entry.PtermEntry.{PtermEntry}
use Rattle.application_types.specs.declared.kdcdef_types.statement.Said.{Said}
use Rattle.application_types.specs.declared.kdcdef_types.statement.Said.TheVariants.{Max, Program, Tac, User, Pterm, Lterm, Tls, Uls, TacClass, Kset, Passed, End}
use Rattle.application_types.specs.declared.kdcdef_types.statement.Statement.{Statement}
use Rattle.application_types.specs.Generation.{Generated, entry_of, tac_of, user_of, pterm_of, lterm_of, has_tls, has_uls, class_limit}
use Rattle.application_check.specs.declared.kdcdef_check.fault.CheckFault.{CheckFault}
use Rattle.application_check.specs.declared.kdcdef_check.fault.CheckFault.TheVariants.{NameTwice, NoProgram, NoLterm, LtermTwice, NoMax, ClassOfWrongKind, PoolTooSmall, NoUser, TooMany, NoKset}
use Rattle.application_check.specs.declared.kdcdef_check.fault.CheckFault.TheVariants.{PoolForDouble, Memory}
use Rattle.application_types.specs.Soundness.{fits_kind, restart_count}
use Rattle.application_check.specs.Generating.{generated, max_given}

-- ---- against what the statements before it generate

-- its name is in the table already; TACs and LTERMs share their names
abbrev pub is_taken : Generated → Said → Bool
is_taken g (Program name) = is_some (entry_of g.programs name)
is_taken g (Tac name entry) = is_some (tac_of g name) || is_some (lterm_of g name)
is_taken g (User name entry) = is_some (user_of g name)
is_taken g (Pterm name entry) = is_some (pterm_of g name)
is_taken g (Lterm name entry) = is_some (lterm_of g name) || is_some (tac_of g name)
is_taken g (Tls name) = has_tls g name
is_taken g (Uls name) = has_uls g name
is_taken g (TacClass class tasks) = is_some (class_limit g class)
is_taken g (Kset name set) = is_some (entry_of g.ksets name)
is_taken g (Max m) = false
is_taken g Passed = false
is_taken g End = false

-- it is a PTERM whose LTERM has one already
abbrev pub shares_lterm : Generated → Said → Bool
shares_lterm g (Pterm name entry) = list_any (λ (p : List ℕ × PtermEntry). bytes_eq entry.lterm p.1.lterm) g.pterms
shares_lterm g _ = false

-- the place of its variant in `Said`
abbrev pub kind_of : Said → ℕ
kind_of (Max m) = 0
kind_of (Program name) = 1
kind_of (Tac name entry) = 2
kind_of (User name entry) = 3
kind_of (Pterm name entry) = 4
kind_of (Lterm name entry) = 5
kind_of (Tls name) = 6
kind_of (Uls name) = 7
kind_of (TacClass class tasks) = 8
kind_of (Kset name set) = 9
kind_of Passed = 10
kind_of End = 11

-- how many statements are of a kind
abbrev pub kind_count : ℕ → List Statement → ℕ
kind_count kind ss = count_by (λ (s : Statement). kind_of s.said == kind) ss

-- ---- against what all statements generate

abbrev pub lacks_program : Generated → Said → Bool
lacks_program g (Tac name entry) = is_none (entry_of g.programs entry.program)
lacks_program g _ = false

abbrev pub lacks_lterm : Generated → Said → Bool
lacks_lterm g (Pterm name entry) = is_none (lterm_of g entry.lterm)
lacks_lterm g _ = false

-- there is a name, and no KSET has it
abbrev pub lacks_keys : Generated → Option (List ℕ) → Bool
lacks_keys g None = false
lacks_keys g (Some name) = is_none (entry_of g.ksets name)

-- a USER or an LTERM that names no KSET
abbrev pub lacks_kset : Generated → Said → Bool
lacks_kset g (User name entry) = lacks_keys g entry.kset
lacks_kset g (Lterm name entry) = lacks_keys g entry.kset
lacks_kset g _ = false

abbrev pub has_other_class : Said → Bool
has_other_class (Tac name entry) = not (fits_kind entry)
has_other_class _ = false

abbrev pub is_end : Said → Bool
is_end End = true
is_end _ = false

-- the pool has no page for each user with RESTART=YES and each LTERM
abbrev pub has_small_pool : Generated → Bool
has_small_pool g = nat_lt g.limits.pgpool (restart_count g.users + length g.lterms)

abbrev pub lacks_user : Generated → Bool
lacks_user g = length g.users == 0

-- there are two copies of the KDCFILE, and PGPOOL is so great that none of them has room for one page more
abbrev pub has_full_pool : Generated → Bool
has_full_pool g = is_some g.double && (g.limits.pgpool == 30000)

-- ---- faults

-- what the statement says, of all statements and after those before it, shows the fault
abbrev pub shows : List Statement → List Statement → Said → CheckFault → Bool
shows all before said (NameTwice n) = is_taken (generated before) said
shows all before said (NoProgram n) = lacks_program (generated all) said
shows all before said (NoLterm n) = lacks_lterm (generated all) said
shows all before said (LtermTwice n) = shares_lterm (generated before) said
shows all before said (NoMax n) = is_end said && is_none (max_given all).appliname
shows all before said (ClassOfWrongKind n) = has_other_class said
shows all before said (PoolTooSmall n) = is_end said && has_small_pool (generated all)
shows all before said (NoUser n) = is_end said && lacks_user (generated all)
shows all before said (TooMany n) = kind_count (kind_of said) before == 20000
shows all before said (NoKset n) = lacks_kset (generated all) said
shows all before said (PoolForDouble n) = is_end said && has_full_pool (generated all)
shows all before said Memory = false

-- its line, its number among the faults of one line, and the name by which it is printed
abbrev pub row_of : CheckFault → ℕ × ℕ × List ℕ
row_of (NameTwice n) = (n, 1, codes "NameTwice")
row_of (NoProgram n) = (n, 2, codes "NoProgram")
row_of (NoLterm n) = (n, 3, codes "NoLterm")
row_of (LtermTwice n) = (n, 4, codes "LtermTwice")
row_of (NoMax n) = (n, 5, codes "NoMax")
row_of (ClassOfWrongKind n) = (n, 6, codes "ClassOfWrongKind")
row_of (PoolTooSmall n) = (n, 7, codes "PoolTooSmall")
row_of (NoUser n) = (n, 8, codes "NoUser")
row_of (TooMany n) = (n, 9, codes "TooMany")
row_of (NoKset n) = (n, 11, codes "NoKset")
row_of (PoolForDouble n) = (n, 12, codes "PoolForDouble")
row_of Memory = (0, 0, codes "Memory")

abbrev pub line_of : CheckFault → ℕ
line_of fault = (row_of fault).0

abbrev pub number_of : CheckFault → ℕ
number_of fault = (row_of fault).1

abbrev pub name_of : CheckFault → List ℕ
name_of fault = (row_of fault).2

-- the statement has the fault, on its line
abbrev pub HasFault : List Statement → List Statement → Statement → CheckFault → Type 0
HasFault all before s fault = (line_of fault ≡ s.line) × IsTrue (shows all before s.said fault)

-- a statement has the fault
abbrev pub SomeHasFault : List Statement → CheckFault → Type 0
SomeHasFault ss fault = (i : ℕ) × (s : Statement) × (slice_get ss i ≡ Some s) × HasFault ss (take i ss) s fault

abbrev pub comes_first : CheckFault → CheckFault → Bool
comes_first a b = first_by line_of number_of a b

-- there is no fault
abbrev pub AreFaultless : List Statement → Type 0
AreFaultless ss = (fault : CheckFault) → SomeHasFault ss fault → ⊥

-- the fault is there, and none on a lesser line, nor one of a lesser number on its line
abbrev pub IsFirstFault : List Statement → CheckFault → Type 0
IsFirstFault ss fault = IsFirstBy line_of number_of (SomeHasFault ss) (Some fault)

abbrev pub is_memory : CheckFault → Bool
is_memory Memory = true
is_memory fault = false

-- what came back is this, unless memory ran out
abbrev pub Gives : {A : Type 0} → Result A CheckFault → Result A CheckFault → Type 0
Gives returned wanted = GivesUnless is_memory returned wanted
