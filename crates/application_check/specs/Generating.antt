-- What a list of statements generates: each table by a filter, in the order of the statements.
use Rattle.std.specs.Prelude.{ℕ, Bool, false, List, [], ◌∷◌, length, Option, Some, None, unwrap_or, if◌then◌else◌}
use Rattle.std.specs.List.{filter_map}
use Rattle.std.specs.Option.{option_or}
use Rattle.application_types.specs.declared.kdcdef_types.entry.TacEntry.{TacEntry}
use Rattle.application_types.specs.declared.kdcdef_types.entry.UserEntry.{UserEntry}
use Rattle.application_types.specs.declared.kdcdef_types.entry.PtermEntry.{PtermEntry}
use Rattle.application_types.specs.declared.kdcdef_types.entry.LtermEntry.{LtermEntry}
use Rattle.application_types.specs.declared.kdcdef_types.entry.KeySet.{KeySet}
use Rattle.application_types.specs.declared.kdcdef_types.limits.Limits.{Limits}
use Rattle.application_types.specs.declared.kdcdef_types.limits.Counts.{Counts}
use Rattle.application_types.specs.declared.kdcdef_types.statement.MaxOperands.{MaxOperands}
use Rattle.application_types.specs.declared.kdcdef_types.statement.Said.{Said}
use Rattle.application_types.specs.declared.kdcdef_types.statement.Said.TheVariants.{Max, Program, Tac, User, Pterm, Lterm, Tls, Uls, TacClass, Kset, Passed}
use Rattle.application_types.specs.declared.kdcdef_types.statement.Statement.{Statement}
use Rattle.application_types.specs.Statements.{passed_count}
use Rattle.application_types.specs.Generation.{Generated}

-- ---- the entry that a statement makes in each table, if it is of the table's kind

abbrev pub as_program : ℕ → Said → Option (List ℕ × ℕ)
as_program line (Program name) = Some (name, line)
as_program line _ = None

abbrev pub as_tac : Said → Option (List ℕ × TacEntry)
as_tac (Tac name entry) = Some (name, entry)
as_tac _ = None

abbrev pub as_user : Said → Option (List ℕ × UserEntry)
as_user (User name entry) = Some (name, entry)
as_user _ = None

abbrev pub as_pterm : Said → Option (List ℕ × PtermEntry)
as_pterm (Pterm name entry) = Some (name, entry)
as_pterm _ = None

abbrev pub as_lterm : Said → Option (List ℕ × LtermEntry)
as_lterm (Lterm name entry) = Some (name, entry)
as_lterm _ = None

abbrev pub as_tls : Said → Option (List ℕ)
as_tls (Tls name) = Some name
as_tls _ = None

abbrev pub as_uls : Said → Option (List ℕ)
as_uls (Uls name) = Some name
as_uls _ = None

abbrev pub as_class : Said → Option (ℕ × ℕ)
as_class (TacClass class tasks) = Some (class, tasks)
as_class _ = None

abbrev pub as_kset : Said → Option (List ℕ × KeySet)
as_kset (Kset name set) = Some (name, set)
as_kset _ = None

abbrev pub as_passed : Said → Option (Unit {0})
as_passed Passed = Some tt
as_passed _ = None

-- what the statements make of one kind
abbrev pub said_as : {A : Type 0} → (Said → Option A) → List Statement → List A
said_as f ss = filter_map (λ (s : Statement). f s.said) ss

abbrev pub programs_said : List Statement → List (List ℕ × ℕ)
programs_said ss = filter_map (λ (s : Statement). as_program s.line s.said) ss

-- ---- the limits

abbrev pub nothing_given : MaxOperands
nothing_given = record { appliname = None; tasks = None; asyntasks = None; gssbs = None; lssbs = None; kb = None; spab = None; nb = None; pgpool = None; reswait = None; blksize = None; redelivery = None; double = None }

-- the operands that a statement gives
abbrev pub operands_said : Said → MaxOperands
operands_said (Max m) = m
operands_said _ = nothing_given

-- what the first gives, and else the second
abbrev pub both_given : MaxOperands → MaxOperands → MaxOperands
both_given a b = record {
  appliname = option_or a.appliname b.appliname;
  tasks = option_or a.tasks b.tasks;
  asyntasks = option_or a.asyntasks b.asyntasks;
  gssbs = option_or a.gssbs b.gssbs;
  lssbs = option_or a.lssbs b.lssbs;
  kb = option_or a.kb b.kb;
  spab = option_or a.spab b.spab;
  nb = option_or a.nb b.nb;
  pgpool = option_or a.pgpool b.pgpool;
  reswait = option_or a.reswait b.reswait;
  blksize = option_or a.blksize b.blksize;
  redelivery = option_or a.redelivery b.redelivery;
  double = option_or a.double b.double;
}

-- the operands of all MAX statements together
abbrev pub max_given : List Statement → MaxOperands
max_given [] = nothing_given
max_given (s ∷ ss) = both_given (operands_said s.said) (max_given ss)

-- the limits, their defaults filled in; APPLINAME has none
abbrev pub with_defaults : MaxOperands → Limits
with_defaults m = record {
  appliname = unwrap_or m.appliname [];
  tasks = unwrap_or m.tasks 1;
  asyntasks = unwrap_or m.asyntasks 1;
  gssbs = unwrap_or m.gssbs 32;
  lssbs = unwrap_or m.lssbs 8;
  kb = unwrap_or m.kb 512;
  spab = unwrap_or m.spab 512;
  nb = unwrap_or m.nb 2048;
  pgpool = unwrap_or m.pgpool 100;
  reswait = unwrap_or m.reswait 60;
  blksize = unwrap_or m.blksize 4096;
  redelivery = unwrap_or m.redelivery 0;
}

-- ---- the copies of the KDCFILE

-- whether a statement says DOUBLE
abbrev pub says_double : Said → Bool
says_double said = unwrap_or (operands_said said).double false

-- the line of the statement that says it, if one does
abbrev pub double_said : List Statement → Option ℕ
double_said [] = None
double_said (s ∷ ss) = if says_double s.said then Some s.line else double_said ss

-- ---- the generation

abbrev pub counts_of : List Statement → Counts
counts_of ss = record {
  users = length (said_as as_user ss);
  pterms = length (said_as as_pterm ss);
  lterms = length (said_as as_lterm ss);
  tacs = length (said_as as_tac ss);
  programs = length (programs_said ss);
  passed_statements = length (said_as as_passed ss);
  passed_operands = passed_count ss;
}

abbrev pub generated : List Statement → Generated
generated ss = record {
  limits = with_defaults (max_given ss);
  programs = programs_said ss;
  tacs = said_as as_tac ss;
  users = said_as as_user ss;
  pterms = said_as as_pterm ss;
  lterms = said_as as_lterm ss;
  tls = said_as as_tls ss;
  uls = said_as as_uls ss;
  classes = said_as as_class ss;
  ksets = said_as as_kset ss;
  counts = counts_of ss;
  double = double_said ss;
}
