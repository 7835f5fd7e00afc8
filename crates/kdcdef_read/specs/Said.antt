-- What a statement says, by what its operands say.
use Rattle.std.specs.Prelude.{ℕ, Bool, true, false, List, Option, Some, None, option_and_then}
use Rattle.std.specs.Option.{option_map}
use Rattle.application_types.specs.declared.kdcdef_types.entry.CallUse.{CallUse}
use Rattle.application_types.specs.declared.kdcdef_types.entry.KeySet.{KeySet}
use Rattle.application_types.specs.declared.kdcdef_types.entry.TacEntry.{TacEntry}
use Rattle.application_types.specs.declared.kdcdef_types.statement.Said.{Said}
use Rattle.application_types.specs.declared.kdcdef_types.statement.Said.TheVariants.{Max, Program, Tac, User, Pterm, Lterm, Tls, Uls, TacClass, Kset, Passed}
use Rattle.kdcdef_read.specs.declared.words.Keyword.{Keyword}
use Rattle.kdcdef_read.specs.declared.words.Keyword.TheVariants as keywords
use Rattle.kdcdef_read.specs.declared.words.Key.{Key}
use Rattle.kdcdef_read.specs.declared.words.Key.TheVariants as keys
use Rattle.kdcdef_read.specs.declared.value.Value.{Value}
use Rattle.kdcdef_read.specs.declared.value.Value.TheVariants as values

-- ---- values of each kind

abbrev pub name_at : Option Value → Option (List ℕ)
name_at (Some (values.Name name)) = Some name
name_at value = None

abbrev pub prog_name_at : Option Value → Option (List ℕ)
prog_name_at (Some (values.ProgName name)) = Some name
prog_name_at value = None

abbrev pub number_at : Option Value → Option ℕ
number_at (Some (values.Number n)) = Some n
number_at value = None

abbrev pub class_at : Option Value → Option ℕ
class_at (Some (values.Class n)) = Some n
class_at value = None

abbrev pub redelivery_at : Option Value → Option ℕ
redelivery_at (Some (values.Redelivery n)) = Some n
redelivery_at value = None

abbrev pub time_at : Option Value → Option ℕ
time_at (Some (values.Time n)) = Some n
time_at value = None

abbrev pub call_at : Option Value → Option CallUse
call_at (Some (values.Call call)) = Some call
call_at value = None

abbrev pub flag_at : Option Value → Option Bool
flag_at (Some (values.Flag flag)) = Some flag
flag_at value = None

abbrev pub password_at : Option Value → Option (List ℕ)
password_at (Some (values.Password pass)) = Some pass
password_at value = None

-- ---- statements; `at` is what the operand with a key says, or its default

-- MAX
abbrev pub max_said : (Key → Option Value) → Said
max_said at = Max (record {
  appliname = name_at (at keys.Appliname);
  tasks = number_at (at keys.Tasks);
  asyntasks = number_at (at keys.Asyntasks);
  gssbs = number_at (at keys.Gssbs);
  lssbs = number_at (at keys.Lssbs);
  kb = number_at (at keys.Kb);
  spab = number_at (at keys.Spab);
  nb = number_at (at keys.Nb);
  pgpool = number_at (at keys.Pgpool);
  reswait = number_at (at keys.Reswait);
  blksize = number_at (at keys.Blksize);
  redelivery = redelivery_at (at keys.Redelivery);
  double = flag_at (at keys.KdcFile);
})

-- PROGRAM, TLS and ULS
abbrev pub program_said : (Key → Option Value) → Option Said
program_said at = option_map (λ (name : List ℕ). Program name) (prog_name_at (at keys.First))

abbrev pub tls_said : (Key → Option Value) → Option Said
tls_said at = option_map (λ (name : List ℕ). Tls name) (name_at (at keys.First))

abbrev pub uls_said : (Key → Option Value) → Option Said
uls_said at = option_map (λ (name : List ℕ). Uls name) (name_at (at keys.First))

-- the class of a TAC without TACCLASS is none, written 0, for a dialogue TAC
abbrev pub class_of : Bool → Option ℕ → ℕ
class_of asynchronous (Some class) = class
class_of true None = 16
class_of false None = 0

-- the operands of TAC with a key
abbrev pub tac_entry : (Key → Option Value) → Option TacEntry
tac_entry at =
    option_and_then (λ (program : List ℕ).
    option_and_then (λ (asynchronous : Bool).
    option_and_then (λ (call : CallUse).
    option_and_then (λ (on : Bool).
    option_map (λ (time : ℕ).
    record { program = program; asynchronous = asynchronous; call = call; on = on; class = class_of asynchronous (class_at (at keys.TacClass)); time = time; lock = number_at (at keys.Lock) })
    (time_at (at keys.Time))) (flag_at (at keys.Status))) (call_at (at keys.Call))) (flag_at (at keys.Type))) (prog_name_at (at keys.Program))

-- TAC
abbrev pub tac_said : (Key → Option Value) → Option Said
tac_said at = option_and_then (λ (name : List ℕ). option_map (λ (entry : TacEntry). Tac name entry) (tac_entry at)) (name_at (at keys.First))

-- USER
abbrev pub user_said : (Key → Option Value) → Option Said
user_said at =
    option_and_then (λ (name : List ℕ).
    option_map (λ (restart : Bool). User name (record { pass = password_at (at keys.Pass); restart = restart; kset = name_at (at keys.Kset) }))
    (flag_at (at keys.Restart))) (name_at (at keys.First))

-- a PTERM without LTERM is passed over
abbrev pub pterm_of : List ℕ → Option (List ℕ) → Said
pterm_of name None = Passed
pterm_of name (Some lterm) = Pterm name (record { lterm = lterm })

-- PTERM
abbrev pub pterm_said : (Key → Option Value) → Option Said
pterm_said at = option_map (λ (name : List ℕ). pterm_of name (name_at (at keys.Lterm))) (name_at (at keys.First))

-- LTERM
abbrev pub lterm_said : (Key → Option Value) → Option Said
lterm_said at =
    option_and_then (λ (name : List ℕ). option_map (λ (printer : Bool). Lterm name (record { printer = printer; kset = name_at (at keys.Kset) })) (flag_at (at keys.Usage)))
    (name_at (at keys.First))

-- TACCLASS
abbrev pub class_said : (Key → Option Value) → Option Said
class_said at =
    option_and_then (λ (class : ℕ). option_map (λ (tasks : ℕ). TacClass class tasks) (number_at (at keys.Tasks))) (class_at (at keys.First))

-- KSET
abbrev pub kset_said : (Key → Option Value) → Option KeySet → Option Said
kset_said at set =
    option_and_then (λ (name : List ℕ). option_map (λ (codes : KeySet). Kset name codes) set) (name_at (at keys.First))

-- what a statement says; none where an operand that has no default is missing; `set` is the key set that KEYS gives
abbrev pub said_of : Keyword → (Key → Option Value) → Option KeySet → Option Said
said_of keywords.Max at set = Some (max_said at)
said_of keywords.Program at set = program_said at
said_of keywords.Tac at set = tac_said at
said_of keywords.User at set = user_said at
said_of keywords.Pterm at set = pterm_said at
said_of keywords.Lterm at set = lterm_said at
said_of keywords.Tls at set = tls_said at
said_of keywords.Uls at set = uls_said at
said_of keywords.TacClass at set = class_said at
said_of keywords.Kset at set = kset_said at set
