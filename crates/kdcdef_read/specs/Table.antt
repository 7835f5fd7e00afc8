-- The table of operands: for a statement and a key, the values of the operand and its default. Where there is no
-- row the operand is passed over.
use Rattle.std.specs.Prelude.{true, false, Option, Some, None}
use Rattle.application_types.specs.declared.kdcdef_types.entry.CallUse.TheVariants as calls
use Rattle.kdcdef_read.specs.declared.words.Keyword.{Keyword}
use Rattle.kdcdef_read.specs.declared.words.Keyword.TheVariants as keywords
use Rattle.kdcdef_read.specs.declared.words.Key.{Key}
use Rattle.kdcdef_read.specs.declared.words.Key.TheVariants as keys
use Rattle.kdcdef_read.specs.declared.rows.Choice.TheVariants as choices
use Rattle.kdcdef_read.specs.declared.rows.Kind.{Kind}
use Rattle.kdcdef_read.specs.declared.rows.Kind.TheVariants as kinds
use Rattle.kdcdef_read.specs.declared.rows.Row.{Row}
use Rattle.kdcdef_read.specs.declared.value.Value.{Value}
use Rattle.kdcdef_read.specs.declared.value.Value.TheVariants as values

-- a row without a default
abbrev pub of_kind : Kind → Option Row
of_kind kind = Some (record { kind = kind; default = None })

-- a row with a default
abbrev pub of_kind_or : Value → Kind → Option Row
of_kind_or default kind = Some (record { kind = kind; default = Some default })

-- MAX, whose defaults stand for all MAX statements together and are filled in later
abbrev pub max_row : Key → Option Row
max_row keys.Appliname = of_kind kinds.Name
max_row keys.KdcFile = of_kind kinds.File
max_row keys.Tasks = of_kind (kinds.Number 1 240)
max_row keys.Asyntasks = of_kind (kinds.Number 0 240)
max_row keys.Gssbs = of_kind (kinds.Number 0 30000)
max_row keys.Lssbs = of_kind (kinds.Number 0 1000)
max_row keys.Kb = of_kind (kinds.Number 0 32767)
max_row keys.Spab = of_kind (kinds.Number 0 32767)
max_row keys.Nb = of_kind (kinds.Number 1 32700)
max_row keys.Pgpool = of_kind (kinds.Number 16 30000)
max_row keys.Reswait = of_kind (kinds.Number 0 32767)
max_row keys.Blksize = of_kind (kinds.OneOf choices.Blksize)
max_row keys.Applimode = of_kind kinds.Mode
max_row keys.Redelivery = of_kind kinds.Redelivery
max_row key = None

-- the first operand alone, which has no key
abbrev pub first_row : Kind → Key → Option Row
first_row kind keys.First = of_kind kind
first_row kind key = None

-- TAC; the default of TACCLASS is that of TYPE
abbrev pub tac_row : Key → Option Row
tac_row keys.Program = of_kind kinds.ProgName
tac_row keys.Type = of_kind_or (values.Flag false) (kinds.OneOf choices.Type)
tac_row keys.Call = of_kind_or (values.Call calls.Both) (kinds.OneOf choices.Call)
tac_row keys.Status = of_kind_or (values.Flag true) (kinds.OneOf choices.Status)
tac_row keys.TacClass = of_kind kinds.Class
tac_row keys.Time = of_kind_or (values.Time 1000) kinds.Time
tac_row keys.Lock = of_kind (kinds.Number 1 4000)
tac_row key = first_row kinds.Name key

abbrev pub user_row : Key → Option Row
user_row keys.Pass = of_kind kinds.Password
user_row keys.Restart = of_kind_or (values.Flag true) (kinds.OneOf choices.Restart)
user_row keys.Kset = of_kind kinds.Name
user_row key = first_row kinds.Name key

abbrev pub pterm_row : Key → Option Row
pterm_row keys.Lterm = of_kind kinds.Name
pterm_row key = first_row kinds.Name key

abbrev pub lterm_row : Key → Option Row
lterm_row keys.Usage = of_kind_or (values.Flag false) (kinds.OneOf choices.Usage)
lterm_row keys.Lock = of_kind kinds.Unavailable
lterm_row keys.Kset = of_kind kinds.Name
lterm_row key = first_row kinds.Name key

abbrev pub class_row : Key → Option Row
class_row keys.First = of_kind kinds.Class
class_row keys.Tasks = of_kind_or (values.Number 240) (kinds.Number 0 240)
class_row key = None

abbrev pub kset_row : Key → Option Row
kset_row keys.Keys = of_kind kinds.Keys
kset_row key = first_row kinds.Name key

-- the row of a statement with a key
abbrev pub row_of : Keyword → Key → Option Row
row_of keywords.Max key = max_row key
row_of keywords.Program key = first_row kinds.ProgName key
row_of keywords.Tac key = tac_row key
row_of keywords.User key = user_row key
row_of keywords.Pterm key = pterm_row key
row_of keywords.Lterm key = lterm_row key
row_of keywords.Tls key = first_row kinds.Name key
row_of keywords.Uls key = first_row kinds.Name key
row_of keywords.TacClass key = class_row key
row_of keywords.Kset key = kset_row key
