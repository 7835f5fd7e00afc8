-- Parts of a call: the area in its operand, and how it goes on once its lock is answered.
use Rattle.std.specs.Prelude.{◌≡◌, ℕ, Bool, Option, Some, None, Result, Ok, Err, if◌then◌else◌, option_map}
use Rattle.kdcs_types.specs.declared.call.Call.{Call}
use Rattle.kdcs_types.specs.declared.call.Call.TheVariants.{SgetUs, SputUs, Gtda, Ptda, UnlkUs, UnlkDa}
use Rattle.kdcs_types.specs.declared.call.Code.{Code}
use Rattle.kdcs_types.specs.declared.call.Code.TheVariants.{K03, K08, K11}
use Rattle.kdcs_types.specs.declared.key.Area.{Area}
use Rattle.kdcs_types.specs.declared.key.Area.TheVariants.{Gssb, Tls, Uls}
use Rattle.kdcs_types.specs.declared.key.ServiceId.{ServiceId}
use Rattle.kdcs_types.specs.Keys.{area_cmp}
use Rattle.kdcs_types.specs.Tables.{TableRows, content_of}
use Rattle.std.specs.FinMap.{find}
use Rattle.application_types.specs.Generation.{Generated}
use Rattle.monitor_parts.specs.Asked.{asked, unlocked}
use Rattle.abstract_monitor.specs.declared.answer.Called.{Called}
use Rattle.abstract_monitor.specs.Bytes.{Bytes, bytes_cmp}
use Rattle.abstract_monitor.specs.Calls.{Told, Performed, declared, for_kind, name_in_operand, put_part, replied, locked, or_empty, read_answer, read_away, read_or, shown_by, delete_local, deleted}
use Rattle.abstract_monitor.specs.Calls.{with_name, write_local, wrote}
use Rattle.abstract_monitor.specs.Calls as calls
use Rattle.abstract_monitor.specs.Locks.{Locks, answer_of, told_now}
use Rattle.abstract_monitor.specs.State.{OpenTransaction as Transaction}
use Rattle.open_transaction.specs.declared.open.OpenTransaction.{OpenTransaction}
use Rattle.open_transaction.specs.Transactions.{transaction_of}
use Rattle.kdcs_calls.specs.declared.operand.Owner.{Owner}
use Rattle.kdcs_calls.specs.declared.operand.Owner.TheVariants.{All, User, Lterm}
use Rattle.kdcs_calls.specs.declared.areas.Access.{Access}
use Rattle.kdcs_calls.specs.declared.areas.Access.TheVariants.{Read, ReadBlock, Write, Delete}
use Rattle.kdcs_calls.specs.declared.locals.Local.{Local}
use Rattle.kdcs_calls.specs.declared.locals.Local.TheVariants as local
use Rattle.kdcs_calls.specs.Calling.{is_declared, may_release}

-- what a call is told of this area
abbrev pub told_of : Generated → TableRows → Locks → ServiceId → Area → Told
told_of g t l id area = record { answer = answer_of l g.limits.reswait t.clock id area; content = content_of t area }

-- ---- the area in an operand

-- the area of this name
abbrev pub named_by : Owner → Bytes → Area
named_by All name = Gssb name
named_by (User user) name = Uls name user
named_by (Lterm lterm) name = Tls name lterm

-- whose area a call names
abbrev pub owner_of : Transaction → Call → Owner
owner_of x (SgetUs name capacity) = User x.user
owner_of x (SputUs name bytes) = User x.user
owner_of x (UnlkUs name) = User x.user
owner_of x (Gtda name capacity) = Lterm x.lterm
owner_of x (Ptda name bytes) = Lterm x.lterm
owner_of x (UnlkDa name) = Lterm x.lterm
owner_of x _ = All

-- K11 where the operand is no name, K08 where it names a block that is not declared
abbrev pub area_by : Generated → (Bytes → Area) → Option Bytes → Result Area Code
area_by g named None = Err K11
area_by g named (Some name) = if is_declared g (named name) then Ok (named name) else Err K08

-- a call goes on with the area in its operand
abbrev pub in_area : Transaction → Result Area Code → (Area → Performed) → Performed
in_area x (Err code) go = replied x code
in_area x (Ok area) go = go area

-- ---- locks

-- the call goes on with the lock, or answers without it
abbrev pub after_lock : Option Called → Transaction → (Transaction → Performed) → Performed
after_lock None x go = go x
after_lock (Some called) x go = (x, called)

-- goes on as a call does that has asked for the lock of an area, with what the locks and the tables say of it
abbrev pub AnswersLock : Generated → TableRows → Locks → OpenTransaction → Area → Option Called → Transaction → Type 0
AnswersLock g t l w area called y = (go : Transaction → Performed) → after_lock called y go ≡ locked (told_of g t l w.id area) (transaction_of w) area go

-- the locks after a request for the area in an operand
abbrev pub asked_in : Generated → (now : ℕ) → Locks → ServiceId → Result Area Code → Locks
asked_in g now l id (Err code) = l
asked_in g now l id (Ok area) = asked l g.limits.reswait now id area

-- the locks after UNLK of the area in an operand
abbrev pub released_in : Locks → ServiceId → Transaction → Result Area Code → Locks
released_in l id x (Err code) = l
released_in l id x (Ok area) = if may_release x area then unlocked l id area else l

-- what a transaction sees of an area with this content in the tables
abbrev pub seen_of : Option Bytes → Transaction → Area → Option Bytes
seen_of content x area = shown_by (find area_cmp area x.written) content

-- what a call does with an area that it holds, and that has this content in the tables
abbrev pub held : Access → (content : Option Bytes) → Transaction → Area → Performed
held (Read capacity) content x area = read_or K03 x capacity (seen_of content x area)
held (ReadBlock capacity) content x area = read_answer x capacity (or_empty (seen_of content x area))
held (Write bytes) content x area = wrote x area (Some bytes.now)
held Delete content x area = deleted x area (seen_of content x area)

-- what a call does with the area that it has locked
abbrev pub accessed : Access → Told → Transaction → Area → Performed
accessed access v x area = locked v x area (λ y. held access v.content y area)

-- a call goes on with the area of the name in its operand, and is told of it
abbrev pub goes_on : Generated → TableRows → Locks → ServiceId → Transaction → (Bytes → Area) → (Told → Area → Performed) → Option Bytes → Performed
goes_on g t l id x named go o = with_name x o (λ name. declared x (is_declared g (named name)) (go (told_now l g.limits.reswait t id (option_map named o)) (named name)))

-- what a call does with the area in its operand
abbrev pub accessed_in : Generated → TableRows → Locks → OpenTransaction → Result Area Code → Access → Performed
accessed_in g t l w area access = in_area (transaction_of w) area (λ a. accessed access (told_of g t l w.id a) (transaction_of w) a)

abbrev pub accessed_by : Generated → TableRows → Locks → OpenTransaction → Owner → (operand : Bytes) → Access → Performed
accessed_by g t l w owner operand access =
    goes_on g t l w.id (transaction_of w) (named_by owner) (λ v a. accessed access v (transaction_of w) a) (name_in_operand operand)

-- what UNLK does with it
abbrev pub unlocked_in : Generated → TableRows → Locks → OpenTransaction → Result Area Code → Performed
unlocked_in g t l w area = in_area (transaction_of w) area (λ a. calls.unlocked (told_of g t l w.id a) (transaction_of w) a)

abbrev pub unlocked_by : Generated → TableRows → Locks → OpenTransaction → Owner → (operand : Bytes) → Performed
unlocked_by g t l w owner operand =
    goes_on g t l w.id (transaction_of w) (named_by owner) (λ v a. calls.unlocked v (transaction_of w) a) (name_in_operand operand)

-- MPUT of a part, where this is what the area of messages takes
abbrev pub PutsPart : OpenTransaction → (allowed : Bool) → (part : Bytes) → Performed → Type 0
PutsPart w allowed part performed =
    (g : Generated) → w.messages.nb ≡ g.limits.nb → performed ≡ for_kind (transaction_of w) allowed (put_part g (transaction_of w) part)

-- what a call does with an LSSB
abbrev pub local_call : Generated → Local → Transaction → Bytes → Performed
local_call g (local.Read capacity) x name = read_or K03 x capacity (find bytes_cmp name x.lssbs)
local_call g (local.ReadAway capacity) x name = read_away x name capacity
local_call g (local.Write bytes) x name = write_local g x name bytes.now
local_call g local.Delete x name = delete_local x name

-- and with the LSSB in its operand
abbrev pub local_by : Generated → Transaction → (operand : Bytes) → Local → Performed
local_by g x operand access = with_name x (name_in_operand operand) (λ n. local_call g access x n)
