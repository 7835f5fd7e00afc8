-- What a terminal input means.
use Rattle.std.specs.Prelude.{ℕ, Bool, true, false, ◌||◌, not, List, [], ◌∷◌, length, Option, Some, None, nat_lt, is_some, option_and_then, bytes_eq, codes, ◌==◌, if◌then◌else◌}
use Rattle.std.specs.List.{list_any}
use Rattle.std.specs.FinMap.{find}
use Rattle.kd_base.specs.Text.{name_of}
use Rattle.kdcs_types.specs.declared.key.ServiceId.{ServiceId}
use Rattle.kdcs_types.specs.declared.key.ServiceId.TheVariants.{Dialogue}
use Rattle.kdcs_types.specs.declared.service.Service.{Service}
use Rattle.application_types.specs.declared.kdcdef_types.entry.TacEntry.{TacEntry}
use Rattle.application_types.specs.declared.kdcdef_types.entry.PtermEntry.{PtermEntry}
use Rattle.application_types.specs.declared.kdcdef_types.entry.UserEntry.{UserEntry}
use Rattle.application_types.specs.Generation.{Generated, tac_of, user_of, pterm_of}
use Rattle.abstract_monitor.specs.declared.access.Denial.{Denial}
use Rattle.abstract_monitor.specs.declared.input_use.SignFault.TheVariants.{BadForm, UnknownUser, WrongPassword, InUse}
use Rattle.abstract_monitor.specs.declared.input_use.TacFault.TheVariants.{UnknownTac, NotAllowed, IsOff, Denied}
use Rattle.abstract_monitor.specs.declared.input_use.ServiceState.{ServiceState}
use Rattle.abstract_monitor.specs.declared.input_use.ServiceState.TheVariants.{NoService, Awaits, Running}
use Rattle.abstract_monitor.specs.declared.input_use.Use.{Use}
use Rattle.abstract_monitor.specs.declared.input_use.Use.TheVariants.{Sign, SignRefused, SignFirst, AlreadySigned, Off, Display, Output, Again, Busy, TooLong, Next, Start, TacRefused}
use Rattle.abstract_monitor.specs.Bytes.{Bytes, bytes_cmp}
use Rattle.abstract_monitor.specs.Access.{Rule, denial_of}
use Rattle.kdcs_types.specs.Keys.{id_cmp, id_eq}
use Rattle.kdcs_types.specs.Tables.{service_of}
use Rattle.abstract_monitor.specs.State.{Session, State}
use Rattle.abstract_monitor.specs.Outcomes.{goes_first}
use Rattle.abstract_monitor.specs.Calls.{or_empty}

-- ---- the service of a user

-- the task holds this service
abbrev pub in_place : ServiceId → Option ServiceId → Bool
in_place id None = false
in_place id (Some other) = id_eq id other

-- the service is ready or in a task
abbrev pub is_running : State → ServiceId → Bool
is_running s id = list_any (id_eq id) s.ready || list_any (in_place id) s.tasks

-- the row awaits an input
abbrev pub awaits_by : Option Service → Bool
awaits_by None = false
awaits_by (Some row) = row.awaits

-- after PEND KP the open transaction awaits an input; without one the row does
abbrev pub is_awaiting : State → ServiceId → Bool
is_awaiting s id = is_some (find id_cmp id s.active) || awaits_by (service_of s.tables id)

-- a service in a task may have a row that awaits
abbrev pub service_state_by : (running awaiting : Bool) → ServiceState
service_state_by true _ = Running
service_state_by false true = Awaits
service_state_by false false = NoService

-- what the dialogue service of a user does
unfoldable pub service_state : State → Bytes → ServiceState
service_state s user = service_state_by (is_running s (Dialogue user)) (is_awaiting s (Dialogue user))

-- ---- words

-- the bytes before the first such byte, and those after it, if it is there
pub record Split : Type 0 where
  pub word : Bytes
  pub rest : Option Bytes

-- the byte that parts is in neither piece
abbrev pub split_by : ℕ → Bytes → (found : Bool) → Split → Split
split_by c cs true r = record { word = []; rest = Some cs }
split_by c cs false r = record { word = c ∷ r.word; rest = r.rest }

-- at the first such byte
unfoldable pub split_at : ℕ → Bytes → Split
split_at mark [] = record { word = []; rest = None }
split_at mark (c ∷ cs) = split_by c cs (c == mark) (split_at mark cs)

-- the first word, and what is after one space
abbrev pub first_word : Bytes → Split
first_word text = split_at 32 text

-- nothing where no space follows the word
abbrev pub after_word : Split → Bytes
after_word r = or_empty r.rest

-- ---- sign-on

-- both have none, or both have the same
abbrev pub same_password : Option Bytes → Option Bytes → Bool
same_password None None = true
same_password None (Some b) = false
same_password (Some a) None = false
same_password (Some a) (Some b) = bytes_eq a b

-- the session is of this user
abbrev pub has_user : Bytes → Bytes × Session → Bool
has_user user e = bytes_eq e.1.user user

-- WrongPassword before InUse
abbrev pub sign_by : (right free : Bool) → Bytes → Use
sign_by false _ user = SignRefused WrongPassword
sign_by true false user = SignRefused InUse
sign_by true true user = Sign user

-- UnknownUser before the password
abbrev pub sign_user : List (Bytes × Session) → Bytes → Option Bytes → Option UserEntry → Use
sign_user signed user pass None = SignRefused UnknownUser
sign_user signed user pass (Some u) = sign_by (same_password u.pass pass) (not (list_any (has_user user) signed)) user

-- BadForm where no user name is there
abbrev pub sign_name : Generated → List (Bytes × Session) → Option Bytes → Option Bytes → Use
sign_name g signed pass None = SignRefused BadForm
sign_name g signed pass (Some user) = sign_user signed user pass (user_of g user)

-- after KDCSIGN stand the user and, after a comma, the password
abbrev pub sign_on_use : Generated → List (Bytes × Session) → Split → Use
sign_on_use g signed r = sign_name g signed r.rest (name_of r.word)

-- ---- uses

-- without a session: KDCSIGN alone
abbrev pub use_unsigned : Generated → List (Bytes × Session) → Split → Use
use_unsigned g signed r = if bytes_eq r.word (codes "KDCSIGN") then sign_on_use g signed (split_at 44 (after_word r)) else SignFirst

-- why this TAC is denied, or TooLong
abbrev pub admitted : Generated → Bytes → Bytes → Option Denial → Use
admitted g tac text (Some denial) = TacRefused (Denied denial)
admitted g tac text None = if nat_lt g.limits.nb (length text) then TooLong else Start tac text

-- UnknownTac, NotAllowed, IsOff, Denied and TooLong in this order
abbrev pub start_by : Generated → (denies : Bytes → Option Denial) → Bytes → Bytes → Option TacEntry → Use
start_by g denies tac text None = TacRefused UnknownTac
start_by g denies tac text (Some t) =
    if t.asynchronous || not (goes_first t.call) then TacRefused NotAllowed
    else if not t.on then TacRefused IsOff
    else admitted g tac text (denies tac)

-- the TAC that a word names
abbrev pub tac_named : Generated → Bytes → Option TacEntry
tac_named g word = option_and_then (tac_of g) (name_of word)

-- the use of a text that is no command of the terminal
abbrev pub use_of_text : Generated → (denies : Bytes → Option Denial) → Bytes → Split → ServiceState → Use
use_of_text g denies text r Running = Busy
use_of_text g denies text r Awaits = if nat_lt g.limits.nb (length text) then TooLong else Next text
use_of_text g denies text r NoService = start_by g denies r.word (after_word r) (tac_named g r.word)

-- KDCOFF while a service runs is Busy
abbrev pub off_use : ServiceState → Use
off_use Running = Busy
off_use Awaits = Off
off_use NoService = Off

-- within a session: the commands by their first word, then the text
abbrev pub use_signed : Generated → (denies : Bytes → Option Denial) → Bytes → Split → ServiceState → Use
use_signed g denies text r state =
    if bytes_eq r.word (codes "KDCSIGN") then AlreadySigned
    else if bytes_eq r.word (codes "KDCDISP") then Display
    else if bytes_eq r.word (codes "KDCOUT") then Output
    else if bytes_eq r.word (codes "KDCLAST") then Again
    else if bytes_eq r.word (codes "KDCOFF") then off_use state
    else use_of_text g denies text r state

-- with or without a session at this PTERM, which has this LTERM
abbrev pub use_by : Generated → Rule → List (Bytes × Session) → ServiceState → (lterm text : Bytes) → Option Session → Use
use_by g rule signed state lterm text None = use_unsigned g signed (first_word text)
use_by g rule signed state lterm text (Some v) = use_signed g (rule v.user lterm) text (first_word text) state

-- no LTERM where there is no such PTERM
abbrev pub lterm_by : Option PtermEntry → Bytes
lterm_by None = []
lterm_by (Some p) = p.lterm

-- what an input means under a rule, tested in this order; the state is that of the service of the user who is signed on
unfoldable pub use_under : Rule → Generated → List (Bytes × Session) → ServiceState → (pterm text : Bytes) → Use
use_under rule g signed state pterm text = use_by g rule signed state (lterm_by (pterm_of g pterm)) text (find bytes_cmp pterm signed)

-- what an input means in a generation
unfoldable pub use_of : Generated → List (Bytes × Session) → ServiceState → (pterm text : Bytes) → Use
use_of g signed state pterm text = use_under (denial_of g) g signed state pterm text
