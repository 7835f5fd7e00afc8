-- What an open transaction's next statement finds, and what each call, statement and opening keeps.
use Rattle.std.specs.Prelude.{◌≡◌, Bool, true, false, IsTrue, IsSome, List, [], ◌∷◌, Option, None, Some}
use Rattle.std.specs.List.{list_all}
use Rattle.kdcs_types.specs.declared.call.Call.{Call}
use Rattle.kdcs_types.specs.declared.call.Call.TheVariants.{Init, Mget, Mput, Fget, Fput, Dput, SgetGb, SputGb, SrelGb, SgetKp, SgetRl, SputMs, SrelLb, SgetUs, SputUs, Gtda, Ptda, UnlkGb, UnlkUs}
use Rattle.kdcs_types.specs.declared.call.Call.TheVariants.{UnlkDa, Pend}
use Rattle.kdcs_types.specs.declared.key.ServiceId.{ServiceId}
use Rattle.kdcs_types.specs.declared.key.ServiceId.TheVariants.{Dialogue, Asynchronous}
use Rattle.kdcs_types.specs.declared.key.Target.TheVariants.{Tac}
use Rattle.kdcs_types.specs.declared.service.Job.{Job}
use Rattle.kdcs_types.specs.declared.service.Service.{Service}
use Rattle.kdcs_types.specs.declared.run_state.RunState.{RunState}
use Rattle.application_types.specs.Generation.{Generated}
use Rattle.application_types.specs.UnitText.{UnitText}
use Rattle.abstract_monitor.specs.Ready.{IsReady, CanAnswer}
use Rattle.abstract_monitor.specs.Statement.{Asks, step}
use Rattle.abstract_monitor.specs.declared.answer.Called.{Called}
use Rattle.abstract_monitor.specs.declared.answer.Called.TheVariants.{Replied, Waits, Abnormal, Pends}
use Rattle.abstract_monitor.specs.declared.answer.Happened.{Happened}
use Rattle.abstract_monitor.specs.declared.answer.Happened.TheVariants.{Held, Settles}
use Rattle.abstract_monitor.specs.declared.outcome.Outcome.{Outcome}
use Rattle.abstract_monitor.specs.declared.outcome.Outcome.TheVariants.{Stay, Queue, Hold, Wait, Point, Finish, Follow, Break, Back}
use Rattle.abstract_monitor.specs.Bytes.{Bytes}
use Rattle.abstract_monitor.specs.Calls.{Told, Performed, call_outcome}
use Rattle.abstract_monitor.specs.Endings.{is_asynchronous, opened_by_start, opened_by_input, opened_by_row, opened_by_job, followed, followed_by_input}
use Rattle.abstract_monitor.specs.Statements.{Stated, statement}
use Rattle.abstract_monitor.specs.State.{Application, OpenTransaction, unit_of}
use Rattle.laws_of_states.specs.Applications.{IsApplication}
use Rattle.laws_of_states.specs.Suits.{fits_content, fits_message, has_kind, is_user, is_lterm, service_suits, job_suits}
use Rattle.laws_of_states.specs.Transactions.{fits_if_there, CanGoOn}

-- ---- the next statement

-- an operand that a call may lack
abbrev pub bytes_if_there : Option Bytes → List Bytes
bytes_if_there None = []
bytes_if_there (Some bytes) = bytes ∷ []

-- the bytes that a call has as operands
abbrev pub operands_of : Call → List Bytes
operands_of Init = []
operands_of (Mget capacity) = []
operands_of (Mput bytes) = bytes ∷ []
operands_of (Fget capacity) = []
operands_of (Fput to message) = to ∷ message ∷ []
operands_of (Dput to mode d h m s message) = to ∷ d ∷ h ∷ m ∷ s ∷ message ∷ []
operands_of (SgetGb name capacity) = name ∷ []
operands_of (SputGb name bytes) = name ∷ bytes ∷ []
operands_of (SrelGb name) = name ∷ []
operands_of (SgetKp name capacity) = name ∷ []
operands_of (SgetRl name capacity) = name ∷ []
operands_of (SputMs name bytes) = name ∷ bytes ∷ []
operands_of (SrelLb name) = name ∷ []
operands_of (SgetUs name capacity) = name ∷ []
operands_of (SputUs name bytes) = name ∷ bytes ∷ []
operands_of (Gtda name capacity) = name ∷ []
operands_of (Ptda name bytes) = name ∷ bytes ∷ []
operands_of (UnlkGb name) = name ∷ []
operands_of (UnlkUs name) = name ∷ []
operands_of (UnlkDa name) = name ∷ []
operands_of (Pend variant op) = bytes_if_there op

-- no operand is longer than an area may be
abbrev pub has_short_operands : Call → Bool
has_short_operands call = list_all fits_content (operands_of call)

-- a call that reads into a field
abbrev pub reads : Call → Bool
reads (Mget capacity) = true
reads (Fget capacity) = true
reads (SgetGb name capacity) = true
reads (SgetKp name capacity) = true
reads (SgetRl name capacity) = true
reads (SgetUs name capacity) = true
reads (Gtda name capacity) = true
reads _ = false

-- an open transaction in its unit
pub record StandsIn (app : Application) (id : ServiceId) (x : OpenTransaction) (unit : UnitText) : Type 0 where
  pub application : IsApplication app
  pub can : CanGoOn app.generation id x
  pub in_unit : unit_of app x.current ≡ Some unit

-- the unit run of an open transaction can be stepped
abbrev pub RunsAreReady : Type 0
RunsAreReady = (app : Application) (id : ServiceId) (x : OpenTransaction) (unit : UnitText) → StandsIn app id x unit → IsReady unit x.run

-- each TAC of an open transaction has a unit
abbrev pub OpensHaveUnits : Type 0
OpensHaveUnits = (app : Application) (id : ServiceId) (x : OpenTransaction) → IsApplication app → CanGoOn app.generation id x → IsSome (unit_of app x.current)

-- no operand of a call is longer than 32,767 bytes
abbrev pub OperandsAreShort : Type 0
OperandsAreShort =
    (app : Application) (id : ServiceId) (x : OpenTransaction) (unit : UnitText) (call : Call)
    → StandsIn app id x unit → step unit x.run ≡ Asks call → IsTrue (has_short_operands call)

-- ---- calls

-- what a call is told fits: content of tables that suit
abbrev pub ToldFits : Told → Type 0
ToldFits v = IsTrue (fits_if_there v.content)

-- a follow-up TAC is of the service's kind, and KP, RE and FC are of dialogue services alone
abbrev pub OutcomeFits : Generated → (asynchronous : Bool) → Outcome → Type 0
OutcomeFits g asynchronous (Stay tac) = IsTrue (has_kind g tac asynchronous)
OutcomeFits g asynchronous (Queue tac) = IsTrue (has_kind g tac asynchronous)
OutcomeFits g asynchronous (Hold tac) = IsTrue (has_kind g tac asynchronous) × (asynchronous ≡ false)
OutcomeFits g asynchronous (Wait tac) = IsTrue (has_kind g tac asynchronous) × (asynchronous ≡ false)
OutcomeFits g asynchronous (Point tac) = IsTrue (has_kind g tac asynchronous)
OutcomeFits g asynchronous (Follow tac) = IsTrue (has_kind g tac asynchronous) × (asynchronous ≡ false)
OutcomeFits g asynchronous Finish = Unit {0}
OutcomeFits g asynchronous Break = Unit {0}
OutcomeFits g asynchronous Back = Unit {0}

-- a reply can be stored, and an outcome has its follow-up
abbrev pub CalledFits : Generated → (asynchronous : Bool) → UnitText → RunState → Called → Type 0
CalledFits g asynchronous unit run (Replied reply) = CanAnswer unit run reply
CalledFits g asynchronous unit run Waits = Unit {0}
CalledFits g asynchronous unit run (Abnormal cause) = Unit {0}
CalledFits g asynchronous unit run (Pends variant o) = OutcomeFits g asynchronous o

-- after a call the transaction can go on, in the same unit run
pub record CallKeeps (g : Generated) (id : ServiceId) (x : OpenTransaction) (unit : UnitText) (p : Performed) : Type 0 where
  pub can : CanGoOn g id p.0
  pub same_run : p.0.run ≡ x.run
  pub fits : CalledFits g (is_asynchronous id) unit p.0.run p.1

-- a call that is performed
abbrev pub CallsKeep : Type 0
CallsKeep =
    (app : Application) (id : ServiceId) (x : OpenTransaction) (unit : UnitText) (v : Told) (call : Call)
    → StandsIn app id x unit → ToldFits v → step unit x.run ≡ Asks call
    → CallKeeps app.generation id x unit (call_outcome app.generation v (is_asynchronous id) x call)

-- ---- statements

-- an outcome has its follow-up
abbrev pub HappenedFits : Generated → (asynchronous : Bool) → Happened → Type 0
HappenedFits g asynchronous (Held tac) = OutcomeFits g asynchronous (Hold tac)
HappenedFits g asynchronous (Settles o) = OutcomeFits g asynchronous o
HappenedFits g asynchronous _ = Unit {0}

-- after a statement the transaction can go on
pub record StatementKeeps (g : Generated) (id : ServiceId) (r : Stated) : Type 0 where
  pub can : CanGoOn g id r.0
  pub fits : HappenedFits g (is_asynchronous id) r.1

-- a statement that is done, as a turn does it or a replay
abbrev pub StatementsKeep : Type 0
StatementsKeep =
    (app : Application) (id : ServiceId) (x : OpenTransaction) (v : Told)
    → IsApplication app → CanGoOn app.generation id x → ToldFits v → StatementKeeps app.generation id (statement app v (is_asynchronous id) x)

-- ---- further unit runs, and openings

-- so does each further unit run in the same transaction: after PR and PA, and after KP with its input
pub record FurtherRunsGoOn : Type 0 where
  pub followed : (g : Generated) (id : ServiceId) (x : OpenTransaction) (tac : Bytes)
      → IsTrue (has_kind g tac (is_asynchronous id)) → CanGoOn g id x → CanGoOn g id (followed g (is_asynchronous id) x tac)
  pub by_input : (g : Generated) (id : ServiceId) (x : OpenTransaction) (tac input : Bytes)
      → IsTrue (has_kind g tac (is_asynchronous id)) → IsTrue (fits_message g input) → CanGoOn g id x → CanGoOn g id (followed_by_input g x tac input)

-- a transaction that opens can go on
pub record OpeningsGoOn : Type 0 where
  -- by an input of a declared user at a declared LTERM, with a dialogue TAC
  pub starts : (g : Generated) (user lterm tac input : Bytes)
      → IsTrue (is_user g user) → IsTrue (is_lterm g lterm) → IsTrue (has_kind g tac false) → IsTrue (fits_message g input)
      → CanGoOn g (Dialogue user) (opened_by_start g user lterm tac input)
  -- by an input, from a row that suits
  pub inputs : (g : Generated) (user : Bytes) (row : Service) (lterm input : Bytes)
      → IsTrue (service_suits g row) → row.id ≡ Dialogue user → IsTrue (is_lterm g lterm) → IsTrue (fits_message g input)
      → CanGoOn g (Dialogue user) (opened_by_input g (Dialogue user) row lterm input)
  -- from a row that suits
  pub rows : (g : Generated) (id : ServiceId) (row : Service) (lterm : Bytes)
      → IsTrue (service_suits g row) → row.id ≡ id → IsTrue (is_lterm g lterm) → CanGoOn g id (opened_by_row g id row lterm)
  -- from a job that suits
  pub jobs : (g : Generated) (job : Job) (tac : Bytes) → IsTrue (job_suits g job) → job.value.to ≡ Tac tac → CanGoOn g (Asynchronous job.number) (opened_by_job g job.value tac)
