-- What a statement looks at: either at nothing outside its transaction, or at the answer and content of one area that it asks for, or at the content of one that it gives up.
use Rattle.std.specs.Prelude.{◌≡◌, refl, ℕ, ◌+◌, Bool, true, false, cond, ◌&&◌, not, IsTrue, List, [], ◌∷◌, ◌++◌, length, sum_by, nat_le, nat_lt, is_some, Option, Some, None, Result, Ok, Err}
use Rattle.std.specs.Prelude.{option_map}
use Rattle.std.proofs.Common.{sym, ap, subst}
use Rattle.std.proofs.lemmas.List.{append-nil}
use Rattle.std.specs.FinMap.{find, put}
use Rattle.kd_base.specs.declared.words.Variant.{Variant}
use Rattle.kdcs_types.specs.declared.call.Call.{Call}
use Rattle.kdcs_types.specs.declared.call.Call.TheVariants.{Init, Mget, Mput, Fget, Fput, Dput, SgetGb, SputGb, SrelGb, SgetKp, SgetRl, SputMs, SrelLb, SgetUs, SputUs, Gtda, Ptda, UnlkGb, UnlkUs}
use Rattle.kdcs_types.specs.declared.call.Call.TheVariants.{UnlkDa, Pend}
use Rattle.kdcs_types.specs.declared.call.Cause.{Cause}
use Rattle.kdcs_types.specs.declared.call.Code.{Code}
use Rattle.kdcs_types.specs.declared.call.Code.TheVariants.{Done, K03, K06, K07, K09}
use Rattle.kdcs_types.specs.declared.call.Reply.{Reply}
use Rattle.kdcs_types.specs.declared.key.Area.{Area}
use Rattle.kdcs_types.specs.declared.key.Area.TheVariants.{Gssb, Tls, Uls}
use Rattle.kdcs_types.specs.declared.key.Target.{Target}
use Rattle.kdcs_types.specs.declared.service.Note.{Note}
use Rattle.kdcs_types.specs.Keys.{area_cmp}
use Rattle.application_types.specs.Generation.{Generated, has_tls, has_uls}
use Rattle.application_types.specs.UnitText.{UnitText}
use Rattle.abstract_monitor.specs.Statement.{Meaning, Plain, Asks, Ends, step}
use Rattle.abstract_monitor.specs.declared.answer.Called.{Called}
use Rattle.abstract_monitor.specs.declared.answer.Called.TheVariants.{Replied, Waits, Abnormal, Pends}
use Rattle.abstract_monitor.specs.declared.answer.Happened.{Happened}
use Rattle.abstract_monitor.specs.declared.answer.Happened.TheVariants.{Went, Queued, Waited}
use Rattle.abstract_monitor.specs.declared.draft.Due.{Due}
use Rattle.abstract_monitor.specs.declared.draft.Draft.{Draft}
use Rattle.abstract_monitor.specs.declared.outcome.Outcome.{Outcome}
use Rattle.abstract_monitor.specs.declared.outcome.Outcome.TheVariants.{Stay, Queue}
use Rattle.abstract_monitor.specs.Bytes.{Bytes, bytes_cmp}
use Rattle.abstract_monitor.specs.Calls.{Told, Performed, touches, locked, for_kind, within_length, with_name, declared, name_in_operand, read_or, or_empty, read_answer, replied, got_by, drafted}
use Rattle.abstract_monitor.specs.Calls.{put_job, job_target, deleted, wrote, shown_by, unlocked_by, unlocked, read_away_by, delete_local_by, pended, called, first_call, called_by, call_outcome}
use Rattle.abstract_monitor.specs.Endings.{followed}
use Rattle.abstract_monitor.specs.State.{Application, OpenTransaction, unit_of}
use Rattle.abstract_monitor.specs.Statements.{Stated, area_of_call, area_of_step, area_in_unit, area_of, by_outcome, by_call, by_performed, by_step, in_unit, statement}

-- ---- what becomes of a transaction

-- y goes on from x, with these areas, notes and number of statements
pub record Becomes (x y : OpenTransaction) (areas : List Area) (kept : List Note) (done : ℕ) : Type 0 where
  pub began : y.began ≡ x.began
  pub first : y.first ≡ x.first
  pub lterm : y.lterm ≡ x.lterm
  pub inputs : y.inputs ≡ x.inputs
  pub touched : y.touched ≡ areas
  pub notes : y.notes ≡ kept
  pub statements : y.statements ≡ done

-- no area, note or statement more
abbrev pub IsQuietly : OpenTransaction → OpenTransaction → Type 0
IsQuietly x y = Becomes x y x.touched x.notes x.statements

-- one statement more, and no area and note
abbrev pub IsCounted : OpenTransaction → OpenTransaction → Type 0
IsCounted x y = Becomes x y x.touched x.notes (x.statements + 1)

-- what a call leaves that is told nothing
abbrev pub CallLeaves : OpenTransaction → OpenTransaction → Called → Type 0
CallLeaves x y (Replied reply) = IsQuietly x y
CallLeaves x y Waits = ⊥
CallLeaves x y (Abnormal cause) = y ≡ x
CallLeaves x y (Pends variant o) = y ≡ x

-- the call is answered, and changes no areas and notes
abbrev pub AnsweredBy : OpenTransaction → OpenTransaction → Called → Type 0
AnsweredBy x y (Replied reply) = IsQuietly x y
AnsweredBy x y _ = ⊥

abbrev pub IsAnswered : OpenTransaction → Performed → Type 0
IsAnswered x p = AnsweredBy x p.0 p.1

-- what a statement leaves that is told nothing
abbrev pub StatementLeaves : OpenTransaction → OpenTransaction → Happened → Type 0
StatementLeaves x y Went = IsCounted x y
StatementLeaves x y Queued = IsCounted x y
StatementLeaves x y Waited = ⊥
StatementLeaves x y _ = y ≡ x

-- ---- what is looked at

-- what a call looks at of what it is told
pub data CallLooks (x : OpenTransaction) (of : Option Area) (f : Told → Performed) : Type 0 where
  -- at nothing
  Alone : (p : Performed) → ((v : Told) → f v ≡ p) → CallLeaves x p.0 p.1 → CallLooks x of f
  -- it asks for this area, and then looks at its content
  Locks : (area : Area) (go : Option Bytes → OpenTransaction → Performed) → of ≡ Some area → ((v : Told) → f v ≡ locked v x area (go v.content))
      → ((c : Option Bytes) (y : OpenTransaction) → IsAnswered y (go c y)) → CallLooks x of f
  -- it gives up this area, and notes its content
  Unlocks : (area : Area) → of ≡ Some area → IsTrue (touches x area) → ((v : Told) → f v ≡ unlocked_by v x area true false) → CallLooks x of f

-- the same of a statement
pub data StatementLooks (app : Application) (asynchronous : Bool) (x : OpenTransaction) (of : Option Area) (f : Told → Stated) : Type 0 where
  StatementAlone : (r : Stated) → ((v : Told) → f v ≡ r) → StatementLeaves x r.0 r.1 → StatementLooks app asynchronous x of f
  StatementLocks : (unit : UnitText) (area : Area) (go : Option Bytes → OpenTransaction → Performed) → of ≡ Some area
      → ((v : Told) → f v ≡ by_performed app asynchronous unit (locked v x area (go v.content)))
      → ((c : Option Bytes) (y : OpenTransaction) → IsAnswered y (go c y)) → StatementLooks app asynchronous x of f
  StatementUnlocks : (unit : UnitText) (area : Area) → of ≡ Some area → IsTrue (touches x area)
      → ((v : Told) → f v ≡ by_performed app asynchronous unit (unlocked_by v x area true false)) → StatementLooks app asynchronous x of f

-- ---- quiet changes

itself : (x : OpenTransaction) → IsQuietly x x
itself x = record { began = refl; first = refl; lterm = refl; inputs = refl; touched = refl; notes = refl; statements = refl }

with_unread : (x : OpenTransaction) (unread : List Bytes) → IsQuietly x (record x { unread = unread })
with_unread x unread = record { began = refl; first = refl; lterm = refl; inputs = refl; touched = refl; notes = refl; statements = refl }

with_parts : (x : OpenTransaction) (parts : List Bytes) → IsQuietly x (record x { parts = parts })
with_parts x parts = record { began = refl; first = refl; lterm = refl; inputs = refl; touched = refl; notes = refl; statements = refl }

with_written : (x : OpenTransaction) (written : List (Area × Option Bytes)) → IsQuietly x (record x { written = written })
with_written x written = record { began = refl; first = refl; lterm = refl; inputs = refl; touched = refl; notes = refl; statements = refl }

with_lssbs : (x : OpenTransaction) (lssbs : List (Bytes × Bytes)) → IsQuietly x (record x { lssbs = lssbs })
with_lssbs x lssbs = record { began = refl; first = refl; lterm = refl; inputs = refl; touched = refl; notes = refl; statements = refl }

with_drafts : (x : OpenTransaction) (drafts : List Draft) → IsQuietly x (record x { drafts = drafts })
with_drafts x drafts = record { began = refl; first = refl; lterm = refl; inputs = refl; touched = refl; notes = refl; statements = refl }

with_init : (x : OpenTransaction) (inited : Bool) → IsQuietly x (record x { inited = inited })
with_init x inited = record { began = refl; first = refl; lterm = refl; inputs = refl; touched = refl; notes = refl; statements = refl }

-- ---- calls that ask of no area

abbrev Leaves : OpenTransaction → Performed → Type 0
Leaves x p = CallLeaves x p.0 p.1

named_leaves : (x : OpenTransaction) (n : Option Bytes) (go : Bytes → Performed) → ((m : Bytes) → Leaves x (go m)) → Leaves x (with_name x n go)
named_leaves x None go all = itself x
named_leaves x (Some m) go all = all m

kind_leaves : (x : OpenTransaction) (b : Bool) (p : Performed) → Leaves x p → Leaves x (for_kind x b p)
kind_leaves x true p h = h
kind_leaves x false p h = refl

within_leaves : (x : OpenTransaction) (b : Bool) (p : Performed) → Leaves x p → Leaves x (within_length x b p)
within_leaves x true p h = h
within_leaves x false p h = refl

got_leaves : (x : OpenTransaction) (capacity : ℕ) (parts : List Bytes) → Leaves x (got_by x capacity parts)
got_leaves x capacity [] = itself x
got_leaves x capacity (p ∷ ps) = with_unread x ps

drafted_leaves : (x : OpenTransaction) (to : Option Target) (due : Option Due) (message : Bytes) → Leaves x (drafted x to due message)
drafted_leaves x None due message = itself x
drafted_leaves x (Some to) None message = itself x
drafted_leaves x (Some to) (Some due) message = with_drafts x _

job_leaves : (g : Generated) (x : OpenTransaction) (to : Bytes) (due : Option Due) (message : Bytes) → Leaves x (put_job g x to due message)
job_leaves g x to due message = within_leaves x _ _ (named_leaves x (name_in_operand to) _ (λ name. drafted_leaves x (job_target g name) due message))

read_or_leaves : (code : Code) (x : OpenTransaction) (capacity : ℕ) (o : Option Bytes) → Leaves x (read_or code x capacity o)
read_or_leaves code x capacity None = itself x
read_or_leaves code x capacity (Some bytes) = itself x

read_away_leaves : (x : OpenTransaction) (name : Bytes) (capacity : ℕ) (o : Option Bytes) → Leaves x (read_away_by x name capacity o)
read_away_leaves x name capacity None = itself x
read_away_leaves x name capacity (Some bytes) = with_lssbs x _

delete_local_leaves : (x : OpenTransaction) (name : Bytes) (o : Option Bytes) → Leaves x (delete_local_by x name o)
delete_local_leaves x name None = itself x
delete_local_leaves x name (Some bytes) = with_lssbs x _

put_leaves : (x : OpenTransaction) (bytes : Bytes) (b : Bool) → Leaves x (within_length x b (replied (record x { parts = x.parts ++ bytes ∷ [] }) Done))
put_leaves x bytes true = with_parts x _
put_leaves x bytes false = refl

local_leaves : (x : OpenTransaction) (name bytes : Bytes) (b : Bool) → Leaves x (cond b (replied x K09) (replied (record x { lssbs = put bytes_cmp name bytes x.lssbs }) Done))
local_leaves x name bytes true = itself x
local_leaves x name bytes false = with_lssbs x _

pended_leaves : (x : OpenTransaction) (variant : Variant) (r : Result Outcome Cause) → Leaves x (pended x variant r)
pended_leaves x variant (Ok o) = refl
pended_leaves x variant (Err cause) = refl

-- ---- calls that ask of an area

alone : (x : OpenTransaction) (of : Option Area) (p : Performed) → Leaves x p → CallLooks x of (λ v. p)
alone x of p h = Alone p (λ v. refl) h

named_looks : (area : Bytes → Area) (x : OpenTransaction) (n : Option Bytes) (go : Told → Bytes → Performed) → ((m : Bytes) → CallLooks x (Some (area m)) (λ v. go v m))
    → CallLooks x (option_map area n) (λ v. with_name x n (go v))
named_looks area x None go all = Alone (with_name x None (λ m. replied x Done)) (λ v. refl) (itself x)
named_looks area x (Some m) go all = all m

declared_looks : (x : OpenTransaction) (of : Option Area) (b : Bool) (f : Told → Performed) → CallLooks x of f → CallLooks x of (λ v. declared x b (f v))
declared_looks x of true f h = h
declared_looks x of false f h = Alone (declared x false (replied x Done)) (λ v. refl) (itself x)

locks : (x : OpenTransaction) (area : Area) (go : Option Bytes → OpenTransaction → Performed) → ((c : Option Bytes) (y : OpenTransaction) → IsAnswered y (go c y))
    → CallLooks x (Some area) (λ v. locked v x area (go v.content))
locks x area go all = Locks area go refl (λ v. refl) all

unlocks : (x : OpenTransaction) (area : Area) → CallLooks x (Some area) (λ v. unlocked v x area)
unlocks x area = by (touches x area) (is_some (find area_cmp area x.written)) refl
  where
    by : (held written : Bool) → touches x area ≡ held → CallLooks x (Some area) (λ v. unlocked_by v x area held written)
    by false written e = Alone (replied x K06) (λ v. refl) (itself x)
    by true true e = Alone (replied x K07) (λ v. refl) (itself x)
    by true false e = Unlocks area refl e (λ v. refl)

read_or_answered : (x : OpenTransaction) (capacity : ℕ) (o : Option Bytes) → IsAnswered x (read_or K03 x capacity o)
read_or_answered x capacity None = itself x
read_or_answered x capacity (Some bytes) = itself x

deleted_answered : (x : OpenTransaction) (area : Area) (o : Option Bytes) → IsAnswered x (deleted x area o)
deleted_answered x area None = itself x
deleted_answered x area (Some bytes) = with_written x _

-- the own write or deletion, else this content
abbrev sees : OpenTransaction → Area → Option Bytes → Option Bytes
sees x area outside = shown_by (find area_cmp area x.written) outside

read_looks : (x : OpenTransaction) (area : Area) (capacity : ℕ) → CallLooks x (Some area) (λ v. locked v x area (λ y. read_answer y capacity (or_empty (sees y area v.content))))
read_looks x area capacity = locks x area (λ c y. read_answer y capacity (or_empty (sees y area c))) (λ c y. itself y)

write_looks : (x : OpenTransaction) (area : Area) (bytes : Bytes) → CallLooks x (Some area) (λ v. locked v x area (λ y. wrote y area (Some bytes)))
write_looks x area bytes = locks x area (λ c y. wrote y area (Some bytes)) (λ c y. with_written y _)

-- ---- all calls

called_looks : (g : Generated) (asy : Bool) (x : OpenTransaction) (call : Call) → CallLooks x (area_of_call x call) (λ v. called g v asy x call)
unfolding called
called_looks g asy x Init = alone x None _ refl
called_looks g asy x (Mget capacity) = alone x None _ (kind_leaves x (not asy) _ (got_leaves x capacity x.unread))
called_looks g asy x (Mput bytes) = alone x None _ (kind_leaves x (not asy) _ (put_leaves x bytes (nat_le (sum_by length x.parts + length bytes) g.limits.nb && nat_lt (length x.parts) 16)))
called_looks g asy x (Fget capacity) = alone x None _ (kind_leaves x asy _ (got_leaves x capacity x.unread))
called_looks g asy x (Fput to message) = alone x None _ (job_leaves g x to _ message)
called_looks g asy x (Dput to mode d h m s message) = alone x None _ (job_leaves g x to _ message)
called_looks g asy x (SgetGb name capacity) =
    named_looks (λ n. Gssb n) x (name_in_operand name) _ (λ n. locks x (Gssb n) (λ c y. read_or K03 y capacity (sees y (Gssb n) c)) (λ c y. read_or_answered y capacity (sees y (Gssb n) c)))
called_looks g asy x (SputGb name bytes) = named_looks (λ n. Gssb n) x (name_in_operand name) _ (λ n. write_looks x (Gssb n) bytes)
called_looks g asy x (SrelGb name) =
    named_looks (λ n. Gssb n) x (name_in_operand name) _ (λ n. locks x (Gssb n) (λ c y. deleted y (Gssb n) (sees y (Gssb n) c)) (λ c y. deleted_answered y (Gssb n) (sees y (Gssb n) c)))
called_looks g asy x (SgetKp name capacity) = alone x None _ (named_leaves x (name_in_operand name) _ (λ n. read_or_leaves K03 x capacity _))
called_looks g asy x (SgetRl name capacity) = alone x None _ (named_leaves x (name_in_operand name) _ (λ n. read_away_leaves x n capacity _))
called_looks g asy x (SputMs name bytes) =
    alone x None _ (named_leaves x (name_in_operand name) _ (λ n. local_leaves x n bytes (not (is_some (find bytes_cmp n x.lssbs)) && nat_le g.limits.lssbs (length x.lssbs))))
called_looks g asy x (SrelLb name) = alone x None _ (named_leaves x (name_in_operand name) _ (λ n. delete_local_leaves x n _))
called_looks g asy x (SgetUs name capacity) = named_looks (λ n. Uls n x.user) x (name_in_operand name) _ (λ n. declared_looks x (Some (Uls n x.user)) (has_uls g n) _ (read_looks x (Uls n x.user) capacity))
called_looks g asy x (SputUs name bytes) = named_looks (λ n. Uls n x.user) x (name_in_operand name) _ (λ n. declared_looks x (Some (Uls n x.user)) (has_uls g n) _ (write_looks x (Uls n x.user) bytes))
called_looks g asy x (Gtda name capacity) = named_looks (λ n. Tls n x.lterm) x (name_in_operand name) _ (λ n. declared_looks x (Some (Tls n x.lterm)) (has_tls g n) _ (read_looks x (Tls n x.lterm) capacity))
called_looks g asy x (Ptda name bytes) = named_looks (λ n. Tls n x.lterm) x (name_in_operand name) _ (λ n. declared_looks x (Some (Tls n x.lterm)) (has_tls g n) _ (write_looks x (Tls n x.lterm) bytes))
called_looks g asy x (UnlkGb name) = named_looks (λ n. Gssb n) x (name_in_operand name) _ (λ n. unlocks x (Gssb n))
called_looks g asy x (UnlkUs name) = named_looks (λ n. Uls n x.user) x (name_in_operand name) _ (λ n. declared_looks x (Some (Uls n x.user)) (has_uls g n) _ (unlocks x (Uls n x.user)))
called_looks g asy x (UnlkDa name) = named_looks (λ n. Tls n x.lterm) x (name_in_operand name) _ (λ n. declared_looks x (Some (Tls n x.lterm)) (has_tls g n) _ (unlocks x (Tls n x.lterm)))
called_looks g asy x (Pend variant op) = alone x None _ (pended_leaves x variant _)

first_leaves : (x : OpenTransaction) (call : Call) → Leaves x (first_call x call)
first_leaves x Init = with_init x true
first_leaves x _ = refl

call_looks : (g : Generated) (asy : Bool) (x : OpenTransaction) (call : Call) → CallLooks x (area_of_call x call) (λ v. call_outcome g v asy x call)
unfolding call_outcome
call_looks g asy x call = by x.inited
  where
    by : (b : Bool) → CallLooks x (area_of_call x call) (λ v. called_by g v asy x call b)
    by true = called_looks g asy x call
    by false = alone x (area_of_call x call) (first_call x call) (first_leaves x call)

-- ---- statements

module _ (app : Application) (asy : Bool) (x : OpenTransaction) where
  outcome_leaves : (variant : Variant) (o : Outcome) → StatementLeaves x (by_outcome app asy x variant o).0 (by_outcome app asy x variant o).1
  unfolding followed
  outcome_leaves variant (Stay tac) = record { began = refl; first = refl; lterm = refl; inputs = append-nil x.inputs; touched = refl; notes = refl; statements = refl }
  outcome_leaves variant (Queue tac) = record { began = refl; first = refl; lterm = refl; inputs = append-nil x.inputs; touched = refl; notes = refl; statements = refl }
  outcome_leaves variant _ = refl

  counts : (unit : UnitText) (y : OpenTransaction) (reply : Reply) → IsQuietly x y → StatementLeaves x (by_call app asy unit y (Replied reply)).0 Went
  counts unit y reply q = record { began = q.began; first = q.first; lterm = q.lterm; inputs = q.inputs; touched = q.touched; notes = q.notes; statements = ap (λ n. n + 1) q.statements }

  performed_leaves : (unit : UnitText) (y : OpenTransaction) (c : Called) → CallLeaves x y c → StatementLeaves x (by_call app asy unit y c).0 (by_call app asy unit y c).1
  performed_leaves unit y (Replied reply) q = counts unit y reply q
  performed_leaves unit y Waits q = absurd q
  performed_leaves unit y (Abnormal cause) q = q
  performed_leaves unit y (Pends variant o) q = subst-outcome variant o q
    where
      subst-outcome : (variant : Variant) (o : Outcome) → y ≡ x → StatementLeaves x (by_outcome app asy y variant o).0 (by_outcome app asy y variant o).1
      subst-outcome variant o e = subst (λ z. StatementLeaves x (by_outcome app asy z variant o).0 (by_outcome app asy z variant o).1) (sym e) (outcome_leaves variant o)

  asks_looks : (unit : UnitText) (of : Option Area) (f : Told → Performed) → CallLooks x of f → StatementLooks app asy x of (λ v. by_performed app asy unit (f v))
  asks_looks unit of f (Alone p same leaves) = StatementAlone (by_performed app asy unit p) (λ v. ap (by_performed app asy unit) (same v)) (performed_leaves unit p.0 p.1 leaves)
  asks_looks unit of f (Locks area go is same all) = StatementLocks unit area go is (λ v. ap (by_performed app asy unit) (same v)) all
  asks_looks unit of f (Unlocks area is held same) = StatementUnlocks unit area is held (λ v. ap (by_performed app asy unit) (same v))

  step_looks : (unit : UnitText) (m : Meaning) → StatementLooks app asy x (area_of_step x m) (λ v. by_step app v asy x unit m)
  step_looks unit (Plain after) = StatementAlone _ (λ v. refl) (record { began = refl; first = refl; lterm = refl; inputs = refl; touched = refl; notes = refl; statements = refl })
  step_looks unit (Ends cause) = StatementAlone _ (λ v. refl) refl
  step_looks unit (Asks call) = asks_looks unit (area_of_call x call) (λ v. call_outcome app.generation v asy x call) (call_looks app.generation asy x call)

  -- a statement looks at nothing, or at one area
  pub statement_looks : StatementLooks app asy x (area_of app x) (λ v. statement app v asy x)
  unfolding statement area_of
  statement_looks = by (unit_of app x.current)
    where
      by : (o : Option UnitText) → StatementLooks app asy x (area_in_unit x o) (λ v. in_unit app v asy x o)
      by None = StatementAlone _ (λ v. refl) refl
      by (Some unit) = step_looks unit (step unit x.run)
