-- What a statement keeps of its open transaction: the row with which it began, and the areas that it holds but for one that was granted. And a PEND KP is one whatever it is told.
use Rattle.std.specs.Prelude.{◌≡◌, refl, ℕ, ◌+◌, Bool, true, false, cond, ◌||◌, ◌&&◌, not, ◌⊎◌, IsTrue, List, [], ◌∷◌, ◌++◌, filter, length, sum_by, nat_le, nat_lt, is_some, Option, Some, None}
use Rattle.std.specs.Prelude.{Result, Ok, Err, option_map}
use Rattle.std.proofs.Common.{sym, ap, ◌∙◌, subst, inl, inr, ⊎_elim, true≢false}
use Rattle.std.specs.List.{list_any}
use Rattle.std.specs.FinMap.{find, put}
use Rattle.kd_base.specs.declared.words.Variant.{Variant}
use Rattle.kdcs_types.specs.declared.call.Call.{Call}
use Rattle.kdcs_types.specs.declared.call.Call.TheVariants.{Init, Mget, Mput, Fget, Fput, Dput, SgetGb, SputGb, SrelGb, SgetKp, SgetRl, SputMs, SrelLb, SgetUs, SputUs, Gtda, Ptda, UnlkGb, UnlkUs}
use Rattle.kdcs_types.specs.declared.call.Call.TheVariants.{UnlkDa, Pend}
use Rattle.kdcs_types.specs.declared.call.Cause.{Cause}
use Rattle.kdcs_types.specs.declared.call.Code.TheVariants.{Done, K03, K09}
use Rattle.kdcs_types.specs.declared.key.Area.{Area}
use Rattle.kdcs_types.specs.declared.key.Area.TheVariants.{Gssb, Tls, Uls}
use Rattle.kdcs_types.specs.declared.key.Target.{Target}
use Rattle.kdcs_types.specs.Keys.{area_eq}
use Rattle.kdcs_types.specs.KeyLaws.{area_eq_same}
use Rattle.kdcs_types.specs.declared.service.Ending.TheVariants.{Broken}
use Rattle.application_types.specs.Generation.{Generated, has_tls, has_uls}
use Rattle.application_types.specs.UnitText.{UnitText}
use Rattle.abstract_monitor.specs.Statement.{Meaning, Plain, Asks, Ends, step}
use Rattle.abstract_monitor.specs.declared.answer.LockAnswer.{LockAnswer}
use Rattle.abstract_monitor.specs.declared.answer.LockAnswer.TheVariants.{Granted, Wait, Busy, Deadlock}
use Rattle.abstract_monitor.specs.declared.answer.Called.{Called}
use Rattle.abstract_monitor.specs.declared.answer.Called.TheVariants.{Pends}
use Rattle.abstract_monitor.specs.declared.answer.Happened.{Happened}
use Rattle.abstract_monitor.specs.declared.answer.Happened.TheVariants.{Held, Settles, Breaks, Returns}
use Rattle.abstract_monitor.specs.declared.draft.Due.{Due}
use Rattle.abstract_monitor.specs.declared.outcome.Outcome.{Outcome}
use Rattle.abstract_monitor.specs.declared.outcome.Outcome.TheVariants.{Stay, Queue, Hold, Wait as WaitOutcome, Point, Finish, Follow, Break, Back}
use Rattle.abstract_monitor.specs.Bytes.{Bytes, bytes_cmp}
use Rattle.abstract_monitor.specs.Calls.{Told, Performed, touches, touching, answer_by, on_answer, locked, for_kind, within_length, with_name, declared, name_in_operand, read_or, replied, got_by}
use Rattle.abstract_monitor.specs.Calls.{drafted, put_job, job_target, deleted, seen, unlocked_by, read_away_by, delete_local_by, pended, called, first_call, called_by, call_outcome}
use Rattle.abstract_monitor.specs.Endings.{followed}
use Rattle.abstract_monitor.specs.State.{Application, OpenTransaction, unit_of}
use Rattle.abstract_monitor.specs.Statements.{Stated, area_of_call, area_of_step, area_in_unit, area_of, by_outcome, by_call, by_performed, by_step, in_unit, statement}

-- ---- areas held

-- the area is one of these
abbrev has_area : Area → List Area → Bool
has_area area areas = list_any (λ (held : Area). area_eq held area) areas

-- without this one
abbrev without_area : Area → List Area → List Area
without_area area areas = filter (λ (held : Area). not (area_eq held area)) areas

-- ---- calls

-- the call is no PEND that goes through
abbrev pub PendsNot : Called → Type 0
PendsNot (Pends variant o) = ⊥
PendsNot _ = Unit {0}

-- the areas stay as they are
pub record IsQuiet (x : OpenTransaction) (p : Performed) : Type 0 where
  pub touched : p.0.touched ≡ x.touched
  pub began : p.0.began ≡ x.began
  pub pends_not : PendsNot p.1

quiet : {x : OpenTransaction} {p : Performed} → p.0.touched ≡ x.touched → p.0.began ≡ x.began → PendsNot p.1 → IsQuiet x p
quiet touched began pends_not = record { touched = touched; began = began; pends_not = pends_not }

-- the area was granted: it is the one asked of, and was not held
abbrev pub IsGranted : Told → Option Area → OpenTransaction → Area → Type 0
IsGranted v of x area = (of ≡ Some area) × (v.answer ≡ Granted) × (touches x area ≡ false)

-- what y holds x held, or it was granted
abbrev pub HoldsNoMore : Told → Option Area → OpenTransaction → OpenTransaction → Type 0
HoldsNoMore v of x y = (area : Area) → IsTrue (touches y area) → IsTrue (touches x area) ⊎ IsGranted v of x area

-- it is no PEND
abbrev pub IsNoPend : Call → Type 0
IsNoPend (Pend variant op) = ⊥
IsNoPend _ = Unit {0}

pub record HoldsOnlyGranted (v : Told) (of : Option Area) (x : OpenTransaction) (p : Performed) : Type 0 where
  pub touched : HoldsNoMore v of x p.0
  pub began : p.0.began ≡ x.began
  pub pends_not : PendsNot p.1

quiet_kept : (v : Told) (of : Option Area) (x : OpenTransaction) (p : Performed) → IsQuiet x p → HoldsOnlyGranted v of x p
quiet_kept v of x p q = record {
  touched = λ area h. inl (subst (λ l. IsTrue (has_area area l)) q.touched h);
  began = q.began;
  pends_not = q.pends_not;
}

-- ---- calls that ask of no area

named_quiet : (x : OpenTransaction) (n : Option Bytes) (go : Bytes → Performed) → ((m : Bytes) → IsQuiet x (go m)) → IsQuiet x (with_name x n go)
named_quiet x None go all = quiet refl refl tt
named_quiet x (Some m) go all = all m

kind_quiet : (x : OpenTransaction) (b : Bool) (p : Performed) → IsQuiet x p → IsQuiet x (for_kind x b p)
kind_quiet x true p h = h
kind_quiet x false p h = quiet refl refl tt

within_quiet : (x : OpenTransaction) (b : Bool) (p : Performed) → IsQuiet x p → IsQuiet x (within_length x b p)
within_quiet x true p h = h
within_quiet x false p h = quiet refl refl tt

got_quiet : (x : OpenTransaction) (capacity : ℕ) (parts : List Bytes) → IsQuiet x (got_by x capacity parts)
got_quiet x capacity [] = quiet refl refl tt
got_quiet x capacity (p ∷ ps) = quiet refl refl tt

drafted_quiet : (x : OpenTransaction) (to : Option Target) (due : Option Due) (message : Bytes) → IsQuiet x (drafted x to due message)
drafted_quiet x None due message = quiet refl refl tt
drafted_quiet x (Some to) None message = quiet refl refl tt
drafted_quiet x (Some to) (Some due) message = quiet refl refl tt

job_quiet : (g : Generated) (x : OpenTransaction) (to : Bytes) (due : Option Due) (message : Bytes) → IsQuiet x (put_job g x to due message)
job_quiet g x to due message = within_quiet x _ _ (named_quiet x (name_in_operand to) _ (λ name. drafted_quiet x (job_target g name) due message))

-- with no content and with any
content_quiet : (x : OpenTransaction) (go : Option Bytes → Performed) → IsQuiet x (go None) → ((bytes : Bytes) → IsQuiet x (go (Some bytes))) → (o : Option Bytes) → IsQuiet x (go o)
content_quiet x go none some None = none
content_quiet x go none some (Some bytes) = some bytes

put_quiet : (x : OpenTransaction) (bytes : Bytes) (b : Bool) → IsQuiet x (within_length x b (replied (record x { parts = x.parts ++ bytes ∷ [] }) Done))
put_quiet x bytes true = quiet refl refl tt
put_quiet x bytes false = quiet refl refl tt

local_quiet : (x : OpenTransaction) (name bytes : Bytes) (b : Bool) → IsQuiet x (cond b (replied x K09) (replied (record x { lssbs = put bytes_cmp name bytes x.lssbs }) Done))
local_quiet x name bytes true = quiet refl refl tt
local_quiet x name bytes false = quiet refl refl tt

-- ---- locks

pushed : (l : List Area) (new a : Area) → IsTrue (has_area a (l ++ new ∷ [])) → IsTrue (has_area a l) ⊎ (new ≡ a)
pushed [] new a h = by (area_eq new a) refl h
  where
    by : (b : Bool) → area_eq new a ≡ b → (b || false) ≡ true → IsTrue (has_area a []) ⊎ (new ≡ a)
    by true e t = inr (area_eq_same new a e)
    by false e t = inl t
pushed (y ∷ l) new a h = by (area_eq y a) h (pushed l new a)
  where
    by : (b : Bool) → (b || has_area a (l ++ new ∷ [])) ≡ true
        → (IsTrue (has_area a (l ++ new ∷ [])) → IsTrue (has_area a l) ⊎ (new ≡ a))
        → ((b || has_area a l) ≡ true) ⊎ (new ≡ a)
    by true t later = inl refl
    by false t later = later t

touching_began : (x : OpenTransaction) (area : Area) (b : Bool) → (touching x area b).began ≡ x.began
touching_began x area true = refl
touching_began x area false = refl

touching_kept : (v : Told) (x : OpenTransaction) (area : Area) (b : Bool) → touches x area ≡ b → (b ≡ false → v.answer ≡ Granted) → HoldsNoMore v (Some area) x (touching x area b)
touching_kept v x area true e q a h = inl h
touching_kept v x area false e q a h = ⊎_elim (λ was. inl was) (λ (same : area ≡ a). inr (ap (λ (k : Area). some_area k) same, q refl, ap (touches x) (sym same) ∙ e)) (pushed x.touched area a h)
  where
    some_area : Area → Option Area
    some_area k = Some k

locked_kept : (v : Told) (x : OpenTransaction) (area : Area) (go : OpenTransaction → Performed) → ((y : OpenTransaction) → IsQuiet y (go y)) → HoldsOnlyGranted v (Some area) x (locked v x area go)
locked_kept v x area go quiet = by (answer_by v (touches x area)) refl
  where
    granted : (b : Bool) → touches x area ≡ b → answer_by v (touches x area) ≡ Granted → touches x area ≡ false → v.answer ≡ Granted
    granted true e q f = absurd (true≢false (sym e ∙ f))
    granted false e q f = ap (answer_by v) (sym e) ∙ q

    by : (a : LockAnswer) → answer_by v (touches x area) ≡ a → HoldsOnlyGranted v (Some area) x (on_answer x area a go)
    by Granted q =
        let y = touching x area (touches x area) in
        let g = quiet y in
        record {
          touched = λ a h. touching_kept v x area (touches x area) refl (granted (touches x area) refl q) a (subst (λ l. IsTrue (has_area a l)) g.touched h);
          began = g.began ∙ touching_began x area (touches x area);
          pends_not = g.pends_not;
        }
    by Wait q = record { touched = λ a h. inl h; began = refl; pends_not = tt }
    by Busy q = record { touched = λ a h. inl h; began = refl; pends_not = tt }
    by Deadlock q = record { touched = λ a h. inl h; began = refl; pends_not = tt }

-- ---- UNLK

without_touched : (area a : Area) (l : List Area) → IsTrue (has_area a (without_area area l)) → IsTrue (has_area a l)
without_touched area a [] h = h
without_touched area a (b ∷ l) h = by (not (area_eq b area)) (area_eq b a) h (without_touched area a l)
  where
    by : (c d : Bool) → IsTrue (has_area a (cond c (b ∷ without_area area l) (without_area area l)))
        → (IsTrue (has_area a (without_area area l)) → IsTrue (has_area a l)) → IsTrue (area_eq b a || has_area a l)
    by true d t f = either (area_eq b a) t f
      where
        either : (e : Bool) → IsTrue (e || has_area a (without_area area l))
            → (IsTrue (has_area a (without_area area l)) → IsTrue (has_area a l)) → IsTrue (e || has_area a l)
        either true t f = refl
        either false t f = f t
    by false d t f = later (area_eq b a) (f t)
      where
        later : (e : Bool) → IsTrue (has_area a l) → IsTrue (e || has_area a l)
        later true t = refl
        later false t = t

unlocked_kept : (v : Told) (of : Option Area) (x : OpenTransaction) (area : Area) (held written : Bool) → HoldsOnlyGranted v of x (unlocked_by v x area held written)
unlocked_kept v of x area false written = record { touched = λ a h. inl h; began = refl; pends_not = tt }
unlocked_kept v of x area true true = record { touched = λ a h. inl h; began = refl; pends_not = tt }
unlocked_kept v of x area true false = record { touched = λ a h. inl (without_touched area a x.touched h); began = refl; pends_not = tt }

-- ---- calls that ask of an area

declared_kept : (v : Told) (of : Option Area) (x : OpenTransaction) (b : Bool) (p : Performed) → HoldsOnlyGranted v of x p → HoldsOnlyGranted v of x (declared x b p)
declared_kept v of x true p h = h
declared_kept v of x false p h = record { touched = λ a k. inl k; began = refl; pends_not = tt }

named_kept : (v : Told) (area : Bytes → Area) (x : OpenTransaction) (n : Option Bytes) (go : Bytes → Performed) → ((m : Bytes) → HoldsOnlyGranted v (Some (area m)) x (go m)) → HoldsOnlyGranted v (option_map area n) x (with_name x n go)
named_kept v area x None go all = record { touched = λ a h. inl h; began = refl; pends_not = tt }
named_kept v area x (Some m) go all = all m

-- a block that the generation declares
block_kept : (v : Told) (area : Bytes → Area) (x : OpenTransaction) (name : Bytes) (has : Bytes → Bool) (go : Bytes → Performed) → ((n : Bytes) → HoldsOnlyGranted v (Some (area n)) x (go n)) → HoldsOnlyGranted v (option_map area (name_in_operand name)) x (with_name x (name_in_operand name) (λ n. declared x (has n) (go n)))
block_kept v area x name has go all = named_kept v area x (name_in_operand name) _ (λ n. declared_kept v (Some (area n)) x (has n) (go n) (all n))

-- any call but PEND
pub called_kept : (g : Generated) (v : Told) (asy : Bool) (x : OpenTransaction) (call : Call) → IsNoPend call → HoldsOnlyGranted v (area_of_call x call) x (called g v asy x call)
unfolding called
called_kept g v asy x Init other = record { touched = λ a h. inl h; began = refl; pends_not = tt }
called_kept g v asy x (Mget capacity) other = quiet_kept v None x _ (kind_quiet x (not asy) _ (got_quiet x capacity x.unread))
called_kept g v asy x (Mput bytes) other = quiet_kept v None x _ (kind_quiet x (not asy) _ (put_quiet x bytes (nat_le (sum_by length x.parts + length bytes) g.limits.nb && nat_lt (length x.parts) 16)))
called_kept g v asy x (Fget capacity) other = quiet_kept v None x _ (kind_quiet x asy _ (got_quiet x capacity x.unread))
called_kept g v asy x (Fput to message) other = quiet_kept v None x _ (job_quiet g x to _ message)
called_kept g v asy x (Dput to mode d h m s message) other = quiet_kept v None x _ (job_quiet g x to _ message)
called_kept g v asy x (SgetGb name capacity) other = named_kept v (λ n. Gssb n) x (name_in_operand name) _ (λ n. locked_kept v x (Gssb n) _ (λ y. content_quiet y (read_or K03 y capacity) (quiet refl refl tt) (λ b. quiet refl refl tt) (seen v y (Gssb n))))
called_kept g v asy x (SputGb name bytes) other = named_kept v (λ n. Gssb n) x (name_in_operand name) _ (λ n. locked_kept v x (Gssb n) _ (λ y. quiet refl refl tt))
called_kept g v asy x (SrelGb name) other = named_kept v (λ n. Gssb n) x (name_in_operand name) _ (λ n. locked_kept v x (Gssb n) _ (λ y. content_quiet y (deleted y (Gssb n)) (quiet refl refl tt) (λ b. quiet refl refl tt) (seen v y (Gssb n))))
called_kept g v asy x (SgetKp name capacity) other = quiet_kept v None x _ (named_quiet x (name_in_operand name) _ (λ n. content_quiet x (read_or K03 x capacity) (quiet refl refl tt) (λ b. quiet refl refl tt) _))
called_kept g v asy x (SgetRl name capacity) other = quiet_kept v None x _ (named_quiet x (name_in_operand name) _ (λ n. content_quiet x (read_away_by x n capacity) (quiet refl refl tt) (λ b. quiet refl refl tt) _))
called_kept g v asy x (SputMs name bytes) other = quiet_kept v None x _ (named_quiet x (name_in_operand name) _ (λ n. local_quiet x n bytes (not (is_some (find bytes_cmp n x.lssbs)) && nat_le g.limits.lssbs (length x.lssbs))))
called_kept g v asy x (SrelLb name) other = quiet_kept v None x _ (named_quiet x (name_in_operand name) _ (λ n. content_quiet x (delete_local_by x n) (quiet refl refl tt) (λ b. quiet refl refl tt) _))
called_kept g v asy x (SgetUs name capacity) other = block_kept v (λ n. Uls n x.user) x name (has_uls g) _ (λ n. locked_kept v x (Uls n x.user) _ (λ y. quiet refl refl tt))
called_kept g v asy x (SputUs name bytes) other = block_kept v (λ n. Uls n x.user) x name (has_uls g) _ (λ n. locked_kept v x (Uls n x.user) _ (λ y. quiet refl refl tt))
called_kept g v asy x (Gtda name capacity) other = block_kept v (λ n. Tls n x.lterm) x name (has_tls g) _ (λ n. locked_kept v x (Tls n x.lterm) _ (λ y. quiet refl refl tt))
called_kept g v asy x (Ptda name bytes) other = block_kept v (λ n. Tls n x.lterm) x name (has_tls g) _ (λ n. locked_kept v x (Tls n x.lterm) _ (λ y. quiet refl refl tt))
called_kept g v asy x (UnlkGb name) other = named_kept v (λ n. Gssb n) x (name_in_operand name) _ (λ n. unlocked_kept v (Some (Gssb n)) x (Gssb n) _ _)
called_kept g v asy x (UnlkUs name) other = block_kept v (λ n. Uls n x.user) x name (has_uls g) _ (λ n. unlocked_kept v (Some (Uls n x.user)) x (Uls n x.user) _ _)
called_kept g v asy x (UnlkDa name) other = block_kept v (λ n. Tls n x.lterm) x name (has_tls g) _ (λ n. unlocked_kept v (Some (Tls n x.lterm)) x (Tls n x.lterm) _ _)
called_kept g v asy x (Pend variant op) other = absurd other

first_kept : (v : Told) (of : Option Area) (x : OpenTransaction) (call : Call) → HoldsOnlyGranted v of x (first_call x call)
first_kept v of x Init = record { touched = λ a h. inl h; began = refl; pends_not = tt }
first_kept v of x _ = record { touched = λ a h. inl h; began = refl; pends_not = tt }

-- ---- statements

-- what a statement makes of the open transaction
pub record StatementKeeps (v : Told) (of : Option Area) (x : OpenTransaction) (r : Stated) : Type 0 where
  pub touched : HoldsNoMore v of x r.0
  pub began : r.0.began ≡ x.began

unchanged : (v : Told) (of : Option Area) (x : OpenTransaction) (h : Happened) → StatementKeeps v of x (x, h)
unchanged v of x h = record { touched = λ a t. inl t; began = refl }

outcome_keeps : (app : Application) (asy : Bool) (v : Told) (of : Option Area) (x : OpenTransaction) (variant : Variant) (o : Outcome) → StatementKeeps v of x (by_outcome app asy x variant o)
unfolding followed
outcome_keeps app asy v of x variant (Stay tac) = record { touched = λ a t. inl t; began = refl }
outcome_keeps app asy v of x variant (Queue tac) = record { touched = λ a t. inl t; began = refl }
outcome_keeps app asy v of x variant _ = unchanged v of x _

pended_keeps : (app : Application) (asy : Bool) (unit : UnitText) (v : Told) (of : Option Area) (x : OpenTransaction) (variant : Variant) (r : Result Outcome Cause)
    → StatementKeeps v of x (by_performed app asy unit (pended x variant r))
pended_keeps app asy unit v of x variant (Ok o) = outcome_keeps app asy v of x variant o
pended_keeps app asy unit v of x variant (Err cause) = unchanged v of x _

-- where no PEND goes through
performed_keeps : (app : Application) (asy : Bool) (unit : UnitText) (v : Told) (of : Option Area) (x y : OpenTransaction) (c : Called) → HoldsOnlyGranted v of x (y, c) → StatementKeeps v of x (by_call app asy unit y c)
performed_keeps app asy unit v of x y (Pends variant o) k = absurd k.pends_not
performed_keeps app asy unit v of x y _ k = record { touched = k.touched; began = k.began }

called_keeps : (app : Application) (v : Told) (asy : Bool) (x : OpenTransaction) (unit : UnitText) (call : Call) → StatementKeeps v (area_of_call x call) x (by_performed app asy unit (called app.generation v asy x call))
unfolding called
called_keeps app v asy x unit (Pend variant op) = pended_keeps app asy unit v None x variant _
called_keeps app v asy x unit call = performed_keeps app asy unit v (area_of_call x call) x _ _ (called_kept app.generation v asy x call tt)

call_keeps : (app : Application) (v : Told) (asy : Bool) (x : OpenTransaction) (unit : UnitText) (call : Call) → StatementKeeps v (area_of_call x call) x (by_performed app asy unit (call_outcome app.generation v asy x call))
unfolding call_outcome
call_keeps app v asy x unit call = by x.inited
  where
    by : (b : Bool) → StatementKeeps v (area_of_call x call) x (by_performed app asy unit (called_by app.generation v asy x call b))
    by true = called_keeps app v asy x unit call
    by false = performed_keeps app asy unit v (area_of_call x call) x _ _ (first_kept v (area_of_call x call) x call)

step_keeps : (app : Application) (v : Told) (asy : Bool) (x : OpenTransaction) (unit : UnitText) (m : Meaning) → StatementKeeps v (area_of_step x m) x (by_step app v asy x unit m)
step_keeps app v asy x unit (Plain after) = record { touched = λ a h. inl h; began = refl }
step_keeps app v asy x unit (Ends cause) = unchanged v None x _
step_keeps app v asy x unit (Asks call) = call_keeps app v asy x unit call

-- the row with which the transaction began stays, and an area is held anew only where it was asked of and granted
pub statement_keeps : (app : Application) (v : Told) (asy : Bool) (x : OpenTransaction) → StatementKeeps v (area_of app x) x (statement app v asy x)
unfolding statement area_of
statement_keeps app v asy x = by (unit_of app x.current)
  where
    by : (o : Option UnitText) → StatementKeeps v (area_in_unit x o) x (in_unit app v asy x o)
    by None = unchanged v None x _
    by (Some unit) = step_keeps app v asy x unit (step unit x.run)

-- ---- PEND KP

abbrev is_held : Happened → Bool
is_held (Held tac) = true
is_held _ = false

-- where it is at a PEND KP for one told, it is at the same one for every told
abbrev HeldAlike : Bytes → OpenTransaction → Stated → Stated → Type 0
HeldAlike tac x r q = r.1 ≡ Held tac → q ≡ (x, Held tac)

not_held : (tac : Bytes) (x : OpenTransaction) (r q : Stated) → is_held r.1 ≡ false → HeldAlike tac x r q
not_held tac x r q other e = absurd (true≢false (sym (ap is_held e) ∙ other))

outcome_alike : (app : Application) (asy : Bool) (tac : Bytes) (x : OpenTransaction) (variant : Variant) (o : Outcome) → HeldAlike tac x (by_outcome app asy x variant o) (by_outcome app asy x variant o)
outcome_alike app asy tac x variant (Hold t) e = ap (λ (h : Happened). (x, h)) e
outcome_alike app asy tac x variant (Stay t) e = not_held tac x (by_outcome app asy x variant (Stay t)) (by_outcome app asy x variant (Stay t)) refl e
outcome_alike app asy tac x variant (Queue t) e = not_held tac x (by_outcome app asy x variant (Queue t)) (by_outcome app asy x variant (Queue t)) refl e
outcome_alike app asy tac x variant (WaitOutcome t) e = not_held tac x (x, Settles (WaitOutcome t)) (x, Settles (WaitOutcome t)) refl e
outcome_alike app asy tac x variant (Point t) e = not_held tac x (x, Settles (Point t)) (x, Settles (Point t)) refl e
outcome_alike app asy tac x variant (Follow t) e = not_held tac x (x, Settles (Follow t)) (x, Settles (Follow t)) refl e
outcome_alike app asy tac x variant Finish e = not_held tac x (x, Settles Finish) (x, Settles Finish) refl e
outcome_alike app asy tac x variant Break e = not_held tac x (by_outcome app asy x variant Break) (by_outcome app asy x variant Break) refl e
outcome_alike app asy tac x variant Back e = not_held tac x (x, Returns) (x, Returns) refl e

pended_alike : (app : Application) (asy : Bool) (unit : UnitText) (tac : Bytes) (x : OpenTransaction) (variant : Variant) (r : Result Outcome Cause)
    → HeldAlike tac x (by_performed app asy unit (pended x variant r)) (by_performed app asy unit (pended x variant r))
pended_alike app asy unit tac x variant (Ok o) = outcome_alike app asy tac x variant o
pended_alike app asy unit tac x variant (Err cause) = not_held tac x (x, Breaks (Broken cause)) (x, Breaks (Broken cause)) refl

not_pended : (app : Application) (asy : Bool) (unit : UnitText) (y : OpenTransaction) (c : Called) → PendsNot c → is_held (by_call app asy unit y c).1 ≡ false
not_pended app asy unit y (Pends variant o) other = absurd other
not_pended app asy unit y _ other = refl

performed_alike : (app : Application) (asy : Bool) (unit : UnitText) (tac : Bytes) (x : OpenTransaction) (p q : Performed) → PendsNot p.1 → HeldAlike tac x (by_performed app asy unit p) (by_performed app asy unit q)
performed_alike app asy unit tac x p q other = not_held tac x (by_performed app asy unit p) (by_performed app asy unit q) (not_pended app asy unit p.0 p.1 other)

called_alike : (app : Application) (v w : Told) (asy : Bool) (tac : Bytes) (x : OpenTransaction) (unit : UnitText) (call : Call)
    → HeldAlike tac x (by_performed app asy unit (called app.generation v asy x call)) (by_performed app asy unit (called app.generation w asy x call))
unfolding called
called_alike app v w asy tac x unit (Pend variant op) = pended_alike app asy unit tac x variant _
called_alike app v w asy tac x unit call = performed_alike app asy unit tac x (called app.generation v asy x call) (called app.generation w asy x call) (called_kept app.generation v asy x call tt).pends_not

call_alike : (app : Application) (v w : Told) (asy : Bool) (tac : Bytes) (x : OpenTransaction) (unit : UnitText) (call : Call)
    → HeldAlike tac x (by_performed app asy unit (call_outcome app.generation v asy x call)) (by_performed app asy unit (call_outcome app.generation w asy x call))
unfolding call_outcome
call_alike app v w asy tac x unit call = by x.inited
  where
    by : (b : Bool) → HeldAlike tac x (by_performed app asy unit (called_by app.generation v asy x call b)) (by_performed app asy unit (called_by app.generation w asy x call b))
    by true = called_alike app v w asy tac x unit call
    by false = performed_alike app asy unit tac x (first_call x call) (first_call x call) (first_kept v None x call).pends_not

step_alike : (app : Application) (v w : Told) (asy : Bool) (tac : Bytes) (x : OpenTransaction) (unit : UnitText) (m : Meaning) → HeldAlike tac x (by_step app v asy x unit m) (by_step app w asy x unit m)
step_alike app v w asy tac x unit (Plain after) = not_held tac x (by_step app v asy x unit (Plain after)) (by_step app w asy x unit (Plain after)) refl
step_alike app v w asy tac x unit (Ends cause) = not_held tac x (by_step app v asy x unit (Ends cause)) (by_step app w asy x unit (Ends cause)) refl
step_alike app v w asy tac x unit (Asks call) = call_alike app v w asy tac x unit call

-- PEND asks of no area: a statement that is one PEND KP for one told is the same for every told
pub held_alike : (app : Application) (v w : Told) (asy : Bool) (tac : Bytes) (x : OpenTransaction) → (statement app v asy x).1 ≡ Held tac → statement app w asy x ≡ (x, Held tac)
unfolding statement
held_alike app v w asy tac x = by (unit_of app x.current)
  where
    by : (o : Option UnitText) → HeldAlike tac x (in_unit app v asy x o) (in_unit app w asy x o)
    by None = not_held tac x (x, Returns) (x, Returns) refl
    by (Some unit) = step_alike app v w asy tac x unit (step unit x.run)
