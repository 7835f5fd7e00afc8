-- A statement waits only where its request is told to wait, and goes on waiting while others begin to wait.
use Rattle.std.proofs.Common.{◌≡◌, ℕ, ◌+◌, List, [], ◌∷◌, inl, inr, refl, sym, ap, subst, ◌∙◌, length}
use Rattle.std.specs.Prelude.{◌⊎◌, Bool, true, false, not, ◌&&◌, cond, if◌then◌else◌, Option, Some, None, Result, Ok, Err, is_some, nat_le, option_map}
use Rattle.std.specs.List.{list_any}
use Rattle.std.specs.FinMap.{find, put}
use Rattle.std.specs.FinMap.Entries.{find-put}
use Rattle.std.proofs.lemmas.Bool.{true≢false}
use Rattle.application_types.specs.Generation.{Generated, has_tls, has_uls}
use Rattle.application_types.specs.UnitText.{UnitText}
use Rattle.kd_base.specs.declared.words.Variant.{Variant}
use Rattle.kdcs_types.specs.declared.call.Call.{Call}
use Rattle.kdcs_types.specs.declared.call.Call.TheVariants.{Init, Mget, Mput, Fget, Fput, Dput, SgetGb, SputGb, SrelGb, SgetKp, SgetRl, SputMs, SrelLb, SgetUs, SputUs, Gtda, Ptda, UnlkGb, UnlkUs, UnlkDa, Pend}
use Rattle.kdcs_types.specs.declared.call.Cause.{Cause}
use Rattle.kdcs_types.specs.declared.key.Area.{Area}
use Rattle.kdcs_types.specs.declared.call.Code.{Code}
use Rattle.kdcs_types.specs.declared.call.Code.TheVariants.{Done, K03, K09}
use Rattle.kdcs_types.specs.declared.key.Area.TheVariants.{Gssb, Tls, Uls}
use Rattle.kdcs_types.specs.declared.key.ServiceId.{ServiceId}
use Rattle.kdcs_types.specs.declared.key.Target.{Target}
use Rattle.kdcs_types.specs.KeyLaws.{area_eq_itself, id_eq_itself, id_eq_same, id_total}
use Rattle.kdcs_types.specs.Keys.{area_eq, id_cmp, id_eq}
use Rattle.abstract_monitor.specs.declared.answer.Called.{Called}
use Rattle.abstract_monitor.specs.declared.answer.Called.TheVariants.{Replied, Waits, Abnormal, Pends}
use Rattle.abstract_monitor.specs.declared.answer.Happened.{Happened}
use Rattle.abstract_monitor.specs.declared.answer.Happened.TheVariants.{Went, Queued, Waited, Held, Settles, Breaks, Returns}
use Rattle.abstract_monitor.specs.declared.answer.LockAnswer.{LockAnswer}
use Rattle.abstract_monitor.specs.declared.answer.LockAnswer.TheVariants.{Granted, Wait, Busy, Deadlock}
use Rattle.abstract_monitor.specs.declared.draft.Due.{Due}
use Rattle.abstract_monitor.specs.declared.outcome.Outcome.{Outcome}
use Rattle.abstract_monitor.specs.declared.outcome.Outcome.TheVariants as outcome
use Rattle.abstract_monitor.specs.Bytes.{bytes_cmp}
use Rattle.abstract_monitor.specs.Calls.{Performed, answer_by, Told, called, called_by, call_outcome, declared, deleted, drafted, first_call, for_kind, fits_one_more, got_by, job_target, locked, name_in_operand, on_answer, pended, put_job, read_away_by, delete_local_by, read_or, replied, unlocked_by, with_name, within_length, write_local}
use Rattle.abstract_monitor.specs.DeadlocksLaws.{deadlocks_found}
use Rattle.abstract_monitor.specs.Locks.{IsChain, Locks, Waiting, WaitsFor, answer_by_holder, answer_of, answer_of_held, holder, is_deadlocked, refused_by, since, since_by}
use Rattle.abstract_monitor.specs.State.{Application, OpenTransaction, unit_of}
use Rattle.abstract_monitor.specs.Statement.{Meaning, Plain, Asks, Ends, step}
use Rattle.abstract_monitor.specs.Statements.{by_call, by_step, in_unit, statement}

-- ---- who waits is told so

waits : Called → Bool
waits (Replied reply) = false
waits Waits = true
waits (Abnormal cause) = false
waits (Pends variant o) = false

-- if it waits, it was told so
ToldSo : Told → Performed → Type 0
ToldSo v p = waits p.1 ≡ true → v.answer ≡ Wait

module _ (v : Told) where
  goes : (p : Performed) → waits p.1 ≡ false → ToldSo v p
  unfolding ToldSo waits
  goes p none e = absurd (true≢false (sym e ∙ none))

  kind_told : (x : OpenTransaction) (b : Bool) (p : Performed) → ToldSo v p → ToldSo v (for_kind x b p)
  unfolding ToldSo waits
  kind_told x true p h = h
  kind_told x false p h = λ e. absurd (true≢false (sym e))

  length_told : (x : OpenTransaction) (b : Bool) (p : Performed) → ToldSo v p → ToldSo v (within_length x b p)
  unfolding ToldSo waits
  length_told x true p h = h
  length_told x false p h = λ e. absurd (true≢false (sym e))

  name_told : (x : OpenTransaction) (o : Option (List ℕ)) (go : List ℕ → Performed) → ((n : List ℕ) → ToldSo v (go n)) → ToldSo v (with_name x o go)
  unfolding ToldSo waits
  name_told x None go h = λ e. absurd (true≢false (sym e))
  name_told x (Some n) go h = h n

  declared_told : (x : OpenTransaction) (b : Bool) (p : Performed) → ToldSo v p → ToldSo v (declared x b p)
  unfolding ToldSo waits
  declared_told x true p h = h
  declared_told x false p h = λ e. absurd (true≢false (sym e))

  lock_told : (x : OpenTransaction) (area : Area) (go : OpenTransaction → Performed) → ((y : OpenTransaction) → waits (go y).1 ≡ false) → ToldSo v (locked v x area go)
  unfolding ToldSo waits
  lock_told x area go none = by (list_any (λ (held : Area). area_eq held area) x.touched)
    where
      answers : (a : LockAnswer) → v.answer ≡ a → waits (on_answer x area a go).1 ≡ true → v.answer ≡ Wait
      answers Granted is e = absurd (true≢false (sym e ∙ none _))
      answers Wait is e = is
      answers Busy is e = absurd (true≢false (sym e))
      answers Deadlock is e = absurd (true≢false (sym e))

      by : (held : Bool) → waits (on_answer x area (answer_by v held) go).1 ≡ true → v.answer ≡ Wait
      by true e = absurd (true≢false (sym e ∙ none _))
      by false e = answers v.answer refl e

  read_goes : (code : Code) (x : OpenTransaction) (capacity : ℕ) (o : Option (List ℕ)) → waits (read_or code x capacity o).1 ≡ false
  unfolding waits
  read_goes code x capacity None = refl
  read_goes code x capacity (Some bytes) = refl

  deleted_goes : (x : OpenTransaction) (area : Area) (o : Option (List ℕ)) → waits (deleted x area o).1 ≡ false
  unfolding waits
  deleted_goes x area None = refl
  deleted_goes x area (Some bytes) = refl

  got_goes : (x : OpenTransaction) (capacity : ℕ) (parts : List (List ℕ)) → waits (got_by x capacity parts).1 ≡ false
  unfolding waits
  got_goes x capacity [] = refl
  got_goes x capacity (part ∷ parts) = refl

  drafted_goes : (x : OpenTransaction) (to : Option Target) (due : Option Due) (message : List ℕ) → waits (drafted x to due message).1 ≡ false
  unfolding waits
  drafted_goes x None due message = refl
  drafted_goes x (Some to) None message = refl
  drafted_goes x (Some to) (Some due) message = refl

  away_goes : (x : OpenTransaction) (name : List ℕ) (capacity : ℕ) (o : Option (List ℕ)) → waits (read_away_by x name capacity o).1 ≡ false
  unfolding waits
  away_goes x name capacity None = refl
  away_goes x name capacity (Some bytes) = refl

  local_goes : (x : OpenTransaction) (name : List ℕ) (o : Option (List ℕ)) → waits (delete_local_by x name o).1 ≡ false
  unfolding waits
  local_goes x name None = refl
  local_goes x name (Some bytes) = refl

  unlocked_goes : (x : OpenTransaction) (area : Area) (held written : Bool) → waits (unlocked_by v x area held written).1 ≡ false
  unfolding waits
  unlocked_goes x area false written = refl
  unlocked_goes x area true true = refl
  unlocked_goes x area true false = refl

  pended_goes : (x : OpenTransaction) (variant : Variant) (r : Result Outcome Cause) → waits (pended x variant r).1 ≡ false
  unfolding waits
  pended_goes x variant (Ok o) = refl
  pended_goes x variant (Err cause) = refl

  written_goes : (g : Generated) (x : OpenTransaction) (name bytes : List ℕ) → waits (write_local g x name bytes).1 ≡ false
  unfolding waits
  written_goes g x name bytes = by (not (is_some (find bytes_cmp name x.lssbs)) && nat_le g.limits.lssbs (length x.lssbs))
    where
      by : (b : Bool) → waits (if b then replied x K09 else replied (record x { lssbs = put bytes_cmp name bytes x.lssbs }) Done).1 ≡ false
      by true = refl
      by false = refl

  job_told : (g : Generated) (x : OpenTransaction) (to : List ℕ) (due : Option Due) (message : List ℕ) → ToldSo v (put_job g x to due message)
  job_told g x to due message =
      length_told x (nat_le (length message) g.limits.nb) _
      (name_told x (name_in_operand to) _ (λ name. goes (drafted x (job_target g name) due message) (drafted_goes x (job_target g name) due message)))

  called_told : (g : Generated) (asynchronous : Bool) (x : OpenTransaction) (call : Call) → ToldSo v (called g v asynchronous x call)
  unfolding called waits
  called_told g asynchronous x Init = goes _ refl
  called_told g asynchronous x (Mget capacity) = kind_told x (not asynchronous) _ (goes _ (got_goes x capacity x.unread))
  called_told g asynchronous x (Mput bytes) = kind_told x (not asynchronous) _ (length_told x (fits_one_more g.limits.nb x.parts bytes) _ (goes _ refl))
  called_told g asynchronous x (Fget capacity) = kind_told x asynchronous _ (goes _ (got_goes x capacity x.unread))
  called_told g asynchronous x (Fput to message) = job_told g x to _ message
  called_told g asynchronous x (Dput to mode d h m s message) = job_told g x to _ message
  called_told g asynchronous x (SgetGb name capacity) = name_told x (name_in_operand name) _ (λ n. lock_told x (Gssb n) _ (λ y. read_goes K03 y capacity _))
  called_told g asynchronous x (SputGb name bytes) = name_told x (name_in_operand name) _ (λ n. lock_told x (Gssb n) _ (λ y. refl))
  called_told g asynchronous x (SrelGb name) = name_told x (name_in_operand name) _ (λ n. lock_told x (Gssb n) _ (λ y. deleted_goes y (Gssb n) _))
  called_told g asynchronous x (SgetKp name capacity) = name_told x (name_in_operand name) _ (λ n. goes _ (read_goes K03 x capacity _))
  called_told g asynchronous x (SgetRl name capacity) = name_told x (name_in_operand name) _ (λ n. goes _ (away_goes x n capacity _))
  called_told g asynchronous x (SputMs name bytes) = name_told x (name_in_operand name) _ (λ n. goes _ (written_goes g x n bytes))
  called_told g asynchronous x (SrelLb name) = name_told x (name_in_operand name) _ (λ n. goes _ (local_goes x n _))
  called_told g asynchronous x (SgetUs name capacity) = name_told x (name_in_operand name) _ (λ n. declared_told x (has_uls g n) _ (lock_told x (Uls n x.user) _ (λ y. refl)))
  called_told g asynchronous x (SputUs name bytes) = name_told x (name_in_operand name) _ (λ n. declared_told x (has_uls g n) _ (lock_told x (Uls n x.user) _ (λ y. refl)))
  called_told g asynchronous x (Gtda name capacity) = name_told x (name_in_operand name) _ (λ n. declared_told x (has_tls g n) _ (lock_told x (Tls n x.lterm) _ (λ y. refl)))
  called_told g asynchronous x (Ptda name bytes) = name_told x (name_in_operand name) _ (λ n. declared_told x (has_tls g n) _ (lock_told x (Tls n x.lterm) _ (λ y. refl)))
  called_told g asynchronous x (UnlkGb name) = name_told x (name_in_operand name) _ (λ n. goes _ (unlocked_goes x (Gssb n) _ _))
  called_told g asynchronous x (UnlkUs name) = name_told x (name_in_operand name) _ (λ n. declared_told x (has_uls g n) _ (goes _ (unlocked_goes x (Uls n x.user) _ _)))
  called_told g asynchronous x (UnlkDa name) = name_told x (name_in_operand name) _ (λ n. declared_told x (has_tls g n) _ (goes _ (unlocked_goes x (Tls n x.lterm) _ _)))
  called_told g asynchronous x (Pend variant op) = goes _ (pended_goes x variant _)

  first_goes : (x : OpenTransaction) (call : Call) → waits (first_call x call).1 ≡ false
  unfolding waits
  first_goes x Init = refl
  first_goes x (Mget capacity) = refl
  first_goes x (Mput bytes) = refl
  first_goes x (Fget capacity) = refl
  first_goes x (Fput to message) = refl
  first_goes x (Dput to mode d h m s message) = refl
  first_goes x (SgetGb name capacity) = refl
  first_goes x (SputGb name bytes) = refl
  first_goes x (SrelGb name) = refl
  first_goes x (SgetKp name capacity) = refl
  first_goes x (SgetRl name capacity) = refl
  first_goes x (SputMs name bytes) = refl
  first_goes x (SrelLb name) = refl
  first_goes x (SgetUs name capacity) = refl
  first_goes x (SputUs name bytes) = refl
  first_goes x (Gtda name capacity) = refl
  first_goes x (Ptda name bytes) = refl
  first_goes x (UnlkGb name) = refl
  first_goes x (UnlkUs name) = refl
  first_goes x (UnlkDa name) = refl
  first_goes x (Pend variant op) = refl

  outcome_told : (g : Generated) (asynchronous : Bool) (x : OpenTransaction) (call : Call) → ToldSo v (call_outcome g v asynchronous x call)
  unfolding call_outcome
  outcome_told g asynchronous x call = by x.inited
    where
      by : (b : Bool) → ToldSo v (called_by g v asynchronous x call b)
      by true = called_told g asynchronous x call
      by false = goes _ (first_goes x call)

  -- the same of a statement
  has_waited : Happened → Bool
  has_waited Went = false
  has_waited Queued = false
  has_waited Waited = true
  has_waited (Held tac) = false
  has_waited (Settles o) = false
  has_waited (Breaks ending) = false
  has_waited Returns = false

  by_answer : (app : Application) (asynchronous : Bool) (unit : UnitText) (x : OpenTransaction) (c : Called) → has_waited (by_call app asynchronous unit x c).1 ≡ true → waits c ≡ true
  unfolding has_waited waits
  by_answer app asynchronous unit x (Replied reply) e = e
  by_answer app asynchronous unit x Waits e = refl
  by_answer app asynchronous unit x (Abnormal cause) e = e
  by_answer app asynchronous unit x (Pends variant (outcome.Stay tac)) e = e
  by_answer app asynchronous unit x (Pends variant (outcome.Queue tac)) e = e
  by_answer app asynchronous unit x (Pends variant (outcome.Hold tac)) e = e
  by_answer app asynchronous unit x (Pends variant (outcome.Wait tac)) e = e
  by_answer app asynchronous unit x (Pends variant (outcome.Point tac)) e = e
  by_answer app asynchronous unit x (Pends variant (outcome.Follow tac)) e = e
  by_answer app asynchronous unit x (Pends variant outcome.Finish) e = e
  by_answer app asynchronous unit x (Pends variant outcome.Break) e = e
  by_answer app asynchronous unit x (Pends variant outcome.Back) e = e

  pub statement_told : (app : Application) (asynchronous : Bool) (x : OpenTransaction) → (statement app v asynchronous x).1 ≡ Waited → v.answer ≡ Wait
  unfolding statement has_waited ToldSo
  statement_told app asynchronous x e = in_it (unit_of app x.current) (ap has_waited e)
    where
      by : (unit : UnitText) (m : Meaning) → has_waited (by_step app v asynchronous x unit m).1 ≡ true → v.answer ≡ Wait
      by unit (Plain after) e = absurd (true≢false (sym e))
      by unit (Ends cause) e = absurd (true≢false (sym e))
      by unit (Asks call) e = outcome_told app.generation asynchronous x call (by_answer app asynchronous unit _ _ e)

      in_it : (o : Option UnitText) → has_waited (in_unit app v asynchronous x o).1 ≡ true → v.answer ≡ Wait
      in_it None e = absurd (true≢false (sym e))
      in_it (Some unit) e = by unit (step unit x.run) e

-- ---- one more service waits

-- the service waits for the area since this clock
unfoldable pub with_wait : Locks → ServiceId → Area → ℕ → Locks
with_wait l id area now = record { holders = l.holders; waits = put id_cmp id (area, now) l.waits }

pub found_wait : (l : Locks) (id j : ServiceId) (area : Area) (now : ℕ) → find id_cmp j (with_wait l id area now).waits ≡ cond (id_eq j id) (Some (area, now)) (find id_cmp j l.waits)
unfolding with_wait
found_wait l id j area now = find-put id_cmp id_total j id (area, now) l.waits

-- a chain of waits from one service to another
Chain : Locks → (from to : ServiceId) → Type 0
Chain l from to = (rest : List ServiceId) × IsChain l to from rest

chain_on : (l : Locks) (from to last : ServiceId) (rest : List ServiceId) → IsChain l to from rest → Chain l to last → Chain l from last
unfolding Chain
chain_on l from to last [] same behind = subst (λ (i : ServiceId). Chain l i last) (sym same) behind
chain_on l from to last (next ∷ rest) c behind = let more = chain_on l next to last rest c.1 behind in (next ∷ more.0, (c.0, more.1))

module _ (l : Locks) (id other : ServiceId) (area : Area) (now : ℕ) (held : holder l area ≡ Some other) where
  -- a chain goes over the new wait at most once
  old_chain : (j from : ServiceId) (rest : List ServiceId) → IsChain (with_wait l id area now) j from rest → Chain l from j ⊎ (Chain l from id × Chain l other j)
  unfolding Chain with_wait
  old_chain j from [] same = inl ([], same)
  old_chain j from (next ∷ rest) c = by (id_eq from id) refl (old_chain j next rest c.1)
    where
      found : find id_cmp from (put id_cmp id (area, now) l.waits) ≡ cond (id_eq from id) (Some (area, now)) (find id_cmp from l.waits)
      found = found_wait l id from area now

      awaits_old : id_eq from id ≡ false → WaitsFor l from next
      awaits_old e = record {
        area = c.0.area;
        awaits = ap (option_map (λ (w : Waiting). w.0)) (sym (found ∙ ap (λ b. cond b (Some (area, now)) (find id_cmp from l.waits)) e)) ∙ c.0.awaits;
        holds = c.0.holds;
      }

      area_or : Area → Option Area → Area
      area_or d None = d
      area_or d (Some a) = a

      service_or : ServiceId → Option ServiceId → ServiceId
      service_or d None = d
      service_or d (Some i) = i

      is_other : id_eq from id ≡ true → next ≡ other
      is_other e =
          let here : Some area ≡ Some c.0.area = ap (option_map (λ (w : Waiting). w.0)) (sym (found ∙ ap (λ b. cond b (Some (area, now)) (find id_cmp from l.waits)) e)) ∙ c.0.awaits in
          let same : area ≡ c.0.area = ap (area_or area) here in
          sym (ap (service_or next) (sym held ∙ ap (holder l) same ∙ c.0.holds))

      by : (b : Bool) → id_eq from id ≡ b → Chain l next j ⊎ (Chain l next id × Chain l other j) → Chain l from j ⊎ (Chain l from id × Chain l other j)
      by true e (inl chain) = inr (([], id_eq_same from id e), subst (λ (i : ServiceId). Chain l i j) (is_other e) chain)
      by true e (inr both) = inr (([], id_eq_same from id e), both.1)
      by false e (inl chain) = inl (next ∷ chain.0, (awaits_old e, chain.1))
      by false e (inr both) = inr ((next ∷ both.0.0, (awaits_old e, both.0.1)), both.1)

  no_deadlock : (m : Locks) (asker first : ServiceId) (place : Area) → holder m place ≡ Some first → id_eq first asker ≡ false → ((rest : List ServiceId) → IsChain m asker first rest → ⊥) → is_deadlocked m asker first ≡ false
  no_deadlock m asker first place holds apart none = by (is_deadlocked m asker first) refl
    where
      first_or : ServiceId → Option ServiceId → ServiceId
      first_or d None = d
      first_or d (Some i) = i

      by : (b : Bool) → is_deadlocked m asker first ≡ b → is_deadlocked m asker first ≡ false
      by false e = e
      by true e =
          let dead = (deadlocks_found m asker first place holds apart).0 e in
          let same : dead.first ≡ first = ap (first_or first) (sym dead.holds ∙ holds) in
          absurd (none dead.rest (subst (λ (i : ServiceId). IsChain m asker i dead.rest) same dead.chain))

  no_chain : (m : Locks) (asker first : ServiceId) (place : Area) → holder m place ≡ Some first → id_eq first asker ≡ false → is_deadlocked m asker first ≡ false → (rest : List ServiceId) → IsChain m asker first rest → ⊥
  no_chain m asker first place holds apart e rest chain = true≢false (sym ((deadlocks_found m asker first place holds apart).1 (record { first = first; rest = rest; holds = holds; other = apart; chain = chain })) ∙ e)

  module _ (apart : id_eq other id ≡ false) (none : is_deadlocked l id other ≡ false) where
    -- the new wait itself goes on
    own_goes_on : is_deadlocked (with_wait l id area now) id other ≡ false
    unfolding Chain with_wait
    own_goes_on = no_deadlock (with_wait l id area now) id other area held apart (λ rest chain. by (old_chain id other rest chain))
      where
        by : Chain l other id ⊎ (Chain l other id × Chain l other id) → ⊥
        by (inl c) = no_chain l id other area held apart none c.0 c.1
        by (inr both) = no_chain l id other area held apart none both.0.0 both.0.1

    -- and so does an older one
    older_goes_on : (j first : ServiceId) (place : Area) (since_when : ℕ) → find id_cmp j l.waits ≡ Some (place, since_when) → holder l place ≡ Some first → id_eq first j ≡ false → is_deadlocked l j first ≡ false → is_deadlocked (with_wait l id area now) j first ≡ false
    unfolding Chain with_wait
    older_goes_on j first place since_when awaited_is holds away e = no_deadlock (with_wait l id area now) j first place holds away (λ rest chain. by (old_chain j first rest chain))
      where
        waits_for_first : WaitsFor l j first
        waits_for_first = record { area = place; awaits = ap (option_map (λ (w : Waiting). w.0)) awaited_is; holds = holds }

        by : Chain l first j ⊎ (Chain l first id × Chain l other j) → ⊥
        by (inl c) = no_chain l j first place holds away e c.0 c.1
        by (inr both) =
            let round : Chain l other id = chain_on l other j id both.1.0 both.1.1 (first ∷ both.0.0, (waits_for_first, both.0.1)) in
            no_chain l id other area held apart none round.0 round.1

-- ---- a request that is told to wait

-- another service holds the area, without a deadlock, and RESWAIT is not over
pub record IsToldToWait (l : Locks) (reswait now : ℕ) (id : ServiceId) (area : Area) : Type 0 where
  pub first : ServiceId
  pub holds : holder l area ≡ Some first
  pub apart : id_eq first id ≡ false
  pub going : is_deadlocked l id first ≡ false
  pub soon : nat_le (since l id area now + reswait) now ≡ false

is_wait : LockAnswer → Bool
is_wait Granted = false
is_wait Wait = true
is_wait Busy = false
is_wait Deadlock = false

pub told_from : (l : Locks) (reswait now : ℕ) (id : ServiceId) (area : Area) → answer_of l reswait now id area ≡ Wait → IsToldToWait l reswait now id area
unfolding answer_of is_wait
told_from l reswait now id area e = by (holder l area) refl (ap is_wait e)
  where
    refused : (first : ServiceId) → holder l area ≡ Some first → id_eq first id ≡ false → (dead late : Bool) → is_deadlocked l id first ≡ dead → nat_le (since l id area now + reswait) now ≡ late → is_wait (refused_by dead late) ≡ true → IsToldToWait l reswait now id area
    refused first holds apart true late ed el w = absurd (true≢false (sym w))
    refused first holds apart false true ed el w = absurd (true≢false (sym w))
    refused first holds apart false false ed el w = record { first = first; holds = holds; apart = apart; going = ed; soon = el }

    own : (first : ServiceId) → holder l area ≡ Some first → (b : Bool) → id_eq first id ≡ b → is_wait (answer_of_held l reswait now id area first b) ≡ true → IsToldToWait l reswait now id area
    own first holds true eb w = absurd (true≢false (sym w))
    own first holds false eb w = refused first holds eb (is_deadlocked l id first) (nat_le (since l id area now + reswait) now) refl refl w

    by : (o : Option ServiceId) → holder l area ≡ o → is_wait (answer_by_holder l reswait now id area o) ≡ true → IsToldToWait l reswait now id area
    by None eo w = absurd (true≢false (sym w))
    by (Some first) eo w = own first eo (id_eq first id) refl w

pub told_to : (l : Locks) (reswait now : ℕ) (id : ServiceId) (area : Area) → IsToldToWait l reswait now id area → answer_of l reswait now id area ≡ Wait
unfolding answer_of
told_to l reswait now id area h =
    ap (answer_by_holder l reswait now id area) h.holds
    ∙ ap (answer_of_held l reswait now id area h.first) h.apart
    ∙ (λ i. refused_by (h.going i) (h.soon i))

module _ (l : Locks) (reswait now : ℕ) (id : ServiceId) (area : Area) (told : IsToldToWait l reswait now id area) where
  abbrev pub later : Locks
  later = with_wait l id area (since l id area now)

  since_own : since later id area now ≡ since l id area now
  unfolding with_wait
  since_own = ap (since_by area now) (found_wait l id id area (since l id area now) ∙ ap (λ b. cond b (Some (area, since l id area now)) (find id_cmp id l.waits)) (id_eq_itself id)) ∙ ap (λ b. if b then since l id area now else now) (area_eq_itself area)

  -- its request is told so again
  pub own_told : IsToldToWait later reswait now id area
  unfolding with_wait
  own_told = record {
    first = told.first;
    holds = told.holds;
    apart = told.apart;
    going = own_goes_on l id told.first area (since l id area now) told.holds told.apart told.going;
    soon = ap (λ n. nat_le (n + reswait) now) since_own ∙ told.soon;
  }

  -- and so is that of another service that waits
  pub other_told : (j : ServiceId) (place : Area) (when : ℕ) → id_eq j id ≡ false → find id_cmp j l.waits ≡ Some (place, when) → IsToldToWait l reswait now j place → IsToldToWait later reswait now j place
  unfolding with_wait
  other_told j place when other awaited_is told_j = record {
    first = told_j.first;
    holds = told_j.holds;
    apart = told_j.apart;
    going = older_goes_on l id told.first area (since l id area now) told.holds told.apart told.going j told_j.first place when awaited_is told_j.holds told_j.apart told_j.going;
    soon = ap (λ o. nat_le (since_by place now o + reswait) now) (found_wait l id j area (since l id area now) ∙ ap (λ b. cond b (Some (area, since l id area now)) (find id_cmp j l.waits)) other) ∙ told_j.soon;
  }
