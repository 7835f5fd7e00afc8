-- A transaction that ends does so as its record, run in one go.
use Rattle.std.specs.Prelude.{◌≡◌, refl, ℕ, zero, suc, ◌+◌, ◌-◌, ◌<◌, ◌≤◌, ◌⊎◌, Bool, true, false, is_some, Option, Some, None}
use Rattle.std.proofs.Common.{sym, ap, ◌∙◌, subst, inl, inr, ⊎_elim, arith}
use Rattle.kdcs_types.specs.declared.call.Cause.{Cause}
use Rattle.kdcs_types.specs.declared.key.Area.{Area}
use Rattle.kdcs_types.specs.declared.key.ServiceId.{ServiceId}
use Rattle.kdcs_types.specs.declared.key.ServiceId.TheVariants.{Dialogue, Asynchronous}
use Rattle.kdcs_types.specs.declared.service.Ending.{Ending}
use Rattle.kdcs_types.specs.declared.service.JobValue.{JobValue}
use Rattle.kdcs_types.specs.declared.service.Service.{Service}
use Rattle.kdcs_types.specs.Tables.{TableRows, job_of}
use Rattle.application_types.specs.UnitText.{UnitText}
use Rattle.abstract_monitor.specs.declared.answer.Called.{Called}
use Rattle.abstract_monitor.specs.declared.answer.Called.TheVariants.{Replied, Waits, Abnormal, Pends}
use Rattle.abstract_monitor.specs.declared.answer.Happened.{Happened}
use Rattle.abstract_monitor.specs.declared.answer.Happened.TheVariants.{Went, Queued, Waited, Held, Settles, Breaks, Returns}
use Rattle.abstract_monitor.specs.declared.answer.LockAnswer.{LockAnswer}
use Rattle.abstract_monitor.specs.declared.answer.LockAnswer.TheVariants.{Granted, Wait, Busy, Deadlock}
use Rattle.abstract_monitor.specs.declared.outcome.Outcome.{Outcome}
use Rattle.abstract_monitor.specs.Bytes.{Bytes}
use Rattle.abstract_monitor.specs.State.{Application, OpenTransaction}
use Rattle.abstract_monitor.specs.Calls.{Told, Performed, touches, touching, answer_by, on_answer}
use Rattle.abstract_monitor.specs.Endings.{is_asynchronous, opened, durable, broken, synchronised, refusal, followed_by_input}
use Rattle.abstract_monitor.specs.Statements.{Kept, Stated, area_of, kept_so_far, kept_record, by_call, by_performed, statement}
use Rattle.laws_of_states.specs.Replay.{dialogue_from, job_from, opened_from, went_on, replay_told, replay_statement, replay_step, replay, Ended, settled_as, ended_by, atomic, GoesOn, IsReplayed}
use Rattle.laws_of_states.specs.Replay.{IsAtomic}
use Rattle.laws_of_states.specs.Transactions.{IsRooted}
use Rattle.laws_of_runs.specs.Replays.{GoesOnAtOnce}
use Rattle.laws_of_states.specs.ShapesLaws.{IsAnswered, AnsweredBy, StatementLeaves, StatementLooks, StatementAlone, StatementLocks, StatementUnlocks, statement_looks}

-- ---- an end looks at nothing

-- the transaction ends, or goes back
abbrev pub Ends : Happened → Type 0
Ends (Settles o) = Unit {0}
Ends (Breaks ending) = Unit {0}
Ends Returns = Unit {0}
Ends _ = ⊥

module _ (app : Application) (asy : Bool) (x : OpenTransaction) where
  abbrev does : Told → Stated
  does v = statement app v asy x

  abbrev performs : UnitText → Performed → Stated
  performs unit p = by_performed app asy unit p

  answered_goes : (unit : UnitText) (z : OpenTransaction) (p : Performed) → IsAnswered z p → Ends (performs unit p).1 → ⊥
  answered_goes unit z p = by p.1
    where
      by : (c : Called) → AnsweredBy z p.0 c → Ends (by_call app asy unit p.0 c).1 → ⊥
      by (Replied reply) q e = e
      by Waits q e = e
      by (Abnormal cause) q e = q
      by (Pends variant o) q e = q

  locks_go : (unit : UnitText) (area : Area) (go : OpenTransaction → Performed) → ((y : OpenTransaction) → IsAnswered y (go y)) → (a : LockAnswer) → Ends (performs unit (on_answer x area a go)).1 → ⊥
  locks_go unit area go all Granted e = answered_goes unit (touching x area (touches x area)) (go (touching x area (touches x area))) (all _) e
  locks_go unit area go all _ e = e

  -- a statement that ends its transaction does so whatever it is told
  pub ends_alike : (v w : Told) → Ends (does v).1 → does w ≡ does v
  ends_alike v w ends = by (statement_looks app asy x)
    where
      by : StatementLooks app asy x (area_of app x) does → does w ≡ does v
      by (StatementAlone r same leaves) = same w ∙ sym (same v)
      by (StatementLocks unit area go asks same all) =
          absurd (locks_go unit area (go v.content) (all v.content) (answer_by v (touches x area)) (subst (λ (q : Stated). Ends q.1) (same v) ends))
      by (StatementUnlocks unit area asks held same) = absurd (subst (λ (q : Stated). Ends q.1) (same v) ends)

  -- ---- what a statement counts

  abbrev CountsOne : OpenTransaction → Type 0
  CountsOne y = y.statements ≡ x.statements + 1

  abbrev Counts : Stated → Type 0
  Counts q = GoesOnAtOnce q.1 → CountsOne q.0

  leaves_counts : (q : Stated) → StatementLeaves x q.0 q.1 → Counts q
  leaves_counts q = by q.1
    where
      by : (h : Happened) → StatementLeaves x q.0 h → GoesOnAtOnce h → CountsOne q.0
      by Went l g = l.statements
      by Queued l g = l.statements
      by _ l g = absurd g

  answered_count : (unit : UnitText) (z : OpenTransaction) (p : Performed) → z.statements ≡ x.statements → IsAnswered z p → Counts (performs unit p)
  answered_count unit z p same = by p.1
    where
      by : (c : Called) → AnsweredBy z p.0 c → Counts (by_call app asy unit p.0 c)
      by (Replied reply) q g = ap (λ n. n + 1) (q.statements ∙ same)
      by _ q g = absurd q

  touching_counts : (area : Area) (b : Bool) → (touching x area b).statements ≡ x.statements
  touching_counts area true = refl
  touching_counts area false = refl

  locks_count : (unit : UnitText) (area : Area) (go : OpenTransaction → Performed) → ((y : OpenTransaction) → IsAnswered y (go y)) → (a : LockAnswer) → Counts (performs unit (on_answer x area a go))
  locks_count unit area go all Granted g =
      let y = touching x area (touches x area) in
      answered_count unit y (go y) (touching_counts area (touches x area)) (all y) g
  locks_count unit area go all Wait g = absurd g
  locks_count unit area go all Busy g = refl
  locks_count unit area go all Deadlock g = refl

  -- one that goes on at once is one statement more
  statement_counts : (v : Told) → Counts (does v)
  statement_counts v = by (statement_looks app asy x)
    where
      by : StatementLooks app asy x (area_of app x) does → Counts (does v)
      by (StatementAlone r same leaves) = subst Counts (sym (same v)) (leaves_counts r leaves)
      by (StatementLocks unit area go asks same all) = subst Counts (sym (same v)) (locks_count unit area (go v.content) (all v.content) (answer_by v (touches x area)))
      by (StatementUnlocks unit area asks held same) = subst Counts (sym (same v)) (λ g. refl)

-- ---- a replay that counts as many statements as it has steps goes on at each

module _ (app : Application) (t : TableRows) (r : Kept) where
  abbrev at : ℕ → OpenTransaction
  at n = replay app t r n

  abbrev GoesOnAt : ℕ → Type 0
  GoesOnAt n = GoesOn (replay_statement app t r (at n)).1

  -- a step goes on and counts one, or counts nothing
  abbrev IsStep : OpenTransaction → OpenTransaction → Happened → Type 0
  IsStep z y h = (GoesOn h × (y.statements ≡ z.statements + 1)) ⊎ (y.statements ≡ z.statements)

  step_of : (z : OpenTransaction) → IsStep z (replay_step app t r z) (replay_statement app t r z).1
  unfolding followed_by_input
  step_of z =
      let v = replay_told t r z (area_of app z) in
      by (statement app v (is_asynchronous r.service) z) (statement_counts app (is_asynchronous r.service) z v)
    where
      happening : (y : OpenTransaction) (h : Happened) → (GoesOnAtOnce h → y.statements ≡ z.statements + 1) → IsStep z (went_on app r z y h) h
      happening y Went c = inl (tt, c tt)
      happening y Queued c = inl (tt, c tt)
      happening y (Held tac) c = inl (tt, refl)
      happening y _ c = inr refl

      by : (q : Stated) → (GoesOnAtOnce q.1 → q.0.statements ≡ z.statements + 1) → IsStep z (went_on app r z q.0 q.1) q.1
      by q c = happening q.0 q.1 c

  step_at : (n : ℕ) → IsStep (at n) (at (suc n)) (replay_statement app t r (at n)).1
  unfolding replay
  step_at n = step_of (at n)

  first_none : (at zero).statements ≡ 0
  unfolding replay opened
  first_none = by r.service r.began
    where
      from_row : (user : Bytes) (row : Service) (b : Bool) → (dialogue_from app r user row b).statements ≡ 0
      from_row user row true = refl
      from_row user row false = refl

      from_job : (o : Option JobValue) → (job_from app r o).statements ≡ 0
      from_job None = refl
      from_job (Some job) = refl

      by : (id : ServiceId) (began : Option Service) → (opened_from app t r id began).statements ≡ 0
      by (Dialogue user) None = refl
      by (Dialogue user) (Some row) = from_row user row row.awaits
      by (Asynchronous number) None = from_job (job_of t number)
      by (Asynchronous number) (Some row) = refl

  at_most_one : (n : ℕ) → (at (suc n)).statements ≤ (at n).statements + 1
  at_most_one n = ⊎_elim (λ (k : GoesOnAt n × ((at (suc n)).statements ≡ (at n).statements + 1)). from k.1) (λ (k : (at (suc n)).statements ≡ (at n).statements). still k) (step_at n)
    where
      from : (at (suc n)).statements ≡ (at n).statements + 1 → (at (suc n)).statements ≤ (at n).statements + 1
      from e = omega arith

      still : (at (suc n)).statements ≡ (at n).statements → (at (suc n)).statements ≤ (at n).statements + 1
      still e = omega arith

  no_more : (n : ℕ) → (at n).statements ≤ n
  no_more zero = let e : (at zero).statements ≡ 0 = first_none in omega arith
  no_more (suc n) = let a : (at n).statements ≤ n = no_more n in let b : (at (suc n)).statements ≤ (at n).statements + 1 = at_most_one n in omega arith

  rises : (n k : ℕ) → (at (n + k)).statements ≤ (at n).statements + k
  rises n zero = subst (λ m. (at m).statements ≤ (at n).statements + 0) (none n) (let z : (at n).statements ≤ (at n).statements + 0 = omega arith in z)
    where
      none : (m : ℕ) → m ≡ m + 0
      none m = omega arith
  rises n (suc k) =
      subst (λ m. (at m).statements ≤ (at n).statements + suc k) (next n k)
      (let a : (at (n + k)).statements ≤ (at n).statements + k = rises n k in let b : (at (suc (n + k))).statements ≤ (at (n + k)).statements + 1 = at_most_one (n + k) in
      let z : (at (suc (n + k))).statements ≤ (at n).statements + suc k = omega arith in z)
    where
      next : (m j : ℕ) → suc (m + j) ≡ m + suc j
      next m j = omega arith

  pub goes_on_each : (last : ℕ) → (at last).statements ≡ last → (n : ℕ) → n < last → GoesOnAt n
  goes_on_each last all n below = ⊎_elim (λ (k : GoesOnAt n × ((at (suc n)).statements ≡ (at n).statements + 1)). k.0) (λ (k : (at (suc n)).statements ≡ (at n).statements). absurd (lost k)) (step_at n)
    where
      rest : ℕ
      rest = last - suc n

      whole : suc n + rest ≡ last
      whole = omega arith

      lost : (at (suc n)).statements ≡ (at n).statements → ⊥
      lost e =
          let a : (at n).statements ≤ n = no_more n in
          let b : (at (suc n + rest)).statements ≤ (at (suc n)).statements + rest = rises (suc n) rest in
          let d : (at (suc n + rest)).statements ≡ last = ap (λ m. (at m).statements) whole ∙ all in
          let f : suc n + rest ≡ last = whole in
          omega arith

-- ---- the record of a transaction that ends

module _ (app : Application) (t : TableRows) (id : ServiceId) (x : OpenTransaction) (replayed : IsReplayed app t id x) (rooted : IsRooted t id x) (v : Told) where
  abbrev so_far : Kept
  so_far = kept_so_far id x

  -- the statement that ends it, in the replay
  last_alike : Ends (statement app v (is_asynchronous id) x).1 → replay_statement app t so_far x ≡ statement app v (is_asynchronous id) x
  last_alike ends = ends_alike app (is_asynchronous id) x v (replay_told t so_far x (area_of app x)) ends

  result_is : Ends (statement app v (is_asynchronous id) x).1 → atomic app t so_far ≡ ended_by app t id x (statement app v (is_asynchronous id) x).1
  unfolding atomic
  result_is ends = ap (λ y. ended_by app t id y (replay_statement app t so_far y).1) replayed ∙ ap (λ (q : Stated). ended_by app t id x q.1) (last_alike ends)

  pub ends_atomic : (u : TableRows) (ending : Ending) → Ends (statement app v (is_asynchronous id) x).1
      → ended_by app t id x (statement app v (is_asynchronous id) x).1 ≡ Some (record { tables = u; ending = ending }) → IsAtomic app t u (kept_record id x ending)
  ends_atomic u ending ends is = record {
    began = rooted.began;
    job = rooted.job;
    determined = record {
      goes_on = goes_on_each app t so_far x.statements (ap (λ (y : OpenTransaction). y.statements) replayed);
      ends = ap is_some (result_is ends ∙ is);
      keeps = ap (kept_so_far id) replayed;
    };
    result = result_is ends ∙ is;
  }

  -- an abnormal end
  pub breaks_atomic : (ending : Ending) → (statement app v (is_asynchronous id) x).1 ≡ Breaks ending → IsAtomic app t (broken app.generation t id x) (kept_record id x ending)
  breaks_atomic ending is = ends_atomic (broken app.generation t id x) ending (subst Ends (sym is) tt) (ap (ended_by app t id x) is)

  -- a synchronisation point, or the abnormal end of one that is refused
  pub settles_atomic : (o : Outcome) (cause : Option Cause) → (statement app v (is_asynchronous id) x).1 ≡ Settles o → refusal app.generation (durable app.generation (synchronised app.generation t id x o)) ≡ cause
      → (let e = settled_as app t id x (synchronised app.generation t id x o) cause in IsAtomic app t e.tables (kept_record id x e.ending))
  settles_atomic o cause is refused =
      let new = synchronised app.generation t id x o in
      let e = settled_as app t id x new cause in
      ends_atomic e.tables e.ending (subst Ends (sym is) tt) (ap (ended_by app t id x) is ∙ ap (λ c. some_ended (settled_as app t id x new c)) refused)
    where
      some_ended : Ended → Option Ended
      some_ended e = Some e

-- ---- the LTERM

module _ (app : Application) (asy : Bool) (x : OpenTransaction) where
  abbrev KeepsLterm : Stated → Type 0
  KeepsLterm q = q.0.lterm ≡ x.lterm

  leaves_lterm : (q : Stated) → StatementLeaves x q.0 q.1 → KeepsLterm q
  leaves_lterm q = by q.1
    where
      same : q.0 ≡ x → q.0.lterm ≡ x.lterm
      same e = ap (λ (y : OpenTransaction). y.lterm) e

      by : (h : Happened) → StatementLeaves x q.0 h → q.0.lterm ≡ x.lterm
      by Went l = l.lterm
      by Queued l = l.lterm
      by Waited l = absurd l
      by _ l = same l

  answered_lterm : (unit : UnitText) (z : OpenTransaction) (p : Performed) → z.lterm ≡ x.lterm → IsAnswered z p → KeepsLterm (by_performed app asy unit p)
  answered_lterm unit z p same = by p.1
    where
      by : (c : Called) → AnsweredBy z p.0 c → KeepsLterm (by_call app asy unit p.0 c)
      by (Replied reply) q = q.lterm ∙ same
      by _ q = absurd q

  touching_lterm : (area : Area) (b : Bool) → (touching x area b).lterm ≡ x.lterm
  touching_lterm area true = refl
  touching_lterm area false = refl

  locks_lterm : (unit : UnitText) (area : Area) (go : OpenTransaction → Performed) → ((y : OpenTransaction) → IsAnswered y (go y)) → (a : LockAnswer) → KeepsLterm (by_performed app asy unit (on_answer x area a go))
  locks_lterm unit area go all Granted =
      let y = touching x area (touches x area) in
      answered_lterm unit y (go y) (touching_lterm area (touches x area)) (all y)
  locks_lterm unit area go all Wait = refl
  locks_lterm unit area go all Busy = refl
  locks_lterm unit area go all Deadlock = refl

  statement_lterm : (v : Told) → KeepsLterm (statement app v asy x)
  statement_lterm v = by (statement_looks app asy x)
    where
      by : StatementLooks app asy x (area_of app x) (λ w. statement app w asy x) → KeepsLterm (statement app v asy x)
      by (StatementAlone r same leaves) = subst KeepsLterm (sym (same v)) (leaves_lterm r leaves)
      by (StatementLocks unit area go asks same all) = subst KeepsLterm (sym (same v)) (locks_lterm unit area (go v.content) (all v.content) (answer_by v (touches x area)))
      by (StatementUnlocks unit area asks held same) = subst KeepsLterm (sym (same v)) refl

-- a replay keeps the LTERM with which it opens
pub replay_lterm : (app : Application) (t : TableRows) (r : Kept) (n : ℕ) → (replay app t r n).lterm ≡ (opened_from app t r r.service r.began).lterm
unfolding replay followed_by_input
replay_lterm app t r zero = refl
replay_lterm app t r (suc n) =
    let z = replay app t r n in
    by z (statement app (replay_told t r z (area_of app z)) (is_asynchronous r.service) z) (statement_lterm app (is_asynchronous r.service) z (replay_told t r z (area_of app z))) ∙ replay_lterm app t r n
  where
    happening : (z y : OpenTransaction) (h : Happened) → y.lterm ≡ z.lterm → (went_on app r z y h).lterm ≡ z.lterm
    happening z y Went e = e
    happening z y Queued e = e
    happening z y _ e = refl

    by : (z : OpenTransaction) (q : Stated) → q.0.lterm ≡ z.lterm → (went_on app r z q.0 q.1).lterm ≡ z.lterm
    by z q e = happening z q.0 q.1 e
