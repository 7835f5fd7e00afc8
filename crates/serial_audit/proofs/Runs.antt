-- A replay that goes on, statement by statement.
use Rattle.std.specs.Prelude.{◌≡◌, refl, ◌⊎◌, ℕ, zero, suc, ◌+◌, ◌≤◌, ◌<◌, Bool, true, false, [], ◌∷◌, ◌++◌, length, nat_le}
use Rattle.std.proofs.Common.{arith, inl, inr, sym, ap, subst, ◌∙◌, true≢false}
use Rattle.std.proofs.Math.Nat.{eq-or-lt_of_le}
use Rattle.std.proofs.lemmas.Bool.{le-leb, leb-true}
use Rattle.std.proofs.lemmas.List.{length-append}
use Rattle.abstract_monitor.specs.declared.answer.Happened.{Happened}
use Rattle.abstract_monitor.specs.declared.answer.Happened.TheVariants.{Went, Queued, Held}
use Rattle.abstract_monitor.specs.Bytes.{Bytes}
use Rattle.abstract_monitor.specs.Endings.{followed_by_input, is_asynchronous}
use Rattle.abstract_monitor.specs.State.{OpenTransaction as Transaction}
use Rattle.abstract_monitor.specs.Statements.{Stated, area_of}
use Rattle.laws_of_states.specs.KeptLaws.{statement_keeps}
use Rattle.laws_of_runs.specs.ReplaysLaws.{replay_next}
use Rattle.laws_of_states.specs.Replay.{GoesOn, accepted, input_at, replay, replay_statement, replay_step, replay_told, went_on}
use Rattle.serial_audit.specs.Audit.{Determines}
use Rattle.serial_audit.specs.Replaying.{Ran, ReadInput, WentOn, app_of, kept_in, tables_in}
use Rattle.serial_audit.specs.declared.replay.Replay.{Replay}
use Rattle.serial_audit.proofs.Opens.{opened_began}

module _ (p : Replay) where
  abbrev states : Transaction → Stated
  states x = replay_statement (app_of p) (tables_in p) (kept_in p) x

  abbrev goes_to : Transaction → Transaction
  goes_to x = replay_step (app_of p) (tables_in p) (kept_in p) x

  abbrev at : ℕ → Transaction
  at n = replay (app_of p) (tables_in p) (kept_in p) n

  -- ---- one statement

  -- it is done at once, and there are as many inputs as it has read, or there are not
  module _ (x y : Transaction) where
    abbrev read_all : Bool
    read_all = nat_le (length y.inputs) (length (accepted (kept_in p)))

    enough : (on : Bool) → read_all ≡ on → y ≡ goes_to x → GoesOn (states x).1 → WentOn p x y on
    enough true e is goes = (is, (goes, leb-true (length y.inputs) (length (accepted (kept_in p))) e))
    enough false e is goes = λ g few.
        true≢false (sym (le-leb (length y.inputs) (length (accepted (kept_in p))) (subst (λ (z : Transaction). length z.inputs ≤ length (accepted (kept_in p))) (sym is) few)) ∙ e)

    pub went : (on : Bool) → (y, Went) ≡ states x → on ≡ read_all → WentOn p x y on
    went on e is = enough on (sym is) (ap (λ (q : Stated). went_on (app_of p) (kept_in p) x q.0 q.1) e) (subst (λ (q : Stated). GoesOn q.1) e tt)

    pub queued : (on : Bool) → (y, Queued) ≡ states x → on ≡ read_all → WentOn p x y on
    queued on e is = enough on (sym is) (ap (λ (q : Stated). went_on (app_of p) (kept_in p) x q.0 q.1) e) (subst (λ (q : Stated). GoesOn q.1) e tt)

  -- it holds the transaction for the next input
  pub held : (x y z : Transaction) (tac : Bytes) (read : Bool) → y ≡ x → (y, Held tac) ≡ states x → ReadInput p y z tac read → WentOn p x z read
  unfolding followed_by_input
  held x y z tac true same e reads = (step, (subst (λ (q : Stated). GoesOn q.1) e tt, omega (arith, reads.1, ap (λ (w : Transaction). length w.inputs) reads.0, length-append y.inputs (input_at (kept_in p) (length y.inputs) ∷ []))))
    where
      step : z ≡ goes_to x
      step =
          reads.0
          ∙ ap (λ (w : Transaction). followed_by_input (app_of p).generation w tac (input_at (kept_in p) (length w.inputs))) same
          ∙ ap (λ (q : Stated). went_on (app_of p) (kept_in p) x q.0 q.1) e
  held x y z tac false same e missing = λ goes few. absurd (omega (arith, missing, few, more))
    where
      more : length (goes_to x).inputs ≡ length y.inputs + 1
      more =
          ap (λ (q : Stated). length (went_on (app_of p) (kept_in p) x q.0 q.1).inputs) (sym e)
          ∙ ap (λ (w : Transaction). length (w.inputs ++ input_at (kept_in p) (length w.inputs) ∷ [])) (sym same)
          ∙ length-append y.inputs (input_at (kept_in p) (length y.inputs) ∷ [])

  -- ---- many statements

  pub ran_more : (n : ℕ) (x y : Transaction) → Ran p n x → WentOn p x y true → Ran p (n + 1) y
  ran_more n x y ran on = record {
    is = next;
    goes_on = λ m lt. each m (eq-or-lt_of_le (omega (arith, lt)));
    inputs = λ m le. few m (eq-or-lt_of_le le);
  }
    where
      next : y ≡ at (n + 1)
      next = on.0 ∙ ap goes_to ran.is ∙ sym (replay_next (app_of p) (tables_in p) (kept_in p) n)

      each : (m : ℕ) → (m ≡ n) ⊎ (m < n) → GoesOn (states (at m)).1
      each m (inr lt) = ran.goes_on m lt
      each m (inl e) = subst (λ (k : ℕ). GoesOn (states (at k)).1) (sym e) (subst (λ (z : Transaction). GoesOn (states z).1) ran.is on.1.0)

      few : (m : ℕ) → (m ≡ n + 1) ⊎ (m < n + 1) → length (at m).inputs ≤ length (accepted (kept_in p))
      few m (inr lt) = ran.inputs m (omega (arith, lt))
      few m (inl e) = subst (λ (k : ℕ). length (at k).inputs ≤ length (accepted (kept_in p))) (sym e) (subst (λ (z : Transaction). length z.inputs ≤ length (accepted (kept_in p))) next on.1.1)

  -- a replay that stops before its last statement is not determined
  pub not_determined : (n : ℕ) (x y : Transaction) → n < (kept_in p).statements → Ran p n x → WentOn p x y false → Determines (app_of p) (tables_in p) (kept_in p) → ⊥
  not_determined n x y lt ran off d =
      off
      (subst (λ (z : Transaction). GoesOn (states z).1) (sym ran.is) (d.goes_on n lt))
      (subst (λ (z : Transaction). length z.inputs ≤ length (accepted (kept_in p))) (replay_next (app_of p) (tables_in p) (kept_in p) n ∙ ap goes_to (sym ran.is)) (d.inputs (n + 1) (omega (arith, lt))))

  -- ---- the row at the beginning

  -- a replay keeps the row with which it opens
  pub replay_began : (n : ℕ) → (at n).began ≡ (kept_in p).began
  unfolding replay followed_by_input
  replay_began zero = opened_began (app_of p) (tables_in p) (kept_in p) (kept_in p).service (kept_in p).began
  replay_began (suc n) = by (at n) (states (at n)) (statement_keeps (app_of p) (replay_told (tables_in p) (kept_in p) (at n) (area_of (app_of p) (at n))) (is_asynchronous (kept_in p).service) (at n)).began ∙ replay_began n
    where
      happening : (z y : Transaction) (h : Happened) → y.began ≡ z.began → (went_on (app_of p) (kept_in p) z y h).began ≡ z.began
      happening z y Went e = e
      happening z y Queued e = e
      happening z y _ e = refl

      by : (z : Transaction) (q : Stated) → q.0.began ≡ z.began → (went_on (app_of p) (kept_in p) z q.0 q.1).began ≡ z.began
      by z q e = happening z q.0 q.1 e
