-- What holds after a statement of a replay in the code.
use Rattle.std.specs.Prelude.{◌≡◌, ◌⊎◌, ◌+◌, ◌≤◌, Bool, true, false, IsTrue, length, nat_le, Some, Result, Ok, Err, IfOk, OnOk}
use Rattle.std.proofs.Common.{arith, inl, inr, sym, ap, subst, ◌∙◌, true≢false}
use Rattle.std.proofs.lemmas.Result.{IfOk-weaker}
use Rattle.kdcs_types.specs.declared.key.ServiceId.{ServiceId}
use Rattle.application_types.specs.UnitText.{UnitText}
use Rattle.abstract_monitor.specs.declared.answer.Happened.{Happened}
use Rattle.abstract_monitor.specs.declared.answer.Happened.TheVariants.{Went, Queued, Held}
use Rattle.abstract_monitor.specs.Bytes.{Bytes}
use Rattle.abstract_monitor.specs.Endings.{followed_by_input, is_asynchronous}
use Rattle.abstract_monitor.specs.Locks.{Locks}
use Rattle.abstract_monitor.specs.State.{OpenTransaction as Transaction, unit_of}
use Rattle.abstract_monitor.specs.Statements.{Stated}
use Rattle.laws_of_states.specs.Replay.{accepted, input_at, replay_statement}
use Rattle.laws_of_states.specs.Suits.{has_kind}
use Rattle.laws_of_states.specs.Transactions.{CanGoOn}
use Rattle.laws_of_states.specs.OpeningsLaws.{further_by_input}
use Rattle.laws_of_states.specs.OpenLaws.{HappenedFits, StandsIn}
use Rattle.open_transaction.specs.declared.open.OpenTransaction.{OpenTransaction}
use Rattle.open_transaction.specs.Transactions.{transaction_of}
use Rattle.serial_audit.specs.Asking.{HoldsAlone}
use Rattle.serial_audit.specs.Replaying.{Goes, IsAuditable, ReadInput, WentOn, app_of, kept_in, tables_in}
use Rattle.serial_audit.specs.declared.replay.Replay.{Replay}
use Rattle.serial_audit.proofs.Doing.{statement_kept}
use Rattle.serial_audit.proofs.Ends.{still}
use Rattle.serial_audit.proofs.Locks.{alone_same}
use Rattle.serial_audit.proofs.Opens.{input_fits}
use Rattle.serial_audit.proofs.Runs.{held, queued, went}

module _ (p : Replay) where
  abbrev states : Transaction → Stated
  states x = replay_statement (app_of p) (tables_in p) (kept_in p) x

  abbrev id : ServiceId
  id = (kept_in p).service

  -- ---- what goes on

  module _ (l : Locks) (w : OpenTransaction) (auditable : IsAuditable p) (goes : Goes p l w) where
    pub stands : (unit : UnitText) → Some unit ≡ unit_of (app_of p) w.current → StandsIn (app_of p) w.id (transaction_of w) unit
    stands unit found = record {
      application = auditable.application;
      can = subst (λ (i : ServiceId). CanGoOn (app_of p).generation i (transaction_of w)) (sym goes.own) goes.can;
      in_unit = sym found;
    }

    pub goes_after : (m : Locks) (v : OpenTransaction) (h : Happened) → ◌≡◌ {A = Stated} (transaction_of v, h) (states (transaction_of w)) → v.id ≡ w.id → v.messages.nb ≡ w.messages.nb → HoldsAlone m w.id (transaction_of v) → Goes p m v
    goes_after m v h e own nb alone = record {
      own = own ∙ goes.own;
      can = (statement_kept p (transaction_of w) (transaction_of v) h auditable goes.can e).can;
      alone = subst (λ (i : ServiceId). HoldsAlone m i (transaction_of v)) goes.own alone;
      nb = nb ∙ goes.nb;
    }

    -- after a call, which the step `u` of the unit has left as it was
    module _ (m : Locks) (u v : OpenTransaction) (same : u.id ≡ w.id) {E : Type 0} where
      pub goes_after_call : (o : Result Happened E) → IfOk o (λ (h : Happened). ◌≡◌ {A = Stated} (transaction_of v, h) (states (transaction_of w))) → v.id ≡ u.id → v.messages.nb ≡ w.messages.nb → OnOk o (HoldsAlone m u.id (transaction_of v)) → OnOk o (Goes p m v)
      goes_after_call (Err e) is own nb alone = tt
      goes_after_call (Ok h) is own nb alone = goes_after m v h is (own ∙ same) nb (subst (λ (i : ServiceId). HoldsAlone m i (transaction_of v)) same alone)

    pub fits_after : (y : Transaction) {E : Type 0} (o : Result Happened E) → IfOk o (λ (h : Happened). ◌≡◌ {A = Stated} (y, h) (states (transaction_of w))) → IfOk o (HappenedFits (app_of p).generation (is_asynchronous w.id))
    fits_after y o is =
        IfOk-weaker o _ _
        (λ h e. subst (λ (i : ServiceId). HappenedFits (app_of p).generation (is_asynchronous i) h) (sym goes.own) (statement_kept p (transaction_of w) y h auditable goes.can e).fits)
        is

  -- ---- one statement

  module _ (x y : Transaction) (h : Happened) (e : ◌≡◌ {A = Stated} (y, h) (states x)) where
    so : (k : Happened) → h ≡ k → ◌≡◌ {A = Stated} (y, k) (states x)
    so k is = subst (λ (j : Happened). ◌≡◌ {A = Stated} (y, j) (states x)) is e

    pub at_once : (h ≡ Went) ⊎ (h ≡ Queued) → (on : Bool) → on ≡ nat_le (length y.inputs) (length (accepted (kept_in p))) → WentOn p x y on
    at_once (inl is) on few = went p x y on (so Went is) few
    at_once (inr is) on few = queued p x y on (so Queued is) few

    module _ (tac : Bytes) (is : h ≡ Held tac) where
      pub held_still : y ≡ x
      held_still = still p x y (Held tac) (so (Held tac) is) tt

      pub held_went : (z : Transaction) {E : Type 0} (o : Result Bool E) → IfOk o (ReadInput p y z tac) → IfOk o (WentOn p x z)
      held_went z o reads = IfOk-weaker o _ _ (λ read k. held p x y z tac read held_still (so (Held tac) is) k) reads

  -- ---- PEND KP

  pub held_kind : (i : ServiceId) (h : Happened) (tac : Bytes) → i ≡ id → h ≡ Held tac → HappenedFits (app_of p).generation (is_asynchronous i) h → IsTrue (has_kind (app_of p).generation tac (is_asynchronous id))
  held_kind i h tac own is fits = subst (λ (j : ServiceId). IsTrue (has_kind (app_of p).generation tac (is_asynchronous j))) own (subst (HappenedFits (app_of p).generation (is_asynchronous i)) is fits).0

  module _ (v u : OpenTransaction) (tac : Bytes) {E : Type 0} (o : Result Bool E) (reads : IfOk o (ReadInput p (transaction_of v) (transaction_of u) tac)) where
    -- what follows, if it has read its input
    follows : (P : Type 0) → (transaction_of u ≡ followed_by_input (app_of p).generation (transaction_of v) tac (input_at (kept_in p) (length v.inputs)) → P) → IfOk o (λ (on : Bool). on ≡ true → P)
    follows P then = IfOk-weaker o _ _ by reads
      where
        by : (on : Bool) → ReadInput p (transaction_of v) (transaction_of u) tac on → on ≡ true → P
        by true k is = then k.0
        by false k is = absurd (true≢false (sym is))

    pub held_goes : (l : Locks) → IsAuditable p → Goes p l v → IsTrue (has_kind (app_of p).generation tac (is_asynchronous id)) → u.id ≡ v.id → (v.messages.nb ≡ (app_of p).generation.limits.nb → u.messages.nb ≡ (app_of p).generation.limits.nb) → IfOk o (λ (on : Bool). on ≡ true → Goes p l u)
    unfolding followed_by_input
    held_goes l auditable goes kind own nb = follows (Goes p l u) (λ e. record {
      own = own ∙ goes.own;
      can = subst (CanGoOn (app_of p).generation id) (sym e)
          (further_by_input (app_of p).generation id (transaction_of v) tac (input_at (kept_in p) (length v.inputs)) kind (input_fits (app_of p).generation (accepted (kept_in p)) (length v.inputs) auditable.short.inputs) goes.can);
      alone = alone_same l id (transaction_of v) goes.alone (transaction_of u) (ap (λ (x : Transaction). x.touched) e);
      nb = nb goes.nb;
    })

    pub held_counted : (w : OpenTransaction) → transaction_of v ≡ transaction_of w → IfOk o (λ (on : Bool). on ≡ true → u.statements ≤ w.statements + 1)
    unfolding followed_by_input
    held_counted w still = follows (u.statements ≤ w.statements + 1)
        (λ e. let more : u.statements ≡ v.statements + 1 = ap (λ (x : Transaction). x.statements) e in
        let same : v.statements ≡ w.statements = ap (λ (x : Transaction). x.statements) still in
        omega (arith, more, same))
