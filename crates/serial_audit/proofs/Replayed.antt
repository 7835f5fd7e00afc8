-- The replay of a record, from its opening to its end.
use Rattle.std.specs.Prelude.{◌≡◌, refl, ℕ, ◌≤◌, true, false, IfNone, IfSome, IsSome, length, nat_le, Option, Some, None, is_some}
use Rattle.std.proofs.Common.{arith, sym, ap, subst, ◌∙◌, true≢false}
use Rattle.std.proofs.lemmas.Bool.{le-leb, leb-true}
use Rattle.kd_base.specs.ToolsLaws.{some_is}
use Rattle.kdcs_types.specs.declared.key.Area.{Area}
use Rattle.kdcs_types.specs.declared.service.Ending.{Ending}
use Rattle.kdcs_types.specs.Tables.{TableRows}
use Rattle.monitor_parts.specs.Asked.{no_locks}
use Rattle.abstract_monitor.specs.Locks.{Locks}
use Rattle.abstract_monitor.specs.State.{OpenTransaction as Transaction}
use Rattle.laws_of_states.specs.Replay.{Ended as AtEnd, accepted, atomic, notes_on, opened_from, replay}
use Rattle.laws_of_states.specs.Transactions.{CanGoOn, HasOwnJob, IsRooted}
use Rattle.open_transaction.specs.Transactions.{Boxed, boxed_transaction}
use Rattle.serial_audit.specs.Asking.{HoldsAlone}
use Rattle.serial_audit.specs.Audit.{Determines}
use Rattle.serial_audit.specs.Ending.{ChangesAre, ended_from}
use Rattle.serial_audit.specs.Expecting.{IsReplayed}
use Rattle.serial_audit.specs.Opening.{CanOpen, IsOpened}
use Rattle.serial_audit.specs.Replaying.{Goes, IsAuditable, Ran, app_of, kept_in, tables_in}
use Rattle.serial_audit.specs.declared.ending.Ended.{Ended}
use Rattle.serial_audit.specs.declared.replay.Replay.{Replay}
use Rattle.serial_audit.proofs.Locks.{none_alone}
use Rattle.serial_audit.proofs.Opens.{opened_can, opened_fresh, own_job}
use Rattle.serial_audit.proofs.Runs.{replay_began}

module _ (p : Replay) where
  abbrev opening : Transaction
  opening = opened_from (app_of p) (tables_in p) (kept_in p) (kept_in p).service (kept_in p).began

  abbrev at : ℕ → Transaction
  at n = replay (app_of p) (tables_in p) (kept_in p) n

  at_first : at 0 ≡ opening
  unfolding replay
  at_first = refl

  -- ---- the opening

  pub opened_ran : (b : Boxed) (x : Transaction) → IsOpened p opening b → boxed_transaction b ≡ x → nat_le (length x.inputs) (length (accepted (kept_in p))) ≡ true → Ran p 0 x
  opened_ran b x opened same enough = record {
    is = first;
    goes_on = λ m lt. absurd (omega (arith, lt));
    inputs = λ m le. subst (λ (k : ℕ). length (at k).inputs ≤ length (accepted (kept_in p))) (omega (arith, le)) (subst (λ (y : Transaction). length y.inputs ≤ length (accepted (kept_in p))) first (leb-true (length x.inputs) (length (accepted (kept_in p))) enough));
  }
    where
      first : x ≡ at 0
      first = sym same ∙ opened.is ∙ sym at_first

  pub opened_goes : (b : Boxed) (l : Locks) → IsAuditable p → CanOpen p → IsOpened p opening b → l ≡ no_locks → Goes p l b.value
  opened_goes b l auditable can opened none = record {
    own = opened.own;
    can = subst (λ (x : Transaction). CanGoOn (app_of p).generation (kept_in p).service x) (sym opened.is)
        (opened_can (app_of p) (tables_in p) (kept_in p) auditable.sound auditable.begins auditable.short (kept_in p).service (kept_in p).began can.rooted can.user auditable.begins.tac can.job);
    alone = subst (λ (k : Locks). HoldsAlone k (kept_in p).service (boxed_transaction b)) (sym none)
        (none_alone (kept_in p).service (boxed_transaction b) (ap (λ (x : Transaction). x.touched) opened.is ∙ (opened_fresh (app_of p) (tables_in p) (kept_in p) (kept_in p).service (kept_in p).began).0));
    nb = opened.nb;
  }

  pub opened_none : (b : Boxed) → IsOpened p opening b → (boxed_transaction b).statements ≡ 0
  opened_none b opened = ap (λ (x : Transaction). x.statements) opened.is ∙ (opened_fresh (app_of p) (tables_in p) (kept_in p) (kept_in p).service (kept_in p).began).1

  pub unopened : (b : Boxed) (x : Transaction) → IsOpened p opening b → boxed_transaction b ≡ x → nat_le (length x.inputs) (length (accepted (kept_in p))) ≡ false → Determines (app_of p) (tables_in p) (kept_in p) → ⊥
  unopened b x opened same more d =
      true≢false
      (sym (le-leb (length x.inputs) (length (accepted (kept_in p))) (subst (λ (y : Transaction). length y.inputs ≤ length (accepted (kept_in p))) (at_first ∙ sym opened.is ∙ same) (d.inputs 0 (omega arith))))
      ∙ more)

  -- ---- the end

  module _ (x : Transaction) (ran : Ran p (kept_in p).statements x) where
    pub rooted : CanOpen p → IsRooted (tables_in p) (kept_in p).service x
    rooted can = record {
      began = can.rooted ∙ sym own;
      job = subst (HasOwnJob (tables_in p) (kept_in p).service) (sym own) (own_job (tables_in p) (kept_in p) (kept_in p).service (kept_in p).began can.job);
    }
      where
        own : x.began ≡ (kept_in p).began
        own = ap (λ (y : Transaction). y.began) ran.is ∙ replay_began p (kept_in p).statements

    same_end : ended_from p x ≡ atomic (app_of p) (tables_in p) (kept_in p)
    unfolding atomic
    same_end = ap (ended_from p) ran.is

    -- the next statement does not end it
    pub none_ended : (o : Option Ended) → o ≡ None → IfNone o (IsSome (ended_from p x) → ⊥) → Determines (app_of p) (tables_in p) (kept_in p) → ⊥
    none_ended o e not d = subst (λ (k : Option Ended). IfNone k (IsSome (ended_from p x) → ⊥)) e not (ap is_some same_end ∙ d.ends)

    module _ (o : Option Ended) (ended : Ended) (e : o ≡ Some ended) (some : IfSome o (ChangesAre p (ended_from p x))) where
      ended_are : ChangesAre p (ended_from p x) ended
      ended_are = subst (λ (k : Option Ended). IfSome k (ChangesAre p (ended_from p x))) e some

      -- it ends in another way than the record says
      pub other_ended : (ended.ending ≡ p.record.now.ending → ⊥) → (whole : TableRows) → atomic (app_of p) (tables_in p) (kept_in p) ≡ Some (record { tables = whole; ending = p.record.now.ending }) → ⊥
      other_ended not whole is = by (ended_from p x) refl ended_are
        where
          by : (q : Option AtEnd) → ended_from p x ≡ q → ChangesAre p q ended → ⊥
          by None same are = are
          by (Some k) same are = not (are.ending ∙ ap (λ (j : AtEnd). j.ending) (some_is k (record { tables = whole; ending = p.record.now.ending }) (sym same ∙ same_end ∙ is)))

      pub replayed_to : CanOpen p → IsAuditable p → ((area : Area) → notes_on area x.notes ≡ notes_on area (kept_in p).notes) → ended.ending ≡ p.record.now.ending → IsReplayed (app_of p) (tables_in p) p.record.now (Some ended.changes)
      replayed_to can auditable notes same = by (ended_from p x) refl ended_are
        where
          by : (q : Option AtEnd) → ended_from p x ≡ q → ChangesAre p q ended → IsReplayed (app_of p) (tables_in p) p.record.now (Some ended.changes)
          by None is are = absurd are
          by (Some k) is are = record {
            determined = record {
              user = can.user;
              begins = auditable.begins;
              short = auditable.short;
              inputs = ran.inputs;
              goes_on = ran.goes_on;
              ends = ap is_some (sym same_end ∙ is);
              notes = λ area. ap (λ (y : Transaction). notes_on area y.notes) (sym ran.is) ∙ notes area;
            };
            whole = k.tables;
            result = sym same_end ∙ is ∙ ap (λ (n : Ending). end_with n) (sym are.ending ∙ same);
            changes_are = are.changes;
            sound = are.sound;
          }
            where
              end_with : Ending → Option AtEnd
              end_with n = Some (record { tables = k.tables; ending = n })
