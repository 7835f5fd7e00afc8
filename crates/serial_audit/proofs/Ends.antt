-- How the transaction of a record ends in the code.
use Rattle.std.specs.Prelude.{◌≡◌, refl, Option, Some, None}
use Rattle.std.proofs.Common.{sym, ap, subst, ◌∙◌}
use Rattle.kdcs_types.specs.declared.act.Changes.{Changes}
use Rattle.kdcs_types.specs.declared.call.Cause.{Cause}
use Rattle.kdcs_types.specs.declared.key.ServiceId.{ServiceId}
use Rattle.kdcs_types.specs.declared.service.Ending.{Ending}
use Rattle.kdcs_types.specs.declared.service.Ending.TheVariants.{Synced as SyncedEnd}
use Rattle.kdcs_types.specs.declared.service.Service.{Service}
use Rattle.kdcs_types.specs.declared.service.Settled.{Settled}
use Rattle.kdcs_types.specs.Difference.{difference}
use Rattle.kdcs_types.specs.Tables.{TableRows}
use Rattle.application_types.specs.Generation.{Generated}
use Rattle.abstract_monitor.specs.declared.answer.Happened.{Happened}
use Rattle.abstract_monitor.specs.declared.answer.Happened.TheVariants.{Settles, Breaks}
use Rattle.abstract_monitor.specs.declared.outcome.Outcome.{Outcome}
use Rattle.abstract_monitor.specs.Endings.{broken, durable, is_asynchronous, refusal, synchronised}
use Rattle.abstract_monitor.specs.Locks.{Locks}
use Rattle.abstract_monitor.specs.State.{OpenTransaction as Transaction}
use Rattle.abstract_monitor.specs.Statements.{Stated, area_of}
use Rattle.laws_of_states.specs.Replay.{Ended as AtEnd, ended_by, replay_statement, replay_told, settled_as}
use Rattle.laws_of_states.specs.Transactions.{IsRooted}
use Rattle.laws_of_states.specs.EndsLaws.{ends_stay_sound}
use Rattle.laws_of_states.specs.OpenLaws.{OutcomeFits}
use Rattle.laws_of_states.specs.PointsLaws.{points_stay_sound}
use Rattle.open_transaction.specs.declared.open.OpenTransaction.{OpenTransaction}
use Rattle.open_transaction.specs.Transactions.{Boxed, boxed_transaction, transaction_of}
use Rattle.sync_points.specs.Answers.{answer_by, refused_by}
use Rattle.sync_points.specs.declared.points.SettleAnswer.TheVariants.{Synced}
use Rattle.serial_audit.specs.Ending.{ChangesAre, StandsAt, ended_from}
use Rattle.serial_audit.specs.Replaying.{Goes, IsAuditable, app_of, kept_in, tables_in}
use Rattle.serial_audit.specs.declared.ending.Ended.{Ended}
use Rattle.serial_audit.specs.declared.replay.Replay.{Replay}
use Rattle.serial_audit.proofs.Statements.{IsStill, statement_still}

module _ (p : Replay) where
  abbrev g : Generated
  g = (app_of p).generation

  abbrev t : TableRows
  t = tables_in p

  abbrev id : ServiceId
  id = (kept_in p).service

  abbrev ends_by : Transaction → Happened → Option AtEnd
  ends_by x h = ended_by (app_of p) t id x h

  -- ---- the statement that ends it

  -- a statement that is not done leaves its transaction as it was
  pub still : (x y : Transaction) (h : Happened) → (y, h) ≡ replay_statement (app_of p) t (kept_in p) x → IsStill h → y ≡ x
  still x y h e is =
      ap (λ (q : Stated). q.0) e
      ∙ statement_still (app_of p) (is_asynchronous id) x (replay_told t (kept_in p) x (area_of (app_of p) x)) (subst (λ (q : Stated). IsStill q.1) e is)

  -- how it ends
  ends_so : (x y : Transaction) (h : Happened) → (y, h) ≡ replay_statement (app_of p) t (kept_in p) x → IsStill h → ends_by y h ≡ ended_from p x
  ends_so x y h e is = ap (λ (z : Transaction). ends_by z h) (still x y h e is) ∙ ap (λ (q : Stated). ends_by x q.1) e

  stands_at : (b : Boxed) (locks : Locks) (x : Transaction) → IsAuditable p → Goes p locks b.value → boxed_transaction b ≡ x → IsRooted t id x → StandsAt p b
  stands_at b locks x auditable goes e rooted = record {
    own = goes.own;
    stands = record { sound = auditable.sound; can = goes.can; rooted = subst (IsRooted t id) (sym e) rooted };
  }

  -- the code's next statement is done over the transaction `w` in its box
  module _ (box : Boxed) (w : OpenTransaction) (same : w ≡ box.value) (y : Transaction) (h k : Happened) (e : ◌≡◌ {A = Stated} (y, h) (replay_statement (app_of p) t (kept_in p) (transaction_of w))) (is : h ≡ k) (stays : IsStill k) where
    abbrev from_box : Transaction
    from_box = boxed_transaction box

    same_statement : ◌≡◌ {A = Stated} (y, k) (replay_statement (app_of p) t (kept_in p) from_box)
    same_statement =
        subst (λ (j : Happened). ◌≡◌ {A = Stated} (y, j) (replay_statement (app_of p) t (kept_in p) from_box)) is
        (e ∙ ap (λ (v : OpenTransaction). replay_statement (app_of p) t (kept_in p) (transaction_of v)) same)

    pub end_stands : (b : Boxed) → boxed_transaction b ≡ y → (locks : Locks) → IsAuditable p → Goes p locks b.value → IsRooted t id from_box → StandsAt p b
    end_stands b is_y locks auditable goes rooted = stands_at b locks from_box auditable goes (is_y ∙ still from_box y k same_statement stays) rooted

    pub end_changes : (ended : Ended) → ChangesAre p (ends_by y k) ended → ChangesAre p (ended_from p from_box) ended
    end_changes ended are = subst (λ (o : Option AtEnd). ChangesAre p o ended) (ends_so from_box y k same_statement stays) are

  -- ---- an abnormal end

  module _ (b : Boxed) (at : StandsAt p b) where
    abbrev x : Transaction
    x = boxed_transaction b

    pub broken_are : (ended : Ended) (ending : Ending) → ended.changes ≡ difference (durable g t) (durable g (broken g t b.value.id x)) → ended.ending ≡ ending → ChangesAre p (ends_by x (Breaks ending)) ended
    broken_are ended ending changes is = record {
      changes = changes ∙ ap (λ (i : ServiceId). difference (durable g t) (durable g (broken g t i x))) at.own;
      ending = is;
      sound = (ends_stay_sound g t id x at.stands.sound).sound;
    }

    -- ---- a synchronisation point

    module _ (o : Outcome) where
      abbrev new : ServiceId → TableRows
      new i = synchronised g t i x o

      -- what it comes to, by the cause that refuses it
      module _ (cause : Option Cause) (is : refused_by g t b.value o ≡ cause) where
        by_cause : ends_by x (Settles o) ≡ Some (settled_as (app_of p) t id x (new id) cause)
        by_cause = ap (λ (c : Option Cause). some_end (settled_as (app_of p) t id x (new id) c)) (ap (λ (i : ServiceId). refusal g (durable g (new i))) (sym at.own) ∙ is)
          where
            some_end : AtEnd → Option AtEnd
            some_end e = Some e

      settled_so : (changes : Changes) (row : Option Service) (kept : Settled) (cause : Option Cause) → refused_by g t b.value o ≡ cause → Synced changes row kept ≡ answer_by g t b o cause → OutcomeFits g (is_asynchronous id) o
          → (ended : Ended) → ended.changes ≡ changes → ended.ending ≡ SyncedEnd → ChangesAre p (ends_by x (Settles o)) ended
      settled_so changes row kept None is answer fits ended same ending = subst (λ (e : Option AtEnd). ChangesAre p e ended) (sym (by_cause None is)) (record {
        changes = same ∙ changes_of answer ∙ ap (λ (i : ServiceId). difference (durable g t) (durable g (new i))) at.own;
        ending = ending;
        sound = points_stay_sound g t id x o at.stands fits (ap (λ (i : ServiceId). refusal g (durable g (new i))) (sym at.own) ∙ is);
      })
        where
          changes_of : Synced changes row kept ≡ answer_by g t b o None → changes ≡ difference (durable g t) (durable g (new b.value.id))
          changes_of e = cc
      settled_so changes row kept (Some cause) is answer fits ended same ending = absurd cc

      pub synced_are : (changes : Changes) (row : Option Service) (kept : Settled) → Synced changes row kept ≡ answer_by g t b o (refused_by g t b.value o) → OutcomeFits g (is_asynchronous id) o
          → (ended : Ended) → ended.changes ≡ changes → ended.ending ≡ SyncedEnd → ChangesAre p (ends_by x (Settles o)) ended
      synced_are changes row kept answer = settled_so changes row kept (refused_by g t b.value o) refl answer
