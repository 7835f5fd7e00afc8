-- Every call leaves the locks so.
use Rattle.std.specs.Prelude.{◌≡◌, refl, ℕ, Bool, true, false, ◌&&◌, not, List, [], ◌∷◌, ◌++◌, length, Option, Some, None, Result, Ok, Err, IfOk, OnOk, is_some, nat_le, if◌then◌else◌}
use Rattle.std.proofs.Common.{sym, subst}
use Rattle.std.specs.FinMap.{find, put}
use Rattle.kd_base.specs.declared.words.Variant.{Variant}
use Rattle.kdcs_types.specs.declared.call.Call.{Call}
use Rattle.kdcs_types.specs.declared.call.Call.TheVariants.{Init, Mget, Mput, Fget, Fput, Dput, SgetKp, SgetRl, SputMs, SrelLb, Pend}
use Rattle.kdcs_types.specs.declared.call.Cause.{Cause}
use Rattle.kdcs_types.specs.declared.call.Code.{Code}
use Rattle.kdcs_types.specs.declared.call.Code.TheVariants.{Done, K03, K09}
use Rattle.kdcs_types.specs.declared.key.Area.{Area}
use Rattle.kdcs_types.specs.declared.key.ServiceId.{ServiceId}
use Rattle.kdcs_types.specs.declared.key.Target.{Target}
use Rattle.kdcs_types.specs.Tables.{TableRows}
use Rattle.application_types.specs.Generation.{Generated}
use Rattle.abstract_monitor.specs.declared.answer.Called.{Called}
use Rattle.abstract_monitor.specs.declared.draft.Due.{Due}
use Rattle.abstract_monitor.specs.declared.draft.Due.TheVariants.{After}
use Rattle.abstract_monitor.specs.declared.outcome.Outcome.{Outcome}
use Rattle.abstract_monitor.specs.Bytes.{Bytes, bytes_cmp}
use Rattle.abstract_monitor.specs.Access.{denial_of}
use Rattle.abstract_monitor.specs.Calls.{Performed, called, delete_local, delete_local_by, drafted, first_call, fits_one_more, follow_up_entry, for_kind, got, got_by, has_message, job_target}
use Rattle.abstract_monitor.specs.Calls.{moment_by, name_by, name_in_operand, pended, put_job, put_part, read_away, read_away_by, read_or, replied, with_name, within_length, write_local}
use Rattle.abstract_monitor.specs.Outcomes.{pend_outcome}
use Rattle.abstract_monitor.specs.Contents.{number_of}
use Rattle.abstract_monitor.specs.Endings.{is_asynchronous}
use Rattle.abstract_monitor.specs.Locks.{Locks}
use Rattle.abstract_monitor.specs.State.{OpenTransaction as Transaction}
use Rattle.kdcs_calls.specs.Calling.{HoldersMatch, HoldsJust, locks_by_call}
use Rattle.kdcs_calls.specs.HoldingLaws.{match_holds, quiet_matches}
use Rattle.kdcs_calls.proofs.Holders.{IsQuiet, locked_matches, unlocked_matches}
use Rattle.kdcs_calls.proofs.AreaCalls.{IsAlone, answer_to, performed_matches}

-- ---- calls that touch no other area

quiet_name : (x : Transaction) (o : Option Bytes) (go : Bytes → Performed) → ((n : Bytes) → IsQuiet x (go n)) → IsQuiet x (with_name x o go)
quiet_name x None go still = refl
quiet_name x (Some n) go still = still n

quiet_kind : (x : Transaction) (b : Bool) (p : Performed) → IsQuiet x p → IsQuiet x (for_kind x b p)
quiet_kind x true p still = still
quiet_kind x false p still = refl

quiet_length : (x : Transaction) (b : Bool) (p : Performed) → IsQuiet x p → IsQuiet x (within_length x b p)
quiet_length x true p still = still
quiet_length x false p still = refl

quiet_got : (x : Transaction) (capacity : ℕ) (parts : List Bytes) → IsQuiet x (got_by x capacity parts)
quiet_got x capacity [] = refl
quiet_got x capacity (p ∷ ps) = refl

quiet_draft : (x : Transaction) (to : Option Target) (due : Option Due) (message : Bytes) → IsQuiet x (drafted x to due message)
quiet_draft x None due message = refl
quiet_draft x (Some to) None message = refl
quiet_draft x (Some to) (Some due) message = refl

quiet_job : (g : Generated) (x : Transaction) (to : Bytes) (due : Option Due) (message : Bytes) → IsQuiet x (put_job g x to due message)
quiet_job g x to due message =
    quiet_length x (nat_le (length message) g.limits.nb) (with_name x (name_in_operand to) (λ n. drafted x (job_target g n) due message))
    (quiet_name x (name_in_operand to) (λ n. drafted x (job_target g n) due message) (λ n. quiet_draft x (job_target g n) due message))

quiet_read : (code : Code) (x : Transaction) (capacity : ℕ) (o : Option Bytes) → IsQuiet x (read_or code x capacity o)
quiet_read code x capacity None = refl
quiet_read code x capacity (Some bytes) = refl

quiet_away : (x : Transaction) (name : Bytes) (capacity : ℕ) (o : Option Bytes) → IsQuiet x (read_away_by x name capacity o)
quiet_away x name capacity None = refl
quiet_away x name capacity (Some bytes) = refl

quiet_write : (x : Transaction) (b : Bool) (p q : Performed) → IsQuiet x p → IsQuiet x q → IsQuiet x (if b then p else q)
quiet_write x true p q a c = a
quiet_write x false p q a c = c

quiet_delete_local : (x : Transaction) (name : Bytes) (o : Option Bytes) → IsQuiet x (delete_local_by x name o)
quiet_delete_local x name None = refl
quiet_delete_local x name (Some bytes) = refl

quiet_pend : (x : Transaction) (variant : Variant) (r : Result Outcome Cause) → IsQuiet x (pended x variant r)
quiet_pend x variant (Ok o) = refl
quiet_pend x variant (Err cause) = refl

quiet_first : (x : Transaction) (call : Call) → IsQuiet x (first_call x call)
quiet_first x Init = refl
quiet_first x _ = refl

-- ---- all calls

module _ (g : Generated) (t : TableRows) (l : Locks) (id : ServiceId) (x : Transaction) (h : HoldsJust l id x) where
  abbrev Matches : Locks → Option Area → Performed → Type 0
  Matches m area p = HoldersMatch l m id p.0

  quiet_alone : (call : Call) → IsAlone call → IsQuiet x (answer_to g t l id x call)
  unfolding called
  quiet_alone Init alone = refl
  quiet_alone (Mget capacity) alone = quiet_kind x (not (is_asynchronous id)) (got x capacity) (quiet_got x capacity x.unread)
  quiet_alone (Mput bytes) alone =
      quiet_kind x (not (is_asynchronous id)) (put_part g x bytes)
      (quiet_length x (fits_one_more g.limits.nb x.parts bytes) (replied (record x { parts = x.parts ++ bytes ∷ [] }) Done) refl)
  quiet_alone (Fget capacity) alone = quiet_kind x (is_asynchronous id) (got x capacity) (quiet_got x capacity x.unread)
  quiet_alone (Fput to message) alone = quiet_job g x to (Some (After 0)) message
  quiet_alone (Dput to mode d hours m s message) alone = quiet_job g x to (moment_by mode (number_of d) (number_of hours) (number_of m) (number_of s)) message
  quiet_alone (SgetKp name capacity) alone = quiet_name x (name_in_operand name) (λ n. read_or K03 x capacity (find bytes_cmp n x.lssbs)) (λ n. quiet_read K03 x capacity (find bytes_cmp n x.lssbs))
  quiet_alone (SgetRl name capacity) alone = quiet_name x (name_in_operand name) (λ n. read_away x n capacity) (λ n. quiet_away x n capacity (find bytes_cmp n x.lssbs))
  quiet_alone (SputMs name bytes) alone =
      quiet_name x (name_in_operand name) (λ n. write_local g x n bytes)
      (λ n. quiet_write x (not (is_some (find bytes_cmp n x.lssbs)) && nat_le g.limits.lssbs (length x.lssbs)) (replied x K09) (replied (record x { lssbs = put bytes_cmp n bytes x.lssbs }) Done) refl refl)
  quiet_alone (SrelLb name) alone = quiet_name x (name_in_operand name) (λ n. delete_local x n) (λ n. quiet_delete_local x n (find bytes_cmp n x.lssbs))
  quiet_alone (Pend variant op) alone =
      quiet_pend x variant (pend_outcome (is_asynchronous id) variant (has_message x.parts) (follow_up_entry (denial_of g) g x variant (name_by op)) (name_by op))
  quiet_alone _ alone = absurd alone

  -- before INIT is done
  pub first_performed : (call : Call) (y : Transaction) (answer : Called) → (y, answer) ≡ first_call x call → HoldersMatch l l id y
  first_performed call y answer exact = subst (λ (p : Performed). HoldersMatch l l id p.0) (sym exact) (quiet_matches l id x h (first_call x call).0 (quiet_first x call))

  -- once INIT is done
  pub later_performed : {E : Type 0} (call : Call) (new : Locks) (y : Transaction) (r : Result Called E)
      → IfOk r (λ (answer : Called). (y, answer) ≡ answer_to g t l id x call)
      → OnOk r (new ≡ locks_by_call g t.clock l id x call)
      → OnOk r (HoldersMatch l new id y)
  later_performed =
      performed_matches g t l id x Matches (λ area code. quiet_matches l id x h x refl)
      (λ area go plain. locked_matches l id x h area g t go (λ y. (plain y).0))
      (λ v area. unlocked_matches l id x h area v)
      (λ call alone. quiet_matches l id x h (answer_to g t l id x call).0 (quiet_alone call alone))

  -- so the locks give the service just what its transaction touches, again
  pub still_holds : {E : Type 0} (new : Locks) (y : Transaction) (r : Result Called E) → OnOk r (HoldersMatch l new id y) → OnOk r (HoldsJust new id y)
  still_holds new y (Ok answer) matching = match_holds l new id y matching
  still_holds new y (Err e) matching = tt
