-- After each statement an open transaction keeps names, short inputs and short notes.
use Rattle.std.specs.Prelude.{◌≡◌, refl, ℕ, Bool, true, false, cond, ◌&&◌, not, IsTrue, List, [], ◌∷◌, ◌++◌, length, is_some, nat_le, Option, Some, None, Result, Ok, Err, if◌then◌else◌}
use Rattle.std.proofs.Common.{subst}
use Rattle.std.specs.List.{list_all}
use Rattle.std.specs.FinMap.{find, put, IsAntisymmetric, slice_cmp-IsAntisymmetric, nat_cmp-IsAntisymmetric}
use Rattle.std.specs.FinMap.Entries.{where_key}
use Rattle.std.specs.declared.cmp.Ordering.{Ordering}
use Rattle.kd_base.specs.declared.words.Variant.{Variant}
use Rattle.kd_base.specs.Text.{name_of, trim_end}
use Rattle.kd_base.specs.ToolsLaws.{true_both, both_true, some_is}
use Rattle.kdcs_types.specs.declared.call.Call.{Call}
use Rattle.kdcs_types.specs.declared.call.Call.TheVariants.{Init, Mget, Mput, Fget, Fput, Dput, SgetGb, SputGb, SrelGb, SgetKp, SgetRl, SputMs, SrelLb, SgetUs, SputUs, Gtda, Ptda, UnlkGb, UnlkUs}
use Rattle.kdcs_types.specs.declared.call.Call.TheVariants.{UnlkDa, Pend}
use Rattle.kdcs_types.specs.declared.call.Cause.{Cause}
use Rattle.kdcs_types.specs.declared.call.Code.{Code}
use Rattle.kdcs_types.specs.declared.call.Code.TheVariants.{Done, K09}
use Rattle.kdcs_types.specs.declared.key.Area.{Area}
use Rattle.kdcs_types.specs.declared.key.Area.TheVariants.{Gssb, Tls, Uls}
use Rattle.kdcs_types.specs.declared.key.Target.{Target}
use Rattle.kdcs_types.specs.declared.service.Note.TheVariants.{Released}
use Rattle.kdcs_types.specs.Keys.{area_cmp}
use Rattle.kdcs_types.specs.KeyLaws.{same_area}
use Rattle.application_types.specs.Generation.{Generated, has_tls, has_uls}
use Rattle.application_types.specs.UnitText.{UnitText}
use Rattle.abstract_monitor.specs.Statement.{Meaning, Plain, Asks, Ends, step}
use Rattle.abstract_monitor.specs.declared.answer.Called.{Called}
use Rattle.abstract_monitor.specs.declared.answer.Called.TheVariants.{Replied, Waits, Abnormal, Pends}
use Rattle.abstract_monitor.specs.declared.answer.LockAnswer.{LockAnswer}
use Rattle.abstract_monitor.specs.declared.answer.LockAnswer.TheVariants.{Granted, Wait, Busy, Deadlock}
use Rattle.abstract_monitor.specs.declared.draft.Due.{Due}
use Rattle.abstract_monitor.specs.declared.outcome.Outcome.{Outcome}
use Rattle.abstract_monitor.specs.declared.outcome.Outcome.TheVariants.{Stay, Queue}
use Rattle.abstract_monitor.specs.Bytes.{Bytes, bytes_cmp}
use Rattle.abstract_monitor.specs.Calls.{Told, Performed, replied, with_name, declared, for_kind, within_length, name_in_operand, touches, touching, on_answer, answer_by, locked, read_or, got_by}
use Rattle.abstract_monitor.specs.Calls.{fits_one_more, put_part, job_target, drafted, put_job, wrote, deleted, seen, unlocked_by, unlocked, without_local, write_local, read_away_by, delete_local_by}
use Rattle.abstract_monitor.specs.Calls.{pended, called, first_call, called_by, call_outcome}
use Rattle.abstract_monitor.specs.Endings.{followed}
use Rattle.abstract_monitor.specs.State.{Application, OpenTransaction, unit_of}
use Rattle.abstract_monitor.specs.Statements.{by_outcome, by_call, by_step, in_unit, statement}
use Rattle.laws_of_states.specs.Suits.{fits_content}
use Rattle.laws_of_states.specs.ListsLaws.{all_append, all_put}
use Rattle.laws_of_states.specs.OpenLaws.{ToldFits}
use Rattle.trail_run.specs.WrittenNames.{is_name, has_name, is_named_area, is_named_write, is_kept_note, KeepsNames}

bytes_same : IsAntisymmetric bytes_cmp
bytes_same = slice_cmp-IsAntisymmetric nat_cmp-IsAntisymmetric

-- an operand that is taken for a name is one
operand_named : (bytes name : Bytes) → name_of bytes ≡ Some name → IsTrue (is_name name)
operand_named bytes name e = by (is_name bytes) refl e
  where
    by : (b : Bool) → is_name bytes ≡ b → (if b then Some bytes else None) ≡ Some name → IsTrue (is_name name)
    by true is found = subst (λ (n : Bytes). IsTrue (is_name n)) (some_is bytes name found) is
    by false is found = absurd cc

-- entries whose keys pass keep the tests of all
all_where : {K V : Type 0} (R : K → K → Ordering) (p : K × V → Bool) (q : K → Bool) (es : List (K × V)) → IsTrue (list_all p es) → IsTrue (list_all p (where_key R q es))
all_where R p q [] h = refl
all_where R p q (e ∷ es) h =
    let parts = both_true (p e) (list_all p es) h in
    elim (q e.0) as (λ b. IsTrue (list_all p (cond b (e ∷ where_key R q es) (where_key R q es)))) [
      | true ↦ true_both (p e) (list_all p (where_key R q es)) parts.0 (all_where R p q es parts.1)
      | false ↦ all_where R p q es parts.1
    ]

record Keeps (p : Performed) : Type 0 where
  kept : KeepsNames p.0

kind_keeps : (x : OpenTransaction) (b : Bool) (go : Performed) → KeepsNames x → Keeps go → Keeps (for_kind x b go)
kind_keeps x true go k h = h
kind_keeps x false go k h = record { kept = k }

within_keeps : (x : OpenTransaction) (b : Bool) (go : Performed) → KeepsNames x → Keeps go → Keeps (within_length x b go)
within_keeps x true go k h = h
within_keeps x false go k h = record { kept = k }

declared_keeps : (x : OpenTransaction) (b : Bool) (go : Performed) → KeepsNames x → Keeps go → Keeps (declared x b go)
declared_keeps x true go k h = h
declared_keeps x false go k h = record { kept = k }

named_keeps : (x : OpenTransaction) (o : Option Bytes) (go : Bytes → Performed) → KeepsNames x → ((n : Bytes) → o ≡ Some n → Keeps (go n)) → Keeps (with_name x o go)
named_keeps x None go k h = record { kept = k }
named_keeps x (Some n) go k h = h n refl

operand_keeps : (x : OpenTransaction) (bytes : Bytes) (go : Bytes → Performed) → KeepsNames x → ((n : Bytes) → IsTrue (is_name n) → Keeps (go n)) → Keeps (with_name x (name_in_operand bytes) go)
operand_keeps x bytes go k h = named_keeps x (name_in_operand bytes) go k (λ n e. h n (operand_named (trim_end bytes) n e))

block_keeps : (x : OpenTransaction) (bytes : Bytes) (has : Bytes → Bool) (go : Bytes → Performed) → KeepsNames x → ((n : Bytes) → IsTrue (is_name n) → Keeps (go n)) → Keeps (with_name x (name_in_operand bytes) (λ n. declared x (has n) (go n)))
block_keeps x bytes has go k h = operand_keeps x bytes _ k (λ n is. declared_keeps x (has n) (go n) k (h n is))

-- ---- locks

touching_keeps : (x : OpenTransaction) (area : Area) (b : Bool) → KeepsNames x → KeepsNames (touching x area b)
touching_keeps x area true k = k
touching_keeps x area false k = k

locked_keeps : (v : Told) (x : OpenTransaction) (area : Area) (go : OpenTransaction → Performed) → IsTrue (is_named_area area) → KeepsNames x → ((y : OpenTransaction) → KeepsNames y → Keeps (go y)) → Keeps (locked v x area go)
locked_keeps v x area go is k h = by (answer_by v (touches x area))
  where
    by : (a : LockAnswer) → Keeps (on_answer x area a go)
    by Granted = h (touching x area (touches x area)) (touching_keeps x area (touches x area) k)
    by Wait = record { kept = k }
    by Busy = record { kept = (k.0, k.1, k.2, all_append is_kept_note x.notes _ k.3 (true_both (is_named_area area && true) true (true_both (is_named_area area) true is refl) refl)) }
    by Deadlock = record { kept = (k.0, k.1, k.2, all_append is_kept_note x.notes _ k.3 (true_both (is_named_area area && true) true (true_both (is_named_area area) true is refl) refl)) }

-- ---- areas

wrote_keeps : (y : OpenTransaction) (area : Area) (content : Option Bytes) → IsTrue (is_named_area area) → KeepsNames y → Keeps (wrote y area content)
wrote_keeps y area content is k = record { kept = (all_put area_cmp same_area is_named_write area content y.written is k.0, k.1, k.2, k.3) }

deleted_keeps : (y : OpenTransaction) (area : Area) (o : Option Bytes) → IsTrue (is_named_area area) → KeepsNames y → Keeps (deleted y area o)
deleted_keeps y area None is k = record { kept = k }
deleted_keeps y area (Some bytes) is k = wrote_keeps y area None is k

read_or_keeps : (code : Code) (x : OpenTransaction) (capacity : ℕ) (o : Option Bytes) → KeepsNames x → Keeps (read_or code x capacity o)
read_or_keeps code x capacity None k = record { kept = k }
read_or_keeps code x capacity (Some bytes) k = record { kept = k }

unlocked_by_keeps : (v : Told) (x : OpenTransaction) (area : Area) (held written : Bool) → ToldFits v → IsTrue (is_named_area area) → KeepsNames x → Keeps (unlocked_by v x area held written)
unlocked_by_keeps v x area false written told is k = record { kept = k }
unlocked_by_keeps v x area true true told is k = record { kept = k }
unlocked_by_keeps v x area true false told is k = record { kept = (k.0, k.1, k.2, all_append is_kept_note x.notes (Released area v.content ∷ []) k.3 (true_both (is_kept_note (Released area v.content)) true (true_both (is_named_area area) _ is told) refl)) }

unlocked_keeps : (v : Told) (x : OpenTransaction) (area : Area) → ToldFits v → IsTrue (is_named_area area) → KeepsNames x → Keeps (unlocked v x area)
unlocked_keeps v x area told is k = unlocked_by_keeps v x area (touches x area) (is_some (find area_cmp area x.written)) told is k

-- ---- messages and jobs

got_keeps : (x : OpenTransaction) (capacity : ℕ) (parts : List Bytes) → KeepsNames x → Keeps (got_by x capacity parts)
got_keeps x capacity [] k = record { kept = k }
got_keeps x capacity (part ∷ rest) k = record { kept = k }

part_keeps : (g : Generated) (x : OpenTransaction) (bytes : Bytes) → KeepsNames x → Keeps (put_part g x bytes)
part_keeps g x bytes k = by (fits_one_more g.limits.nb x.parts bytes)
  where
    by : (b : Bool) → Keeps (within_length x b (replied (record x { parts = x.parts ++ bytes ∷ [] }) Done))
    by true = record { kept = k }
    by false = record { kept = k }

drafted_keeps : (x : OpenTransaction) (to : Option Target) (due : Option Due) (message : Bytes) → KeepsNames x → Keeps (drafted x to due message)
drafted_keeps x None due message k = record { kept = k }
drafted_keeps x (Some to) None message k = record { kept = k }
drafted_keeps x (Some to) (Some due) message k = record { kept = k }

job_keeps : (g : Generated) (x : OpenTransaction) (to : Bytes) (due : Option Due) (message : Bytes) → KeepsNames x → Keeps (put_job g x to due message)
job_keeps g x to due message k = within_keeps x _ _ k (operand_keeps x to _ k (λ name is. drafted_keeps x (job_target g name) due message k))

-- ---- LSSBs

local_keeps : (g : Generated) (x : OpenTransaction) (name bytes : Bytes) → IsTrue (is_name name) → KeepsNames x → Keeps (write_local g x name bytes)
local_keeps g x name bytes is k = by (not (is_some (find bytes_cmp name x.lssbs)) && nat_le g.limits.lssbs (length x.lssbs))
  where
    by : (b : Bool) → Keeps (if b then replied x K09 else replied (record x { lssbs = put bytes_cmp name bytes x.lssbs }) Done)
    by true = record { kept = k }
    by false = record { kept = (k.0, all_put bytes_cmp bytes_same has_name name bytes x.lssbs is k.1, k.2, k.3) }

without_keeps : (x : OpenTransaction) (name : Bytes) → KeepsNames x → KeepsNames (record x { lssbs = without_local name x.lssbs })
without_keeps x name k = (k.0, all_where bytes_cmp has_name _ x.lssbs k.1, k.2, k.3)

read_away_keeps : (x : OpenTransaction) (name : Bytes) (capacity : ℕ) (o : Option Bytes) → KeepsNames x → Keeps (read_away_by x name capacity o)
read_away_keeps x name capacity None k = record { kept = k }
read_away_keeps x name capacity (Some bytes) k = record { kept = without_keeps x name k }

delete_local_keeps : (x : OpenTransaction) (name : Bytes) (o : Option Bytes) → KeepsNames x → Keeps (delete_local_by x name o)
delete_local_keeps x name None k = record { kept = k }
delete_local_keeps x name (Some bytes) k = record { kept = without_keeps x name k }

-- ---- all calls

pended_keeps : (x : OpenTransaction) (variant : Variant) (r : Result Outcome Cause) → KeepsNames x → Keeps (pended x variant r)
pended_keeps x variant (Ok o) k = record { kept = k }
pended_keeps x variant (Err cause) k = record { kept = k }

module _ (g : Generated) (v : Told) (asynchronous : Bool) (x : OpenTransaction) (told : ToldFits v) (user : IsTrue (is_name x.user)) (lterm : IsTrue (is_name x.lterm)) (k : KeepsNames x) where
  called_keeps : (call : Call) → Keeps (called g v asynchronous x call)
  unfolding called
  called_keeps Init = record { kept = k }
  called_keeps (Mget capacity) = kind_keeps x (not asynchronous) _ k (got_keeps x capacity x.unread k)
  called_keeps (Mput bytes) = kind_keeps x (not asynchronous) _ k (part_keeps g x bytes k)
  called_keeps (Fget capacity) = kind_keeps x asynchronous _ k (got_keeps x capacity x.unread k)
  called_keeps (Fput to message) = job_keeps g x to _ message k
  called_keeps (Dput to mode d h m s message) = job_keeps g x to _ message k
  called_keeps (SgetGb name capacity) = operand_keeps x name _ k (λ n is. locked_keeps v x (Gssb n) _ is k (λ y h. read_or_keeps _ y capacity (seen v y (Gssb n)) h))
  called_keeps (SputGb name bytes) = operand_keeps x name _ k (λ n is. locked_keeps v x (Gssb n) _ is k (λ y h. wrote_keeps y (Gssb n) (Some bytes) is h))
  called_keeps (SrelGb name) = operand_keeps x name _ k (λ n is. locked_keeps v x (Gssb n) _ is k (λ y h. deleted_keeps y (Gssb n) (seen v y (Gssb n)) is h))
  called_keeps (SgetKp name capacity) = operand_keeps x name _ k (λ n is. read_or_keeps _ x capacity (find bytes_cmp n x.lssbs) k)
  called_keeps (SgetRl name capacity) = operand_keeps x name _ k (λ n is. read_away_keeps x n capacity (find bytes_cmp n x.lssbs) k)
  called_keeps (SputMs name bytes) = operand_keeps x name _ k (λ n is. local_keeps g x n bytes is k)
  called_keeps (SrelLb name) = operand_keeps x name _ k (λ n is. delete_local_keeps x n (find bytes_cmp n x.lssbs) k)
  called_keeps (SgetUs name capacity) = block_keeps x name (has_uls g) _ k (λ n is. locked_keeps v x (Uls n x.user) _ (true_both (is_name n) (is_name x.user) is user) k (λ y h. record { kept = h }))
  called_keeps (SputUs name bytes) =
      block_keeps x name (has_uls g) _ k (λ n is. let both = true_both (is_name n) (is_name x.user) is user in locked_keeps v x (Uls n x.user) _ both k (λ y h. wrote_keeps y (Uls n x.user) (Some bytes) both h))
  called_keeps (Gtda name capacity) = block_keeps x name (has_tls g) _ k (λ n is. locked_keeps v x (Tls n x.lterm) _ (true_both (is_name n) (is_name x.lterm) is lterm) k (λ y h. record { kept = h }))
  called_keeps (Ptda name bytes) =
      block_keeps x name (has_tls g) _ k (λ n is. let both = true_both (is_name n) (is_name x.lterm) is lterm in locked_keeps v x (Tls n x.lterm) _ both k (λ y h. wrote_keeps y (Tls n x.lterm) (Some bytes) both h))
  called_keeps (UnlkGb name) = operand_keeps x name _ k (λ n is. unlocked_keeps v x (Gssb n) told is k)
  called_keeps (UnlkUs name) = block_keeps x name (has_uls g) _ k (λ n is. unlocked_keeps v x (Uls n x.user) told (true_both (is_name n) (is_name x.user) is user) k)
  called_keeps (UnlkDa name) = block_keeps x name (has_tls g) _ k (λ n is. unlocked_keeps v x (Tls n x.lterm) told (true_both (is_name n) (is_name x.lterm) is lterm) k)
  called_keeps (Pend variant op) = pended_keeps x variant _ k

  first_keeps : (call : Call) → Keeps (first_call x call)
  first_keeps Init = record { kept = k }
  first_keeps _ = record { kept = k }

  call_keeps : (call : Call) → Keeps (call_outcome g v asynchronous x call)
  unfolding call_outcome
  call_keeps call = by x.inited
    where
      by : (b : Bool) → Keeps (called_by g v asynchronous x call b)
      by true = called_keeps call
      by false = first_keeps call

-- ---- statements

outcome_keeps : (app : Application) (asynchronous : Bool) (x : OpenTransaction) (variant : Variant) (o : Outcome) → KeepsNames x → KeepsNames (by_outcome app asynchronous x variant o).0
unfolding followed
outcome_keeps app asynchronous x variant (Stay tac) k = (k.0, k.1, all_append fits_content x.inputs [] k.2 refl, k.3)
outcome_keeps app asynchronous x variant (Queue tac) k = (k.0, k.1, all_append fits_content x.inputs [] k.2 refl, k.3)
outcome_keeps app asynchronous x variant _ k = k

answer_keeps : (app : Application) (asynchronous : Bool) (unit : UnitText) (x : OpenTransaction) (c : Called) → KeepsNames x → KeepsNames (by_call app asynchronous unit x c).0
answer_keeps app asynchronous unit x (Replied reply) k = k
answer_keeps app asynchronous unit x Waits k = k
answer_keeps app asynchronous unit x (Abnormal cause) k = k
answer_keeps app asynchronous unit x (Pends variant o) k = outcome_keeps app asynchronous x variant o k

pub statement_keeps : (app : Application) (v : Told) (asynchronous : Bool) (x : OpenTransaction) → ToldFits v → IsTrue (is_name x.user) → IsTrue (is_name x.lterm) → KeepsNames x → KeepsNames (statement app v asynchronous x).0
unfolding statement
statement_keeps app v asynchronous x told user lterm k = by (unit_of app x.current)
  where
    means : (unit : UnitText) (m : Meaning) → KeepsNames (by_step app v asynchronous x unit m).0
    means unit (Plain after) = k
    means unit (Ends cause) = k
    means unit (Asks call) =
        let p = call_outcome app.generation v asynchronous x call in
        answer_keeps app asynchronous unit p.0 p.1 (call_keeps app.generation v asynchronous x told user lterm k call).kept

    by : (o : Option UnitText) → KeepsNames (in_unit app v asynchronous x o).0
    by None = k
    by (Some unit) = means unit (step unit x.run)
