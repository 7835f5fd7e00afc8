-- Laws: an open transaction replays to itself: not only over the tables as they are, but over all that look alike to it, and with all that its record may yet gain.
use Rattle.std.specs.Prelude.{◌≡◌, refl, ℕ, zero, suc, ◌+◌, Bool, true, false, cond, List, [], ◌∷◌, ◌++◌, drop, filter, length, slice_get, Option, Some, None}
use Rattle.std.proofs.Common.{ap, ◌∙◌, arith}
use Rattle.kdcs_types.specs.declared.key.Area.{Area}
use Rattle.kdcs_types.specs.declared.key.ServiceId.{ServiceId}
use Rattle.kdcs_types.specs.declared.key.ServiceId.TheVariants.{Dialogue, Asynchronous}
use Rattle.kdcs_types.specs.declared.service.Note.{Note}
use Rattle.kdcs_types.specs.declared.service.Service.{Service}
use Rattle.kdcs_types.specs.Keys.{area_eq}
use Rattle.kdcs_types.specs.Tables.{TableRows, content_of}
use Rattle.abstract_monitor.specs.Bytes.{Bytes}
use Rattle.abstract_monitor.specs.State.{Application, OpenTransaction}
use Rattle.abstract_monitor.specs.Calls.{Told, nothing_told}
use Rattle.abstract_monitor.specs.Statements.{Kept}
use Rattle.laws_of_states.specs.Replay.{noted_area, answer_by_note, content_by_note, replay_told, replay_step, replay}
use Rattle.laws_of_runs.specs.Replays.{kept_and, told_by, HasSameJob, LookAlike, ReplaysToItself}

-- ---- what a record may gain

-- the same where a statement asks of no area
abbrev pub told_of : TableRows → List Note → Option Area → Told
told_of t notes None = nothing_told
told_of t notes (Some area) = told_by t notes area

-- ---- how a record is read

-- the notes that a transaction has itself are used
unused_rest : (p : Note → Bool) (l m : List Note) → drop (length (filter p l)) (filter p (l ++ m)) ≡ filter p m
unused_rest p [] m = refl
unused_rest p (n ∷ l) m = by (p n) (unused_rest p l m)
  where
    by : (b : Bool) → drop (length (filter p l)) (filter p (l ++ m)) ≡ filter p m
        → drop (length (cond b (n ∷ filter p l) (filter p l))) (cond b (n ∷ filter p (l ++ m)) (filter p (l ++ m))) ≡ filter p m
    by true h = h
    by false h = h

-- the next statement is told of an area what the first note tells that the record has gained
pub told_rest : (t : TableRows) (id : ServiceId) (x : OpenTransaction) (inputs : List Bytes) (notes : List Note) (n : ℕ) (of : Option Area)
    → replay_told t (kept_and id x inputs notes n) x of ≡ told_of t notes of
unfolding replay_told
told_rest t id x inputs notes n None = refl
told_rest t id x inputs notes n (Some area) =
    ap (λ (l : List Note). told (slice_get l 0)) (unused_rest (λ (k : Note). area_eq area (noted_area k)) x.notes notes)
  where
    told : Option Note → Told
    told first = record { answer = answer_by_note first; content = content_by_note first (content_of t area) }

-- the number of statements in a record is not read
count_unread : (app : Application) (t : TableRows) (r : Kept) (m n : ℕ) → replay app t (record r { statements = m }) n ≡ replay app t r n
unfolding replay replay_told
count_unread app t r m zero = refl
count_unread app t r m (suc n) = ap (replay_step app t r) (count_unread app t r m n)

pub replay_next : (app : Application) (t : TableRows) (r : Kept) (n : ℕ) → replay app t r (n + 1) ≡ replay_step app t r (replay app t r n)
unfolding replay
replay_next app t r n = ap (replay app t r) (plus_one n)
  where
    plus_one : (k : ℕ) → k + 1 ≡ suc k
    plus_one k = omega arith

-- a transaction that replays to itself does so whatever number of statements its record says
pub replays_counted : (app : Application) (t other : TableRows) (id : ServiceId) (x : OpenTransaction) (inputs : List Bytes) (notes : List Note) (m : ℕ)
    → ReplaysToItself app t id x → LookAlike t other id x notes → replay app other (kept_and id x inputs notes m) x.statements ≡ x
replays_counted app t other id x inputs notes m h alike =
    count_unread app other (kept_and id x inputs notes x.statements) m x.statements ∙ h other inputs notes alike

-- ---- the present tables

pub same_job : (t : TableRows) (id : ServiceId) (began : Option Service) → HasSameJob t t id began
same_job t (Dialogue user) began = tt
same_job t (Asynchronous number) (Some row) = tt
same_job t (Asynchronous number) None = refl

pub alike_itself : (t : TableRows) (id : ServiceId) (x : OpenTransaction) → LookAlike t t id x []
alike_itself t id x = record { areas = λ area h. refl; job = same_job t id x.began }
