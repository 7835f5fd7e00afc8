-- What is kept of the jobs: under each number its target, its due and its mark; and the marks once more, by target, due and
-- number.
use Rattle.std.specs.Prelude.{◌≡◌, ℕ, Bool, true, false, ◌||◌, not, IsTrue, List, map, find as find_first, slice_get, Option, Some, None, option_map, if◌then◌else◌}
use Rattle.std.specs.FinMap.{find, is_sorted, put}
use Rattle.std.specs.Ordering.{nat_cmp}
use Rattle.kd_base.specs.Places.{from_key, without}
use Rattle.kdcs_types.specs.declared.key.Target.{Target}
use Rattle.kdcs_types.specs.declared.key.Target.TheVariants.{Tac, Lterm}
use Rattle.kdcs_types.specs.Same.{target_eq}
use Rattle.open_transaction.specs.declared.async_queue.due.DueKey.{DueKey}
use Rattle.open_transaction.specs.declared.async_queue.queue.QueuedJob.{QueuedJob}
use Rattle.open_transaction.specs.declared.async_queue.queue.Waiting.{Waiting}
use Rattle.open_transaction.specs.DueOrder.{due_cmp, due_eq, first_key, last_key}
use Rattle.open_transaction.specs.Queue.{is_earlier}

-- ---- by number

-- the job that is kept under a number
abbrev pub queued : ℕ × Waiting → QueuedJob
queued e = record { number = e.0; to = e.1.to; due = e.1.due; taken = e.1.taken }

-- the jobs in ascending order of their numbers
abbrev pub queue_in : List (ℕ × Waiting) → List QueuedJob
queue_in numbered = map queued numbered

abbrev pub with_mark : Bool → Waiting → Waiting
with_mark taken w = record w { taken = taken }

abbrev pub for_target : Target → Waiting → Waiting
for_target to w = record w { to = to; taken = false }

-- ---- by due

abbrev pub key_of : ℕ → Waiting → DueKey
key_of number w = record { to = w.to; due = w.due; number = number }

-- the mark of the job with this key, if what is kept under its number has this key
abbrev pub mark_of : DueKey → Option Waiting → Option Bool
mark_of key None = None
mark_of key (Some w) = if due_eq key (key_of key.number w) then Some w.taken else None

-- the mark of the job with the key `old` stands under the key `new`, and the job is free
abbrev pub rekeyed : (old new : DueKey) → List (DueKey × Bool) → List (DueKey × Bool)
rekeyed old new due = if not (due_eq old new) then without due_cmp old (put due_cmp new false due) else put due_cmp new false due

-- both are in order, and have the same jobs with the same marks
pub record AreIndexed (numbered : List (ℕ × Waiting)) (due : List (DueKey × Bool)) : Type 0 where
  pub numbers : IsTrue (is_sorted nat_cmp numbered)
  pub dues : IsTrue (is_sorted due_cmp due)
  pub same : (key : DueKey) → find due_cmp key due ≡ mark_of key (find nat_cmp key.number numbered)

-- ---- going over the targets

-- the first key, from those of this target on, that is not that of a taken job of this target
abbrev pub key_for : Target → List (DueKey × Bool) → Option DueKey
key_for to due = option_map (λ (e : DueKey × Bool). e.0) (find_first (λ (e : DueKey × Bool). not e.1 || not (target_eq to e.0.to)) (from_key due_cmp (first_key to) due))

-- the least target
abbrev pub first_target : List (DueKey × Bool) → Option Target
first_target due = option_map (λ (e : DueKey × Bool). e.0.to) (slice_get due 0)

-- the least target behind this one
abbrev pub target_after : Target → List (DueKey × Bool) → Option Target
target_after to due = option_map (λ (e : DueKey × Bool). e.0.to) (find_first (λ (e : DueKey × Bool). not (target_eq to e.0.to)) (from_key due_cmp (last_key to) due))

-- the TAC, if it is one
abbrev pub tac_in : Option Target → Option (List ℕ)
tac_in None = None
tac_in (Some (Tac tac)) = Some tac
tac_in (Some (Lterm lterm)) = None

-- ---- the first of some jobs

abbrev pub due_key : QueuedJob → DueKey
due_key q = record { to = q.to; due = q.due; number = q.number }

-- the job is there, with its mark
abbrev pub IsThere : List (DueKey × Bool) → QueuedJob → Type 0
IsThere due q = find due_cmp (due_key q) due ≡ Some q.taken

-- of the jobs that are among these and pass the test, this one is the first, if there is one
abbrev pub IsFirst : (QueuedJob → Type 0) → (QueuedJob → Bool) → Option QueuedJob → Type 0
IsFirst Among test None = (q : QueuedJob) → Among q → test q ≡ false
IsFirst Among test (Some first) = Among first × (test first ≡ true) × ((q : QueuedJob) → Among q → test q ≡ true → is_earlier q first ≡ false)
