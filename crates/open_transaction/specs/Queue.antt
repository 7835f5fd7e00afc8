-- Jobs without their messages, in ascending order of their numbers, each with a mark that says whether an open service has
-- taken it; and which of them is taken first.
use Rattle.std.specs.Prelude.{ℕ, Bool, true, false, ◌&&◌, ◌||◌, not, ◌==◌, List, [], ◌∷◌, map, find, filter, Option, Some, None, nat_lt, nat_le, if◌then◌else◌}
use Rattle.std.specs.List.{insert, prefix_len}
use Rattle.kdcs_types.specs.declared.key.Target.{Target}
use Rattle.kdcs_types.specs.declared.service.Job.{Job}
use Rattle.open_transaction.specs.declared.async_queue.queue.QueuedJob.{QueuedJob}

-- ---- one job

abbrev pub has_number : ℕ → QueuedJob → Bool
has_number number q = q.number == number

-- the job with this number, with its mark
abbrev pub queued_at : ℕ → List QueuedJob → Option QueuedJob
queued_at number queue = find (has_number number) queue

-- the job is there with this mark
abbrev pub has_mark : (taken : Bool) → Option QueuedJob → Bool
has_mark taken None = false
has_mark true (Some q) = q.taken
has_mark false (Some q) = not q.taken

-- ---- changes

-- a job that no service has taken
abbrev pub untaken : Job → QueuedJob
untaken job = record { number = job.number; to = job.value.to; due = job.value.due; taken = false }

-- how many jobs from the front on have a lesser number
abbrev pub lesser_count : ℕ → List QueuedJob → ℕ
lesser_count number queue = prefix_len (λ (q : QueuedJob). nat_lt q.number number) queue

-- with this job, after those with lesser numbers
abbrev pub with_job : QueuedJob → List QueuedJob → List QueuedJob
with_job q queue = insert queue (lesser_count q.number queue) q

-- the job with this number is changed so
abbrev pub changed : ℕ → (QueuedJob → QueuedJob) → QueuedJob → QueuedJob
changed number f q = if has_number number q then f q else q

-- a job with this mark
abbrev pub with_taken : Bool → QueuedJob → QueuedJob
with_taken taken q = record q { taken = taken }

-- the job with this number has this mark
abbrev pub marked : ℕ → Bool → QueuedJob → QueuedJob
marked number taken q = changed number (with_taken taken) q

abbrev pub with_mark : ℕ → Bool → List QueuedJob → List QueuedJob
with_mark number taken queue = map (marked number taken) queue

-- a job that goes to this target, and is free
abbrev pub delivered : Target → QueuedJob → QueuedJob
delivered to q = record q { to = to; taken = false }

-- the job with this number is delivered so
abbrev pub with_delivery : ℕ → Target → List QueuedJob → List QueuedJob
with_delivery number to queue = map (changed number (delivered to)) queue

-- without the job with this number
abbrev pub without_job : ℕ → List QueuedJob → List QueuedJob
without_job number queue = filter (λ (q : QueuedJob). not (has_number number q)) queue

-- ---- the choice

-- by due, then by number
abbrev pub is_earlier : QueuedJob → QueuedJob → Bool
is_earlier a b = nat_lt a.due b.due || (a.due == b.due && nat_lt a.number b.number)

-- the earlier of two jobs
abbrev pub earlier_of : QueuedJob → Option QueuedJob → Option QueuedJob
earlier_of q None = Some q
earlier_of q (Some other) = Some (if is_earlier other q then other else q)

-- the earlier of two jobs, if there is one
abbrev pub either_of : Option QueuedJob → Option QueuedJob → Option QueuedJob
either_of None other = other
either_of (Some q) other = earlier_of q other

-- the job with the least due, and of those the least number
abbrev pub least_queued : List QueuedJob → Option QueuedJob
least_queued [] = None
least_queued (q ∷ queue) = earlier_of q (least_queued queue)

-- no open service has taken it, it is due, and its target passes the test; due at the clock itself is due
abbrev pub is_due : (now : ℕ) → (Target → Bool) → QueuedJob → Bool
is_due now allowed q = not q.taken && (nat_le q.due now && allowed q.to)

-- of the jobs that are due so, the one with the least due and number
abbrev pub first_due : (now : ℕ) → (Target → Bool) → List QueuedJob → Option QueuedJob
first_due now allowed queue = least_queued (filter (is_due now allowed) queue)
