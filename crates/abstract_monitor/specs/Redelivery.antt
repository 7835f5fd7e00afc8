-- What becomes of a job whose service ends abnormally before its first synchronisation point.
use Rattle.std.specs.Prelude.{ℕ, ◌+◌, Bool, true, false, ◌||◌, min, Option, Some, None, nat_lt, is_some, codes, ◌==◌}
use Rattle.kdcs_types.specs.declared.key.Target.TheVariants.{Lterm}
use Rattle.kdcs_types.specs.declared.service.JobValue.{JobValue}
use Rattle.application_types.specs.Generation.{Generated, lterm_of}
use Rattle.abstract_monitor.specs.Bytes.{Bytes}

-- MAX REDELIVERY=255 sets no limit
abbrev pub no_limit : ℕ
no_limit = 255

-- a job that was delivered again so often is delivered once more
abbrev pub is_tried_again : (limit redelivered : ℕ) → Bool
is_tried_again limit redelivered = limit == no_limit || nat_lt redelivered limit

-- one delivery more, counted up to 255
abbrev pub one_more : ℕ → ℕ
one_more redelivered = min (redelivered + 1) 255

-- the job, delivered again
abbrev pub again : JobValue → JobValue
again v = record v { redelivered = one_more v.redelivered }

-- the LTERM of the dead letter queue
abbrev pub dead_letter_queue : Bytes
dead_letter_queue = codes "KDCDLETQ"

-- the generation has a dead letter queue
abbrev pub has_dead_letter_queue : Generated → Bool
has_dead_letter_queue g = is_some (lterm_of g dead_letter_queue)

-- the job as a dead letter
abbrev pub dead_letter : JobValue → JobValue
dead_letter v = record v { to = Lterm dead_letter_queue; redelivered = 0 }

-- it is delivered again, is a dead letter, or goes; due, user, LTERM and message stay
abbrev pub fate_by : (is_again has_queue : Bool) → JobValue → Option JobValue
fate_by true has_queue v = Some (again v)
fate_by false true v = Some (dead_letter v)
fate_by false false v = None

-- what becomes of a job of this value, if it does not go
unfoldable pub fate : Generated → JobValue → Option JobValue
fate g v = fate_by (is_tried_again g.limits.redelivery v.redelivered) (has_dead_letter_queue g) v
