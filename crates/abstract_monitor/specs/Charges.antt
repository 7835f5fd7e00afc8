-- How many pages the rows of tables take in the page pool.
use Rattle.std.specs.Prelude.{ℕ, ◌+◌, ◌-◌, ◌/◌, max, length, sum_by, Option, Some, None}
use Rattle.kdcs_types.specs.declared.service.Service.{Service}
use Rattle.kdcs_types.specs.declared.service.Job.{Job}
use Rattle.kdcs_types.specs.declared.service.JobValue.{JobValue}
use Rattle.abstract_monitor.specs.Bytes.{Bytes}
use Rattle.kdcs_types.specs.Tables.{TableRows}

-- a value of n bytes takes whole pages, each with 48 bytes of its own, and one page at least
abbrev pub charge_of : ℕ → ℕ → ℕ
charge_of blksize n = max 1 ((n + (blksize - 49)) / (blksize - 48))

-- a length and so many bytes
abbrev pub list_length : Bytes → ℕ
list_length bytes = 4 + length bytes

-- a byte, and the message where there is one
abbrev pub last_length : Option Bytes → ℕ
last_length None = 1
last_length (Some bytes) = 1 + list_length bytes

-- first and next TAC, awaits, user and LTERM, then KB, handed parts, last message and LSSBs
abbrev pub service_length : Service → ℕ
service_length s = 33 + list_length s.kb + (4 + sum_by list_length s.handed) + last_length s.last + (4 + sum_by (λ (l : Bytes × Bytes). 8 + list_length l.1) s.lssbs)

-- kind of target, target, due, user and LTERM, then the message
abbrev pub job_length : JobValue → ℕ
job_length j = 33 + list_length j.message

-- the charges of all rows together
unfoldable pub total_charge : ℕ → TableRows → ℕ
total_charge blksize t =
    sum_by (λ (r : Bytes × Bytes). charge_of blksize (length r.1)) t.gssbs
    + sum_by (λ (r : Bytes × Bytes × Bytes). charge_of blksize (length r.2)) t.tlss
    + sum_by (λ (r : Bytes × Bytes × Bytes). charge_of blksize (length r.2)) t.ulss
    + sum_by (λ (s : Service). charge_of blksize (service_length s)) t.services
    + sum_by (λ (j : Job). charge_of blksize (job_length j.value)) t.jobs
    + sum_by (λ (r : Bytes × JobValue). charge_of blksize (job_length r.1)) t.shown
