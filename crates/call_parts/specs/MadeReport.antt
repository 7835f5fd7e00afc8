-- The report of a run.
use Rattle.std.specs.Prelude.{ℕ, List, ◌++◌, ◌==◌, length, count_by, codes}
use Rattle.std.specs.Int.{w64, to_be_bytes}
use Rattle.sha2.specs.Sha256.{sha256}
use Rattle.hex.specs.Hex.{encode_lower}
use Rattle.kdcs_types.specs.declared.act.Act.{Act}
use Rattle.kdcs_types.specs.Tables.{TableRows, empty_tables}
use Rattle.abstract_monitor.specs.Bytes.{Bytes}
use Rattle.abstract_monitor.specs.Lines.{line}
use Rattle.abstract_monitor.specs.Listing.{listing}
use Rattle.abstract_monitor.specs.Made.{number_line, total_line}
use Rattle.abstract_monitor.specs.State.{Application}
use Rattle.abstract_monitor.specs.Trace.{trace, tables_after, bytes_of}
use Rattle.abstract_monitor.specs.declared.command.Command.{Command}
use Rattle.laws_of_states.specs.Cut.{commits_in}

-- how many lines were sent: each ends in LF, and has no other
abbrev pub lines_in : (sent : Bytes) → ℕ
lines_in sent = count_by (λ b. b == 10) sent

-- what is digested: the number of bytes that were sent in eight bytes, these bytes, and the list of the tables
abbrev pub digested : (sent : Bytes) → TableRows → Bytes
digested sent t = to_be_bytes w64 (length sent) ++ sent ++ listing t

-- the SHA-256 digest of what was sent and of the tables
abbrev pub digest_line : (sent : Bytes) → TableRows → Bytes
digest_line sent t = line (codes "DIGEST " ++ encode_lower (sha256 (digested sent t)))

-- the lines on n inputs by what the run did: the number of commits, the bytes that were sent, and the last durable tables
abbrev pub report_with : (n commits : ℕ) → (sent : Bytes) → TableRows → Bytes
report_with n commits sent t =
    number_line (codes "INPUTS") n
    ++ number_line (codes "COMMITS") commits
    ++ number_line (codes "LINES") (lines_in sent)
    ++ number_line (codes "CLOCK") t.clock
    ++ total_line t
    ++ digest_line sent t

-- the lines on n inputs by the acts that were done from these tables
abbrev pub report_by : (n : ℕ) → TableRows → List Act → Bytes
report_by n t acts = report_with n (commits_in acts) (bytes_of acts) (tables_after t acts)

-- the lines on n inputs by the trace of the commands from the empty tables
abbrev pub report_of : (n : ℕ) → Application → List Command → Bytes
report_of n app commands = report_by n empty_tables (trace app empty_tables commands)
