-- What `make N` asks for, and what it reports.
use Rattle.std.specs.Prelude.{◌≡◌, ◌++◌, ℕ, List, None, Ok}
use Rattle.kd_device.specs.Room.{RoomState}
use Rattle.kdcs_types.specs.declared.act.Act.{Act}
use Rattle.kdcs_types.specs.Tables.{empty_tables}
use Rattle.abstract_monitor.specs.Made.{made_application, made_script, made_lines}
use Rattle.abstract_monitor.specs.Trace.{trace, tables_after, bytes_of}
use Rattle.device_acts.specs.Fingerprints.{fingerprint as print_of}
use Rattle.call_parts.specs.declared.words.Word.TheVariants.{Make}
use Rattle.call_parts.specs.Asking.{Errand, app_of}
use Rattle.call_parts.specs.MadeApplication.{generated_application}
use Rattle.call_parts.specs.MadeReport.{digest_line, report_of}
use Rattle.call_parts.specs.MadeTexts.{definition_text, units_text}
use Rattle.call_parts.specs.Requests.{Request, Reads}

-- the made application with its script for n inputs
abbrev pub made_errand : ℕ → Errand
made_errand n = record { word = Make n; application = generated_application; fingerprint = print_of definition_text units_text; commands = made_script n; trail = None }

-- it is asked for whatever the room
abbrev pub MakeIsRead : Type 0
MakeIsRead = (words : List (List ℕ)) (n : ℕ) (operand : List ℕ) (room : RoomState) → Request words (Make n) operand → Reads words room (Ok (made_errand n))

-- what the run of the made script does
abbrev pub made_acts : ℕ → List Act
made_acts n = trace made_application empty_tables (made_script n)

-- it reports the made lines, and the digest after them
abbrev pub MakeReports : Type 0
MakeReports = (n : ℕ) → report_of n (app_of (made_errand n)) (made_script n) ≡ made_lines n ++ digest_line (bytes_of (made_acts n)) (tables_after empty_tables (made_acts n))
