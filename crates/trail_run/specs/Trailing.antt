-- The trail of a script's run, as a text.
use Rattle.std.specs.Prelude.{ℕ, List, All}
use Rattle.kdcs_types.specs.Tables.{TableRows}
use Rattle.abstract_monitor.specs.declared.command.Command.{Command}
use Rattle.abstract_monitor.specs.State.{Application}
use Rattle.record_codec.specs.Fields.{AreBytes}
use Rattle.record_codec.specs.Records.{content_of_tables}
use Rattle.record_codec.specs.TableReadings.{AreRecordBytes}
use Rattle.audit_trail.specs.Printed.{trail_text}
use Rattle.audit_trail.specs.Written.{AreEntryBytes}
use Rattle.trail_run.specs.OwnTrails.{entries_of}

-- the text of the trail of a script's run from these tables
abbrev pub text_of : Application → (fingerprint : List ℕ) → TableRows → List Command → List ℕ
text_of app fingerprint t script = trail_text fingerprint t (entries_of app t script)

-- what is written of a trail in hexadecimal are bytes
pub record HasBytes (app : Application) (fingerprint : List ℕ) (t : TableRows) (script : List Command) : Type 0 where
  pub fingerprint_bytes : AreBytes fingerprint
  pub rows : All AreRecordBytes (content_of_tables t).items
  pub entries : All AreEntryBytes (entries_of app t script)
