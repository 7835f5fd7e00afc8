-- What `carry` says of the files of a BASE, and with which status.
use Rattle.std.specs.Prelude.{ℕ, List, [], ◌++◌, length, codes, Option, Some, None}
use Rattle.std.specs.Fmt.{decimal}
use Rattle.kd_device.specs.declared.half.Half.{Half}
use Rattle.kd_device.specs.declared.half.Half.TheVariants.{First, Second}
use Rattle.application_types.specs.Generation.{Generated}
use Rattle.kdcfile_update.specs.Report.{dropped_line, ready_line, up_to_date_line, update_line}
use Rattle.kd_update.specs.declared.carrying.Dropped.{Dropped}
use Rattle.kd_update.specs.declared.error.UpdateError.{UpdateError}
use Rattle.kd_update.specs.declared.error.UpdateError.TheVariants as cause
use Rattle.refusals.specs.Lines.{file_line}
use Rattle.refusals.specs.declared.error.FileRefusal.TheVariants as file
use Rattle.call_parts.specs.Missing.{missing_line}
use Rattle.monitor_parts.specs.Parts.{rows_text}
use Rattle.carry_cli.specs.declared.answer.Answer.{Answer}
use Rattle.carry_cli.specs.declared.answer.Answer.TheVariants as answer
use Rattle.carry_cli.specs.declared.answer.Hindrance.{Hindrance}
use Rattle.carry_cli.specs.declared.answer.Hindrance.TheVariants as hindrance

-- the report of `update`: APPLINAME, how many rows of each kind went, and that the files are ready
abbrev pub report_text : Generated → Dropped → List ℕ
report_text g gone = update_line g.limits.appliname ++ dropped_line gone ++ ready_line

-- which half is lost, where one is
abbrev pub lost_text : Option Half → List ℕ
lost_text None = []
lost_text (Some First) = codes "COPY A LOST\n"
lost_text (Some Second) = codes "COPY B LOST\n"

-- how many rows would go
abbrev pub would_drop_line : ℕ → List ℕ
would_drop_line n = codes "WOULD DROP " ++ (decimal n ++ codes "\n")

-- the lines of `update`; want of memory has none
abbrev pub judged_line : UpdateError → List ℕ
judged_line cause.NotKdcfile = file_line file.NotKdcfile
judged_line (cause.OtherBlksize n) = file_line (file.OtherBlksize n)
judged_line (cause.SmallerPool n) = file_line (file.SmallerPool n)
judged_line (cause.TooManyGssbs n) = file_line (file.TooManyGssbs n)
judged_line (cause.TooLarge n) = file_line (file.TooLarge n)
judged_line cause.Memory = []

-- why files are not carried
abbrev pub hindrance_line : Hindrance → List ℕ
hindrance_line (hindrance.Missing half) = missing_line half
hindrance_line hindrance.TwoMeanings = codes "KDCFILE HAS TWO MEANINGS\n"
hindrance_line (hindrance.Judged why) = judged_line why
hindrance_line hindrance.Spent = file_line file.SequenceSpent

-- all that a call says
abbrev pub answer_text : Generated → Answer → List ℕ
answer_text g (answer.UpToDate lost) = up_to_date_line ++ lost_text lost
answer_text g answer.WouldKeep = up_to_date_line ++ lost_text None
answer_text g (answer.Carried gone lost) = report_text g gone ++ lost_text lost
answer_text g (answer.WouldCarry gone rows) = rows_text rows.items ++ report_text g gone
answer_text g (answer.WouldDrop rows) = rows_text rows.items ++ would_drop_line (length rows.items)
answer_text g (answer.Hindered why) = hindrance_line why

-- its status
abbrev pub answer_status : Answer → ℕ
answer_status (answer.UpToDate lost) = 0
answer_status answer.WouldKeep = 0
answer_status (answer.Carried gone lost) = 0
answer_status (answer.WouldCarry gone rows) = 0
answer_status (answer.WouldDrop rows) = 10
answer_status (answer.Hindered why) = 4
