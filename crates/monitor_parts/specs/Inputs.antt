-- Which uses of an input hold text of it, and what the rule says of who types it.
use Rattle.std.specs.Prelude.{Bool, true, false, Option}
use Rattle.application_types.specs.Generation.{Generated}
use Rattle.abstract_monitor.specs.declared.access.Denial.{Denial}
use Rattle.abstract_monitor.specs.declared.input_use.Use.{Use}
use Rattle.abstract_monitor.specs.declared.input_use.Use.TheVariants.{Sign, SignRefused, SignFirst, AlreadySigned, Off, Display, Output, Again, Busy, TooLong, Next, Start, TacRefused}
use Rattle.abstract_monitor.specs.Access.{denial_of}
use Rattle.abstract_monitor.specs.Bytes.{Bytes}
use Rattle.abstract_monitor.specs.Sessions.{Split, after_word, start_by, tac_named}
use Rattle.monitor_parts.specs.declared.session_table.input.Caller.{Caller}

-- the message that a service reads
abbrev pub holds_text : Use → Bool
holds_text (Next text) = true
holds_text (Start tac text) = true
holds_text (Sign user) = false
holds_text (SignRefused fault) = false
holds_text SignFirst = false
holds_text AlreadySigned = false
holds_text Off = false
holds_text Display = false
holds_text Output = false
holds_text Again = false
holds_text Busy = false
holds_text TooLong = false
holds_text (TacRefused fault) = false

-- why the rule denies a TAC to who types
abbrev pub denies : Generated → Caller → Bytes → Option Denial
denies g caller tac = denial_of g caller.user caller.lterm tac

-- the use of a text whose first word is to be a TAC
abbrev pub start_use : Generated → Caller → Split → Use
start_use g caller r = start_by g (denies g caller) r.word (after_word r) (tac_named g r.word)
