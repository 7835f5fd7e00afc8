-- The output line of each event, ended by LF.
use Rattle.std.specs.Prelude.{ℕ, [], ◌∷◌, ◌++◌, codes, decimal}
use Rattle.kd_base.specs.Text.{escaped}
use Rattle.kdcs_types.specs.declared.call.Cause.{Cause}
use Rattle.kdcs_types.specs.declared.call.Cause.TheVariants.{E01, E02, E03, E04, E05, E06, E07, E08, E09, E10, E11, E12, Er}
use Rattle.kdcs_types.specs.declared.key.ServiceId.{ServiceId}
use Rattle.kdcs_types.specs.declared.key.ServiceId.TheVariants.{Dialogue, Asynchronous}
use Rattle.abstract_monitor.specs.Bytes.{Bytes}

-- a text and LF
abbrev pub line : Bytes → Bytes
line text = text ++ 10 ∷ []

-- a message to a terminal: of a dialogue, of a job, or printed
abbrev pub out_line : (pterm message : Bytes) → Bytes
out_line pterm message = line (codes "OUT " ++ pterm ++ 32 ∷ escaped message)

-- the message of a job at a terminal: KDCOUT and KDCLAST
abbrev pub asy_line : (pterm message : Bytes) → Bytes
asy_line pterm message = line (codes "ASY " ++ pterm ++ 32 ∷ escaped message)

-- the message of a job at a printer: PRINT
abbrev pub prt_line : (pterm message : Bytes) → Bytes
prt_line pterm message = line (codes "PRT " ++ pterm ++ 32 ∷ escaped message)

-- what the monitor itself says at a terminal
abbrev pub sys_line : (pterm text : Bytes) → Bytes
sys_line pterm text = line (codes "SYS " ++ pterm ++ 32 ∷ text)

-- there is nothing to show
abbrev pub no_message_line : (pterm : Bytes) → Bytes
no_message_line pterm = sys_line pterm (codes "NO MESSAGE")

-- a service is over without a message
abbrev pub ended_line : (pterm : Bytes) → Bytes
ended_line pterm = sys_line pterm (codes "SERVICE ENDED")

-- the name of a cause
abbrev pub cause_text : Cause → Bytes
cause_text E01 = codes "E01"
cause_text E02 = codes "E02"
cause_text E03 = codes "E03"
cause_text E04 = codes "E04"
cause_text E05 = codes "E05"
cause_text E06 = codes "E06"
cause_text E07 = codes "E07"
cause_text E08 = codes "E08"
cause_text E09 = codes "E09"
cause_text E10 = codes "E10"
cause_text E11 = codes "E11"
cause_text E12 = codes "E12"
cause_text Er = codes "ER"

-- the user of a dialogue service, `#` and the job number of an asynchronous one
abbrev pub owner_text : ServiceId → Bytes
owner_text (Dialogue user) = user
owner_text (Asynchronous number) = 35 ∷ decimal number

-- an abnormal end: owner, current TAC, cause, and the number of the statement in its unit
abbrev pub dump_line : ServiceId → (tac : Bytes) → Cause → (place : ℕ) → Bytes
dump_line id tac cause place = line (codes "DUMP " ++ owner_text id ++ 32 ∷ tac ++ 32 ∷ cause_text cause ++ 32 ∷ decimal place)

-- TICK: the new clock
abbrev pub tick_line : (clock : ℕ) → Bytes
tick_line clock = line (codes "TICK " ++ decimal clock)

-- TICK past the greatest clock
abbrev pub tick_refused_line : Bytes
tick_refused_line = line (codes "TICK REFUSED")

-- RESTART
abbrev pub restart_line : Bytes
restart_line = line (codes "RESTART")
