-- Words for areas, codes, endings, commits and commands.
use Rattle.std.specs.Prelude.{ℕ, List, [], ◌∷◌, ◌++◌, flat_map, codes, decimal}
use Rattle.kdcs_types.specs.declared.act.Change.{Change}
use Rattle.kdcs_types.specs.declared.call.Code.{Code}
use Rattle.kdcs_types.specs.declared.call.Code.TheVariants as code
use Rattle.kdcs_types.specs.declared.key.Area.{Area}
use Rattle.kdcs_types.specs.declared.key.Key.{Key}
use Rattle.kdcs_types.specs.declared.key.Key.TheVariants.{Gssb, Tls, Uls, Service, Job, Shown}
use Rattle.kdcs_types.specs.declared.service.Ending.{Ending}
use Rattle.kdcs_types.specs.declared.service.Ending.TheVariants.{Synced, Broken, BrokenFr}
use Rattle.kdcs_types.specs.Keys.{area_key}
use Rattle.kdcs_types.specs.Tables.{change_key}
use Rattle.abstract_monitor.specs.declared.command.Command.{Command}
use Rattle.abstract_monitor.specs.declared.command.Command.TheVariants.{Input, Tick, Run, Turn, Drop, Print, PrintLast, Restart}
use Rattle.abstract_monitor.specs.Lines.{cause_text, owner_text}

-- the key of a row, as `show` begins the line of its row
abbrev pub key_text : Key → List ℕ
key_text (Gssb name) = codes "GSSB " ++ name
key_text (Tls block lterm) = codes "TLS " ++ block ++ codes " " ++ lterm
key_text (Uls block user) = codes "ULS " ++ block ++ codes " " ++ user
key_text (Service id) = codes "SERVICE " ++ owner_text id
key_text (Job number) = codes "JOB " ++ decimal number
key_text (Shown lterm) = codes "SHOWN " ++ lterm

-- an area, by the key of its row
abbrev pub area_text : Area → List ℕ
area_text area = key_text (area_key area)

-- the code of a call: KCRCCC
abbrev pub code_text : Code → List ℕ
code_text code.Done = codes "000"
code_text code.K01 = codes "K01"
code_text code.K02 = codes "K02"
code_text code.K03 = codes "K03"
code_text code.K04 = codes "K04"
code_text code.K05 = codes "K05"
code_text code.K06 = codes "K06"
code_text code.K07 = codes "K07"
code_text code.K08 = codes "K08"
code_text code.K09 = codes "K09"
code_text code.K10 = codes "K10"
code_text code.K11 = codes "K11"

-- how a transaction ended
abbrev pub ending_text : Ending → List ℕ
ending_text Synced = codes "SYNCHRONISED"
ending_text (Broken cause) = cause_text cause
ending_text BrokenFr = codes "FR"

-- the key of a change behind another one
abbrev pub next_key_text : Change → List ℕ
next_key_text change = codes ", " ++ key_text (change_key change)

-- what a commit changes: the keys of its rows; where there are none, it has the clock alone
abbrev pub changes_text : (clock : ℕ) → List Change → List ℕ
changes_text clock [] = codes "no row, CLOCK " ++ decimal clock
changes_text clock (x ∷ xs) = key_text (change_key x) ++ flat_map next_key_text xs

-- a command, as a script has it
abbrev pub command_text : Command → List ℕ
command_text (Input pterm text) = codes "IN " ++ pterm ++ codes " " ++ text
command_text (Tick ticks) = codes "TICK " ++ decimal ticks
command_text (Run turns) = codes "RUN " ++ decimal turns
command_text (Turn task) = codes "TURN " ++ decimal task
command_text (Drop pterm) = codes "DROP " ++ pterm
command_text (Print pterm) = codes "PRINT " ++ pterm
command_text (PrintLast pterm) = codes "PRINT " ++ pterm ++ codes " LAST"
command_text Restart = codes "RESTART"
