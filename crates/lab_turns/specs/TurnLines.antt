-- What is printed of commands and their steps, line by line.
use Rattle.std.specs.Prelude.{ℕ, Bool, true, false, ◌&&◌, ◌==◌, List, [], ◌++◌, flat_map, codes, decimal, Option, Some, None, if◌then◌else◌}
use Rattle.kdcs_types.specs.declared.act.Act.{Act}
use Rattle.kdcs_types.specs.declared.act.Act.TheVariants.{Commit, Emit}
use Rattle.kdcs_types.specs.declared.act.Changes.{Changes}
use Rattle.kdcs_types.specs.declared.call.Code.{Code}
use Rattle.kdcs_types.specs.declared.key.Area.{Area}
use Rattle.kdcs_types.specs.declared.key.ServiceId.{ServiceId}
use Rattle.kdcs_types.specs.declared.service.Ending.{Ending}
use Rattle.abstract_monitor.specs.declared.command.Command.{Command}
use Rattle.abstract_monitor.specs.Lines.{line, owner_text}
use Rattle.lab_turns.specs.declared.run_end.RunEnd.{RunEnd}
use Rattle.lab_turns.specs.declared.run_end.RunEnd.TheVariants.{Idle, Waiting, Spent}
use Rattle.lab_turns.specs.declared.view.At.{At}
use Rattle.lab_turns.specs.declared.view.TurnView.{TurnView}
use Rattle.lab_turns.specs.Heard.{Heard, Asked, Turned, Done, Over}
use Rattle.lab_turns.specs.Phrases.{area_text, changes_text, code_text, command_text, ending_text}
use Rattle.lab_turns.specs.Sources.{line_at}

-- ---- a command

-- `>` and the command
abbrev pub command_line : Command → List ℕ
command_line command = line (codes "> " ++ command_text command)

-- ---- a turn

-- two blanks and the task
abbrev pub task_text : (task : ℕ) → List ℕ
task_text task = codes "  " ++ decimal task ++ codes " "

-- a free task takes a service, or finds no work
abbrev pub taken_text : Option ServiceId → List ℕ
taken_text (Some id) = codes "takes " ++ owner_text id
taken_text None = codes "free"

abbrev pub free_line : TurnView → List ℕ
free_line turn = line (task_text turn.task ++ taken_text turn.after)

-- the unit of a TAC
abbrev pub unit_text : Option (List ℕ) → List ℕ
unit_text (Some name) = codes "/" ++ name
unit_text None = []

abbrev pub code_by : (answered : Bool) → Option Ending → Option Code → List ℕ
code_by true None (Some code) = codes " " ++ code_text code
code_by true None None = []
code_by true (Some ending) code = []
code_by false ending code = []

-- the code of a call, where it was answered and its transaction is open
abbrev pub answer_text : TurnView → At → List ℕ
answer_text turn at = code_by (turn.moved && at.calls) turn.ending turn.code

-- the statement at a place: its line in the text, the code of a call, and the text of the line; past the last statement there is none
abbrev pub statement_text : (source : List (List ℕ)) → (answer : List ℕ) → Option ℕ → List ℕ
statement_text source answer (Some number) = codes " line " ++ decimal number ++ answer ++ codes ": " ++ line_at source number
statement_text source answer None = codes " at its end"

-- TAC, unit and statement
abbrev pub place_text : (source : List (List ℕ)) → TurnView → Option At → List ℕ
place_text source turn (Some at) = codes " " ++ at.tac ++ unit_text at.unit ++ statement_text source (answer_text turn at) at.line
place_text source turn None = []

-- the task, the service, and the statement that it did, or whose request waits
abbrev pub work_line : (source : List (List ℕ)) → TurnView → ServiceId → List ℕ
work_line source turn id = line (task_text turn.task ++ owner_text id ++ place_text source turn turn.at)

-- an area that the service holds from now on, or no longer
abbrev pub area_line : (word : List ℕ) → Area → List ℕ
area_line word area = line (word ++ area_text area)

-- whose the area is for which a request waits
abbrev pub holder_text : Option ServiceId → List ℕ
holder_text (Some id) = codes ", which " ++ owner_text id ++ codes " holds"
holder_text None = []

-- the area for which a request waits
abbrev pub wait_line : Option (Area × Option ServiceId) → List ℕ
wait_line (Some (area, holder)) = line (codes "    waits for " ++ area_text area ++ holder_text holder)
wait_line None = []

-- how the transaction ended
abbrev pub ending_line : Option Ending → List ℕ
ending_line (Some ending) = line (codes "    ends " ++ ending_text ending)
ending_line None = []

-- what a free task did, or what one with a service did, and below it what else the turn did
abbrev pub turn_by : (source : List (List ℕ)) → TurnView → Option ServiceId → List ℕ
turn_by source turn None = free_line turn
turn_by source turn (Some id) =
    work_line source turn id
    ++ flat_map (area_line (codes "    locks ")) turn.locked.items
    ++ wait_line turn.waits
    ++ ending_line turn.ending
    ++ flat_map (area_line (codes "    frees ")) turn.freed.items

abbrev pub turn_text : (source : List (List ℕ)) → TurnView → List ℕ
turn_text source turn = turn_by source turn turn.before

-- ---- acts

-- what a commit changes
abbrev pub commit_line : Changes → List ℕ
commit_line changes = line (codes "    commits " ++ changes_text changes.clock changes.items)

-- a line of the monitor; of a commit a line in a trace alone
abbrev pub act_text : (traces : Bool) → Act → List ℕ
act_text true (Emit text) = text
act_text false (Emit text) = text
act_text true (Commit changes) = commit_line changes
act_text false (Commit changes) = []

abbrev pub acts_text : (traces : Bool) → List Act → List ℕ
acts_text traces acts = flat_map (act_text traces) acts

-- ---- the end of a RUN

abbrev pub end_text : RunEnd → List ℕ
end_text Idle = codes "  idle"
end_text (Waiting services) = codes "  waiting"
end_text Spent = codes "  spent"

abbrev pub turns_text : (turns : ℕ) → List ℕ
turns_text turns = if turns == 1 then codes " turn" else codes " turns"

abbrev pub end_line : (turns : ℕ) → RunEnd → List ℕ
end_line turns end = line (end_text end ++ codes " after " ++ decimal turns ++ turns_text turns)

-- ---- all that is heard

-- commands, what turns did, and the ends of RUNs are printed in a trace alone
abbrev pub asked_text : (traces : Bool) → Command → List ℕ
asked_text true command = command_line command
asked_text false command = []

abbrev pub turned_text : (traces : Bool) → (source : List (List ℕ)) → TurnView → List ℕ
turned_text true source turn = turn_text source turn
turned_text false source turn = []

abbrev pub over_text : (traces : Bool) → (turns : ℕ) → RunEnd → List ℕ
over_text true turns end = end_line turns end
over_text false turns end = []

abbrev pub heard_text : (traces : Bool) → (source : List (List ℕ)) → Heard → List ℕ
heard_text traces source (Asked command) = asked_text traces command
heard_text traces source (Turned turn after acts) = turned_text traces source turn ++ acts_text traces acts
heard_text traces source (Done after acts) = acts_text traces acts
heard_text traces source (Over turns end) = over_text traces turns end

-- all of it, in its order
unfoldable pub tale_text : (traces : Bool) → (source : List (List ℕ)) → List Heard → List ℕ
tale_text traces source tale = flat_map (heard_text traces source) tale
