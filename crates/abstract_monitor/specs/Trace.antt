-- What a script does to the outside: its steps, and all their acts.
use Rattle.std.specs.Prelude.{List, [], ◌∷◌, ◌++◌}
use Rattle.kdcs_types.specs.declared.act.Act.{Act}
use Rattle.kdcs_types.specs.declared.act.Act.TheVariants.{Commit, Emit}
use Rattle.kdcs_types.specs.Tables.{TableRows, changed}
use Rattle.abstract_monitor.specs.Bytes.{Bytes}
use Rattle.abstract_monitor.specs.State.{Application, State}
use Rattle.abstract_monitor.specs.declared.command.Command.{Command}
use Rattle.abstract_monitor.specs.Commands.{ScriptStep, started, steps_of, state_after, acts_of}

-- the steps of a script from a state
unfoldable pub history : Application → State → List Command → List ScriptStep
history app s [] = []
history app s (c ∷ cs) = let steps = steps_of app s c in steps ++ history app (state_after s steps) cs

-- all acts of a script, in order, from a start with these tables
unfoldable pub trace : Application → TableRows → List Command → List Act
trace app t script = acts_of (history app (started app t) script)

-- the durable tables after some acts
unfoldable pub tables_after : TableRows → List Act → TableRows
tables_after t [] = t
tables_after t (Commit c ∷ acts) = tables_after (changed t c) acts
tables_after t (Emit bytes ∷ acts) = tables_after t acts

-- the bytes of all Emits
unfoldable pub bytes_of : List Act → Bytes
bytes_of [] = []
bytes_of (Commit c ∷ acts) = bytes_of acts
bytes_of (Emit bytes ∷ acts) = bytes ++ bytes_of acts
