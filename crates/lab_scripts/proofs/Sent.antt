-- The lines that are heard of a command are those of its acts.
use Rattle.std.proofs.Common.{◌≡◌, ℕ, List, [], ◌∷◌, ◌++◌, refl, sym, ap, ◌∙◌}
use Rattle.std.proofs.Common.{append_assoc}
use Rattle.std.proofs.lemmas.List.{append-nil}
use Rattle.kdcs_types.specs.declared.act.Act.{Act}
use Rattle.kdcs_types.specs.declared.act.Act.TheVariants.{Commit, Emit}
use Rattle.abstract_monitor.specs.declared.command.Command.{Command}
use Rattle.abstract_monitor.specs.declared.command.Command.TheVariants.{Input, Tick, Run, Turn, Drop, Print, PrintLast, Restart}
use Rattle.abstract_monitor.specs.Commands.{ScriptStep, acts_of, steps_of}
use Rattle.abstract_monitor.specs.State.{Application, State}
use Rattle.abstract_monitor.specs.Trace.{bytes_of}
use Rattle.lab_turns.specs.Heard.{Heard, Asked, Turned, Done, Over, AreSteps, IsEnding, TellsCommand}
use Rattle.lab_scripts.specs.Records.{heard_bytes}
use Rattle.lab_scripts.specs.RecordsLaws.{heard_bytes_both}

bytes_both : (xs ys : List Act) → bytes_of (xs ++ ys) ≡ bytes_of xs ++ bytes_of ys
unfolding bytes_of
bytes_both [] ys = refl
bytes_both (Commit c ∷ xs) ys = bytes_both xs ys
bytes_both (Emit line ∷ xs) ys = ap (λ (b : List ℕ). line ++ b) (bytes_both xs ys) ∙ sym (append_assoc line (bytes_of xs) (bytes_of ys))

-- of its steps
step_lines : (hs : List Heard) (ds : List ScriptStep) → AreSteps hs ds → heard_bytes hs ≡ bytes_of (acts_of ds)
unfolding AreSteps bytes_of
step_lines [] [] told = refl
step_lines [] (d ∷ ds) told = absurd told
step_lines (h ∷ hs) [] told = absurd told
step_lines (Turned view after acts ∷ hs) (d ∷ ds) ((state, same), told) = (λ i. bytes_of (same i) ++ step_lines hs ds told i) ∙ sym (bytes_both d.acts (acts_of ds))
step_lines (Done after acts ∷ hs) (d ∷ ds) ((state, same), told) = (λ i. bytes_of (same i) ++ step_lines hs ds told i) ∙ sym (bytes_both d.acts (acts_of ds))
step_lines (Asked command ∷ hs) (d ∷ ds) (none, told) = absurd none
step_lines (Over turns end ∷ hs) (d ∷ ds) (none, told) = absurd none

-- the end of a RUN has none
end_lines : (command : Command) (s : State) (done : ℕ) (tail : List Heard) → IsEnding command s done tail → heard_bytes tail ≡ []
end_lines (Run turns) s done tail (end, so, is) = ap heard_bytes is
end_lines (Input pterm text) s done tail is = ap heard_bytes is
end_lines (Tick ticks) s done tail is = ap heard_bytes is
end_lines (Turn task) s done tail is = ap heard_bytes is
end_lines (Drop pterm) s done tail is = ap heard_bytes is
end_lines (Print pterm) s done tail is = ap heard_bytes is
end_lines (PrintLast pterm) s done tail is = ap heard_bytes is
end_lines Restart s done tail is = ap heard_bytes is

pub command_lines : (app : Application) (s : State) (command : Command) (tale : List Heard) → TellsCommand app s command tale → heard_bytes tale ≡ bytes_of (acts_of (steps_of app s command))
command_lines app s command tale told =
    ap heard_bytes told.all
    ∙ heard_bytes_both told.own told.tail
    ∙ (λ i. step_lines told.own (steps_of app s command) told.steps i ++ end_lines command _ _ told.tail told.ending i)
    ∙ append-nil (bytes_of (acts_of (steps_of app s command)))
