-- What is heard of the command behind those that two scripts begin with.
use Rattle.std.proofs.Common.{◌≡◌, ℕ, List, [], ◌++◌, take, drop, ap, sym, subst, ◌∙◌}
use Rattle.kdcs_types.specs.Tables.{TableRows}
use Rattle.abstract_monitor.specs.declared.command.Command.{Command}
use Rattle.abstract_monitor.specs.CommandsOf.{IsCommandOf}
use Rattle.abstract_monitor.specs.Commands.{started, state_after}
use Rattle.abstract_monitor.specs.State.{Application, State}
use Rattle.abstract_monitor.specs.Trace.{history}
use Rattle.laws_of_states.specs.Keeping.{IsScriptOf}
use Rattle.monitor_core.specs.CoreValue.{CoreValue}
use Rattle.lab_turns.specs.Consoles.{printed}
use Rattle.lab_turns.specs.Heard.{Heard, TellsScript}
use Rattle.lab_turns.specs.Running.{DidSteps}
use Rattle.lab_scripts.specs.Kept.{Keeps, put_in}
use Rattle.lab_scripts.specs.KeptLaws.{put_printed}
use Rattle.lab_scripts.specs.Parting.{TellsNext}
use Rattle.lab_scripts.proofs.Alike.{all_left, all_taken}

pub kept_all : (a b text : List ℕ) → a ≡ [] → Keeps a (printed text) b → b ≡ text
kept_all a b text none kept = kept ∙ ap (λ (l : List ℕ). l ++ put_in (printed text)) none ∙ put_printed text

pub next_names : (app its : Application) (commands : List Command) (at : ℕ) (rest next : List Command) → its ≡ app → rest ≡ drop at commands → next ≡ take 1 rest → IsScriptOf app commands → IsScriptOf its next
next_names app its commands at rest next is behind first names =
    subst (λ (a : Application). IsScriptOf a next) (sym is)
    (subst (IsScriptOf app) (sym (first ∙ ap (take 1) behind)) (all_taken (IsCommandOf app.generation) (drop at commands) 1 (all_left (IsCommandOf app.generation) commands at names)))

pub next_tells : (app : Application) (t u : TableRows) (commands : List Command) (at : ℕ) (b d : CoreValue) (before rest next : List Command) (tale : List Heard) → u ≡ t → b.application ≡ app → b.state ≡ started b.application u → DidSteps b (history b.application b.state before) d
    → before ≡ take at commands → rest ≡ drop at commands → next ≡ take 1 rest → TellsScript d.application d.state next tale → TellsScript app (state_after (started app t) (history app (started app t) (take at commands))) (take 1 (drop at commands)) tale
next_tells app t u commands at b d before rest next tale same is state did front behind first tells =
    let s : b.state ≡ started app t = state ∙ (λ i. started (is i) (same i)) in
    let after : d.state ≡ state_after (started app t) (history app (started app t) (take at commands)) = did.state ∙ (λ i. state_after (s i) (history (is i) (s i) (front i))) in
    subst (λ (l : List Command). TellsScript app (state_after (started app t) (history app (started app t) (take at commands))) l tale) (first ∙ ap (take 1) behind)
    (subst (λ (v : State). TellsScript app v next tale) after (subst (λ (a : Application). TellsScript a d.state next tale) (did.application ∙ is) tells))

-- of another one of the same applications
pub next_again : (app its : Application) (t : TableRows) (source its_source : List (List ℕ)) (at : ℕ) (commands : List Command) (text : List ℕ) → its ≡ app → its_source ≡ source → TellsNext its (started its t) its_source at commands text → TellsNext app (started app t) source at commands text
next_again app its t source its_source at commands text is same tells =
    subst (λ (a : Application). TellsNext a (started a t) source at commands text) is (subst (λ (l : List (List ℕ)). TellsNext its (started its t) l at commands text) same tells)
