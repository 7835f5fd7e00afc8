-- A line, by what it asks for.
use Rattle.std.proofs.Common.{◌≡◌, ℕ, List, [], refl, sym, subst, ◌∙◌}
use Rattle.std.specs.Prelude.{Bool, Result}
use Rattle.kd_device.specs.Device.{State}
use Rattle.kd_records.specs.Identity.{Identity}
use Rattle.kd_records.specs.declared.content.Content.{Content}
use Rattle.kd_records.specs.declared.content.Patch.{Patch}
use Rattle.monitor_core.specs.CoreValue.{CoreValue}
use Rattle.typed_lines.specs.declared.typed.Question.{Question}
use Rattle.typed_lines.specs.declared.typed.Switch.{Switch}
use Rattle.typed_lines.specs.declared.typed.Typed.{Typed}
use Rattle.typed_lines.specs.declared.typed.Typed.TheVariants as asks
use Rattle.typed_lines.specs.Commands.{commands_in}
use Rattle.typed_lines.specs.Typing.{typed_of}
use Rattle.live_run.specs.Answers.{AnswersTyped, IsAnswer}
use Rattle.live_run.specs.Performing.{RestartsFirst, TookActs, TookAnswer, TookLine, session_at}
use Rattle.live_run.specs.Sessions.{acts_of_line, acts_said, acts_set, acts_typed, commands_asked, commands_of_line, commands_said, session_after, state_said, state_typed}
use Rattle.live_run.specs.declared.error.LiveError.{LiveError}
use Rattle.live_run.proofs.Acting.{no_restart}

module _ (stands : Identity → Content → List ℕ → Type 0) (most : Identity → Patch → ℕ) (fine : State → State → Type 0) (fingerprint : List ℕ) (c : CoreValue) (auto : Bool) (number : ℕ) (j : Identity) (y : Content) (file : List ℕ → Type 0) (a b : State) (la lb : ℕ → List ℕ → List ℕ → Type 0) (result : Result CoreValue LiveError) where
  module _ (line : List ℕ) where
    typed_line : (answer : List ℕ) → AnswersTyped c.state line answer (typed_of line) → TookActs stands most fine fingerprint c (acts_typed c.application (session_at c auto number) line answer (typed_of line)) (state_typed c.application (session_at c auto number) line (typed_of line)) j y file a b la lb result → RestartsFirst (commands_asked c.application (session_at c auto number) line (typed_of line)) a b result → TookLine stands most fine fingerprint c auto number line j y file a b la lb result
    unfolding IsAnswer acts_of_line commands_of_line session_after
    typed_line answer answered took restart = record { answer = answer; answered = answered; took = took; restart = restart }

    took_typed : (t : Typed) → t ≡ typed_of line → (answer : List ℕ) → AnswersTyped c.state line answer t → TookActs stands most fine fingerprint c (acts_typed c.application (session_at c auto number) line answer t) (state_typed c.application (session_at c auto number) line t) j y file a b la lb result → RestartsFirst (commands_asked c.application (session_at c auto number) line t) a b result → TookLine stands most fine fingerprint c auto number line j y file a b la lb result
    took_typed t is answer answered took restart =
        typed_line answer (subst (λ (u : Typed). AnswersTyped c.state line answer u) is answered)
        (subst (λ (u : Typed). TookActs stands most fine fingerprint c (acts_typed c.application (session_at c auto number) line answer u) (state_typed c.application (session_at c auto number) line u) j y file a b la lb result) is took)
        (subst (λ (u : Typed). RestartsFirst (commands_asked c.application (session_at c auto number) line u) a b result) is restart)

    pub took_question : (t : Typed) (question : Question) → t ≡ typed_of line → t ≡ asks.Question question → TookAnswer stands most fine fingerprint c question line j y file a b la lb result → TookLine stands most fine fingerprint c auto number line j y file a b la lb result
    took_question t question is kind took = took_typed (asks.Question question) (sym kind ∙ is) took.answer took.answered took.took (no_restart [] a b result (λ none. cc))

    pub took_switch : (t : Typed) (switch : Switch) → t ≡ typed_of line → t ≡ asks.Switch switch → TookActs stands most fine fingerprint c (acts_set number switch) c.state j y file a b la lb result → TookLine stands most fine fingerprint c auto number line j y file a b la lb result
    took_switch t switch is kind took = took_typed (asks.Switch switch) (sym kind ∙ is) [] refl took (no_restart [] a b result (λ none. cc))

    pub took_script : (t : Typed) → t ≡ typed_of line → t ≡ asks.Script → TookActs stands most fine fingerprint c (acts_said c.application (session_at c auto number) (commands_in c.application.generation auto line)) (state_said c.application (session_at c auto number) (commands_in c.application.generation auto line)) j y file a b la lb result
        → RestartsFirst (commands_said (commands_in c.application.generation auto line)) a b result → TookLine stands most fine fingerprint c auto number line j y file a b la lb result
    took_script t is kind took restart = took_typed asks.Script (sym kind ∙ is) [] refl took restart
