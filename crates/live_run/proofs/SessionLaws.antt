-- A session in two parts.
use Rattle.std.proofs.Common.{◌≡◌, ℕ, ◌+◌, List, [], ◌∷◌, ◌++◌, length, refl, sym, ap, ◌∙◌, append_assoc, arith}
use Rattle.std.proofs.lemmas.List.{append-nil}
use Rattle.kdcs_types.specs.declared.act.Act.{Act}
use Rattle.abstract_monitor.specs.Listing.{listing}
use Rattle.abstract_monitor.specs.State.{Application, State}
use Rattle.typed_lines.specs.declared.typed.Question.{Question}
use Rattle.typed_lines.specs.declared.typed.Question.TheVariants.{Show, Locks, Tasks, Jobs, Counts, Echo}
use Rattle.typed_lines.specs.Typing.{echo_line}
use Rattle.live_run.specs.Answers.{Answers, IsAnswer}
use Rattle.live_run.specs.Sessions.{AreAnswered, Exchange, Session, acts_of_line, session_acts, session_after, session_by}

module _ (app : Application) where
  pub by_both : (v : Session) (xs ys : List Exchange) → session_by app v (xs ++ ys) ≡ session_by app (session_by app v xs) ys
  unfolding session_by
  by_both v [] ys = refl
  by_both v (x ∷ xs) ys = by_both (session_after app v x.line) xs ys

  pub acts_both : (v : Session) (xs ys : List Exchange) → session_acts app v (xs ++ ys) ≡ session_acts app v xs ++ session_acts app (session_by app v xs) ys
  unfolding session_acts session_by
  acts_both v [] ys = refl
  acts_both v (x ∷ xs) ys =
      let here = acts_of_line app v x.line x.answer in
      let next = session_after app v x.line in
      ap (λ (l : List Act). here ++ l) (acts_both next xs ys) ∙ sym (append_assoc here (session_acts app next xs) (session_acts app (session_by app next xs) ys))

  pub acts_of_one : (v : Session) (x : Exchange) → session_acts app v (x ∷ []) ≡ acts_of_line app v x.line x.answer
  unfolding session_acts
  acts_of_one v x = append-nil (acts_of_line app v x.line x.answer)

  pub by_one : (v : Session) (x : Exchange) → session_by app v (x ∷ []) ≡ session_after app v x.line
  unfolding session_by
  by_one v x = refl

  pub by_none : (v : Session) → session_by app v [] ≡ v
  unfolding session_by
  by_none v = refl

  pub acts_of_none : (v : Session) → session_acts app v [] ≡ []
  unfolding session_acts
  acts_of_none v = refl

  pub answered_none : (v : Session) → AreAnswered app v []
  unfolding AreAnswered
  answered_none v = tt

  pub answered_more : (v : Session) (xs : List Exchange) (x : Exchange) → AreAnswered app v xs → IsAnswer (session_by app v xs).state x.line x.answer → AreAnswered app v (xs ++ x ∷ [])
  unfolding AreAnswered session_by
  answered_more v [] x are is = (is, tt)
  answered_more v (y ∷ xs) x are is = (are.0, answered_more (session_after app v y.line) xs x are.1 is)

  -- the lines are numbered
  pub number_after : (v : Session) (line : List ℕ) → (session_after app v line).number ≡ v.number + 1
  unfolding session_after
  number_after v line = refl

  pub number_by : (v : Session) (xs : List Exchange) → (session_by app v xs).number ≡ v.number + length xs
  unfolding session_by
  number_by v [] = omega arith
  number_by v (x ∷ xs) =
      let one = number_after v x.line in
      let rest = number_by (session_after app v x.line) xs in
      omega (arith, one, rest)

-- ---- some answer of a line

some_answer_to : (s : State) (line : List ℕ) (question : Question) → (answer : List ℕ) × Answers s line answer question
some_answer_to s line Show = (listing s.tables, refl)
some_answer_to s line Locks = (10 ∷ [], record { front = []; ended = refl })
some_answer_to s line Tasks = (10 ∷ [], record { front = []; ended = refl })
some_answer_to s line Jobs = (10 ∷ [], record { front = []; ended = refl })
some_answer_to s line Counts = (10 ∷ [], record { front = []; ended = refl })
some_answer_to s line Echo = (echo_line line, refl)

pub some_answer : (s : State) (line : List ℕ) (question : Question) → (answer : List ℕ) × Answers s line answer question
some_answer s line question = some_answer_to s line question
