-- Laws: the acts of a session are those of its commands, with answers and refusals between.
use Rattle.std.proofs.Common.{◌≡◌, inl, inr, ℕ, ◌+◌, List, [], ◌∷◌, ◌++◌, Ok, Err, refl, sym, ap, subst, ◌∙◌, append_assoc}
use Rattle.std.specs.Prelude.{Result}
use Rattle.kdcs_types.specs.declared.act.Act.{Act}
use Rattle.kdcs_types.specs.declared.act.Act.TheVariants.{Emit}
use Rattle.abstract_monitor.specs.Commands.{acts_of, state_after, steps_of}
use Rattle.abstract_monitor.specs.State.{Application, State}
use Rattle.abstract_monitor.specs.Trace.{history}
use Rattle.abstract_monitor.specs.declared.command.Command.{Command}
use Rattle.laws_of_runs.specs.ListsLaws.{after_both}
use Rattle.device_run.specs.SteppingLaws.{acts_both}
use Rattle.script_read.specs.declared.fault.ScriptFault.{ScriptFault}
use Rattle.script_read.specs.declared.fault.ScriptFault.TheVariants.{BadLine}
use Rattle.typed_lines.specs.Commands.{commands_in, refused_line}
use Rattle.typed_lines.specs.Typing.{typed_of}
use Rattle.typed_lines.specs.declared.typed.Switch.{Switch}
use Rattle.typed_lines.specs.declared.typed.Switch.TheVariants.{Auto, Trace}
use Rattle.typed_lines.specs.declared.typed.Typed.{Typed}
use Rattle.typed_lines.specs.declared.typed.Typed.TheVariants as asks
use Rattle.live_run.specs.Sessions.{AreWoven, Exchange, Session, acts_of_line, acts_said, acts_set, acts_typed, commands_asked, commands_of_line, commands_said, session_acts, session_after, session_commands, state_said, state_typed}

-- ---- acts that are woven

woven_none : AreWoven [] []
unfolding AreWoven
woven_none = refl

woven_own : (acts : List Act) → AreWoven acts acts
unfolding AreWoven
woven_own [] = refl
woven_own (a ∷ acts) = inl (acts, refl, woven_own acts)

woven_line : (line : List ℕ) → AreWoven [] (Emit line ∷ [])
unfolding AreWoven
woven_line line = inr (line, refl, refl)

woven_both : (p q : List Act) (first second : List Act) → AreWoven p first → AreWoven q second → AreWoven (p ++ q) (first ++ second)
unfolding AreWoven
woven_both p q [] second h k = subst (λ (l : List Act). AreWoven (l ++ q) second) (sym h) k
woven_both p q (a ∷ first) second (inl own) k = inl (own.0 ++ q, ap (λ (l : List Act). l ++ q) own.1, woven_both own.0 q first second own.2 k)
woven_both p q (a ∷ first) second (inr line) k = inr (line.0, line.1, woven_both p q first second line.2 k)

-- ---- acts of commands

module _ (app : Application) where
  -- commands, and further ones behind them
  acts_behind : (s : State) (cs ds : List Command) → acts_of (history app s (cs ++ ds)) ≡ acts_of (history app s cs) ++ acts_of (history app (state_after s (history app s cs)) ds)
  unfolding history state_after
  acts_behind s [] ds = refl
  acts_behind s (c ∷ cs) ds =
      let steps = steps_of app s c in
      let next = state_after s steps in
      acts_both steps (history app next (cs ++ ds))
      ∙ ap (λ (l : List Act). acts_of steps ++ l) (acts_behind next cs ds)
      ∙ sym (append_assoc (acts_of steps) (acts_of (history app next cs)) (acts_of (history app (state_after next (history app next cs)) ds)))
      ∙ ap (λ (l : List Act). l ++ acts_of (history app (state_after next (history app next cs)) ds)) (sym (acts_both steps (history app next cs)))
      ∙ ap (λ (z : State). acts_of (steps ++ history app next cs) ++ acts_of (history app z ds)) (sym (after_both s steps (history app next cs)))

  -- ---- one line

  none_done : (s : State) → acts_of (history app s []) ≡ []
  unfolding history
  none_done s = refl

  none_went : (s : State) → state_after s (history app s []) ≡ s
  unfolding history state_after
  none_went s = refl

  line_alone : (s : State) (line : List ℕ) → AreWoven (acts_of (history app s [])) (Emit line ∷ [])
  line_alone s line = subst (λ (l : List Act). AreWoven l (Emit line ∷ [])) (sym (none_done s)) (woven_line line)

  woven_said : (v : Session) (said : Result (List Command) ScriptFault) → AreWoven (acts_of (history app v.state (commands_said said))) (acts_said app v said)
  woven_said v (Ok commands) = woven_own (acts_of (history app v.state commands))
  woven_said v (Err fault) = line_alone v.state (refused_line (v.number + 1) fault)

  went_said : (v : Session) (said : Result (List Command) ScriptFault) → state_said app v said ≡ state_after v.state (history app v.state (commands_said said))
  went_said v (Ok commands) = refl
  went_said v (Err fault) = sym (none_went v.state)

  woven_set : (v : Session) (switch : Switch) → AreWoven (acts_of (history app v.state [])) (acts_set v.number switch)
  woven_set v (Auto on) = subst (λ (l : List Act). AreWoven l []) (sym (none_done v.state)) woven_none
  woven_set v (Trace on) = line_alone v.state (refused_line (v.number + 1) (BadLine 1))

  woven_typed : (v : Session) (line answer : List ℕ) (asked : Typed) → AreWoven (acts_of (history app v.state (commands_asked app v line asked))) (acts_typed app v line answer asked)
  woven_typed v line answer (asks.Question question) = line_alone v.state answer
  woven_typed v line answer (asks.Switch switch) = woven_set v switch
  woven_typed v line answer asks.Script = woven_said v (commands_in app.generation v.auto line)

  went_typed : (v : Session) (line : List ℕ) (asked : Typed) → state_typed app v line asked ≡ state_after v.state (history app v.state (commands_asked app v line asked))
  went_typed v line (asks.Question question) = sym (none_went v.state)
  went_typed v line (asks.Switch switch) = sym (none_went v.state)
  went_typed v line asks.Script = went_said v (commands_in app.generation v.auto line)

  -- ---- all lines

  pub session_is_woven : (v : Session) (exchanges : List Exchange) → AreWoven (acts_of (history app v.state (session_commands app v exchanges))) (session_acts app v exchanges)
  unfolding session_commands session_acts acts_of_line commands_of_line session_after
  session_is_woven v [] = subst (λ (l : List Act). AreWoven l []) (sym (none_done v.state)) woven_none
  session_is_woven v (x ∷ exchanges) =
      let here = commands_asked app v x.line (typed_of x.line) in
      let next = session_after app v x.line in
      let there = session_commands app next exchanges in
      subst (λ (l : List Act). AreWoven l (acts_typed app v x.line x.answer (typed_of x.line) ++ session_acts app next exchanges))
      (ap (λ (z : State). acts_of (history app v.state here) ++ acts_of (history app z there)) (went_typed v x.line (typed_of x.line)) ∙ sym (acts_behind v.state here there))
      (woven_both (acts_of (history app v.state here)) (acts_of (history app next.state there)) (acts_typed app v x.line x.answer (typed_of x.line)) (session_acts app next exchanges) (woven_typed v x.line x.answer (typed_of x.line)) (session_is_woven next exchanges))
