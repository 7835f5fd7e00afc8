-- A test of a script up to one of its lines: what is expected up to there was sent.
use Rattle.std.proofs.Common.{◌≡◌, ℕ, ◌+◌, ◌<◌, Bool, true, false, List, [], ◌∷◌, ◌++◌, length, length-append, Option, Some, None, Ok, refl, ap, sym, subst, ◌∙◌, append_assoc, arith}
use Rattle.std.specs.Prelude.{map}
use Rattle.std.specs.Str.Lines.{lines}
use Rattle.std.proofs.lemmas.List.{append-nil, append_cancel_left, map-append}
use Rattle.std.proofs.lemmas.List.Elements.{All-tail}
use Rattle.std.proofs.lemmas.List.Sums.{sum_by-append}
use Rattle.kd_base.specs.ToolsLaws.{ok_is}
use Rattle.abstract_monitor.specs.CommandsOf.{IsCommandOf}
use Rattle.abstract_monitor.specs.Commands.{state_after, steps_of}
use Rattle.abstract_monitor.specs.State.{Application, State}
use Rattle.abstract_monitor.specs.declared.command.Command.{Command}
use Rattle.laws_of_states.specs.Keeping.{IsScriptOf}
use Rattle.script_read.specs.declared.fault.ScriptFault.{ScriptFault}
use Rattle.script_read.specs.Commands.{line_in, script_in}
use Rattle.script_read.specs.Script.{is_passed, script_from}
use Rattle.script_read.specs.Spelling.{PassedOnly}
use Rattle.lab_scripts.specs.declared.difference.Difference.{Difference}
use Rattle.lab_scripts.specs.Expected.{Awaited, Expectation, awaited_by, awaited_in, each_sent, expected_by, expected_in, expected_of, lines_sent, sent_of, text_in}
use Rattle.lab_scripts.specs.Met.{Differ, IsFirstDifference, IsMet, first, lines_expected, texts_expected, texts_of}
use Rattle.lab_scripts.proofs.Lines.{command_says, expects_passed, has_command, passed_says, short_script}

-- the lines of the script from this number on are left, and so are these commands; of the last one, which is in this line, these lines are left that it sent
pub record SoFar (app : Application) (expected : List Expectation) (sent : List (List (List ℕ))) (number : ℕ) (left : List (List ℕ)) (s : State) (commands : List Command) (line : ℕ) (own : List (List ℕ)) (met : ℕ) : Type 0 where
  pub before : List Expectation
  pub same : List Awaited
  pub expects : expected ≡ before ++ record { line = line; awaited = same ++ awaited_in number left } ∷ expected_in number left
  pub sends : sent ≡ map texts_expected before ++ (texts_of same ++ own) ∷ each_sent app s commands
  pub counted : met ≡ lines_expected before + length same
  pub says : script_from (line_in app.generation) number left ≡ Ok commands
  pub names : IsScriptOf app commands

-- ---- what one line makes of what is expected

module _ (number : ℕ) (line : List ℕ) (rest : List (List ℕ)) where
  awaits : (test : Option (List ℕ)) (passed : Bool) → text_in line ≡ test → is_passed line ≡ passed → awaited_in number (line ∷ rest) ≡ awaited_by number test passed (awaited_in (number + 1) rest)
  unfolding awaited_in
  awaits test passed e f = λ i. awaited_by number (e i) (f i) (awaited_in (number + 1) rest)

  expects_of : (test : Option (List ℕ)) (passed : Bool) → text_in line ≡ test → is_passed line ≡ passed → expected_in number (line ∷ rest) ≡ expected_by number test passed (awaited_in (number + 1) rest) (expected_in (number + 1) rest)
  unfolding expected_in
  expects_of test passed e f = λ i. expected_by number (e i) (f i) (awaited_in (number + 1) rest) (expected_in (number + 1) rest)

pub awaits_none : (number : ℕ) → awaited_in number [] ≡ []
unfolding awaited_in
awaits_none number = refl

expects_none : (number : ℕ) → expected_in number [] ≡ []
unfolding expected_in
expects_none number = refl

sends_none : (app : Application) (s : State) → each_sent app s [] ≡ []
unfolding each_sent
sends_none app s = refl

sends_next : (app : Application) (s : State) (c : Command) (cs : List Command) → each_sent app s (c ∷ cs) ≡ lines_sent app s c ∷ each_sent app (state_after s (steps_of app s c)) cs
unfolding each_sent
sends_next app s c cs = refl

-- ---- a test begins

pub starts : (app : Application) (s : State) (script : List ℕ) (commands : List Command) (own : List (List ℕ)) → script_in app.generation script ≡ Ok commands → IsScriptOf app commands → own ≡ []
    → SoFar app (expected_of script) (sent_of app s commands) 1 (lines script) s commands 0 own 0
starts app s script commands own says names none = record {
  before = [];
  same = [];
  expects = refl;
  sends = ap (λ (l : List (List ℕ)). l ∷ each_sent app s commands) (sym none);
  counted = refl;
  says = (short_script app.generation script commands says).1;
  names = names;
}

module _ (app : Application) (expected : List Expectation) (sent : List (List (List ℕ))) (number : ℕ) (left : List (List ℕ)) (s : State) (commands : List Command) (line : ℕ) (own : List (List ℕ)) (met : ℕ) (so_far : SoFar app expected sent number left s commands line own met) where
  -- what is expected, spelled otherwise
  expects_so : (awaited : List Awaited) (later : List Expectation) → so_far.same ++ awaited_in number left ≡ awaited → expected_in number left ≡ later → expected ≡ so_far.before ++ record { line = line; awaited = awaited } ∷ later
  expects_so awaited later e f = so_far.expects ∙ (λ i. so_far.before ++ record { line = line; awaited = e i } ∷ f i)

  -- no line is left: all is met
  pub ends_met : left ≡ [] → own ≡ [] → IsMet expected sent × (met ≡ lines_expected expected)
  ends_met none over =
      let none_awaited : so_far.same ++ awaited_in number left ≡ so_far.same = ap (λ (l : List (List ℕ)). so_far.same ++ awaited_in number l) none ∙ ap (λ (l : List Awaited). so_far.same ++ l) (awaits_none number) ∙ append-nil so_far.same in
      let none_later : expected_in number left ≡ [] = ap (expected_in number) none ∙ expects_none number in
      let last : Expectation = record { line = line; awaited = so_far.same } in
      let all = expects_so so_far.same [] none_awaited none_later in
      let no_command : commands ≡ [] = sym (ok_is ScriptFault [] commands (ap (script_from (line_in app.generation) number) (sym none) ∙ so_far.says)) in
      let count : lines_expected expected ≡ lines_expected so_far.before + lines_expected (last ∷ []) = ap lines_expected all ∙ sum_by-append (λ (e : Expectation). length e.awaited) so_far.before (last ∷ []) in
      let counts : met ≡ lines_expected expected = omega (arith, so_far.counted) in
      let sends : sent ≡ map texts_expected so_far.before ++ texts_of so_far.same ∷ [] = so_far.sends ∙ (λ i. map texts_expected so_far.before ++ (texts_of so_far.same ++ over i) ∷ each_sent app s (no_command i)) ∙ (λ i. map texts_expected so_far.before ++ append-nil (texts_of so_far.same) i ∷ sends_none app s i) in (
        ap (map texts_expected) all ∙ map-append texts_expected so_far.before (last ∷ []) ∙ sym sends,
        counts,
      )

  -- nothing more is expected of the last command, and something is left that it sent
  pub differs_over : (d : Difference) → awaited_in number left ≡ [] → Differ line None (first own) d → IsFirstDifference expected sent d
  differs_over d none differ = record {
    met = so_far.before;
    line = line;
    same = so_far.same;
    awaited = [];
    left = own;
    later = expected_in number left;
    later_sent = each_sent app s commands;
    expects = expects_so (so_far.same ++ []) (expected_in number left) (ap (λ (l : List Awaited). so_far.same ++ l) none) refl;
    sends = so_far.sends;
    differs = differ;
  }

  -- a line, and those behind it
  module _ (text : List ℕ) (rest : List (List ℕ)) (parts : left ≡ text ∷ rest) where
    says_here : script_from (line_in app.generation) number (text ∷ rest) ≡ Ok commands
    says_here = ap (script_from (line_in app.generation) number) (sym parts) ∙ so_far.says

    awaits_here : (test : Option (List ℕ)) (passed : Bool) → text_in text ≡ test → is_passed text ≡ passed → awaited_in number left ≡ awaited_by number test passed (awaited_in (number + 1) rest)
    awaits_here test passed e f = ap (awaited_in number) parts ∙ awaits number text rest test passed e f

    expects_here : (test : Option (List ℕ)) (passed : Bool) → text_in text ≡ test → is_passed text ≡ passed → expected_in number left ≡ expected_by number test passed (awaited_in (number + 1) rest) (expected_in (number + 1) rest)
    expects_here test passed e f = ap (expected_in number) parts ∙ expects_of number text rest test passed e f

    -- it is passed over
    pub goes_past : text_in text ≡ None → is_passed text ≡ true → SoFar app expected sent (number + 1) rest s commands line own met
    goes_past none passed = record {
      before = so_far.before;
      same = so_far.same;
      expects = expects_so (so_far.same ++ awaited_in (number + 1) rest) (expected_in (number + 1) rest) (ap (λ (l : List Awaited). so_far.same ++ l) (awaits_here None true none passed)) (expects_here None true none passed);
      sends = so_far.sends;
      counted = so_far.counted;
      says = passed_says app.generation number text (script_from (line_in app.generation) (number + 1) rest) commands passed says_here;
      names = so_far.names;
    }

    -- it expects a text
    module _ (wanted : List ℕ) (expects : text_in text ≡ Some wanted) where
      awaits_it : awaited_in number left ≡ record { line = number; text = wanted } ∷ awaited_in (number + 1) rest
      awaits_it = awaits_here (Some wanted) true expects (expects_passed text wanted expects)

      -- which is sent next
      pub goes_on : (own' : List (List ℕ)) → own ≡ wanted ∷ own' → SoFar app expected sent (number + 1) rest s commands line own' (met + 1)
      goes_on own' is =
          let passed = expects_passed text wanted expects in
          let here : Awaited = record { line = number; text = wanted } in
          let same = so_far.same ++ here ∷ [] in
          let behind = awaited_in (number + 1) rest in
          record {
            before = so_far.before;
            same = same;
            expects = expects_so (same ++ behind) (expected_in (number + 1) rest) (ap (λ (l : List Awaited). so_far.same ++ l) awaits_it ∙ sym (append_assoc so_far.same (here ∷ []) behind)) (expects_here (Some wanted) true expects passed);
            sends =
                so_far.sends
                ∙ ap (λ (l : List (List ℕ)). map texts_expected so_far.before ++ l ∷ each_sent app s commands)
                (ap (λ (l : List (List ℕ)). texts_of so_far.same ++ l) is ∙ sym (append_assoc (texts_of so_far.same) (wanted ∷ []) own') ∙ ap (λ (l : List (List ℕ)). l ++ own') (sym (map-append (λ (a : Awaited). a.text) so_far.same (here ∷ []))));
            counted = let more : length same ≡ length so_far.same + 1 = length-append so_far.same (here ∷ []) in omega (arith, so_far.counted);
            says = passed_says app.generation number text (script_from (line_in app.generation) (number + 1) rest) commands passed says_here;
            names = so_far.names;
          }

      -- or is not
      pub differs_here : (d : Difference) → Differ number (Some wanted) (first own) d → IsFirstDifference expected sent d
      differs_here d differ = record {
        met = so_far.before;
        line = line;
        same = so_far.same;
        awaited = record { line = number; text = wanted } ∷ awaited_in (number + 1) rest;
        left = own;
        later = expected_in number left;
        later_sent = each_sent app s commands;
        expects = expects_so (so_far.same ++ record { line = number; text = wanted } ∷ awaited_in (number + 1) rest) (expected_in number left) (ap (λ (l : List Awaited). so_far.same ++ l) awaits_it) refl;
        sends = so_far.sends;
        differs = differ;
      }

    -- it is that of a command
    module _ (only : PassedOnly) (none : text_in text ≡ None) (asks : is_passed text ≡ false) where
      pub has_next : 0 < length commands
      has_next = has_command only app.generation number text (script_from (line_in app.generation) (number + 1) rest) asks commands says_here

      pub awaits_no_more : awaited_in number left ≡ []
      awaits_no_more = awaits_here None false none asks

      -- which is done, where nothing is left that the one before it sent
      pub goes_next : (c : Command) (cs : List Command) (s' : State) (own' : List (List ℕ)) → own ≡ [] → commands ≡ c ∷ cs → s' ≡ state_after s (steps_of app s c) → own' ≡ lines_sent app s c → SoFar app expected sent (number + 1) rest s' cs number own' met
      goes_next c cs s' own' over is after sends =
          let last : Expectation = record { line = line; awaited = so_far.same } in
          let behind = awaited_in (number + 1) rest in
          let later = expected_in (number + 1) rest in
          let next : Expectation = record { line = number; awaited = behind } in
          let count : lines_expected (so_far.before ++ last ∷ []) ≡ lines_expected so_far.before + lines_expected (last ∷ []) = sum_by-append (λ (e : Expectation). length e.awaited) so_far.before (last ∷ []) in
          record {
            before = so_far.before ++ last ∷ [];
            same = [];
            expects =
                expects_so so_far.same (next ∷ later) (ap (λ (l : List Awaited). so_far.same ++ l) awaits_no_more ∙ append-nil so_far.same) (expects_here None false none asks)
                ∙ sym (append_assoc so_far.before (last ∷ []) (next ∷ later));
            sends =
                so_far.sends
                ∙ (λ i. map texts_expected so_far.before ++ (texts_of so_far.same ++ over i) ∷ each_sent app s (is i))
                ∙ (λ i. map texts_expected so_far.before ++ append-nil (texts_of so_far.same) i ∷ sends_next app s c cs i)
                ∙ (λ i. map texts_expected so_far.before ++ texts_of so_far.same ∷ sym sends i ∷ each_sent app (sym after i) cs)
                ∙ sym (append_assoc (map texts_expected so_far.before) (texts_of so_far.same ∷ []) (own' ∷ each_sent app s' cs))
                ∙ ap (λ (l : List (List (List ℕ))). l ++ own' ∷ each_sent app s' cs) (sym (map-append texts_expected so_far.before (last ∷ [])));
            counted = omega (arith, so_far.counted);
            says = command_says only app.generation number text (script_from (line_in app.generation) (number + 1) rest) asks c cs (says_here ∙ ap (λ (l : List Command). Ok l) is);
            names = All-tail (IsCommandOf app.generation) c cs (subst (IsScriptOf app) is so_far.names);
          }

-- ---- where something differs, not all is met

pub differs_not_met : (expected : List Expectation) (sent : List (List (List ℕ))) (d : Difference) → IsFirstDifference expected sent d → IsMet expected sent → ⊥
differs_not_met expected sent d found met =
    let here : Expectation = record { line = found.line; awaited = found.same ++ found.awaited } in
    let both =
    append_cancel_left (map texts_expected found.met) (texts_expected here ∷ map texts_expected found.later) ((texts_of found.same ++ found.left) ∷ found.later_sent)
    (sym (map-append texts_expected found.met (here ∷ found.later)) ∙ ap (map texts_expected) (sym found.expects) ∙ met ∙ found.sends) in
    let one : texts_expected here ≡ texts_of found.same ++ found.left = cc in
    let left : texts_of found.awaited ≡ found.left = append_cancel_left (texts_of found.same) (texts_of found.awaited) found.left (sym (map-append (λ (a : Awaited). a.text) found.same found.awaited) ∙ one) in
    found.differs.differ (ap first left)

-- ---- no line is left

pub no_lines : (rest : List ℕ) → length rest ≡ 0 → lines rest ≡ []
no_lines [] none = refl
no_lines (b ∷ rest) none = absurd (omega arith)
