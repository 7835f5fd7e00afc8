-- What is printed of outcomes, one after another.
use Rattle.std.proofs.Common.{◌≡◌, refl, ℕ, ◌+◌, ◌<◌, ◌≤◌, List, [], ◌∷◌, ◌++◌, length, drop, get_or, sym, ap, subst, ◌∙◌, arith}
use Rattle.std.proofs.lemmas.List.{drop_all, drop_more}
use Rattle.std.proofs.lemmas.List.Elements.{All-cons, All-get_or, All-head, All-nil, All-tail}
use Rattle.application_types.specs.Fitted.{FittedUnits, IsFit}
use Rattle.application_types.specs.Generation.{Generated}
use Rattle.abstract_monitor.specs.declared.command.Command.{Command}
use Rattle.abstract_monitor.specs.Commands.{started}
use Rattle.abstract_monitor.specs.State.{Application}
use Rattle.kdcs_types.specs.Tables.{TableRows}
use Rattle.laws_of_runs.specs.Applied.{applied}
use Rattle.laws_of_states.specs.Keeping.{IsScriptOf}
use Rattle.laws_of_states.specs.Suits.{Suits}
use Rattle.lab_walks.specs.Orders.{turned_script}
use Rattle.lab_orders.specs.declared.explored.Explored.{Explored}
use Rattle.lab_orders.specs.declared.explored.Outcome.{Outcome}
use Rattle.lab_orders.specs.Exploring.{AreOutcomes}
use Rattle.lab_orders.specs.Laws.{WalksAreScripts}
use Rattle.lab_turns.specs.Consoles.{Passed, printed}
use Rattle.lab_turns.specs.PrintingLaws.{printed_both}
use Rattle.lab_scripts.specs.Parting.{IsSetAgain, TellsParting}
use Rattle.lab_scripts.specs.declared.parting.Setting.{Setting}
use Rattle.lab_cli.specs.Exploring.{is_not_serial}
use Rattle.lab_cli.specs.ExploredText.{AreScripts, TellsExplored, TellsOthers, TellsOutcomes, orders_line, outcome_text}

-- ---- their scripts

module _ (law : WalksAreScripts) (app : Application) (t : TableRows) (commands : List Command) (names : IsScriptOf app commands) where
  pub are_scripts : (outcomes : List Outcome) → AreOutcomes app t commands outcomes → AreScripts app commands outcomes
  are_scripts [] are = All-nil (λ (o : Outcome). IsScriptOf app (turned_script commands o.turns))
  are_scripts (o ∷ os) are = All-cons (λ (x : Outcome). IsScriptOf app (turned_script commands x.turns)) o os (law app commands (started app t) o.turns names are.0.walk) (are_scripts os are.1)

-- ---- what scripts are performed with

abbrev pub app_for : Setting → Application
app_for s = applied s.generation s.units

pub set_at_first : (s : Setting) → IsFit s.generation s.units → IsSetAgain s s
set_at_first s fit = record { fit = fit; application = refl; source = refl }

pub set_later : (before now later : Setting) → IsSetAgain before now → IsSetAgain now later → IsSetAgain before later
set_later before now later first second = record { fit = second.fit; application = second.application ∙ first.application; source = second.source ∙ first.source }

module _ (before now : Setting) (again : IsSetAgain before now) where
  pub suits_again : (t : TableRows) → Suits before.generation t → Suits now.generation t
  suits_again t suits = subst (λ (a : Application). Suits a.generation t) (sym again.application) suits

  pub names_again : (script commands : List Command) → script ≡ commands → IsScriptOf (app_for before) commands → IsScriptOf (app_for now) script
  names_again script commands same names = subst (λ (a : Application). IsScriptOf a script) (sym again.application) (subst (λ (l : List Command). IsScriptOf (app_for before) l) (sym same) names)

  pub parting_again : (t : TableRows) (one other its own : List Command) → one ≡ its → other ≡ own → (told : List ℕ) → TellsParting (app_for now) (started (app_for now) t) now.source 1 one other told → TellsParting (app_for before) (started (app_for before) t) before.source 1 its own told
  parting_again t one other its own one_is other_is told tells =
      subst (λ (l : List Command). TellsParting (app_for before) (started (app_for before) t) before.source 1 its l told) other_is
      (subst (λ (l : List Command). TellsParting (app_for before) (started (app_for before) t) before.source 1 l other told) one_is
      (subst (λ (l : List (List ℕ)). TellsParting (app_for before) (started (app_for before) t) l 1 one other told) again.source
      (subst (λ (a : Application). TellsParting a (started a t) now.source 1 one other told) again.application tells)))

-- ---- the outcomes

-- some of the outcomes behind the first one are printed; what tells of those that are left goes on to what tells of all
pub record IsUpTo {C : Type 0} (passes : C → List Passed → C → Type 0) (set : Setting) (t : TableRows) (commands one : List Command) (e : Explored) (others : List Outcome) (a : C) (i number : ℕ) (now : Setting) (b : C) : Type 0 where
  pub first : Outcome
  pub one_is : one ≡ turned_script commands first.turns
  pub outcomes_are : e.outcomes ≡ first ∷ others
  pub number_is : number ≡ i + 2
  pub again : IsSetAgain set now
  pub left : (text : List ℕ) (c : C) → TellsOthers (app_for set) (started (app_for set) t) set.source commands e first number (drop i others) text → passes b (printed text) c
      → (whole : List ℕ) × TellsOutcomes (app_for set) (started (app_for set) t) set.source commands e e.outcomes whole × passes a (printed whole) c

module _ {C : Type 0} (passes : C → List Passed → C → Type 0) (both : (a b c : C) (xs ys : List Passed) → passes a xs b → passes b ys c → passes a (xs ++ ys) c) (set : Setting) (t : TableRows) (commands one : List Command) (e : Explored) (others : List Outcome) (a : C) where
  pub up_to_first : IsFit set.generation set.units → (first : Outcome) → one ≡ turned_script commands first.turns → e.outcomes ≡ first ∷ others
      → (b : C) → passes a (printed (outcome_text commands 1 (is_not_serial e.outcomes first e.all) first)) b → IsUpTo passes set t commands one e others a 0 2 set b
  up_to_first fit first one_is same b put = record {
    first = first;
    one_is = one_is;
    outcomes_are = same;
    number_is = refl;
    again = set_at_first set fit;
    left = λ text c tells later.
        let line = outcome_text commands 1 (is_not_serial e.outcomes first e.all) first in (
          line ++ text,
          subst (λ (l : List Outcome). TellsOutcomes (app_for set) (started (app_for set) t) set.source commands e l (line ++ text)) (sym same) (text, tells, refl),
          printed_both passes both a b c line text put later,
        );
  }

  module _ (i number : ℕ) (now : Setting) (b : C) (before : IsUpTo passes set t commands one e others a i number now b) where
    pub up_to_next : i < length others
        → (o : Outcome) → o ≡ get_or others i o → (c : C) → passes b (printed (outcome_text commands number (is_not_serial e.outcomes o e.all) o)) c
        → (its own : List Command) → its ≡ one → own ≡ turned_script commands o.turns
        → (told : List ℕ) → TellsParting (app_for now) (started (app_for now) t) now.source 1 its own told → (d : C) → passes c (printed told) d
        → (later : Setting) → IsSetAgain now later → IsUpTo passes set t commands one e others a (i + 1) (number + 1) later d
    up_to_next inside o is c put its own its_is own_is told tells d put_told later again = record {
      first = before.first;
      one_is = before.one_is;
      outcomes_are = before.outcomes_are;
      number_is = omega (arith, before.number_is);
      again = set_later set now later before.again again;
      left = λ text f tells_rest rest.
          let line = outcome_text commands number (is_not_serial e.outcomes o e.all) o in
          before.left (line ++ told ++ text) f
          (subst (λ (l : List Outcome). TellsOthers (app_for set) (started (app_for set) t) set.source commands e before.first number l (line ++ told ++ text)) (sym (drop_more others i o inside ∙ ap (λ (x : Outcome). x ∷ drop (i + 1) others) (sym is)))
          (told, text, parting_again set now before.again t its own (turned_script commands before.first.turns) (turned_script commands o.turns) (its_is ∙ before.one_is) own_is told tells, tells_rest, refl))
          (printed_both passes both b d f (line ++ told) text (printed_both passes both b c d line told put put_told) rest);
    }

    pub up_to_last : (none : (c : C) → passes c [] c) → length others ≤ i → (whole : List ℕ) × TellsOutcomes (app_for set) (started (app_for set) t) set.source commands e e.outcomes whole × passes a (printed whole) b
    up_to_last none over =
        before.left [] b (subst (λ (l : List Outcome). TellsOthers (app_for set) (started (app_for set) t) set.source commands e before.first number l []) (sym (drop_all i others over)) refl) (none b)

    -- the scripts can be performed
    module _ (names : AreScripts (app_for set) commands e.outcomes) where
      pub names_of_one : (its : List Command) → its ≡ one → IsScriptOf (app_for now) its
      names_of_one its its_is =
          names_again set now before.again its (turned_script commands before.first.turns) (its_is ∙ before.one_is)
          (All-head (λ (x : Outcome). IsScriptOf (app_for set) (turned_script commands x.turns)) before.first others (subst (AreScripts (app_for set) commands) before.outcomes_are names))

      pub names_of_other : i < length others → (o : Outcome) → o ≡ get_or others i o → (own : List Command) → own ≡ turned_script commands o.turns → IsScriptOf (app_for now) own
      names_of_other inside o is own own_is =
          names_again set now before.again own (turned_script commands o.turns) own_is
          (subst (λ (x : Outcome). IsScriptOf (app_for set) (turned_script commands x.turns)) (sym is)
          (All-get_or (λ (x : Outcome). IsScriptOf (app_for set) (turned_script commands x.turns)) others i o inside
          (All-tail (λ (x : Outcome). IsScriptOf (app_for set) (turned_script commands x.turns)) before.first others (subst (AreScripts (app_for set) commands) before.outcomes_are names))))

-- ---- all of it

module _ {C : Type 0} (passes : C → List Passed → C → Type 0) (both : (a b c : C) (xs ys : List Passed) → passes a xs b → passes b ys c → passes a (xs ++ ys) c) (set : Setting) (t : TableRows) (commands : List Command) (number : ℕ) (e : Explored) (a b c : C) where
  -- the line of the orders, and then the outcomes
  pub all_printed : (line : List ℕ) → line ≡ orders_line number e → passes a (printed line) b
      → (rest : List ℕ) × TellsOutcomes (app_for set) (started (app_for set) t) set.source commands e e.outcomes rest × passes b (printed rest) c
      → (text : List ℕ) × TellsExplored (app_for set) (started (app_for set) t) set.source commands number e text × passes a (printed text) c
  all_printed line line_is first rest = (line ++ rest.0, (rest.0, rest.1, ap (λ (l : List ℕ). l ++ rest.0) line_is), printed_both passes both a b c line rest.0 first rest.2)

-- ---- the application that came back is the same

module _ (app : Application) (g : Generated) (units : FittedUnits) (same : applied g units ≡ app) (t : TableRows) (commands : List Command) where
  pub suits_back : Suits app.generation t → Suits g t
  suits_back suits = subst (λ (a : Application). Suits a.generation t) (sym same) suits

  pub scripts_back : (outcomes : List Outcome) → AreScripts app commands outcomes → AreScripts (applied g units) commands outcomes
  scripts_back outcomes are = subst (λ (a : Application). AreScripts a commands outcomes) (sym same) are

  pub told_back : (source : List (List ℕ)) (number : ℕ) (e : Explored) (text : List ℕ) → TellsExplored (applied g units) (started (applied g units) t) source commands number e text → TellsExplored app (started app t) source commands number e text
  told_back source number e text tells = subst (λ (a : Application). TellsExplored a (started a t) source commands number e text) same tells
