-- A session so far, line by line.
use Rattle.std.proofs.Common.{◌≡◌, ℕ, ◌+◌, Bool, true, List, [], ◌∷◌, ◌++◌, Some, Result, Ok, Err, refl, sym, ap, subst, ◌∙◌, append_assoc}
use Rattle.std.specs.Prelude.{flat_map}
use Rattle.std.proofs.lemmas.Grind.{flat_map-append}
use Rattle.std.proofs.lemmas.List.{append-nil}
use Rattle.abstract_monitor.specs.State.{Application}
use Rattle.abstract_monitor.specs.declared.command.Command.{Command}
use Rattle.script_read.specs.declared.fault.ScriptFault.{ScriptFault}
use Rattle.typed_lines.specs.Commands.{commands_in, refused_line}
use Rattle.monitor_core.specs.CoreValue.{CoreValue}
use Rattle.lab_turns.specs.Consoles.{Passed, Typed, printed}
use Rattle.lab_turns.specs.Heard.{Heard}
use Rattle.lab_turns.specs.Printing.{Prints}
use Rattle.lab_turns.specs.PrintingLaws.{tale_none}
use Rattle.lab_scripts.specs.declared.asking.Ask.{Ask}
use Rattle.lab_scripts.specs.declared.asking.Ask.TheVariants.{Lists, Auto, Trace, Script}
use Rattle.lab_scripts.specs.declared.asking.Listed.{Listed}
use Rattle.lab_scripts.specs.Talking.{Exchange, HearsLine, IsListed, Performs, PrintsAsked, PrintsLine, PrintsLines, Said, Session, Took, ask_of, auto_asked, exchanged, prompt, session_after, session_by, session_from, state_asked, traces_asked}

-- ---- a line of a script

module _ {C L : Type 0} (passes : C → List Passed → C → Type 0) (a b : L) (traces_of : L → Bool) (source_of : L → List (List ℕ)) (console_of : L → C) where
  -- a printer hears it
  abbrev pub prints_it : L → List Heard → L → Type 0
  prints_it x tale y = Prints passes tale (traces_of x) (source_of x) (console_of x) (traces_of y) (source_of y) (console_of y)

  module _ (c d : CoreValue) (auto : Bool) (number : ℕ) where
    -- it is refused
    pub said_refused : (both : (x y z : C) (xs ys : List Passed) → passes x xs y → passes y ys z → passes x (xs ++ ys) z) (said : Result (List Command) ScriptFault) (fault : ScriptFault) → Performs c said d (Some fault) → HearsLine prints_it c said a b
        → (text : List ℕ) → text ≡ refused_line number fault → (e : C) → passes (console_of b) (printed text) e
        → Said passes c (record { state = c.state; auto = auto; traces = traces_of a; number = number }) (source_of a) said (console_of a) d (traces_of b) (source_of b) e
    said_refused both (Ok commands) fault (names, did, none) (tale, tells, prints) text is e passed = absurd cc
    said_refused both (Err why) fault (same, refused) prints text is e passed =
        let fault_is : fault ≡ why = cc in
        let before = subst (λ (l : List ℕ). passes (console_of a) (printed l) (console_of b)) (tale_none (traces_of a) (source_of a)) prints.passed in
        record {
          text = text;
          prints = is ∙ ap (refused_line number) fault_is;
          passed = both (console_of a) (console_of b) e [] (printed text) before passed;
          application = ap (λ (v : CoreValue). v.application) same;
          state = ap (λ (v : CoreValue). v.state) same;
          traces_stays = prints.traces_stays;
          source_stays = prints.source_stays;
        }

-- ---- a line

module _ {C : Type 0} (passes : C → List Passed → C → Type 0) (c : CoreValue) (auto traces : Bool) (number : ℕ) (source : List (List ℕ)) (line : List ℕ) (a : C) where
  prints_so : (ask : Ask) (text : List ℕ) → ask_of line ≡ ask → PrintsAsked c.application source (record { state = c.state; auto = auto; traces = traces; number = number }) line text ask → PrintsLine c.application source (record { state = c.state; auto = auto; traces = traces; number = number }) line text
  unfolding PrintsLine
  prints_so ask text is prints = subst (PrintsAsked c.application source (record { state = c.state; auto = auto; traces = traces; number = number }) line text) (sym is) prints

  comes_to : (ask : Ask) → ask_of line ≡ ask → session_after c.application (record { state = c.state; auto = auto; traces = traces; number = number }) line
      ≡ record { state = state_asked c.application (record { state = c.state; auto = auto; traces = traces; number = number }) line ask; auto = auto_asked auto ask; traces = traces_asked traces ask; number = number + 1 }
  unfolding session_after
  comes_to ask is = λ i. record { state = state_asked c.application (record { state = c.state; auto = auto; traces = traces; number = number }) line (is i); auto = auto_asked auto (is i); traces = traces_asked traces (is i); number = number + 1 }

  pub took_listed : (which : Listed) (text : List ℕ) (b : C) → ask_of line ≡ Lists which → IsListed c.state text which → passes a (printed text) b → Took passes c (record { state = c.state; auto = auto; traces = traces; number = number }) source line a c auto traces source b
  took_listed which text b is lists passed = record {
    text = text;
    prints = prints_so (Lists which) text is lists;
    passed = passed;
    application = refl;
    session = comes_to (Lists which) is;
    source_stays = refl;
  }

  pub took_auto : (on : Bool) → ask_of line ≡ Auto on → passes a [] a → Took passes c (record { state = c.state; auto = auto; traces = traces; number = number }) source line a c on traces source a
  took_auto on is passed = record {
    text = [];
    prints = prints_so (Auto on) [] is refl;
    passed = passed;
    application = refl;
    session = comes_to (Auto on) is;
    source_stays = refl;
  }

  pub took_trace : (on : Bool) → ask_of line ≡ Trace on → passes a [] a → Took passes c (record { state = c.state; auto = auto; traces = traces; number = number }) source line a c auto on source a
  took_trace on is passed = record {
    text = [];
    prints = prints_so (Trace on) [] is refl;
    passed = passed;
    application = refl;
    session = comes_to (Trace on) is;
    source_stays = refl;
  }

  pub took_script : (d : CoreValue) (traces' : Bool) (source' : List (List ℕ)) (b : C) → ask_of line ≡ Script → Said passes c (record { state = c.state; auto = auto; traces = traces; number = number }) source (commands_in c.application.generation auto line) a d traces' source' b
      → Took passes c (record { state = c.state; auto = auto; traces = traces; number = number }) source line a d auto traces' source' b
  took_script d traces' source' b is said = record {
    text = said.text;
    prints = prints_so Script said.text is said.prints;
    passed = said.passed;
    application = said.application;
    session = comes_to Script is ∙ (λ i. record { state = sym said.state i; auto = auto; traces = sym said.traces_stays i; number = number + 1 });
    source_stays = said.source_stays;
  }

-- ---- all lines

pub record TalksSoFar {C : Type 0} (passes : C → List Passed → C → Type 0) (prompted : Bool) (c : CoreValue) (traces : Bool) (source : List (List ℕ)) (a : C) (d : CoreValue) (auto traces' : Bool) (number : ℕ) (source' : List (List ℕ)) (b : C) : Type 0 where
  pub exchanges : List Exchange
  pub passed : passes a (flat_map (exchanged prompted) exchanges) b
  pub prints : PrintsLines c.application source (session_from c.state traces) exchanges
  pub application : d.application ≡ c.application
  pub session : session_by c.application (session_from c.state traces) exchanges ≡ record { state = d.state; auto = auto; traces = traces'; number = number }
  pub source_stays : source' ≡ source

session_more : (app : Application) (v : Session) (xs : List Exchange) (x : Exchange) → session_by app v (xs ++ x ∷ []) ≡ session_after app (session_by app v xs) x.line
unfolding session_by
session_more app v [] x = refl
session_more app v (y ∷ xs) x = session_more app (session_after app v y.line) xs x

prints_more : (app : Application) (source : List (List ℕ)) (v : Session) (xs : List Exchange) (x : Exchange) → PrintsLines app source v xs → PrintsLine app source (session_by app v xs) x.line x.text → PrintsLines app source v (xs ++ x ∷ [])
unfolding session_by PrintsLines
prints_more app source v [] x none prints = (prints, tt)
prints_more app source v (y ∷ xs) x (first, later) prints = (first, prints_more app source (session_after app v y.line) xs x later prints)

module _ {C : Type 0} (passes : C → List Passed → C → Type 0) (prompted : Bool) (c : CoreValue) (traces : Bool) (source : List (List ℕ)) (a : C) where
  pub talks_none : passes a [] a → TalksSoFar passes prompted c traces source a c true traces 1 source a
  unfolding session_by PrintsLines
  talks_none none = record {
    exchanges = [];
    passed = none;
    prints = tt;
    application = refl;
    session = refl;
    source_stays = refl;
  }

  module _ (both : (x y z : C) (xs ys : List Passed) → passes x xs y → passes y ys z → passes x (xs ++ ys) z) (d : CoreValue) (auto traces' : Bool) (number : ℕ) (source' : List (List ℕ)) (b : C) (so_far : TalksSoFar passes prompted c traces source a d auto traces' number source' b) (prompted' : Bool) (still : prompted' ≡ prompted) (next : C) where
    pub talks_more : (line : List ℕ) → passes b (prompt prompted' ++ Typed line ∷ []) next → (e : CoreValue) (auto' traces'' : Bool) (source'' : List (List ℕ)) (z : C)
        → Took passes d (record { state = d.state; auto = auto; traces = traces'; number = number }) source' line next e auto' traces'' source'' z → TalksSoFar passes prompted c traces source a e auto' traces'' (number + 1) source'' z
    talks_more line typed e auto' traces'' source'' z took =
        let x : Exchange = record { line = line; text = took.text } in
        let before = flat_map (exchanged prompted) so_far.exchanges in
        let asked = prompt prompted ++ Typed line ∷ [] in
        let typed_so = subst (λ (p : Bool). passes b (prompt p ++ Typed line ∷ []) next) still typed in
        let all : before ++ (asked ++ printed took.text) ≡ flat_map (exchanged prompted) (so_far.exchanges ++ x ∷ []) =
        ap (λ (l : List Passed). before ++ l) (append_assoc (prompt prompted) (Typed line ∷ []) (printed took.text) ∙ sym (append-nil (exchanged prompted x)))
        ∙ sym (flat_map-append (exchanged prompted) so_far.exchanges (x ∷ [])) in
        record {
          exchanges = so_far.exchanges ++ x ∷ [];
          passed = subst (λ (l : List Passed). passes a l z) all (both a b z before (asked ++ printed took.text) so_far.passed (both b next z asked (printed took.text) typed_so took.passed));
          prints =
              prints_more c.application source (session_from c.state traces) so_far.exchanges x so_far.prints
              (subst (λ (p : Application × (List (List ℕ)) × Session). PrintsLine p.0 p.1 p.2 line took.text) (λ i. (so_far.application i, so_far.source_stays i, sym so_far.session i)) took.prints);
          application = took.application ∙ so_far.application;
          session =
              session_more c.application (session_from c.state traces) so_far.exchanges x
              ∙ (λ i. session_after (sym so_far.application i) (so_far.session i) line)
              ∙ took.session;
          source_stays = took.source_stays ∙ so_far.source_stays;
        }
