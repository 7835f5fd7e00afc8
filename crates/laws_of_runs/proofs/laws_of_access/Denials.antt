-- An input is denied just where all tests before the rule are passed and the rule denies; and a start is one that it allows.
use Rattle.std.specs.Prelude.{◌≡◌, refl, Bool, true, false, ◌||◌, not, List, length, Option, Some, None, nat_lt, bytes_eq, codes, if◌then◌else◌}
use Rattle.std.proofs.Common.{sym, ap, ◌∙◌, subst}
use Rattle.std.specs.List.{list_any}
use Rattle.std.specs.FinMap.{find}
use Rattle.kd_base.specs.Text.{name_of}
use Rattle.application_types.specs.declared.kdcdef_types.entry.TacEntry.{TacEntry}
use Rattle.application_types.specs.declared.kdcdef_types.entry.UserEntry.{UserEntry}
use Rattle.application_types.specs.Generation.{Generated, user_of}
use Rattle.abstract_monitor.specs.declared.access.Denial.{Denial}
use Rattle.abstract_monitor.specs.declared.input_use.ServiceState.{ServiceState}
use Rattle.abstract_monitor.specs.declared.input_use.ServiceState.TheVariants.{NoService, Awaits, Running}
use Rattle.abstract_monitor.specs.declared.input_use.TacFault.TheVariants.{UnknownTac, NotAllowed, IsOff, Denied}
use Rattle.abstract_monitor.specs.declared.input_use.Use.{Use}
use Rattle.abstract_monitor.specs.declared.input_use.Use.TheVariants.{SignFirst, AlreadySigned, Display, Output, Again, TooLong, Next, Start, TacRefused}
use Rattle.abstract_monitor.specs.Bytes.{Bytes, bytes_cmp}
use Rattle.abstract_monitor.specs.Access.{denial_of}
use Rattle.abstract_monitor.specs.State.{Application, Session, State}
use Rattle.abstract_monitor.specs.Outcomes.{goes_first}
use Rattle.abstract_monitor.specs.Sessions.{Split, first_word, after_word, split_at, same_password, has_user, sign_by, sign_user, sign_name, sign_on_use, use_unsigned, admitted, start_by, tac_named}
use Rattle.abstract_monitor.specs.Sessions.{use_of_text, off_use, use_signed, use_by, use_under, use_of, service_state}
use Rattle.abstract_monitor.specs.Commands.{lterm_at, user_by, user_at, used, use_now, command_of}
use Rattle.laws_of_runs.specs.Access.{terminal_commands, IsForbidden, AnswersDenials}

-- ---- what the rule decides of a use

-- the use of an input for which all tests before the rule are passed is what the rule admits
abbrev Decides : (denies : Bytes → Option Denial) → (tac : Bytes) → Use → Type 0
Decides denies tac (Start t text) = (t ≡ tac) × (denies tac ≡ None)
Decides denies tac (TacRefused (Denied why)) = denies tac ≡ Some why
Decides denies tac _ = Unit {0}

-- a use that the rule decides
abbrev IsDecided : Use → Bool
IsDecided (Start t text) = true
IsDecided (TacRefused UnknownTac) = false
IsDecided (TacRefused NotAllowed) = false
IsDecided (TacRefused IsOff) = false
IsDecided (TacRefused (Denied why)) = true
IsDecided _ = false

admitted_decides : (g : Generated) (denies : Bytes → Option Denial) (tac text : Bytes) (o : Option Denial) → denies tac ≡ o → Decides denies tac (admitted g tac text o)
admitted_decides g denies tac text (Some why) e = e
admitted_decides g denies tac text None e = by (nat_lt g.limits.nb (length text))
  where
    by : (b : Bool) → Decides denies tac (if b then TooLong else Start tac text)
    by true = tt
    by false = (refl, e)

-- the tests of a TAC are passed
record IsFit (t : TacEntry) : Type 0 where
  pub dialogue : t.asynchronous ≡ false
  pub first : goes_first t.call ≡ true
  pub on : t.on ≡ true

-- a use that the rule decides is of a TAC that is fit, and is what the rule admits
record IsOfTac (g : Generated) (denies : Bytes → Option Denial) (tac text : Bytes) (o : Option TacEntry) (u : Use) : Type 0 where
  pub entry : TacEntry
  pub named : o ≡ Some entry
  pub fit : IsFit entry
  pub admits : u ≡ admitted g tac text (denies tac)

start_is : (g : Generated) (denies : Bytes → Option Denial) (tac text : Bytes) (o : Option TacEntry) → IsDecided (start_by g denies tac text o) ≡ true
    → IsOfTac g denies tac text o (start_by g denies tac text o)
start_is g denies tac text None h = absurd cc
start_is g denies tac text (Some t) h = by t.asynchronous refl (goes_first t.call) refl t.on refl h
  where
    all : Bool → Bool → Bool → Use
    all a b c = if a || not b then TacRefused NotAllowed else if not c then TacRefused IsOff else admitted g tac text (denies tac)

    by : (a : Bool) → t.asynchronous ≡ a → (b : Bool) → goes_first t.call ≡ b → (c : Bool) → t.on ≡ c → IsDecided (all a b c) ≡ true → IsOfTac g denies tac text (Some t) (all a b c)
    by true d b e c f h = absurd cc
    by false d false e c f h = absurd cc
    by false d true e false f h = absurd cc
    by false d true e true f h = record { entry = t; named = refl; fit = record { dialogue = d; first = e; on = f }; admits = refl }

fit_starts : (g : Generated) (denies : Bytes → Option Denial) (tac text : Bytes) (t : TacEntry) → IsFit t → start_by g denies tac text (Some t) ≡ admitted g tac text (denies tac)
fit_starts g denies tac text t fit =
    ap (λ a. if a || not (goes_first t.call) then TacRefused NotAllowed else if not t.on then TacRefused IsOff else admitted g tac text (denies tac)) fit.dialogue
    ∙ ap (λ b. if not b then TacRefused NotAllowed else if not t.on then TacRefused IsOff else admitted g tac text (denies tac)) fit.first
    ∙ ap (λ c. if not c then TacRefused IsOff else admitted g tac text (denies tac)) fit.on

-- ---- the commands of a terminal

-- a use behind the tests for the five words
abbrev behind : (a b c d e : Bool) → Use → Use → Use
behind a b c d e off u = if a then AlreadySigned else if b then Display else if c then Output else if d then Again else if e then off else u

text_is : (a b c d e : Bool) (off u : Use) → IsDecided off ≡ false → IsDecided (behind a b c d e off u) ≡ true → ((a || (b || (c || (d || (e || false))))) ≡ false) × (behind a b c d e off u ≡ u)
text_is true b c d e off u o h = absurd cc
text_is false true c d e off u o h = absurd cc
text_is false false true d e off u o h = absurd cc
text_is false false false true e off u o h = absurd cc
text_is false false false false true off u o h = absurd cc
text_is false false false false false off u o h = (refl, refl)

no_word : (a b c d e : Bool) (off u : Use) → (a || (b || (c || (d || (e || false))))) ≡ false → behind a b c d e off u ≡ u
no_word true b c d e off u h = absurd cc
no_word false true c d e off u h = absurd cc
no_word false false true d e off u h = absurd cc
no_word false false false true e off u h = absurd cc
no_word false false false false true off u h = absurd cc
no_word false false false false false off u h = refl

off_not : (state : ServiceState) → IsDecided (off_use state) ≡ false
off_not Running = refl
off_not Awaits = refl
off_not NoService = refl

-- ---- without a session

sign_not : (right free : Bool) (user : Bytes) → IsDecided (sign_by right free user) ≡ false
sign_not false free user = refl
sign_not true false user = refl
sign_not true true user = refl

user_not : (signed : List (Bytes × Session)) (user : Bytes) (pass : Option Bytes) (o : Option UserEntry) → IsDecided (sign_user signed user pass o) ≡ false
user_not signed user pass None = refl
user_not signed user pass (Some u) = sign_not (same_password u.pass pass) (not (list_any (has_user user) signed)) user

name_not : (g : Generated) (signed : List (Bytes × Session)) (pass name : Option Bytes) → IsDecided (sign_name g signed pass name) ≡ false
name_not g signed pass None = refl
name_not g signed pass (Some user) = user_not signed user pass (user_of g user)

unsigned_not : (g : Generated) (signed : List (Bytes × Session)) (r : Split) → IsDecided (use_unsigned g signed r) ≡ false
unsigned_not g signed r = by (bytes_eq r.word (codes "KDCSIGN"))
  where
    by : (b : Bool) → IsDecided (if b then sign_on_use g signed (split_at 44 (after_word r)) else SignFirst) ≡ false
    by true = name_not g signed (split_at 44 (after_word r)).rest (name_of (split_at 44 (after_word r)).word)
    by false = refl

-- ---- with a session

-- a use that the rule decides is of a user who is free to start a service, with a first word that is no command, and is that of this word's TAC
record IsOfWord (g : Generated) (denies : Bytes → Option Denial) (text : Bytes) (state : ServiceState) (u : Use) : Type 0 where
  pub free : state ≡ NoService
  pub no_command : list_any (bytes_eq (first_word text).word) terminal_commands ≡ false
  pub tac : IsOfTac g denies (first_word text).word (after_word (first_word text)) (tac_named g (first_word text).word) u

module _ (g : Generated) (denies : Bytes → Option Denial) (text : Bytes) where
  abbrev w : Bytes
  w = (first_word text).word

  short_not : (b : Bool) → IsDecided (if b then TooLong else Next text) ≡ false
  short_not true = refl
  short_not false = refl

  word_is : (state : ServiceState) → list_any (bytes_eq w) terminal_commands ≡ false → IsDecided (use_of_text g denies text (first_word text) state) ≡ true
      → IsOfWord g denies text state (use_of_text g denies text (first_word text) state)
  word_is Running other h = absurd cc
  word_is Awaits other h = absurd (no (short_not (nat_lt g.limits.nb (length text))) h)
    where
      no : {b : Bool} → b ≡ false → b ≡ true → ⊥
      no e f = cc
  word_is NoService other h = record { free = refl; no_command = other; tac = start_is g denies w (after_word (first_word text)) (tac_named g w) h }

  signed_is : (state : ServiceState) → IsDecided (use_signed g denies text (first_word text) state) ≡ true → IsOfWord g denies text state (use_signed g denies text (first_word text) state)
  signed_is state h =
      let u = use_of_text g denies text (first_word text) state in
      let t = text_is (bytes_eq w (codes "KDCSIGN")) (bytes_eq w (codes "KDCDISP")) (bytes_eq w (codes "KDCOUT")) (bytes_eq w (codes "KDCLAST")) (bytes_eq w (codes "KDCOFF")) (off_use state) u (off_not state) h in
      subst (IsOfWord g denies text state) (sym t.1) (word_is state t.0 (subst (λ (v : Use). IsDecided v ≡ true) t.1 h))

  signed_starts : list_any (bytes_eq w) terminal_commands ≡ false → use_signed g denies text (first_word text) NoService ≡ start_by g denies w (after_word (first_word text)) (tac_named g w)
  signed_starts other = no_word (bytes_eq w (codes "KDCSIGN")) (bytes_eq w (codes "KDCDISP")) (bytes_eq w (codes "KDCOUT")) (bytes_eq w (codes "KDCLAST")) (bytes_eq w (codes "KDCOFF")) (off_use NoService) _ other

-- ---- as the system stands

module _ (app : Application) (s : State) (pterm text : Bytes) where
  -- a use that the rule decides
  record IsRuled (u : Use) : Type 0 where
    pub session : Session
    pub signed : find bytes_cmp pterm s.signed ≡ Some session
    pub word : IsOfWord app.generation (denial_of app.generation session.user (lterm_at app pterm)) text (service_state s session.user) u

  use_is : (u : Use) → use_now app s pterm text ≡ u → IsDecided u ≡ true → IsRuled u
  unfolding use_now use_of use_under
  use_is u is h = by (find bytes_cmp pterm s.signed) refl is
    where
      by : (o : Option Session) → find bytes_cmp pterm s.signed ≡ o
          → use_by app.generation (denial_of app.generation) s.signed (service_state s (user_by o)) (lterm_at app pterm) text o ≡ u → IsRuled u
      by None e i = absurd (no (unsigned_not app.generation s.signed (first_word text)) (ap IsDecided i ∙ h))
        where
          no : {b : Bool} → b ≡ false → b ≡ true → ⊥
          no e f = cc
      by (Some v) e i = record { session = v; signed = e; word = subst (IsOfWord app.generation (denial_of app.generation v.user (lterm_at app pterm)) text (service_state s v.user)) i (signed_is app.generation (denial_of app.generation v.user (lterm_at app pterm)) text (service_state s v.user) (ap IsDecided i ∙ h)) }

  -- ---- what it comes to

  forbidden_by : (u : Use) → IsRuled u → (why : Denial) → u ≡ TacRefused (Denied why) → IsForbidden app s pterm text why
  forbidden_by u r why e = record {
    user = r.session.user;
    tac = (first_word text).word;
    asks = record {
      session = r.session;
      signed = r.signed;
      who = refl;
      free = r.word.free;
      word = refl;
      no_command = r.word.no_command;
      entry = r.word.tac.entry;
      named = r.word.tac.named;
      dialogue = r.word.tac.fit.dialogue;
      first = r.word.tac.fit.first;
      on = r.word.tac.fit.on;
    };
    denies = subst (Decides denies (first_word text).word) (sym r.word.tac.admits ∙ e)
        (admitted_decides app.generation denies (first_word text).word (after_word (first_word text)) (denies (first_word text).word) refl);
  }
    where
      denies : Bytes → Option Denial
      denies = denial_of app.generation r.session.user (lterm_at app pterm)

  -- a start is of a TAC that the rule does not deny
  pub start_allowed : (tac message : Bytes) → use_now app s pterm text ≡ Start tac message → denial_of app.generation (user_at s pterm) (lterm_at app pterm) tac ≡ None
  start_allowed tac message e = by (use_is (Start tac message) e refl)
    where
      by : IsRuled (Start tac message) → denial_of app.generation (user_at s pterm) (lterm_at app pterm) tac ≡ None
      by r =
          let denies = denial_of app.generation r.session.user (lterm_at app pterm) in
          let d = subst (Decides denies (first_word text).word) (sym r.word.tac.admits) (admitted_decides app.generation denies (first_word text).word (after_word (first_word text)) (denies (first_word text).word) refl) in
          ap (λ (o : Option Session). denial_of app.generation (user_by o) (lterm_at app pterm) tac) r.signed ∙ ap denies d.0 ∙ d.1

  denied : (why : Denial) → IsForbidden app s pterm text why → use_now app s pterm text ≡ TacRefused (Denied why)
  unfolding use_now use_of use_under
  denied why f =
      let a = f.asks in
      let g = app.generation in
      let rule = denial_of g in
      let lterm = lterm_at app pterm in
      let word = (first_word text).word in
      ap (λ (o : Option Session). use_by g rule s.signed (service_state s (user_by o)) lterm text o) a.signed
      ∙ ap (λ user. use_signed g (rule user lterm) text (first_word text) (service_state s user)) a.who
      ∙ ap (use_signed g (rule f.user lterm) text (first_word text)) a.free
      ∙ signed_starts g (rule f.user lterm) text (ap (λ tac. list_any (bytes_eq tac) terminal_commands) a.word ∙ a.no_command)
      ∙ ap (λ tac. start_by g (rule f.user lterm) tac (after_word (first_word text)) (tac_named g tac)) a.word
      ∙ ap (start_by g (rule f.user lterm) f.tac (after_word (first_word text))) a.named
      ∙ fit_starts g (rule f.user lterm) f.tac (after_word (first_word text)) a.entry (record { dialogue = a.dialogue; first = a.first; on = a.on })
      ∙ ap (admitted g f.tac (after_word (first_word text))) f.denies

  pub answers_denials : AnswersDenials app s pterm text
  unfolding command_of used
  answers_denials = record {
    forbidden = denied;
    only = λ why e. forbidden_by (TacRefused (Denied why)) (use_is (TacRefused (Denied why)) e refl) why refl;
    line = λ why e. ap (used app s pterm (lterm_at app pterm) (user_at s pterm)) e;
  }
