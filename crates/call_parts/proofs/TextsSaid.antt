-- What the texts of a call say, where one longer than the limit is cut off.
use Rattle.std.proofs.Common.{◌≡◌, ◌≢◌, ◌⊎◌, inl, inr, ⊎_elim, ℕ, ◌<◌, ◌≤◌, Bool, true, false, List, length, Option, Some, None, Result, Ok, Err, refl, sym, ap, subst, ◌∙◌, arith}
use Rattle.std.specs.Prelude.{nat_lt, IsSomeAnd, IsErrOf, IsErrAnd, IfErr}
use Rattle.std.proofs.lemmas.List.{take_all, length-take}
use Rattle.std.proofs.lemmas.Bool.Decides.{nat_tests}
use Rattle.kd_base.specs.ToolsLaws.{err_is, ok_is}
use Rattle.laws_of_states.specs.Suits.{Suits}
use Rattle.kd_device.specs.Room.{RoomState, text_of}
use Rattle.kd_device.specs.declared.error.DeviceError.{DeviceError}
use Rattle.kd_device.specs.declared.error.DeviceError.TheVariants as room
use Rattle.texts.specs.declared.kdcdef_lex.fault.LexFault.TheVariants as lex
use Rattle.application_types.specs.Generation.{Generated}
use Rattle.abstract_monitor.specs.declared.command.Command.{Command}
use Rattle.application_read.specs.declared.definition_fault.DefinitionFault.{DefinitionFault}
use Rattle.application_read.specs.declared.definition_fault.DefinitionFault.TheVariants as definition
use Rattle.application_read.specs.Definition.{Generates, HasFault}
use Rattle.application_types.specs.UnitText.{UnitText}
use Rattle.unit_read.specs.declared.fault.UnitFault.{UnitFault}
use Rattle.unit_read.specs.Spelling.{SpellsUnits}
use Rattle.unit_read.specs.Faults.{HasTextFault}
use Rattle.application_read.specs.declared.application.Application.{Application as Made}
use Rattle.application_read.specs.declared.fault.ApplicationFault.{ApplicationFault}
use Rattle.application_read.specs.declared.fault.ApplicationFault.TheVariants as application
use Rattle.application_read.specs.Texts.{TextsGenerate, TextsHaveFault, Gives}
use Rattle.device_acts.specs.Fingerprints.{fingerprint as print_of}
use Rattle.script_read.specs.declared.fault.ScriptFault.{ScriptFault}
use Rattle.script_read.specs.declared.fault.ScriptFault.TheVariants as fault
use Rattle.script_read.specs.Commands.{script_in}
use Rattle.audit_trail.specs.declared.entry.Trail.{Trail as Kept}
use Rattle.audit_trail.specs.declared.fault.TrailFault.{TrailFault}
use Rattle.audit_trail.specs.declared.fault.TrailFault.TheVariants as trail
use Rattle.audit_trail.specs.Laws.{NoOtherFaults}
use Rattle.audit_trail.specs.Places.{trail_in}
use Rattle.refusals.specs.declared.error.Refusal.{Refusal}
use Rattle.refusals.specs.declared.error.Refusal.TheVariants.{Application, Double, Script, Trail as TrailRefused}
use Rattle.refusals.specs.declared.error.TextError.{TextError}
use Rattle.refusals.specs.declared.error.TextError.TheVariants as error
use Rattle.call_parts.specs.declared.words.Word.{Word}
use Rattle.call_parts.specs.declared.words.Word.TheVariants.{Gen, Run, Show, Update, Trail, Audit, Make}
use Rattle.refusals.specs.Causes.{of_room, of_application}
use Rattle.call_parts.specs.Words.{IsOfBase, audits, definition_name, units_name, script_name, trail_name}
use Rattle.refusals.specs.Texts.{shown_of}
use Rattle.call_parts.specs.Asking.{IsLong, AreAlike, Reading, SaysTrail, IsOfOthers, StartsElsewhere, HasTrailFault, ThirdAsks, ThirdRefuses, AskFor, AskForTwo, AreThere, TextIs, ScriptIs, WereRead, ReadsFor, ReadsForTwo}
use Rattle.std.proofs.lemmas.Option.{same_Some}

-- ---- texts longer than the limit

too_long : (n : ℕ) → 16777216 < n → nat_lt 16777216 n ≡ true
too_long n h = grind (arith, nat_tests)

-- all of a text is shown, or the text and what is shown of it are too long
pub shown_alike : (text : List ℕ) → AreAlike (shown_of text) text
shown_alike text = ⊎_elim (λ le. inl (take_all 16777217 text le)) (λ lt. inr (omega (arith, length-take 16777217 text, lt), omega (arith, lt))) (short_or_long (length text))
  where
    short_or_long : (n : ℕ) → (n ≤ 16777217) ⊎ (16777217 < n)
    short_or_long n = grind (arith, nat_tests)

alike_back : (d e : List ℕ) → AreAlike d e → AreAlike e d
alike_back d e (inl same) = inl (sym same)
alike_back d e (inr long) = inr (long.1, long.0)

-- ---- alike texts say the same

long_script : (g : Generated) (text : List ℕ) → IsLong text → script_in g text ≡ Err fault.TooLong
long_script g text h = let e : nat_lt 16777216 (length text) ≡ true = too_long (length text) h in rw e refl

alike_script : (g : Generated) (s t : List ℕ) → AreAlike s t → script_in g s ≡ script_in g t
alike_script g s t (inl same) = ap (script_in g) same
alike_script g s t (inr long) = long_script g s long.0 ∙ sym (long_script g t long.1)

long_trail : (text : List ℕ) → IsLong text → trail_in text ≡ Err trail.TooLong
long_trail text h = let e : nat_lt 16777216 (length text) ≡ true = too_long (length text) h in rw e refl

alike_trail : (s t : List ℕ) → AreAlike s t → trail_in t ≡ trail_in s
alike_trail s t (inl same) = ap trail_in (sym same)
alike_trail s t (inr long) = long_trail t long.1 ∙ sym (long_trail s long.0)

module _ (s t : List ℕ) (alike : AreAlike s t) where
  alike_asks : (audit : Bool) (a : Made) (p : List ℕ) (commands : List Command) (kept : Option Kept) → ThirdAsks audit a p s commands kept → ThirdAsks audit a p t commands kept
  alike_asks false a p commands kept asks = (sym (alike_script a.generation s t alike) ∙ asks.0, asks.1)
  alike_asks true a p commands kept asks = let there = asks.1 in (asks.0, (there.0, there.1, record { says = alike_trail s t alike ∙ there.2.says; own_texts = there.2.own_texts; suits = there.2.suits }))

  alike_trail_fault : (a : Made) (p q : List ℕ) → p ≡ q → (f : TrailFault) → HasTrailFault a p s f → HasTrailFault a q t f
  alike_trail_fault a p q same (trail.BadLine n) h = alike_trail s t alike ∙ h
  alike_trail_fault a p q same trail.TooLong h = alike_trail s t alike ∙ h
  alike_trail_fault a p q same (trail.OtherGeneration n) h = let others = h.1 in (h.0, (others.0, alike_trail s t alike ∙ others.1, λ is. others.2 (is ∙ sym same)))
  alike_trail_fault a p q same (trail.NotSuited n) h = let start = h.1 in (h.0, (start.0, alike_trail s t alike ∙ start.1, start.2 ∙ same, start.3))
  alike_trail_fault a p q same trail.Memory h = absurd h

  alike_refuses : (audit : Bool) (a : Made) (p q : List ℕ) → p ≡ q → (why : Refusal) → ThirdRefuses audit a p s why → ThirdRefuses audit a q t why
  alike_refuses audit a p q same (Application f) h = absurd h
  alike_refuses audit a p q same (Double line) h = absurd h
  alike_refuses false a p q same (Script f) h = sym (alike_script a.generation s t alike) ∙ h
  alike_refuses true a p q same (Script f) h = absurd h
  alike_refuses false a p q same (TrailRefused f) h = absurd h
  alike_refuses true a p q same (TrailRefused f) h = alike_trail_fault a p q same f h

long_generates : (text : List ℕ) (g : Generated) → IsLong text → Generates text g → ⊥
long_generates text g long h = absurd (omega (arith, long, h.1.1.0))

long_fault : (text : List ℕ) (f : DefinitionFault) → IsLong text → HasFault text f → f ≡ definition.Lex lex.TextTooLong
long_fault text (definition.Lex (lex.NotAscii n)) long h = absurd (omega (arith, long, h.0))
long_fault text (definition.Lex (lex.OpenQuote n)) long h = absurd (omega (arith, long, h.0))
long_fault text (definition.Lex (lex.OpenParen n)) long h = absurd (omega (arith, long, h.0))
long_fault text (definition.Lex (lex.DanglingContinuation n)) long h = absurd (omega (arith, long, h.0))
long_fault text (definition.Lex (lex.BadOperand n)) long h = absurd (omega (arith, long, h.0))
long_fault text (definition.Lex lex.TextTooLong) long h = refl
long_fault text (definition.Lex lex.Memory) long h = absurd (omega (arith, long, h.0))
long_fault text (definition.Read e) long h = absurd (omega (arith, long, h.1.0))
long_fault text (definition.Check e) long h = absurd (omega (arith, long, h.1.1.0))
long_fault text definition.Memory long h = absurd h

alike_generate : (d e : List ℕ) (g : Generated) → AreAlike d e → Generates d g → Generates e g
alike_generate d e g (inl same) h = subst (λ (l : List ℕ). Generates l g) same h
alike_generate d e g (inr long) h = absurd (long_generates d g long.0 h)

alike_fault : (d e : List ℕ) (f : DefinitionFault) → AreAlike d e → HasFault d f → HasFault e f
alike_fault d e f (inl same) h = subst (λ (l : List ℕ). HasFault l f) same h
alike_fault d e f (inr long) h = subst (λ (k : DefinitionFault). HasFault e k) (sym (long_fault d f long.0 h)) long.1

alike_units : (u v : List ℕ) (us : List UnitText) → AreAlike u v → SpellsUnits u us → SpellsUnits v us
alike_units u v us (inl same) h = subst (λ (l : List ℕ). SpellsUnits l us) same h
alike_units u v us (inr long) h = absurd (omega (arith, long.0, h.0))

alike_units_fault : (u v : List ℕ) (f : UnitFault) → AreAlike u v → HasTextFault u f → HasTextFault v f
alike_units_fault u v f (inl same) h = subst (λ (l : List ℕ). HasTextFault l f) same h
alike_units_fault u v f (inr long) (inl h) = inl (long.1, h.1)
alike_units_fault u v f (inr long) (inr h) = absurd (omega (arith, long.0, h.0))

module _ (d e u v : List ℕ) (alike : AreAlike d e) (alike_too : AreAlike u v) where
  alike_made : (a : Made) → TextsGenerate d u a → TextsGenerate e v a
  alike_made a h = (alike_generate d e a.generation alike h.0, (h.1.0, alike_units u v h.1.0 alike_too h.1.1, h.1.2))

  alike_refused : (f : ApplicationFault) → TextsHaveFault d u f → TextsHaveFault e v f
  alike_refused (application.Definition f) h = alike_fault d e f alike h
  alike_refused (application.Units f) h = ((h.0.0, alike_generate d e h.0.0 alike h.0.1), alike_units_fault u v f alike_too h.1)
  alike_refused (application.Fit f) h = (h.0, h.1, alike_generate d e h.0 alike h.2, alike_units u v h.1 alike_too h.3, h.4)
  alike_refused application.Memory h = absurd h

  -- texts that make an application are not too long, so the alike ones are the same
  alike_print : (a : Made) → TextsGenerate d u a → print_of e v ≡ print_of d u
  alike_print a h = λ i. print_of (sym (same d e alike (λ long. long_generates d a.generation long h.0)) i) (sym (same u v alike_too (λ long. absurd (omega (arith, long, h.1.1.0)))) i)
    where
      same : (s t : List ℕ) → AreAlike s t → (IsLong s → ⊥) → s ≡ t
      same s t (inl is) short = is
      same s t (inr long) short = absurd (short long.0)

  ask_alike : (word : Word) (s t : List ℕ) → AreAlike s t → (said : Reading) → AskFor word d u s said → AskFor word e v t said
  ask_alike word s t same (Ok errand) h =
      (h.0, alike_made errand.application h.1, h.2, h.3 ∙ sym (alike_print errand.application h.1), alike_asks s t same (audits word) errand.application errand.fingerprint errand.commands errand.trail h.4)
  ask_alike word s t same (Err (Application f)) h = alike_refused f h
  ask_alike word s t same (Err (Double line)) h = (h.0, alike_made h.0 h.1, h.2)
  ask_alike word s t same (Err (Script f)) h = (h.0, alike_made h.0 h.1, h.2, alike_refuses s t same (audits word) h.0 (print_of d u) (print_of e v) (sym (alike_print h.0 h.1)) (Script f) h.3)
  ask_alike word s t same (Err (TrailRefused f)) h = (h.0, alike_made h.0 h.1, h.2, alike_refuses s t same (audits word) h.0 (print_of d u) (print_of e v) (sym (alike_print h.0 h.1)) (TrailRefused f) h.3)

  two_alike : (word : Word) (s t : List ℕ) → AreAlike s t → (said : Reading) → AskForTwo word d u s said → AskForTwo word e v t said
  two_alike word s t same (Ok errand) h =
      (h.0, alike_made errand.application h.1, h.2, h.3 ∙ sym (alike_print errand.application h.1), alike_asks s t same (audits word) errand.application errand.fingerprint errand.commands errand.trail h.4)
  two_alike word s t same (Err why) h = (h.0, alike_made h.0 h.1, h.2, alike_refuses s t same (audits word) h.0 (print_of d u) (print_of e v) (sym (alike_print h.0 h.1)) why h.3)

-- ---- texts in a room

pub some_and : {X : Type 0} (o : Option X) (P : X → Type 0) → IsSomeAnd o P → (x : X) × (o ≡ Some x) × P x
some_and None P h = absurd h
some_and (Some x) P h = (x, refl, h)

-- the script of a word, in a room with the same texts
pub script_there : (word : Word) (base : List ℕ) (r k : RoomState) (s : List ℕ) → k.texts ≡ r.texts → ScriptIs word base k s → ScriptIs word base r s
script_there Gen base r k s same h = h
script_there Show base r k s same h = h
script_there Update base r k s same h = h
script_there (Make n) base r k s same h = h
script_there Run base r k s same h = subst (λ (texts : List (List ℕ × List ℕ)). text_of (script_name base) texts ≡ Some s) same h
script_there Trail base r k s same h = subst (λ (texts : List (List ℕ × List ℕ)). text_of (script_name base) texts ≡ Some s) same h
script_there Audit base r k s same h = subst (λ (texts : List (List ℕ × List ℕ)). text_of (trail_name base) texts ≡ Some s) same h

-- a word that has a script
pub script_of : (word : Word) → (word ≡ Run) ⊎ (word ≡ Trail) → (base : List ℕ) (r : RoomState) (s : List ℕ) → text_of (script_name base) r.texts ≡ Some s → ScriptIs word base r s
script_of word (inl is) base r s h = subst (λ (w : Word). ScriptIs w base r s) (sym is) h
script_of word (inr is) base r s h = subst (λ (w : Word). ScriptIs w base r s) (sym is) h

one_script : (word : Word) (base : List ℕ) (r : RoomState) (s t : List ℕ) → ScriptIs word base r s → ScriptIs word base r t → s ≡ t
one_script Gen base r s t h k = h ∙ sym k
one_script Run base r s t h k = same_Some s t (sym h ∙ k)
one_script Show base r s t h k = h ∙ sym k
one_script Update base r s t h k = h ∙ sym k
one_script Trail base r s t h k = same_Some s t (sym h ∙ k)
one_script Audit base r s t h k = same_Some s t (sym h ∙ k)
one_script (Make n) base r s t h k = h ∙ sym k

-- the other texts of a word, in the room
text_is : (word : Word) → IsOfBase word → (r : RoomState) (name : List ℕ) (made : ℕ → List ℕ) (s : List ℕ) → text_of name r.texts ≡ Some s → TextIs word r name made s
text_is Gen over r name made s h = h
text_is Run over r name made s h = h
text_is Show over r name made s h = h
text_is Update over r name made s h = h
text_is Trail over r name made s h = h
text_is Audit over r name made s h = h
text_is (Make n) over r name made s h = absurd over

one_text : (word : Word) (r : RoomState) (name : List ℕ) (made : ℕ → List ℕ) (s t : List ℕ) → TextIs word r name made s → TextIs word r name made t → s ≡ t
one_text Gen r name made s t h k = same_Some s t (sym h ∙ k)
one_text Run r name made s t h k = same_Some s t (sym h ∙ k)
one_text Show r name made s t h k = same_Some s t (sym h ∙ k)
one_text Update r name made s t h k = same_Some s t (sym h ∙ k)
one_text Trail r name made s t h k = same_Some s t (sym h ∙ k)
one_text Audit r name made s t h k = same_Some s t (sym h ∙ k)
one_text (Make n) r name made s t h k = h ∙ sym k

-- three reads after one another: k is the room after the first, l the one after the second
pub were_read : (word : Word) → IsOfBase word → (base : List ℕ) (r k l : RoomState) (d u s : List ℕ) → k.texts ≡ r.texts → l.texts ≡ k.texts → IsSomeAnd (text_of (definition_name base) r.texts) (λ whole. d ≡ shown_of whole) → IsSomeAnd (text_of (units_name base) k.texts) (λ whole. u ≡ shown_of whole)
    → (whole : List ℕ) × ScriptIs word base l whole × (s ≡ shown_of whole) → WereRead word base r d u s
were_read word over base r k l d u s same same_too definition units text =
    let whole = some_and (text_of (definition_name base) r.texts) (λ whole. d ≡ shown_of whole) definition in
    let whole_too = some_and (text_of (units_name base) k.texts) (λ whole. u ≡ shown_of whole) units in
    record {
      definition = whole.0;
      units = whole_too.0;
      text = text.0;
      there = record {
        definition_is = text_is word over r (definition_name base) _ whole.0 whole.1;
        units_is = text_is word over r (units_name base) _ whole_too.0 (subst (λ (texts : List (List ℕ × List ℕ)). text_of (units_name base) texts ≡ Some whole_too.0) same whole_too.1);
        script_is = script_there word base r l text.0 (same_too ∙ same) text.1;
      };
      definition_is = read_alike d whole.0 whole.2;
      units_are = read_alike u whole_too.0 whole_too.2;
      text_is = read_alike s text.0 text.2;
    }
  where
    read_alike : (read whole : List ℕ) → read ≡ shown_of whole → AreAlike read whole
    read_alike read whole is = subst (λ (l : List ℕ). AreAlike l whole) (sym is) (shown_alike whole)

-- the same bytes were read
pub read_same : (word : Word) (base : List ℕ) (r : RoomState) (d e u v s t : List ℕ) → e ≡ d → v ≡ u → t ≡ s → WereRead word base r d u s → WereRead word base r e v t
read_same word base r d e u v s t definition units text read = record {
  definition = read.definition;
  units = read.units;
  text = read.text;
  there = read.there;
  definition_is = subst (λ (l : List ℕ). AreAlike l read.definition) (sym definition) read.definition_is;
  units_are = subst (λ (l : List ℕ). AreAlike l read.units) (sym units) read.units_are;
  text_is = subst (λ (l : List ℕ). AreAlike l read.text) (sym text) read.text_is;
}

module _ (word : Word) (base : List ℕ) (r : RoomState) (d u s : List ℕ) (read : WereRead word base r d u s) where
  -- what is said of the texts that were read is said of those that are there
  pub reads_for : (said : Reading) → AskFor word d u s said → ReadsFor word base r said
  reads_for said h = record {
    definition = read.definition;
    units = read.units;
    text = read.text;
    there = read.there;
    says = ask_alike d read.definition u read.units read.definition_is read.units_are word s read.text read.text_is said h;
  }

  -- what is said of the texts that are there is said of those that were read
  asked_there : (P : (d u s : List ℕ) → Type 0) → ((d e u v s t : List ℕ) → AreAlike d e → AreAlike u v → AreAlike s t → P d u s → P e v t) → (e v t : List ℕ) → AreThere word base r e v t → P e v t → P d u s
  asked_there P alike e v t there h =
      let definition = one_text word r (definition_name base) _ e read.definition there.definition_is read.there.definition_is in
      let units = one_text word r (units_name base) _ v read.units there.units_is read.there.units_is in
      let text = one_script word base r t read.text there.script_is read.there.script_is in
      alike e d v u t s (alike_back d e (subst (AreAlike d) (sym definition) read.definition_is)) (alike_back u v (subst (AreAlike u) (sym units) read.units_are)) (alike_back s t (subst (AreAlike s) (sym text) read.text_is)) h

  pub asked_for : (said : Reading) → ReadsFor word base r said → AskFor word d u s said
  asked_for said h =
      asked_there (λ d u s. AskFor word d u s said) (λ d e u v s t definition units text. ask_alike d e u v definition units word s t text said) h.definition h.units h.text h.there h.says

  -- the same over two copies
  pub reads_for_two : IsOfBase word → (said : Reading) → AskForTwo word d u s said → ReadsForTwo word base r said
  reads_for_two over said h = record {
    of_base = over;
    definition = read.definition;
    units = read.units;
    text = read.text;
    there = read.there;
    says = two_alike d read.definition u read.units read.definition_is read.units_are word s read.text read.text_is said h;
  }

  pub asked_for_two : (said : Reading) → ReadsForTwo word base r said → AskForTwo word d u s said
  asked_for_two said h =
      asked_there (λ d u s. AskForTwo word d u s said) (λ d e u v s t definition units text. two_alike d e u v definition units word s t text said) h.definition h.units h.text h.there h.says

-- ---- what was handed on

-- a fault of an application that was handed on
pub application_is : (T : Type 0) (r : Result T TextError) (e : ApplicationFault) (why : Refusal) → IsErrAnd r (λ x. x ≡ of_application e) → IsErrOf r (error.Refused why) → (e ≢ application.Memory) × (Application e ≡ why)
application_is T (Ok v) e why gives is = absurd gives
application_is T (Err x) (application.Definition f) why gives is = (λ e. cc, cc)
application_is T (Err x) (application.Units f) why gives is = (λ e. cc, cc)
application_is T (Err x) (application.Fit f) why gives is = (λ e. cc, cc)
application_is T (Err x) application.Memory why gives is = absurd (let h : error.Memory ≡ error.Refused why = cc in cc)

-- a fault that is not want of memory is the answer
refused_as : (e : ApplicationFault) → e ≢ application.Memory → (wanted : Result Made ApplicationFault) → Gives (Err e) wanted → wanted ≡ Err e
refused_as (application.Definition f) some wanted h = h
refused_as (application.Units f) some wanted h = h
refused_as (application.Fit f) some wanted h = h
refused_as application.Memory some wanted h = absurd (some refl)

abbrev pub said_refused : Refusal → Reading
said_refused why = Err why

-- ---- the definition or the units are refused

module _ (word : Word) (d u s : List ℕ) (e : ApplicationFault) (some : e ≢ application.Memory) (only : (a : Made) → TextsGenerate d u a → Gives (Err e) (Ok a)) (refused : (f : ApplicationFault) → TextsHaveFault d u f → Gives (Err e) (Err f)) where
  pub not_generated : (a : Made) → TextsGenerate d u a → ⊥
  not_generated a h = let no = refused_as e some (Ok a) (only a h) in cc

  pub application_one : (said : Reading) → AskFor word d u s said → said ≡ Err (Application e)
  application_one (Ok errand) h = absurd (not_generated errand.application h.1)
  application_one (Err (Application f)) h =
      let is : f ≡ e = err_is Made f e (refused_as e some (Err f) (refused f h)) in
      ap (λ (k : ApplicationFault). said_refused (Application k)) is
  application_one (Err (Double line)) h = absurd (not_generated h.0 h.1)
  application_one (Err (Script f)) h = absurd (not_generated h.0 h.1)
  application_one (Err (TrailRefused f)) h = absurd (not_generated h.0 h.1)

-- ---- they make an application

-- a trail is refused as a text, or for its fingerprint, or for its tables at the start
abbrev IsOneFault : Made → (fingerprint text : List ℕ) → TrailFault → Type 0
IsOneFault a fingerprint text f = (trail_in text ≡ Err f) ⊎ (IsOfOthers fingerprint text × (trail.OtherGeneration 1 ≡ f)) ⊎ (StartsElsewhere a fingerprint text × (trail.NotSuited 2 ≡ f))

module _ (a : Made) (print s : List ℕ) where
  one_fault : (f : TrailFault) → HasTrailFault a print s f → IsOneFault a print s f
  one_fault (trail.BadLine n) h = inl h
  one_fault trail.TooLong h = inl h
  one_fault (trail.OtherGeneration n) h = inr (inl (h.1, ap (λ (k : ℕ). trail.OtherGeneration k) (sym h.0)))
  one_fault (trail.NotSuited n) h = inr (inr (h.1, ap (λ (k : ℕ). trail.NotSuited k) (sym h.0)))
  one_fault trail.Memory h = absurd h

  same_trail : (t v : Kept) → trail_in s ≡ Ok t → trail_in s ≡ Ok v → t ≡ v
  same_trail t v h k = ok_is TrailFault t v (sym h ∙ k)

  no_trail : (f : TrailFault) (t : Kept) → trail_in s ≡ Err f → trail_in s ≡ Ok t → ⊥
  no_trail f t h k = let no = sym h ∙ k in cc

  others_or_own : (o : IsOfOthers print s) (t : Kept) → trail_in s ≡ Ok t → t.fingerprint ≡ print → ⊥
  others_or_own o t says own = o.2 (ap (λ (k : Kept). k.fingerprint) (same_trail o.0 t o.1 says) ∙ own)

  faults_once : (f g : TrailFault) → IsOneFault a print s f → IsOneFault a print s g → f ≡ g
  faults_once f g (inl h) (inl k) = err_is Kept f g (sym h ∙ k)
  faults_once f g (inl h) (inr (inl k)) = absurd (no_trail f k.0.0 h k.0.1)
  faults_once f g (inl h) (inr (inr k)) = absurd (no_trail f k.0.0 h k.0.1)
  faults_once f g (inr (inl h)) (inl k) = absurd (no_trail g h.0.0 k h.0.1)
  faults_once f g (inr (inl h)) (inr (inl k)) = sym h.1 ∙ k.1
  faults_once f g (inr (inl h)) (inr (inr k)) = absurd (others_or_own h.0 k.0.0 k.0.1 k.0.2)
  faults_once f g (inr (inr h)) (inl k) = absurd (no_trail g h.0.0 k h.0.1)
  faults_once f g (inr (inr h)) (inr (inl k)) = absurd (others_or_own k.0 h.0.0 h.0.1 h.0.2)
  faults_once f g (inr (inr h)) (inr (inr k)) = sym h.1 ∙ k.1

  says_or_fault : (t : Kept) (f : TrailFault) → SaysTrail a print s t → IsOneFault a print s f → ⊥
  says_or_fault t f h (inl k) = no_trail f t k h.says
  says_or_fault t f h (inr (inl k)) = others_or_own k.0 t h.says h.own_texts
  says_or_fault t f h (inr (inr k)) = k.0.3 (subst (λ (v : Kept). Suits a.generation v.start) (same_trail t k.0.0 h.says k.0.1) h.suits)

  -- the third text says one thing
  pub refuses_once : (audit : Bool) (r q : Refusal) → ThirdRefuses audit a print s r → ThirdRefuses audit a print s q → r ≡ q
  refuses_once audit (Application f) q h k = absurd h
  refuses_once audit r (Application g) h k = absurd k
  refuses_once audit (Double line) q h k = absurd h
  refuses_once audit r (Double line) h k = absurd k
  refuses_once false (Script f) (Script g) h k = ap (λ (x : ScriptFault). Script x) (err_is (List Command) f g (sym h ∙ k))
  refuses_once true (Script f) q h k = absurd h
  refuses_once true r (Script g) h k = absurd k
  refuses_once false (TrailRefused f) q h k = absurd h
  refuses_once false r (TrailRefused g) h k = absurd k
  refuses_once true (TrailRefused f) (TrailRefused g) h k = ap (λ (x : TrailFault). TrailRefused x) (faults_once f g (one_fault f h) (one_fault g k))

  pub asks_or_refuses : (audit : Bool) (commands : List Command) (kept : Option Kept) (r : Refusal) → ThirdAsks audit a print s commands kept → ThirdRefuses audit a print s r → ⊥
  asks_or_refuses audit commands kept (Application f) h k = k
  asks_or_refuses audit commands kept (Double line) h k = k
  asks_or_refuses false commands kept (Script f) h k = let no = sym k ∙ h.0 in cc
  asks_or_refuses true commands kept (Script f) h k = k
  asks_or_refuses false commands kept (TrailRefused f) h k = k
  asks_or_refuses true commands kept (TrailRefused f) h k = let there = h.1 in says_or_fault there.0 f there.2 (one_fault f k)

  pub asks_once : (audit : Bool) (c d : List Command) (t v : Option Kept) → ThirdAsks audit a print s c t → ThirdAsks audit a print s d v → (c ≡ d) × (t ≡ v)
  asks_once false c d t v h k = (ok_is ScriptFault c d (sym h.0 ∙ k.0), h.1 ∙ sym k.1)
  asks_once true c d t v h k =
      let first = h.1 in
      let second = k.1 in
      let same : first.0 ≡ second.0 = same_trail first.0 second.0 first.2.says second.2.says in
      (h.0 ∙ sym k.0, first.1 ∙ ap (λ (x : Kept). Some x) same ∙ sym second.1)

module _ (word : Word) (d u s : List ℕ) (made : Made) (only : (a : Made) → TextsGenerate d u a → Gives (Ok made) (Ok a)) (refused : (f : ApplicationFault) → TextsHaveFault d u f → Gives (Ok made) (Err f)) where
  pub not_refused : (f : ApplicationFault) → TextsHaveFault d u f → ⊥
  not_refused f h = let no = refused f h in cc

  pub made_is : (a : Made) → TextsGenerate d u a → a ≡ made
  made_is a h = let same = only a h in cc

  -- what the one application says of copies
  copies_here : (a : Made) → TextsGenerate d u a → made.generation.double ≡ a.generation.double
  copies_here a h = ap (λ (b : Made). b.generation.double) (sym (made_is a h))

  -- the KDCFILE is to be double
  pub double_refused : TextsGenerate d u made → (line : ℕ) → made.generation.double ≡ Some line → AskFor word d u s (Err (Double line))
  double_refused generates line is = (made, generates, is)

  pub double_one : (line : ℕ) → made.generation.double ≡ Some line → (said : Reading) → AskFor word d u s said → said ≡ Err (Double line)
  double_one line is (Ok e) h = absurd (let no = sym is ∙ copies_here e.application h.1 ∙ h.2 in cc)
  double_one line is (Err (Application f)) h = absurd (not_refused f h)
  double_one line is (Err (Double other)) h = ap (λ (k : ℕ). said_refused (Double k)) (same_Some other line (sym h.2 ∙ sym (copies_here h.0 h.1) ∙ is))
  double_one line is (Err (Script f)) h = absurd (let no = sym is ∙ copies_here h.0 h.1 ∙ h.2 in cc)
  double_one line is (Err (TrailRefused f)) h = absurd (let no = sym is ∙ copies_here h.0 h.1 ∙ h.2 in cc)

-- a text that is read as no trail has that fault
pub read_fault : NoOtherFaults → (a : Made) (print s : List ℕ) (f : TrailFault) → f ≢ trail.Memory → trail_in s ≡ Err f → HasTrailFault a print s f
read_fault others a print s (trail.BadLine n) some h = h
read_fault others a print s trail.TooLong some h = h
read_fault others a print s (trail.OtherGeneration n) some h = absurd ((others s).0 n h)
read_fault others a print s (trail.NotSuited n) some h = absurd ((others s).1 n h)
read_fault others a print s trail.Memory some h = absurd (some refl)

-- ---- results

-- what an error that was handed on has
pub handed_err : {T E : Type 0} (r : Result T E) (e : E) (P : E → Type 0) → IsErrAnd r (λ x. x ≡ e) → P e → IfErr r P
handed_err (Ok x) e P gives p = absurd gives
handed_err (Err x) e P gives p = subst P (sym gives) p

-- a read that failed, as the error of the texts and as its own
pub handed_room : (T U : Type 0) (r : Result T DeviceError) (e : DeviceError) → IsErrAnd r (λ x. x ≡ e) → IsErrOf r room.Failed → IsErrOf {T = U} (Err e) room.Failed
handed_room T U (Ok x) e gives is = absurd gives
handed_room T U (Err x) e gives is = let same : x ≡ room.Failed = cc in ap (λ (k : DeviceError). Err k) (sym gives ∙ same)

pub room_failed : (T U : Type 0) (r : Result T TextError) (e : DeviceError) → IsErrAnd r (λ x. x ≡ of_room e) → IsErrOf r error.Room → IsErrOf {T = U} (Err e) room.Failed
room_failed T U r room.Failed gives is = refl
room_failed T U (Ok x) room.Memory gives is = absurd gives
room_failed T U (Err x) room.Memory gives is = absurd cc
