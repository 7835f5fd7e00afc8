-- What was read of the texts of a call, over one file or over two copies.
use Rattle.std.proofs.Common.{◌≡◌, ℕ, List, Option, Some, None, Result, Ok, Err, refl, sym, ap, subst, ◌∙◌}
use Rattle.std.specs.Prelude.{IfOk, IsErrOf, IsSome}
use Rattle.kd_base.specs.ToolsLaws.{err_is}
use Rattle.application_read.specs.declared.application.Application.{Application as Made}
use Rattle.application_read.specs.declared.fault.ApplicationFault.{ApplicationFault}
use Rattle.application_read.specs.Laws.{GenerationsAreSound, UnitsFit}
use Rattle.audit_trail.specs.Laws.{ReadTrailsAreTrails}
use Rattle.script_read.specs.Spelling.{CommandsOnly}
use Rattle.call_parts.proofs.CanRun.{errand_runs}
use Rattle.application_read.specs.Texts.{Gives, TextsGenerate, TextsHaveFault}
use Rattle.device_acts.specs.Fingerprints.{fingerprint as print_of}
use Rattle.kd_device.specs.Room.{RoomState}
use Rattle.refusals.specs.declared.error.Refusal.{Refusal}
use Rattle.refusals.specs.declared.error.Refusal.TheVariants.{Double}
use Rattle.refusals.specs.declared.error.TextError.{TextError}
use Rattle.refusals.specs.declared.error.TextError.TheVariants as error
use Rattle.call_parts.specs.declared.errand.Asked.{Asked}
use Rattle.call_parts.specs.declared.errand.Asked.TheVariants.{One, Two}
use Rattle.call_parts.specs.declared.errand.OneFile.{OneFile}
use Rattle.call_parts.specs.declared.errand.OneFile.TheVariants as file
use Rattle.call_parts.specs.declared.errand.TwoFiles.{TwoFiles}
use Rattle.call_parts.specs.declared.errand.TwoFiles.TheVariants as files
use Rattle.call_parts.specs.declared.errand.Task.{Task}
use Rattle.call_parts.specs.declared.errand.Task.TheVariants as task
use Rattle.call_parts.specs.declared.errand.Storing.TheVariants as storing
use Rattle.call_parts.specs.declared.errand.Looking.TheVariants as looking
use Rattle.call_parts.specs.declared.errand.Work.{Work}
use Rattle.call_parts.specs.declared.words.Word.{Word}
use Rattle.call_parts.specs.declared.words.Word.TheVariants.{Make}
use Rattle.call_parts.specs.Asking.{AskForTwo, CanRun, Errand, HasWork, IsErrandOf, IsOfWord, IsOfWordTwo, IsTwo, MakesFit, Reading, ReadsForTwo, SaysFault, SaysOver, ThirdAsks, ThirdRefuses, ToldFault, ToldOver, WereRead, ReadsFor, TellsTexts, asked_by, errand_for, making, one_errand, one_reading, task_word, two_reading}
use Rattle.call_parts.specs.Words.{IsOfBase, audits}
use Rattle.call_parts.proofs.ErrandSaid.{IsAskedOf, errand_asked, errand_one, no_two, of_base, third_refused, third_refused_one, third_three, two_asked, two_errand_one, two_refused_one}
use Rattle.call_parts.proofs.TextsSaid.{asked_for, asked_for_two, double_one, double_refused, made_is, not_refused as faultless, reads_for, reads_for_two}

-- ---- the errand of a word

module _ (word : Word) (w : Work) (s : List ℕ) where
  -- a third text that is refused
  pub refused_as : (own : Word) → word ≡ own → (b : _) → audits own ≡ b → (why : Refusal) → ThirdRefuses b w.application w.fingerprint s why → ThirdRefuses (audits word) w.application w.fingerprint s why
  refused_as own is b script why refuses = subst (λ c. ThirdRefuses c w.application w.fingerprint s why) (sym (ap audits is ∙ script)) refuses

-- ---- over one file or two

task_base : (t : Task) → IsOfBase (task_word t)
task_base (task.Store storing.Report) = tt
task_base (task.Store (storing.Script commands)) = tt
task_base (task.Look looking.Listing) = tt
task_base (task.Look (looking.Trail commands)) = tt
task_base task.Update = tt
task_base (task.Audit trail) = tt

pub base_of_task : (word : Word) (t : Task) → task_word t ≡ word → IsOfBase word
base_of_task word t is = subst IsOfBase is (task_base t)

some_line : (o : Option ℕ) (line : ℕ) → o ≡ Some line → IsSome o
some_line o line is = subst IsSome (sym is) refl

module _ (word : Word) (w : Work) (d u s : List ℕ) (print : w.fingerprint ≡ print_of d u) (generates : TextsGenerate d u w.application) (only : (a : Made) → TextsGenerate d u a → Gives (Ok w.application) (Ok a)) (refuses : (f : ApplicationFault) → TextsHaveFault d u f → Gives (Ok w.application) (Err f)) where
  one : (a : Made) → TextsGenerate d u a → a ≡ w.application
  one = made_is word d u s w.application only refuses

  none_faulty : (f : ApplicationFault) → TextsHaveFault d u f → ⊥
  none_faulty = faultless word d u s w.application only refuses

  asked_as : (e : Errand) → IsErrandOf word w s e → IsAskedOf word w.application d u s e
  asked_as e is = record {
    word_is = is.word_is;
    application_is = is.application_is;
    fingerprint_is = is.fingerprint_is ∙ print;
    asks = subst (λ (p : List ℕ). ThirdAsks (audits word) w.application p s e.commands e.trail) (sym is.fingerprint_is) is.asks;
  }

  refused_own : (why : Refusal) → ThirdRefuses (audits word) w.application w.fingerprint s why → ThirdRefuses (audits word) w.application (print_of d u) s why
  refused_own why h = subst (λ (p : List ℕ). ThirdRefuses (audits word) w.application p s why) print h

  -- all texts are of one file
  all_single : w.application.generation.double ≡ None → (a : Made) → TextsGenerate d u a → a.generation.double ≡ None
  all_single single a h = ap (λ (b : Made). b.generation.double) (one a h) ∙ single

  says_one : (o : OneFile) → IsErrandOf word w s (one_errand o) → w.application.generation.double ≡ None → SaysOver word d u s (One o)
  says_one o is single = record {
    one = errand_asked word d u s w.application one none_faulty single generates (one_errand o) (asked_as (one_errand o) is);
    one_only = errand_one word d u s w.application one none_faulty single (one_errand o) (asked_as (one_errand o) is);
    two = λ said h. absurd h;
    two_only = λ said h. absurd (no_two word d u s (all_single single) said h);
  }

  says_two : (line : ℕ) → w.application.generation.double ≡ Some line → (v : Work) (t : Task) → IsErrandOf word w s (errand_for v t) → SaysOver word d u s (Two line (files.Over v t))
  says_two line double v t is = record {
    one = double_refused word d u s w.application only refuses generates line double;
    one_only = double_one word d u s w.application only refuses line double;
    two = λ said is_said. subst (AskForTwo word d u s) (sym is_said) (two_asked word d u s w.application one generates (some_line w.application.generation.double line double) (errand_for v t) (asked_as (errand_for v t) is));
    two_only = two_errand_one word d u s w.application one (errand_for v t) (asked_as (errand_for v t) is);
  }

  says_refused : (line : ℕ) → w.application.generation.double ≡ Some line → (why : Refusal) → ThirdRefuses (audits word) w.application w.fingerprint s why → SaysOver word d u s (Two line (files.Refused why))
  says_refused line double why refused = record {
    one = double_refused word d u s w.application only refuses generates line double;
    one_only = double_one word d u s w.application only refuses line double;
    two = λ said is_said. subst (AskForTwo word d u s) (sym is_said) (w.application, generates, some_line w.application.generation.double line double, refused_own why refused);
    two_only = two_refused_one word d u s w.application one why (refused_own why refused);
  }

  module _ (made : (n : ℕ) → word ≡ Make n → w.application.generation.double ≡ None) where
    pub says : (copies : Option ℕ) → w.application.generation.double ≡ copies → (asks : Result OneFile TextError) → IfOk asks (λ o. IsErrandOf word w s (one_errand o)) → ((why : Refusal) → IsErrOf asks (error.Refused why) → ThirdRefuses (audits word) w.application w.fingerprint s why) → IfOk (asked_by copies asks) (SaysOver word d u s)
    says None double (Ok (file.Over v t)) is refused = says_one (file.Over v t) is double
    says (Some line) double (Ok (file.Over v t)) is refused = says_two line double v t is
    says copies double (Ok (file.Make n v commands)) is refused = says_one (file.Make n v commands) is (made n (sym is.word_is))
    says None double (Err (error.Refused why)) is refused = tt
    says (Some line) double (Err (error.Refused why)) is refused = says_refused line double why (refused why refl)
    says copies double (Err error.Room) is refused = tt
    says copies double (Err error.Memory) is refused = tt

    pub faults : (copies : Option ℕ) → w.application.generation.double ≡ copies → (asks : Result OneFile TextError) → ((why : Refusal) → IsErrOf asks (error.Refused why) → ThirdRefuses (audits word) w.application w.fingerprint s why)
        → (why : Refusal) → IsErrOf (asked_by copies asks) (error.Refused why) → SaysFault word d u s why
    faults None double (Ok (file.Over v t)) refused why is = absurd cc
    faults (Some line) double (Ok (file.Over v t)) refused why is = absurd cc
    faults copies double (Ok (file.Make n v commands)) refused why is = absurd cc
    faults None double (Err (error.Refused q)) refused why is =
        let own : error.Refused q ≡ error.Refused why = err_is Asked (error.Refused q) (error.Refused why) is in
        let third = refused_own why (refused why (ap (λ (e : TextError). Err e) own)) in
        record {
          one = third_refused word d u s w.application one none_faulty double generates why third;
          one_only = third_refused_one word d u s w.application one none_faulty double why third;
          none = no_two word d u s (all_single double);
        }
    faults (Some line) double (Err (error.Refused q)) refused why is = absurd cc
    faults copies double (Err error.Room) refused why is = absurd cc
    faults copies double (Err error.Memory) refused why is = absurd cc

    pub fits : (copies : Option ℕ) → w.application.generation.double ≡ copies → (asks : Result OneFile TextError) → IfOk asks (λ o. IsErrandOf word w s (one_errand o)) → ((why : Refusal) → IsErrOf asks (error.Refused why) → ThirdRefuses (audits word) w.application w.fingerprint s why)
        → ((e : Errand) → IsErrandOf word w s e → CanRun e) → IfOk (asked_by copies asks) MakesFit
    fits None double (Ok (file.Over v t)) is refused runs = runs (errand_for v t) is
    fits (Some line) double (Ok (file.Over v t)) is refused runs = (runs (errand_for v t) is, subst (λ (a : Made). IsSome a.generation.double) (sym is.application_is) (some_line w.application.generation.double line double))
    fits copies double (Ok (file.Make n v commands)) is refused runs = runs (making n v commands) is
    fits None double (Err (error.Refused why)) is refused runs = tt
    fits (Some line) double (Err (error.Refused why)) is refused runs = third_three (audits word) w.application w.fingerprint s why (refused why refl)
    fits copies double (Err error.Room) is refused runs = tt
    fits copies double (Err error.Memory) is refused runs = tt

    pub of_word : (copies : Option ℕ) → w.application.generation.double ≡ copies → (asks : Result OneFile TextError) → IfOk asks (λ o. IsErrandOf word w s (one_errand o)) → IfOk (asked_by copies asks) (IsOfWord word)
    of_word None double (Ok (file.Over v t)) is = is.word_is
    of_word (Some line) double (Ok (file.Over v t)) is = is.word_is
    of_word copies double (Ok (file.Make n v commands)) is = is.word_is
    of_word None double (Err (error.Refused why)) is = tt
    of_word (Some line) double (Err (error.Refused why)) is = of_base word (λ n make. let no = sym (made n make) ∙ double in cc)
    of_word copies double (Err error.Room) is = tt
    of_word copies double (Err error.Memory) is = tt

pub never_room : (copies : Option ℕ) → (asks : Result OneFile TextError) → (IsErrOf asks error.Room → ⊥) → IsErrOf (asked_by copies asks) error.Room → ⊥
never_room None (Ok (file.Over v t)) never is = cc
never_room (Some line) (Ok (file.Over v t)) never is = cc
never_room copies (Ok (file.Make n v commands)) never is = cc
never_room None (Err (error.Refused why)) never is = cc
never_room (Some line) (Err (error.Refused why)) never is = cc
never_room copies (Err error.Room) never is = never refl
never_room copies (Err error.Memory) never is = cc

-- where no third text is refused, what was read has an application
pub has_work : (copies : Option ℕ) → (asks : Result OneFile TextError) → ((why : Refusal) → IsErrOf asks (error.Refused why) → ⊥) → IfOk (asked_by copies asks) HasWork
has_work None (Ok (file.Over v t)) none = tt
has_work (Some line) (Ok (file.Over v t)) none = tt
has_work copies (Ok (file.Make n v commands)) none = tt
has_work None (Err (error.Refused why)) none = absurd (none why refl)
has_work (Some line) (Err (error.Refused why)) none = absurd (none why refl)
has_work copies (Err error.Room) none = tt
has_work copies (Err error.Memory) none = tt

pub none_refused : (copies : Option ℕ) → (asks : Result OneFile TextError) → ((why : Refusal) → IsErrOf asks (error.Refused why) → ⊥) → (why : Refusal) → IsErrOf (asked_by copies asks) (error.Refused why) → ⊥
none_refused None (Ok (file.Over v t)) none why is = cc
none_refused (Some line) (Ok (file.Over v t)) none why is = cc
none_refused copies (Ok (file.Make n v commands)) none why is = cc
none_refused None (Err (error.Refused q)) none why is = none q refl
none_refused (Some line) (Err (error.Refused q)) none why is = cc
none_refused copies (Err error.Room) none why is = cc
none_refused copies (Err error.Memory) none why is = cc

-- what is asked for can run
pub errand_fits : GenerationsAreSound → UnitsFit → CommandsOnly → ReadTrailsAreTrails → (word : Word) (w : Work) (d u s : List ℕ) → TextsGenerate d u w.application → (e : Errand) → IsErrandOf word w s e → CanRun e
errand_fits sound units only read word w d u s generates e is =
    errand_runs sound units only read word d u s e is.word_is (subst (TextsGenerate d u) (sym is.application_is) generates)
    (subst (λ (a : Made). ThirdAsks (audits word) a e.fingerprint s e.commands e.trail) (sym is.application_is) (subst (λ (p : List ℕ). ThirdAsks (audits word) w.application p s e.commands e.trail) (sym is.fingerprint_is) is.asks))

-- a definition or units that are refused ask for no two copies
pub refused_none : (word : Word) (d u s : List ℕ) → ((a : Made) → TextsGenerate d u a → ⊥) → (said : Reading) → AskForTwo word d u s said → ⊥
refused_none word d u s none (Ok e) h = none e.application h.1
refused_none word d u s none (Err why) h = none h.0 h.1

-- what follows from two facts of a value
pub ok_both : {X E : Type 0} (r : Result X E) (P Q R : X → Type 0) → ((x : X) → P x → Q x → R x) → IfOk r P → IfOk r Q → IfOk r R
ok_both (Ok x) P Q R f h k = f x h k
ok_both (Err e) P Q R f h k = tt

-- ---- the texts of a room

module _ (word : Word) (base : List ℕ) (r : RoomState) (d u s : List ℕ) (read : WereRead word base r d u s) where
  of_word_two : (o : Asked) → IsOfWord word o → (said : Reading) → IsTwo o said → IsOfBase word
  of_word_two (One o) is said two = absurd two
  of_word_two (Two line (files.Over w t)) is said two = base_of_task word t is
  of_word_two (Two line (files.Refused why)) is said two = is

  pub told_over : (o : Asked) → IsOfWord word o → SaysOver word d u s o → ToldOver word base r o
  told_over o is h = record {
    one = reads_for word base r d u s read (one_reading o) h.one;
    one_only = λ said reads. h.one_only said (asked_for word base r d u s read said reads);
    two = λ said two. reads_for_two word base r d u s read (of_word_two o is said two) said (h.two said two);
    two_only = λ said reads. h.two_only said (asked_for_two word base r d u s read said reads);
  }

  pub told_fault : (why : Refusal) → SaysFault word d u s why → ToldFault word base r why
  told_fault why h = record {
    one = reads_for word base r d u s read (Err why) h.one;
    one_only = λ said reads. h.one_only said (asked_for word base r d u s read said reads);
    none = λ said reads. h.none said (asked_for_two word base r d u s read said reads);
  }

-- ---- what was read

two_base : (word : Word) (line : ℕ) (t : TwoFiles) → IsOfWord word (Two line t) → IsOfBase word
two_base word line (files.Over w t) is = base_of_task word t is
two_base word line (files.Refused why) is = is

module _ (word : Word) (base : List ℕ) (r : RoomState) (o : Asked) (h : TellsTexts word r → ToldOver word base r o) where
  module _ (f : OneFile) (is : o ≡ One f) where
    told_one : TellsTexts word r → ToldOver word base r (One f)
    told_one tells = subst (ToldOver word base r) is (h tells)

    pub one_found : TellsTexts word r → ReadsFor word base r (Ok (one_errand f))
    one_found tells = (told_one tells).one

    pub one_alone : TellsTexts word r → (said : Reading) → ReadsFor word base r said → said ≡ Ok (one_errand f)
    one_alone tells = (told_one tells).one_only

    pub no_second : TellsTexts word r → (said : Reading) → ReadsForTwo word base r said → ⊥
    no_second tells = (told_one tells).two_only

  module _ (line : ℕ) (t : TwoFiles) (is : o ≡ Two line t) where
    told_two : TellsTexts word r → ToldOver word base r (Two line t)
    told_two tells = subst (ToldOver word base r) is (h tells)

    pub double_found : TellsTexts word r → ReadsFor word base r (Err (Double line))
    double_found tells = (told_two tells).one

    pub double_alone : TellsTexts word r → (said : Reading) → ReadsFor word base r said → said ≡ Err (Double line)
    double_alone tells = (told_two tells).one_only

    pub two_found : TellsTexts word r → ReadsForTwo word base r (two_reading t)
    two_found tells = (told_two tells).two (two_reading t) refl

    pub two_alone : TellsTexts word r → (said : Reading) → ReadsForTwo word base r said → said ≡ two_reading t
    two_alone tells = (told_two tells).two_only

    pub of_two_word : IsOfWord word o → IsOfWordTwo word t
    of_two_word of = subst (IsOfWord word) is of

    pub of_two : IsOfWord word o → IsOfBase word
    of_two of = two_base word line t (subst (IsOfWord word) is of)

pub no_make : (word : Word) → IsOfBase word → (n : ℕ) → word ≡ Make n → ⊥
no_make word over n is = subst IsOfBase is over
