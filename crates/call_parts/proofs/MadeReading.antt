-- The made texts ask for the made application and its script, so they are not refused.
use Rattle.std.proofs.Common.{◌≡◌, ℕ, Bool, true, false, List, [], ◌∷◌, Option, Some, None, Result, Ok, Err, refl, sym, ap, subst, ◌∙◌}
use Rattle.std.specs.Prelude.{nat_le, codes, IsErrAnd, IsErrOf}
use Rattle.std.proofs.lemmas.Bool.{leb-true}
use Rattle.kd_base.specs.Text.{decimal_of}
use Rattle.kd_base.specs.ToolsLaws.{both_true, some_is}
use Rattle.kd_device.specs.declared.error.DeviceError.{DeviceError}
use Rattle.kd_device.specs.declared.error.DeviceError.TheVariants as room
use Rattle.application_types.specs.Statements.{IsWithin}
use Rattle.application_read.specs.declared.application.Application.{Application as Made}
use Rattle.application_read.specs.Texts.{TextsGenerate}
use Rattle.abstract_monitor.specs.Made.{made_script}
use Rattle.script_read.specs.Commands.{script_in}
use Rattle.script_read.specs.Script.{same}
use Rattle.device_acts.specs.Fingerprints.{fingerprint as print_of}
use Rattle.refusals.specs.declared.error.Refusal.{Refusal}
use Rattle.refusals.specs.declared.error.TextError.{TextError}
use Rattle.refusals.specs.declared.error.TextError.TheVariants as error
use Rattle.call_parts.specs.declared.words.Word.{Word}
use Rattle.call_parts.specs.declared.words.Word.TheVariants.{Gen, Run, Show, Update, Trail, Audit, Make}
use Rattle.call_parts.specs.Asking.{Errand, Reading, ThirdAsks, AskFor}
use Rattle.refusals.specs.Causes.{of_room}
use Rattle.call_parts.specs.MadeApplication.{generated_application, AreMade, MadeTextsAreTaken}
use Rattle.call_parts.specs.MadeReading.{MakeIsRead}
use Rattle.call_parts.specs.MadeTexts.{definition_text, units_text, script_text}
use Rattle.call_parts.specs.Requests.{Request}
use Rattle.call_parts.specs.Words.{audits, is_input_count, is_base, word_by, made_by, made_input, over_base, word_with, asked}

-- ---- how many inputs

asked_word : (o : Option Word) (operand base : List ℕ) (word : Word) → asked o operand ≡ Some (word, base) → o ≡ Some word
asked_word None operand base word h = absurd cc
asked_word (Some v) operand base word h =
    let first : Word × List ℕ = (v, operand) in
    let second : Word × List ℕ = (word, base) in
    let same_pair : first ≡ second = some_is first second h in
    ap (λ (p : Word × List ℕ). Some p.0) same_pair

no_word : (a b c d e f : Bool) (n : ℕ) → word_by a b c d e f ≡ Some (Make n) → ⊥
no_word true b c d e f n h = let is : Gen ≡ Make n = some_is Gen (Make n) h in absurd cc
no_word false true c d e f n h = let is : Run ≡ Make n = some_is Run (Make n) h in absurd cc
no_word false false true d e f n h = let is : Show ≡ Make n = some_is Show (Make n) h in absurd cc
no_word false false false true e f n h = let is : Update ≡ Make n = some_is Update (Make n) h in absurd cc
no_word false false false false true f n h = let is : Trail ≡ Make n = some_is Trail (Make n) h in absurd cc
no_word false false false false false true n h = let is : Audit ≡ Make n = some_is Audit (Make n) h in absurd cc
no_word false false false false false false n h = absurd cc

made_within : (k n : ℕ) (b : Bool) → is_input_count k ≡ b → made_by b k ≡ Some (Make n) → IsWithin 1 20000 n
made_within k n false is h = absurd cc
made_within k n true is h =
    let parts = both_true (nat_le 1 k) (nat_le k 20000) is in
    let same_word : Make k ≡ Make n = some_is (Make k) (Make n) h in
    let same_number : k ≡ n = cc in
    subst (IsWithin 1 20000) same_number (leb-true 1 k parts.0, leb-true k 20000 parts.1)

number_within : (o : Option ℕ) (n : ℕ) → made_input o ≡ Some (Make n) → IsWithin 1 20000 n
number_within None n h = absurd cc
number_within (Some k) n h = made_within k n (is_input_count k) refl h

word_within : (make : Bool) (word operand : List ℕ) (n : ℕ) → word_with make word operand ≡ Some (Make n) → IsWithin 1 20000 n
word_within true word operand n h = number_within (decimal_of operand) n h
word_within false word operand n h = by (is_base operand) h
  where
    by : (b : Bool) → over_base b word ≡ Some (Make n) → IsWithin 1 20000 n
    by true h = absurd (no_word (same word (codes "gen")) (same word (codes "run")) (same word (codes "show")) (same word (codes "update")) (same word (codes "trail")) (same word (codes "audit")) n h)
    by false h = absurd cc

pub request_within : (words : List (List ℕ)) (n : ℕ) (operand : List ℕ) → Request words (Make n) operand → IsWithin 1 20000 n
request_within [] n operand h = absurd cc
request_within (word ∷ []) n operand h = absurd cc
request_within (word ∷ base ∷ []) n operand h = word_within (same word (codes "make")) word base n (asked_word (word_with (same word (codes "make")) word base) base operand (Make n) h)
request_within (word ∷ base ∷ more ∷ rest) n operand h = absurd cc

-- its third text is a script
pub runs_make : (word : Word) (n : ℕ) → word ≡ Make n → audits word ≡ false
runs_make word n is = ap audits is

-- ---- what is asked for

module _ (taken : MadeTextsAreTaken) where
  pub make_is_read : MakeIsRead
  make_is_read words n operand room requested = record {
    word = Make n;
    base = operand;
    asked = requested;
    reads = record {
      definition = definition_text;
      units = units_text;
      text = script_text n;
      there = record { definition_is = refl; units_is = refl; script_is = refl };
      says = (refl, taken.application, refl, refl, (taken.script n (request_within words n operand requested), refl));
    };
  }

  module _ (word : Word) (runs : audits word ≡ false) (n : ℕ) (within : IsWithin 1 20000 n) (d u s : List ℕ) (made : AreMade n d u s) where
    abbrev errand : Errand
    errand = record { word = word; application = generated_application; fingerprint = print_of d u; commands = made_script n; trail = None }

    generated : TextsGenerate d u generated_application
    generated = subst (λ (x : List ℕ). TextsGenerate x u generated_application) (sym made.definition_is) (subst (λ (x : List ℕ). TextsGenerate definition_text x generated_application) (sym made.units_are) taken.application)

    -- they ask for one file
    pub made_single : (a : Made) → ((b : Made) → TextsGenerate d u b → b ≡ a) → a.generation.double ≡ None
    made_single a one = ap (λ (b : Made). b.generation.double) (sym (one generated_application generated))

    says : AskFor word d u s (Ok errand)
    says = (refl, generated, refl, refl, subst (λ (audit : Bool). ThirdAsks audit generated_application (print_of d u) s (made_script n) None) (sym runs) (ap (script_in generated_application.generation) made.script_is ∙ taken.script n within, refl))

    -- they are not refused where they say one thing alone
    pub not_refused : (why : Refusal) → ((said : Reading) → AskFor word d u s said → said ≡ Err why) → ⊥
    not_refused why one = let no : Ok errand ≡ Err why = one (Ok errand) says in cc

-- a text of the room that is not read is no refusal
pub room_not_refused : (T : Type 0) (r : Result T TextError) (e : DeviceError) (why : Refusal) → IsErrAnd r (λ x. x ≡ of_room e) → IsErrOf r (error.Refused why) → ⊥
room_not_refused T (Ok x) e why gives is = absurd gives
room_not_refused T (Err x) room.Failed why gives is = absurd (let no : error.Room ≡ error.Refused why = cc in cc)
room_not_refused T (Err x) room.Memory why gives is = absurd (let no : error.Memory ≡ error.Refused why = cc in cc)

-- ---- its status

pub asked_make : (words : List (List ℕ)) (word : Word) (base : List ℕ) (n : ℕ) (operand : List ℕ) → Request words word base → Request words (Make n) operand → word ≡ Make n
asked_make words word base n operand h k =
    let first : Word × List ℕ = (word, base) in
    let second : Word × List ℕ = (Make n, operand) in
    let one : first ≡ second = some_is first second (sym h ∙ k) in
    ap (λ (p : Word × List ℕ). p.0) one
