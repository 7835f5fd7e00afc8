-- What the texts of a call say, where the definition and the units make one application.
use Rattle.std.proofs.Common.{◌≡◌, ℕ, Bool, List, Some, None, Ok, Err, refl, sym, ap, subst, ◌∙◌}
use Rattle.std.specs.Prelude.{IsSome}
use Rattle.application_read.specs.declared.application.Application.{Application as Made}
use Rattle.application_read.specs.declared.fault.ApplicationFault.{ApplicationFault}
use Rattle.application_read.specs.Texts.{TextsGenerate, TextsHaveFault}
use Rattle.device_acts.specs.Fingerprints.{fingerprint as print_of}
use Rattle.refusals.specs.Statuses.{status_of}
use Rattle.refusals.specs.declared.error.Refusal.{Refusal}
use Rattle.refusals.specs.declared.error.Refusal.TheVariants.{Application, Double, Script, Trail}
use Rattle.call_parts.specs.declared.words.Word.{Word}
use Rattle.call_parts.specs.declared.words.Word.TheVariants.{Gen, Run, Show, Update, Trail as TrailWord, Audit, Make}
use Rattle.call_parts.specs.Words.{IsOfBase, audits}
use Rattle.call_parts.specs.Asking.{Errand, Reading, ThirdAsks, ThirdRefuses, AskFor, AskForTwo}
use Rattle.call_parts.proofs.TextsSaid.{said_refused, refuses_once, asks_or_refuses, asks_once}

-- an errand of the word over this application of the two texts, for which the third text asks
pub record IsAskedOf (word : Word) (a : Made) (definition units text : List ℕ) (e : Errand) : Type 0 where
  pub word_is : e.word ≡ word
  pub application_is : e.application ≡ a
  pub fingerprint_is : e.fingerprint ≡ print_of definition units
  pub asks : ThirdAsks (audits word) a e.fingerprint text e.commands e.trail

abbrev said_errand : Errand → Reading
said_errand e = Ok e

module _ (word : Word) (d u s : List ℕ) (made : Made) (one : (a : Made) → TextsGenerate d u a → a ≡ made) where
  -- what the third text says, in the one application
  refused_here : (a : Made) → TextsGenerate d u a → (r : Refusal) → ThirdRefuses (audits word) a (print_of d u) s r → ThirdRefuses (audits word) made (print_of d u) s r
  refused_here a h r refuses = subst (λ (b : Made). ThirdRefuses (audits word) b (print_of d u) s r) (one a h) refuses

  asked_here : (e : Errand) → TextsGenerate d u e.application → e.fingerprint ≡ print_of d u → ThirdAsks (audits word) e.application e.fingerprint s e.commands e.trail → ThirdAsks (audits word) made (print_of d u) s e.commands e.trail
  asked_here e h print asks =
      subst (λ (b : Made). ThirdAsks (audits word) b (print_of d u) s e.commands e.trail) (one e.application h) (subst (λ (p : List ℕ). ThirdAsks (audits word) e.application p s e.commands e.trail) print asks)

  same_copies : (a : Made) → TextsGenerate d u a → made.generation.double ≡ a.generation.double
  same_copies a h = ap (λ (b : Made). b.generation.double) (sym (one a h))

  -- the third text is refused
  module _ (r : Refusal) (refuses : ThirdRefuses (audits word) made (print_of d u) s r) where
    no_errand : (e : Errand) → TextsGenerate d u e.application → e.fingerprint ≡ print_of d u → ThirdAsks (audits word) e.application e.fingerprint s e.commands e.trail → ⊥
    no_errand e h print asks = asks_or_refuses made (print_of d u) s (audits word) e.commands e.trail r (asked_here e h print asks) refuses

    same_refusal : (a : Made) → TextsGenerate d u a → (q : Refusal) → ThirdRefuses (audits word) a (print_of d u) s q → q ≡ r
    same_refusal a h q refuses_too = refuses_once made (print_of d u) s (audits word) q r (refused_here a h q refuses_too) refuses

  -- the third text asks for this errand
  module _ (e : Errand) (is : IsAskedOf word made d u s e) where
    asks_own : ThirdAsks (audits word) made (print_of d u) s e.commands e.trail
    asks_own = subst (λ (p : List ℕ). ThirdAsks (audits word) made p s e.commands e.trail) is.fingerprint_is is.asks

    own_generates : TextsGenerate d u made → TextsGenerate d u e.application
    own_generates generates = subst (TextsGenerate d u) (sym is.application_is) generates

    own_asks : ThirdAsks (audits word) e.application e.fingerprint s e.commands e.trail
    own_asks = subst (λ (a : Made). ThirdAsks (audits word) a e.fingerprint s e.commands e.trail) (sym is.application_is) is.asks

    no_refusal : (a : Made) → TextsGenerate d u a → (r : Refusal) → ThirdRefuses (audits word) a (print_of d u) s r → ⊥
    no_refusal a h r refuses = asks_or_refuses made (print_of d u) s (audits word) e.commands e.trail r asks_own (refused_here a h r refuses)

    same_errand : (f : Errand) → f.word ≡ word → TextsGenerate d u f.application → f.fingerprint ≡ print_of d u → ThirdAsks (audits word) f.application f.fingerprint s f.commands f.trail → f ≡ e
    same_errand f word_is generates print asks =
        let same = asks_once made (print_of d u) s (audits word) f.commands e.commands f.trail e.trail (asked_here f generates print asks) asks_own in
        let same_word : f.word ≡ e.word = word_is ∙ sym is.word_is in
        let same_application : f.application ≡ e.application = one f.application generates ∙ sym is.application_is in
        let same_print : f.fingerprint ≡ e.fingerprint = print ∙ sym is.fingerprint_is in
        λ i. record { word = same_word i; application = same_application i; fingerprint = same_print i; commands = same.0 i; trail = same.1 i }

  -- ---- over one KDCFILE

  module _ (faultless : (f : ApplicationFault) → TextsHaveFault d u f → ⊥) (single : made.generation.double ≡ None) where
    not_double : (a : Made) → TextsGenerate d u a → (line : ℕ) → a.generation.double ≡ Some line → ⊥
    not_double a h line is = let no = sym single ∙ same_copies a h ∙ is in cc

    pub third_refused : TextsGenerate d u made → (r : Refusal) → ThirdRefuses (audits word) made (print_of d u) s r → AskFor word d u s (Err r)
    third_refused generates (Application f) h = absurd h
    third_refused generates (Double line) h = absurd h
    third_refused generates (Script f) h = (made, generates, single, h)
    third_refused generates (Trail f) h = (made, generates, single, h)

    pub third_refused_one : (r : Refusal) → ThirdRefuses (audits word) made (print_of d u) s r → (said : Reading) → AskFor word d u s said → said ≡ Err r
    third_refused_one r refuses (Ok e) h = absurd (no_errand r refuses e h.1 h.3 h.4)
    third_refused_one r refuses (Err (Application f)) h = absurd (faultless f h)
    third_refused_one r refuses (Err (Double line)) h = absurd (not_double h.0 h.1 line h.2)
    third_refused_one r refuses (Err (Script f)) h = ap said_refused (same_refusal r refuses h.0 h.1 (Script f) h.3)
    third_refused_one r refuses (Err (Trail f)) h = ap said_refused (same_refusal r refuses h.0 h.1 (Trail f) h.3)

    pub errand_asked : TextsGenerate d u made → (e : Errand) → IsAskedOf word made d u s e → AskFor word d u s (Ok e)
    errand_asked generates e is = (is.word_is, own_generates e is generates, ap (λ (a : Made). a.generation.double) is.application_is ∙ single, is.fingerprint_is, own_asks e is)

    pub errand_one : (e : Errand) → IsAskedOf word made d u s e → (said : Reading) → AskFor word d u s said → said ≡ Ok e
    errand_one e is (Ok f) h = ap said_errand (same_errand e is f h.0 h.1 h.3 h.4)
    errand_one e is (Err (Application f)) h = absurd (faultless f h)
    errand_one e is (Err (Double line)) h = absurd (not_double h.0 h.1 line h.2)
    errand_one e is (Err (Script f)) h = absurd (no_refusal e is h.0 h.1 (Script f) h.3)
    errand_one e is (Err (Trail f)) h = absurd (no_refusal e is h.0 h.1 (Trail f) h.3)

  -- ---- over two copies

  pub two_asked : TextsGenerate d u made → IsSome made.generation.double → (e : Errand) → IsAskedOf word made d u s e → AskForTwo word d u s (Ok e)
  two_asked generates double e is = (is.word_is, own_generates e is generates, subst (λ (a : Made). IsSome a.generation.double) (sym is.application_is) double, is.fingerprint_is, own_asks e is)

  pub two_refused_one : (r : Refusal) → ThirdRefuses (audits word) made (print_of d u) s r → (said : Reading) → AskForTwo word d u s said → said ≡ Err r
  two_refused_one r refuses (Ok e) h = absurd (no_errand r refuses e h.1 h.3 h.4)
  two_refused_one r refuses (Err q) h = ap said_refused (same_refusal r refuses h.0 h.1 q h.3)

  pub two_errand_one : (e : Errand) → IsAskedOf word made d u s e → (said : Reading) → AskForTwo word d u s said → said ≡ Ok e
  two_errand_one e is (Ok f) h = ap said_errand (same_errand e is f h.0 h.1 h.3 h.4)
  two_errand_one e is (Err q) h = absurd (no_refusal e is h.0 h.1 q h.3)

-- the definition asks for one KDCFILE, or no application is made
pub no_two : (word : Word) (d u s : List ℕ) → ((a : Made) → TextsGenerate d u a → a.generation.double ≡ None) → (said : Reading) → AskForTwo word d u s said → ⊥
no_two word d u s single (Ok e) h = let double = subst IsSome (single e.application h.1) h.2 in cc
no_two word d u s single (Err q) h = let double = subst IsSome (single h.0 h.1) h.2 in cc

-- all words but `make` have a BASE
pub of_base : (word : Word) → ((n : ℕ) → word ≡ Make n → ⊥) → IsOfBase word
of_base Gen other = tt
of_base Run other = tt
of_base Show other = tt
of_base Update other = tt
of_base TrailWord other = tt
of_base Audit other = tt
of_base (Make n) other = other n refl

-- the status of a third text that is refused
pub third_three : (audit : Bool) (a : Made) (print s : List ℕ) (why : Refusal) → ThirdRefuses audit a print s why → status_of why ≡ 3
third_three audit a print s (Application f) h = absurd h
third_three audit a print s (Double line) h = absurd h
third_three audit a print s (Script f) h = refl
third_three audit a print s (Trail f) h = refl
