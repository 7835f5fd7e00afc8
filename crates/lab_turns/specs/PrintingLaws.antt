-- Laws: what is printed, one after another.
use Rattle.std.specs.Prelude.{◌≡◌, refl, ℕ, Bool, List, [], ◌∷◌, ◌++◌}
use Rattle.std.proofs.Common.{sym, subst, ◌∙◌}
use Rattle.std.proofs.lemmas.Grind.{flat_map-append}
use Rattle.std.proofs.lemmas.List.{append-nil, map-append}
use Rattle.lab_turns.specs.Consoles.{Passed, Put, printed}
use Rattle.lab_turns.specs.Heard.{Heard}
use Rattle.lab_turns.specs.Printing.{Prints}
use Rattle.lab_turns.specs.TurnLines.{heard_text, tale_text}

pub tale_none : (traces : Bool) (source : List (List ℕ)) → tale_text traces source [] ≡ []
unfolding tale_text
tale_none traces source = refl

pub tale_one : (traces : Bool) (source : List (List ℕ)) (h : Heard) → tale_text traces source (h ∷ []) ≡ heard_text traces source h
unfolding tale_text
tale_one traces source h = append-nil (heard_text traces source h)

pub tale_both : (traces : Bool) (source : List (List ℕ)) (xs ys : List Heard) → tale_text traces source (xs ++ ys) ≡ tale_text traces source xs ++ tale_text traces source ys
unfolding tale_text
tale_both traces source xs ys = flat_map-append (heard_text traces source) xs ys

module _ {C : Type 0} (passes : C → List Passed → C → Type 0) where
  -- two texts are printed as one
  pub printed_both : (both : (a b c : C) (xs ys : List Passed) → passes a xs b → passes b ys c → passes a (xs ++ ys) c) (a b c : C) (xs ys : List ℕ) → passes a (printed xs) b → passes b (printed ys) c → passes a (printed (xs ++ ys)) c
  printed_both both a b c xs ys first later = subst (λ (l : List Passed). passes a l c) (sym (map-append Put xs ys)) (both a b c (printed xs) (printed ys) first later)

  pub prints_none : (none : (c : C) → passes c [] c) (traces : Bool) (source : List (List ℕ)) (c : C) → Prints passes [] traces source c traces source c
  prints_none none traces source c = record {
    traces_stays = refl;
    source_stays = refl;
    passed = subst (λ (l : List ℕ). passes c (printed l) c) (sym (tale_none traces source)) (none c);
  }

  -- one thing was heard, and its text was printed
  pub prints_one : (traces : Bool) (source : List (List ℕ)) (a b : C) (h : Heard) (text : List ℕ) → text ≡ heard_text traces source h → passes a (printed text) b → Prints passes (h ∷ []) traces source a traces source b
  prints_one traces source a b h text is passed = record {
    traces_stays = refl;
    source_stays = refl;
    passed = subst (λ (l : List ℕ). passes a (printed l) b) (is ∙ sym (tale_one traces source h)) passed;
  }

  pub prints_both : (both : (a b c : C) (xs ys : List Passed) → passes a xs b → passes b ys c → passes a (xs ++ ys) c) (traces : Bool) (source : List (List ℕ)) (a : C) (traces' : Bool) (source' : List (List ℕ)) (b : C) (traces'' : Bool) (source'' : List (List ℕ)) (c : C) (xs ys : List Heard)
      → Prints passes xs traces source a traces' source' b → Prints passes ys traces' source' b traces'' source'' c → Prints passes (xs ++ ys) traces source a traces'' source'' c
  prints_both both traces source a traces' source' b traces'' source'' c xs ys first later = record {
    traces_stays = later.traces_stays ∙ first.traces_stays;
    source_stays = later.source_stays ∙ first.source_stays;
    passed = subst (λ (l : List ℕ). passes a (printed l) c) (sym (tale_both traces source xs ys))
        (printed_both both a b c (tale_text traces source xs) (tale_text traces source ys) first.passed (subst (λ (l : List ℕ). passes b (printed l) c) (λ i. tale_text (first.traces_stays i) (first.source_stays i) ys) later.passed));
  }
