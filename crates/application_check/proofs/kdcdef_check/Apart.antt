-- With no fault, no name is both a TAC and an LTERM.
use Rattle.std.proofs.Common.{◌≡◌, ◌⊎◌, ℕ, zero, suc, ◌+◌, ◌<◌, ◌≤◌, refl, sym, ◌∙◌, ap, subst, inl, inr, arith, Bool, true, false, cond, ◌||◌, List, [], ◌∷◌, ◌++◌, length, take, get_or, slice_get}
use Rattle.std.proofs.Common.{Some, None, is_some, bytes_eq}
use Rattle.std.specs.List.{All, cons_option}
use Rattle.std.specs.Map.{lookup, keys_of}
use Rattle.std.proofs.lemmas.List.{take_all}
use Rattle.std.proofs.lemmas.List.Elements.{All-cons, All-nil, filter_map-append}
use Rattle.std.proofs.lemmas.Option.{slice_get_cases}
use Rattle.std.proofs.lemmas.Slice.Eq.{bytes_eq-Decides}
use Rattle.application_types.specs.declared.kdcdef_types.statement.Said.{Said}
use Rattle.application_types.specs.declared.kdcdef_types.statement.Said.TheVariants.{Tac, Lterm}
use Rattle.application_types.specs.declared.kdcdef_types.statement.Statement.{Statement}
use Rattle.application_types.specs.Generation.{Generated, tac_of, lterm_of}
use Rattle.application_check.specs.Generating.{as_tac, as_lterm, said_as, generated}
use Rattle.application_check.specs.Faults.{is_taken, AreFaultless}
use Rattle.application_check.proofs.kdcdef_check.Passing.{next_taken}
use Rattle.application_check.proofs.kdcdef_check.Names.{exact_bytes, or_true, or_false, at_head}
use Rattle.application_check.proofs.kdcdef_check.Faultless.{not_taken}

right_false : (a b : Bool) → (a || b) ≡ false → b ≡ false
right_false true b h = absurd (grind (arith, h))
right_false false b h = h

from_or_false : (a : Bool) → (a || false) ≡ true → a ≡ true
from_or_false true h = refl
from_or_false false h = h

-- the entries found in the one list or in the other
there_append : {K V : Type 0} (test : K → Bool) (es fs : List (K × V)) → is_some (lookup test (es ++ fs)) ≡ (is_some (lookup test es) || is_some (lookup test fs))
there_append test [] fs = refl
there_append test (e ∷ es) fs = at_head (test e.0) e.1 (lookup test (es ++ fs)) ∙ ap (λ b. test e.0 || b) (there_append test es fs) ∙ grouped (test e.0) (is_some (lookup test es)) (is_some (lookup test fs)) ∙ ap (λ b. b || is_some (lookup test fs)) (sym (at_head (test e.0) e.1 (lookup test es)))
  where
    grouped : (a b c : Bool) → (a || (b || c)) ≡ ((a || b) || c)
    grouped true b c = refl
    grouped false b c = refl

abbrev AreApart : Generated → Type 0
AreApart g = (name : List ℕ) → is_some (tac_of g name) ≡ true → is_some (lterm_of g name) ≡ false

apart_said : (said : Said) (g : Generated) → is_taken g said ≡ false → AreApart g → (name : List ℕ) → (is_some (tac_of g name) || is_some (lookup (bytes_eq name) (cons_option (as_tac said) []))) ≡ true → (is_some (lterm_of g name) || is_some (lookup (bytes_eq name) (cons_option (as_lterm said) []))) ≡ false
apart_said (Tac n entry) g free apart name h = or_false (is_some (lterm_of g name)) ∙ go (bytes_eq name n) refl h
  where
    go : (b : Bool) → bytes_eq name n ≡ b → (is_some (tac_of g name) || is_some (cond b (Some entry) None)) ≡ true → is_some (lterm_of g name) ≡ false
    go true e i = subst (λ (m : List ℕ). is_some (lterm_of g m) ≡ false) (sym (exact_bytes name n e)) (right_false (is_some (tac_of g n)) (is_some (lterm_of g n)) free)
    go false e i = apart name (from_or_false (is_some (tac_of g name)) i)
apart_said (Lterm n entry) g free apart name h = go (bytes_eq name n) refl
  where
    is : is_some (tac_of g name) ≡ true
    is = from_or_false (is_some (tac_of g name)) h

    differs : (a b : Bool) → a ≡ true → a ≡ false → b ≡ false
    differs a b i j = absurd (grind (arith, i, j))

    go : (b : Bool) → bytes_eq name n ≡ b → (is_some (lterm_of g name) || is_some (cond b (Some entry) None)) ≡ false
    go true e = differs (is_some (tac_of g name)) (is_some (lterm_of g name) || true) is (subst (λ (m : List ℕ). is_some (tac_of g m) ≡ false) (sym (exact_bytes name n e)) (right_false (is_some (lterm_of g n)) (is_some (tac_of g n)) free))
    go false e = or_false (is_some (lterm_of g name)) ∙ apart name is
apart_said _ g free apart name h = or_false (is_some (lterm_of g name)) ∙ apart name (from_or_false (is_some (tac_of g name)) h)

apart_push : (xs : List Statement) (s : Statement) → is_taken (generated xs) s.said ≡ false → AreApart (generated xs) → AreApart (generated (xs ++ s ∷ []))
apart_push xs s free apart = λ name h.
    let tacs = ap (λ es. is_some (lookup (bytes_eq name) es)) (filter_map-append (λ (t : Statement). as_tac t.said) xs (s ∷ [])) ∙ there_append (bytes_eq name) (said_as as_tac xs) (cons_option (as_tac s.said) []) in
    let lterms = ap (λ es. is_some (lookup (bytes_eq name) es)) (filter_map-append (λ (t : Statement). as_lterm t.said) xs (s ∷ [])) ∙ there_append (bytes_eq name) (said_as as_lterm xs) (cons_option (as_lterm s.said) []) in
    lterms ∙ apart_said s.said (generated xs) free apart name (sym tacs ∙ h)

apart_to : (ss : List Statement) → AreFaultless ss → (n : ℕ) → n ≤ length ss → AreApart (generated (take n ss))
apart_to ss free zero within = λ name h. refl
apart_to ss free (suc n) within = by (slice_get_cases ss n).1 (apart_to ss free n (omega (arith, within)))
  where
    by : ((s : Statement) × (n < length ss) × (slice_get ss n ≡ Some s) × (get_or ss n s ≡ s)) ⊎ ((length ss ≤ n) × (slice_get ss n ≡ None)) → AreApart (generated (take n ss)) → AreApart (generated (take (suc n) ss))
    by (inl h) so_far =
        let e : suc n ≡ n + 1 = omega arith in
        let next : take n ss ++ h.0 ∷ [] ≡ take (suc n) ss = sym (ap (λ (m : ℕ). take m ss) e ∙ next_taken ss n h.0 h.1 (sym h.3)) in
        subst (λ (xs : List Statement). AreApart (generated xs)) next (apart_push (take n ss) h.0 (not_taken ss free n h.0 h.2) so_far)
    by (inr h) so_far = absurd (omega (arith, within, h.0))

all_apart : (ss : List Statement) → AreFaultless ss → AreApart (generated ss)
all_apart ss free = subst (λ (xs : List Statement). AreApart (generated xs)) (take_all (length ss) ss (omega arith)) (apart_to ss free (length ss) (omega arith))

-- each name of a table is found there
found_there : {V : Type 0} (es : List (List ℕ × V)) → All (λ (name : List ℕ). is_some (lookup (bytes_eq name) es) ≡ true) (keys_of es)
found_there [] = All-nil _
found_there (e ∷ es) =
    All-cons (λ (name : List ℕ). is_some (lookup (bytes_eq name) (e ∷ es)) ≡ true) e.0 (keys_of es)
    (at_head (bytes_eq e.0 e.0) e.1 (lookup (bytes_eq e.0) es) ∙ ap (λ b. b || is_some (lookup (bytes_eq e.0) es)) ((bytes_eq-Decides e.0 e.0).1 refl))
    (λ k d below. behind (get_or (keys_of es) k d) (found_there es k d below))
  where
    behind : (name : List ℕ) → is_some (lookup (bytes_eq name) es) ≡ true → is_some (lookup (bytes_eq name) (e ∷ es)) ≡ true
    behind name h = at_head (bytes_eq name e.0) e.1 (lookup (bytes_eq name) es) ∙ ap (λ b. bytes_eq name e.0 || b) h ∙ or_true (bytes_eq name e.0)

pub names_apart : (ss : List Statement) → AreFaultless ss → All (λ (name : List ℕ). is_some (lterm_of (generated ss) name) ≡ false) (keys_of (said_as as_tac ss))
names_apart ss free = λ k d below. all_apart ss free (get_or (keys_of (said_as as_tac ss)) k d) (found_there (said_as as_tac ss) k d below)
