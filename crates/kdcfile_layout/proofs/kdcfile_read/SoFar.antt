-- What is read so far, one item after another.
use Rattle.std.proofs.Common.{◌≡◌, ℕ, suc, ◌+◌, ◌-◌, ◌<◌, ◌≤◌, List, [], ◌∷◌, ◌++◌, Option, Some, None, refl, sym, ap, subst, ◌∙◌, arith}
use Rattle.std.proofs.lemmas.List.{append-nil}
use Rattle.kd_base.specs.Tools.{onto}
use Rattle.kd_base.specs.ToolsLaws.{onto_then}

module _ {A : Type 0} (reader : ℕ → List ℕ → Option (List A)) where
  module _ (so_far : List A) (count turn : ℕ) (left : List ℕ) (total : Option (List A)) (is : onto so_far (reader (count - turn) left) ≡ total) where
    next : turn < count → onto so_far (reader (suc (count - (turn + 1))) left) ≡ total
    next lt =
        let one_fewer : count - turn ≡ suc (count - (turn + 1)) = omega (arith, lt) in
        let P : ℕ → Type 0 = λ n. onto so_far (reader n left) ≡ total in
        subst P one_fewer is

    pub ended : turn < count → reader (suc (count - (turn + 1))) left ≡ None → None ≡ total
    ended lt e = sym (ap (λ (o : Option (List A)). onto so_far o) e) ∙ next lt

    pub one_more : turn < count → (x : A) (rest : List ℕ) → reader (suc (count - (turn + 1))) left ≡ onto (x ∷ []) (reader (count - (turn + 1)) rest) → (pushed : List A) → pushed ≡ so_far ++ x ∷ []
        → onto pushed (reader (count - (turn + 1)) rest) ≡ total
    one_more lt x rest e pushed is_pushed =
        ap (λ (l : List A). onto l (reader (count - (turn + 1)) rest)) is_pushed
        ∙ onto_then so_far (x ∷ []) (reader (count - (turn + 1)) rest)
        ∙ sym (ap (λ (o : Option (List A)). onto so_far o) e)
        ∙ next lt

    pub all_read : count ≤ turn → reader 0 left ≡ Some [] → Some so_far ≡ total
    all_read le e =
        let P : ℕ → Type 0 = λ n. onto so_far (reader n left) ≡ total in
        let none : count - turn ≡ 0 = omega (arith, le) in
        ap (λ (l : List A). Some l) (sym (append-nil so_far)) ∙ sym (ap (λ (o : Option (List A)). onto so_far o) e) ∙ subst P none is

  none_yet : (total : Option (List A)) → onto [] total ≡ total
  none_yet None = refl
  none_yet (Some l) = refl

  pub at_first : (so_far : List A) (count : ℕ) (bytes : List ℕ) → so_far ≡ [] → onto so_far (reader (count - 0) bytes) ≡ reader count bytes
  at_first so_far count bytes is =
      let all : count - 0 ≡ count = omega arith in
      ap (λ (l : List A). onto l (reader (count - 0) bytes)) is ∙ none_yet (reader (count - 0) bytes) ∙ ap (λ (n : ℕ). reader n bytes) all
