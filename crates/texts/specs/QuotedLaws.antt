-- Quoted bytes: what is read is written so, and what is written so is read.
use Rattle.std.proofs.Common.{◌≡◌, ℕ, true, false, cond, List, [], ◌∷◌, ◌++◌, drop, Some, None, refl, sym, ap, ◌∙◌, subst, inl, inr}
use Rattle.std.proofs.lemmas.Bool.{cases_Bool, eqb-true}
use Rattle.texts.specs.Quotes.{is_quote, quoted_at, doubled}
use Rattle.kd_base.specs.Fronts.{begins}
use Rattle.kd_base.specs.ToolsLaws.{map_some, chosen, some_is}
use Rattle.kd_base.specs.Tools.{onto_first}

abbrev pub QuotedSo : List ℕ → List ℕ → List ℕ → Type 0
QuotedSo bytes content rest = (bytes ≡ doubled content ++ 39 ∷ rest) × (begins is_quote rest ≡ false)

quote_is : (b : ℕ) → is_quote b ≡ true → b ≡ 39
quote_is b h = eqb-true b 39 h

plain : (b : ℕ) (bytes : List ℕ) → is_quote b ≡ false → quoted_at (b ∷ bytes) ≡ onto_first (b ∷ []) (quoted_at bytes)
plain b [] h = rw h refl
plain b (c ∷ bytes) h = rw h refl

pub quoted_again : (content rest : List ℕ) → begins is_quote rest ≡ false → quoted_at (doubled content ++ 39 ∷ rest) ≡ Some (content, rest)
quoted_again [] [] h = refl
quoted_again [] (c ∷ rest) h = rw h refl
quoted_again (b ∷ content) rest h =
    elim (cases_Bool (is_quote b)) [
      | inl h1 ↦ rw (h1, quoted_again content rest h) (ap (λ (c : ℕ). Some (c ∷ content, rest)) (sym (quote_is b h1)))
      | inr h0 ↦ rw h0 (plain b (doubled content ++ 39 ∷ rest) h0 ∙ ap (onto_first (b ∷ [])) (quoted_again content rest h))
    ]

-- what was found with a byte before it
with_byte : (b : ℕ) (bytes : List ℕ) (content rest : List ℕ) → onto_first (b ∷ []) (quoted_at bytes) ≡ Some (content, rest)
    → (c : List ℕ) × (quoted_at bytes ≡ Some (c, rest)) × (content ≡ b ∷ c)
with_byte b bytes content rest e =
    let m = map_some (λ (q : List ℕ × List ℕ). (b ∷ q.0, q.1)) (quoted_at bytes) (content, rest) e in
    (m.0.0, m.1 ∙ ap (λ (r : List ℕ). Some (m.0.0, r)) (ap (λ (q : List ℕ × List ℕ). q.1) m.2), sym (ap (λ (q : List ℕ × List ℕ). q.0) m.2))

pub quoted_takes : (bytes content rest : List ℕ) → quoted_at bytes ≡ Some (content, rest) → QuotedSo bytes content rest
quoted_takes [] content rest e = absurd cc
quoted_takes (b ∷ []) content rest e =
    elim (chosen (is_quote b) (Some ([], [])) None (Some (content, rest)) e) [
      | inl h ↦ subst (λ (q : List ℕ × List ℕ). QuotedSo (b ∷ []) q.0 q.1) (some_is ([], []) (content, rest) h.1) (ap (λ (x : ℕ). x ∷ []) (quote_is b h.0), refl)
      | inr h ↦ absurd (cc h.1)
    ]
quoted_takes (b ∷ c ∷ bytes) content rest e =
    elim (chosen (is_quote b) (cond (is_quote c) (onto_first (39 ∷ []) (quoted_at bytes)) (Some ([], c ∷ bytes))) (onto_first (b ∷ []) (quoted_at (c ∷ bytes))) (Some (content, rest)) e) [
      | inl h ↦ elim (chosen (is_quote c) (onto_first (39 ∷ []) (quoted_at bytes)) (Some ([], c ∷ bytes)) (Some (content, rest)) h.1) [
        | inl k ↦
            let w = with_byte 39 bytes content rest k.1 in
            let deep = quoted_takes bytes w.0 rest w.1 in
            (rw (quote_is b h.0, quote_is c k.0, w.2) (ap (λ (x : List ℕ). 39 ∷ 39 ∷ x) deep.0), deep.1)
        | inr k ↦ subst (λ (q : List ℕ × List ℕ). QuotedSo (b ∷ c ∷ bytes) q.0 q.1) (some_is ([], c ∷ bytes) (content, rest) k.1) (ap (λ (x : ℕ). x ∷ c ∷ bytes) (quote_is b h.0), k.0)
      ]
      | inr h ↦
          let w = with_byte b (c ∷ bytes) content rest h.1 in
          let deep = quoted_takes (c ∷ bytes) w.0 rest w.1 in
          (rw (w.2, h.0) (ap (λ (x : List ℕ). b ∷ x) deep.0), deep.1)
    ]

pub first_quote : (xs : List ℕ) → begins is_quote xs ≡ true → xs ≡ 39 ∷ drop 1 xs
first_quote [] h = absurd cc
first_quote (b ∷ xs) h = ap (λ (x : ℕ). x ∷ xs) (eqb-true b 39 h)
