-- A quote has no end exactly where their number is odd.
use Rattle.std.proofs.Common.{◌≡◌, ℕ, zero, suc, Bool, true, false, cond, not, List, [], ◌∷◌, ◌++◌, length, take, drop, Option, Some, None, refl, sym, ap, ◌∙◌, subst, arith, inl, inr}
use Rattle.std.specs.Option.{option_map}
use Rattle.std.specs.List.{list_all, prefix_len, take_while}
use Rattle.std.proofs.lemmas.Bool.{cases_Bool, eqb-true, false≢true}
use Rattle.std.proofs.lemmas.List.{take-append-drop}
use Rattle.texts.specs.declared.kdcdef_lex.token.Token.{Token}
use Rattle.texts.specs.declared.kdcdef_lex.token.Token.TheVariants.{Word, Quoted, Comma, Equals, Open, Close}
use Rattle.texts.specs.Blanks.{is_blank, from_first}
use Rattle.texts.specs.Quotes.{is_quote, quoted_at, doubled}
use Rattle.texts.specs.QuotedLaws.{first_quote}
use Rattle.texts.specs.Parts.{part_step, parts_within}
use Rattle.texts.specs.Lines.{is_word_byte}
use Rattle.texts.specs.Tokens.{mark_of, marked, word_at, token_at, tokens_of}
use Rattle.texts.specs.Grammar.{written, IsToken, AreTokens}
use Rattle.texts.specs.Faults.{odd_quotes}
use Rattle.texts.proofs.kdcdef_lex.Words.{token_takes, tokens_are}
use Rattle.kd_base.specs.Fronts.{begins}
use Rattle.kd_base.specs.FrontsLaws.{front_passes, stops}
use Rattle.kd_base.specs.ToolsLaws.{chosen, both_true, map_some, map_none, and_none}
use Rattle.kd_base.specs.Tools.{onto, onto_first}

twice : (b : Bool) → not (not b) ≡ b
twice true = refl
twice false = refl

-- the quotes of two lists
xor : Bool → Bool → Bool
xor true b = not b
xor false b = b

xor_not : (a b : Bool) → xor (not a) b ≡ not (xor a b)
unfolding xor
xor_not true b = sym (twice b)
xor_not false b = refl

xor_turned : (a b : Bool) → xor a (not b) ≡ not (xor a b)
unfolding xor
xor_turned true b = refl
xor_turned false b = refl

quotes_then : (xs ys : List ℕ) → odd_quotes (xs ++ ys) ≡ xor (odd_quotes xs) (odd_quotes ys)
unfolding xor
quotes_then [] ys = refl
quotes_then (x ∷ xs) ys =
    elim (cases_Bool (is_quote x)) [
      | inl h ↦ rw h (ap not (quotes_then xs ys) ∙ sym (xor_not (odd_quotes xs) (odd_quotes ys)))
      | inr h ↦ rw h (quotes_then xs ys)
    ]

even_then : (xs ys : List ℕ) → odd_quotes xs ≡ false → odd_quotes (xs ++ ys) ≡ odd_quotes ys
unfolding xor
even_then xs ys h = quotes_then xs ys ∙ ap (λ (b : Bool). xor b (odd_quotes ys)) h

no_quotes : (p : ℕ → Bool) (xs : List ℕ) → ((b : ℕ) → p b ≡ true → is_quote b ≡ false) → list_all p xs ≡ true → odd_quotes xs ≡ false
no_quotes p [] f h = refl
no_quotes p (x ∷ xs) f h = let a = both_true (p x) (list_all p xs) h in rw (f x a.0) (no_quotes p xs f a.1)

word_no_quote : (b : ℕ) → is_word_byte b ≡ true → is_quote b ≡ false
word_no_quote b h =
    elim (cases_Bool (is_quote b)) [
      | inl k ↦ absurd (cc (subst (λ (x : ℕ). is_word_byte x ≡ true) (eqb-true b 39 k) h))
      | inr k ↦ k
    ]

blank_no_quote : (b : ℕ) → is_blank b ≡ true → is_quote b ≡ false
blank_no_quote b h =
    elim (cases_Bool (is_quote b)) [
      | inl k ↦ absurd (cc (subst (λ (x : ℕ). is_blank x ≡ true) (eqb-true b 39 k) h))
      | inr k ↦ k
    ]

doubled_even : (bytes : List ℕ) → odd_quotes (doubled bytes) ≡ false
doubled_even [] = refl
doubled_even (b ∷ bytes) =
    elim (cases_Bool (is_quote b)) [
      | inl h ↦ rw h (twice (odd_quotes (doubled bytes)) ∙ doubled_even bytes)
      | inr h ↦ rw (h, h) (doubled_even bytes)
    ]

written_even : (t : Token) → IsToken t → odd_quotes (written t) ≡ false
written_even (Word word) h = no_quotes is_word_byte word word_no_quote h.1
written_even (Quoted form content) h =
    even_then form (39 ∷ (doubled content ++ 39 ∷ [])) (no_quotes is_word_byte form word_no_quote h) ∙ ap not (even_then (doubled content) (39 ∷ []) (doubled_even content))
written_even Comma h = refl
written_even Equals h = refl
written_even Open h = refl
written_even Close h = refl

pub tokens_even : (ts : List Token) (bytes : List ℕ) → AreTokens ts bytes → odd_quotes bytes ≡ false
tokens_even [] bytes h = no_quotes is_blank bytes blank_no_quote h
tokens_even (t ∷ ts) bytes h =
    ap odd_quotes h.2 ∙ even_then h.0 (written t ++ h.1) (no_quotes is_blank h.0 blank_no_quote h.3) ∙ even_then (written t) h.1 (written_even t h.4) ∙ tokens_even ts h.1 h.6

-- after an open quote
open_even : (bytes : List ℕ) → quoted_at bytes ≡ None → odd_quotes bytes ≡ false
open_even [] e = refl
open_even (b ∷ []) e =
    elim (chosen (is_quote b) (Some ([], [])) None None e) [
      | inl h ↦ absurd (cc h.1)
      | inr h ↦ rw h.0 refl
    ]
open_even (b ∷ c ∷ bytes) e =
    elim (chosen (is_quote b) (cond (is_quote c) (onto_first (39 ∷ []) (quoted_at bytes)) (Some ([], c ∷ bytes))) (onto_first (b ∷ []) (quoted_at (c ∷ bytes))) None e) [
      | inl h ↦ elim (chosen (is_quote c) (onto_first (39 ∷ []) (quoted_at bytes)) (Some ([], c ∷ bytes)) None h.1) [
        | inl k ↦ rw (h.0, k.0) (twice (odd_quotes bytes) ∙ open_even bytes (map_none (λ (q : List ℕ × List ℕ). let x : List ℕ × List ℕ = (39 ∷ q.0, q.1) in x) (quoted_at bytes) k.1))
        | inr k ↦ absurd (cc k.1)
      ]
      | inr h ↦ rw h.0 (open_even (c ∷ bytes) (map_none (λ (q : List ℕ × List ℕ). let x : List ℕ × List ℕ = (b ∷ q.0, q.1) in x) (quoted_at (c ∷ bytes)) h.1))
    ]

word_odd : (bytes : List ℕ) → word_at bytes ≡ None → odd_quotes bytes ≡ true
word_odd bytes e =
    let n = prefix_len is_word_byte bytes in
    let behind = drop n bytes in
    let made = λ (q : List ℕ × List ℕ). let x : Token × List ℕ = (Quoted (take_while is_word_byte bytes) q.0, q.1) in x in
    elim (chosen (begins is_quote behind) (option_map made (quoted_at (drop 1 behind))) (Some (Word (take_while is_word_byte bytes), behind)) None e) [
      | inl h ↦
          let inside = open_even (drop 1 behind) (map_none made (quoted_at (drop 1 behind)) h.1) in
          ap odd_quotes (sym (take-append-drop n bytes)) ∙ even_then (take n bytes) behind (no_quotes is_word_byte (take n bytes) word_no_quote (front_passes is_word_byte bytes))
          ∙ ap odd_quotes (first_quote behind h.0) ∙ ap not inside
      | inr h ↦ absurd (cc h.1)
    ]

by_mark : (o : Option Token) (bytes : List ℕ) → marked o bytes ≡ None → odd_quotes bytes ≡ true
by_mark (Some m) bytes e = absurd cc
by_mark None bytes e = word_odd bytes e

first_even : (rest : List ℕ) → odd_quotes rest ≡ odd_quotes (from_first rest)
first_even rest =
    let n = prefix_len is_blank rest in
    ap odd_quotes (sym (take-append-drop n rest)) ∙ even_then (take n rest) (drop n rest) (no_quotes is_blank (take n rest) blank_no_quote (front_passes is_blank rest))

none_odd : (n : ℕ) (bytes : List ℕ) → begins is_blank bytes ≡ false → parts_within token_at n bytes ≡ None → odd_quotes bytes ≡ true
none_odd zero bytes start e = absurd cc
none_odd (suc n) [] start e = absurd cc
none_odd (suc n) (b ∷ bs) start e =
    let g = λ (t : Token × List ℕ). let x : Token × List ℕ = (t.0, from_first t.1) in x in
    elim (and_none (λ (t : Token × List ℕ). onto (t.0 ∷ []) (parts_within token_at n t.1)) (part_step token_at (b ∷ bs)) e) [
      | inl h ↦ by_mark (mark_of b) (b ∷ bs) (map_none g (token_at (b ∷ bs)) h)
      | inr h ↦
          let s = map_some g (token_at (b ∷ bs)) h.0 h.1 in
          let t = s.0.0 in
          let rest = s.0.1 in
          let taken = token_takes (b ∷ bs) t rest start (omega arith) s.1 in
          let failed : onto (t ∷ []) (parts_within token_at n (from_first rest)) ≡ None = subst (λ (x : Token × List ℕ). onto (x.0 ∷ []) (parts_within token_at n x.1) ≡ None) (sym s.2) h.2 in
          ap odd_quotes taken.parts ∙ even_then (written t) rest (written_even t taken.part) ∙ first_even rest
          ∙ none_odd n (from_first rest) (stops is_blank rest) (map_none (λ (us : List Token). t ∷ us) (parts_within token_at n (from_first rest)) failed)
    ]

pub open_quote : (bytes : List ℕ) → tokens_of bytes ≡ None → odd_quotes bytes ≡ true
open_quote bytes e = first_even bytes ∙ none_odd (length (from_first bytes)) (from_first bytes) (stops is_blank bytes) e

by_tokens : (bytes : List ℕ) (o : Option (List Token)) → tokens_of bytes ≡ o → odd_quotes bytes ≡ true → o ≡ None
by_tokens bytes None e odd = refl
by_tokens bytes (Some ts) e odd = absurd (false≢true (sym (tokens_even ts bytes (tokens_are bytes ts e)) ∙ odd))

pub quote_open : (bytes : List ℕ) → odd_quotes bytes ≡ true → tokens_of bytes ≡ None
quote_open bytes odd = by_tokens bytes (tokens_of bytes) refl odd

-- whether the number is odd, with the quotes that were passed
abbrev pub odd_after : Bool → List ℕ → Bool
odd_after is_open [] = is_open
odd_after is_open (b ∷ bytes) = odd_after (cond (is_quote b) (not is_open) is_open) bytes

odd_one : (q is_open : Bool) (bytes : List ℕ) → odd_after (not is_open) bytes ≡ xor (not is_open) (odd_quotes bytes) → odd_after is_open bytes ≡ xor is_open (odd_quotes bytes)
    → odd_after (cond q (not is_open) is_open) bytes ≡ xor is_open (cond q (not (odd_quotes bytes)) (odd_quotes bytes))
odd_one true is_open bytes h k = h ∙ xor_not is_open (odd_quotes bytes) ∙ sym (xor_turned is_open (odd_quotes bytes))
odd_one false is_open bytes h k = k

odd_then : (is_open : Bool) (bytes : List ℕ) → odd_after is_open bytes ≡ xor is_open (odd_quotes bytes)
unfolding xor
odd_then true [] = refl
odd_then false [] = refl
odd_then is_open (b ∷ bytes) = odd_one (is_quote b) is_open bytes (odd_then (not is_open) bytes) (odd_then is_open bytes)

pub odd_whole : (bytes : List ℕ) → odd_after false bytes ≡ odd_quotes bytes
unfolding xor
odd_whole bytes = odd_then false bytes
