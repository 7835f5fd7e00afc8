-- Words and marks: what is read is written so, and what is written so is read.
use Rattle.std.proofs.Common.{◌≡◌, ℕ, ◌<◌, true, false, cond, eqb, List, [], ◌∷◌, ◌++◌, length, take, drop, Option, Some, None, refl, sym, ap, ◌∙◌, subst, append_assoc, arith, inl, inr}
use Rattle.std.specs.Option.{option_map}
use Rattle.std.specs.Prelude.{IsTrue}
use Rattle.std.specs.List.{list_all, prefix_len, take_while}
use Rattle.std.proofs.lemmas.Bool.{cases_Bool, eqb-true, false≢true}
use Rattle.std.proofs.lemmas.List.Folds.{length-prefix_len}
use Rattle.std.proofs.lemmas.List.{take-append-drop, take_at, drop_at}
use Rattle.texts.specs.declared.kdcdef_lex.token.Token.{Token}
use Rattle.texts.specs.declared.kdcdef_lex.token.Token.TheVariants.{Word, Quoted, Comma, Equals, Open, Close}
use Rattle.texts.specs.Blanks.{is_blank}
use Rattle.texts.specs.Quotes.{is_quote, quoted_at, doubled}
use Rattle.texts.specs.QuotedLaws.{quoted_takes, quoted_again, first_quote}
use Rattle.texts.specs.PartedLaws.{Taken as TakenSo, ReadsWritten, parts_are, are_parts}
use Rattle.texts.specs.Lines.{is_word_byte}
use Rattle.texts.specs.Tokens.{mark_of, marked, word_at, token_at, tokens_of}
use Rattle.texts.specs.Grammar.{written, IsToken, Ends, AreTokens}
use Rattle.kd_base.specs.Fronts.{begins}
use Rattle.kd_base.specs.FrontsLaws.{front_passes, stops, split_there}
use Rattle.kd_base.specs.ToolsLaws.{map_some, chosen, some_is, both_true}

-- ---- bytes

not_blank : (b : ℕ) → is_word_byte b ≡ true → is_blank b ≡ false
not_blank b h = elim (cases_Bool (is_blank b)) [ inl k ↦ absurd (cc (rw k at h)) | inr k ↦ k ]

no_mark : (b : ℕ) → is_word_byte b ≡ true → mark_of b ≡ None
no_mark b h =
    let not_at = λ (n : ℕ) (e : eqb b n ≡ true). subst (λ (x : ℕ). is_word_byte x ≡ true) (eqb-true b n e) h in
    elim (cases_Bool (eqb b 44)) [
      | inl e ↦ absurd (cc (not_at 44 e))
      | inr e1 ↦ elim (cases_Bool (eqb b 61)) [
        | inl e ↦ absurd (cc (not_at 61 e))
        | inr e2 ↦ elim (cases_Bool (eqb b 40)) [
          | inl e ↦ absurd (cc (not_at 40 e))
          | inr e3 ↦ elim (cases_Bool (eqb b 41)) [
            | inl e ↦ absurd (cc (not_at 41 e))
            | inr e4 ↦ rw (e1, e2, e3, e4) refl
          ]
        ]
      ]
    ]

word_byte : (b : ℕ) → is_blank b ≡ false → mark_of b ≡ None → is_quote b ≡ false → is_word_byte b ≡ true
word_byte b blank mark quote =
    elim (cases_Bool (eqb b 44)) [
      | inl e ↦ absurd (cc (rw e at mark))
      | inr e1 ↦ elim (cases_Bool (eqb b 61)) [
        | inl e ↦ absurd (cc (rw (e1, e) at mark))
        | inr e2 ↦ elim (cases_Bool (eqb b 40)) [
          | inl e ↦ absurd (cc (rw (e1, e2, e) at mark))
          | inr e3 ↦ elim (cases_Bool (eqb b 41)) [
            | inl e ↦ absurd (cc (rw (e1, e2, e3, e) at mark))
            | inr e4 ↦ rw (blank, e1, e2, e3, e4, quote) refl
          ]
        ]
      ]
    ]

-- ---- what is written is read

abbrev Read : List ℕ → Token → List ℕ → Type 0
Read bytes t rest = token_at bytes ≡ Some (t, rest)

word_again : (word rest : List ℕ) → IsTrue (list_all is_word_byte word) → begins is_word_byte rest ≡ false → begins is_quote rest ≡ false → word_at (word ++ rest) ≡ Some (Word word, rest)
word_again word rest h k q =
    rw (split_there is_word_byte word rest h k, take_at word rest (length word) refl, drop_at word rest (length word) refl, q) refl

quoted_word_again : (form content rest : List ℕ) → IsTrue (list_all is_word_byte form) → begins is_quote rest ≡ false → word_at (form ++ 39 ∷ (doubled content ++ 39 ∷ rest)) ≡ Some (Quoted form content, rest)
quoted_word_again form content rest h q =
    let behind = 39 ∷ (doubled content ++ 39 ∷ rest) in
    rw (split_there is_word_byte form behind h refl, take_at form behind (length form) refl, drop_at form behind (length form) refl, quoted_again content rest q) refl

-- a word byte at the front
at_word : (word rest : List ℕ) → 0 < length word → IsTrue (list_all is_word_byte word) → token_at (word ++ rest) ≡ word_at (word ++ rest)
at_word [] rest some h = absurd (omega arith)
at_word (b ∷ word) rest some h = rw (no_mark b (both_true (is_word_byte b) (list_all is_word_byte word) h).0) refl

regroup : (form content rest : List ℕ) → written (Quoted form content) ++ rest ≡ form ++ 39 ∷ (doubled content ++ 39 ∷ rest)
regroup form content rest =
    append_assoc form (39 ∷ (doubled content ++ 39 ∷ [])) rest ∙ ap (λ (x : List ℕ). form ++ 39 ∷ x) (append_assoc (doubled content) (39 ∷ []) rest)

pub token_again : (t : Token) (rest : List ℕ) → IsToken t → Ends t rest → Read (written t ++ rest) t rest
token_again (Word word) rest h k = at_word word rest h.0 h.1 ∙ word_again word rest h.1 k.0 k.1
token_again (Quoted [] content) rest h k = ap token_at (regroup [] content rest) ∙ quoted_word_again [] content rest h k
token_again (Quoted (b ∷ form) content) rest h k =
    ap token_at (regroup (b ∷ form) content rest) ∙ at_word (b ∷ form) (39 ∷ (doubled content ++ 39 ∷ rest)) (omega arith) h ∙ quoted_word_again (b ∷ form) content rest h k
token_again mark rest h k = refl

-- what a token begins with is no blank
pub starts : (t : Token) (rest : List ℕ) → IsToken t → (begins is_blank (written t ++ rest) ≡ false) × (0 < length (written t))
starts (Word []) rest h = absurd (omega arith)
starts (Word (b ∷ word)) rest h = (not_blank b (both_true (is_word_byte b) (list_all is_word_byte word) h.1).0, omega arith)
starts (Quoted [] content) rest h = (refl, omega arith)
starts (Quoted (b ∷ form) content) rest h = (not_blank b (both_true (is_word_byte b) (list_all is_word_byte form) h).0, omega arith)
starts mark rest h = (refl, omega arith)

-- ---- what is read is written

abbrev pub Taken : List ℕ → Token → List ℕ → Type 0
Taken bytes t rest = TakenSo written IsToken Ends bytes t rest

abbrev IsMark : ℕ → Token → Type 0
IsMark b t = (written t ≡ b ∷ []) × IsToken t × ((rest : List ℕ) → Ends t rest)

mark_is : (b : ℕ) (t : Token) → mark_of b ≡ Some t → IsMark b t
mark_is b t e =
    elim (chosen (eqb b 44) (Some Comma) (cond (eqb b 61) (Some Equals) (cond (eqb b 40) (Some Open) (cond (eqb b 41) (Some Close) None))) (Some t) e) [
      | inl h ↦ subst (IsMark b) (some_is Comma t h.1) (ap (λ (x : ℕ). x ∷ []) (sym (eqb-true b 44 h.0)), tt, λ _. tt)
      | inr e2 ↦ elim (chosen (eqb b 61) (Some Equals) (cond (eqb b 40) (Some Open) (cond (eqb b 41) (Some Close) None)) (Some t) e2.1) [
        | inl h ↦ subst (IsMark b) (some_is Equals t h.1) (ap (λ (x : ℕ). x ∷ []) (sym (eqb-true b 61 h.0)), tt, λ _. tt)
        | inr e3 ↦ elim (chosen (eqb b 40) (Some Open) (cond (eqb b 41) (Some Close) None) (Some t) e3.1) [
          | inl h ↦ subst (IsMark b) (some_is Open t h.1) (ap (λ (x : ℕ). x ∷ []) (sym (eqb-true b 40 h.0)), tt, λ _. tt)
          | inr e4 ↦ elim (chosen (eqb b 41) (Some Close) None (Some t) e4.1) [
            | inl h ↦ subst (IsMark b) (some_is Close t h.1) (ap (λ (x : ℕ). x ∷ []) (sym (eqb-true b 41 h.0)), tt, λ _. tt)
            | inr h ↦ absurd (cc h.1)
          ]
        ]
      ]
    ]

quoted_taken : (bytes content rest : List ℕ) → begins is_quote (drop (prefix_len is_word_byte bytes) bytes) ≡ true → quoted_at (drop 1 (drop (prefix_len is_word_byte bytes) bytes)) ≡ Some (content, rest)
    → Taken bytes (Quoted (take_while is_word_byte bytes) content) rest
quoted_taken bytes content rest h e =
    let n = prefix_len is_word_byte bytes in
    let q = quoted_takes (drop 1 (drop n bytes)) content rest e in
    let behind : drop n bytes ≡ 39 ∷ (doubled content ++ 39 ∷ rest) = first_quote (drop n bytes) h ∙ ap (λ (x : List ℕ). 39 ∷ x) q.0 in
    record {
      parts = sym (take-append-drop n bytes) ∙ ap (λ (x : List ℕ). take n bytes ++ x) behind ∙ sym (regroup (take n bytes) content rest);
      part = front_passes is_word_byte bytes;
      ends = q.1;
    }

word_taken : (b : ℕ) (bs : List ℕ) → is_blank b ≡ false → mark_of b ≡ None → begins is_quote (drop (prefix_len is_word_byte (b ∷ bs)) (b ∷ bs)) ≡ false
    → Taken (b ∷ bs) (Word (take_while is_word_byte (b ∷ bs))) (drop (prefix_len is_word_byte (b ∷ bs)) (b ∷ bs))
word_taken b bs blank mark h =
    let n = prefix_len is_word_byte (b ∷ bs) in
    let some : 0 < n =
    elim (cases_Bool (is_word_byte b)) [
      | inl k ↦ rw k (omega arith)
      | inr k ↦ absurd (false≢true (sym k ∙ word_byte b blank mark (rw k at h)))
    ] in
    record {
      parts = sym (take-append-drop n (b ∷ bs));
      part = (omega (arith, length-prefix_len is_word_byte (b ∷ bs)), front_passes is_word_byte (b ∷ bs));
      ends = (stops is_word_byte (b ∷ bs), h);
    }

word_takes : (b : ℕ) (bs : List ℕ) (t : Token) (rest : List ℕ) → is_blank b ≡ false → mark_of b ≡ None → word_at (b ∷ bs) ≡ Some (t, rest) → Taken (b ∷ bs) t rest
word_takes b bs t rest blank mark e =
    let n = prefix_len is_word_byte (b ∷ bs) in
    let behind = drop n (b ∷ bs) in
    let made = λ (q : List ℕ × List ℕ). let x : Token × List ℕ = (Quoted (take_while is_word_byte (b ∷ bs)) q.0, q.1) in x in
    elim (chosen (begins is_quote behind) (option_map made (quoted_at (drop 1 behind))) (Some (Word (take_while is_word_byte (b ∷ bs)), behind)) (Some (t, rest)) e) [
      | inl h ↦
          let m = map_some made (quoted_at (drop 1 behind)) (t, rest) h.1 in
          subst (λ (y : Token × List ℕ). Taken (b ∷ bs) y.0 y.1) m.2 (quoted_taken (b ∷ bs) m.0.0 m.0.1 h.0 m.1)
      | inr h ↦ subst (λ (y : Token × List ℕ). Taken (b ∷ bs) y.0 y.1) (some_is (Word (take_while is_word_byte (b ∷ bs)), behind) (t, rest) h.1) (word_taken b bs blank mark h.0)
    ]

by_mark : (o : Option Token) (b : ℕ) (bs : List ℕ) (t : Token) (rest : List ℕ) → is_blank b ≡ false → mark_of b ≡ o → marked o (b ∷ bs) ≡ Some (t, rest) → Taken (b ∷ bs) t rest
by_mark None b bs t rest blank mark e = word_takes b bs t rest blank mark e
by_mark (Some m) b bs t rest blank mark e =
    let is = mark_is b m mark in
    subst (λ (y : Token × List ℕ). Taken (b ∷ bs) y.0 y.1) (some_is (m, bs) (t, rest) e)
    (record { parts = ap (λ (x : List ℕ). x ++ bs) (sym is.0); part = is.1; ends = is.2 bs })

pub token_takes : (bytes : List ℕ) (t : Token) (rest : List ℕ) → begins is_blank bytes ≡ false → 0 < length bytes → token_at bytes ≡ Some (t, rest) → Taken bytes t rest
token_takes [] t rest blank some e = absurd (omega arith)
token_takes (b ∷ bs) t rest blank some e = by_mark (mark_of b) b bs t rest blank refl e

-- ---- all tokens of bytes

reads : ReadsWritten token_at written IsToken Ends
reads = record { starts = starts; takes = token_takes; again = token_again }

-- the tokens of bytes are those, and no others
pub tokens_are : (bytes : List ℕ) (ts : List Token) → tokens_of bytes ≡ Some ts → AreTokens ts bytes
tokens_are bytes ts e = parts_are token_at written IsToken Ends reads bytes ts e

pub are_tokens : (bytes : List ℕ) (ts : List Token) → AreTokens ts bytes → tokens_of bytes ≡ Some ts
are_tokens bytes ts h = are_parts token_at written IsToken Ends reads bytes ts h
