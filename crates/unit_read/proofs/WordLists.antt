-- The words of a line: what is read is written so, and what is written so is read.
use Rattle.std.proofs.Common.{◌≡◌, ℕ, suc, ◌<◌, true, false, List, [], ◌∷◌, ◌++◌, length, take, drop, Option, Some, None, refl, sym, ap, ◌∙◌, subst, append_assoc, inl, inr, arith}
use Rattle.std.specs.Prelude.{IsTrue, not}
use Rattle.std.specs.List.{list_all, prefix_len, take_while}
use Rattle.std.proofs.lemmas.Bool.{cases_Bool, eqb-true}
use Rattle.std.proofs.lemmas.List.Folds.{length-prefix_len}
use Rattle.std.proofs.lemmas.List.{take-append-drop, take_at, drop_at}
use Rattle.kd_base.specs.Fronts.{begins}
use Rattle.kd_base.specs.FrontsLaws.{front_passes, stops, split_there, one_add}
use Rattle.kd_base.specs.ToolsLaws.{some_is, chosen, both_true}
use Rattle.unit_read.specs.declared.word.Word.{Word}
use Rattle.unit_read.specs.declared.word.Word.TheVariants.{Plain, Literal}
use Rattle.texts.specs.Blanks.{is_blank}
use Rattle.texts.specs.Quotes.{is_quote, quoted_at, doubled}
use Rattle.texts.specs.QuotedLaws.{quoted_takes, quoted_again, first_quote}
use Rattle.texts.specs.PartedLaws.{Taken as TakenSo, ReadsWritten, parts_are, are_parts}
use Rattle.unit_read.specs.Lines.{is_word_byte}
use Rattle.unit_read.specs.Words.{literal_at, word_at, words_of}
use Rattle.unit_read.specs.Grammar.{written, IsWord, WordEnds, AreWords}

-- ---- bytes

not_blank : (b : ℕ) → is_word_byte b ≡ true → is_blank b ≡ false
not_blank b h = elim (cases_Bool (is_blank b)) [ inl k ↦ absurd (cc (rw k at h)) | inr k ↦ k ]

word_byte : (b : ℕ) → is_blank b ≡ false → is_word_byte b ≡ true
word_byte b h = ap not h

no_quote : (rest : List ℕ) → begins is_word_byte rest ≡ false → begins is_quote rest ≡ false
no_quote [] h = refl
no_quote (b ∷ rest) h =
    elim (cases_Bool (is_quote b)) [
      | inl k ↦ absurd (let quote : is_word_byte 39 ≡ false = subst (λ (x : ℕ). is_word_byte x ≡ false) (eqb-true b 39 k) h in cc quote)
      | inr k ↦ k
    ]

-- ---- what is written is read

plain_again : (word rest : List ℕ) → IsWord (Plain word) → begins is_word_byte rest ≡ false → word_at (word ++ rest) ≡ Some (Plain word, rest)
plain_again [] rest h ends = absurd (omega (arith, h.0))
plain_again (b ∷ word) rest h ends =
    rw (h.2, split_there is_word_byte (b ∷ word) rest h.1 ends, take_at (b ∷ word) rest (length (b ∷ word)) refl, drop_at (b ∷ word) rest (length (b ∷ word)) refl) refl

word_again : (w : Word) (rest : List ℕ) → IsWord w → begins is_word_byte rest ≡ false → word_at (written w ++ rest) ≡ Some (w, rest)
word_again (Plain word) rest h ends = plain_again word rest h ends
word_again (Literal content) rest h ends =
    ap (λ (x : List ℕ). word_at (39 ∷ x)) (append_assoc (doubled content) (39 ∷ []) rest)
    ∙ rw (quoted_again content rest (no_quote rest ends), ends) refl

-- what a word begins with is no blank
starts : (w : Word) (rest : List ℕ) → IsWord w → (begins is_blank (written w ++ rest) ≡ false) × (0 < length (written w))
starts (Plain []) rest h = absurd (omega (arith, h.0))
starts (Plain (b ∷ word)) rest h = (not_blank b (both_true (is_word_byte b) (list_all is_word_byte word) h.1).0, omega arith)
starts (Literal content) rest h = (refl, omega arith)

-- ---- what is read is written

abbrev Taken : List ℕ → Word → List ℕ → Type 0
Taken bytes w rest = TakenSo written IsWord WordEnds bytes w rest

literal_taken : (bytes content rest : List ℕ) → begins is_quote bytes ≡ true → quoted_at (drop 1 bytes) ≡ Some (content, rest) → begins is_word_byte rest ≡ false → Taken bytes (Literal content) rest
literal_taken bytes content rest h e ends =
    let q = quoted_takes (drop 1 bytes) content rest e in
    record {
      parts = first_quote bytes h ∙ ap (λ (x : List ℕ). 39 ∷ x) (q.0 ∙ sym (append_assoc (doubled content) (39 ∷ []) rest));
      part = tt;
      ends = ends;
    }

by_quoted : (o : Option (List ℕ × List ℕ)) (bytes : List ℕ) (w : Word) (rest : List ℕ) → begins is_quote bytes ≡ true → quoted_at (drop 1 bytes) ≡ o → literal_at o ≡ Some (w, rest) → Taken bytes w rest
by_quoted None bytes w rest h e found = absurd cc
by_quoted (Some q) bytes w rest h e found =
    elim (chosen (begins is_word_byte q.1) None (Some (Literal q.0, q.1)) (Some (w, rest)) found) [
      | inl k ↦ absurd (cc k.1)
      | inr k ↦ subst (λ (y : Word × List ℕ). Taken bytes y.0 y.1) (some_is (Literal q.0, q.1) (w, rest) k.1) (literal_taken bytes q.0 q.1 h e k.0)
    ]

plain_taken : (b : ℕ) (bs : List ℕ) → is_blank b ≡ false → is_quote b ≡ false → Taken (b ∷ bs) (Plain (take_while is_word_byte (b ∷ bs))) (drop (prefix_len is_word_byte (b ∷ bs)) (b ∷ bs))
plain_taken b bs blank quote =
    let n = prefix_len is_word_byte (b ∷ bs) in
    let first = word_byte b blank in
    let long : n ≡ suc (prefix_len is_word_byte bs) = rw first (one_add (prefix_len is_word_byte bs)) in
    let word : take n (b ∷ bs) ≡ b ∷ take (prefix_len is_word_byte bs) bs = ap (λ (m : ℕ). take m (b ∷ bs)) long in
    let fronts : IsTrue (list_all is_word_byte (take n (b ∷ bs))) = front_passes is_word_byte (b ∷ bs) in
    record {
      parts = sym (take-append-drop n (b ∷ bs));
      part = (omega (arith, length-prefix_len is_word_byte (b ∷ bs), long), fronts, ap (begins is_quote) word ∙ quote);
      ends = stops is_word_byte (b ∷ bs);
    }

word_takes : (bytes : List ℕ) (w : Word) (rest : List ℕ) → begins is_blank bytes ≡ false → 0 < length bytes → word_at bytes ≡ Some (w, rest) → Taken bytes w rest
word_takes [] w rest blank some e = absurd (omega arith)
word_takes (b ∷ bs) w rest blank some e =
    let n = prefix_len is_word_byte (b ∷ bs) in
    elim (chosen (is_quote b) (literal_at (quoted_at bs)) (Some (Plain (take_while is_word_byte (b ∷ bs)), drop n (b ∷ bs))) (Some (w, rest)) e) [
      | inl h ↦ by_quoted (quoted_at bs) (b ∷ bs) w rest h.0 refl h.1
      | inr h ↦ subst (λ (y : Word × List ℕ). Taken (b ∷ bs) y.0 y.1) (some_is (Plain (take_while is_word_byte (b ∷ bs)), drop n (b ∷ bs)) (w, rest) h.1) (plain_taken b bs blank h.0)
    ]

-- ---- one word after another

reads : ReadsWritten word_at written IsWord WordEnds
reads = record { starts = starts; takes = word_takes; again = word_again }

-- the words of a line are those, and no others
pub words_are : (line : List ℕ) (ws : List Word) → words_of line ≡ Some ws → AreWords ws line
words_are line ws e = parts_are word_at written IsWord WordEnds reads line ws e

pub are_words : (line : List ℕ) (ws : List Word) → AreWords ws line → words_of line ≡ Some ws
are_words line ws h = are_parts word_at written IsWord WordEnds reads line ws h
