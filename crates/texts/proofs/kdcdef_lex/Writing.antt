-- The plain text of statements spells them.
use Rattle.std.proofs.Common.{◌≡◌, ℕ, zero, suc, ◌+◌, ◌-◌, ◌*◌, ◌/◌, ◌%◌, ◌<◌, ◌≤◌, ◌&&◌, Bool, true, false, not, eqb, ltb, List, [], ◌∷◌, ◌++◌, length, take, drop, Option, Some, None, refl, sym, ap}
use Rattle.std.proofs.Common.{◌∙◌, subst, arith, inl, inr, append_assoc, length-append}
use Rattle.std.specs.Prelude.{slice_index}
use Rattle.std.specs.List.{list_all, position_or_len}
use Rattle.std.specs.Char.{digit_value}
use Rattle.std.specs.Str.Lines.{lines, strip_carriage_return}
use Rattle.std.proofs.lemmas.Bool.{cases_Bool, eqb-true, ltb-true, ltb-false, lt-ltb}
use Rattle.std.proofs.lemmas.Bool.Decides.{nat_tests}
use Rattle.std.proofs.lemmas.List.{take_at, drop_at, append-nil}
use Rattle.kd_base.specs.Text.{hex_digit as hex_of}
use Rattle.kd_base.specs.FrontsLaws.{split_there}
use Rattle.kd_base.specs.ToolsLaws.{both_true, true_both}
use Rattle.texts.specs.declared.kdcdef_lex.token.Token.{Token}
use Rattle.texts.specs.declared.kdcdef_lex.token.Token.TheVariants as tokens
use Rattle.texts.specs.declared.kdcdef_lex.group.Group.{Group}
use Rattle.texts.specs.declared.kdcdef_lex.statement.RawItem.{RawItem}
use Rattle.texts.specs.declared.kdcdef_lex.statement.RawItem.TheVariants as items
use Rattle.texts.specs.declared.kdcdef_lex.statement.RawValue.{RawValue}
use Rattle.texts.specs.declared.kdcdef_lex.statement.RawValue.TheVariants as values
use Rattle.texts.specs.declared.kdcdef_lex.statement.RawOperand.{RawOperand}
use Rattle.texts.specs.declared.kdcdef_lex.statement.RawStatement.{RawStatement}
use Rattle.texts.specs.Blanks.{is_blank}
use Rattle.texts.specs.Lines.{is_word_byte}
use Rattle.texts.specs.Quotes.{is_quote, doubled}
use Rattle.texts.specs.QuotedValues.{hex_digit, hex_bytes, quoted_value}
use Rattle.texts.specs.Reading.{is_text_byte}
use Rattle.texts.specs.Grammar.{written, IsToken, Ends, AreTokens, IsItem, AreItems, IsValue, IsKeyed, AreOperands, IsStatement}
use Rattle.texts.specs.Spelling.{IsGroup, Cut, Spells, AllSay}
use Rattle.texts.specs.Writing.{hex_written, quoted_token, item_tokens, items_tokens, value_tokens, keyed_tokens, operands_tokens, statement_tokens, with_blanks, plain_line, plain_text, is_byte}
use Rattle.texts.specs.Writing.{IsWord, ItemIsWritable, ItemsAreWritable, ValueIsWritable, KeyedIsWritable, OperandsAreWritable, IsWritable, AreWritable, PlainTextSpells}
use Rattle.texts.specs.LinesLaws.{is_line_feed, first_line}

-- ---- hexadecimal digits

small_digit : (n : ℕ) → n < 10 → digit_value (48 + n) ≡ n
small_digit n h = grind (arith, nat_tests)

large_digit : (n : ℕ) → 10 ≤ n → n < 16 → digit_value (87 + n) ≡ n
large_digit n low h = grind (arith, nat_tests)

digit_back : (n : ℕ) → n < 16 → hex_digit (hex_of n) ≡ Some n
digit_back n h =
    let within = lt-ltb n 16 h in
    elim (cases_Bool (ltb n 10)) [
      | inl k ↦ rw (k, small_digit n (ltb-true n 10 k), within) refl
      | inr k ↦ rw (k, large_digit n (ltb-false n 10 k) h, within) refl
    ]

-- the digits of the first byte, and the bytes after it
first_digits : (b : ℕ) (bytes : List ℕ) → list_all is_byte (b ∷ bytes) ≡ true → (b / 16 < 16) × (b % 16 < 16) × (list_all is_byte bytes ≡ true)
first_digits b bytes h =
    let a = both_true (is_byte b) (list_all is_byte bytes) h in
    let small : b < 256 = ltb-true b 256 a.0 in
    (omega arith, omega arith, a.1)

hex_back : (bytes : List ℕ) → list_all is_byte bytes ≡ true → hex_bytes (hex_written bytes) ≡ Some bytes
hex_back [] h = refl
hex_back (b ∷ bytes) h =
    let a = first_digits b bytes h in
    let same : 16 * (b / 16) + b % 16 ≡ b = omega arith in
    rw (digit_back (b / 16) a.0, digit_back (b % 16) a.1, hex_back bytes a.2, same) refl

-- ---- the tokens are those of the statement

abbrev IsQuotedSo : List ℕ → Token → Type 0
IsQuotedSo bytes t = (form content : List ℕ) × (t ≡ tokens.Quoted form content) × (quoted_value form content ≡ Some bytes)

quoted_is : (bytes : List ℕ) → list_all is_byte bytes ≡ true → IsQuotedSo bytes (quoted_token bytes)
quoted_is bytes h =
    elim (cases_Bool (list_all is_text_byte bytes)) [
      | inl k ↦ rw k ([], bytes, refl, refl)
      | inr k ↦ rw k (88 ∷ [], hex_written bytes, refl, hex_back bytes h)
    ]

abbrev list_of : Token → List Token
list_of t = t ∷ []

item_is : (i : Option RawItem) → ItemIsWritable i → IsItem i (item_tokens i)
item_is None h = refl
item_is (Some (items.Word w)) h = refl
item_is (Some (items.Quoted q)) h = let a = quoted_is q h in (a.0, a.1, ap list_of a.2, a.3)

items_are : (is : List (Option RawItem)) → ItemsAreWritable is → AreItems is (items_tokens is)
items_are [] h = absurd h
items_are (i ∷ []) h = item_is i h
items_are (i ∷ j ∷ is) h = (item_tokens i, items_tokens (j ∷ is), refl, item_is i h.0, items_are (j ∷ is) h.1)

value_is : (v : RawValue) → ValueIsWritable v → IsValue v (value_tokens v)
value_is (values.Word w) h = refl
value_is (values.Quoted q) h = let a = quoted_is q h in (a.0, a.1, ap list_of a.2, a.3)
value_is (values.Listed is) h = (items_tokens is, refl, items_are is h)

keyed_is : (key : Option (List ℕ)) (v : RawValue) → KeyedIsWritable key v → IsKeyed key v (keyed_tokens key v)
keyed_is None v h = value_is v h
keyed_is (Some key) v h = (value_tokens v, refl, value_is v h.1)

operands_are : (os : List RawOperand) → OperandsAreWritable os → AreOperands os (operands_tokens os)
operands_are [] h = refl
operands_are (o ∷ []) h = keyed_is o.key o.value h.0
operands_are (o ∷ p ∷ os) h = (keyed_tokens o.key o.value, operands_tokens (p ∷ os), refl, keyed_is o.key o.value h.0, operands_are (p ∷ os) h.1)

statement_is : (s : RawStatement) → IsWritable s → IsStatement s (statement_tokens s)
statement_is s h = (operands_tokens s.operands, refl, operands_are s.operands h.operands)

-- ---- each token may be in a text

pub record MayStand (t : Token) : Type 0 where
  pub token : IsToken t
  pub text : list_all is_text_byte (written t) ≡ true

abbrev AllMayStand : List Token → Type 0
AllMayStand [] = Unit {0}
AllMayStand (t ∷ ts) = MayStand t × AllMayStand ts

stand_then : (xs ys : List Token) → AllMayStand xs → AllMayStand ys → AllMayStand (xs ++ ys)
stand_then [] ys h k = k
stand_then (x ∷ xs) ys h k = (h.0, stand_then xs ys h.1 k)

text_then : (xs ys : List ℕ) → list_all is_text_byte xs ≡ true → list_all is_text_byte ys ≡ true → list_all is_text_byte (xs ++ ys) ≡ true
text_then [] ys h k = k
text_then (x ∷ xs) ys h k =
    let a = both_true (is_text_byte x) (list_all is_text_byte xs) h in
    true_both (is_text_byte x) (list_all is_text_byte (xs ++ ys)) a.0 (text_then xs ys a.1 k)

doubled_text : (bytes : List ℕ) → list_all is_text_byte bytes ≡ true → list_all is_text_byte (doubled bytes) ≡ true
doubled_text [] h = refl
doubled_text (b ∷ bytes) h =
    let a = both_true (is_text_byte b) (list_all is_text_byte bytes) h in
    elim (cases_Bool (is_quote b)) [
      | inl k ↦ rw k (doubled_text bytes a.1)
      | inr k ↦ rw k (true_both (is_text_byte b) (list_all is_text_byte (doubled bytes)) a.0 (doubled_text bytes a.1))
    ]

hex_digit_text : (n : ℕ) → n < 16 → is_text_byte (hex_of n) ≡ true
hex_digit_text n h = grind (arith, nat_tests)

hex_text : (bytes : List ℕ) → list_all is_byte bytes ≡ true → list_all is_text_byte (hex_written bytes) ≡ true
hex_text [] h = refl
hex_text (b ∷ bytes) h =
    let a = first_digits b bytes h in
    true_both (is_text_byte (hex_of (b / 16))) (is_text_byte (hex_of (b % 16)) && list_all is_text_byte (hex_written bytes)) (hex_digit_text (b / 16) a.0)
    (true_both (is_text_byte (hex_of (b % 16))) (list_all is_text_byte (hex_written bytes)) (hex_digit_text (b % 16) a.1) (hex_text bytes a.2))

in_quotes : (form content : List ℕ) → list_all is_word_byte form ≡ true → list_all is_text_byte form ≡ true → list_all is_text_byte content ≡ true → MayStand (tokens.Quoted form content)
in_quotes form content word text h =
    record {
      token = word;
      text = text_then form (39 ∷ (doubled content ++ 39 ∷ [])) text (text_then (doubled content) (39 ∷ []) (doubled_text content h) refl);
    }

quoted_stands : (bytes : List ℕ) → list_all is_byte bytes ≡ true → MayStand (quoted_token bytes)
quoted_stands bytes h =
    elim (cases_Bool (list_all is_text_byte bytes)) [
      | inl k ↦ rw k (in_quotes [] bytes refl refl k)
      | inr k ↦ rw k (in_quotes (88 ∷ []) (hex_written bytes) refl refl (hex_text bytes h))
    ]

word_stands : (word : List ℕ) → IsWord word → MayStand (tokens.Word word)
word_stands word h = record { token = (h.0, h.1); text = h.2 }

mark_stands : (t : Token) → IsToken t → list_all is_text_byte (written t) ≡ true → MayStand t
mark_stands t h k = record { token = h; text = k }

item_stands : (i : Option RawItem) → ItemIsWritable i → AllMayStand (item_tokens i)
item_stands None h = tt
item_stands (Some (items.Word w)) h = (word_stands w h, tt)
item_stands (Some (items.Quoted q)) h = (quoted_stands q h, tt)

items_stand : (is : List (Option RawItem)) → ItemsAreWritable is → AllMayStand (items_tokens is)
items_stand [] h = absurd h
items_stand (i ∷ []) h = item_stands i h
items_stand (i ∷ j ∷ is) h =
    stand_then (item_tokens i) (tokens.Comma ∷ items_tokens (j ∷ is)) (item_stands i h.0) (mark_stands tokens.Comma tt refl, items_stand (j ∷ is) h.1)

value_stands : (v : RawValue) → ValueIsWritable v → AllMayStand (value_tokens v)
value_stands (values.Word w) h = (word_stands w h, tt)
value_stands (values.Quoted q) h = (quoted_stands q h, tt)
value_stands (values.Listed is) h =
    (mark_stands tokens.Open tt refl, stand_then (items_tokens is) (tokens.Close ∷ []) (items_stand is h) (mark_stands tokens.Close tt refl, tt))

keyed_stands : (key : Option (List ℕ)) (v : RawValue) → KeyedIsWritable key v → AllMayStand (keyed_tokens key v)
keyed_stands None v h = value_stands v h
keyed_stands (Some key) v h = (word_stands key h.0, (mark_stands tokens.Equals tt refl, value_stands v h.1))

operands_stand : (os : List RawOperand) → OperandsAreWritable os → AllMayStand (operands_tokens os)
operands_stand [] h = tt
operands_stand (o ∷ []) h = keyed_stands o.key o.value h.0
operands_stand (o ∷ p ∷ os) h =
    stand_then (keyed_tokens o.key o.value) (tokens.Comma ∷ operands_tokens (p ∷ os)) (keyed_stands o.key o.value h.0) (mark_stands tokens.Comma tt refl, operands_stand (p ∷ os) h.1)

statement_stands : (s : RawStatement) → IsWritable s → AllMayStand (statement_tokens s)
statement_stands s h = (word_stands s.keyword h.keyword, operands_stand s.operands h.operands)

-- ---- the line is text, and spells the tokens

line_text : (ts : List Token) → AllMayStand ts → list_all is_text_byte (with_blanks ts) ≡ true
line_text [] h = refl
line_text (t ∷ ts) h = text_then (written t) (32 ∷ with_blanks ts) h.0.text (line_text ts h.1)

ends_at_blank : (t : Token) (rest : List ℕ) → Ends t (32 ∷ rest)
ends_at_blank (tokens.Word w) rest = (refl, refl)
ends_at_blank (tokens.Quoted f c) rest = refl
ends_at_blank mark rest = tt

-- with blanks before them
line_tokens : (gap : List ℕ) (ts : List Token) → list_all is_blank gap ≡ true → AllMayStand ts → AreTokens ts (gap ++ with_blanks ts)
line_tokens gap [] h stand = rw append-nil h
line_tokens gap (t ∷ ts) h stand = (gap, 32 ∷ with_blanks ts, refl, h, stand.0.token, ends_at_blank t (with_blanks ts), line_tokens (32 ∷ []) ts refl stand.1)

line_spells : (s : RawStatement) → IsWritable s → Spells (plain_line s) s
line_spells s h =
    let stand = statement_stands s h in
    (line_text (statement_tokens s) stand, statement_tokens s, line_tokens [] (statement_tokens s) refl stand, statement_is s h)

-- ---- the lines of the text

abbrev is_no_lf : ℕ → Bool
is_no_lf b = not (is_line_feed b)

text_no_lf : (b : ℕ) → is_text_byte b ≡ true → is_no_lf b ≡ true
text_no_lf b h =
    elim (cases_Bool (is_line_feed b)) [
      | inl k ↦ absurd (cc (subst (λ (x : ℕ). is_text_byte x ≡ true) (eqb-true b 10 k) h))
      | inr k ↦ rw k refl
    ]

no_lf : (line : List ℕ) → list_all is_text_byte line ≡ true → list_all is_no_lf line ≡ true
no_lf [] h = refl
no_lf (b ∷ line) h =
    let a = both_true (is_text_byte b) (list_all is_text_byte line) h in
    true_both (is_no_lf b) (list_all is_no_lf line) (text_no_lf b a.0) (no_lf line a.1)

-- no byte of a text is a carriage return
no_return : (b : ℕ) → is_text_byte b ≡ true → eqb b 13 ≡ false
no_return b h =
    elim (cases_Bool (eqb b 13)) [
      | inl k ↦ absurd (cc (subst (λ (x : ℕ). is_text_byte x ≡ true) (eqb-true b 13 k) h))
      | inr k ↦ k
    ]

at_text : (line : List ℕ) (i : ℕ) → list_all is_text_byte line ≡ true → eqb (slice_index line i) 13 ≡ false
at_text [] i h = refl
at_text (b ∷ line) zero h = no_return b (both_true (is_text_byte b) (list_all is_text_byte line) h).0
at_text (b ∷ line) (suc i) h = at_text line i (both_true (is_text_byte b) (list_all is_text_byte line) h).1

unstripped : (line : List ℕ) → list_all is_text_byte line ≡ true → strip_carriage_return line ≡ line
unstripped line h = rw (at_text line (length line - 1) h) refl

-- the first line of a text, where its bytes and those after it are known
first_so : (text line rest : List ℕ) (p : ℕ) → p ≡ length line → take p text ≡ line → drop (p + 1) text ≡ rest → list_all is_text_byte line ≡ true
    → strip_carriage_return (take p text) ∷ lines (drop (p + 1) text) ≡ line ∷ lines rest
first_so text line rest p e front back h = rw (front, back, unstripped line h) refl

first_of_text : (line rest : List ℕ) → list_all is_text_byte line ≡ true → lines (line ++ 10 ∷ rest) ≡ line ∷ lines rest
first_of_text line rest h =
    let text = line ++ 10 ∷ rest in
    let at : position_or_len is_line_feed text ≡ length line = split_there is_no_lf line (10 ∷ rest) (no_lf line h) refl in
    let lt : position_or_len is_line_feed text < length text = omega (arith, length-append line (10 ∷ rest)) in
    let front : take (position_or_len is_line_feed text) text ≡ line = take_at line (10 ∷ rest) (position_or_len is_line_feed text) (sym at) in
    let long : length (line ++ 10 ∷ []) ≡ position_or_len is_line_feed text + 1 = omega (arith, length-append line (10 ∷ [])) in
    let back : drop (position_or_len is_line_feed text + 1) text ≡ rest =
    ap (drop (position_or_len is_line_feed text + 1)) (sym (append_assoc line (10 ∷ []) rest)) ∙ drop_at (line ++ 10 ∷ []) rest (position_or_len is_line_feed text + 1) long in
    first_line text lt ∙ first_so text line rest (position_or_len is_line_feed text) at front back h

-- ---- the statements of the text

line_group : ℕ → RawStatement → Group
line_group n s = record { first = n; last = n; text = plain_line s; dangling = false }

plain_groups : ℕ → List RawStatement → List Group
plain_groups n [] = []
plain_groups n (s ∷ ss) = line_group n s ∷ plain_groups (n + 1) ss

plain_cut : (ss : List RawStatement) (n : ℕ) → AreWritable n ss → Cut n (lines (plain_text ss)) (plain_groups n ss)
unfolding plain_groups line_group
plain_cut [] n h = refl
plain_cut (s ∷ ss) n h =
    let text = (line_spells s h.0).0 in
    let group : IsGroup (n + 0) (plain_line s ∷ []) (lines (plain_text ss)) (line_group n s) =
    record { begins = h.0.begins; first = omega arith; last = omega arith; joined = inl ((h.0.ends, refl), refl) } in
    subst (λ (all : List (List ℕ)). Cut n all (plain_groups n (s ∷ ss))) (sym (first_of_text (plain_line s) (plain_text ss) text))
    ([], plain_line s ∷ [], lines (plain_text ss), refl, refl, group, plain_cut ss (n + 1) h.2)

plain_say : (ss : List RawStatement) (n : ℕ) → AreWritable n ss → AllSay (plain_groups n ss) ss
unfolding plain_groups line_group
plain_say [] n h = tt
plain_say (s ∷ ss) n h = ((refl, line_spells s h.0, h.1), plain_say ss (n + 1) h.2)

pub plain_spells : PlainTextSpells
plain_spells ss h short = (short, plain_groups 1 ss, plain_cut ss 1 h, plain_say ss 1 h)
