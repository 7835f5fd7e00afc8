-- Laws: words and lines are read as they were written.
use Rattle.std.specs.Prelude.{◌≡◌, refl, ℕ, zero, suc, ◌-◌, ◌/◌, ◌%◌, ◌^◌, ◌<◌, ◌≤◌, Bool, true, false, ◌&&◌, ◌==◌, nat_le, List, [], ◌∷◌, ◌++◌, length, flat_map, codes, decimal, slice_index, take}
use Rattle.std.specs.Prelude.{Option, Some, None, Result, Ok, Err, bytes_eq, cond, All}
use Rattle.std.proofs.Common.{sym, ap, subst, ◌∙◌, inl, inr, arith, append_assoc, append-nil, ne_eqb}
use Rattle.std.proofs.lemmas.Bool.{cases_eq}
use Rattle.std.proofs.lemmas.Bool.Decides.{nat_tests}
use Rattle.std.proofs.lemmas.Fmt.{decimal_is_IsNumeral, length-decimal-le}
use Rattle.std.proofs.lemmas.List.Elements.{All-nil, All-cons}
use Rattle.std.proofs.lemmas.List.Splits.{slice_split_none, slice_split_at, length-slice_split}
use Rattle.std.specs.List.{AllByRecursion as Each, list_all, slice_split}
use Rattle.std.specs.Result.{result_ok}
use Rattle.std.specs.Str.Lines.{lines, lines_of_parts, strip_carriage_return}
use Rattle.std.specs.Str.Parse.{digits_value, AllDigits}
use Rattle.std.specs.Char.{digit_value}
use Rattle.hex.proofs.HexLemmas.{decode_of-encode_lower, decode_of-ok, decode_sized-twice, decode_sized-ok, length-encode_with}
use Rattle.hex.specs.Hex.{lower_digits, encode_with, encode_lower, decode_of, decode_sized}
use Rattle.hex.specs.declared.error.FromHexError.{FromHexError}
use Rattle.kd_base.specs.Text.{is_digit, is_space, is_name_byte, IsName, name_of, decimal_of}
use Rattle.kd_base.specs.ToolsLaws.{both_true, true_both, chosen, some_is}
use Rattle.record_codec.specs.Fields.{AreBytes}
use Rattle.audit_trail.specs.Lines.{words, is_hex_digit, bytes_of, so_many_bytes, some_bytes, value_of}
use Rattle.audit_trail.specs.Printed.{line, value_word}

-- ---- bytes of words

-- a byte that is no space and no control byte
abbrev pub IsBlack : ℕ → Type 0
IsBlack b = 32 < b

-- a word
abbrev pub AreBlack : List ℕ → Type 0
AreBlack bytes = Each IsBlack bytes

abbrev pub AreWords : List (List ℕ) → Type 0
AreWords ws = Each AreBlack ws

-- a space before each word
abbrev spaced : List (List ℕ) → List ℕ
spaced ws = flat_map (λ (word : List ℕ). 32 ∷ word) ws

not_space : (b : ℕ) → IsBlack b → is_space b ≡ false
not_space b h = ne_eqb b 32 (λ e. omega (arith, e, h))

no_spaces : (w : List ℕ) → AreBlack w → All (λ b. is_space b ≡ false) w
no_spaces [] h = All-nil (λ b. is_space b ≡ false)
no_spaces (b ∷ w) h = All-cons (λ b. is_space b ≡ false) b w (not_space b h.0) (no_spaces w h.1)

words_are : (w : List ℕ) (ws : List (List ℕ)) → AreBlack w → AreWords ws → words (w ++ spaced ws) ≡ w ∷ ws
words_are w [] h hs = ap words (append-nil w) ∙ slice_split_none is_space w (no_spaces w h)
words_are w (v ∷ vs) h hs = slice_split_at is_space w 32 (v ++ spaced vs) (no_spaces w h) refl ∙ ap (λ (l : List (List ℕ)). w ∷ l) (words_are v vs hs.0 hs.1)

-- ---- lines

-- no control byte
abbrev IsPrinted : ℕ → Type 0
IsPrinted b = 31 < b

printed_too : (xs ys : List ℕ) → AreBlack xs → Each IsPrinted ys → Each IsPrinted (xs ++ ys)
printed_too [] ys h k = k
printed_too (x ∷ xs) ys h k = (omega (arith, h.0), printed_too xs ys h.1 k)

spaced_printed : (ws : List (List ℕ)) → AreWords ws → Each IsPrinted (spaced ws)
spaced_printed [] h = tt
spaced_printed (w ∷ ws) h = (omega arith, printed_too w (spaced ws) h.0 (spaced_printed ws h.1))

abbrev is_feed : ℕ → Bool
is_feed b = b == 10

no_feeds : (l : List ℕ) → Each IsPrinted l → All (λ b. is_feed b ≡ false) l
no_feeds [] h = All-nil (λ b. is_feed b ≡ false)
no_feeds (b ∷ l) h = All-cons (λ b. is_feed b ≡ false) b l (ne_eqb b 10 (λ e. omega (arith, e, h.0))) (no_feeds l h.1)

one_more_line : (x : List ℕ) (parts : List (List ℕ)) → 0 < length parts → lines_of_parts (x ∷ parts) ≡ strip_carriage_return x ∷ lines_of_parts parts
one_more_line x [] l = absurd (omega (arith, l))
one_more_line x (y ∷ more) l = refl

read_printed : (l : List ℕ) (k : ℕ) → Each IsPrinted l → slice_index l k ≡ 13 → ⊥
read_printed [] k h e = omega (arith, e)
read_printed (b ∷ l) zero h e = omega (arith, e, h.0)
read_printed (b ∷ l) (suc k) h e = read_printed l k h.1 e

not_stripped : (l : List ℕ) → Each IsPrinted l → strip_carriage_return l ≡ l
not_stripped l h = ap (λ (b : Bool). cond b (take (length l - 1) l) l) (ne_eqb (slice_index l (length l - 1)) 13 (read_printed l (length l - 1) h))

-- the first line of a text
first_is : (l rest : List ℕ) → Each IsPrinted l → lines (l ++ 10 ∷ rest) ≡ l ∷ lines rest
first_is l rest h =
    ap lines_of_parts (slice_split_at is_feed l 10 rest (no_feeds l h) refl)
    ∙ one_more_line l (slice_split is_feed rest) (omega (arith, length-slice_split is_feed rest))
    ∙ ap (λ (x : List ℕ). x ∷ lines rest) (not_stripped l h)

-- a keyword and words, without the end of the line
abbrev pub bare : List ℕ → List (List ℕ) → List ℕ
bare w ws = w ++ spaced ws

pub line_is : (w : List ℕ) (ws : List (List ℕ)) (rest : List ℕ) → AreBlack w → AreWords ws → lines (line w ws ++ rest) ≡ bare w ws ∷ lines rest
line_is w ws rest h hs =
    ap lines (append_assoc w (spaced ws ++ 10 ∷ []) rest ∙ ap (λ (l : List ℕ). w ++ l) (append_assoc (spaced ws) (10 ∷ []) rest) ∙ sym (append_assoc w (spaced ws) (10 ∷ rest)))
    ∙ first_is (bare w ws) rest (printed_too w (spaced ws) h (spaced_printed ws hs))

pub words_of_line : (w : List ℕ) (ws : List (List ℕ)) → AreBlack w → AreWords ws → words (bare w ws) ≡ w ∷ ws
words_of_line = words_are

-- ---- numbers

digit_black : (c : ℕ) → digit_value c < 10 → is_digit c ≡ true
digit_black c h = grind (arith, nat_tests)

digits_are : (ds : List ℕ) → AllDigits 10 ds → list_all is_digit ds ≡ true
digits_are [] h = refl
digits_are (c ∷ cs) h = true_both (is_digit c) (list_all is_digit cs) (digit_black c h.0) (digits_are cs h.1)

black_digit : (c : ℕ) → is_digit c ≡ true → IsBlack c
black_digit c h = grind (arith, nat_tests)

black_digits : (ds : List ℕ) → list_all is_digit ds ≡ true → AreBlack ds
black_digits [] h = tt
black_digits (c ∷ cs) h = let parts = both_true (is_digit c) (list_all is_digit cs) h in (black_digit c parts.0, black_digits cs parts.1)

decimal_digits : (n : ℕ) → n < 10 ^ 18 → list_all is_digit (decimal n) ≡ true
decimal_digits n h = digits_are (decimal n) (decimal_is_IsNumeral n (omega (arith, h))).0.1

pub decimal_black : (n : ℕ) → n < 10 ^ 18 → AreBlack (decimal n)
decimal_black n h = black_digits (decimal n) (decimal_digits n h)

few_digits : (ds : List ℕ) → 1 ≤ length ds → length ds ≤ 18 → list_all is_digit ds ≡ true → decimal_of ds ≡ Some (digits_value 10 ds)
few_digits ds some few all =
    ap (λ (b : Bool). cond b (Some (digits_value 10 ds)) None) (true_both (nat_le 1 (length ds) && nat_le (length ds) 18) (list_all is_digit ds) (true_both (nat_le 1 (length ds)) (nat_le (length ds) 18) (grind (arith, nat_tests)) (grind (arith, nat_tests))) all)

pub decimal_back : (n : ℕ) → n < 10 ^ 18 → decimal_of (decimal n) ≡ Some n
decimal_back n h =
    let is = decimal_is_IsNumeral n (omega (arith, h)) in
    few_digits (decimal n) is.0.0 (length-decimal-le 18 n (omega arith) h (omega (arith, h))) (decimal_digits n h) ∙ ap (λ (m : ℕ). let o : Option ℕ = Some m in o) is.1

-- ---- names

name_black : (b : ℕ) → is_name_byte b ≡ true → IsBlack b
name_black b h = grind (arith, nat_tests)

names_black : (w : List ℕ) → list_all is_name_byte w ≡ true → AreBlack w
names_black [] h = tt
names_black (b ∷ w) h = let parts = both_true (is_name_byte b) (list_all is_name_byte w) h in (name_black b parts.0, names_black w parts.1)

-- a name is a word, and is read as that name
pub name_word : (name : List ℕ) → IsName name → AreBlack name × (name_of name ≡ Some name)
name_word name h = (
  names_black name h.2,
  ap (λ (b : Bool). cond b (Some name) None)
      (true_both (nat_le 1 (length name) && nat_le (length name) 8) (list_all is_name_byte name) (true_both (nat_le 1 (length name)) (nat_le (length name) 8) (grind (arith, nat_tests)) (grind (arith, nat_tests))) h.2),
)

-- ---- hexadecimal

-- the test of the first so many digits
abbrev all_hex : ℕ → Bool
all_hex zero = true
all_hex (suc n) = is_hex_digit (slice_index lower_digits n) && all_hex n

hex_below : (n d : ℕ) → all_hex n ≡ true → d < n → is_hex_digit (slice_index lower_digits d) ≡ true
hex_below zero d h lt = absurd (omega (arith, lt))
hex_below (suc n) d h lt =
    let parts = both_true (is_hex_digit (slice_index lower_digits n)) (all_hex n) h in
    elim (cases_eq d n) [
      | inl e ↦ ap (λ (m : ℕ). is_hex_digit (slice_index lower_digits m)) e ∙ parts.0
      | inr ne ↦ hex_below n d parts.1 (omega (arith, lt, ne))
    ]

digit_is_hex : (d : ℕ) → d < 16 → is_hex_digit (slice_index lower_digits d) ≡ true
digit_is_hex d h = hex_below 16 d refl h

encoded_hex : (bytes : List ℕ) → AreBytes bytes → list_all is_hex_digit (encode_lower bytes) ≡ true
unfolding encode_with
encoded_hex [] h = refl
encoded_hex (b ∷ bytes) h =
    let byte : b < 256 = h 0 in
    true_both (is_hex_digit (slice_index lower_digits (b / 16))) (is_hex_digit (slice_index lower_digits (b % 16)) && list_all is_hex_digit (encode_lower bytes)) (digit_is_hex (b / 16) (omega (arith, byte)))
    (true_both (is_hex_digit (slice_index lower_digits (b % 16))) (list_all is_hex_digit (encode_lower bytes)) (digit_is_hex (b % 16) (omega (arith, byte))) (encoded_hex bytes (λ k. h (suc k))))

hex_black : (b : ℕ) → is_hex_digit b ≡ true → IsBlack b
hex_black b h = grind (arith, nat_tests)

all_hex_black : (w : List ℕ) → list_all is_hex_digit w ≡ true → AreBlack w
all_hex_black [] h = tt
all_hex_black (b ∷ w) h = let parts = both_true (is_hex_digit b) (list_all is_hex_digit w) h in (hex_black b parts.0, all_hex_black w parts.1)

pub encoded_black : (bytes : List ℕ) → AreBytes bytes → AreBlack (encode_lower bytes)
encoded_black bytes h = all_hex_black (encode_lower bytes) (encoded_hex bytes h)

pub bytes_back : (bytes : List ℕ) → AreBytes bytes → bytes_of (encode_lower bytes) ≡ Some bytes
bytes_back bytes h =
    ap (λ (b : Bool). cond b (result_ok (decode_of (encode_lower bytes))) None) (encoded_hex bytes h)
    ∙ ap (λ (r : Result (List ℕ) FromHexError). result_ok r) (decode_of-encode_lower bytes h)

pub so_many_back : (n : ℕ) (bytes : List ℕ) → length bytes ≡ n → AreBytes bytes → so_many_bytes n (encode_lower bytes) ≡ Some bytes
so_many_back n bytes len h =
    ap (λ (b : Bool). cond b (result_ok (decode_sized (encode_lower bytes) n)) None) (encoded_hex bytes h)
    ∙ ap (λ (r : Result (List ℕ) FromHexError). result_ok r) (decode_sized-twice (encode_lower bytes) n (omega (arith, length-encode_with lower_digits bytes, len)) ∙ decode_of-encode_lower bytes h)

neither : (a : Bool) → (a && false) ≡ false
neither true = refl
neither false = refl

pub value_back : (bytes : List ℕ) → AreBytes bytes → value_of (value_word bytes) ≡ Some bytes
unfolding encode_with
value_back [] h = refl
value_back (b ∷ bytes) h =
    ap (λ (t : Bool). cond t (Some []) (some_bytes (encode_lower (b ∷ bytes)))) (neither (slice_index lower_digits (b / 16) == 45)) ∙ bytes_back (b ∷ bytes) h

pub value_black : (bytes : List ℕ) → AreBytes bytes → AreBlack (value_word bytes)
value_black [] h = (omega arith, tt)
value_black (b ∷ bytes) h = encoded_black (b ∷ bytes) h

-- what was decoded is bytes
decoded : (r : Result (List ℕ) FromHexError) (bytes : List ℕ) → result_ok r ≡ Some bytes → r ≡ Ok bytes
decoded (Ok x) bytes e = ap (λ (y : List ℕ). let r : Result (List ℕ) FromHexError = Ok y in r) (some_is x bytes e)
decoded (Err e) bytes is = absurd (cc is)

pub are_bytes : (word bytes : List ℕ) → bytes_of word ≡ Some bytes → AreBytes bytes
are_bytes word bytes e =
    elim (chosen (list_all is_hex_digit word) (result_ok (decode_of word)) None (Some bytes) e) [
      | inl h ↦ (decode_of-ok word bytes (decoded (decode_of word) bytes h.1)).3
      | inr h ↦ absurd (cc h.1)
    ]

pub so_many_are_bytes : (n : ℕ) (word bytes : List ℕ) → so_many_bytes n word ≡ Some bytes → AreBytes bytes
so_many_are_bytes n word bytes e =
    elim (chosen (list_all is_hex_digit word) (result_ok (decode_sized word n)) None (Some bytes) e) [
      | inl h ↦
          let ok = decoded (decode_sized word n) bytes h.1 in
          (decode_of-ok word bytes (sym (decode_sized-twice word n (decode_sized-ok word n bytes ok)) ∙ ok)).3
      | inr h ↦ absurd (cc h.1)
    ]

some_are_bytes : (word bytes : List ℕ) → some_bytes word ≡ Some bytes → AreBytes bytes
some_are_bytes [] bytes e = absurd (cc e)
some_are_bytes (d ∷ word) bytes e = are_bytes (d ∷ word) bytes e

pub value_is_bytes : (word bytes : List ℕ) → value_of word ≡ Some bytes → AreBytes bytes
value_is_bytes word bytes e =
    elim (chosen (bytes_eq word (codes "-")) (Some []) (some_bytes word) (Some bytes) e) [
      | inl h ↦ subst AreBytes (some_is [] bytes h.1) (λ k. omega arith)
      | inr h ↦ some_are_bytes word bytes h.1
    ]
