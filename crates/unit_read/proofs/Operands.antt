-- Operands: what is read is written so, and what is written so is read.
use Rattle.std.proofs.Common.{◌≡◌, ℕ, ◌+◌, ◌-◌, ◌≤◌, Bool, true, false, cond, ◌&&◌, List, [], ◌∷◌, ◌++◌, length, take, drop, Option, Some, None, refl, sym, ap, ◌∙◌, subst, inl, inr, arith}
use Rattle.std.proofs.Common.{length-append}
use Rattle.std.specs.Prelude.{IsTrue, bytes_eq, codes, nat_le}
use Rattle.std.specs.List.{list_all}
use Rattle.std.proofs.lemmas.Bool.{leb-true}
use Rattle.std.proofs.lemmas.Bool.Decides.{nat_tests}
use Rattle.std.proofs.lemmas.List.{take-append-drop, take_at, drop_at}
use Rattle.std.proofs.lemmas.Slice.Eq.{bytes_eq-Decides}
use Rattle.kd_base.specs.declared.words.Mode.{Mode}
use Rattle.kd_base.specs.declared.words.Mode.TheVariants.{Relative, Absolute}
use Rattle.kd_base.specs.Text.{is_digit, IsDecimal}
use Rattle.kd_base.specs.ToolsLaws.{chosen, both_true, true_both, some_is}
use Rattle.application_types.specs.declared.unit_types.action.HeaderName.{HeaderName}
use Rattle.application_types.specs.declared.unit_types.action.HeaderName.TheVariants.{Benid, Logter, Tacvg, Tacal, Crccc, Rlm}
use Rattle.application_types.specs.declared.unit_types.action.Operand.{Operand}
use Rattle.application_types.specs.declared.unit_types.action.Operand.TheVariants as operands
use Rattle.application_types.specs.declared.unit_types.action.Relation.{Relation}
use Rattle.application_types.specs.declared.unit_types.action.Relation.TheVariants.{Eq, Ne, Lt, Gt}
use Rattle.unit_read.specs.declared.word.Word.{Word}
use Rattle.unit_read.specs.declared.word.Word.TheVariants.{Plain, Literal}
use Rattle.unit_read.specs.Operands.{is_letter, is_name, are_digits, name_of, header_of, in_trim, trim_operand, named_operand, operand_of, relation_of, mode_of}
use Rattle.unit_read.specs.Grammar.{header_name, operand_word, IsOperand, IsName, relation_name, mode_name}

-- ---- tests

pub and_false : (a : Bool) → (a && false) ≡ false
and_false true = refl
and_false false = refl

pub are_within : (low high n : ℕ) → (nat_le low n && nat_le n high) ≡ true → (low ≤ n) × (n ≤ high)
are_within low high n h =
    let b = both_true (nat_le low n) (nat_le n high) h in
    (leb-true low n b.0, leb-true n high b.1)

pub within : (low high n : ℕ) → low ≤ n → n ≤ high → (nat_le low n && nat_le n high) ≡ true
within low high n least most = true_both (nat_le low n) (nat_le n high) (grind (arith, nat_tests)) (grind (arith, nat_tests))

-- bytes that pass a test, at least one and at most so many
abbrev AreFew : (ℕ → Bool) → ℕ → List ℕ → Type 0
AreFew test most bytes = (1 ≤ length bytes) × (length bytes ≤ most) × IsTrue (list_all test bytes)

pub are_few : (test : ℕ → Bool) (most : ℕ) (bytes : List ℕ) → (nat_le 1 (length bytes) && nat_le (length bytes) most && list_all test bytes) ≡ true → AreFew test most bytes
are_few test most bytes h =
    let a = both_true (nat_le 1 (length bytes) && nat_le (length bytes) most) (list_all test bytes) h in
    let b = are_within 1 most (length bytes) a.0 in
    (b.0, b.1, a.1)

pub few_again : (test : ℕ → Bool) (most : ℕ) (bytes : List ℕ) → AreFew test most bytes → (nat_le 1 (length bytes) && nat_le (length bytes) most && list_all test bytes) ≡ true
few_again test most bytes h = true_both (nat_le 1 (length bytes) && nat_le (length bytes) most) (list_all test bytes) (within 1 most (length bytes) h.0 h.1) h.2

-- ---- names

pub name_is : (w : Word) (name : List ℕ) → name_of w ≡ Some name → (w ≡ Plain name) × IsName name
name_is (Literal bytes) name e = absurd cc
name_is (Plain bytes) name e =
    elim (chosen (is_name bytes) (Some bytes) None (Some name) e) [
      | inl h ↦ subst (λ (x : List ℕ). let w : Word = Plain bytes in (w ≡ Plain x) × IsName x) (some_is bytes name h.1) (refl, h.0)
      | inr h ↦ absurd (cc h.1)
    ]

-- a word that is tested against the name of one thing, and then against others
pub named_by : {A : Type 0} (named : A → List ℕ) (word : List ℕ) (x : A) (others : Option A) (y : A) → (others ≡ Some y → word ≡ named y) → cond (bytes_eq word (named x)) (Some x) others ≡ Some y → word ≡ named y
named_by named word x others y more e =
    elim (chosen (bytes_eq word (named x)) (Some x) others (Some y) e) [
      | inl h ↦ (bytes_eq-Decides word (named x)).0 h.0 ∙ ap named (some_is x y h.1)
      | inr h ↦ more h.1
    ]

pub header_is : (name : List ℕ) (h : HeaderName) → header_of name ≡ Some h → name ≡ header_name h
header_is name h e =
    named_by header_name name Benid _ h
    (named_by header_name name Logter _ h
    (named_by header_name name Tacvg _ h
    (named_by header_name name Tacal _ h
    (named_by header_name name Crccc _ h
    (named_by header_name name Rlm None h (λ n. absurd (cc n))))))) e

-- ---- operands

no_letter : (b : ℕ) → is_digit b ≡ true → is_letter b ≡ false
no_letter b h = grind (arith, nat_tests)

digits_no_name : (digits : List ℕ) → 1 ≤ length digits → IsTrue (list_all is_digit digits) → is_name digits ≡ false
digits_no_name [] some h = absurd (omega arith)
digits_no_name (b ∷ digits) some h =
    let first = no_letter b (both_true (is_digit b) (list_all is_digit digits) h).0 in
    rw (first, and_false) refl

digits_again : (digits : List ℕ) → IsDecimal digits → are_digits digits ≡ true
digits_again digits h = few_again is_digit 18 digits h

digits_are : (digits : List ℕ) → are_digits digits ≡ true → IsDecimal digits
digits_are digits h = are_few is_digit 18 digits h

abbrev trimmed : List ℕ → List ℕ
trimmed name = codes "TRIM(" ++ (name ++ codes ")")

trim_no_name : (name : List ℕ) → is_name (trimmed name) ≡ false
trim_no_name name = and_false (nat_le (length (trimmed name)) 16 && true)

trim_no_digits : (name : List ℕ) → are_digits (trimmed name) ≡ false
trim_no_digits name = and_false (nat_le 1 (length (trimmed name)) && nat_le (length (trimmed name)) 18)

in_trim_at : (name word : List ℕ) (n : ℕ) → n ≡ length name → word ≡ trimmed name → length word ≡ n + 6 → in_trim word ≡ Some name
in_trim_at name word n is parts long =
    let least : nat_le 6 (length word) ≡ true = grind (arith, nat_tests) in
    let left : length word - 6 ≡ length name = omega arith in
    let behind : drop 5 word ≡ name ++ codes ")" = ap (drop 5) parts in
    let front : take 5 word ≡ codes "TRIM(" = ap (take 5) parts in
    rw (least, front, left, behind, drop_at name (codes ")") (length name) refl, take_at name (codes ")") (length name) refl) refl

trim_again : (name : List ℕ) → in_trim (trimmed name) ≡ Some name
trim_again name = in_trim_at name (trimmed name) (length name) refl refl (omega (arith, length-append (codes "TRIM(") (name ++ codes ")"), length-append name (codes ")")))

pub operand_again : (o : Operand) → IsOperand o → operand_of (operand_word o) ≡ Some o
operand_again (operands.Field name) h = rw (h.0, h.1) refl
operand_again (operands.Literal bytes) h = let t : nat_le (length bytes) 32767 ≡ true = grind (arith, nat_tests) in rw t refl
operand_again (operands.Digits digits) h = rw (digits_no_name digits h.0 h.2, digits_again digits h) refl
operand_again (operands.Header Benid) h = refl
operand_again (operands.Header _) h = refl
operand_again (operands.Trim name) h = rw (trim_no_name name, trim_no_digits name, trim_again name, h) refl

abbrev pub IsSaid : Word → Operand → Type 0
IsSaid w o = (w ≡ operand_word o) × IsOperand o

named_is : (found : Option HeaderName) (name : List ℕ) (o : Operand) → is_name name ≡ true → header_of name ≡ found → named_operand found name ≡ Some o → IsSaid (Plain name) o
named_is None name o is none e = subst (IsSaid (Plain name)) (some_is (operands.Field name) o e) (refl, (is, none))
named_is (Some header) name o is found e =
    subst (IsSaid (Plain name)) (some_is (operands.Header header) o e) (ap (λ (x : List ℕ). let w : Word = Plain x in w) (header_is name header found), tt)

in_trim_is : (word name : List ℕ) → in_trim word ≡ Some name → word ≡ trimmed name
in_trim_is word name e =
    let n = length word - 6 in
    let back = drop 5 word in
    elim (chosen (nat_le 6 (length word) && bytes_eq (take 5 word) (codes "TRIM(") && bytes_eq (drop n back) (codes ")")) (Some (take n back)) None (Some name) e) [
      | inl h ↦
          let a = both_true (nat_le 6 (length word) && bytes_eq (take 5 word) (codes "TRIM(")) (bytes_eq (drop n back) (codes ")")) h.0 in
          let b = both_true (nat_le 6 (length word)) (bytes_eq (take 5 word) (codes "TRIM(")) a.0 in
          let inside : take n back ≡ name = some_is (take n back) name h.1 in
          let behind : back ≡ name ++ codes ")" =
          sym (take-append-drop n back) ∙ ap (λ (x : List ℕ). x ++ drop n back) inside ∙ ap (λ (x : List ℕ). name ++ x) ((bytes_eq-Decides (drop n back) (codes ")")).0 a.1) in
          sym (take-append-drop 5 word) ∙ ap (λ (x : List ℕ). x ++ drop 5 word) ((bytes_eq-Decides (take 5 word) (codes "TRIM(")).0 b.1) ∙ ap (λ (x : List ℕ). codes "TRIM(" ++ x) behind
      | inr h ↦ absurd (cc h.1)
    ]

by_trim : (found : Option (List ℕ)) (word : List ℕ) (o : Operand) → in_trim word ≡ found → trim_operand found ≡ Some o → IsSaid (Plain word) o
by_trim None word o none e = absurd cc
by_trim (Some name) word o found e =
    elim (chosen (is_name name) (Some (operands.Trim name)) None (Some o) e) [
      | inl h ↦ subst (IsSaid (Plain word)) (some_is (operands.Trim name) o h.1) (ap (λ (x : List ℕ). let w : Word = Plain x in w) (in_trim_is word name found), h.0)
      | inr h ↦ absurd (cc h.1)
    ]

pub operand_is : (w : Word) (o : Operand) → operand_of w ≡ Some o → IsSaid w o
operand_is (Literal bytes) o e =
    elim (chosen (nat_le (length bytes) 32767) (Some (operands.Literal bytes)) None (Some o) e) [
      | inl h ↦ subst (IsSaid (Literal bytes)) (some_is (operands.Literal bytes) o h.1) (refl, leb-true (length bytes) 32767 h.0)
      | inr h ↦ absurd (cc h.1)
    ]
operand_is (Plain word) o e =
    elim (chosen (is_name word) (named_operand (header_of word) word) (cond (are_digits word) (Some (operands.Digits word)) (trim_operand (in_trim word))) (Some o) e) [
      | inl h ↦ named_is (header_of word) word o h.0 refl h.1
      | inr h ↦ elim (chosen (are_digits word) (Some (operands.Digits word)) (trim_operand (in_trim word)) (Some o) h.1) [
        | inl k ↦ subst (IsSaid (Plain word)) (some_is (operands.Digits word) o k.1) (refl, digits_are word k.0)
        | inr k ↦ by_trim (in_trim word) word o refl k.1
      ]
    ]

-- ---- relations and modes

pub plain : (a b : List ℕ) → a ≡ b → Plain a ≡ Plain b
plain a b same = cc

pub relation_is : (w : Word) (r : Relation) → relation_of w ≡ Some r → w ≡ Plain (relation_name r)
relation_is (Literal bytes) r e = absurd cc
relation_is (Plain word) r e =
    plain word (relation_name r)
    (named_by relation_name word Eq _ r
    (named_by relation_name word Ne _ r
    (named_by relation_name word Lt _ r
    (named_by relation_name word Gt None r (λ n. absurd (cc n))))) e)

pub relation_again : (r : Relation) → relation_of (Plain (relation_name r)) ≡ Some r
relation_again Eq = refl
relation_again _ = refl

pub mode_is : (w : Word) (m : Mode) → mode_of w ≡ Some m → w ≡ Plain (mode_name m)
mode_is (Literal bytes) m e = absurd cc
mode_is (Plain word) m e =
    plain word (mode_name m) (named_by mode_name word Relative _ m (named_by mode_name word Absolute None m (λ n. absurd (cc n))) e)

pub mode_again : (m : Mode) → mode_of (Plain (mode_name m)) ≡ Some m
mode_again Relative = refl
mode_again Absolute = refl
