-- Pieces: what is read is written so, and what is written so is read.
use Rattle.std.proofs.Common.{◌≡◌, ℕ, zero, suc, ◌+◌, ◌-◌, ◌≤◌, Bool, true, false, ◌&&◌, List, [], ◌∷◌, ◌++◌, length, take, drop, Option, Some, None, refl, sym, ap, ◌∙◌, subst, inl, inr, arith}
use Rattle.std.proofs.Common.{length-append}
use Rattle.std.specs.Prelude.{codes, bytes_eq, nat_le, slice_index, not, is_some, option_and_then, ◌==◌}
use Rattle.std.specs.Option.{option_map}
use Rattle.std.specs.List.{list_all}
use Rattle.std.proofs.lemmas.Bool.{cases_Bool, eqb-true}
use Rattle.std.proofs.lemmas.List.{take-append-drop, take_at, nil_from_length}
use Rattle.kd_base.specs.Text.{IsProgName, IsDecimal, prog_name_of, decimal_of, decimal_value, is_digit, is_name_byte}
use Rattle.kd_base.specs.ToolsLaws.{map_some, some_is, and_some, chosen, both_true}
use Rattle.application_types.specs.declared.unit_types.action.HeaderName.{HeaderName}
use Rattle.application_types.specs.declared.unit_types.action.Action.{Action}
use Rattle.application_types.specs.declared.unit_types.action.Action.TheVariants as actions
use Rattle.unit_read.specs.declared.word.Word.{Word}
use Rattle.unit_read.specs.declared.word.Word.TheVariants.{Plain, Literal}
use Rattle.unit_read.specs.declared.piece.Piece.{Piece}
use Rattle.unit_read.specs.declared.piece.Piece.TheVariants as pieces
use Rattle.unit_read.specs.Operands.{is_name, header_of}
use Rattle.unit_read.specs.Shapes.{both}
use Rattle.unit_read.specs.Statements.{action_of}
use Rattle.unit_read.specs.Pieces.{in_range, number_from, area_of, new_field, field_of, unit_of, before_colon, label_in, inner_of, piece_of}
use Rattle.unit_read.specs.Grammar.{IsName, area_name, Says, IsPiece, spelled}
use Rattle.unit_read.proofs.Operands.{are_within, within, are_few, few_again, named_by, plain}
use Rattle.unit_read.proofs.Shapes.{both_some}
use Rattle.unit_read.proofs.Statements.{statement_is, statement_again}
use Rattle.std.proofs.lemmas.Slice.Eq.{bytes_eq-Decides}

-- ---- words of FIELD and UNIT

prog_name_is : (bytes name : List ℕ) → prog_name_of bytes ≡ Some name → (bytes ≡ name) × IsProgName name
prog_name_is bytes name e =
    elim (chosen (nat_le 1 (length bytes) && nat_le (length bytes) 32 && list_all is_name_byte bytes) (Some bytes) None (Some name) e) [
      | inl h ↦ subst (λ (x : List ℕ). (bytes ≡ x) × IsProgName x) (some_is bytes name h.1) (refl, are_few is_name_byte 32 bytes h.0)
      | inr h ↦ absurd (cc h.1)
    ]

prog_name_again : (name : List ℕ) → IsProgName name → prog_name_of name ≡ Some name
prog_name_again name h = rw (few_again is_name_byte 32 name h) refl

unit_is : (ws : List Word) (p : Piece) → unit_of ws ≡ Some p → IsPiece p (Plain (codes "UNIT") ∷ ws)
unit_is (Plain bytes ∷ []) p e =
    let m = map_some (λ (name : List ℕ). pieces.Unit name) (prog_name_of bytes) p e in
    let n = prog_name_is bytes m.0 m.1 in
    subst (λ (x : Piece). IsPiece x (Plain (codes "UNIT") ∷ Plain bytes ∷ [])) m.2 (ap (λ (x : List ℕ). let w : Word = Plain x in Plain (codes "UNIT") ∷ w ∷ []) n.0, n.1)
unit_is (Literal bytes ∷ []) p e = absurd cc
unit_is _ p e = absurd cc

decimal_is : (bytes : List ℕ) (n : ℕ) → decimal_of bytes ≡ Some n → IsDecimal bytes × (n ≡ decimal_value bytes)
decimal_is bytes n e =
    elim (chosen (nat_le 1 (length bytes) && nat_le (length bytes) 18 && list_all is_digit bytes) (Some (decimal_value bytes)) None (Some n) e) [
      | inl h ↦ (are_few is_digit 18 bytes h.0, sym (some_is (decimal_value bytes) n h.1))
      | inr h ↦ absurd (cc h.1)
    ]

decimal_again : (bytes : List ℕ) → IsDecimal bytes → decimal_of bytes ≡ Some (decimal_value bytes)
decimal_again bytes h = rw (few_again is_digit 18 bytes h) refl

in_range_is : (least number n : ℕ) → in_range least number ≡ Some n → (number ≡ n) × (least ≤ n) × (n ≤ 32767)
in_range_is least number n e =
    elim (chosen (nat_le least number && nat_le number 32767) (Some number) None (Some n) e) [
      | inl h ↦ subst (λ (x : ℕ). (number ≡ x) × (least ≤ x) × (x ≤ 32767)) (some_is number n h.1) (let a = are_within least 32767 number h.0 in (refl, a.0, a.1))
      | inr h ↦ absurd (cc h.1)
    ]

in_range_again : (least n : ℕ) → least ≤ n → n ≤ 32767 → in_range least n ≡ Some n
in_range_again least n low high = rw (within least 32767 n low high) refl

number_is : (least : ℕ) (w : Word) (n : ℕ) → number_from least w ≡ Some n → (digits : List ℕ) × (w ≡ Plain digits) × Says least digits n
number_is least (Literal bytes) n e = absurd cc
number_is least (Plain bytes) n e =
    let a = and_some (in_range least) (decimal_of bytes) n e in
    let d = decimal_is bytes a.0 a.1 in
    let r = in_range_is least a.0 n a.2 in
    (bytes, refl, (d.0, sym r.0 ∙ d.1, r.1, r.2))

number_again : (least : ℕ) (digits : List ℕ) (n : ℕ) → Says least digits n → number_from least (Plain digits) ≡ Some n
number_again least digits n h =
    ap (option_and_then (in_range least)) (decimal_again digits h.0) ∙ ap (in_range least) (sym h.1) ∙ in_range_again least n h.2 h.3

area_is : (w : Word) (spab : Bool) → area_of w ≡ Some spab → w ≡ Plain (area_name spab)
area_is (Literal bytes) spab e = absurd cc
area_is (Plain word) spab e =
    plain word (area_name spab) (named_by area_name word true _ spab (named_by area_name word false None spab (λ n. absurd (cc n))) e)

area_again : (spab : Bool) → area_of (Plain (area_name spab)) ≡ Some spab
area_again true = refl
area_again false = refl

no_header : (found : Option HeaderName) → not (is_some found) ≡ true → found ≡ None
no_header None h = refl
no_header (Some header) h = absurd cc

new_field_is : (w : Word) (name : List ℕ) → new_field w ≡ Some name → (w ≡ Plain name) × IsName name × (header_of name ≡ None)
new_field_is (Literal bytes) name e = absurd cc
new_field_is (Plain word) name e =
    elim (chosen (is_name word && not (is_some (header_of word))) (Some word) None (Some name) e) [
      | inl h ↦
          let a = both_true (is_name word) (not (is_some (header_of word))) h.0 in
          subst (λ (x : List ℕ). let w : Word = Plain word in (w ≡ Plain x) × IsName x × (header_of x ≡ None)) (some_is word name h.1) (refl, a.0, no_header (header_of word) a.1)
      | inr h ↦ absurd (cc h.1)
    ]

four_words : (a b c d : Word) (x y z u : Word) → a ≡ x → b ≡ y → c ≡ z → d ≡ u → Plain (codes "FIELD") ∷ a ∷ b ∷ c ∷ d ∷ [] ≡ Plain (codes "FIELD") ∷ x ∷ y ∷ z ∷ u ∷ []
four_words a b c d x y z u e f g h = cc

field_is : (ws : List Word) (p : Piece) → field_of ws ≡ Some p → IsPiece p (Plain (codes "FIELD") ∷ ws)
field_is (n ∷ a ∷ o ∷ l ∷ []) p e =
    let made = λ (q : List ℕ × (Bool × (ℕ × ℕ))). pieces.Field q.0 q.1.0 q.1.1.0 q.1.1.1 in
    let m = map_some made (both (new_field n) (both (area_of a) (both (number_from 0 o) (number_from 1 l)))) p e in
    let b = both_some (new_field n) (both (area_of a) (both (number_from 0 o) (number_from 1 l))) m.0 m.1 in
    let c = both_some (area_of a) (both (number_from 0 o) (number_from 1 l)) m.0.1 b.1 in
    let d = both_some (number_from 0 o) (number_from 1 l) m.0.1.1 c.1 in
    let name = new_field_is n m.0.0 b.0 in
    let area = area_is a m.0.1.0 c.0 in
    let offset = number_is 0 o m.0.1.1.0 d.0 in
    let size = number_is 1 l m.0.1.1.1 d.1 in
    subst (λ (x : Piece). IsPiece x (Plain (codes "FIELD") ∷ n ∷ a ∷ o ∷ l ∷ [])) m.2
    (offset.0, size.0, four_words n a o l (Plain m.0.0) (Plain (area_name m.0.1.0)) (Plain offset.0) (Plain size.0) name.0 area offset.1 size.1, name.1, name.2, offset.2, size.2)
field_is _ p e = absurd cc

field_again : (name : List ℕ) (spab : Bool) (o l : List ℕ) (offset len : ℕ) → IsName name → header_of name ≡ None → Says 0 o offset → Says 1 l len
    → field_of (Plain name ∷ Plain (area_name spab) ∷ Plain o ∷ Plain l ∷ []) ≡ Some (pieces.Field name spab offset len)
field_again name spab o l offset len is none ho hl =
    rw (is, none, area_again spab, number_again 0 o offset ho, number_again 1 l len hl) refl

-- ---- labels

at_end : (name : List ℕ) (b : ℕ) → slice_index (name ++ b ∷ []) (length name) ≡ b
at_end [] b = refl
at_end (c ∷ name) b = at_end name b

last_is : (word : List ℕ) (n : ℕ) → slice_index word n ≡ 58 → n + 1 ≡ length word → word ≡ take n word ++ codes ":"
last_is word n h long =
    let rest : drop n word ≡ codes ":" = at_last word n h long in
    sym (take-append-drop n word) ∙ ap (λ (x : List ℕ). take n word ++ x) rest
  where
    at_last : (word : List ℕ) (n : ℕ) → slice_index word n ≡ 58 → n + 1 ≡ length word → drop n word ≡ codes ":"
    at_last [] n h long = absurd (omega arith)
    at_last (b ∷ []) zero h long = ap (λ (x : ℕ). x ∷ []) h
    at_last (b ∷ c ∷ word) zero h long = absurd (omega arith)
    at_last (b ∷ word) (suc n) h long = at_last word n h (omega arith)

before_colon_is : (word name : List ℕ) → before_colon word ≡ Some name → (word ≡ name ++ codes ":") × IsName name
before_colon_is [] name e = absurd cc
before_colon_is (b ∷ word) name e =
    let n = length (b ∷ word) - 1 in
    elim (chosen (slice_index (b ∷ word) n == 58 && is_name (take n (b ∷ word))) (Some (take n (b ∷ word))) None (Some name) e) [
      | inl h ↦
          let a = both_true (slice_index (b ∷ word) n == 58) (is_name (take n (b ∷ word))) h.0 in
          let last = last_is (b ∷ word) n (eqb-true (slice_index (b ∷ word) n) 58 a.0) (omega arith) in
          subst (λ (x : List ℕ). (b ∷ word ≡ x ++ codes ":") × IsName x) (some_is (take n (b ∷ word)) name h.1) (last, a.1)
      | inr h ↦ absurd (cc h.1)
    ]

before_colon_at : (name word : List ℕ) (n : ℕ) → IsName name → word ≡ name ++ codes ":" → n ≡ length name → length word - 1 ≡ n → before_colon word ≡ Some name
before_colon_at name word n is parts long left =
    rw (left, parts, long, at_end name 58, take_at name (codes ":") (length name) refl, is) refl

before_colon_again : (name : List ℕ) → IsName name → before_colon (name ++ codes ":") ≡ Some name
before_colon_again name is =
    before_colon_at name (name ++ codes ":") (length name) is refl refl (omega (arith, length-append name (codes ":")))

label_is : (ws : List Word) (name : List ℕ) → label_in ws ≡ Some name → IsPiece (pieces.Label name) ws
label_is (Plain word ∷ []) name e =
    let b = before_colon_is word name e in
    (ap (λ (x : List ℕ). let w : Word = Plain x in w ∷ []) b.0, b.1)
label_is (Literal bytes ∷ []) name e = absurd cc
label_is _ name e = absurd cc

-- a label is no keyword
no_keyword : (name keyword : List ℕ) (n : ℕ) → n + 1 ≡ length keyword → (slice_index keyword n ≡ 58 → ⊥) → bytes_eq (name ++ codes ":") keyword ≡ false
no_keyword name keyword n long last =
    elim (cases_Bool (bytes_eq (name ++ codes ":") keyword)) [
      | inl h ↦
          let same = (bytes_eq-Decides (name ++ codes ":") keyword).0 h in
          let there : length name ≡ n = omega (arith, ap length same, length-append name (codes ":")) in
          absurd (last (ap (λ (x : List ℕ). slice_index x n) (sym same) ∙ ap (slice_index (name ++ codes ":")) (sym there) ∙ at_end name 58))
      | inr h ↦ h
    ]

-- ---- pieces

by_label : (found : Option (List ℕ)) (ws : List Word) (p : Piece) → label_in ws ≡ found → inner_of found ws ≡ Some p → IsPiece p ws
by_label (Some label) ws p is e = subst (λ (x : Piece). IsPiece x ws) (some_is (pieces.Label label) p e) (label_is ws label is)
by_label None ws p is e =
    let m = map_some (λ (action : Action). pieces.Statement action) (action_of ws) p e in
    subst (λ (x : Piece). IsPiece x ws) m.2 (statement_is ws m.0 m.1)

keyword_front : (word keyword : List ℕ) (rest : List Word) (p : Piece) → bytes_eq word keyword ≡ true → IsPiece p (Plain keyword ∷ rest) → IsPiece p (Plain word ∷ rest)
keyword_front word keyword rest p h is =
    subst (λ (x : List ℕ). let w : Word = Plain x in IsPiece p (w ∷ rest)) (sym ((bytes_eq-Decides word keyword).0 h)) is

end_is : (rest : List Word) (p : Piece) → (length rest == 0) ≡ true → Some pieces.End ≡ Some p → IsPiece p (Plain (codes "END") ∷ rest)
end_is rest p h e =
    subst (λ (x : Piece). IsPiece x (Plain (codes "END") ∷ rest)) (some_is pieces.End p e)
    (ap (λ (x : List Word). Plain (codes "END") ∷ x) (nil_from_length rest (eqb-true (length rest) 0 h)))

pub piece_is : (ws : List Word) (p : Piece) → piece_of ws ≡ Some p → IsPiece p ws
piece_is [] p e = absurd cc
piece_is (Literal bytes ∷ rest) p e = absurd cc
piece_is (Plain word ∷ rest) p e =
    let inner = inner_of (label_in (Plain word ∷ rest)) (Plain word ∷ rest) in
    elim (chosen (bytes_eq word (codes "UNIT")) (unit_of rest) _ (Some p) e) [
      | inl h ↦ keyword_front word (codes "UNIT") rest p h.0 (unit_is rest p h.1)
      | inr e2 ↦ elim (chosen (bytes_eq word (codes "FIELD")) (field_of rest) _ (Some p) e2.1) [
        | inl h ↦ keyword_front word (codes "FIELD") rest p h.0 (field_is rest p h.1)
        | inr e3 ↦ elim (chosen (bytes_eq word (codes "END") && length rest == 0) (Some pieces.End) inner (Some p) e3.1) [
          | inl h ↦
              let a = both_true (bytes_eq word (codes "END")) (length rest == 0) h.0 in
              keyword_front word (codes "END") rest p a.0 (end_is rest p a.1 h.1)
          | inr h ↦ by_label (label_in (Plain word ∷ rest)) (Plain word ∷ rest) p refl h.1
        ]
      ]
    ]

-- a statement is no other piece
inner_again : (a : Action) → piece_of (spelled a) ≡ option_map (λ (action : Action). pieces.Statement action) (action_of (spelled a))
inner_again (actions.Pend v None) = refl
inner_again (actions.Pend v (Some o)) = refl
inner_again _ = refl

label_again : (name : List ℕ) → IsName name → piece_of (Plain (name ++ codes ":") ∷ []) ≡ Some (pieces.Label name)
label_again name is =
    rw (no_keyword name (codes "UNIT") 3 refl (λ e. cc e), no_keyword name (codes "FIELD") 4 refl (λ e. cc e), no_keyword name (codes "END") 2 refl (λ e. cc e), before_colon_again name is) refl

pub piece_again : (p : Piece) (ws : List Word) → IsPiece p ws → piece_of ws ≡ Some p
piece_again (pieces.Unit name) ws h = ap piece_of h.0 ∙ rw (prog_name_again name h.1) refl
piece_again (pieces.Field name spab offset len) ws h = ap piece_of h.2 ∙ field_again name spab h.0 h.1 offset len h.3 h.4 h.5 h.6
piece_again (pieces.Label name) ws h = ap piece_of h.0 ∙ label_again name h.1
piece_again (pieces.Statement a) ws h = ap piece_of h.0 ∙ inner_again a ∙ rw (statement_again a h.1) refl
piece_again pieces.End ws h = ap piece_of h
