-- A statement as tokens: what is read is written so, and what is written so is read.
use Rattle.std.proofs.Common.{◌≡◌, ℕ, zero, suc, ◌+◌, ◌<◌, ◌≤◌, Bool, true, false, cond, eqb, List, [], ◌∷◌, ◌++◌, length, Option, Some, None, refl, sym, ap, ◌∙◌, subst, append_assoc, arith, inl, inr}
use Rattle.std.proofs.Common.{length-append}
use Rattle.std.proofs.lemmas.List.{append-nil}
use Rattle.std.proofs.lemmas.Bool.Decides.{nat_tests}
use Rattle.texts.specs.declared.kdcdef_lex.token.Token.{Token}
use Rattle.texts.specs.declared.kdcdef_lex.token.Token.TheVariants as tokens
use Rattle.texts.specs.declared.kdcdef_lex.statement.RawItem.{RawItem}
use Rattle.texts.specs.declared.kdcdef_lex.statement.RawItem.TheVariants as items
use Rattle.texts.specs.declared.kdcdef_lex.statement.RawValue.{RawValue}
use Rattle.texts.specs.declared.kdcdef_lex.statement.RawValue.TheVariants as values
use Rattle.texts.specs.declared.kdcdef_lex.statement.RawOperand.{RawOperand}
use Rattle.texts.specs.declared.kdcdef_lex.statement.RawStatement.{RawStatement}
use Rattle.texts.specs.QuotedValues.{quoted_value}
use Rattle.texts.specs.Parsing.{item_at, item_ended, item_step, items_within, value_at, with_key, operand_at, operand_ended, operand_step, operands_within, operands_of, statement_at}
use Rattle.texts.specs.Grammar.{IsItem, AreItems, IsValue, IsKeyed, IsOperand, AreOperands, IsStatement}
use Rattle.kd_base.specs.ToolsLaws.{map_some, some_is, chosen, and_some}
use Rattle.kd_base.specs.Tools.{onto, onto_first}

-- ---- items

abbrev ItemTaken : List Token → Option RawItem × List Token → Type 0
ItemTaken ts found = (own : List Token) × (ts ≡ own ++ found.1) × IsItem found.0 own

item_takes : (ts : List Token) (i : Option RawItem) (rest : List Token) → item_at ts ≡ Some (i, rest) → ItemTaken ts (i, rest)
item_takes [] i rest e = absurd cc
item_takes (tokens.Word w ∷ ts) i rest e = subst (ItemTaken (tokens.Word w ∷ ts)) (some_is (Some (items.Word w), ts) (i, rest) e) (tokens.Word w ∷ [], refl, refl)
item_takes (tokens.Quoted f c ∷ ts) i rest e =
    let m = map_some (λ (q : List ℕ). let x : Option RawItem × List Token = (Some (items.Quoted q), ts) in x) (quoted_value f c) (i, rest) e in
    subst (ItemTaken (tokens.Quoted f c ∷ ts)) m.2 (tokens.Quoted f c ∷ [], refl, (f, c, refl, m.1))
item_takes (tokens.Comma ∷ ts) i rest e = subst (ItemTaken (tokens.Comma ∷ ts)) (some_is (None, tokens.Comma ∷ ts) (i, rest) e) ([], refl, refl)
item_takes (tokens.Close ∷ ts) i rest e = subst (ItemTaken (tokens.Close ∷ ts)) (some_is (None, tokens.Close ∷ ts) (i, rest) e) ([], refl, refl)
item_takes (t ∷ ts) i rest e = absurd cc

-- a comma, or the end of the list
abbrev pub mark : Bool → Token
mark true = tokens.Comma
mark false = tokens.Close

abbrev ItemEnded : Option RawItem → List Token → Option RawItem × Bool × List Token → Type 0
ItemEnded i ts s = (ts ≡ mark s.1 ∷ s.2) × (i ≡ s.0)

item_ended_is : (i : Option RawItem) (ts : List Token) (s : Option RawItem × Bool × List Token) → item_ended i ts ≡ Some s → ItemEnded i ts s
item_ended_is i (tokens.Comma ∷ ts) s e = subst (ItemEnded i (tokens.Comma ∷ ts)) (some_is (i, true, ts) s e) (refl, refl)
item_ended_is i (tokens.Close ∷ ts) s e = subst (ItemEnded i (tokens.Close ∷ ts)) (some_is (i, false, ts) s e) (refl, refl)
item_ended_is i ts s e = absurd cc

pub item_step_takes : (ts : List Token) (s : Option RawItem × Bool × List Token) → item_step ts ≡ Some s → (own : List Token) × (ts ≡ own ++ mark s.1 ∷ s.2) × IsItem s.0 own
item_step_takes ts s e =
    let a = and_some (λ (i : Option RawItem × List Token). item_ended i.0 i.1) (item_at ts) s e in
    let t = item_takes ts a.0.0 a.0.1 a.1 in
    let d = item_ended_is a.0.0 a.0.1 s a.2 in
    (t.0, t.1 ∙ ap (λ (x : List Token). t.0 ++ x) d.0, subst (λ (x : Option RawItem). IsItem x t.0) d.1 t.2)

cons_items : (i : Option RawItem) (is : List (Option RawItem)) (own rest : List Token) → IsItem i own → AreItems is rest → AreItems (i ∷ is) (own ++ tokens.Comma ∷ rest)
cons_items i [] own rest h k = absurd k
cons_items i (j ∷ is) own rest h k = (own, rest, refl, h, k)

abbrev ItemsTaken : List Token → List (Option RawItem) × List Token → Type 0
ItemsTaken ts found = (own : List Token) × (ts ≡ own ++ tokens.Close ∷ found.1) × AreItems found.0 own

pub items_take : (n : ℕ) (ts : List Token) (is : List (Option RawItem)) (rest : List Token) → items_within n ts ≡ Some (is, rest) → ItemsTaken ts (is, rest)
items_take zero ts is rest e = absurd cc
items_take (suc n) ts is rest e =
    let f = λ (s : Option RawItem × Bool × List Token). cond s.1 (onto_first (s.0 ∷ []) (items_within n s.2)) (Some (s.0 ∷ [], s.2)) in
    let a = and_some f (item_step ts) (is, rest) e in
    let s = a.0 in
    let t = item_step_takes ts s a.1 in
    elim (chosen s.1 (onto_first (s.0 ∷ []) (items_within n s.2)) (Some (s.0 ∷ [], s.2)) (Some (is, rest)) a.2) [
      | inl h ↦
          let m = map_some (λ (l : List (Option RawItem) × List Token). let x : List (Option RawItem) × List Token = (s.0 ∷ l.0, l.1) in x) (items_within n s.2) (is, rest) h.1 in
          let more = items_take n s.2 m.0.0 m.0.1 m.1 in
          let all : ts ≡ (t.0 ++ tokens.Comma ∷ more.0) ++ tokens.Close ∷ m.0.1 =
          t.1 ∙ ap (λ (b : Bool). t.0 ++ mark b ∷ s.2) h.0 ∙ ap (λ (x : List Token). t.0 ++ tokens.Comma ∷ x) more.1 ∙ sym (append_assoc t.0 (tokens.Comma ∷ more.0) (tokens.Close ∷ m.0.1)) in
          subst (ItemsTaken ts) m.2 (t.0 ++ tokens.Comma ∷ more.0, all, cons_items s.0 m.0.0 t.0 more.0 t.2 more.2)
      | inr h ↦ subst (ItemsTaken ts) (some_is (s.0 ∷ [], s.2) (is, rest) h.1) (t.0, t.1 ∙ ap (λ (b : Bool). t.0 ++ mark b ∷ s.2) h.0, t.2)
    ]

item_again : (i : Option RawItem) (own : List Token) (more : Bool) (rest : List Token) → IsItem i own → item_step (own ++ mark more ∷ rest) ≡ Some (i, more, rest)
item_again None own true rest h = rw h refl
item_again None own false rest h = rw h refl
item_again (Some (items.Word w)) own true rest h = rw h refl
item_again (Some (items.Word w)) own false rest h = rw h refl
item_again (Some (items.Quoted q)) own true rest h = rw (h.2, h.3) refl
item_again (Some (items.Quoted q)) own false rest h = rw (h.2, h.3) refl

pub items_again : (is : List (Option RawItem)) (own : List Token) (n : ℕ) (rest : List Token) → AreItems is own → length is ≤ n → items_within n (own ++ tokens.Close ∷ rest) ≡ Some (is, rest)
items_again [] own n rest h le = absurd h
items_again (i ∷ []) own zero rest h le = absurd (omega arith)
items_again (i ∷ []) own (suc n) rest h le = rw (item_again i own false rest h) refl
items_again (i ∷ j ∷ is) own zero rest h le = absurd (omega arith)
items_again (i ∷ j ∷ is) own (suc n) rest h le =
    let a = h.0 in
    let b = h.1 in
    let regrouped : own ++ tokens.Close ∷ rest ≡ a ++ tokens.Comma ∷ (b ++ tokens.Close ∷ rest) = ap (λ (x : List Token). x ++ tokens.Close ∷ rest) h.2 ∙ append_assoc a (tokens.Comma ∷ b) (tokens.Close ∷ rest) in
    ap (items_within (suc n)) regrouped ∙ rw (item_again i a true (b ++ tokens.Close ∷ rest) h.3, items_again (j ∷ is) b n rest h.4 (omega arith)) refl

pub items_fit : (is : List (Option RawItem)) (own : List Token) → AreItems is own → length is ≤ length own + 1
items_fit [] own h = absurd h
items_fit (i ∷ []) own h = omega arith
items_fit (i ∷ j ∷ is) own h = omega (arith, items_fit (j ∷ is) h.1 h.4, ap length h.2, length-append h.0 (tokens.Comma ∷ h.1))

-- ---- values

abbrev ValueTaken : List Token → RawValue × List Token → Type 0
ValueTaken ts found = (own : List Token) × (ts ≡ own ++ found.1) × IsValue found.0 own

value_takes : (ts : List Token) (v : RawValue) (rest : List Token) → value_at ts ≡ Some (v, rest) → ValueTaken ts (v, rest)
value_takes [] v rest e = absurd cc
value_takes (tokens.Word w ∷ ts) v rest e = subst (ValueTaken (tokens.Word w ∷ ts)) (some_is (values.Word w, ts) (v, rest) e) (tokens.Word w ∷ [], refl, refl)
value_takes (tokens.Quoted f c ∷ ts) v rest e =
    let m = map_some (λ (q : List ℕ). let x : RawValue × List Token = (values.Quoted q, ts) in x) (quoted_value f c) (v, rest) e in
    subst (ValueTaken (tokens.Quoted f c ∷ ts)) m.2 (tokens.Quoted f c ∷ [], refl, (f, c, refl, m.1))
value_takes (tokens.Open ∷ ts) v rest e =
    let m = map_some (λ (l : List (Option RawItem) × List Token). let x : RawValue × List Token = (values.Listed l.0, l.1) in x) (items_within (length ts) ts) (v, rest) e in
    let l = items_take (length ts) ts m.0.0 m.0.1 m.1 in
    let own = tokens.Open ∷ (l.0 ++ tokens.Close ∷ []) in
    let all : tokens.Open ∷ ts ≡ own ++ m.0.1 = ap (λ (x : List Token). tokens.Open ∷ x) (l.1 ∙ sym (append_assoc l.0 (tokens.Close ∷ []) m.0.1)) in
    subst (ValueTaken (tokens.Open ∷ ts)) m.2 (own, all, (l.0, refl, l.2))
value_takes (t ∷ ts) v rest e = absurd cc

value_again : (v : RawValue) (own rest : List Token) → IsValue v own → value_at (own ++ rest) ≡ Some (v, rest)
value_again (values.Word w) own rest h = rw h refl
value_again (values.Quoted q) own rest h = rw (h.2, h.3) refl
value_again (values.Listed is) own rest h =
    let inside = h.0 in
    let regrouped : own ++ rest ≡ tokens.Open ∷ (inside ++ tokens.Close ∷ rest) = ap (λ (x : List Token). x ++ rest) h.1 ∙ ap (λ (x : List Token). tokens.Open ∷ x) (append_assoc inside (tokens.Close ∷ []) rest) in
    let found = items_again is inside (length (inside ++ tokens.Close ∷ rest)) rest h.2 (omega (arith, items_fit is inside h.2, length-append inside (tokens.Close ∷ rest))) in
    ap value_at regrouped ∙ rw found refl

-- ---- operands

abbrev OperandTaken : List Token → RawOperand × List Token → Type 0
OperandTaken ts found = (own : List Token) × (ts ≡ own ++ found.1) × IsOperand found.0 own

keyless : (ts : List Token) (o : RawOperand) (rest : List Token) → with_key None (value_at ts) ≡ Some (o, rest) → OperandTaken ts (o, rest)
keyless ts o rest e =
    let m = map_some (λ (v : RawValue × List Token). let x : RawOperand × List Token = (record { key = None; value = v.0 }, v.1) in x) (value_at ts) (o, rest) e in
    let t = value_takes ts m.0.0 m.0.1 m.1 in
    subst (OperandTaken ts) m.2 (t.0, t.1, t.2)

operand_takes : (ts : List Token) (o : RawOperand) (rest : List Token) → operand_at ts ≡ Some (o, rest) → OperandTaken ts (o, rest)
operand_takes (tokens.Word w ∷ tokens.Equals ∷ ts) o rest e =
    let m = map_some (λ (v : RawValue × List Token). let x : RawOperand × List Token = (record { key = Some w; value = v.0 }, v.1) in x) (value_at ts) (o, rest) e in
    let t = value_takes ts m.0.0 m.0.1 m.1 in
    let all = ap (λ (x : List Token). tokens.Word w ∷ tokens.Equals ∷ x) t.1 in
    subst (OperandTaken (tokens.Word w ∷ tokens.Equals ∷ ts)) m.2 (tokens.Word w ∷ tokens.Equals ∷ t.0, all, (t.0, refl, t.2))
operand_takes ts o rest e = keyless ts o rest e

-- what is after an operand: another after a comma, or nothing
abbrev pub behind : Bool → List Token → List Token
behind true rest = tokens.Comma ∷ rest
behind false rest = []

abbrev OperandEnded : RawOperand → List Token → RawOperand × Bool × List Token → Type 0
OperandEnded o ts s = (ts ≡ behind s.1 s.2) × (o ≡ s.0)

operand_ended_is : (o : RawOperand) (ts : List Token) (s : RawOperand × Bool × List Token) → operand_ended o ts ≡ Some s → OperandEnded o ts s
operand_ended_is o [] s e = subst (OperandEnded o []) (some_is (o, false, []) s e) (refl, refl)
operand_ended_is o (tokens.Comma ∷ ts) s e = subst (OperandEnded o (tokens.Comma ∷ ts)) (some_is (o, true, ts) s e) (refl, refl)
operand_ended_is o (t ∷ ts) s e = absurd cc

pub operand_step_takes : (ts : List Token) (s : RawOperand × Bool × List Token) → operand_step ts ≡ Some s → (own : List Token) × (ts ≡ own ++ behind s.1 s.2) × IsOperand s.0 own
operand_step_takes ts s e =
    let a = and_some (λ (o : RawOperand × List Token). operand_ended o.0 o.1) (operand_at ts) s e in
    let t = operand_takes ts a.0.0 a.0.1 a.1 in
    let d = operand_ended_is a.0.0 a.0.1 s a.2 in
    (t.0, t.1 ∙ ap (λ (x : List Token). t.0 ++ x) d.0, subst (λ (x : RawOperand). IsOperand x t.0) d.1 t.2)

-- at least one operand
abbrev SomeOperands : List RawOperand → List Token → Type 0
SomeOperands os ts = AreOperands os ts × (0 < length os)

cons_operands : (o : RawOperand) (os : List RawOperand) (own rest : List Token) → IsOperand o own → SomeOperands os rest → SomeOperands (o ∷ os) (own ++ tokens.Comma ∷ rest)
cons_operands o [] own rest h k = absurd (omega arith)
cons_operands o (p ∷ os) own rest h k = ((own, rest, refl, h, k.0), omega arith)

pub operands_take : (n : ℕ) (ts : List Token) (os : List RawOperand) → operands_within n ts ≡ Some os → SomeOperands os ts
operands_take zero ts os e = absurd cc
operands_take (suc n) ts os e =
    let f = λ (s : RawOperand × Bool × List Token). cond s.1 (onto (s.0 ∷ []) (operands_within n s.2)) (Some (s.0 ∷ [])) in
    let a = and_some f (operand_step ts) os e in
    let s = a.0 in
    let t = operand_step_takes ts s a.1 in
    elim (chosen s.1 (onto (s.0 ∷ []) (operands_within n s.2)) (Some (s.0 ∷ [])) (Some os) a.2) [
      | inl h ↦
          let m = map_some (λ (l : List RawOperand). s.0 ∷ l) (operands_within n s.2) os h.1 in
          let more = operands_take n s.2 m.0 m.1 in
          let all : ts ≡ t.0 ++ tokens.Comma ∷ s.2 = t.1 ∙ ap (λ (b : Bool). t.0 ++ behind b s.2) h.0 in
          subst (λ (x : List RawOperand). SomeOperands x ts) m.2 (subst (SomeOperands (s.0 ∷ m.0)) (sym all) (cons_operands s.0 m.0 t.0 s.2 t.2 more))
      | inr h ↦
          let all : ts ≡ t.0 = t.1 ∙ ap (λ (b : Bool). t.0 ++ behind b s.2) h.0 ∙ append-nil t.0 in
          subst (λ (x : List RawOperand). SomeOperands x ts) (some_is (s.0 ∷ []) os h.1) (subst (IsOperand s.0) (sym all) t.2, omega arith)
    ]

open_at : (own inside rest : List Token) → own ≡ tokens.Open ∷ inside → operand_at (own ++ rest) ≡ with_key None (value_at (own ++ rest))
open_at own inside rest h = rw h refl

operand_at_again : (key : Option (List ℕ)) (value : RawValue) (own : List Token) (more : Bool) (rest : List Token) → IsKeyed key value own
    → operand_at (own ++ behind more rest) ≡ Some (record { key = key; value = value }, behind more rest)
operand_at_again (Some k) value own more rest h = rw h.1 (rw (value_again value h.0 (behind more rest) h.2) refl)
operand_at_again None (values.Word w) own true rest h = rw h refl
operand_at_again None (values.Word w) own false rest h = rw h refl
operand_at_again None (values.Quoted q) own more rest h = rw (h.2, h.3) refl
operand_at_again None (values.Listed is) own more rest h =
    open_at own (h.0 ++ tokens.Close ∷ []) (behind more rest) h.1 ∙ rw (value_again (values.Listed is) own (behind more rest) h) refl

operand_more : (o : RawOperand) (own rest : List Token) → IsOperand o own → operand_step (own ++ tokens.Comma ∷ rest) ≡ Some (o, true, rest)
operand_more o own rest h = rw (operand_at_again o.key o.value own true rest h) refl

operand_last : (o : RawOperand) (own : List Token) → IsOperand o own → operand_step own ≡ Some (o, false, [])
operand_last o own h = ap operand_step (sym (append-nil own)) ∙ rw (operand_at_again o.key o.value own false [] h) refl

value_some : (v : RawValue) (own : List Token) → IsValue v own → 0 < length own
value_some (values.Word w) own h = omega (arith, ap length h)
value_some (values.Quoted q) own h = omega (arith, ap length h.2)
value_some (values.Listed is) own h = omega (arith, ap length h.1)

operand_some : (key : Option (List ℕ)) (value : RawValue) (own : List Token) → IsKeyed key value own → 0 < length own
operand_some (Some k) value own h = omega (arith, ap length h.1)
operand_some None value own h = value_some value own h

pub operands_fit : (os : List RawOperand) (own : List Token) → AreOperands os own → length os ≤ length own
operands_fit [] own h = omega arith
operands_fit (o ∷ []) own h = omega (arith, operand_some o.key o.value own h)
operands_fit (o ∷ p ∷ os) own h = omega (arith, operands_fit (p ∷ os) h.1 h.4, ap length h.2, length-append h.0 (tokens.Comma ∷ h.1))

pub operands_again : (os : List RawOperand) (own : List Token) (n : ℕ) → AreOperands os own → 0 < length os → length os ≤ n → operands_within n own ≡ Some os
operands_again [] own n h some le = absurd (omega arith)
operands_again (o ∷ []) own zero h some le = absurd (omega arith)
operands_again (o ∷ []) own (suc n) h some le = rw (operand_last o own h) refl
operands_again (o ∷ p ∷ os) own zero h some le = absurd (omega arith)
operands_again (o ∷ p ∷ os) own (suc n) h some le =
    ap (operands_within (suc n)) h.2 ∙ rw (operand_more o h.0 h.1 h.3, operands_again (p ∷ os) h.1 n h.4 (omega arith) (omega arith)) refl

-- ---- statements

not_zero : (n : ℕ) → eqb (suc n) 0 ≡ false
not_zero n = grind (arith, nat_tests)

pub some_left : (t : Token) (ts : List Token) → operands_of (t ∷ ts) ≡ operands_within (length (t ∷ ts)) (t ∷ ts)
some_left t ts = rw (not_zero (length ts)) refl

operands_are : (ts : List Token) (os : List RawOperand) → operands_of ts ≡ Some os → AreOperands os ts
operands_are [] os e = subst (λ (x : List RawOperand). AreOperands x []) (some_is [] os e) refl
operands_are (t ∷ ts) os e = (operands_take (length (t ∷ ts)) (t ∷ ts) os (sym (some_left t ts) ∙ e)).0

are_operands : (ts : List Token) (os : List RawOperand) → AreOperands os ts → operands_of ts ≡ Some os
are_operands [] [] h = refl
are_operands [] (o ∷ os) h = absurd (omega (arith, operands_fit (o ∷ os) [] h))
are_operands (t ∷ ts) [] h = absurd (omega (arith, ap length h))
are_operands (t ∷ ts) (o ∷ os) h = some_left t ts ∙ operands_again (o ∷ os) (t ∷ ts) (length (t ∷ ts)) h (omega arith) (operands_fit (o ∷ os) (t ∷ ts) h)

abbrev StatementIs : ℕ → List Token → RawStatement → Type 0
StatementIs line ts s = IsStatement s ts × (s.line ≡ line)

pub statement_is : (line : ℕ) (ts : List Token) (s : RawStatement) → statement_at line ts ≡ Some s → IsStatement s ts × (s.line ≡ line)
statement_is line (tokens.Word w ∷ ts) s e =
    let m = map_some (λ (os : List RawOperand). let x : RawStatement = record { line = line; keyword = w; operands = os } in x) (operands_of ts) s e in
    subst (StatementIs line (tokens.Word w ∷ ts)) m.2 ((ts, refl, operands_are ts m.0 m.1), refl)
statement_is line ts s e = absurd cc

pub is_statement : (ts : List Token) (s : RawStatement) → IsStatement s ts → statement_at s.line ts ≡ Some s
is_statement ts s h = ap (statement_at s.line) h.1 ∙ rw (are_operands h.0 s.operands h.2) refl
