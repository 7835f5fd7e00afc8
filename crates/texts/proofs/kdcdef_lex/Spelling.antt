-- What is read is there, and what is there is read.
use Rattle.std.proofs.Common.{◌≡◌, ℕ, ◌+◌, ◌&&◌, Bool, true, false, cond, eqb, List, [], ◌∷◌, ◌++◌, length, Option, Some, None, Ok, Err, refl, sym, ap, ◌∙◌, subst, append_assoc, arith, inl, inr}
use Rattle.std.specs.Prelude.{IsTrue}
use Rattle.std.specs.List.{list_all}
use Rattle.texts.specs.declared.kdcdef_lex.fault.LexFault.{LexFault}
use Rattle.texts.specs.declared.kdcdef_lex.fault.LexFault.TheVariants.{NotAscii, OpenParen, DanglingContinuation}
use Rattle.texts.specs.declared.kdcdef_lex.token.Token.{Token}
use Rattle.texts.specs.declared.kdcdef_lex.token.Token.TheVariants as tokens
use Rattle.texts.specs.declared.kdcdef_lex.group.Group.{Group}
use Rattle.texts.specs.declared.kdcdef_lex.statement.RawValue.{RawValue}
use Rattle.texts.specs.declared.kdcdef_lex.statement.RawValue.TheVariants as values
use Rattle.texts.specs.declared.kdcdef_lex.statement.RawOperand.{RawOperand}
use Rattle.texts.specs.declared.kdcdef_lex.statement.RawStatement.{RawStatement}
use Rattle.texts.specs.Lines.{is_passed, continued}
use Rattle.texts.specs.Groups.{groups}
use Rattle.texts.specs.Tokens.{tokens_of}
use Rattle.texts.specs.Parsing.{statement_at}
use Rattle.texts.specs.Reading.{is_text_byte, leaves_open, operands_fault, tokens_fault, statement_of, with_front, statements_of}
use Rattle.texts.specs.Grammar.{IsValue, IsKeyed, AreOperands, IsStatement}
use Rattle.texts.specs.Spelling.{Joins, BeginsStatement, Says, AllSay}
use Rattle.kd_base.specs.ToolsLaws.{chosen, both_true, ok_is, bind_ok}
use Rattle.texts.proofs.kdcdef_lex.Words.{tokens_are, are_tokens}
use Rattle.texts.proofs.kdcdef_lex.Parsed.{statement_is, is_statement}

-- ---- a statement leaves no parenthesis open

then_open : (b : Bool) (xs ys : List Token) → leaves_open b (xs ++ ys) ≡ leaves_open (leaves_open b xs) ys
then_open b [] ys = refl
then_open b (tokens.Open ∷ xs) ys = then_open true xs ys
then_open b (tokens.Close ∷ xs) ys = then_open false xs ys
then_open b (token ∷ xs) ys = then_open b xs ys

value_closed : (v : RawValue) (own : List Token) → IsValue v own → leaves_open false own ≡ false
value_closed (values.Word w) own h = rw h refl
value_closed (values.Quoted q) own h = rw h.2 refl
value_closed (values.Listed is) own h = rw h.1 (then_open true h.0 (tokens.Close ∷ []))

operand_closed : (key : Option (List ℕ)) (v : RawValue) (own : List Token) → IsKeyed key v own → leaves_open false own ≡ false
operand_closed None v own h = value_closed v own h
operand_closed (Some k) v own h = rw h.1 (value_closed v h.0 h.2)

operands_closed : (os : List RawOperand) (own : List Token) → AreOperands os own → leaves_open false own ≡ false
operands_closed [] own h = rw h refl
operands_closed (o ∷ []) own h = operand_closed o.key o.value own h
operands_closed (o ∷ p ∷ os) own h =
    rw h.2 (then_open false h.0 (tokens.Comma ∷ h.1) ∙ rw (operand_closed o.key o.value h.0 h.3) (operands_closed (p ∷ os) h.1 h.4))

statement_closed : (s : RawStatement) (ts : List Token) → IsStatement s ts → leaves_open false ts ≡ false
statement_closed s ts h = rw h.1 (operands_closed s.operands h.0 h.2)

-- ---- a group

pub group_reads : (g : Group) (s : RawStatement) → Says g s → statement_of g ≡ Ok s
group_reads g s says =
    let whole = says.0 in
    let h = says.1 in
    let line = says.2 in
    let read : statement_at g.first h.1 ≡ Some s = ap (λ (n : ℕ). statement_at n h.1) (sym line) ∙ is_statement h.1 s h.3 in
    rw (h.0, are_tokens g.text h.1 h.2, statement_closed s h.1 h.3, whole, read) refl

operands_read : (g : Group) (ts : List Token) (o : Option RawStatement) (s : RawStatement) → operands_fault g o ≡ Ok s → (o ≡ Some s) × (g.dangling ≡ false)
operands_read g ts None s e = absurd cc
operands_read g ts (Some t) s e =
    elim (chosen g.dangling (Err (DanglingContinuation g.last)) (Ok t) (Ok s) e) [
      | inl h ↦ absurd (cc h.1)
      | inr h ↦ (ap (λ (x : RawStatement). Some x) (ok_is LexFault t s h.1), h.0)
    ]

tokens_read : (g : Group) (o : Option (List Token)) (s : RawStatement) → list_all is_text_byte g.text ≡ true → tokens_of g.text ≡ o → tokens_fault g o ≡ Ok s → Says g s
tokens_read g None s text found e = absurd cc
tokens_read g (Some ts) s text found e =
    elim (chosen (leaves_open false ts) (Err (OpenParen g.first)) (cond (g.dangling && eqb g.first g.last) (Err (DanglingContinuation g.last)) (operands_fault g (statement_at g.first ts))) (Ok s) e) [
      | inl h ↦ absurd (cc h.1)
      | inr h ↦ elim (chosen (g.dangling && eqb g.first g.last) (Err (DanglingContinuation g.last)) (operands_fault g (statement_at g.first ts)) (Ok s) h.1) [
        | inl k ↦ absurd (cc k.1)
        | inr k ↦
            let r = operands_read g ts (statement_at g.first ts) s k.1 in
            let is = statement_is g.first ts s r.0 in
            (r.1, (text, ts, tokens_are g.text ts found, is.0), is.1)
      ]
    ]

pub group_says : (g : Group) (s : RawStatement) → statement_of g ≡ Ok s → Says g s
group_says g s e =
    elim (chosen (list_all is_text_byte g.text) (tokens_fault g (tokens_of g.text)) (Err (NotAscii g.first)) (Ok s) e) [
      | inl h ↦ tokens_read g (tokens_of g.text) s h.0 refl h.1
      | inr h ↦ absurd (cc h.1)
    ]

-- ---- lines: what is there is read

pub groups_passed : (before rest : List (List ℕ)) (n next : ℕ) → IsTrue (list_all is_passed before) → next ≡ n + length before → groups None n (before ++ rest) ≡ groups None next rest
groups_passed [] rest n next h e = let is : next ≡ n = omega arith in rw is refl
groups_passed (line ∷ before) rest n next h e =
    let a = both_true (is_passed line) (list_all is_passed before) h in
    rw a.0 (groups_passed before rest (n + 1) next a.1 (omega arith))

abbrev pub made : ℕ → ℕ → List ℕ → Group
made first last text = record { first = first; last = last; text = text; dangling = false }

groups_joined : (own after : List (List ℕ)) (text : List ℕ) (first : ℕ) (so_far : List ℕ) (n last next : ℕ) → Joins own text → last + 1 ≡ n + length own → next ≡ n + length own
    → groups (Some (first, so_far)) n (own ++ after) ≡ made first last (so_far ++ text) ∷ groups None next after
groups_joined [] after text first so_far n last next h e f = absurd h
groups_joined (line ∷ []) after text first so_far n last next h e f =
    let last-is : last ≡ n = omega arith in
    let next-is : next ≡ n + 1 = omega arith in
    rw (h.0, h.1, last-is, next-is) refl
groups_joined (line ∷ line2 ∷ more) after text first so_far n last next h e f =
    rw h.2 (groups_joined (line2 ∷ more) after h.1 first (so_far ++ h.0) (n + 1) last next h.4 (omega arith) (omega arith)
    ∙ ap (λ (x : List ℕ). made first last x ∷ groups None next after) (append_assoc so_far h.0 h.1 ∙ ap (λ (x : List ℕ). so_far ++ x) (sym h.3)))

pub groups_begun : (own after : List (List ℕ)) (text : List ℕ) (n last next : ℕ) → BeginsStatement own → Joins own text → last + 1 ≡ n + length own → next ≡ n + length own
    → groups None n (own ++ after) ≡ made n last text ∷ groups None next after
groups_begun [] after text n last next b h e f = absurd h
groups_begun (line ∷ []) after text n last next b h e f =
    let last-is : last ≡ n = omega arith in
    let next-is : next ≡ n + 1 = omega arith in
    rw (b, h.0, h.1, last-is, next-is) refl
groups_begun (line ∷ line2 ∷ more) after text n last next b h e f =
    rw (b, h.2) (groups_joined (line2 ∷ more) after h.1 n h.0 (n + 1) last next h.4 (omega arith) (omega arith)
    ∙ ap (λ (x : List ℕ). made n last x ∷ groups None next after) (sym h.3))

-- ---- lists of groups

pub cons_joins : (line body : List ℕ) (own : List (List ℕ)) (text : List ℕ) → continued line ≡ Some body → Joins own text → Joins (line ∷ own) (body ++ text)
cons_joins line body [] text h k = absurd k
cons_joins line body (next ∷ own) text h k = (body, text, h, refl, k)

pub say_read : (gs : List Group) (ss : List RawStatement) → AllSay gs ss → statements_of gs ≡ Ok ss
say_read [] [] h = refl
say_read [] (s ∷ ss) h = absurd h
say_read (g ∷ gs) [] h = absurd h
say_read (g ∷ gs) (s ∷ ss) h = rw (group_reads g s h.0, say_read gs ss h.1) refl

pub read_say : (gs : List Group) (ss : List RawStatement) → statements_of gs ≡ Ok ss → AllSay gs ss
read_say [] ss e = subst (AllSay []) (ok_is LexFault [] ss e) tt
read_say (g ∷ gs) ss e =
    let a = bind_ok (statement_of g) (λ s. with_front (s ∷ []) (statements_of gs)) ss e in
    let b = bind_ok (statements_of gs) (λ more. Ok (a.0 ∷ more)) ss a.2 in
    subst (AllSay (g ∷ gs)) (ok_is LexFault (a.0 ∷ b.0) ss b.2) (group_says g a.0 a.1, read_say gs b.0 b.1)
