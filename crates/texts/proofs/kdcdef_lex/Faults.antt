-- A fault that is answered is there, and one that is there is answered.
use Rattle.std.proofs.Common.{◌≡◌, ◌≢◌, ℕ, ◌+◌, ◌-◌, ◌<◌, ◌≤◌, ◌&&◌, Bool, true, false, cond, eqb, ltb, List, [], ◌∷◌, ◌++◌, length, Option, Some, None, Result, Ok, Err, refl, sym, ap, ◌∙◌, subst}
use Rattle.std.proofs.Common.{append_assoc, arith, inl, inr, ◌⊎◌, eq-eqb}
use Rattle.std.specs.Prelude.{IfOk, IfErr}
use Rattle.std.specs.List.{list_all}
use Rattle.std.specs.Str.Lines.{lines}
use Rattle.std.proofs.lemmas.Bool.{cases_Bool, false≢true, ltb-false, ltb-true, le-ltb, lt-ltb, eqb-true}
use Rattle.std.proofs.lemmas.List.{append-nil}
use Rattle.texts.specs.declared.kdcdef_lex.fault.LexFault.{LexFault}
use Rattle.texts.specs.declared.kdcdef_lex.fault.LexFault.TheVariants.{NotAscii, OpenQuote, OpenParen, DanglingContinuation, BadOperand, TextTooLong, Memory}
use Rattle.texts.specs.declared.kdcdef_lex.token.Token.{Token}
use Rattle.texts.specs.declared.kdcdef_lex.group.Group.{Group}
use Rattle.texts.specs.declared.kdcdef_lex.statement.RawStatement.{RawStatement}
use Rattle.texts.specs.Lines.{is_passed, continued}
use Rattle.texts.specs.Groups.{groups}
use Rattle.texts.specs.Tokens.{tokens_of}
use Rattle.texts.specs.Parsing.{statement_at}
use Rattle.texts.specs.Reading.{is_text_byte, leaves_open, operands_fault, tokens_fault, statement_of, with_front, statements_of, read_text, Gives}
use Rattle.texts.specs.Grammar.{AreTokens, IsStatement}
use Rattle.texts.specs.Spelling.{Joins, JoinsOpen, BeginsStatement, IsGroup, Cut, SpellsStatements}
use Rattle.texts.specs.Faults.{IsText, HasFault, FirstFault, HasTextFault}
use Rattle.kd_base.specs.ToolsLaws.{chosen, both_true, not_both, cases_option, err_of, err_is, bind_err}
use Rattle.texts.proofs.kdcdef_lex.Words.{tokens_are, are_tokens}
use Rattle.texts.proofs.kdcdef_lex.Parsed.{statement_is, is_statement}
use Rattle.texts.proofs.kdcdef_lex.Spelling.{group_says, group_reads, groups_passed, groups_begun, cons_joins, say_read, read_say}
use Rattle.texts.proofs.kdcdef_lex.Quotes.{open_quote, quote_open}

-- ---- a group

at_line : (n : ℕ) (ts : List Token) (s : RawStatement) → IsStatement s ts → statement_at n ts ≡ Some (record { line = n; keyword = s.keyword; operands = s.operands })
at_line n ts s h = is_statement ts (record { line = n; keyword = s.keyword; operands = s.operands }) h

operands_faulty : (g : Group) (ts : List Token) (o : Option RawStatement) (f : LexFault) → IsText g → AreTokens ts g.text → leaves_open false ts ≡ false → (g.dangling && eqb g.first g.last) ≡ false
    → statement_at g.first ts ≡ o → operands_fault g o ≡ Err f → HasFault g f
operands_faulty g ts None f text are closed apart found e =
    let lines_differ = λ (d : g.dangling ≡ true) (same : g.first ≡ g.last). false≢true (sym apart ∙ rw d (eq-eqb g.first g.last same)) in
    let none = λ (s : RawStatement) (is : IsStatement s ts). let two : None ≡ Some (record { line = g.first; keyword = s.keyword; operands = s.operands }) = sym found ∙ at_line g.first ts s is in absurd (cc two) in
    subst (HasFault g) (err_is RawStatement (BadOperand g.first) f e) (refl, text, lines_differ, ts, are, closed, none)
operands_faulty g ts (Some s) f text are closed apart found e =
    elim (chosen g.dangling (Err (DanglingContinuation g.last)) (Ok s) (Err f) e) [
      | inl h ↦ subst (HasFault g) (err_is RawStatement (DanglingContinuation g.last) f h.1) (refl, text, h.0, ts, are, closed, inr (s, (statement_is g.first ts s found).0))
      | inr h ↦ absurd (cc h.1)
    ]

tokens_faulty : (g : Group) (o : Option (List Token)) (f : LexFault) → IsText g → tokens_of g.text ≡ o → tokens_fault g o ≡ Err f → HasFault g f
tokens_faulty g None f text found e = subst (HasFault g) (err_is RawStatement (OpenQuote g.first) f e) (refl, text, open_quote g.text found)
tokens_faulty g (Some ts) f text found e =
    let are = tokens_are g.text ts found in
    elim (chosen (leaves_open false ts) (Err (OpenParen g.first)) (cond (g.dangling && eqb g.first g.last) (Err (DanglingContinuation g.last)) (operands_fault g (statement_at g.first ts))) (Err f) e) [
      | inl h ↦ subst (HasFault g) (err_is RawStatement (OpenParen g.first) f h.1) (refl, text, ts, are, h.0)
      | inr h ↦ elim (chosen (g.dangling && eqb g.first g.last) (Err (DanglingContinuation g.last)) (operands_fault g (statement_at g.first ts)) (Err f) h.1) [
        | inl k ↦
            let b = both_true g.dangling (eqb g.first g.last) k.0 in
            subst (HasFault g) (err_is RawStatement (DanglingContinuation g.last) f k.1) (refl, text, b.0, ts, are, h.0, inl (eqb-true g.first g.last b.1))
        | inr k ↦ operands_faulty g ts (statement_at g.first ts) f text are h.0 k.0 refl k.1
      ]
    ]

pub group_fault : (g : Group) (f : LexFault) → statement_of g ≡ Err f → HasFault g f
group_fault g f e =
    elim (chosen (list_all is_text_byte g.text) (tokens_fault g (tokens_of g.text)) (Err (NotAscii g.first)) (Err f) e) [
      | inl h ↦ tokens_faulty g (tokens_of g.text) f h.0 refl h.1
      | inr h ↦ subst (HasFault g) (err_is RawStatement (NotAscii g.first) f h.1) (refl, h.0)
    ]

no_statement : (n : ℕ) (ts : List Token) → ((s : RawStatement) → IsStatement s ts → ⊥) → statement_at n ts ≡ None
no_statement n ts none =
    elim (cases_option (statement_at n ts)) [
      | inl h ↦ h
      | inr h ↦ absurd (none h.0 (statement_is n ts h.0 h.1).0)
    ]

pub fault_group : (g : Group) (f : LexFault) → HasFault g f → statement_of g ≡ Err f
fault_group g (NotAscii n) h = rw h.1 (ap (λ (x : ℕ). Err (NotAscii x)) (sym h.0))
fault_group g (OpenQuote n) h = rw (h.1, quote_open g.text h.2) (ap (λ (x : ℕ). Err (OpenQuote x)) (sym h.0))
fault_group g (OpenParen n) h = rw (h.1, are_tokens g.text h.2 h.3, h.4) (ap (λ (x : ℕ). Err (OpenParen x)) (sym h.0))
fault_group g (DanglingContinuation n) h =
    let name : err_of {A = RawStatement} (DanglingContinuation g.last) ≡ Err (DanglingContinuation n) = ap (λ (x : ℕ). Err (DanglingContinuation x)) (sym h.0) in
    elim (cases_Bool (eqb g.first g.last)) [
      | inl same ↦ rw (h.1, are_tokens g.text h.3 h.4, h.5, h.2, same) name
      | inr apart ↦ elim h.6 [
        | inl e ↦ absurd (false≢true (sym apart ∙ eq-eqb g.first g.last e))
        | inr s ↦ rw (h.1, are_tokens g.text h.3 h.4, h.5, h.2, apart, at_line g.first h.3 s.0 s.1) name
      ]
    ]
fault_group g (BadOperand n) h =
    let apart = not_both g.dangling (eqb g.first g.last) (λ d e. h.2 d (eqb-true g.first g.last e)) in
    rw (h.1, are_tokens g.text h.3 h.4, h.5, apart, no_statement g.first h.3 h.6) (ap (λ (x : ℕ). Err (BadOperand x)) (sym h.0))
fault_group g TextTooLong h = absurd h
fault_group g Memory h = absurd h

-- ---- a list of groups

pub first_fault : (gs : List Group) (f : LexFault) → statements_of gs ≡ Err f → FirstFault gs f
first_fault [] f e = absurd (cc e)
first_fault (g ∷ gs) f e =
    elim (bind_err (statement_of g) (λ s. with_front (s ∷ []) (statements_of gs)) f e) [
      | inl h ↦ inl (group_fault g f h)
      | inr h ↦
          let says = group_says g h.0 h.1 in
          elim (bind_err (statements_of gs) (λ (more : List RawStatement). let x : Result (List RawStatement) LexFault = Ok (h.0 ∷ more) in x) f h.2) [
            | inl k ↦ inr ((h.0, says), first_fault gs f k)
            | inr k ↦ absurd (cc k.2)
          ]
    ]

fault_first : (gs : List Group) (f : LexFault) → FirstFault gs f → statements_of gs ≡ Err f
fault_first [] f h = absurd h
fault_first (g ∷ gs) f h =
    elim h [
      | inl k ↦ rw (fault_group g f k) refl
      | inr k ↦ rw (group_reads g k.0.0 k.0.1, fault_first gs f k.1) refl
    ]

-- ---- the groups of lines

-- where a statement was begun: its other lines, and the groups after them
abbrev OpenCut : ℕ → List ℕ → ℕ → List (List ℕ) → List Group → Type 0
OpenCut first so_far n all gs =
    (own after : List (List ℕ)) × (text : List ℕ) × (last : ℕ) × (dangling : Bool) × (more : List Group) × (all ≡ own ++ after) × (last + 1 ≡ n + length own)
    × ((Joins own text × (dangling ≡ false)) ⊎ (JoinsOpen own text × (dangling ≡ true) × (after ≡ [])))
    × (gs ≡ record { first = first; last = last; text = so_far ++ text; dangling = dangling } ∷ more) × Cut (last + 1) after more

cut_passed : (line : List ℕ) (rest : List (List ℕ)) (n : ℕ) (gs : List Group) → is_passed line ≡ true → Cut (n + 1) rest gs → Cut n (line ∷ rest) gs
cut_passed line rest n [] p h = rw (p, h) refl
cut_passed line rest n (g ∷ gs) p h =
    let index : (n + 1) + length h.0 ≡ n + length (line ∷ h.0) = omega arith in
    (line ∷ h.0, h.1, h.2, ap (λ (x : List (List ℕ)). line ∷ x) h.3, rw (p, h.4) refl, subst (λ (m : ℕ). IsGroup m h.1 h.2 g) index h.5, h.6)

longer : (line body : List ℕ) (own after : List (List ℕ)) (text : List ℕ) (dangling : Bool) → continued line ≡ Some body
    → (Joins own text × (dangling ≡ false)) ⊎ (JoinsOpen own text × (dangling ≡ true) × (after ≡ []))
    → (Joins (line ∷ own) (body ++ text) × (dangling ≡ false)) ⊎ (JoinsOpen (line ∷ own) (body ++ text) × (dangling ≡ true) × (after ≡ []))
longer line body own after text dangling more h =
    elim h [
      | inl k ↦ inl (cons_joins line body own text more k.0, k.1)
      | inr k ↦ inr ((body, text, more, refl, k.0), k.1, k.2)
    ]

own_some : (line : List ℕ) (rest own after : List (List ℕ)) (text : List ℕ) (dangling : Bool) → line ∷ rest ≡ own ++ after
    → (Joins own text × (dangling ≡ false)) ⊎ (JoinsOpen own text × (dangling ≡ true) × (after ≡ [])) → 0 < length own
own_some line rest [] after text dangling e h =
    elim h [
      | inl k ↦ absurd k.0
      | inr k ↦ let nothing : line ∷ rest ≡ [] = e ∙ k.2 in absurd (cc nothing)
    ]
own_some line rest (x ∷ own) after text dangling e h = omega arith

begins_own : (line : List ℕ) (rest own after : List (List ℕ)) → is_passed line ≡ false → line ∷ rest ≡ own ++ after → 0 < length own → BeginsStatement own
begins_own line rest [] after p e some = absurd (omega arith)
begins_own line rest (x ∷ own) after p e some = let same : line ≡ x = cc in subst (λ (y : List ℕ). is_passed y ≡ false) same p

abbrev BothCut : List (List ℕ) → Type 0
BothCut all = ((n : ℕ) → 0 < n → Cut n all (groups None n all)) × ((first : ℕ) (so_far : List ℕ) (n : ℕ) → 0 < n → OpenCut first so_far n all (groups (Some (first, so_far)) n all))

open_line : (line : List ℕ) (rest : List (List ℕ)) → BothCut rest → (first : ℕ) (so_far : List ℕ) (n : ℕ) → 0 < n → OpenCut first so_far n (line ∷ rest) (groups (Some (first, so_far)) n (line ∷ rest))
open_line line rest deep first so_far n some =
    elim (cases_option (continued line)) [
      | inl h ↦ (line ∷ [], rest, line, n, false, groups None (n + 1) rest, refl, omega arith, inl ((h, refl), refl), rw h refl, deep.0 (n + 1) (omega arith))
      | inr h ↦
          let a = deep.1 first (so_far ++ h.0) (n + 1) (omega arith) in
          let len : a.3 + 1 ≡ n + length (line ∷ a.0) = omega (arith, a.7) in (
            line ∷ a.0,
            a.1,
            h.0 ++ a.2,
            a.3,
            a.4,
            a.5,
            ap (λ (x : List (List ℕ)). line ∷ x) a.6,
            len,
            longer line h.0 a.0 a.1 a.2 a.4 h.1 a.8,
            rw h.1 (a.9 ∙ ap (λ (x : List ℕ). let y : List Group = record { first = first; last = a.3; text = x; dangling = a.4 } ∷ a.5 in y) (append_assoc so_far h.0 a.2)),
            a.10,
          )
    ]

cut_begun : (line : List ℕ) (rest : List (List ℕ)) (n : ℕ) (gs : List Group) → is_passed line ≡ false → OpenCut n [] n (line ∷ rest) gs → Cut n (line ∷ rest) gs
cut_begun line rest n gs p a =
    let some = own_some line rest a.0 a.1 a.2 a.4 a.6 a.8 in
    let group : IsGroup (n + 0) a.0 a.1 (record { first = n; last = a.3; text = a.2; dangling = a.4 }) =
    record { begins = begins_own line rest a.0 a.1 p a.6 some; first = omega arith; last = omega (arith, a.7); joined = a.8 } in
    subst (Cut n (line ∷ rest)) (sym a.9) ([], a.0, a.1, a.6, refl, group, a.10)

pub groups_cut : (all : List (List ℕ)) → BothCut all
groups_cut [] = (
  λ n some. refl,
  λ first so_far n some. (
    [],
    [],
    [],
    n - 1,
    true,
    [],
    refl,
    omega arith,
    inr (refl, refl, refl),
    ap (λ (x : List ℕ). let y : List Group = record { first = first; last = n - 1; text = x; dangling = true } ∷ [] in y) (sym (append-nil so_far)),
    refl,
  ),
)
groups_cut (line ∷ rest) =
    let deep = groups_cut rest in (
      λ n some. elim (cases_Bool (is_passed line)) [
        | inl h ↦ rw h (cut_passed line rest n (groups None (n + 1) rest) h (deep.0 (n + 1) (omega arith)))
        | inr h ↦
            let same : groups (Some (n, [])) n (line ∷ rest) ≡ groups None n (line ∷ rest) = rw h refl in
            subst (Cut n (line ∷ rest)) same (cut_begun line rest n (groups (Some (n, [])) n (line ∷ rest)) h (open_line line rest deep n [] n some))
      ],
      λ first so_far n some. open_line line rest deep first so_far n some,
    )

-- no other groups

groups_dangling : (own : List (List ℕ)) (text : List ℕ) (first : ℕ) (so_far : List ℕ) (n last : ℕ) → JoinsOpen own text → last + 1 ≡ n + length own
    → groups (Some (first, so_far)) n own ≡ record { first = first; last = last; text = so_far ++ text; dangling = true } ∷ []
groups_dangling [] text first so_far n last h e =
    let last-is : last ≡ n - 1 = omega arith in
    let text-is : so_far ++ text ≡ so_far = ap (λ (x : List ℕ). so_far ++ x) h ∙ append-nil so_far in
    rw (last-is, text-is) refl
groups_dangling (line ∷ more) text first so_far n last h e =
    rw h.2 (groups_dangling more h.1 first (so_far ++ h.0) (n + 1) last h.4 (omega arith)
    ∙ ap (λ (x : List ℕ). let y : List Group = record { first = first; last = last; text = x; dangling = true } ∷ [] in y) (append_assoc so_far h.0 h.1 ∙ ap (λ (x : List ℕ). so_far ++ x) (sym h.3)))

begun_dangling : (own : List (List ℕ)) (text : List ℕ) (n last : ℕ) → BeginsStatement own → JoinsOpen own text → last + 1 ≡ n + length own
    → groups None n own ≡ record { first = n; last = last; text = text; dangling = true } ∷ []
begun_dangling [] text n last b h e = absurd b
begun_dangling (line ∷ more) text n last b h e =
    rw (b, h.2) (groups_dangling more h.1 n h.0 (n + 1) last h.4 (omega arith)
    ∙ ap (λ (x : List ℕ). let y : List Group = record { first = n; last = last; text = x; dangling = true } ∷ [] in y) (sym h.3))

group_is : (g : Group) (n : ℕ) (d : Bool) → g.first ≡ n → g.dangling ≡ d → g ≡ record { first = n; last = g.last; text = g.text; dangling = d }
group_is g n d e f =
    ap (λ (x : ℕ). let y : Group = record { first = x; last = g.last; text = g.text; dangling = g.dangling } in y) e
    ∙ ap (λ (x : Bool). let y : Group = record { first = n; last = g.last; text = g.text; dangling = x } in y) f

pub cut_groups : (gs : List Group) (n : ℕ) (all : List (List ℕ)) → Cut n all gs → groups None n all ≡ gs
cut_groups [] n all h = ap (groups None n) (sym (append-nil all)) ∙ groups_passed all [] n (n + length all) h refl
cut_groups (g ∷ gs) n all h =
    let before = h.0 in
    let own = h.1 in
    let after = h.2 in
    let first = n + length before in
    let group = h.5 in
    let start = ap (groups None n) h.3 ∙ groups_passed before (own ++ after) n first h.4 refl in
    let deep = cut_groups gs (g.last + 1) after h.6 in
    elim group.joined [
      | inl k ↦
          start ∙ groups_begun own after g.text first g.last (g.last + 1) group.begins k.0 group.last (omega (arith, group.last))
          ∙ ap (λ (x : Group). x ∷ groups None (g.last + 1) after) (sym (group_is g first false group.first k.1)) ∙ ap (λ (x : List Group). g ∷ x) deep
      | inr k ↦
          let nothing : gs ≡ [] = sym deep ∙ ap (groups None (g.last + 1)) k.2 in
          start ∙ ap (λ (x : List (List ℕ)). groups None first (own ++ x)) k.2 ∙ ap (groups None first) (append-nil own) ∙ begun_dangling own g.text first g.last group.begins k.0 group.last
          ∙ ap (λ (x : Group). x ∷ []) (sym (group_is g first true group.first k.1)) ∙ ap (λ (x : List Group). g ∷ x) (sym nothing)
    ]

-- ---- a text

abbrev FaultsSo : List ℕ → LexFault → Type 0
FaultsSo text f = (length text ≤ 16777216) × (gs : List Group) × Cut 1 (lines text) gs × FirstFault gs f

no_first : (gs : List Group) → FirstFault gs TextTooLong → ⊥
no_first [] h = h
no_first (g ∷ gs) h = elim h [ inl k ↦ k | inr k ↦ no_first gs k.1 ]

not_memory : (gs : List Group) → FirstFault gs Memory → ⊥
not_memory [] h = h
not_memory (g ∷ gs) h = elim h [ inl k ↦ k | inr k ↦ not_memory gs k.1 ]

-- the fault of a text that is not too long
text_fault : (text : List ℕ) (f : LexFault) → FaultsSo text f → HasTextFault text f
text_fault text TextTooLong h = absurd (no_first h.1 h.3)
text_fault text fault h = h

pub fault_stands : (text : List ℕ) (f : LexFault) → read_text text ≡ Err f → HasTextFault text f
fault_stands text f e =
    elim (chosen (ltb 16777216 (length text)) (Err TextTooLong) (statements_of (groups None 1 (lines text))) (Err f) e) [
      | inl h ↦ subst (HasTextFault text) (err_is (List RawStatement) TextTooLong f h.1) (ltb-true 16777216 (length text) h.0)
      | inr h ↦
          let gs = groups None 1 (lines text) in
          text_fault text f (ltb-false 16777216 (length text) h.0, gs, (groups_cut (lines text)).0 1 (omega arith), first_fault gs f h.1)
    ]

fault_read : (text : List ℕ) (f : LexFault) → FaultsSo text f → read_text text ≡ Err f
fault_read text f h = rw (le-ltb 16777216 (length text) h.0, cut_groups h.1 1 (lines text) h.2) (fault_first h.1 f h.3)

pub stands_fault : (text : List ℕ) (f : LexFault) → HasTextFault text f → read_text text ≡ Err f
stands_fault text TextTooLong h = rw (lt-ltb 16777216 (length text) h) refl
stands_fault text Memory h = absurd (not_memory h.1 h.3)
stands_fault text fault h = fault_read text fault h

pub fault_found : (text : List ℕ) (r : Result (List RawStatement) LexFault) → Gives r (read_text text) → IfErr r (λ e. e ≢ Memory → HasTextFault text e)
fault_found text (Ok v) h = tt
fault_found text (Err Memory) h = λ ne. absurd (ne refl)
fault_found text (Err fault) h = λ _. fault_stands text fault h

pub refused_for : (text : List ℕ) (r : Result (List RawStatement) LexFault) → Gives r (read_text text) → (f : LexFault) → HasTextFault text f → Gives r (Err f)
refused_for text r h f stands = subst (Gives r) (stands_fault text f stands) h

pub text_stands : (text : List ℕ) (ss : List RawStatement) → read_text text ≡ Ok ss → SpellsStatements text ss
text_stands text ss e =
    elim (chosen (ltb 16777216 (length text)) (Err TextTooLong) (statements_of (groups None 1 (lines text))) (Ok ss) e) [
      | inl h ↦ absurd (cc h.1)
      | inr h ↦
          let gs = groups None 1 (lines text) in
          (ltb-false 16777216 (length text) h.0, gs, (groups_cut (lines text)).0 1 (omega arith), read_say gs ss h.1)
    ]

pub stands_text : (text : List ℕ) (ss : List RawStatement) → SpellsStatements text ss → read_text text ≡ Ok ss
stands_text text ss h = rw (le-ltb 16777216 (length text) h.0, cut_groups h.1 1 (lines text) h.2) (say_read h.1 ss h.3)

pub found_stands : (text : List ℕ) (r : Result (List RawStatement) LexFault) → Gives r (read_text text) → IfOk r (λ ss. SpellsStatements text ss)
found_stands text (Ok ss) h = text_stands text ss h
found_stands text (Err e) h = tt

pub only_that : (text : List ℕ) (r : Result (List RawStatement) LexFault) → Gives r (read_text text) → (ss : List RawStatement) → SpellsStatements text ss → Gives r (Ok ss)
only_that text r h ss stands = subst (Gives r) (stands_text text ss stands) h
