use Rattle.std.proofs.Common.{◌≡◌, ◌+◌, ℕ, true, false, List, [], ◌∷◌, ◌++◌, length, Some, None, refl, sym, ap, ◌∙◌, arith, rules}
use Rattle.std.specs.Str.Lines.{lines}
use Rattle.texts.specs.declared.kdcdef_lex.group.Group.{Group}
use Rattle.texts.specs.Lines.{is_passed, continued}
use Rattle.texts.specs.Groups.{groups}
use Rattle.texts.proofs.kdcdef_lex.group.group_of.Goals as goal

-- a line that is not passed over begins a statement
begins : (n : ℕ) (line : List ℕ) (ls : List (List ℕ)) → is_passed line ≡ false → groups (Some (n, [])) n (line ∷ ls) ≡ groups None n (line ∷ ls)
begins n line ls h = rw h refl

-- what is open goes on with a line that is continued, and ends with one that is not
goes_on : (first n : ℕ) (text line body after : List ℕ) (ls : List (List ℕ)) → continued line ≡ Some body → after ≡ text ++ body
    → groups (Some (first, text)) n (line ∷ ls) ≡ groups (Some (first, after)) (n + 1) ls
goes_on first n text line body after ls h is = rw (h, is) refl

ends : (first n : ℕ) (text line : List ℕ) (ls : List (List ℕ)) → continued line ≡ None
    → groups (Some (first, text)) n (line ∷ ls) ≡ record { first = first; last = n; text = text ++ line; dangling = false } ∷ groups None (n + 1) ls
ends first n text line ls h = rw h refl

-- no line follows what is open
dangles : (first n : ℕ) (text rest : List ℕ) → length rest ≡ 0
    → groups (Some (first, text)) (n + 1) (lines rest) ≡ record { first = first; last = n; text = text; dangling = true } ∷ groups None (n + 1) (lines rest)
dangles first n text [] h = ap (λ (m : ℕ). let g : Group = record { first = first; last = m; text = text; dangling = true } in g ∷ []) (omega arith)
dangles first n text (b ∷ rest) h = absurd (omega arith)

pub loop-body-init : goal.loop-body-init
loop-body-init c = record {
  so_far = ap (λ (text : List ℕ). groups (Some (c.args.number, text)) c.args.number (c.args.line.now ∷ lines c.args.rest.now)) c.new-text.ensures
      ∙ begins c.args.number c.args.line.now (lines c.args.rest.now) c.requires.begins;
  bounded = omega arith;
  shorter = omega arith;
}

pub returns-then-is_empty-clause-group : goal.returns-then-is_empty-clause-group
returns-then-is_empty-clause-group c =
    let none : length c.loop-body.rest.now ≡ 0 = search rules in
    sym c.loop-body.invariant.so_far
    ∙ goes_on c.args.number c.loop-body.last c.loop-body.text c.loop-body.line.now c.in-Some.body.now c.append.new.self (lines c.loop-body.rest.now) (sym c.in-Some.ensures) c.in_ok-append.ensures.ok
    ∙ dangles c.args.number c.loop-body.last c.append.new.self c.loop-body.rest.now none

pub loop-body-preserved : goal.loop-body-preserved
loop-body-preserved c = record {
  so_far = ap (groups (Some (c.args.number, c.append.new.self)) (c.loop-body.last + 1)) (sym c.next_line.ensures.lines)
      ∙ sym (goes_on c.args.number c.loop-body.last c.loop-body.text c.loop-body.line.now c.in-Some.body.now c.append.new.self (lines c.loop-body.rest.now) (sym c.in-Some.ensures) c.in_ok-append.ensures.ok)
      ∙ c.loop-body.invariant.so_far;
  bounded = omega (arith, c.next_line.ensures.shorter, c.loop-body.invariant.bounded);
  shorter = omega (arith, c.next_line.ensures.shorter, c.loop-body.invariant.shorter);
}

pub returns-clause-group : goal.returns-clause-group
returns-clause-group c =
    let whole : continued c.loop-body.line.now ≡ None = sym c.in_default.ensures in
    rw c.in_ok-append-2.ensures.ok
    (sym c.loop-body.invariant.so_far
    ∙ ends c.args.number c.loop-body.last c.loop-body.text c.loop-body.line.now (lines c.loop-body.rest.now) whole)
