-- Laws: the first fault of a text, and an answer that may be want of memory instead.
use Rattle.std.specs.Prelude.{◌≡◌, ◌⊎◌, ℕ, ◌≤◌, Bool, true, false, cond, ◌&&◌, ◌||◌, ◌==◌, nat_lt, nat_le, List, [], ◌∷◌, Option, Some, None, IsTrue, refl}
use Rattle.std.proofs.Common.{sym, ◌∙◌, subst, inl, inr, arith}
use Rattle.std.proofs.lemmas.Bool.Decides.{nat_tests}
use Rattle.kd_base.specs.FirstFaults.{Unless, first_by, earlier_by, IsFirstBy, first_true, IsTested}

-- ---- an answer, unless memory ran out

pub holds_unless : (b : Bool) (P : Type 0) → (b ≡ false → P) → Unless b P
holds_unless true P h = tt
holds_unless false P h = h refl

-- ---- the order of faults: by their lines, and on one line by their numbers

-- the same over lines and numbers
abbrev before : ℕ → ℕ → ℕ → ℕ → Bool
before l n m k = nat_lt l m || (l == m && nat_le n k)

before_total : (l n m k : ℕ) → before l n m k ≡ false → before m k l n ≡ true
before_total l n m k h = grind (arith, nat_tests, h)

before_trans : (l n m k p q : ℕ) → before l n m k ≡ true → before m k p q ≡ true → before l n p q ≡ true
before_trans l n m k p q h i = grind (arith, nat_tests, h, i)

before_self : (l n : ℕ) → before l n l n ≡ true
before_self l n = grind (arith, nat_tests)

before_both : (l n m k : ℕ) → before l n m k ≡ true → before m k l n ≡ true → (l ≡ m) × (n ≡ k)
before_both l n m k h i = (grind (arith, nat_tests, h, i), grind (arith, nat_tests, h, i))

on_line : (l n m k : ℕ) → l ≡ m → n ≤ k → before l n m k ≡ true
on_line l n m k same le = grind (arith, nat_tests, same, le)

module _ {E : Type 0} (line_of number_of : E → ℕ) where
  first_total : (a b : E) → first_by line_of number_of a b ≡ false → IsTrue (first_by line_of number_of b a)
  first_total a b h = before_total (line_of a) (number_of a) (line_of b) (number_of b) h

  first_trans : (a b c : E) → IsTrue (first_by line_of number_of a b) → IsTrue (first_by line_of number_of b c) → IsTrue (first_by line_of number_of a c)
  first_trans a b c h i = before_trans (line_of a) (number_of a) (line_of b) (number_of b) (line_of c) (number_of c) h i

  -- a fault comes first of itself alone
  pub first_self : (a : E) → IsTrue (first_by line_of number_of a a)
  first_self a = before_self (line_of a) (number_of a)

  -- each before the other: they are on one line and have one number
  pub first_both : (a b : E) → IsTrue (first_by line_of number_of a b) → IsTrue (first_by line_of number_of b a) → (line_of a ≡ line_of b) × (number_of a ≡ number_of b)
  first_both a b h i = before_both (line_of a) (number_of a) (line_of b) (number_of b) h i

  -- the first of two kinds of faults together
  pub first_of_both : (P Q R : E → Type 0) → ((e : E) → R e → P e ⊎ Q e) → ((e : E) → P e → R e) → ((e : E) → Q e → R e) → (a b : Option E) → IsFirstBy line_of number_of P a → IsFirstBy line_of number_of Q b → IsFirstBy line_of number_of R (earlier_by line_of number_of a b)
  first_of_both P Q R split left right None None p q = λ e r. elim (split e r) [ inl h ↦ p e h | inr h ↦ q e h ]
  first_of_both P Q R split left right None (Some b) p q =
      (right b q.0, λ e r. elim (split e r) [ inl h ↦ absurd (p e h) | inr h ↦ q.1 e h ])
  first_of_both P Q R split left right (Some a) None p q =
      (left a p.0, λ e r. elim (split e r) [ inl h ↦ p.1 e h | inr h ↦ absurd (q e h) ])
  first_of_both P Q R split left right (Some a) (Some b) p q = go (first_by line_of number_of a b) refl
    where
      go : (c : Bool) → first_by line_of number_of a b ≡ c → IsFirstBy line_of number_of R (cond c (Some a) (Some b))
      go true h = (left a p.0, λ e r. elim (split e r) [ inl i ↦ p.1 e i | inr i ↦ first_trans a b e h (q.1 e i) ])
      go false h = (right b q.0, λ e r. elim (split e r) [ inl i ↦ first_trans b a e (first_total a b h) (p.1 e i) | inr i ↦ q.1 e i ])

  -- the same faults, said in another way
  pub first_as : (P Q : E → Type 0) → ((e : E) → P e → Q e) → ((e : E) → Q e → P e) → (a : Option E) → IsFirstBy line_of number_of P a → IsFirstBy line_of number_of Q a
  first_as P Q to from None p = λ e h. p e (from e h)
  first_as P Q to from (Some a) p = (to a p.0, λ e h. p.1 e (from e h))

  pub earlier_none : (a b : Option E) → earlier_by line_of number_of a b ≡ None → (a ≡ None) × (b ≡ None)
  earlier_none None b h = (refl, h)
  earlier_none (Some a) None h = absurd cc
  earlier_none (Some a) (Some b) h = go (first_by line_of number_of a b) h
    where
      go : (c : Bool) → cond c (Some a) (Some b) ≡ None → (Some a ≡ None) × (Some b ≡ None)
      go true h = absurd cc
      go false h = absurd cc

-- ---- a chain of tests, each with its fault

module _ {E : Type 0} (line_of number_of : E → ℕ) (line : ℕ) where
  -- the faults are of one line, and their numbers, from n on, do not descend
  abbrev pub AreInOrder : ℕ → List (Bool × E) → Type 0
  AreInOrder n [] = Unit {0}
  AreInOrder n ((test, fault) ∷ rest) = (line_of fault ≡ line) × (n ≤ number_of fault) × AreInOrder (number_of fault) rest

  -- a fault that is tested later has no lesser number
  tested_later : (n : ℕ) (tests : List (Bool × E)) → AreInOrder n tests → (e : E) → IsTested tests e → (line_of e ≡ line) × (n ≤ number_of e)
  tested_later n [] order e h = absurd h
  tested_later n ((test, fault) ∷ rest) order e (inl here) = (subst (λ (x : E). line_of x ≡ line) (sym here.1) order.0, subst (λ (x : E). n ≤ number_of x) (sym here.1) order.1)
  tested_later n ((test, fault) ∷ rest) order e (inr later) =
      let h = tested_later (number_of fault) rest order.2 e later in
      (h.0, omega (arith, order.1, h.1))

  -- of tests in order, the first that is true has the fault that comes first
  pub chain_first : (n : ℕ) (tests : List (Bool × E)) → AreInOrder n tests → IsFirstBy line_of number_of (IsTested tests) (first_true tests)
  chain_first n [] order = λ e h. h
  chain_first n ((true, fault) ∷ rest) order = (
    inl (refl, refl),
    λ e h. elim h [
      | inl here ↦ subst (λ (x : E). IsTrue (first_by line_of number_of fault x)) (sym here.1) (first_self line_of number_of fault)
      | inr later ↦
          let behind = tested_later (number_of fault) rest order.2 e later in
          on_line (line_of fault) (number_of fault) (line_of e) (number_of e) (order.0 ∙ sym behind.0) behind.1
    ],
  )
  chain_first n ((false, fault) ∷ rest) order =
      first_as line_of number_of (IsTested rest) (IsTested ((false, fault) ∷ rest)) (λ e h. inr h) (λ e h. elim h [ inl here ↦ absurd (cc here.0) | inr later ↦ later ]) (first_true rest) (chain_first (number_of fault) rest order.2)
