-- Laws: the order in which jobs are due is total, and only equal keys tie; a key is behind another by target, or else by due
-- and number.
use Rattle.std.specs.Prelude.{◌≡◌, ◌⊎◌, ◌<◌, ◌-◌, ◌^◌, ◌==◌, refl, ℕ, Bool, true, false, cond, List, [], ◌∷◌, slice_index, nat_lt, if◌then◌else◌}
use Rattle.std.proofs.Common.{ap, sym, ◌∙◌, inl, inr, arith}
use Rattle.std.proofs.lemmas.Bool.Decides.{nat_tests}
use Rattle.std.specs.Cmp.{IsTotalOrder, nat_cmp_total, on_total, ranked, then_total, tied_itself}
use Rattle.std.specs.Cmp.Lexicographic.{bytes_decides, lists_total, nat_list_cmp_total}
use Rattle.std.specs.FinMap.{IsAntisymmetric, slice_cmp-IsAntisymmetric, nat_cmp-IsAntisymmetric}
use Rattle.std.specs.Ordering.{is_lt, nat_cmp, ordering_reverse, ordering_then}
use Rattle.std.specs.declared.cmp.Ordering.{Ordering}
use Rattle.std.specs.declared.cmp.Ordering.TheVariants.{Less, Equal, Greater}
use Rattle.kdcs_types.specs.declared.key.Target.{Target}
use Rattle.kdcs_types.specs.declared.key.Target.TheVariants.{Tac, Lterm}
use Rattle.kdcs_types.specs.Keys.{texts_cmp}
use Rattle.kdcs_types.specs.Same.{target_eq}
use Rattle.open_transaction.specs.declared.async_queue.due.DueKey.{DueKey}
use Rattle.open_transaction.specs.DueOrder.{due_cmp, first_key, last_key, target_cmp, target_texts}

-- ---- targets

pub target_total : IsTotalOrder target_cmp
target_total = on_total target_texts (lists_total nat_list_cmp_total)

abbrev head : List (List ℕ) → List ℕ
head [] = []
head (t ∷ ts) = t

abbrev tail : List (List ℕ) → List (List ℕ)
tail [] = []
tail (t ∷ ts) = ts

abbrev target_of : List (List ℕ) → Target
target_of ts = if slice_index (head ts) 0 == 0 then Tac (head (tail ts)) else Lterm (head (tail ts))

target_back : (t : Target) → target_of (target_texts t) ≡ t
target_back (Tac tac) = refl
target_back (Lterm lterm) = refl

texts_same : IsAntisymmetric texts_cmp
texts_same = slice_cmp-IsAntisymmetric (slice_cmp-IsAntisymmetric nat_cmp-IsAntisymmetric)

pub target_same : IsAntisymmetric target_cmp
target_same a b e = sym (target_back a) ∙ ap target_of (texts_same (target_texts a) (target_texts b) e) ∙ target_back b

pub target_eq_same : (a b : Target) → target_eq a b ≡ true → a ≡ b
target_eq_same (Tac a) (Tac b) e = ap Tac ((bytes_decides a b).0 e)
target_eq_same (Tac a) (Lterm b) e = absurd cc
target_eq_same (Lterm a) (Tac b) e = absurd cc
target_eq_same (Lterm a) (Lterm b) e = ap Lterm ((bytes_decides a b).0 e)

pub target_eq_itself : (a : Target) → target_eq a a ≡ true
target_eq_itself (Tac a) = (bytes_decides a a).1 refl
target_eq_itself (Lterm a) = (bytes_decides a a).1 refl

-- ---- keys

pub due_total : IsTotalOrder due_cmp
due_total = then_total (on_total (λ (k : DueKey). k.to) target_total) (then_total (on_total (λ (k : DueKey). k.due) nat_cmp_total) (on_total (λ (k : DueKey). k.number) nat_cmp_total))

then_less : (r s : Ordering) → ordering_then r s ≡ Less → (r ≡ Less) ⊎ ((r ≡ Equal) × (s ≡ Less))
then_less Less s e = inl refl
then_less Equal s e = inr (refl, e)
then_less Greater s e = absurd cc

-- both tie
pub then_equal : (r s : Ordering) → ordering_then r s ≡ Equal → (r ≡ Equal) × (s ≡ Equal)
then_equal Less s e = absurd cc
then_equal Equal s e = (refl, e)
then_equal Greater s e = absurd cc

-- by due, then by number
abbrev pub IsSooner : DueKey → DueKey → Type 0
IsSooner a b = (a.due < b.due) ⊎ ((a.due ≡ b.due) × (a.number < b.number))

-- a lesser key is that of a lesser target, or of the same and sooner
pub lesser_key : (a b : DueKey) → due_cmp a b ≡ Less → (target_cmp a.to b.to ≡ Less) ⊎ ((a.to ≡ b.to) × IsSooner a b)
lesser_key a b e =
    elim (then_less (target_cmp a.to b.to) (ordering_then (nat_cmp a.due b.due) (nat_cmp a.number b.number)) e) [
      | inl less ↦ inl less
      | inr (tied, rest) ↦ inr (
        target_same a.to b.to tied,
        elim (then_less (nat_cmp a.due b.due) (nat_cmp a.number b.number) rest) [
          | inl less ↦ inl (ranked a.due b.due Less (sym less))
          | inr (same, less) ↦ inr (ranked a.due b.due Equal (sym same), ranked a.number b.number Less (sym less))
        ],
      )
    ]

pub due_same : IsAntisymmetric due_cmp
due_same a b e =
    let first = then_equal (target_cmp a.to b.to) (ordering_then (nat_cmp a.due b.due) (nat_cmp a.number b.number)) e in
    let rest = then_equal (nat_cmp a.due b.due) (nat_cmp a.number b.number) first.1 in
    λ i. record { to = target_same a.to b.to first.0 i; due = ranked a.due b.due Equal (sym rest.0) i; number = ranked a.number b.number Equal (sym rest.1) i }

-- no number is less than 0
pub none_before : (n : ℕ) → is_lt (nat_cmp n 0) ≡ false
none_before n =
    let t : nat_lt n 0 ≡ false = grind (arith, nat_tests) in
    ap (λ b. is_lt (cond b Less (cond (n == 0) Equal Greater))) t ∙ by (n == 0)
  where
    by : (b : Bool) → is_lt (cond b Equal Greater) ≡ false
    by true = refl
    by false = refl

-- the keys of a target are from its first one on
pub from_first : (to : Target) (k : DueKey) → k.to ≡ to → is_lt (due_cmp k (first_key to)) ≡ false
from_first to k e =
    ap (λ r. is_lt (ordering_then r (ordering_then (nat_cmp k.due 0) (nat_cmp k.number 0)))) (ap (λ t. target_cmp t to) e ∙ tied_itself target_total to)
    ∙ by (nat_cmp k.due 0) (none_before k.due)
  where
    by : (r : Ordering) → is_lt r ≡ false → is_lt (ordering_then r (nat_cmp k.number 0)) ≡ false
    by Less h = h
    by Equal h = none_before k.number
    by Greater h = refl

-- and those of a greater target are from its last one on
pub from_last : (to : Target) (k : DueKey) → target_cmp to k.to ≡ Less → is_lt (due_cmp k (last_key to)) ≡ false
from_last to k e =
    ap (λ r. is_lt (ordering_then r (ordering_then (nat_cmp k.due (2 ^ 64 - 1)) (nat_cmp k.number (2 ^ 64 - 1))))) (target_total.antisymm k.to to ∙ ap ordering_reverse e)

-- a key that is not less than one has no lesser target
pub no_lesser_target : (a b : DueKey) → is_lt (due_cmp a b) ≡ false → is_lt (target_cmp a.to b.to) ≡ false
no_lesser_target a b e = by (target_cmp a.to b.to) refl
  where
    by : (r : Ordering) → target_cmp a.to b.to ≡ r → is_lt r ≡ false
    by Less is = sym (ap (λ r. is_lt (ordering_then r (ordering_then (nat_cmp a.due b.due) (nat_cmp a.number b.number)))) is) ∙ e
    by Equal is = refl
    by Greater is = refl
