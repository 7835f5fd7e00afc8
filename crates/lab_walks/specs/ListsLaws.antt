-- Lists, and what holds of each element and of those before it.
use Rattle.std.proofs.Common.{◌≡◌, List, [], ◌∷◌, ◌++◌, subst, sym, ap}
use Rattle.std.proofs.lemmas.List.{append-nil}

IsSome : {X : Type 0} → List X → Type 0
IsSome [] = ⊥
IsSome (x ∷ xs) = Unit {0}

some_here : {X : Type 0} (xs : List X) (f : X) (behind : List X) → IsSome (xs ++ f ∷ behind)
unfolding IsSome
some_here [] f behind = tt
some_here (x ∷ xs) f behind = tt

pub not_none : {X : Type 0} (xs : List X) (f : X) (behind : List X) → [] ≡ xs ++ f ∷ behind → ⊥
unfolding IsSome
not_none xs f behind e = subst IsSome (sym e) (some_here xs f behind)

unfoldable pub head_of : {X : Type 0} → X → List X → X
head_of d [] = d
head_of d (x ∷ xs) = x

unfoldable pub tail_of : {X : Type 0} → List X → List X
tail_of [] = []
tail_of (x ∷ xs) = xs

-- what holds of each of both lists holds of each of the longer one
pub each_both : {X : Type 0} (P : List X → X → Type 0) (xs ys : List X) → ((before : List X) (f : X) (behind : List X) → xs ≡ before ++ f ∷ behind → P before f)
    → ((before : List X) (f : X) (behind : List X) → ys ≡ before ++ f ∷ behind → P (xs ++ before) f) → (before : List X) (f : X) (behind : List X) → xs ++ ys ≡ before ++ f ∷ behind → P before f
unfolding head_of tail_of
each_both P [] ys first next before f behind e = next before f behind e
each_both P (y ∷ xs) ys first next [] f behind e = first [] f xs (ap (λ g. g ∷ xs) (ap (head_of y) e))
each_both {X} P (y ∷ xs) ys first next (x ∷ before) f behind e =
    subst (λ (g : X). P (g ∷ before) f) (ap (head_of y) e)
    (each_both (λ (l : List X) (g : X). P (y ∷ l) g) xs ys (λ b g l is. first (y ∷ b) g l (ap (λ (m : List X). y ∷ m) is)) next before f behind (ap tail_of e))

-- what holds of each and of one more holds of each of the longer list
pub each_more : {X : Type 0} (P : List X → X → Type 0) (xs : List X) (last : X) → ((before : List X) (f : X) (behind : List X) → xs ≡ before ++ f ∷ behind → P before f) → P xs last
    → (before : List X) (f : X) (behind : List X) → xs ++ last ∷ [] ≡ before ++ f ∷ behind → P before f
unfolding head_of tail_of
each_more {X} P xs last each here = each_both P xs (last ∷ []) each one
  where
    one : (before : List X) (f : X) (behind : List X) → last ∷ [] ≡ before ++ f ∷ behind → P (xs ++ before) f
    one [] f behind e = subst (λ (l : List X). P l f) (sym (append-nil xs)) (subst (P xs) (ap (head_of last) e) here)
    one (x ∷ before) f behind e = absurd (not_none before f behind (ap tail_of e))
