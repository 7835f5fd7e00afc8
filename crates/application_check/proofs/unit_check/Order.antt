-- The first of the faults that were found.
use Rattle.std.proofs.Common.{◌≡◌, ◌⊎◌, refl, sym, inl, inr, arith, List, [], ◌∷◌, Option, Some, None, IsTrue, zero, suc, subst}
use Rattle.std.specs.Prelude.{fold, Any, All}
use Rattle.std.proofs.lemmas.List.Elements.{All-nil, All-cons}
use Rattle.kd_base.specs.FirstFaults.{IsFirstBy}
use Rattle.kd_base.specs.FirstFaultsLaws.{first_self, first_both, first_of_both, first_as, earlier_none}
use Rattle.application_check.specs.declared.unit_check.fault.FitFault.{FitFault}
use Rattle.application_check.specs.declared.unit_check.fault.FitFault.TheVariants.{NoUnit, NoLabel, FieldPastArea, LiteralFollowUp, Memory}
use Rattle.application_check.specs.FitFaults.{line_of, number_of, comes_first}
use Rattle.application_check.specs.Finding.{earlier, first_of}

-- none is such a fault, or it is one, and comes first of them
abbrev pub IsFirstOf : (FitFault → Type 0) → Option FitFault → Type 0
IsFirstOf Such found = IsFirstBy line_of number_of Such found

one_fault : (a b : FitFault) → line_of a ≡ line_of b → number_of a ≡ number_of b → a ≡ b
one_fault (NoUnit n) (NoUnit m) l k = cc
one_fault (NoLabel n) (NoLabel m) l k = cc
one_fault (FieldPastArea n) (FieldPastArea m) l k = cc
one_fault (LiteralFollowUp n) (LiteralFollowUp m) l k = cc
one_fault Memory Memory l k = refl
one_fault _ _ l k = absurd (omega (arith, k))

-- two faults that each come first are one
pub both_first : (a b : FitFault) → IsTrue (comes_first a b) → IsTrue (comes_first b a) → a ≡ b
both_first a b h i =
    let same = first_both line_of number_of a b h i in
    one_fault a b same.0 same.1

-- ---- the only fault of its kind

-- it was found where this holds of it, and else the other holds
abbrev pub IsTold : Type 0 → Type 0 → Option FitFault → FitFault → Type 0
IsTold Wrong Right found fault = ((found ≡ None) × (Wrong → ⊥) × Right) ⊎ ((found ≡ Some fault) × Wrong)

pub told_first : (Wrong Right : Type 0) (found : Option FitFault) (fault : FitFault) → IsTold Wrong Right found fault → IsFirstOf (λ e. (e ≡ fault) × Wrong) found
told_first Wrong Right found fault (inl h) = rw h.0 (λ e has. h.1 has.1)
told_first Wrong Right found fault (inr h) =
    rw h.0 ((refl, h.1), λ e has. subst (λ (x : FitFault). IsTrue (comes_first fault x)) (sym has.0) (first_self line_of number_of fault))

pub not_told : (Wrong Right : Type 0) (found : Option FitFault) (fault : FitFault) → IsTold Wrong Right found fault → found ≡ None → Right
not_told Wrong Right found fault (inl h) none = h.2
not_told Wrong Right found fault (inr h) none = absurd cc

-- ---- items of a list

any_here : {A : Type 0} (P : A → Type 0) (x : A) (xs : List A) → P x → Any P (x ∷ xs)
any_here P x xs h = (0, x, omega arith, refl, h)

any_behind : {A : Type 0} (P : A → Type 0) (x : A) (xs : List A) → Any P xs → Any P (x ∷ xs)
any_behind P x xs (k, y, lt, at, h) = (suc k, y, omega arith, at, h)

any_cons : {A : Type 0} (P : A → Type 0) (x : A) (xs : List A) → Any P (x ∷ xs) → P x ⊎ Any P xs
any_cons P x xs (zero, y, lt, at, h) = inl (subst P (sym at) h)
any_cons P x xs (suc k, y, lt, at, h) = inr (k, y, omega arith, at, h)

any_none : {A : Type 0} (P : A → Type 0) → Any P [] → ⊥
any_none P (k, y, lt, at, h) = absurd (omega arith)

-- ---- the first fault of a list

abbrev step : {A : Type 0} → (A → Option FitFault) → Option FitFault → A → Option FitFault
step fault_of found x = earlier found (fault_of x)

split_cons : {A : Type 0} (P : FitFault → Type 0) (Has : A → FitFault → Type 0) (x : A) (xs : List A) (e : FitFault) → P e ⊎ Any (λ (y : A). Has y e) (x ∷ xs) → (P e ⊎ Has x e) ⊎ Any (λ (y : A). Has y e) xs
split_cons P Has x xs e (inl p) = inl (inl p)
split_cons {A} P Has x xs e (inr a) = elim (any_cons (λ (y : A). Has y e) x xs a) [ inl h ↦ inl (inr h) | inr h ↦ inr h ]

join_cons : {A : Type 0} (P : FitFault → Type 0) (Has : A → FitFault → Type 0) (x : A) (xs : List A) (e : FitFault) → (P e ⊎ Has x e) ⊎ Any (λ (y : A). Has y e) xs → P e ⊎ Any (λ (y : A). Has y e) (x ∷ xs)
join_cons P Has x xs e (inl (inl p)) = inl p
join_cons {A} P Has x xs e (inl (inr h)) = inr (any_here (λ (y : A). Has y e) x xs h)
join_cons {A} P Has x xs e (inr a) = inr (any_behind (λ (y : A). Has y e) x xs a)

onto_first : {A : Type 0} (Has : A → FitFault → Type 0) (fault_of : A → Option FitFault) → ((x : A) → IsFirstOf (Has x) (fault_of x)) → (P : FitFault → Type 0) (found : Option FitFault) (xs : List A) → IsFirstOf P found → IsFirstOf (λ e. P e ⊎ Any (λ (x : A). Has x e) xs) (fold (step fault_of) found xs)
onto_first {A} Has fault_of each P found [] p =
    first_as line_of number_of P (λ e. P e ⊎ Any (λ (x : A). Has x e) []) (λ e h. inl h) (λ e r. elim r [ inl h ↦ h | inr h ↦ absurd (any_none (λ (x : A). Has x e) h) ]) found p
onto_first {A} Has fault_of each P found (x ∷ xs) p =
    let Q : FitFault → Type 0 = λ e. P e ⊎ Has x e in
    first_as line_of number_of (λ e. Q e ⊎ Any (λ (y : A). Has y e) xs) (λ e. P e ⊎ Any (λ (y : A). Has y e) (x ∷ xs)) (join_cons P Has x xs) (split_cons P Has x xs) (fold (step fault_of) (earlier found (fault_of x)) xs)
    (onto_first Has fault_of each Q (earlier found (fault_of x)) xs (first_of_both line_of number_of P (Has x) Q (λ e r. r) (λ e h. inl h) (λ e h. inr h) found (fault_of x) p (each x)))

-- the first fault that some item has
pub first_of_all : {A : Type 0} (Has : A → FitFault → Type 0) (fault_of : A → Option FitFault) → ((x : A) → IsFirstOf (Has x) (fault_of x)) → (xs : List A) → IsFirstOf (λ e. Any (λ (x : A). Has x e) xs) (first_of fault_of xs)
first_of_all {A} Has fault_of each xs =
    first_as line_of number_of (λ e. ⊥ ⊎ Any (λ (x : A). Has x e) xs) (λ e. Any (λ (x : A). Has x e) xs) (λ e h. elim h [ inl never ↦ absurd never | inr a ↦ a ]) (λ e r. inr r) (first_of fault_of xs)
    (onto_first Has fault_of each (λ e. ⊥) None xs (λ e never. never))

onto_none : {A : Type 0} (fault_of : A → Option FitFault) (found : Option FitFault) (xs : List A) → fold (step fault_of) found xs ≡ None → (found ≡ None) × All (λ (x : A). fault_of x ≡ None) xs
onto_none {A} fault_of found [] h = (h, All-nil (λ (x : A). fault_of x ≡ None))
onto_none {A} fault_of found (x ∷ xs) h =
    let rest = onto_none fault_of (earlier found (fault_of x)) xs h in
    let here = earlier_none line_of number_of found (fault_of x) rest.0 in
    (here.0, All-cons (λ (y : A). fault_of y ≡ None) x xs here.1 rest.1)

-- where no fault was found, no item has one
pub none_of_all : {A : Type 0} (fault_of : A → Option FitFault) (xs : List A) → first_of fault_of xs ≡ None → All (λ (x : A). fault_of x ≡ None) xs
none_of_all fault_of xs h = (onto_none fault_of None xs h).1
