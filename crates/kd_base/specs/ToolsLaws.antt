-- Laws: small lemmas on `Option`, `Result`, `&&` and `cond`, for proofs about readers.
use Rattle.std.specs.Prelude.{◌≡◌, ◌⊎◌, ℕ, ◌-◌, Bool, true, false, cond, ◌&&◌, List, ◌++◌, length, take, drop, Option, Some, None, Result, Ok, Err, refl, option_and_then, find, IsErrAnd, IsErrOf, []}
use Rattle.std.specs.Prelude.{◌∷◌, not, is_some}
use Rattle.std.specs.Option.{option_map, option_or}
use Rattle.std.proofs.Common.{inl, inr, sym, ◌∙◌, ap, arith, append_assoc, length-drop}
use Rattle.std.proofs.lemmas.List.{take_all}
use Rattle.kd_base.specs.Tools.{onto, onto_first, ◌>>=◌}

-- ---- `cond` and `&&`

-- which of two was chosen
pub chosen : {A : Type 0} (b : Bool) (x y z : A) → cond b x y ≡ z → ((b ≡ true) × (x ≡ z)) ⊎ ((b ≡ false) × (y ≡ z))
chosen true x y z e = inl (refl, e)
chosen false x y z e = inr (refl, e)

pub both_true : (a b : Bool) → (a && b) ≡ true → (a ≡ true) × (b ≡ true)
both_true true b h = (refl, h)
both_true false b h = absurd cc

pub true_both : (a b : Bool) → a ≡ true → b ≡ true → (a && b) ≡ true
true_both true b h k = k
true_both false b h k = absurd cc

pub not_both : (a b : Bool) → (a ≡ true → b ≡ true → ⊥) → (a && b) ≡ false
not_both true true h = absurd (h refl refl)
not_both true false h = refl
not_both false b h = refl

-- two values, chosen the other way round
pub cond_not : {A : Type 0} (b : Bool) (x y : A) → cond (not b) x y ≡ cond b y x
cond_not true x y = refl
cond_not false x y = refl

-- ---- `Option`

pub cases_option : {A : Type 0} (o : Option A) → (o ≡ None) ⊎ ((x : A) × (o ≡ Some x))
cases_option None = inl refl
cases_option (Some x) = inr (x, refl)

abbrev pub some_of : {A : Type 0} → A → Option A
some_of x = Some x

pub some_is : {A : Type 0} (x y : A) → some_of x ≡ some_of y → x ≡ y
some_is x y e = cc

pub none_is : {A : Type 0} (o : Option A) → is_some o ≡ false → o ≡ None
none_is None h = refl
none_is (Some x) h = absurd cc

pub is_some_map : {A B : Type 0} (f : A → B) (o : Option A) → is_some (option_map f o) ≡ is_some o
is_some_map f None = refl
is_some_map f (Some x) = refl

pub or_none : {A : Type 0} (o : Option A) → option_or o None ≡ o
or_none None = refl
or_none (Some x) = refl

pub or_or : {A : Type 0} (a b c : Option A) → option_or (option_or a b) c ≡ option_or a (option_or b c)
or_or None b c = refl
or_or (Some x) b c = refl

-- where something was found and changed
pub map_some : {A B : Type 0} (f : A → B) (o : Option A) (y : B) → option_map f o ≡ Some y → (x : A) × (o ≡ Some x) × (f x ≡ y)
map_some f None y e = absurd cc
map_some f (Some x) y e = (x, refl, cc)

pub map_none : {A B : Type 0} (f : A → B) (o : Option A) → option_map f o ≡ None → o ≡ None
map_none f None e = refl
map_none f (Some x) e = absurd cc

-- where both steps found something
pub and_some : {A B : Type 0} (f : A → Option B) (o : Option A) (y : B) → option_and_then f o ≡ Some y → (x : A) × (o ≡ Some x) × (f x ≡ Some y)
and_some f None y e = absurd cc
and_some f (Some x) y e = (x, refl, e)

-- the first step failed, or a later one
pub and_none : {A B : Type 0} (f : A → Option B) (o : Option A) → option_and_then f o ≡ None → (o ≡ None) ⊎ ((x : A) × (o ≡ Some x) × (f x ≡ None))
and_none f None e = inl refl
and_none f (Some x) e = inr (x, refl, e)

-- what was handed on is what was answered
pub error_same : {E : Type 0} (T U : Type 0) (r : Result T E) (e x : E) → IsErrAnd r (λ y. y ≡ e) → IsErrOf r x → IsErrOf {T = U} (Err e) x
error_same T U (Ok v) e x gives is = absurd gives
error_same T U (Err y) e x gives is = let h : y ≡ x = cc in ap (λ z. Err z) (sym gives ∙ h)

-- what is found in a list passes the test
pub find_passes : {X : Type 0} (p : X → Bool) (xs : List X) (x : X) → find p xs ≡ Some x → p x ≡ true
find_passes p [] x e = absurd cc
find_passes p (y ∷ xs) x e =
    elim (chosen (p y) (Some y) (find p xs) (Some x) e) [
      | inl h ↦ ap p (sym (some_is y x h.1)) ∙ h.0
      | inr h ↦ find_passes p xs x h.1
    ]

pub onto_then : {A : Type 0} (front more : List A) (found : Option (List A)) → onto (front ++ more) found ≡ onto front (onto more found)
onto_then front more None = refl
onto_then front more (Some after) = ap some_of (append_assoc front more after)

pub onto_first_then : {A B : Type 0} (front more : List A) (found : Option (List A × B)) → onto_first (front ++ more) found ≡ onto_first front (onto_first more found)
onto_first_then front more None = refl
onto_first_then {A} {B} front more (Some p) = ap (λ (x : List A). let y : Option (List A × B) = Some (x, p.1) in y) (append_assoc front more p.0)

-- the second step, where the first gave a value
-- ---- `Result`

abbrev pub ok_of : {A E : Type 0} → A → Result A E
ok_of x = Ok x

abbrev pub err_of : {A E : Type 0} → E → Result A E
err_of e = Err e

pub ok_is : {A : Type 0} (E : Type 0) (x y : A) → ok_of {E = E} x ≡ ok_of {E = E} y → x ≡ y
ok_is E x y h = cc

pub err_is : {E : Type 0} (A : Type 0) (e f : E) → err_of {A = A} e ≡ err_of {A = A} f → e ≡ f
err_is A e f h = cc

-- where both steps gave a value
pub bind_ok : {A B E : Type 0} (r : Result A E) (f : A → Result B E) (y : B) → (r >>= f) ≡ Ok y → (x : A) × (r ≡ Ok x) × (f x ≡ Ok y)
bind_ok (Ok x) f y e = (x, refl, e)
bind_ok (Err d) f y e = absurd cc

-- the first step failed, or the second
pub bind_err : {A B E : Type 0} (r : Result A E) (f : A → Result B E) (e : E) → (r >>= f) ≡ Err e → (r ≡ Err e) ⊎ ((x : A) × (r ≡ Ok x) × (f x ≡ Err e))
bind_err {A} {B} {E} (Ok x) f e h = inr (x, refl, h)
bind_err {A} {B} {E} (Err d) f e h = inl (ap (λ (y : E). err_of {A = A} y) (err_is B d e h))

-- ---- slices in a pattern

-- what `rest` is in a pattern `[.., rest @ ..]` with n items before it
pub behind : {A : Type 0} (n : ℕ) (xs : List A) → take (length xs - n) (drop n xs) ≡ drop n xs
behind n xs = take_all (length xs - n) (drop n xs) (omega (arith, length-drop n xs))
