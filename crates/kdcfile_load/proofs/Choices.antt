-- What holds of an answer, by its cases.
use Rattle.std.proofs.Common.{◌≡◌, Option, Some, None, refl, subst}
use Rattle.std.specs.Prelude.{Result, Ok, Err, IfOk, IfSome, IfNone}

pub ok_then : {T E : Type 0} (A B : T → Type 0) (r : Result T E) → IfOk r A → ((o : T) → A o → B o) → IfOk r B
ok_then A B (Ok o) h f = f o h
ok_then A B (Err e) h f = tt

pub none_then : {T : Type 0} (P : Type 0) (o : Option T) → (o ≡ None → P) → IfNone o P
none_then P None f = f refl
none_then P (Some x) f = tt

pub some_then : {T : Type 0} (P : T → Type 0) (o : Option T) → ((x : T) → o ≡ Some x → P x) → IfSome o P
some_then P None f = tt
some_then P (Some x) f = f x refl

pub of_some : {T : Type 0} (P : T → Type 0) (o : Option T) (x : T) → IfSome o P → o ≡ Some x → P x
of_some {T} P o x h e = subst (λ (y : Option T). IfSome y P) e h

pub of_none : {T : Type 0} (P : Type 0) (o : Option T) → IfNone o P → o ≡ None → P
of_none {T} P o h e = subst (λ (y : Option T). IfNone y P) e h

pub not_failed : {T E : Type 0} {x : T} {e : E} → Ok x ≡ Err e → ⊥
not_failed e = cc
