-- A value beside a result: it stands for what was answered where that is an `Ok`.
use Rattle.std.proofs.Common.{◌≡◌, ap, sym, subst}
use Rattle.std.specs.Prelude.{Result, Ok, Err, IfOk, IsErrOf, OnOk}
use Rattle.std.specs.Result.{result_and}

pub both_ok : {N E : Type 0} (P Q : Type 0) (r : Result N E) → OnOk r P → OnOk r Q → OnOk r (P × Q)
both_ok P Q (Ok y) p q = (p, q)
both_ok P Q (Err e) p q = tt

if_ok : {N E A : Type 0} (P : A → Type 0) (r : Result N E) (x : A) → OnOk r (P x) → IfOk (result_and r (Ok x)) P
if_ok P (Ok y) x p = p
if_ok P (Err e) x p = tt

pub done_both : {N E A : Type 0} (P : A → Type 0) (r : Result N E) (x : A) (o : Result A E) → o ≡ result_and r (Ok x) → OnOk r (P x) → IfOk o P
done_both P r x o is p = subst (λ z. IfOk z P) (sym is) (if_ok P r x p)

same_error : {N E A : Type 0} (r : Result N E) (x : A) (v : E) → IsErrOf (result_and r (Ok x)) v → IsErrOf r v
same_error (Ok y) x v is = absurd cc
same_error (Err e) x v is = let same : e ≡ v = cc in ap (λ z. Err z) same

pub failed_both : {N E A : Type 0} (r : Result N E) (x : A) (v : E) (o : Result A E) → o ≡ result_and r (Ok x) → IsErrOf o v → IsErrOf r v
failed_both r x v o is failed = same_error r x v (subst (λ z. IsErrOf z v) is failed)

error_kept : {N E A : Type 0} (r : Result N E) (x : A) (v : E) → IsErrOf r v → IsErrOf (result_and r (Ok x)) v
error_kept (Ok y) x v is = absurd cc
error_kept (Err e) x v is = let same : e ≡ v = cc in ap (λ z. Err z) same

pub not_failed_both : {N E A : Type 0} (r : Result N E) (x : A) (v : E) (o : Result A E) → o ≡ result_and r (Ok x) → (IsErrOf o v → ⊥) → IsErrOf r v → ⊥
not_failed_both r x v o is none failed = none (subst (λ z. IsErrOf z v) (sym is) (error_kept r x v failed))
