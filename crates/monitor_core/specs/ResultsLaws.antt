-- Laws: what is known of a result that is handed on.
use Rattle.std.proofs.Common.{◌≡◌, sym, subst}
use Rattle.std.specs.Prelude.{Result, Ok, Err, IfErr, IfOk, IsErrAnd}

-- an error
pub handed_on : {T E : Type 0} (P : E → Type 0) (r : Result T E) (e : E) → IsErrAnd r (λ x. x ≡ e) → P e → IfErr r P
handed_on P (Ok x) e is p = absurd is
handed_on P (Err x) e is p = subst P (sym is) p

-- facts of a value make another
pub if_both : {T E : Type 0} (P Q R : T → Type 0) (r : Result T E) → ((x : T) → P x → Q x → R x) → IfOk r P → IfOk r Q → IfOk r R
if_both P Q R (Ok x) f p q = f x p q
if_both P Q R (Err e) f p q = tt

pub if_three : {T E : Type 0} (P Q R U : T → Type 0) (r : Result T E) → ((x : T) → P x → Q x → R x → U x) → IfOk r P → IfOk r Q → IfOk r R → IfOk r U
if_three P Q R U (Ok x) f p q s = f x p q s
if_three P Q R U (Err e) f p q s = tt

pub if_err_all : {T E : Type 0} (P : E → Type 0) (r : Result T E) → ((e : E) → P e) → IfErr r P
if_err_all P (Ok x) f = tt
if_err_all P (Err e) f = f e
