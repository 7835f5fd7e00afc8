-- Laws: which error a call did not answer.
use Rattle.std.specs.Prelude.{◌≡◌, Result, Ok, Err, OnOk, IsErrAnd, IsErrOf}
use Rattle.std.proofs.Common.{ap, ◌∙◌}

pub no_error : {T E : Type 0} (x : T) (v : E) → IsErrOf (Ok x) v → ⊥
no_error x v is = cc

-- an error that is handed on as it is, and is not this one
pub other_error : {E : Type 0} (T U : Type 0) (r : Result T E) (e v : E) → IsErrAnd r (λ y. y ≡ e) → (IsErrOf r v → ⊥) → IsErrOf {T = U} (Err e) v → ⊥
other_error T U (Ok x) e v gives none is = gives
other_error T U (Err y) e v gives none is = let same : e ≡ v = cc in none (ap (λ z. Err z) (gives ∙ same))

-- what holds unless a call answers this error holds where it answers none
pub ok_unless : {T E : Type 0} (P Q : Type 0) (r : Result T E) (v : E) → OnOk r P → ((IsErrOf r v → ⊥) → Q) → OnOk r (P × Q)
ok_unless P Q (Ok x) v h unless = (h, unless (no_error x v))
ok_unless P Q (Err e) v h unless = tt
