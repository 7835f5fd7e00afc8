-- Whether there is a value.
use Rattle.std.proofs.Common.{◌≡◌, refl, Option, Some, None, is_some, is_none, not}

pub not_some : {A : Type 0} (o : Option A) → not (is_some o) ≡ is_none o
not_some None = refl
not_some (Some x) = refl
