-- Operands that are passed over, one statement further.
use Rattle.std.proofs.Common.{◌≡◌, ℕ, zero, suc, ◌+◌, ◌<◌, ◌≤◌, ap, arith, List, [], ◌∷◌, ◌++◌, length, take, get_or}
use Rattle.application_types.specs.declared.kdcdef_types.statement.Statement.{Statement}
use Rattle.application_types.specs.Statements.{passed_count}
use Rattle.application_check.proofs.kdcdef_check.Passing.{next_taken}

passed_push : (ss : List Statement) (s : Statement) → passed_count (ss ++ s ∷ []) ≡ passed_count ss + s.passed
passed_push [] s = omega arith
passed_push (t ∷ ss) s = omega (arith, passed_push ss s)

passed_take : (n : ℕ) (ss : List Statement) → passed_count (take n ss) ≤ passed_count ss
passed_take zero ss = omega arith
passed_take (suc n) [] = omega arith
passed_take (suc n) (s ∷ ss) = omega (arith, passed_take n ss)

pub next_passed : (ss : List Statement) (i : ℕ) (s : Statement) (count : ℕ) → i < length ss → s ≡ get_or ss i s → count ≡ passed_count (take i ss) → count + s.passed ≡ passed_count (take (i + 1) ss)
next_passed ss i s count within is so_far = omega (arith, so_far, passed_push (take i ss) s, ap passed_count (next_taken ss i s within is))

pub passed_bounded : (ss : List Statement) (i : ℕ) (s : Statement) (count : ℕ) → i < length ss → s ≡ get_or ss i s → count ≡ passed_count (take i ss) → count + s.passed ≤ passed_count ss
passed_bounded ss i s count within is so_far = omega (arith, next_passed ss i s count within is so_far, passed_take (i + 1) ss)
