-- An open unit with one more piece, from its parts.
use Rattle.std.proofs.Common.{◌≡◌, ℕ, ◌+◌, Bool, true, false, List, [], ◌∷◌, ◌++◌, ◌<◌, ◌≤◌, length, Ok, Err, refl, ap, arith}
use Rattle.std.specs.Prelude.{nat_le}
use Rattle.std.proofs.lemmas.Bool.Decides.{nat_tests}
use Rattle.application_types.specs.declared.unit_types.action.Action.{Action}
use Rattle.application_types.specs.declared.unit_types.action.UnitStatement.{UnitStatement}
use Rattle.application_types.specs.UnitText.{UnitText}
use Rattle.unit_read.specs.declared.fault.UnitFault.TheVariants.{BadField, LabelTwice, TooLong}
use Rattle.unit_read.specs.Names.{has_field, has_label}
use Rattle.unit_read.specs.Units.{with_label, with_statement}
use Rattle.unit_read.specs.Used.{uses}

pub label_given : (n : ℕ) (l : List ℕ) (u : UnitText) (labels : List (List ℕ × ℕ)) (place : ℕ) → has_label u.labels l ≡ false → labels ≡ u.labels ++ (l, place) ∷ [] → place ≡ length u.statements + 1
    → with_label n l u ≡ Ok (record { name = u.name; line = u.line; fields = u.fields; labels = labels; statements = u.statements })
label_given n l u labels place new is at = rw (new, is, at) refl

pub label_twice : (n : ℕ) (l : List ℕ) (u : UnitText) → has_label u.labels l ≡ true → with_label n l u ≡ Err (LabelTwice n)
label_twice n l u h = rw h refl

-- ---- statements

pub uses_same : (t s : List ℕ → Bool) → ((q : List ℕ) → t q ≡ s q) → (a : Action) → uses t a ≡ uses s a
uses_same t s e a = let same : t ≡ s = λ i q. e q i in ap (λ (p : List ℕ → Bool). uses p a) same

pub undefined_field : (n : ℕ) (a : Action) (u : UnitText) → uses (has_field u.fields) a ≡ false → with_statement n a u ≡ Err (BadField n)
undefined_field n a u h = rw h refl

pub too_many : (n : ℕ) (a : Action) (u : UnitText) → uses (has_field u.fields) a ≡ true → 10000 ≤ length u.statements → with_statement n a u ≡ Err (TooLong n)
too_many n a u h le =
    let test : nat_le 10000 (length u.statements) ≡ true = grind (arith, nat_tests) in
    rw (h, test) refl

pub statement_given : (n : ℕ) (a : Action) (u : UnitText) (statements : List UnitStatement) → uses (has_field u.fields) a ≡ true → length u.statements < 10000 → statements ≡ u.statements ++ record { line = n; action = a } ∷ []
    → with_statement n a u ≡ Ok (record { name = u.name; line = u.line; fields = u.fields; labels = u.labels; statements = statements })
statement_given n a u statements h lt is =
    let test : nat_le 10000 (length u.statements) ≡ false = grind (arith, nat_tests) in
    rw (h, test, is) refl
