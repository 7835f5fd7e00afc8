-- The order in which jobs are due: by target, TACs before LTERMs, then by due, then by number.
use Rattle.std.specs.Prelude.{ℕ, ◌-◌, ◌^◌, Bool, List, [], ◌∷◌}
use Rattle.std.specs.Ordering.{nat_cmp, eq_by_cmp, on, then_cmp}
use Rattle.std.specs.declared.cmp.Ordering.{Ordering}
use Rattle.kdcs_types.specs.declared.key.Target.{Target}
use Rattle.kdcs_types.specs.declared.key.Target.TheVariants.{Tac, Lterm}
use Rattle.kdcs_types.specs.Keys.{texts_cmp}
use Rattle.open_transaction.specs.declared.async_queue.due.DueKey.{DueKey}

-- what tells a target from others: its kind and its name
abbrev pub target_texts : Target → List (List ℕ)
target_texts (Tac tac) = (0 ∷ []) ∷ tac ∷ []
target_texts (Lterm lterm) = (1 ∷ []) ∷ lterm ∷ []

abbrev pub target_cmp : Target → Target → Ordering
target_cmp a b = texts_cmp (target_texts a) (target_texts b)

abbrev pub due_cmp : DueKey → DueKey → Ordering
due_cmp = then_cmp (on (λ (k : DueKey). k.to) target_cmp) (then_cmp (on (λ (k : DueKey). k.due) nat_cmp) (on (λ (k : DueKey). k.number) nat_cmp))

abbrev pub due_eq : DueKey → DueKey → Bool
due_eq = eq_by_cmp due_cmp

-- no key of this target is less, or greater
abbrev pub first_key : Target → DueKey
first_key to = record { to = to; due = 0; number = 0 }

abbrev pub last_key : Target → DueKey
last_key to = record { to = to; due = 2 ^ 64 - 1; number = 2 ^ 64 - 1 }
