-- Counts of statements, and the lengths of what they make.
use Rattle.std.proofs.Common.{◌≡◌, ℕ, ◌+◌, ◌==◌, refl, sym, ◌∙◌, ap, arith, Bool, true, false, cond, List, [], ◌∷◌, length, Option, Some, None, is_some, count_by, fold, filter_map}
use Rattle.std.specs.Map.{values_of}
use Rattle.std.specs.List.{cons_option}
use Rattle.application_types.specs.declared.kdcdef_types.entry.UserEntry.{UserEntry}
use Rattle.application_types.specs.declared.kdcdef_types.statement.Said.{Said}
use Rattle.application_types.specs.declared.kdcdef_types.statement.Said.TheVariants.{User, Passed}
use Rattle.application_types.specs.declared.kdcdef_types.statement.Statement.{Statement}
use Rattle.application_types.specs.Soundness.{restart_count}
use Rattle.application_check.specs.Generating.{as_program, as_tac, as_user, as_pterm, as_lterm, as_passed, said_as, programs_said}
use Rattle.application_check.specs.Faults.{kind_of, kind_count}
use Rattle.application_check.specs.Steps.{is_restart}

counted_from : {A : Type 0} (p : A → Bool) (n : ℕ) (xs : List A) → fold (λ (m : ℕ) (x : A). m + cond (p x) 1 0) n xs ≡ n + count_by p xs
counted_from p n [] = omega arith
counted_from p n (x ∷ xs) = omega (arith, counted_from p (n + cond (p x) 1 0) xs, counted_from p (0 + cond (p x) 1 0) xs)

-- a count of one more
count_cons : {A : Type 0} (p : A → Bool) (x : A) (xs : List A) → count_by p (x ∷ xs) ≡ cond (p x) 1 0 + count_by p xs
count_cons p x xs = omega (arith, counted_from p (0 + cond (p x) 1 0) xs)

one_more : {A : Type 0} (o : Option A) (b : Bool) (n : ℕ) (xs : List A) → is_some o ≡ b → n ≡ length xs → cond b 1 0 + n ≡ length (cons_option o xs)
one_more None true n xs h e = absurd (grind (arith, h))
one_more None false n xs h e = omega (arith, e)
one_more (Some x) true n xs h e = omega (arith, e)
one_more (Some x) false n xs h e = absurd (grind (arith, h))

-- the statements of a kind are those that make an entry
count_made : {A : Type 0} (f : Statement → Option A) (kind : ℕ) → ((s : Statement) → is_some (f s) ≡ (kind_of s.said == kind)) → (ss : List Statement) → kind_count kind ss ≡ length (filter_map f ss)
count_made f kind made [] = refl
count_made f kind made (s ∷ ss) = count_cons (λ (t : Statement). kind_of t.said == kind) s ss ∙ one_more (f s) (kind_of s.said == kind) (kind_count kind ss) (filter_map f ss) (made s) (count_made f kind made ss)

-- which statements make entries of a kind
kinds_fit : (line : ℕ) (said : Said) → (is_some (as_program line said) ≡ (kind_of said == 1)) × (is_some (as_tac said) ≡ (kind_of said == 2)) × (is_some (as_user said) ≡ (kind_of said == 3))
    × (is_some (as_pterm said) ≡ (kind_of said == 4)) × (is_some (as_lterm said) ≡ (kind_of said == 5)) × (is_some (as_passed said) ≡ (kind_of said == 10))
kinds_fit line Passed = (refl, refl, refl, refl, refl, refl)
kinds_fit line said = (refl, refl, refl, refl, refl, refl)

pub program_count : (ss : List Statement) → kind_count 1 ss ≡ length (programs_said ss)
program_count ss = count_made (λ (s : Statement). as_program s.line s.said) 1 (λ s. (kinds_fit s.line s.said).0) ss

pub tac_count : (ss : List Statement) → kind_count 2 ss ≡ length (said_as as_tac ss)
tac_count ss = count_made (λ (s : Statement). as_tac s.said) 2 (λ s. (kinds_fit s.line s.said).1) ss

pub user_count : (ss : List Statement) → kind_count 3 ss ≡ length (said_as as_user ss)
user_count ss = count_made (λ (s : Statement). as_user s.said) 3 (λ s. (kinds_fit s.line s.said).2) ss

pub pterm_count : (ss : List Statement) → kind_count 4 ss ≡ length (said_as as_pterm ss)
pterm_count ss = count_made (λ (s : Statement). as_pterm s.said) 4 (λ s. (kinds_fit s.line s.said).3) ss

pub lterm_count : (ss : List Statement) → kind_count 5 ss ≡ length (said_as as_lterm ss)
lterm_count ss = count_made (λ (s : Statement). as_lterm s.said) 5 (λ s. (kinds_fit s.line s.said).4) ss

pub passed_statements : (ss : List Statement) → kind_count 10 ss ≡ length (said_as as_passed ss)
passed_statements ss = count_made (λ (s : Statement). as_passed s.said) 10 (λ s. (kinds_fit s.line s.said).5) ss

one_restart : (said : Said) (n : ℕ) (us : List (List ℕ × UserEntry)) → n ≡ restart_count us → cond (is_restart said) 1 0 + n ≡ restart_count (cons_option (as_user said) us)
one_restart (User name entry) n us h = ap (λ (m : ℕ). cond entry.restart 1 0 + m) h ∙ sym (count_cons (λ (u : UserEntry). u.restart) entry (values_of us))
one_restart _ n us h = omega (arith, h)

-- the users with RESTART=YES
pub restarts_said : (ss : List Statement) → count_by (λ (s : Statement). is_restart s.said) ss ≡ restart_count (said_as as_user ss)
restarts_said [] = refl
restarts_said (s ∷ ss) = count_cons (λ (t : Statement). is_restart t.said) s ss ∙ one_restart s.said (count_by (λ (s : Statement). is_restart s.said) ss) (said_as as_user ss) (restarts_said ss)
