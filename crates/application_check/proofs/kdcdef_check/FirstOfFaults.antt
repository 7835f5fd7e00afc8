-- The first of the faults that were found.
use Rattle.std.proofs.Common.{◌≡◌, ◌⊎◌, ℕ, ◌+◌, ◌<◌, get_or, refl, sym, ◌∙◌, ap, subst, inl, inr, arith, List, length, slice_get, Option, Some}
use Rattle.std.proofs.lemmas.Option.{slice_get_read}
use Rattle.kd_base.specs.ToolsLaws.{some_is}
use Rattle.kd_base.specs.FirstFaultsLaws.{first_of_both}
use Rattle.application_types.specs.declared.kdcdef_types.statement.Statement.{Statement}
use Rattle.application_check.specs.declared.kdcdef_check.fault.CheckFault.{CheckFault}
use Rattle.application_check.specs.Faults.{line_of, number_of}
use Rattle.application_check.specs.Steps.{earlier, IsFirstOf, AmongFirst}

same_place : (ss : List Statement) (n i : ℕ) (s t : Statement) → slice_get ss n ≡ Some s → slice_get ss i ≡ Some t → i ≡ n → t ≡ s
same_place ss n i s t at_n at_i e = some_is t s (sym at_i ∙ ap (slice_get ss) e ∙ at_n)

-- one statement further
pub next_first : (ss : List Statement) (Such : ℕ → Statement → CheckFault → Type 0) (n : ℕ) (s : Statement) (a b : Option CheckFault) → n < length ss → s ≡ get_or ss n s → IsFirstOf (AmongFirst ss Such n) a → IsFirstOf (Such n s) b → IsFirstOf (AmongFirst ss Such (n + 1)) (earlier a b)
next_first ss Such n s a b within is p q = first_of_both line_of number_of (AmongFirst ss Such n) (Such n s) (AmongFirst ss Such (n + 1)) split left right a b p q
  where
    at : slice_get ss n ≡ Some s
    at = slice_get_read ss (length ss) n s refl within is

    by_place : (e : CheckFault) (i : ℕ) (t : Statement) → slice_get ss i ≡ Some t → Such i t e → (i < n) ⊎ (i ≡ n) → AmongFirst ss Such n e ⊎ Such n s e
    by_place e i t here such (inl below) = inl (i, t, below, here, such)
    by_place e i t here such (inr same) =
        let such_n : Such n t e = subst (λ (j : ℕ). Such j t e) same such in
        inr (subst (λ (u : Statement). Such n u e) (same_place ss n i s t at here same) such_n)

    split : (e : CheckFault) → AmongFirst ss Such (n + 1) e → AmongFirst ss Such n e ⊎ Such n s e
    split e among = by_place e among.0 among.1 among.3 among.4 (grind (arith, among.2))

    left : (e : CheckFault) → AmongFirst ss Such n e → AmongFirst ss Such (n + 1) e
    left e among = (among.0, among.1, omega (arith, among.2), among.3, among.4)

    right : (e : CheckFault) → Such n s e → AmongFirst ss Such (n + 1) e
    right e such = (n, s, omega arith, at, such)
