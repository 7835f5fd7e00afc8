-- The first of the faults of one statement.
use Rattle.std.proofs.Common.{◌≡◌, ◌⊎◌, ℕ, refl, sym, subst, inl, inr, arith, Bool, true, List, [], ◌∷◌, length, take, Option}
use Rattle.std.proofs.lemmas.Option.{slice_get_within}
use Rattle.kd_base.specs.FirstFaults.{IsTested}
use Rattle.kd_base.specs.FirstFaultsLaws.{chain_first, first_of_both}
use Rattle.application_types.specs.declared.kdcdef_types.statement.Statement.{Statement}
use Rattle.application_check.specs.declared.kdcdef_check.fault.CheckFault.{CheckFault}
use Rattle.application_check.specs.declared.kdcdef_check.fault.CheckFault.TheVariants.{NameTwice, NoProgram, NoLterm, LtermTwice, NoMax, ClassOfWrongKind, PoolTooSmall, NoUser, TooMany, NoKset}
use Rattle.application_check.specs.declared.kdcdef_check.fault.CheckFault.TheVariants.{PoolForDouble, Memory}
use Rattle.application_check.specs.Generating.{generated}
use Rattle.application_check.specs.Faults.{kind_count, kind_of, line_of, number_of, HasFault, SomeHasFault}
use Rattle.application_check.specs.Steps.{earlier, IsFirstOf, AmongFirst, own_tests, own_fault, outer_tests, outer_fault, OwnFault, OuterFault}

-- each test that is true shows such a fault
abbrev Show : (CheckFault → Type 0) → List (Bool × CheckFault) → Type 0
Show Such [] = Unit {0}
Show Such ((test, fault) ∷ rest) = (test ≡ true → Such fault) × Show Such rest

tested_is : (Such : CheckFault → Type 0) (tests : List (Bool × CheckFault)) → Show Such tests → (e : CheckFault) → IsTested tests e → Such e
tested_is Such [] show e h = absurd h
tested_is Such ((test, fault) ∷ rest) show e (inl h) = subst Such (sym h.1) (show.0 h.0)
tested_is Such ((test, fault) ∷ rest) show e (inr h) = tested_is Such rest show.1 e h

pub own_has : (all : List Statement) (i : ℕ) (s : Statement) (e : CheckFault) → OwnFault all i s e → HasFault all (take i all) s e
own_has all i s e h = tested_is (HasFault all (take i all) s) (own_tests (generated (take i all)) (kind_count (kind_of s.said) (take i all)) s) (λ t. (refl, t), (λ t. (refl, t), (λ t. (refl, t), (λ t. (refl, t), tt)))) e h

pub outer_has : (all : List Statement) (i : ℕ) (s : Statement) (e : CheckFault) → OuterFault all i s e → HasFault all (take i all) s e
outer_has all i s e h = tested_is (HasFault all (take i all) s) (outer_tests all s) (λ t. (refl, t), (λ t. (refl, t), (λ t. (refl, t), (λ t. (refl, t), (λ t. (refl, t), (λ t. (refl, t), (λ t. (refl, t), tt))))))) e h

pub fault_tested : (all : List Statement) (i : ℕ) (s : Statement) (e : CheckFault) → HasFault all (take i all) s e → OwnFault all i s e ⊎ OuterFault all i s e
fault_tested all i s (NameTwice n) h = inl (inl (h.1, cc h.0))
fault_tested all i s (LtermTwice n) h = inl (inr (inl (h.1, cc h.0)))
fault_tested all i s (ClassOfWrongKind n) h = inl (inr (inr (inl (h.1, cc h.0))))
fault_tested all i s (TooMany n) h = inl (inr (inr (inr (inl (h.1, cc h.0)))))
fault_tested all i s (NoProgram n) h = inr (inl (h.1, cc h.0))
fault_tested all i s (NoLterm n) h = inr (inr (inl (h.1, cc h.0)))
fault_tested all i s (NoMax n) h = inr (inr (inr (inl (h.1, cc h.0))))
fault_tested all i s (PoolTooSmall n) h = inr (inr (inr (inr (inl (h.1, cc h.0)))))
fault_tested all i s (NoUser n) h = inr (inr (inr (inr (inr (inl (h.1, cc h.0))))))
fault_tested all i s (NoKset n) h = inr (inr (inr (inr (inr (inr (inl (h.1, cc h.0)))))))
fault_tested all i s (PoolForDouble n) h = inr (inr (inr (inr (inr (inr (inr (inl (h.1, cc h.0))))))))
fault_tested all i s Memory h = absurd (cc h.1)

-- the first of a statement's own faults is that
pub own_first : (all : List Statement) (i : ℕ) (s : Statement) → IsFirstOf (OwnFault all i s) (own_fault (generated (take i all)) (kind_count (kind_of s.said) (take i all)) s)
own_first all i s =
    chain_first line_of number_of s.line 0 (own_tests (generated (take i all)) (kind_count (kind_of s.said) (take i all)) s)
    (refl, omega arith, (refl, omega arith, (refl, omega arith, (refl, omega arith, tt))))

-- and so is the first against all statements
pub outer_first : (all : List Statement) (i : ℕ) (s : Statement) → IsFirstOf (OuterFault all i s) (outer_fault all s)
outer_first all i s =
    chain_first line_of number_of s.line 0 (outer_tests all s)
    (refl, omega arith, (refl, omega arith, (refl, omega arith, (refl, omega arith, (refl, omega arith, (refl, omega arith, (refl, omega arith, tt)))))))

-- the first of both passes is the first of all
pub both_passes : (ss : List Statement) (a b : Option CheckFault) → IsFirstOf (AmongFirst ss (OwnFault ss) (length ss)) a → IsFirstOf (AmongFirst ss (OuterFault ss) (length ss)) b → IsFirstOf (SomeHasFault ss) (earlier a b)
both_passes ss a b p q =
    first_of_both line_of number_of (AmongFirst ss (OwnFault ss) (length ss)) (AmongFirst ss (OuterFault ss) (length ss)) (SomeHasFault ss) split
    (λ e h. (h.0, h.1, h.3, own_has ss h.0 h.1 e h.4)) (λ e h. (h.0, h.1, h.3, outer_has ss h.0 h.1 e h.4)) a b p q
  where
    split : (e : CheckFault) → SomeHasFault ss e → AmongFirst ss (OwnFault ss) (length ss) e ⊎ AmongFirst ss (OuterFault ss) (length ss) e
    split e h = elim (fault_tested ss h.0 h.1 e h.3) [
      | inl own ↦ inl (h.0, h.1, slice_get_within ss h.0 h.1 h.2, h.2, own)
      | inr outer ↦ inr (h.0, h.1, slice_get_within ss h.0 h.1 h.2, h.2, outer)
    ]
