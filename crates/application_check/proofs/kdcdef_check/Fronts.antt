-- Faults of the front of a list of statements are those of the whole list there.
use Rattle.std.proofs.Common.{◌≡◌, ℕ, ◌+◌, ◌<◌, List, [], ◌∷◌, ◌++◌, length, take, get_or, slice_get, set, Option, Some, refl, sym, ap, ◌∙◌, subst, arith, length-append}
use Rattle.std.specs.Prelude.{slice_index}
use Rattle.std.proofs.lemmas.List.{take-append-le, get_or_append_left, take_all}
use Rattle.std.proofs.lemmas.Option.{slice_get_within, slice_get-get_or, get_or_from_slice_get}
use Rattle.std.proofs.Math.Seq.{take-append_seam, get_or-append_seam}
use Rattle.kd_base.specs.FirstFaultsLaws.{first_as}
use Rattle.application_types.specs.declared.kdcdef_types.statement.Statement.{Statement}
use Rattle.application_check.specs.declared.kdcdef_check.fault.CheckFault.{CheckFault}
use Rattle.application_check.specs.declared.kdcdef_check.tally.Tally.{Tally}
use Rattle.application_check.specs.Generating.{generated}
use Rattle.application_check.specs.Faults.{kind_of, kind_count, line_of, number_of}
use Rattle.application_check.specs.Steps.{earlier, IsFirstOf, AmongFirst, own_fault, OwnFault, OuterFault, IsTallyOf}
use Rattle.application_check.proofs.kdcdef_check.Chains.{own_first}
use Rattle.application_check.proofs.kdcdef_check.FirstOfFaults.{next_first}
use Rattle.application_check.proofs.kdcdef_check.Tallies.{kind_within, next_tally}

-- ---- places

pub at_front : (xs ys : List Statement) (i : ℕ) (s : Statement) → slice_get xs i ≡ Some s → slice_get (xs ++ ys) i ≡ Some s
at_front xs ys i s h =
    let within = slice_get_within xs i s h in
    let both : i < length (xs ++ ys) = omega (arith, within, length-append xs ys) in
    slice_get-get_or (xs ++ ys) i s both ∙ ap (λ (t : Statement). Some t) (get_or_append_left xs ys s i within ∙ get_or_from_slice_get xs i s s h)

pub in_front : (xs ys : List Statement) (i : ℕ) (s : Statement) → i < length xs → slice_get (xs ++ ys) i ≡ Some s → slice_get xs i ≡ Some s
in_front xs ys i s within h =
    slice_get-get_or xs i s within ∙ ap (λ (t : Statement). Some t) (sym (get_or_append_left xs ys s i within) ∙ get_or_from_slice_get (xs ++ ys) i s s h)

-- ---- faults

among_whole : (xs ys : List Statement) (P Q : ℕ → Statement → CheckFault → Type 0) (e : CheckFault) → ((i : ℕ) (s : Statement) → i < length xs → P i s e → Q i s e) → AmongFirst xs P (length xs) e → AmongFirst (xs ++ ys) Q (length xs) e
among_whole xs ys P Q e to (i, s, lt, at, such) = (i, s, lt, at_front xs ys i s at, to i s lt such)

among_front : (xs ys : List Statement) (P Q : ℕ → Statement → CheckFault → Type 0) (e : CheckFault) → ((i : ℕ) (s : Statement) → i < length xs → Q i s e → P i s e) → AmongFirst (xs ++ ys) Q (length xs) e → AmongFirst xs P (length xs) e
among_front xs ys P Q e from (i, s, lt, at, such) = (i, s, lt, in_front xs ys i s lt at, from i s lt such)

-- own faults of the front are own faults of the whole
pub own_of_front : (xs ys : List Statement) (a : Option CheckFault) → IsFirstOf (AmongFirst xs (OwnFault xs) (length xs)) a → IsFirstOf (AmongFirst (xs ++ ys) (OwnFault (xs ++ ys)) (length xs)) a
own_of_front xs ys a h =
    first_as line_of number_of (AmongFirst xs (OwnFault xs) (length xs)) (AmongFirst (xs ++ ys) (OwnFault (xs ++ ys)) (length xs))
    (λ e. among_whole xs ys (OwnFault xs) (OwnFault (xs ++ ys)) e (λ i s lt. to i s e lt))
    (λ e. among_front xs ys (OwnFault xs) (OwnFault (xs ++ ys)) e (λ i s lt. from i s e lt))
    a h
  where
    same : (i : ℕ) → i < length xs → take i (xs ++ ys) ≡ take i xs
    same i lt = take-append-le i xs ys (omega (arith, lt))

    to : (i : ℕ) (s : Statement) (e : CheckFault) → i < length xs → OwnFault xs i s e → OwnFault (xs ++ ys) i s e
    to i s e lt own = rw (same i lt) own

    from : (i : ℕ) (s : Statement) (e : CheckFault) → i < length xs → OwnFault (xs ++ ys) i s e → OwnFault xs i s e
    from i s e lt own = rw (same i lt) at own

-- and those against all statements
pub outer_of_front : (xs ys all : List Statement) (a : Option CheckFault) → IsFirstOf (AmongFirst xs (OuterFault all) (length xs)) a → IsFirstOf (AmongFirst (xs ++ ys) (OuterFault all) (length xs)) a
outer_of_front xs ys all a h =
    first_as line_of number_of (AmongFirst xs (OuterFault all) (length xs)) (AmongFirst (xs ++ ys) (OuterFault all) (length xs))
    (λ e. among_whole xs ys (OuterFault all) (OuterFault all) e (λ i s lt such. such))
    (λ e. among_front xs ys (OuterFault all) (OuterFault all) e (λ i s lt such. such))
    a h

-- ---- one more statement at the end

-- it is behind the others
here : (xs : List Statement) (s : Statement) → s ≡ get_or (xs ++ s ∷ []) (length xs) s
here xs s = sym (get_or-append_seam xs s [] s)

within : (xs : List Statement) (s : Statement) → length xs < length (xs ++ s ∷ [])
within xs s = omega (arith, length-append xs (s ∷ []))

all_taken : (xs : List Statement) (s : Statement) → take (length xs + 1) (xs ++ s ∷ []) ≡ xs ++ s ∷ []
all_taken xs s = take_all (length xs + 1) (xs ++ s ∷ []) (omega (arith, length-append xs (s ∷ [])))

pub one_more_first : (xs : List Statement) (s : Statement) (a : Option CheckFault) → IsFirstOf (AmongFirst xs (OwnFault xs) (length xs)) a
    → IsFirstOf (AmongFirst (xs ++ s ∷ []) (OwnFault (xs ++ s ∷ [])) (length (xs ++ s ∷ []))) (earlier a (own_fault (generated xs) (kind_count (kind_of s.said) xs) s))
one_more_first xs s a h =
    let all = xs ++ s ∷ [] in
    let own : IsFirstOf (OwnFault all (length xs) s) (own_fault (generated xs) (kind_count (kind_of s.said) xs) s) =
    subst (λ (ys : List Statement). IsFirstOf (OwnFault all (length xs) s) (own_fault (generated ys) (kind_count (kind_of s.said) ys) s)) (take-append_seam xs (s ∷ [])) (own_first all (length xs) s) in
    let length-is : length xs + 1 ≡ length all = omega (arith, length-append xs (s ∷ [])) in
    subst (λ (n : ℕ). IsFirstOf (AmongFirst all (OwnFault all) n) (earlier a (own_fault (generated xs) (kind_count (kind_of s.said) xs) s))) length-is
    (next_first all (OwnFault all) (length xs) s a (own_fault (generated xs) (kind_count (kind_of s.said) xs) s) (within xs s) (here xs s) (own_of_front xs (s ∷ []) a h) own)

pub one_more_tally : (xs : List Statement) (s : Statement) (old new : Tally) → IsTallyOf old xs → new.counts ≡ set old.counts (kind_of s.said) (slice_index old.counts (kind_of s.said) + 1) → IsTallyOf new (xs ++ s ∷ [])
one_more_tally xs s old new was added =
    subst (IsTallyOf new) (all_taken xs s)
    (next_tally (xs ++ s ∷ []) (length xs) s old new (kind_of s.said) (within xs s) (here xs s) refl (kind_within s.said) (subst (IsTallyOf old) (sym (take-append_seam xs (s ∷ []))) was) added)
