-- Statements with no fault: what does not show at them.
use Rattle.std.proofs.Common.{◌≡◌, ◌⊎◌, ℕ, zero, suc, ◌+◌, ◌<◌, ◌≤◌, ◌==◌, refl, subst, inl, inr, arith, Bool, true, false, ◌&&◌, List, [], ◌∷◌, length, take, get_or, slice_get, Some, None, is_none}
use Rattle.std.specs.List.{All}
use Rattle.std.proofs.lemmas.Bool.Decides.{eqb_tells, nat_tests}
use Rattle.std.proofs.lemmas.List.{take_all}
use Rattle.std.proofs.lemmas.List.Sums.{count_by_more_yes, count_by_more_no}
use Rattle.std.proofs.lemmas.Option.{slice_get_cases, slice_get-get_or}
use Rattle.application_types.specs.declared.kdcdef_types.statement.Said.{Said}
use Rattle.application_types.specs.declared.kdcdef_types.statement.Said.TheVariants.{End}
use Rattle.application_types.specs.declared.kdcdef_types.statement.Statement.{Statement}
use Rattle.application_types.specs.Statements.{EndsOnce}
use Rattle.application_check.specs.declared.kdcdef_check.fault.CheckFault.{CheckFault}
use Rattle.application_check.specs.declared.kdcdef_check.fault.CheckFault.TheVariants.{NameTwice, TooMany, NoMax, NoUser, PoolTooSmall, PoolForDouble}
use Rattle.application_check.specs.Generating.{generated, max_given}
use Rattle.application_check.specs.Faults.{is_taken, is_end, kind_of, kind_count, has_small_pool, lacks_user, has_full_pool, line_of, shows, AreFaultless}

pub not_shown : (ss : List Statement) → AreFaultless ss → (i : ℕ) (s : Statement) → slice_get ss i ≡ Some s → (e : CheckFault) → line_of e ≡ s.line → shows ss (take i ss) s.said e ≡ false
not_shown ss free i s at e on = go (shows ss (take i ss) s.said e) refl
  where
    go : (b : Bool) → shows ss (take i ss) s.said e ≡ b → b ≡ false
    go true h = absurd (free e (i, s, at, (on, h)))
    go false h = refl

pub not_taken : (ss : List Statement) → AreFaultless ss → (i : ℕ) (s : Statement) → slice_get ss i ≡ Some s → is_taken (generated (take i ss)) s.said ≡ false
not_taken ss free i s at = not_shown ss free i s at (NameTwice s.line) refl

-- each statement there is at some place
pub all_at : {A : Type 0} (P : A → Type 0) (xs : List A) → ((i : ℕ) (x : A) → slice_get xs i ≡ Some x → P x) → All P xs
all_at P xs h = λ k d below. h k (get_or xs k d) (slice_get-get_or xs k d below)

few_so : (ss : List Statement) → AreFaultless ss → (kind n : ℕ) (s : Statement) → n < length ss → slice_get ss n ≡ Some s → get_or ss n s ≡ s → kind_count kind (take n ss) ≤ 20000 → kind_count kind (take (n + 1) ss) ≤ 20000
few_so ss free kind n s within at is le = by (eqb_tells (kind_of s.said) kind)
  where
    same : (b : Bool) → (kind_of s.said == kind) ≡ b → (kind_of (get_or ss n s).said == kind) ≡ b
    same b h = rw is h

    not_full : kind_of s.said ≡ kind → (kind_count kind (take n ss) == 20000) ≡ false
    not_full e = subst (λ (k : ℕ). (kind_count k (take n ss) == 20000) ≡ false) e (not_shown ss free n s at (TooMany s.line) refl)

    below : (c : ℕ) → c ≤ 20000 → (c == 20000) ≡ false → c + 1 ≤ 20000
    below c h i = grind (arith, nat_tests, h, i)

    by : (((kind_of s.said == kind) ≡ true) × (kind_of s.said ≡ kind)) ⊎ (((kind_of s.said == kind) ≡ false) × (kind_of s.said ≡ kind → ⊥)) → kind_count kind (take (n + 1) ss) ≤ 20000
    by (inl h) = rw (count_by_more_yes (λ (t : Statement). kind_of t.said == kind) ss n s within (same true h.0)) (below (kind_count kind (take n ss)) le (not_full h.1))
    by (inr h) = rw (count_by_more_no (λ (t : Statement). kind_of t.said == kind) ss n s within (same false h.0)) le

few_to : (ss : List Statement) → AreFaultless ss → (kind n : ℕ) → n ≤ length ss → kind_count kind (take n ss) ≤ 20000
few_to ss free kind zero within = omega arith
few_to ss free kind (suc n) within = by (slice_get_cases ss n).1 (few_to ss free kind n (omega (arith, within)))
  where
    by : ((s : Statement) × (n < length ss) × (slice_get ss n ≡ Some s) × (get_or ss n s ≡ s)) ⊎ ((length ss ≤ n) × (slice_get ss n ≡ None)) → kind_count kind (take n ss) ≤ 20000 → kind_count kind (take (suc n) ss) ≤ 20000
    by (inl h) le = let e : n + 1 ≡ suc n = omega arith in subst (λ (m : ℕ). kind_count kind (take m ss) ≤ 20000) e (few_so ss free kind n h.0 h.1 h.2 h.3 le)
    by (inr h) le = absurd (omega (arith, within, h.0))

-- no kind has more than 20,000 statements
pub few : (ss : List Statement) → AreFaultless ss → (kind : ℕ) → kind_count kind ss ≤ 20000
few ss free kind = subst (λ (xs : List Statement). kind_count kind xs ≤ 20000) (take_all (length ss) ss (omega arith)) (few_to ss free kind (length ss) (omega arith))

-- END is somewhere
end_at : (ss : List Statement) → EndsOnce ss → (i : ℕ) × (s : Statement) × (slice_get ss i ≡ Some s) × (s.said ≡ End)
end_at [] h = absurd h
end_at (s ∷ []) h = (0, s, refl, h)
end_at (s ∷ t ∷ more) h = let found = end_at (t ∷ more) h.1 in (suc found.0, found.1, found.2, found.3)

at_end : (said : Said) (b : Bool) → said ≡ End → (is_end said && b) ≡ false → b ≡ false
at_end said b e h = subst (λ (x : Said). (is_end x && b) ≡ false) e h

pub some_user_said : (ss : List Statement) → AreFaultless ss → EndsOnce ss → lacks_user (generated ss) ≡ false
some_user_said ss free ends = let found = end_at ss ends in at_end found.1.said (lacks_user (generated ss)) found.3 (not_shown ss free found.0 found.1 found.2 (NoUser found.1.line) refl)

pub pool_said : (ss : List Statement) → AreFaultless ss → EndsOnce ss → has_small_pool (generated ss) ≡ false
pool_said ss free ends = let found = end_at ss ends in at_end found.1.said (has_small_pool (generated ss)) found.3 (not_shown ss free found.0 found.1 found.2 (PoolTooSmall found.1.line) refl)

pub full_pool_said : (ss : List Statement) → AreFaultless ss → EndsOnce ss → has_full_pool (generated ss) ≡ false
full_pool_said ss free ends = let found = end_at ss ends in at_end found.1.said (has_full_pool (generated ss)) found.3 (not_shown ss free found.0 found.1 found.2 (PoolForDouble found.1.line) refl)

pub appliname_said : (ss : List Statement) → AreFaultless ss → EndsOnce ss → is_none (max_given ss).appliname ≡ false
appliname_said ss free ends = let found = end_at ss ends in at_end found.1.said (is_none (max_given ss).appliname) found.3 (not_shown ss free found.0 found.1 found.2 (NoMax found.1.line) refl)
