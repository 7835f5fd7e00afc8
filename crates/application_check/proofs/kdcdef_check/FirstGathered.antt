-- The first fault of all statements, from what was gathered of them.
use Rattle.std.proofs.Common.{◌≡◌, ◌⊎◌, ℕ, zero, suc, ◌+◌, ◌-◌, ◌<◌, ◌≤◌, true, List, [], ◌∷◌, ◌++◌, length, take, get_or, slice_get, Option, Some, None, refl, sym, ap, ◌∙◌, subst, inl, inr, arith}
use Rattle.std.proofs.Common.{ltb, length-append}
use Rattle.std.specs.Prelude.{IsTrue}
use Rattle.std.specs.List.{All}
use Rattle.std.proofs.lemmas.Bool.{cases_Bool, ltb-true, ltb-false}
use Rattle.std.proofs.lemmas.Bool.Decides.{nat_tests}
use Rattle.std.proofs.lemmas.List.{append-nil, get_or-append-add}
use Rattle.std.proofs.lemmas.Option.{slice_get_within, get_or_from_slice_get}
use Rattle.kd_base.specs.FirstFaultsLaws.{first_of_both, earlier_none}
use Rattle.application_types.specs.declared.kdcdef_types.statement.Said.TheVariants.{End}
use Rattle.application_types.specs.declared.kdcdef_types.statement.Statement.{Statement}
use Rattle.application_types.specs.declared.kdcdef_types.limits.Limits.{Limits}
use Rattle.application_types.specs.declared.kdcdef_types.limits.Counts.{Counts}
use Rattle.application_types.specs.declared.kdcdef_types.statement.MaxOperands.{MaxOperands}
use Rattle.application_types.specs.Statements.{AreRead, EndsOnce, passed_count}
use Rattle.application_check.specs.EndsLaws.{end_is}
use Rattle.application_check.specs.declared.kdcdef_check.fault.CheckFault.{CheckFault}
use Rattle.application_check.specs.declared.kdcdef_check.gathered.Gathered.{Gathered}
use Rattle.application_check.specs.declared.kdcdef_check.tables.Tables.{Tables}
use Rattle.application_check.specs.declared.kdcdef_check.whole.Whole.{Whole}
use Rattle.application_check.specs.Generating.{generated, max_given, with_defaults, double_said}
use Rattle.application_check.specs.Faults.{is_end, line_of, number_of, HasFault, SomeHasFault, comes_first, AreFaultless, IsFirstFault}
use Rattle.application_check.specs.Steps.{earlier, IsFirstOf, AmongFirst, OwnFault, OuterFault, HaveNamed, SaysTogether, counts_in, made_of}
use Rattle.application_check.specs.Gathering.{IsBehind, WereGathered}
use Rattle.application_check.proofs.kdcdef_check.Chains.{own_has, outer_has, fault_tested, both_passes}
use Rattle.application_check.proofs.kdcdef_check.Filling.{named_names}
use Rattle.application_check.proofs.kdcdef_check.Answered.{all_made}
use Rattle.application_check.proofs.kdcdef_check.Fronts.{in_front, own_of_front, outer_of_front}
use Rattle.application_check.proofs.kdcdef_check.Gathering.{all_kept}

-- ---- END is the last one

none_behind_end : (xs ys : List Statement) (i : ℕ) (s : Statement) → EndsOnce (xs ++ ys) → slice_get xs i ≡ Some s → s.said ≡ End → ys ≡ []
none_behind_end [] ys i s ends at end = absurd cc
none_behind_end (x ∷ []) [] i s ends at end = refl
none_behind_end (x ∷ []) (y ∷ ys) zero s ends at end = absurd (ends.0 (ap (λ (t : Option Statement). elim t [ None ↦ s.said | Some u ↦ u.said ]) at ∙ end))
none_behind_end (x ∷ []) (y ∷ ys) (suc i) s ends at end = absurd cc
none_behind_end (x ∷ x2 ∷ xs) ys zero s ends at end = absurd (ends.0 (ap (λ (t : Option Statement). elim t [ None ↦ s.said | Some u ↦ u.said ]) at ∙ end))
none_behind_end (x ∷ x2 ∷ xs) ys (suc i) s ends at end = none_behind_end (x2 ∷ xs) ys i s ends.1 at end

-- ---- the faults against all statements

-- what was found against all statements, whichever these are
abbrev pub Looked : Gathered → Whole → Option CheckFault → Type 0
Looked g w b =
    (all : List Statement) → HaveNamed g.tables.value (generated all) → ((i : ℕ) (s : Statement) → slice_get g.kept.items i ≡ Some s → is_end s.said ≡ true → SaysTogether w all)
    → IsFirstOf (AmongFirst g.kept.items (OuterFault all) (length g.kept.items)) b

looked_at : (g : Gathered) (w : Whole) (b : Option CheckFault) (ss : List Statement) → Looked g w b → SaysTogether w g.kept.items → WereGathered g ss → EndsOnce ss → IsFirstOf (AmongFirst g.kept.items (OuterFault ss) (length g.kept.items)) b
looked_at g w b ss looked whole was ends = looked ss (named_names g.tables.value ss was.named_filled) at_end
  where
    at_end : (i : ℕ) (s : Statement) → slice_get g.kept.items i ≡ Some s → is_end s.said ≡ true → SaysTogether w ss
    at_end i s at is =
        let none = none_behind_end g.kept.items was.later i s (subst EndsOnce was.all ends) at (end_is s.said is) in
        let all : ss ≡ g.kept.items = was.all ∙ ap (λ (later : List Statement). g.kept.items ++ later) none ∙ append-nil g.kept.items in
        subst (SaysTogether w) (sym all) whole

-- ---- both together

abbrev HasAt : List Statement → ℕ → Statement → CheckFault → Type 0
HasAt all i s e = HasFault all (take i all) s e

front_first : (all : List Statement) (n : ℕ) (a b : Option CheckFault) → IsFirstOf (AmongFirst all (OwnFault all) n) a → IsFirstOf (AmongFirst all (OuterFault all) n) b → IsFirstOf (AmongFirst all (HasAt all) n) (earlier a b)
front_first all n a b p q =
    first_of_both line_of number_of (AmongFirst all (OwnFault all) n) (AmongFirst all (OuterFault all) n) (AmongFirst all (HasAt all) n) split
    (λ e h. (h.0, h.1, h.2, h.3, own_has all h.0 h.1 e h.4)) (λ e h. (h.0, h.1, h.2, h.3, outer_has all h.0 h.1 e h.4)) a b p q
  where
    split : (e : CheckFault) → AmongFirst all (HasAt all) n e → AmongFirst all (OwnFault all) n e ⊎ AmongFirst all (OuterFault all) n e
    split e h = elim (fault_tested all h.0 h.1 e h.4) [
      | inl own ↦ inl (h.0, h.1, h.2, h.3, own)
      | inr outer ↦ inr (h.0, h.1, h.2, h.3, outer)
    ]

-- a fault behind another one's line does not come before it
first_by_line : (d e f : CheckFault) → IsTrue (comes_first d e) → line_of e < line_of f → IsTrue (comes_first d f)
first_by_line d e f h less = grind (arith, nat_tests, h, less)

-- a statement behind the front is one of the rest
behind_front : (xs ys : List Statement) (j : ℕ) (t : Statement) → length xs ≤ j → slice_get (xs ++ ys) j ≡ Some t → (j - length xs < length ys) × (get_or ys (j - length xs) t ≡ t)
behind_front xs ys j t le at =
    let within = slice_get_within (xs ++ ys) j t at in
    let place : length xs + (j - length xs) ≡ j = omega (arith, le) in (
      omega (arith, within, le, length-append xs ys),
      sym (get_or-append-add xs ys (j - length xs) t) ∙ ap (λ (n : ℕ). get_or (xs ++ ys) n t) place ∙ get_or_from_slice_get (xs ++ ys) j t t at,
    )

-- with a fault in front, the first fault of the front is the first of all
first_in_front : (xs ys : List Statement) (f e : CheckFault) (b : Option CheckFault) → All (λ (s : Statement). IsBehind xs s) ys → IsFirstOf (AmongFirst xs (OwnFault xs) (length xs)) (Some f)
    → IsFirstOf (AmongFirst xs (OuterFault (xs ++ ys)) (length xs)) b → earlier (Some f) b ≡ Some e → IsFirstFault (xs ++ ys) e
first_in_front xs ys f e b behind own outer is = ((found.0.0, found.0.1, found.0.3, found.0.4), λ other stands. by other stands.0 stands.1 stands.2 stands.3)
  where
    all : List Statement
    all = xs ++ ys

    found : IsFirstOf (AmongFirst (xs ++ ys) (HasAt (xs ++ ys)) (length xs)) (Some e)
    found = subst (IsFirstOf (AmongFirst (xs ++ ys) (HasAt (xs ++ ys)) (length xs))) is (front_first (xs ++ ys) (length xs) (Some f) b (own_of_front xs ys (Some f) own) (outer_of_front xs ys (xs ++ ys) b outer))

    first : AmongFirst (xs ++ ys) (OwnFault (xs ++ ys)) (length xs) f
    first = (own_of_front xs ys (Some f) own).0

    has : HasAt (xs ++ ys) first.0 first.1 f
    has = own_has (xs ++ ys) first.0 first.1 f first.4

    before : IsTrue (comes_first e f)
    before = found.1 f (first.0, first.1, first.2, first.3, has)

    later : (other : CheckFault) (j : ℕ) (t : Statement) → length xs ≤ j → slice_get (xs ++ ys) j ≡ Some t → HasAt (xs ++ ys) j t other → line_of f < line_of other
    later other j t le at such =
        let there = behind_front xs ys j t le at in
        let front : slice_get xs first.0 ≡ Some first.1 = in_front xs ys first.0 first.1 first.2 first.3 in
        let less : (get_or xs first.0 t).line < (get_or ys (j - length xs) t).line = behind (j - length xs) t there.0 first.0 t first.2 in
        let same : get_or xs first.0 t ≡ first.1 = get_or_from_slice_get xs first.0 first.1 t front in
        omega (arith, less, ap (λ (s : Statement). s.line) same, ap (λ (s : Statement). s.line) there.1, has.0, such.0)

    by : (other : CheckFault) (j : ℕ) (t : Statement) → slice_get (xs ++ ys) j ≡ Some t → HasAt (xs ++ ys) j t other → IsTrue (comes_first e other)
    by other j t at such =
        elim (cases_Bool (ltb j (length xs))) [
          | inl h ↦ found.1 other (j, t, ltb-true j (length xs) h, at, such)
          | inr h ↦ first_by_line e f other before (later other j t (ltb-false j (length xs) h) at such)
        ]

-- ---- what the check answers

pub gathered_first : (g : Gathered) (w : Whole) (b found : Option CheckFault) (e : CheckFault) (ss : List Statement) → Looked g w b → SaysTogether w g.kept.items → found ≡ earlier g.first b → found ≡ Some e → WereGathered g ss → EndsOnce ss → IsFirstFault ss e
gathered_first g w b found e ss looked whole is some was ends = by g.first refl
  where
    outer : IsFirstOf (AmongFirst g.kept.items (OuterFault ss) (length g.kept.items)) b
    outer = looked_at g w b ss looked whole was ends

    answered : earlier g.first b ≡ Some e
    answered = sym is ∙ some

    by : (a : Option CheckFault) → g.first ≡ a → IsFirstFault ss e
    by None none =
        let all = all_kept g ss was none in
        let own = subst (λ (xs : List Statement). IsFirstOf (AmongFirst xs (OwnFault xs) (length xs)) g.first) (sym all) was.first in
        let against = subst (λ (xs : List Statement). IsFirstOf (AmongFirst xs (OuterFault ss) (length xs)) b) (sym all) outer in
        subst (IsFirstOf (SomeHasFault ss)) answered (both_passes ss g.first b own against)
    by (Some f) fault =
        let own = subst (IsFirstOf (AmongFirst g.kept.items (OwnFault g.kept.items) (length g.kept.items))) fault was.first in
        let against = subst (λ (xs : List Statement). IsFirstOf (AmongFirst g.kept.items (OuterFault xs) (length g.kept.items)) b) was.all outer in
        subst (λ (xs : List Statement). IsFirstFault xs e) (sym was.all) (first_in_front g.kept.items was.later f e b was.behind own against (ap (λ (a : Option CheckFault). earlier a b) (sym fault) ∙ answered))

-- no fault is found: nothing was left out, and there is none
pub record IsFree (g : Gathered) (ss : List Statement) : Type 0 where
  pub all : ss ≡ g.kept.items
  pub none : g.first ≡ None
  pub free : AreFaultless g.kept.items
  pub read : AreRead g.kept.items

pub gathered_free : (g : Gathered) (w : Whole) (b found : Option CheckFault) (ss : List Statement) → Looked g w b → SaysTogether w g.kept.items → found ≡ earlier g.first b → found ≡ None → WereGathered g ss → AreRead ss → IsFree g ss
gathered_free g w b found ss looked whole is none was read =
    let both = earlier_none line_of number_of g.first b (sym is ∙ none) in
    let all = all_kept g ss was both.0 in
    let against = subst (λ (xs : List Statement). IsFirstOf (AmongFirst g.kept.items (OuterFault xs) (length g.kept.items)) b) all (looked_at g w b ss looked whole was read.ends) in
    record {
      all = all;
      none = both.0;
      free = subst (IsFirstOf (SomeHasFault g.kept.items)) (sym is ∙ none) (both_passes g.kept.items g.first b was.first against);
      read = subst AreRead all read;
    }

-- what is found over the tables and statements that were gathered
pub looked_over : (g : Gathered) (w : Whole) (b : Option CheckFault) (t : Tables) (xs : List Statement) → t ≡ g.tables.value → xs ≡ g.kept.items
    → ((all : List Statement) → HaveNamed t (generated all) → ((i : ℕ) (s : Statement) → slice_get xs i ≡ Some s → is_end s.said ≡ true → SaysTogether w all) → IsFirstOf (AmongFirst xs (OuterFault all) (length xs)) b)
    → Looked g w b
looked_over g w b t xs is_t is_xs looked = rw (is_t, is_xs) at looked

-- ---- the generation

pub made_of_gathered : (g : Gathered) (ss : List Statement) (m : MaxOperands) (passed : ℕ) (limits : Limits) (counts : Counts) (double : Option ℕ) → WereGathered g ss → IsFree g ss → m ≡ max_given g.kept.items → passed ≡ passed_count g.kept.items
    → limits ≡ with_defaults m → counts ≡ counts_in g.tally passed → double ≡ double_said g.kept.items → made_of g.tables.value limits counts double ≡ generated g.kept.items
made_of_gathered g ss m passed limits counts double was is max is_passed is_limits is_counts is_double =
    all_made g.kept.items g.tables.value g.tally m passed limits counts double (was.filled is.none) was.tally max is_passed is_limits is_counts is_double is.free
