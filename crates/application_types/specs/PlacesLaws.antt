-- What an index by names finds, and what it finds after one more name was put.
use Rattle.std.proofs.Common.{◌≡◌, ℕ, ◌+◌, ◌<◌, inl, inr, Bool, true, false, cond, List, [], ◌∷◌, ◌++◌, length, take, get_or, Bor, refl, sym, ap, subst, ◌∙◌, suc, arith, add-zero, add-one}
use Rattle.std.specs.Prelude.{Option, Some, None, All, find, slice_get, bytes_eq, is_some}
use Rattle.std.specs.BTreeMap.{is_at}
use Rattle.std.specs.Cmp.Lexicographic.{slice_cmp}
use Rattle.std.specs.List.{position_from}
use Rattle.std.specs.Map.{lookup, KeepsOthers}
use Rattle.std.specs.Option.{option_or, option_and_then, option_map, option_copied}
use Rattle.std.specs.Slice.{IsItemAt}
use Rattle.std.specs.Ordering.{nat_cmp, is_eq, eq_by_cmp}
use Rattle.std.proofs.lemmas.Bool.{cases_Bool}
use Rattle.std.proofs.lemmas.List.{take_more, length-take-le}
use Rattle.std.proofs.lemmas.Option.{slice_get_past, slice_get_read}
use Rattle.std.proofs.lemmas.Map.Text.{is_eq-slice_cmp}
use Rattle.std.proofs.lemmas.Slice.Eq.{bytes_eq-Decides}
use Rattle.kd_base.specs.ToolsLaws.{chosen, some_is}
use Rattle.application_types.specs.Index.{or_first}

-- whether a key, seen as bytes, is at a name
abbrev at_bytes : {K : Type 0} → (K → List ℕ) → List ℕ → K → Bool
at_bytes items name = is_at (λ k. slice_cmp nat_cmp name (items k))

tied : {K : Type 0} (items : K → List ℕ) (name : List ℕ) (k : K) → at_bytes items name k ≡ true → name ≡ items k
tied items name k h = (bytes_eq-Decides name (items k)).0 (sym (is_eq-slice_cmp name (items k)) ∙ h)

not_tied : {K : Type 0} (items : K → List ℕ) (name : List ℕ) (k : K) → (name ≡ items k → ⊥) → at_bytes items name k ≡ false
not_tied items name k ne =
    elim (cases_Bool (at_bytes items name k)) [
      | inl h ↦ absurd (ne (tied items name k h))
      | inr h ↦ h
    ]

-- another name finds what it found
pub others_kept : {K P : Type 0} (items : K → List ℕ) (key : K) (old new : List (K × P)) → KeepsOthers (eq_by_cmp (λ a b. slice_cmp nat_cmp (items a) (items b))) (is_at (λ k. slice_cmp nat_cmp (items key) (items k))) old new → (name : List ℕ) → (name ≡ items key → ⊥) → lookup (at_bytes items name) new ≡ lookup (at_bytes items name) old
unfolding KeepsOthers
others_kept items key old new h name ne =
    h (at_bytes items name)
    (λ x y t. ap (λ (w : List ℕ). is_eq (slice_cmp nat_cmp w (items y))) (tied items name x t))
    (λ k t. not_tied items name k (λ e. ne (e ∙ sym (tied items (items key) k t))))

or_none : {P : Type 0} (found : Option P) → found ≡ option_or found None
or_none None = refl
or_none (Some x) = refl

-- a name that was not there has the place, and each other name what it had
pub put_last : {P : Type 0} (old new : List ℕ → Option P) (name : List ℕ) (place : P) → old name ≡ None → new name ≡ Some place → ((other : List ℕ) → (other ≡ name → ⊥) → new other ≡ old other) → (wanted : List ℕ) → new wanted ≡ or_first (old wanted) name place wanted
put_last {P} old new name place none some others wanted =
    elim (cases_Bool (bytes_eq wanted name)) [
      | inl h ↦ rw (h, (bytes_eq-Decides wanted name).0 h, none, some) refl
      | inr h ↦ rw h (others wanted (λ e. absurd (let t : bytes_eq wanted name ≡ true = (bytes_eq-Decides wanted name).1 e in cc)) ∙ or_none (old wanted))
    ]

-- the entries of a list, one more at a time
pub lookup_more : {K P : Type 0} (test : K → Bool) (before : List (K × P)) (e : K × P) → lookup test (before ++ e ∷ []) ≡ option_or (lookup test before) (cond (test e.0) (Some e.1) None)
lookup_more test [] e = refl
lookup_more {K} {P} test (b ∷ before) e =
    elim (cases_Bool (test b.0)) [
      | inl h ↦ rw h refl
      | inr h ↦ rw h (lookup_more test before e)
    ]

pub position_more : {A : Type 0} (test : A → Bool) (i : ℕ) (before : List A) (x : A) → position_from test i (before ++ x ∷ []) ≡ option_or (position_from test i before) (cond (test x) (Some (i + length before)) None)
position_more test i [] x = rw add-zero refl
position_more test i (b ∷ before) x =
    let count : i + 1 + length before ≡ i + suc (length before) = omega arith in
    elim (cases_Bool (test b)) [
      | inl h ↦ rw h refl
      | inr h ↦ rw (h, ← count) (position_more test (i + 1) before x)
    ]

-- one more name was put in an index
pub label_more : (old new : List ℕ → Option ℕ) (labels : List (List ℕ × ℕ)) (i : ℕ) (e : List ℕ × ℕ) (name : List ℕ) (place : ℕ) → i < length labels → e ≡ get_or labels i e → name ≡ e.0 → place ≡ e.1 → ((w : List ℕ) → old w ≡ lookup (bytes_eq w) (take i labels)) → ((w : List ℕ) → new w ≡ or_first (old w) name place w) → (w : List ℕ) → new w ≡ lookup (bytes_eq w) (take (i + 1) labels)
label_more old new labels i e name place lt is named placed so_far put w =
    put w
    ∙ ap (λ (o : Option ℕ). or_first o name place w) (so_far w)
    ∙ rw (named, placed) (sym (lookup_more (bytes_eq w) (take i labels) e))
    ∙ ap (lookup (bytes_eq w)) (ap (λ (x : List ℕ × ℕ). take i labels ++ x ∷ []) is ∙ sym (take_more labels i e lt))

pub item_more : {A : Type 0} (name_of : A → List ℕ) (old new : List ℕ → Option ℕ) (all : List A) (i : ℕ) (x : A) (name : List ℕ) → i < length all → x ≡ get_or all i x → name ≡ name_of x → ((w : List ℕ) → old w ≡ position_from (λ y. bytes_eq w (name_of y)) 0 (take i all)) → ((w : List ℕ) → new w ≡ or_first (old w) name i w) → (w : List ℕ) → new w ≡ position_from (λ y. bytes_eq w (name_of y)) 0 (take (i + 1) all)
item_more {A} name_of old new all i x name lt is named so_far put w =
    let test : A → Bool = λ y. bytes_eq w (name_of y) in
    let count : 0 + length (take i all) ≡ i = omega (arith, length-take-le i all) in
    put w
    ∙ ap (λ (o : Option ℕ). or_first o name i w) (so_far w)
    ∙ rw named (ap (λ (n : ℕ). option_or (position_from test 0 (take i all)) (cond (test x) (Some n) None)) (sym count) ∙ sym (position_more test 0 (take i all) x))
    ∙ ap (position_from test 0) (ap (λ (y : A). take i all ++ y ∷ []) is ∙ sym (take_more all i x lt))

position_later : {A : Type 0} (test : A → Bool) (i : ℕ) (all : List A) → position_from test (i + 1) all ≡ option_map (λ n. suc n) (position_from test i all)
position_later test i [] = refl
position_later test i (x ∷ all) =
    elim (cases_Bool (test x)) [
      | inl h ↦ rw (h, add-one) refl
      | inr h ↦ rw h (position_later test (i + 1) all)
    ]

behind_first : {A : Type 0} (x : A) (all : List A) (place : Option ℕ) → option_and_then (slice_get (x ∷ all)) (option_map (λ n. suc n) place) ≡ option_and_then (slice_get all) place
behind_first x all None = refl
behind_first x all (Some n) = refl

-- what is at the first place that passes is what is found
pub found_at : {A : Type 0} (test : A → Bool) (all : List A) → option_and_then (slice_get all) (position_from test 0 all) ≡ find test all
found_at test [] = refl
found_at test (x ∷ all) =
    elim (cases_Bool (test x)) [
      | inl h ↦ rw h refl
      | inr h ↦ rw h (ap (option_and_then (slice_get (x ∷ all))) (position_later test 0 all) ∙ behind_first x all (position_from test 0 all) ∙ found_at test all)
    ]

-- what is found is as all are
pub found_passes : {A : Type 0} (P : A → Type 0) (test : A → Bool) (all : List A) (x : A) → All P all → find test all ≡ Some x → P x
found_passes P test [] x passes e = absurd cc
found_passes {A} P test (y ∷ all) x passes e =
    elim (chosen (test y) (Some y) (find test all) (Some x) e) [
      | inl h ↦ subst P (some_is y x h.1) (passes 0 y (omega arith))
      | inr h ↦ found_passes P test all x (λ k d lt. passes (suc k) d (omega arith)) h.1
    ]

pub none_found : {P : Type 0} (found : Option P) {found_any : Bool} → found_any ≡ is_some found → found_any ≡ false → found ≡ None
none_found None e h = refl
none_found (Some x) e h = absurd cc

-- a lent item is the one at its place
pub lent_at : {A : Type 0} (all : List A) (i : ℕ) (lent : Option (Bor A)) → IsItemAt all i lent → option_copied lent ≡ slice_get all i
lent_at all i None h = sym (slice_get_past all i h.3)
lent_at all i (Some x) h = sym (slice_get_read all (length all) i x.now refl h.3.0 h.1)
