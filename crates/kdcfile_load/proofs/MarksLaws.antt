-- Pages that become used, each once: what is known of a layout whose pages are, and of one whose pages are not.
use Rattle.std.proofs.Common.{◌≡◌, ◌⊎◌, inl, inr, ⊎_elim, ℕ, zero, suc, ◌+◌, ◌<◌, Bool, true, false, not, cond, List, [], ◌∷◌, ◌++◌, length, take, drop, get_or, drop-cons, Option, Some, None, refl}
use Rattle.std.proofs.Common.{ap, sym, subst, ◌∙◌, arith, length-append, append-nil}
use Rattle.std.specs.Prelude.{set}
use Rattle.std.proofs.lemmas.List.{length-replicate, take_more, take-append-drop}
use Rattle.std.proofs.lemmas.Grind.{flat_map-append}
use Rattle.std.proofs.lemmas.List.Concat.{flat_map-cons}
use Rattle.std.proofs.lemmas.List.Sums.{sum_by-cons}
use Rattle.std.proofs.lemmas.List.Folds.{sum_by-replicate}
use Rattle.std.proofs.lemmas.Option.{same_Some}
use Rattle.kdcfile_layout.specs.Places.{At, IsDistinct}
use Rattle.kdcfile_layout.specs.PlacesLaws.{at_within, at_one, at_front, no_item, at_set, at_set_other, at_set_same, distinct_tail, distinct_head}
use Rattle.kdcfile_layout.specs.Pools.{free_count, flagged}
use Rattle.kdcfile_layout.specs.PoolsLaws.{flag_stays, count_used}
use Rattle.kdcfile_layout.specs.declared.chain.Chain.{Chain}
use Rattle.kdcfile_layout.specs.Layout.{Layout, Name, InRoot, InChain, Names, if_used, chain_pages}
use Rattle.kdcfile_load.specs.Marks.{pages_of, pages_in, named_pages, AreClear, all_free}

-- ---- places of joined lists

pub at_rest : {X : Type 0} (xs ys : List X) (n : ℕ) (x : X) → At ys n x → At (xs ++ ys) (length xs + n) x
at_rest [] ys n x h = subst (λ (k : ℕ). At ys k x) (omega arith) h
at_rest (z ∷ xs) ys n x h = subst (λ (k : ℕ). At (z ∷ (xs ++ ys)) k x) (one (length xs) n) (at_rest xs ys n x h)
  where
    one : (m n : ℕ) → suc (m + n) ≡ suc m + n
    one m n = omega arith

-- an item of the joined list is one of the first or one of the second
pub at_joined : {X : Type 0} (xs ys : List X) (n : ℕ) (x : X) → At (xs ++ ys) n x → At xs n x ⊎ ((m : ℕ) × (n ≡ length xs + m) × At ys m x)
at_joined [] ys n x h = inr (n, omega arith, h)
at_joined (z ∷ xs) ys zero x h = inl h
at_joined (z ∷ xs) ys (suc n) x h = ⊎_elim (λ a. inl a) (λ b. inr (b.0, omega (arith, b.1), b.2)) (at_joined xs ys n x h)

-- ---- pages that are clear

true_false : true ≡ false → ⊥
true_false e = cc

pub clear_at : (used : List Bool) (pages : List ℕ) (n p : ℕ) → AreClear used pages → At pages n p → At used p false
clear_at used [] n p clear at = absurd (no_item n p at)
clear_at used (q ∷ pages) zero p clear at = subst (λ (x : ℕ). At used x false) (same_Some q p at) clear.0
clear_at used (q ∷ pages) (suc n) p clear at = ⊎_elim (λ s. absurd (true_false s.1)) (λ o. o.1) (at_set used q p true false (clear_at (set used q true) pages n p clear.1 at))

-- a page that was marked is not clear
marked_not : (used : List Bool) (pages : List ℕ) (q n : ℕ) → At used q false → AreClear (set used q true) pages → At pages n q → ⊥
marked_not used pages q n here clear at = true_false (at_one (set used q true) q true false (at_set_same used q true (at_within used q false here)) (clear_at (set used q true) pages n q clear at))

-- none of them is named twice
pub clear_distinct : (used : List Bool) (pages : List ℕ) → AreClear used pages → IsDistinct pages
clear_distinct used [] clear a b x h k = absurd (no_item a x h)
clear_distinct used (q ∷ pages) clear zero zero x h k = refl
clear_distinct used (q ∷ pages) clear zero (suc b) x h k = absurd (marked_not used pages q b clear.0 clear.1 (subst (λ (y : ℕ). At pages b y) (sym (same_Some q x h)) k))
clear_distinct used (q ∷ pages) clear (suc a) zero x h k = absurd (marked_not used pages q a clear.0 clear.1 (subst (λ (y : ℕ). At pages a y) (sym (same_Some q x k)) h))
clear_distinct used (q ∷ pages) clear (suc a) (suc b) x h k = ap suc (clear_distinct (set used q true) pages clear.1 a b x h k)

-- and the other way round
pub distinct_clear : (used : List Bool) (pages : List ℕ) → IsDistinct pages → ((n p : ℕ) → At pages n p → At used p false) → AreClear used pages
distinct_clear used [] distinct free = tt
distinct_clear used (q ∷ pages) distinct free = (
  free zero q refl,
  distinct_clear (set used q true) pages (distinct_tail q pages distinct) (λ n p at. at_set_other used q p true false (λ e. distinct_head q pages distinct n (subst (λ (x : ℕ). At pages n x) (sym e) at)) (free (suc n) p at)),
)

pub clear_joined : (used : List Bool) (xs ys : List ℕ) → AreClear used xs → AreClear (flagged true used xs) ys → AreClear used (xs ++ ys)
clear_joined used [] ys first second = second
clear_joined used (x ∷ xs) ys first second = (first.0, clear_joined (set used x true) xs ys first.1 second)

pub clear_front : (used : List Bool) (xs ys : List ℕ) → AreClear used (xs ++ ys) → AreClear used xs
clear_front used [] ys clear = tt
clear_front used (x ∷ xs) ys clear = (clear.0, clear_front (set used x true) xs ys clear.1)

pub clear_rest : (used : List Bool) (xs ys : List ℕ) → AreClear used (xs ++ ys) → AreClear (flagged true used xs) ys
clear_rest used [] ys clear = clear
clear_rest used (x ∷ xs) ys clear = clear_rest (set used x true) xs ys clear.1

pub flagged_joined : (used : List Bool) (xs ys : List ℕ) → flagged true used (xs ++ ys) ≡ flagged true (flagged true used xs) ys
flagged_joined used [] ys = refl
flagged_joined used (x ∷ xs) ys = flagged_joined (set used x true) xs ys

-- ---- flags

-- a page that is marked is used
pub marked_used : (pages : List ℕ) (used : List Bool) (n p : ℕ) → AreClear used pages → At pages n p → At (flagged true used pages) p true
marked_used [] used n p clear at = absurd (no_item n p at)
marked_used (q ∷ pages) used zero p clear at =
    flag_stays pages (set used q true) p (subst (λ (x : ℕ). At (set used q true) x true) (same_Some q p at) (at_set_same used q true (at_within used q false clear.0)))
marked_used (q ∷ pages) used (suc n) p clear at = marked_used pages (set used q true) n p clear.1 at

-- as many pages are free no more as are marked
pub free_left : (pages : List ℕ) (used : List Bool) → AreClear used pages → free_count (flagged true used pages) + length pages ≡ free_count used
free_left pages used clear = count_used pages used (clear_distinct used pages clear) (λ n p at. clear_at used pages n p clear at)

pub free_at : (n p : ℕ) → p < n → At (all_free n) p false
free_at zero p lt = absurd (omega (arith, lt))
free_at (suc n) zero lt = refl
free_at (suc n) (suc p) lt = free_at n p (omega (arith, lt))

pub all_free_count : (n : ℕ) → free_count (all_free n) ≡ n
all_free_count n = omega (arith, sum_by-replicate (λ (u : Bool). cond (not u) 1 0) n false)

-- ---- the pages of slots

pub pages_more : (o : Option Chain) (slots : List (Option Chain)) → pages_in (o ∷ slots) ≡ pages_of o ++ pages_in slots
pages_more o slots = flat_map-cons pages_of o slots

length_pages_of : (o : Option Chain) → length (pages_of o) ≡ if_used (λ c. length c.pages) o
length_pages_of None = refl
length_pages_of (Some c) = refl

pub length_pages : (slots : List (Option Chain)) → length (pages_in slots) ≡ chain_pages slots
length_pages [] = refl
length_pages (o ∷ slots) =
    ap (λ (l : List ℕ). length l) (pages_more o slots) ∙ omega (arith, length-append (pages_of o) (pages_in slots), length_pages_of o, length_pages slots, sum_by-cons (λ (o : Option Chain). if_used (λ c. length c.pages) o) o slots)

-- where the pages of a slot begin
abbrev pub offset : List (Option Chain) → ℕ → ℕ
offset [] s = 0
offset (o ∷ slots) zero = 0
offset (o ∷ slots) (suc s) = length (pages_of o) + offset slots s

some_chain : (o : Option Chain) (c : Chain) → o ≡ Some c → pages_of o ≡ c.pages
some_chain o c e = ap (λ (x : Option Chain). pages_of x) e

-- a page of a chain is among the pages of the slots
pub page_there : (slots : List (Option Chain)) (s part p : ℕ) (c : Chain) → At slots s (Some c) → At c.pages part p → At (pages_in slots) (offset slots s + part) p
page_there [] s part p c slot at = absurd (no_item s (Some c) slot)
page_there (o ∷ slots) zero part p c slot at =
    let is : o ≡ Some c = same_Some o (Some c) slot in
    let here : At (pages_of o) part p = subst (λ (l : List ℕ). At l part p) (sym (some_chain o c is)) at in
    let joined : At (pages_of o ++ pages_in slots) (0 + part) p = subst (λ (n : ℕ). At (pages_of o ++ pages_in slots) n p) (omega arith) (at_front (pages_of o) (pages_in slots) part p here) in
    subst (λ (l : List ℕ). At l (0 + part) p) (sym (pages_more o slots)) joined
page_there (o ∷ slots) (suc s) part p c slot at =
    let rest = page_there slots s part p c slot at in
    let joined : At (pages_of o ++ pages_in slots) (length (pages_of o) + offset slots s + part) p = subst (λ (n : ℕ). At (pages_of o ++ pages_in slots) n p) (omega arith) (at_rest (pages_of o) (pages_in slots) (offset slots s + part) p rest) in
    subst (λ (l : List ℕ). At l (length (pages_of o) + offset slots s + part) p) (sym (pages_more o slots)) joined

-- a page among those of the slots is one of a chain
pub page_named : (slots : List (Option Chain)) (n p : ℕ) → At (pages_in slots) n p → (s part : ℕ) × (c : Chain) × At slots s (Some c) × At c.pages part p × (n ≡ offset slots s + part)
page_named [] n p at = absurd (no_item n p at)
page_named (o ∷ slots) n p at =
    ⊎_elim
    (λ front. first o front)
    (λ rest.
    let found = page_named slots rest.0 p rest.2 in
    (suc found.0, found.1, found.2, found.3, found.4, omega (arith, rest.1, found.5)))
    (at_joined (pages_of o) (pages_in slots) n p (subst (λ (l : List ℕ). At l n p) (pages_more o slots) at))
  where
    first : (o : Option Chain) → At (pages_of o) n p → (s part : ℕ) × (c : Chain) × At (o ∷ slots) s (Some c) × At c.pages part p × (n ≡ offset (o ∷ slots) s + part)
    first None front = absurd (no_item n p front)
    first (Some c) front = (zero, n, c, refl, front, omega arith)

-- where no page is twice among those of the slots, one is at one slot and part alone
pub one_place : (slots : List (Option Chain)) → IsDistinct (pages_in slots) → (s t a b p : ℕ) (c d : Chain) → At slots s (Some c) → At slots t (Some d) → At c.pages a p → At d.pages b p → (s ≡ t) × (a ≡ b)
one_place slots distinct s t a b p c d slot_s slot_t at_a at_b =
    same slots s t c d a b slot_s slot_t (at_within c.pages a p at_a) (at_within d.pages b p at_b)
    (distinct (offset slots s + a) (offset slots t + b) p (page_there slots s a p c slot_s at_a) (page_there slots t b p d slot_t at_b))
  where
    long : (o : Option Chain) (c : Chain) → Some o ≡ Some (Some c) → length (pages_of o) ≡ length c.pages
    long o c e = ap (λ (l : List ℕ). length l) (some_chain o c (same_Some o (Some c) e))

    same : (slots : List (Option Chain)) (s t : ℕ) (c d : Chain) (a b : ℕ) → At slots s (Some c) → At slots t (Some d) → a < length c.pages → b < length d.pages → offset slots s + a ≡ offset slots t + b → (s ≡ t) × (a ≡ b)
    same [] s t c d a b slot_s slot_t lt_a lt_b e = absurd (no_item s (Some c) slot_s)
    same (o ∷ slots) zero zero c d a b slot_s slot_t lt_a lt_b e = (refl, omega (arith, e))
    same (o ∷ slots) zero (suc t) c d a b slot_s slot_t lt_a lt_b e = absurd (omega (arith, e, lt_a, long o c slot_s))
    same (o ∷ slots) (suc s) zero c d a b slot_s slot_t lt_a lt_b e = absurd (omega (arith, e, lt_b, long o d slot_t))
    same (o ∷ slots) (suc s) (suc t) c d a b slot_s slot_t lt_a lt_b e =
        let rest = same slots s t c d a b slot_s slot_t lt_a lt_b (omega (arith, e)) in
        (ap suc rest.0, rest.1)

-- ---- layouts

-- the place of a name among all pages
abbrev pub place_of : Layout → Name → ℕ
place_of l (InRoot k) = k
place_of l (InChain s part) = length l.directory + (offset l.slots s + part)

pub named_there : (l : Layout) (u : Name) (p : ℕ) → Names l u p → At (named_pages l) (place_of l u) p
named_there l (InRoot k) p names = at_front l.directory (pages_in l.slots) k p names
named_there l (InChain s part) p names = at_rest l.directory (pages_in l.slots) (offset l.slots s + part) p (page_there l.slots s part p names.0 names.1 names.2)

pub there_named : (l : Layout) (n p : ℕ) → At (named_pages l) n p → (u : Name) × Names l u p × (n ≡ place_of l u)
there_named l n p at =
    ⊎_elim
    (λ front. (InRoot n, front, refl))
    (λ rest.
    let found = page_named l.slots rest.0 p rest.2 in
    (InChain found.0 found.1, (found.2, found.3, found.4), rest.1 ∙ ap (λ (m : ℕ). length l.directory + m) found.5))
    (at_joined l.directory (pages_in l.slots) n p at)

-- pages that are clear are each named once
pub clear_once : (l : Layout) → IsDistinct (named_pages l) → (u v : Name) (p : ℕ) → Names l u p → Names l v p → u ≡ v
clear_once l distinct (InRoot j) (InRoot k) p at_u at_v = ap InRoot (distinct j k p (named_there l (InRoot j) p at_u) (named_there l (InRoot k) p at_v))
clear_once l distinct (InRoot j) (InChain s a) p at_u at_v = absurd (omega (arith, distinct j (place_of l (InChain s a)) p (named_there l (InRoot j) p at_u) (named_there l (InChain s a) p at_v), at_within l.directory j p at_u))
clear_once l distinct (InChain s a) (InRoot j) p at_u at_v = absurd (omega (arith, distinct j (place_of l (InChain s a)) p (named_there l (InRoot j) p at_v) (named_there l (InChain s a) p at_u), at_within l.directory j p at_v))
clear_once l distinct (InChain s a) (InChain t b) p at_u at_v =
    let e = one_place l.slots (rest_distinct l.directory (pages_in l.slots) distinct) s t a b p at_u.0 at_v.0 at_u.1 at_v.1 at_u.2 at_v.2 in
    λ i. InChain (e.0 i) (e.1 i)
  where
    same_add : (t a b : ℕ) → t + a ≡ t + b → a ≡ b
    same_add t a b e = omega (arith, e)

    rest_distinct : (xs ys : List ℕ) → IsDistinct (xs ++ ys) → IsDistinct ys
    rest_distinct xs ys d a b x h k = same_add (length xs) a b (d (length xs + a) (length xs + b) x (at_rest xs ys a x h) (at_rest xs ys b x k))

-- all pages of a layout, each named once, are clear where all are free
pub layout_clear : (l : Layout) (count : ℕ) → ((u : Name) (p : ℕ) → Names l u p → p < count) → ((u v : Name) (p : ℕ) → Names l u p → Names l v p → u ≡ v) → AreClear (all_free count) (named_pages l)
layout_clear l count below once =
    distinct_clear (all_free count) (named_pages l)
    (λ a b p h k.
    let u = there_named l a p h in
    let v = there_named l b p k in
    u.2 ∙ ap (λ (n : Name). place_of l n) (once u.0 v.0 p u.1 v.1) ∙ sym v.2)
    (λ n p at. let u = there_named l n p at in free_at count p (below u.0 p u.1))

pub clear_below : (l : Layout) (count : ℕ) → AreClear (all_free count) (named_pages l) → (u : Name) (p : ℕ) → Names l u p → p < count
clear_below l count clear u p names = omega (arith, at_within (all_free count) p false (clear_at (all_free count) (named_pages l) (place_of l u) p clear (named_there l u p names)), length-replicate count false)

-- ---- one more

module _ (used : List Bool) (pages : List ℕ) (n p : ℕ) (lt : n < length pages) (is : p ≡ get_or pages n 0) where
  more : take (n + 1) pages ≡ take n pages ++ p ∷ []
  more = take_more pages n 0 lt ∙ ap (λ (q : ℕ). take n pages ++ q ∷ []) (sym is)

  pub one_clear : AreClear used (take n pages) → At (flagged true used (take n pages)) p false → AreClear used (take (n + 1) pages)
  one_clear clear at = subst (λ (l : List ℕ). AreClear used l) (sym more) (clear_joined used (take n pages) (p ∷ []) clear (at, tt))

  pub one_flagged : (now : List Bool) → now ≡ set (flagged true used (take n pages)) p true → now ≡ flagged true used (take (n + 1) pages)
  one_flagged now e = e ∙ sym (flagged_joined used (take n pages) (p ∷ [])) ∙ ap (λ (l : List ℕ). flagged true used l) (sym more)

  pub one_taken : (At (flagged true used (take n pages)) p false → ⊥) → AreClear used pages → ⊥
  one_taken taken clear =
      let parts : take n pages ++ drop n pages ≡ pages = take-append-drop n pages in
      let rest : AreClear (flagged true used (take n pages)) (drop n pages) = clear_rest used (take n pages) (drop n pages) (subst (λ (l : List ℕ). AreClear used l) (sym parts) clear) in
      let front : AreClear (flagged true used (take n pages)) (p ∷ drop (suc n) pages) = subst (λ (l : List ℕ). AreClear (flagged true used (take n pages)) l) (drop-cons pages n 0 lt ∙ ap (λ (q : ℕ). q ∷ drop (suc n) pages) (sym is)) rest in
      taken front.0

module _ (used : List Bool) (slots : List (Option Chain)) (n : ℕ) (o : Option Chain) (lt : n < length slots) (is : o ≡ get_or slots n o) where
  slots_more : pages_in (take (n + 1) slots) ≡ pages_in (take n slots) ++ pages_of o
  slots_more =
      ap (λ (l : List (Option Chain)). pages_in l) (take_more slots n o lt ∙ ap (λ (q : Option Chain). take n slots ++ q ∷ []) (sym is))
      ∙ flat_map-append pages_of (take n slots) (o ∷ [])
      ∙ ap (λ (l : List ℕ). pages_in (take n slots) ++ l) (flat_map-cons pages_of o [] ∙ append-nil (pages_of o))

  pub slot_clear : AreClear used (pages_in (take n slots)) → AreClear (flagged true used (pages_in (take n slots))) (pages_of o) → AreClear used (pages_in (take (n + 1) slots))
  slot_clear clear here = subst (λ (l : List ℕ). AreClear used l) (sym slots_more) (clear_joined used (pages_in (take n slots)) (pages_of o) clear here)

  pub slot_flagged : (now : List Bool) → now ≡ flagged true (flagged true used (pages_in (take n slots))) (pages_of o) → now ≡ flagged true used (pages_in (take (n + 1) slots))
  slot_flagged now e = e ∙ sym (flagged_joined used (pages_in (take n slots)) (pages_of o)) ∙ ap (λ (l : List ℕ). flagged true used l) (sym slots_more)

  pub slot_taken : (AreClear (flagged true used (pages_in (take n slots))) (pages_of o) → ⊥) → AreClear used (pages_in slots) → ⊥
  slot_taken taken clear =
      let parts : pages_in (take (n + 1) slots) ++ pages_in (drop (n + 1) slots) ≡ pages_in slots =
      sym (flat_map-append pages_of (take (n + 1) slots) (drop (n + 1) slots)) ∙ ap (λ (l : List (Option Chain)). pages_in l) (take-append-drop (n + 1) slots) in
      let front = clear_front used (pages_in (take (n + 1) slots)) (pages_in (drop (n + 1) slots)) (subst (λ (l : List ℕ). AreClear used l) (sym parts) clear) in
      taken (clear_rest used (pages_in (take n slots)) (pages_of o) (subst (λ (l : List ℕ). AreClear used l) slots_more front))
