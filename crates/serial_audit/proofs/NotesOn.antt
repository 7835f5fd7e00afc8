-- The notes on an area, note by note.
use Rattle.std.specs.Prelude.{◌≡◌, refl, ◌⊎◌, ◌↔◌, ℕ, zero, suc, ◌+◌, ◌<◌, Bool, true, false, cond, IsTrue, List, [], ◌∷◌, drop, get_or, length, slice_get, None}
use Rattle.std.proofs.Common.{arith, inl, inr, sym, ap, subst, ◌∙◌, true≢false}
use Rattle.serial_audit.proofs.Places.{at_place, no_more}
use Rattle.kdcs_types.specs.declared.key.Area.{Area}
use Rattle.kdcs_types.specs.declared.service.Note.{Note}
use Rattle.kdcs_types.specs.KeyLaws.{area_eq_itself, area_eq_same, area_eq_sym}
use Rattle.kdcs_types.specs.Keys.{area_eq}
use Rattle.laws_of_states.specs.Replay.{noted_area, notes_on}
use Rattle.serial_audit.specs.Notes.{SameOnEach}

-- a note on the area, and one on another
pub on_area : (area : Area) (n : Note) (l : List Note) → area_eq area (noted_area n) ≡ true → notes_on area (n ∷ l) ≡ n ∷ notes_on area l
on_area area n l e = ap (λ (b : Bool). cond b (n ∷ notes_on area l) (notes_on area l)) e

pub not_on : (area : Area) (n : Note) (l : List Note) → area_eq area (noted_area n) ≡ false → notes_on area (n ∷ l) ≡ notes_on area l
not_on area n l e = ap (λ (b : Bool). cond b (n ∷ notes_on area l) (notes_on area l)) e

-- what is left of a list after so many
pub get_left : {A : Type 0} (k : ℕ) (l : List A) → slice_get (drop k l) 0 ≡ slice_get l k
get_left zero l = refl
get_left (suc k) [] = refl
get_left (suc k) (x ∷ l) = get_left k l

-- nothing is left
pub all_used : {A : Type 0} (l : List A) (k n : ℕ) → drop k l ≡ [] → k < n → None ≡ slice_get (drop n l) 0
all_used l k n none lt = sym (get_left n l ∙ no_more l k n none lt)

-- ---- both have the same notes

pub heads : {A : Type 0} (a b : A) (l m : List A) → a ∷ l ≡ b ∷ m → (a ≡ b) × (l ≡ m)
heads a b l m e = (cc, cc)

module _ (a b : List Note) (area : Area) where
  abbrev NoneOrSame : List Note → Type 0
  NoneOrSame l = (notes_on area l ≡ []) ⊎ (notes_on area a ≡ notes_on area b)

  -- either no note is on the area, or both have the same there
  none_or_same : (l : List Note) → SameOnEach l a b → NoneOrSame l
  none_or_same [] h = inl refl
  none_or_same (n ∷ l) h = split (area_eq area (noted_area n)) refl (none_or_same l h.1)
    where
      later : area_eq area (noted_area n) ≡ false → NoneOrSame l → NoneOrSame (n ∷ l)
      later e (inl none) = inl (not_on area n l e ∙ none)
      later e (inr same) = inr same

      split : (c : Bool) → area_eq area (noted_area n) ≡ c → NoneOrSame l → NoneOrSame (n ∷ l)
      split true e rest = inr (subst (λ (k : Area). notes_on k a ≡ notes_on k b) (sym (area_eq_same area (noted_area n) e)) h.0)
      split false e rest = later e rest

  -- so both have the same where they do on the area of each note of both
  pub same_everywhere : SameOnEach a a b → SameOnEach b a b → notes_on area a ≡ notes_on area b
  same_everywhere of_a of_b = both (none_or_same a of_a) (none_or_same b of_b)
    where
      both : NoneOrSame a → NoneOrSame b → notes_on area a ≡ notes_on area b
      both (inl none) (inl neither) = none ∙ sym neither
      both (inr same) other = same
      both (inl none) (inr same) = same

-- and so on the area of each of any notes
pub same_each : (l a b : List Note) → ((area : Area) → notes_on area a ≡ notes_on area b) → SameOnEach l a b
same_each [] a b same = tt
same_each (n ∷ l) a b same = (same (noted_area n), same_each l a b same)

-- ---- a search for the next note on the area

module _ (area : Area) (n : Note) (notes rest behind : List Note) (left : notes_on area notes ≡ notes_on area rest) (is : rest ≡ n ∷ behind) where
  pub next_found : area_eq (noted_area n) area ≡ true → notes_on area notes ≡ n ∷ notes_on area behind
  next_found e = left ∙ ap (notes_on area) is ∙ on_area area n behind (area_eq_sym area (noted_area n) ∙ e)

  pub next_passed : area_eq (noted_area n) area ≡ false → notes_on area notes ≡ notes_on area behind
  next_passed e = left ∙ ap (notes_on area) is ∙ not_on area n behind (area_eq_sym area (noted_area n) ∙ e)

-- ---- what is the same

pub area_iff : (a b : Area) (r : Bool) → r ≡ area_eq a b → IsTrue r ↔ (a ≡ b)
area_iff a b r e = (λ is. area_eq_same a b (sym e ∙ is), λ same. e ∙ ap (area_eq a) (sym same) ∙ area_eq_itself a)

-- ---- how many notes are on the area

module _ (area : Area) (notes : List Note) (i : ℕ) (n : Note) (lt : i < length notes) (is : n ≡ get_or notes i n) where
  from_here : drop i notes ≡ n ∷ drop (i + 1) notes
  from_here = at_place notes i (i + 1) n lt refl is

  here : area_eq (noted_area n) area ≡ true → notes_on area (drop i notes) ≡ n ∷ notes_on area (drop (i + 1) notes)
  here e = ap (notes_on area) from_here ∙ on_area area n (drop (i + 1) notes) (area_eq_sym area (noted_area n) ∙ e)

  not_here : area_eq (noted_area n) area ≡ false → notes_on area (drop i notes) ≡ notes_on area (drop (i + 1) notes)
  not_here e = ap (notes_on area) from_here ∙ not_on area n (drop (i + 1) notes) (area_eq_sym area (noted_area n) ∙ e)

  module _ (count total : ℕ) (counted : count + length (notes_on area (drop i notes)) ≡ total) where
    pub one_counted : (next : ℕ) → area_eq (noted_area n) area ≡ true → next ≡ count + 1 → next + length (notes_on area (drop (i + 1) notes)) ≡ total
    one_counted next e one = let more : length (notes_on area (drop i notes)) ≡ suc (length (notes_on area (drop (i + 1) notes))) = ap length (here e) in omega (arith, one, more, counted)

    pub none_counted : (next : ℕ) → area_eq (noted_area n) area ≡ false → next ≡ count → next + length (notes_on area (drop (i + 1) notes)) ≡ total
    none_counted next e same = let more : length (notes_on area (drop i notes)) ≡ length (notes_on area (drop (i + 1) notes)) = ap length (not_here e) in omega (arith, same, more, counted)

  -- ---- the same notes, note by note

  module _ (b rest : List Note) (so_far : (notes_on area notes ≡ notes_on area b) ↔ (notes_on area (drop i notes) ≡ notes_on area rest)) where
    abbrev IsSame : Type 0
    IsSame = notes_on area notes ≡ notes_on area b

    -- there is no further one in the other list
    pub none_left : area_eq (noted_area n) area ≡ true → notes_on area rest ≡ [] → IsTrue false ↔ IsSame
    none_left e none = (λ t. absurd (true≢false (sym t)), λ same. absurd (filled (sym (here e) ∙ so_far.0 same ∙ none)))
      where
        filled : n ∷ notes_on area (drop (i + 1) notes) ≡ [] → ⊥
        filled k = cc

    module _ (m : Note) (behind : List Note) (found : notes_on area rest ≡ m ∷ notes_on area behind) where
      -- or another one
      pub other_left : area_eq (noted_area n) area ≡ true → (n ≡ m → ⊥) → IsTrue false ↔ IsSame
      other_left e other = (λ t. absurd (true≢false (sym t)), λ same. absurd (other (heads n m (notes_on area (drop (i + 1) notes)) (notes_on area behind) (sym (here e) ∙ so_far.0 same ∙ found)).0))

      -- or the same
      same_left : area_eq (noted_area n) area ≡ true → n ≡ m → IsSame ↔ (notes_on area (drop (i + 1) notes) ≡ notes_on area behind)
      same_left e same = (
        λ all. (heads n m (notes_on area (drop (i + 1) notes)) (notes_on area behind) (sym (here e) ∙ so_far.0 all ∙ found)).1,
        λ later. so_far.1 (here e ∙ (λ k. same k ∷ later k) ∙ sym found),
      )

      pub same_after : area_eq (noted_area n) area ≡ true → n ≡ m → (left : List Note) → left ≡ behind → IsSame ↔ (notes_on area (drop (i + 1) notes) ≡ notes_on area left)
      same_after e same left is = subst (λ (k : List Note). IsSame ↔ (notes_on area (drop (i + 1) notes) ≡ notes_on area k)) (sym is) (same_left e same)

    -- the note is on another area
    passed : area_eq (noted_area n) area ≡ false → IsSame ↔ (notes_on area (drop (i + 1) notes) ≡ notes_on area rest)
    passed e = (λ all. sym (not_here e) ∙ so_far.0 all, λ later. so_far.1 (not_here e ∙ later))

    pub passed_left : area_eq (noted_area n) area ≡ false → (left : List Note) → left ≡ rest → IsSame ↔ (notes_on area (drop (i + 1) notes) ≡ notes_on area left)
    passed_left e left is = subst (λ (k : List Note). IsSame ↔ (notes_on area (drop (i + 1) notes) ≡ notes_on area k)) (sym is) (passed e)

-- ---- on all areas

pub notes_iff : (a b : List Note) (r s : Bool) → IsTrue r ↔ SameOnEach a a b → r ≡ true → IsTrue s ↔ SameOnEach b a b → IsTrue s ↔ ((area : Area) → notes_on area a ≡ notes_on area b)
notes_iff a b r s of_a is of_b = (λ t area. same_everywhere a b area (of_a.0 is) (of_b.0 t), λ same. of_b.1 (same_each b a b same))

pub notes_differ : (a b : List Note) (r : Bool) → IsTrue r ↔ SameOnEach a a b → r ≡ false → IsTrue r ↔ ((area : Area) → notes_on area a ≡ notes_on area b)
notes_differ a b r of_a is = (λ t. absurd (true≢false (sym t ∙ is)), λ same. of_a.1 (same_each a a b same))
