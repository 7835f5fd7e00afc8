-- The order of keys is total, and only equal keys tie; so it is for areas and services.
use Rattle.std.specs.Prelude.{◌≡◌, refl, ℕ, true, List, [], ◌∷◌, slice_index, ◌==◌, if◌then◌else◌, false, cond, nat_lt, ◌<◌}
use Rattle.std.proofs.Common.{sym, ap, ◌∙◌}
use Rattle.std.specs.Ordering.{is_eq, ordering_then, is_lt}
use Rattle.std.specs.declared.cmp.Ordering.{Ordering}
use Rattle.std.specs.declared.cmp.Ordering.TheVariants.{Less, Equal, Greater}
use Rattle.std.specs.Cmp.{IsTotalOrder, on_total, tied_itself, Equal-is, eq_by_cmp_equiv}
use Rattle.std.specs.Cmp.Lexicographic.{lists_total, nat_list_cmp_total}
use Rattle.std.specs.FinMap.{IsAntisymmetric, slice_cmp-IsAntisymmetric, nat_cmp-IsAntisymmetric}
use Rattle.kdcs_types.specs.declared.key.Area.{Area}
use Rattle.kdcs_types.specs.declared.key.Area.TheVariants as area
use Rattle.kdcs_types.specs.declared.key.ServiceId.{ServiceId}
use Rattle.kdcs_types.specs.declared.key.ServiceId.TheVariants as id
use Rattle.kdcs_types.specs.declared.key.Key.{Key}
use Rattle.kdcs_types.specs.declared.key.Key.TheVariants as key
use Rattle.kdcs_types.specs.Keys.{id_texts, key_texts, texts_cmp, key_cmp, key_eq, area_key, area_cmp, area_eq, id_cmp, id_eq}
use Rattle.std.proofs.lemmas.Bool.{ltb-true}

pub then_equal : (r : Ordering) → ordering_then r Equal ≡ r
then_equal Less = refl
then_equal Equal = refl
then_equal Greater = refl

pub key_total : IsTotalOrder key_cmp
key_total = on_total key_texts (lists_total nat_list_cmp_total)

pub id_total : IsTotalOrder id_cmp
id_total = on_total (λ i. key.Service i) key_total

pub area_total : IsTotalOrder area_cmp
area_total = on_total area_key key_total

texts_same : IsAntisymmetric texts_cmp
texts_same = slice_cmp-IsAntisymmetric (slice_cmp-IsAntisymmetric nat_cmp-IsAntisymmetric)

abbrev head : List (List ℕ) → List ℕ
head [] = []
head (t ∷ ts) = t

abbrev tail : List (List ℕ) → List (List ℕ)
tail [] = []
tail (t ∷ ts) = ts

abbrev id_of : List (List ℕ) → ServiceId
id_of ts = if slice_index (head ts) 0 == 65 then id.Asynchronous (slice_index (head (tail ts)) 0) else id.Dialogue (head (tail ts))

id_back : (i : ServiceId) → id_of (id_texts i) ≡ i
id_back (id.Asynchronous number) = refl
id_back (id.Dialogue user) = refl

abbrev key_of : List (List ℕ) → Key
key_of ts =
    if slice_index (head ts) 0 == 1 then key.Gssb (head (tail ts))
    else if slice_index (head ts) 0 == 2 then key.Tls (head (tail ts)) (head (tail (tail ts)))
    else if slice_index (head ts) 0 == 3 then key.Uls (head (tail ts)) (head (tail (tail ts)))
    else if slice_index (head ts) 0 == 4 then key.Service (id_of (tail ts))
    else if slice_index (head ts) 0 == 5 then key.Job (slice_index (head (tail ts)) 0)
    else key.Shown (head (tail ts))

key_back : (k : Key) → key_of (key_texts k) ≡ k
key_back (key.Service service) = ap (λ i. key.Service i) (id_back service)
key_back _ = refl

pub same_key : IsAntisymmetric key_cmp
same_key a b e = sym (key_back a) ∙ ap key_of (texts_same (key_texts a) (key_texts b) e) ∙ key_back b

abbrev id_in : ServiceId → Key → ServiceId
id_in i (key.Service j) = j
id_in i _ = i

pub same_id : IsAntisymmetric id_cmp
same_id i j e = ap (id_in i) (same_key (key.Service i) (key.Service j) e)

abbrev area_in : Area → Key → Area
area_in a (key.Gssb name) = area.Gssb name
area_in a (key.Tls block lterm) = area.Tls block lterm
area_in a (key.Uls block user) = area.Uls block user
area_in a _ = a

area_back : (a b : Area) → area_in b (area_key a) ≡ a
area_back (area.Gssb name) b = refl
area_back (area.Tls block lterm) b = refl
area_back (area.Uls block user) b = refl

pub same_area : IsAntisymmetric area_cmp
same_area a b e = sym (area_back a a) ∙ ap (area_in a) (same_key (area_key a) (area_key b) e) ∙ area_back b a

pub key_eq_same : (a b : Key) → key_eq a b ≡ true → a ≡ b
key_eq_same a b e = same_key a b ((Equal-is _).0 e)

pub key_eq_itself : (a : Key) → key_eq a a ≡ true
key_eq_itself a = ap is_eq (tied_itself key_total a)

pub area_eq_same : (a b : Area) → area_eq a b ≡ true → a ≡ b
area_eq_same a b e = same_area a b ((Equal-is _).0 e)

pub area_eq_itself : (a : Area) → area_eq a a ≡ true
area_eq_itself a = ap is_eq (tied_itself area_total a)

pub area_eq_sym : (a b : Area) → area_eq a b ≡ area_eq b a
area_eq_sym a b = (eq_by_cmp_equiv area_total).symm a b

pub id_eq_same : (i j : ServiceId) → id_eq i j ≡ true → i ≡ j
id_eq_same i j e = same_id i j ((Equal-is _).0 e)

pub id_eq_itself : (i : ServiceId) → id_eq i i ≡ true
id_eq_itself i = ap is_eq (tied_itself id_total i)

pub less_number : (a b : ℕ) → is_lt (key_cmp (key.Job a) (key.Job b)) ≡ true → a < b
less_number a b e = ltb-true a b (elim (nat_lt a b) as (λ t. is_lt (ordering_then (ordering_then (cond t Less (cond (a == b) Equal Greater)) Equal) Equal) ≡ true → t ≡ true) [
  | true ↦ λ h. refl
  | false ↦ elim (a == b) as (λ u. is_lt (ordering_then (ordering_then (cond u Equal Greater) Equal) Equal) ≡ true → false ≡ true) [ true ↦ λ h. h | false ↦ λ h. h ]
] e)

pub other_number : (n m : ℕ) → id_eq (id.Asynchronous n) (id.Asynchronous m) ≡ false → key_eq (key.Job n) (key.Job m) ≡ false
other_number n m apart = apart
