-- Lists of pairs whose values are changed, each by itself: look-ups and changes of the pairs go through.
use Rattle.std.specs.Prelude.{◌≡◌, refl, Bool, true, false, cond, List, [], ◌∷◌, map, Some, option_map}
use Rattle.std.proofs.Common.{ap}
use Rattle.std.specs.Ordering.{eq_by_cmp}
use Rattle.std.specs.declared.cmp.Ordering.{Ordering}
use Rattle.std.specs.declared.cmp.Ordering.TheVariants.{Less, Equal, Greater}
use Rattle.std.specs.FinMap.{find, put}
use Rattle.std.specs.FinMap.Entries.{by_order, where_key}

-- the pairs with other values
abbrev pub mapped : {K X Y : Type 0} → (X → Y) → List (K × X) → List (K × Y)
mapped f pairs = map (λ e. (e.0, f e.1)) pairs

module _ {K X Y : Type 0} (R : K → K → Ordering) (f : X → Y) where
  pub find_mapped : (key : K) (pairs : List (K × X)) → find R key (mapped f pairs) ≡ option_map f (find R key pairs)
  find_mapped key [] = refl
  find_mapped key (e ∷ es) = by (eq_by_cmp R key e.0) (find_mapped key es)
    where
      by : (b : Bool) → find R key (mapped f es) ≡ option_map f (find R key es) → cond b (Some (f e.1)) (find R key (mapped f es)) ≡ option_map f (cond b (Some e.1) (find R key es))
      by true rest = refl
      by false rest = rest

  pub put_mapped : (key : K) (value : X) (pairs : List (K × X)) → put R key (f value) (mapped f pairs) ≡ mapped f (put R key value pairs)
  put_mapped key value [] = refl
  put_mapped key value (e ∷ es) = by (R key e.0) (put_mapped key value es)
    where
      by : (r : Ordering) → put R key (f value) (mapped f es) ≡ mapped f (put R key value es)
          → by_order r ((key, f value) ∷ mapped f (e ∷ es)) ((e.0, f value) ∷ mapped f es) ((e.0, f e.1) ∷ put R key (f value) (mapped f es)) ≡ mapped f (by_order r ((key, value) ∷ e ∷ es) ((e.0, value) ∷ es) (e ∷ put R key value es))
      by Less rest = refl
      by Equal rest = refl
      by Greater rest = ap (λ (l : List (K × Y)). (e.0, f e.1) ∷ l) rest

  pub where_key_mapped : (p : K → Bool) (pairs : List (K × X)) → where_key R p (mapped f pairs) ≡ mapped f (where_key R p pairs)
  where_key_mapped p [] = refl
  where_key_mapped p (e ∷ es) = by (p e.0) (where_key_mapped p es)
    where
      by : (b : Bool) → where_key R p (mapped f es) ≡ mapped f (where_key R p es) → cond b ((e.0, f e.1) ∷ where_key R p (mapped f es)) (where_key R p (mapped f es)) ≡ mapped f (cond b (e ∷ where_key R p es) (where_key R p es))
      by true rest = ap (λ (l : List (K × Y)). (e.0, f e.1) ∷ l) rest
      by false rest = rest
