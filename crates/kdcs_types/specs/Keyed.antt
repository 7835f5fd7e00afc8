-- Lists of items in ascending order of their keys, without repeats.
use Rattle.std.specs.Prelude.{Bool, not, List, map, Option}
use Rattle.std.specs.List.{filter}
use Rattle.std.specs.FinMap.{find, put, is_sorted}
use Rattle.kdcs_types.specs.declared.key.Key.{Key}
use Rattle.kdcs_types.specs.Keys.{key_cmp, key_eq}

module _ {E : Type 0} (key_of : E → Key) where
  -- each item after its key
  abbrev pub keyed : List E → List (Key × E)
  keyed items = map (λ e. (key_of e, e)) items

  -- the keys ascend, and no two are equal
  abbrev pub ascends : List E → Bool
  ascends items = is_sorted key_cmp (keyed items)

  -- the item of a key
  abbrev pub item_at : Key → List E → Option E
  item_at k items = find key_cmp k (keyed items)

  -- with this item, in place of the one of its key
  abbrev pub with_item : E → List E → List E
  with_item e items = map (λ p. p.1) (put key_cmp (key_of e) e (keyed items))

  -- without the item of a key
  abbrev pub without_item : Key → List E → List E
  without_item k items = filter (λ e. not (key_eq k (key_of e))) items
