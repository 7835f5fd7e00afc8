-- Capacity for one change, and for those after it.
use Rattle.std.specs.Prelude.{◌≡◌, ◌≤◌, ◌+◌, ℕ, List, [], ◌∷◌, length, refl}
use Rattle.std.proofs.Common.{arith}
use Rattle.kdcs_types.specs.declared.act.Change.{Change}
use Rattle.kdcs_types.specs.declared.row_lists.RowLists.{RowLists}
use Rattle.kdcs_types.specs.RowsKept.{HasCapacity}

less_capacity : (m n : ℕ) (l : RowLists) → m ≤ n → HasCapacity n l → HasCapacity m l
less_capacity m n l le h = record {
  gssbs = omega (arith, h.gssbs);
  tlss = omega (arith, h.tlss);
  ulss = omega (arith, h.ulss);
  services = omega (arith, h.services);
  jobs = omega (arith, h.jobs);
  shown = omega (arith, h.shown);
}

pub capacity_for_one : (l : RowLists) (c : Change) (cs : List Change) → HasCapacity (length (c ∷ cs)) l → HasCapacity 1 l
capacity_for_one l c cs h = less_capacity 1 (length (c ∷ cs)) l (omega arith) h

pub capacity_for_more : (l : RowLists) (c : Change) (cs : List Change) → HasCapacity (length (c ∷ cs)) l → HasCapacity (length cs + 1) l
capacity_for_more l c cs h = less_capacity (length cs + 1) (length (c ∷ cs)) l (omega arith) h

pub none_left : (cs : List Change) → length cs ≡ 0 → cs ≡ []
none_left [] e = refl
none_left (c ∷ cs) e = absurd (omega (arith, e))
