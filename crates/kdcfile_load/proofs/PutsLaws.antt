-- A record of a new key is put in its place among the others.
use Rattle.std.specs.FinMap.{find, put}
use Rattle.std.specs.FinMap.Entries.{by_order}
use Rattle.std.proofs.Common.{◌≡◌, ℕ, ◌+◌, cond, List, [], ◌∷◌, ◌++◌, Some, None, refl, sym, ap, subst, arith}
use Rattle.std.specs.Prelude.{All, sum_by}
use Rattle.std.specs.Ordering.{is_eq}
use Rattle.std.specs.declared.cmp.Ordering.{Ordering}
use Rattle.std.specs.declared.cmp.Ordering.TheVariants.{Less, Equal, Greater}
use Rattle.std.proofs.lemmas.Option.{none-some}
use Rattle.std.proofs.lemmas.List.Sums.{sum_by-append, sum_by-cons}
use Rattle.std.proofs.lemmas.List.Elements.{All-cons, All-head, All-tail}
use Rattle.kd_records.specs.declared.key.RecordKey.{RecordKey}
use Rattle.kd_records.specs.Keys.{key_cmp}
use Rattle.kd_records.specs.Contents.{Record}

-- a record of a new key is put between others
record IsBetween (k : RecordKey) (v : List ℕ) (items : List Record) : Type 0 where
  front : List Record
  rest : List Record
  before : items ≡ front ++ rest
  after : put key_cmp k v items ≡ front ++ (k, v) ∷ rest

put_between : (k : RecordKey) (v : List ℕ) (items : List Record) → find key_cmp k items ≡ None → IsBetween k v items
put_between k v [] none = record { front = []; rest = []; before = refl; after = refl }
put_between k v (r ∷ items) none =
    let is = by (key_cmp k r.0) (λ e. put_between k v items e) none in
    record { front = is.0; rest = is.1; before = is.2; after = is.3 }
  where
    by : (o : Ordering) → (find key_cmp k items ≡ None → IsBetween k v items) → cond (is_eq o) (Some r.1) (find key_cmp k items) ≡ None
        → (front : List Record) × (rest : List Record) × (r ∷ items ≡ front ++ rest) × (by_order o ((k, v) ∷ r ∷ items) ((r.0, v) ∷ items) (r ∷ put key_cmp k v items) ≡ front ++ (k, v) ∷ rest)
    by Less more e = ([], r ∷ items, refl, refl)
    by Equal more e = absurd (none-some r.1 (sym e))
    by Greater more e = let is = more e in (r ∷ is.front, is.rest, ap (λ (l : List Record). r ∷ l) is.before, ap (λ (l : List Record). r ∷ l) is.after)

-- a sum over the records gains what the new one adds
pub sum_put : (f : Record → ℕ) (k : RecordKey) (v : List ℕ) (items : List Record) → find key_cmp k items ≡ None → sum_by f (put key_cmp k v items) ≡ sum_by f items + f (k, v)
sum_put f k v items none =
    let is = put_between k v items none in
    omega (
      arith,
      ap (λ (l : List Record). sum_by f l) is.before,
      ap (λ (l : List Record). sum_by f l) is.after,
      sum_by-append f is.front is.rest,
      sum_by-append f is.front ((k, v) ∷ is.rest),
      sum_by-cons f (k, v) is.rest,
    )

pub all_put : (P : Record → Type 0) (k : RecordKey) (v : List ℕ) (items : List Record) → find key_cmp k items ≡ None → P (k, v) → All P items → All P (put key_cmp k v items)
all_put P k v items none new all =
    let is = put_between k v items none in
    subst (λ (l : List Record). All P l) (sym is.after) (inserted is.front is.rest (subst (λ (l : List Record). All P l) is.before all))
  where
    inserted : (front rest : List Record) → All P (front ++ rest) → All P (front ++ (k, v) ∷ rest)
    inserted [] rest all = All-cons P (k, v) rest new all
    inserted (r ∷ front) rest all = All-cons P r (front ++ (k, v) ∷ rest) (All-head P r (front ++ rest) all) (inserted front rest (All-tail P r (front ++ rest) all))
