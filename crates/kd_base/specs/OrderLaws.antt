-- Laws: names and bytes compare as their lists of bytes do, and the comparisons tell all of them apart; what an answer of
-- a comparison is; pairs in order.
use Rattle.std.specs.Prelude.{◌≡◌, ◌<◌, ◌==◌, ℕ, Bool, true, false, IsTrue, T, List, refl, nat_lt}
use Rattle.std.proofs.Common.{arith, sym, true≢false}
use Rattle.std.proofs.lemmas.Bool.Decides.{nat_tests}
use Rattle.std.specs.Ordering.{is_lt, nat_cmp}
use Rattle.std.specs.declared.cmp.Ordering.{Ordering}
use Rattle.std.specs.declared.cmp.Ordering.TheVariants.{Less, Equal, Greater}
use Rattle.std.specs.Cmp.{IsTotalOrder}
use Rattle.std.specs.FinMap.{put, is_sorted}
use Rattle.std.specs.FinMap.Entries.{is_sorted-put}
use Rattle.std.proofs.lemmas.Cmp.{nat_list_cmp_total}
use Rattle.std.proofs.lemmas.Map.Lookups.{exact_bytes}
use Rattle.std.proofs.lemmas.Slice.Eq.{bytes_eq-Decides}
use Rattle.kd_base.specs.Order.{EqualIsSame, TiedIsSame, OrderIsTotal}

pub equal_is_same : EqualIsSame
equal_is_same = bytes_eq-Decides

pub tied_is_same : TiedIsSame
tied_is_same = exact_bytes

pub order_is_total : OrderIsTotal
order_is_total = nat_list_cmp_total

pub is_less : (r : Ordering) → is_lt r ≡ true → r ≡ Less
is_less Less e = refl
is_less Equal e = absurd cc
is_less Greater e = absurd cc

pub greater_is : (m n : ℕ) → n < m → nat_cmp m n ≡ Greater
greater_is m n h =
    let t : nat_lt m n ≡ false = grind (arith, nat_tests) in
    let e : (m == n) ≡ false = grind (arith, nat_tests) in
    rw (t, e) refl

-- the two ways to say that a test is true
pub holds : (b : Bool) → IsTrue b → T b
holds true e = tt
holds false e = absurd (true≢false (sym e))

pub is_true : (b : Bool) → T b → IsTrue b
is_true true h = refl
is_true false h = absurd h

-- pairs in the order of their keys stay so
pub sorted_put : {K X : Type 0} {R : K → K → Ordering} → IsTotalOrder R → (key : K) (value : X) (pairs : List (K × X)) → IsTrue (is_sorted R pairs) → IsTrue (is_sorted R (put R key value pairs))
sorted_put {R = R} o key value pairs up = is_true _ (is_sorted-put R o key value pairs (holds _ up))
