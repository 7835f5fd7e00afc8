-- Which number is the least that has a key.
use Rattle.std.specs.Prelude.{◌≡◌, refl, ℕ, Bool, true, false, IsTrue, [], ◌∷◌, Option, None, Some, is_some}
use Rattle.std.proofs.Common.{ap, sym, subst, ◌∙◌, true≢false}
use Rattle.std.specs.Ordering.{is_eq, is_lt, eq_by_cmp, nat_cmp, ordering_then, ordering_reverse}
use Rattle.std.specs.declared.cmp.Ordering.{Ordering}
use Rattle.std.specs.declared.cmp.Ordering.TheVariants.{Less, Equal, Greater}
use Rattle.std.specs.Cmp.{IsTotalOrder, tied_itself, tied_back, nat_cmp_total, on_total, then_total}
use Rattle.std.specs.FinMap.{is_sorted}
use Rattle.std.specs.FinMap.Entries.{find_tied}
use Rattle.kd_base.specs.OrderLaws.{greater_is}
use Rattle.kd_base.specs.Places.{from_key}
use Rattle.open_transaction.specs.DueOrderLaws.{none_before}
use Rattle.service_ends.specs.Index.{Numbered, IsLeast, is_marked, mark_cmp}
use Rattle.service_ends.proofs.step_scheduler.FirstFrom.{IsFirstFrom, none_from, first_from}

-- the same test
pub same_least : (p q : ℕ → Bool) → ((n : ℕ) → p n ≡ q n) → (least : Option ℕ) → IsLeast p least → IsLeast q least
same_least p q same least h = subst (λ (test : ℕ → Bool). IsLeast test least) (λ i n. same n i) h

module _ {K : Type 0} (R : K → K → Ordering) (o : IsTotalOrder R) where
  pub mark_total : IsTotalOrder (mark_cmp R)
  mark_total = then_total (on_total (λ (m : K × ℕ). m.0) o) (on_total (λ (m : K × ℕ). m.1) nat_cmp_total)

  module _ (key : K) (index : Numbered K) where
    from_zero : (n : ℕ) → is_lt (mark_cmp R (key, n) (key, 0)) ≡ false
    from_zero n = ap (λ r. is_lt (ordering_then r (nat_cmp n 0))) (tied_itself o key) ∙ none_before n

    pub none_marked : from_key (mark_cmp R) (key, 0) index ≡ [] → IsLeast (is_marked R index key) None
    none_marked none n = ap is_some (none_from (mark_cmp R) mark_total (key, 0) (key, n) index none (from_zero n))

    module _ (found : K) (number : ℕ) (rest : Numbered K) (is : from_key (mark_cmp R) (key, 0) index ≡ ((found, number), tt) ∷ rest) (up : IsTrue (is_sorted (mark_cmp R) index)) where
      abbrev first : IsFirstFrom (mark_cmp R) mark_total (key, 0) index ((found, number), tt)
      first = first_from (mark_cmp R) mark_total (key, 0) ((found, number), tt) rest index is up

      -- the first from the key and 0 on has the key
      pub first_marked : R found key ≡ Equal → IsLeast (is_marked R index key) (Some number)
      first_marked tied = (
        ap is_some (find_tied (mark_cmp R) mark_total (found, number) (key, number) (ap (λ r. ordering_then r (nat_cmp number number)) tied ∙ tied_itself nat_cmp_total number) index ∙ first.there),
        λ m lt. ap is_some (first.least (key, m) (from_zero m) (ap (λ r. is_lt (ordering_then r (nat_cmp m number))) (tied_back o found key tied) ∙ ap is_lt (nat_cmp_total.antisymm m number ∙ ap ordering_reverse (greater_is number m lt)))),
      )

      -- it has another one
      pub other_marked : eq_by_cmp R found key ≡ false → IsLeast (is_marked R index key) None
      other_marked other n = ap is_some (first.least (key, n) (from_zero n) (by (R found key) refl))
        where
          by : (r : Ordering) → R found key ≡ r → is_lt (mark_cmp R (key, n) (found, number)) ≡ true
          by Less e = absurd (true≢false (sym (ap (λ r. is_lt (ordering_then r (nat_cmp number 0))) e) ∙ first.from))
          by Equal e = absurd (true≢false (sym (ap is_eq e) ∙ other))
          by Greater e = ap (λ r. is_lt (ordering_then r (nat_cmp n number))) (o.antisymm key found ∙ ap ordering_reverse e)
