-- A page is used or freed: it changes places with the one at the border.
use Rattle.std.proofs.Common.{◌≡◌, ◌⊎◌, inl, inr, ⊎_elim, ℕ, ◌+◌, ◌-◌, ◌<◌, ◌≤◌, Bool, true, false, List, length, get_or, refl, sym, subst, ◌∙◌, arith}
use Rattle.std.specs.Prelude.{set}
use Rattle.kdcfile_layout.specs.Places.{At}
use Rattle.std.proofs.lemmas.Bool.{cases_lt}
use Rattle.std.proofs.lemmas.List.{length-set}
use Rattle.std.proofs.lemmas.Option.{slice_get_within, slice_get_read, slice_get-get_or}
use Rattle.kdcfile_layout.specs.PlacesLaws.{at_set, at_set_other, at_set_same, at_one}
use Rattle.kdcfile_layout.specs.Pools.{IsPool, moved_order, moved_place}
use Rattle.kdcfile_layout.specs.PoolsLaws.{count_set}

at_moved : {X : Type 0} (xs : List X) (m n : ℕ) (x : X) → m ≡ n → At xs m x → At xs n x
at_moved xs m n x e h = subst (λ (k : ℕ). At xs k x) e h

true_false : true ≡ false → ⊥
true_false e = cc

module _ (used : List Bool) (order place : List ℕ) (free : ℕ) (is : IsPool used order place free) (p a b q : ℕ) (p_at : At place p a) (q_at : At order b q) where
  q_place : At place q b
  q_place = is.back b q q_at

  p_order : At order a p
  p_order = is.there p a p_at

  -- a page is p, or q, or another that stays
  place_now : (x j : ℕ) → At (moved_place place p a b q) x j → ((p ≡ x) × (b ≡ j)) ⊎ (((p ≡ x → ⊥) × (q ≡ x) × (a ≡ j)) ⊎ ((p ≡ x → ⊥) × (q ≡ x → ⊥) × At place x j))
  place_now x j at =
      ⊎_elim
      (λ s. inl s)
      (λ o. inr (⊎_elim (λ s. inl (o.0, s.0, s.1)) (λ r. inr (o.0, r.0, r.1)) (at_set place q x a j o.1)))
      (at_set (set place q a) p x b j at)

  a_place : a ≡ b → p ≡ q
  a_place e = at_one order b p q (at_moved order a b p e p_order) q_at

  b_in : b < length (set order a q)
  b_in = omega (arith, slice_get_within order b q q_at, length-set order a q)

  pub there_moved : (x j : ℕ) → At (moved_place place p a b q) x j → At (moved_order order p a b q) j x
  there_moved x j at =
      ⊎_elim
      (λ s. subst (λ (y : ℕ). At (moved_order order p a b q) j y) s.0 (at_moved (moved_order order p a b q) b j p s.1 (at_set_same (set order a q) b p b_in)))
      (λ o. ⊎_elim
      (λ s. subst (λ (y : ℕ). At (moved_order order p a b q) j y) s.1 (at_moved (moved_order order p a b q) a j q s.2 (at_set_other (set order a q) b a p q (λ e. s.0 (a_place (sym e) ∙ s.1)) (at_set_same order a q (slice_get_within order a p p_order)))))
      (λ r.
      let here = is.there x j r.2 in
      at_set_other (set order a q) b j p x (λ e. r.1 (at_one order b q x q_at (at_moved order j b x (sym e) here)))
      (at_set_other order a j q x (λ e. r.0 (at_one order a p x p_order (at_moved order j a x (sym e) here))) here))
      o)
      (place_now x j at)

  pub back_moved : (j x : ℕ) → At (moved_order order p a b q) j x → At (moved_place place p a b q) x j
  back_moved j x at =
      ⊎_elim
      (λ s. at_moved (moved_place place p a b q) p x j s.1 (subst (λ (y : ℕ). At (moved_place place p a b q) p y) s.0 (at_set_same (set place q a) p b (omega (arith, slice_get_within place p a p_at, length-set place q a)))))
      (λ o. ⊎_elim
      (λ s.
      at_moved (moved_place place p a b q) q x j s.1
      (subst (λ (y : ℕ). At (moved_place place p a b q) q y) s.0
      (at_set_other (set place q a) p q b a (λ e. o.0 (at_one place q b a q_place (at_moved place p q a e p_at) ∙ s.0)) (at_set_same place q a (slice_get_within place q b q_place)))))
      (λ r.
      let here = is.back j x r.1 in
      at_set_other (set place q a) p x b j (λ e. r.0 (at_one place x a j (at_moved place p x a e p_at) here))
      (at_set_other place q x a j (λ e. o.0 (at_one place x b j (at_moved place q x b e q_place) here)) here))
      (at_set order a j q x o.1))
      (at_set (set order a q) b j p x at)

module _ (used : List Bool) (order place : List ℕ) (free : ℕ) (is : IsPool used order place free) (p a q : ℕ) (p_at : At place p a) where
  -- a free page is used from now on: it goes to the last free place
  pub marked : At used p false → At order (free - 1) q → IsPool (set used p true) (moved_order order p a (free - 1) q) (moved_place place p a (free - 1) q) (free - 1)
  marked clear q_at =
      let b = free - 1 in
      let q_place = is.back b q q_at in
      let a_free : a < free = ⊎_elim (λ lt. lt) (λ ge. absurd (true_false (at_one used p true false (is.after p a p_at ge) clear))) (cases_lt a free) in
      record {
        order_length = length-set (set order a q) b p ∙ length-set order a q ∙ is.order_length ∙ sym (length-set used p true);
        place_length = length-set (set place q a) p b ∙ length-set place q a ∙ is.place_length ∙ sym (length-set used p true);
        within = omega (arith, is.within, length-set used p true);
        there = there_moved used order place free is p a b q p_at q_at;
        back = back_moved used order place free is p a b q p_at q_at;
        front = λ x j at lt.
            ⊎_elim
            (λ s. absurd (omega (arith, s.1, lt)))
            (λ o. ⊎_elim
            (λ s. at_set_other used p x true false s.0 (at_moved used q x false s.1 (is.front q b q_place (omega (arith, a_free)))))
            (λ r. at_set_other used p x true false r.0 (is.front x j r.2 (omega (arith, lt))))
            o)
            (place_now used order place free is p a b q p_at q_at x j at);
        after = λ x j at ge.
            ⊎_elim
            (λ s. at_moved (set used p true) p x true s.0 (at_set_same used p true (slice_get_within used p false clear)))
            (λ o. ⊎_elim
            (λ s. absurd (s.0 (a_place used order place free is p a b q p_at q_at (omega (arith, s.2, ge, a_free)) ∙ s.1)))
            (λ r. at_set_other used p x true true r.0 (is.after x j r.2 (later j ge (λ e. r.1 (at_one order b q x q_at (at_moved order j b x e (is.there x j r.2)))))))
            o)
            (place_now used order place free is p a b q p_at q_at x j at);
        count = omega (arith, count_set used p false true clear, is.count);
      }
    where
      later : (j : ℕ) → free - 1 ≤ j → (j ≡ free - 1 → ⊥) → free ≤ j
      later j ge ne = omega (arith, ge, ne)

  -- a used page is free from now on: it goes to the first place of the used ones
  pub freed : At used p true → At order free q → IsPool (set used p false) (moved_order order p a free q) (moved_place place p a free q) (free + 1)
  freed taken q_at =
      let q_place = is.back free q q_at in
      let a_used : free ≤ a = ⊎_elim (λ lt. absurd (true_false (at_one used p true false taken (is.front p a p_at lt)))) (λ ge. ge) (cases_lt a free) in
      record {
        order_length = length-set (set order a q) free p ∙ length-set order a q ∙ is.order_length ∙ sym (length-set used p false);
        place_length = length-set (set place q a) p free ∙ length-set place q a ∙ is.place_length ∙ sym (length-set used p false);
        within = omega (arith, is.order_length, slice_get_within order free q q_at, length-set used p false);
        there = there_moved used order place free is p a free q p_at q_at;
        back = back_moved used order place free is p a free q p_at q_at;
        front = λ x j at lt.
            ⊎_elim
            (λ s. at_moved (set used p false) p x false s.0 (at_set_same used p false (slice_get_within used p true taken)))
            (λ o. ⊎_elim
            (λ s. absurd (s.0 (a_place used order place free is p a free q p_at q_at (omega (arith, s.2, lt, a_used)) ∙ s.1)))
            (λ r. at_set_other used p x false false r.0 (is.front x j r.2 (sooner j lt (λ e. r.1 (at_one order free q x q_at (at_moved order j free x e (is.there x j r.2)))))))
            o)
            (place_now used order place free is p a free q p_at q_at x j at);
        after = λ x j at ge.
            ⊎_elim
            (λ s. absurd (omega (arith, s.1, ge)))
            (λ o. ⊎_elim
            (λ s. at_set_other used p x false true s.0 (at_moved used q x true s.1 (is.after q free q_place (omega arith))))
            (λ r. at_set_other used p x false true r.0 (is.after x j r.2 (omega (arith, ge))))
            o)
            (place_now used order place free is p a free q p_at q_at x j at);
        count = omega (arith, count_set used p true false taken, is.count);
      }
    where
      sooner : (j : ℕ) → j < free + 1 → (j ≡ free → ⊥) → j < free
      sooner j lt ne = omega (arith, lt, ne)

module _ (used : List Bool) (order place : List ℕ) (free : ℕ) (is : IsPool used order place free) where
  pub place_at : (p a : ℕ) → p < length used → a ≡ get_or place p a → At place p a
  place_at p a lt e = slice_get_read place (length place) p a refl (omega (arith, lt, is.place_length)) e

  pub place_in : (p a : ℕ) → At place p a → a < length order
  place_in p a at = slice_get_within order a p (is.there p a at)

  pub page_in : (j q : ℕ) → At order j q → q < length place
  page_in j q at = slice_get_within place q j (is.back j q at)

  -- a page that is not used is before the border
  pub free_place : (p a : ℕ) → At place p a → At used p false → a < free
  free_place p a at clear = ⊎_elim (λ lt. lt) (λ ge. absurd (true_false (at_one used p true false (is.after p a at ge) clear))) (cases_lt a free)

  -- and one that is used is not
  pub used_place : (p a : ℕ) → At place p a → At used p true → free ≤ a
  used_place p a at taken = ⊎_elim (λ lt. absurd (true_false (at_one used p true false taken (is.front p a at lt)))) (λ ge. ge) (cases_lt a free)

  -- some page is at each place
  pub page_there : (j : ℕ) → j < length order → (q : ℕ) × At order j q
  page_there j lt = (get_or order j 0, slice_get-get_or order j 0 lt)

pub flag_at : (used : List Bool) (p : ℕ) (u v : Bool) → p < length used → u ≡ get_or used p u → u ≡ v → At used p v
flag_at used p u v lt e is = subst (λ (w : Bool). At used p w) is (slice_get_read used (length used) p u refl lt e)
