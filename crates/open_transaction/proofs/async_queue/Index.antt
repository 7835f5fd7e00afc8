-- The jobs by number and by due go together after a change of both.
use Rattle.std.proofs.Common.{◌≡◌, refl, ℕ, Bool, true, false, cond, List, Option, Some, None, sym, ap, subst, ◌∙◌, true≢false}
use Rattle.std.specs.Prelude.{◌==◌, not}
use Rattle.std.proofs.lemmas.Bool.{eqb-true, eqb-false, false_from_ne_true}
use Rattle.std.specs.Cmp.{Equal-is, eq_by_cmp_equiv, nat_cmp_total, tied_itself}
use Rattle.std.specs.FinMap.{find, nat_cmp-IsAntisymmetric, put}
use Rattle.std.specs.FinMap.Entries.{find-put}
use Rattle.std.specs.Ordering.{eq_by_cmp, is_eq, nat_cmp}
use Rattle.kd_base.specs.OrderLaws.{sorted_put}
use Rattle.kd_base.specs.Places.{without}
use Rattle.kd_base.specs.PlacesLaws.{left_sorted}
use Rattle.open_transaction.specs.declared.async_queue.due.DueKey.{DueKey}
use Rattle.open_transaction.specs.declared.async_queue.queue.Waiting.{Waiting}
use Rattle.open_transaction.specs.DueIndex.{AreIndexed, key_of, mark_of, rekeyed}
use Rattle.open_transaction.specs.DueOrder.{due_cmp, due_eq}
use Rattle.open_transaction.specs.DueOrderLaws.{due_same, due_total}
use Rattle.open_transaction.proofs.async_queue.Finds.{found_without}
use Rattle.open_transaction.proofs.async_queue.Views.{Numbered, same_test}

abbrev pub Marked : Type 0
Marked = List (DueKey × Bool)

-- ---- keys

other_key : (a b : DueKey) → (a.number ≡ b.number → ⊥) → due_eq a b ≡ false
other_key a b apart = false_from_ne_true (due_eq a b) (λ e. apart (ap (λ (k : DueKey). k.number) (due_same a b ((Equal-is (due_cmp a b)).0 e))))

pub same_key : (a b : DueKey) → due_eq a b ≡ true → a ≡ b
same_key a b e = due_same a b ((Equal-is (due_cmp a b)).0 e)

pub key_itself : (a : DueKey) → due_eq a a ≡ true
key_itself a = ap is_eq (tied_itself due_total a)

-- ---- what is found after a change

same_number : (m n : ℕ) → eq_by_cmp nat_cmp m n ≡ (m == n)
same_number m n = (eq_by_cmp_equiv nat_cmp_total).symm m n ∙ sym (same_test m n)

put_number : (m n : ℕ) (w : Waiting) (es : Numbered) → find nat_cmp m (put nat_cmp n w es) ≡ cond (m == n) (Some w) (find nat_cmp m es)
put_number m n w es = find-put nat_cmp nat_cmp_total m n w es ∙ ap (λ b. cond b (Some w) (find nat_cmp m es)) (same_number m n)

without_number : (m n : ℕ) (es : Numbered) → find nat_cmp m (without nat_cmp n es) ≡ cond (not (m == n)) (find nat_cmp m es) None
without_number m n es = found_without nat_cmp nat_cmp_total nat_cmp-IsAntisymmetric n m es ∙ ap (λ b. cond (not b) (find nat_cmp m es) None) (sym (same_test m n))

put_key : (k key : DueKey) (mark : Bool) (due : Marked) → find due_cmp k (put due_cmp key mark due) ≡ cond (due_eq k key) (Some mark) (find due_cmp k due)
put_key k key mark due = find-put due_cmp due_total k key mark due

without_key : (k key : DueKey) (due : Marked) → find due_cmp k (without due_cmp key due) ≡ cond (not (due_eq key k)) (find due_cmp k due) None
without_key k key due = found_without due_cmp due_total due_same key k due

-- ---- one number

module _ (n : ℕ) (es : Numbered) (due : Marked) (h : AreIndexed es due) where
  -- what is kept under the number has another key
  abbrev OnlyAt : DueKey → Type 0
  OnlyAt key = (k : DueKey) → k.number ≡ n → due_eq k key ≡ false → find due_cmp k due ≡ None

  kept_at : (k : DueKey) (o : Option Waiting) → k.number ≡ n → find nat_cmp n es ≡ o → find due_cmp k due ≡ mark_of k o
  kept_at k o e is = h.same k ∙ ap (mark_of k) (ap (λ m. find nat_cmp m es) e ∙ is)

  only_new : (key : DueKey) → find nat_cmp n es ≡ None → OnlyAt key
  only_new key none k e apart = kept_at k None e none

  only_it : (v : Waiting) → find nat_cmp n es ≡ Some v → OnlyAt (key_of n v)
  only_it v there k e apart = kept_at k (Some v) e there ∙ ap (λ b. cond b (Some v.taken) None) (ap (λ m. due_eq k (key_of m v)) e ∙ apart)

  both_put : (w : Waiting) → OnlyAt (key_of n w) → AreIndexed (put nat_cmp n w es) (put due_cmp (key_of n w) w.taken due)
  both_put w only = record {
    numbers = sorted_put nat_cmp_total n w es h.numbers;
    dues = sorted_put due_total (key_of n w) w.taken due h.dues;
    same = λ k. put_key k (key_of n w) w.taken due ∙ by k (k.number == n) refl ∙ ap (mark_of k) (sym (put_number k.number n w es));
  }
    where
      by : (k : DueKey) (b : Bool) → (k.number == n) ≡ b → cond (due_eq k (key_of n w)) (Some w.taken) (find due_cmp k due) ≡ mark_of k (cond b (Some w) (find nat_cmp k.number es))
      by k true is =
          let e = eqb-true k.number n is in
          found (due_eq k (key_of n w)) refl
          ∙ ap (λ m. cond (due_eq k (key_of m w)) (Some w.taken) None) (sym e)
        where
          found : (b : Bool) → due_eq k (key_of n w) ≡ b → cond b (Some w.taken) (find due_cmp k due) ≡ cond b (Some w.taken) None
          found true same = refl
          found false apart = only k (eqb-true k.number n is) apart
      by k false is = ap (λ b. cond b (Some w.taken) (find due_cmp k due)) (other_key k (key_of n w) (eqb-false k.number n is)) ∙ h.same k

  -- a job whose number is new
  pub inserted : (w : Waiting) → find nat_cmp n es ≡ None → AreIndexed (put nat_cmp n w es) (put due_cmp (key_of n w) w.taken due)
  inserted w none = both_put w (only_new (key_of n w) none)

  -- another mark
  pub remarked : (v w : Waiting) → find nat_cmp n es ≡ Some v → key_of n v ≡ key_of n w → AreIndexed (put nat_cmp n w es) (put due_cmp (key_of n w) w.taken due)
  remarked v w there same = both_put w (λ k e apart. only_it v there k e (ap (due_eq k) same ∙ apart))

  -- it is there under its key
  pub key_there : (v : Waiting) → find nat_cmp n es ≡ Some v → find due_cmp (key_of n v) due ≡ Some v.taken
  key_there v there = kept_at (key_of n v) (Some v) refl there ∙ ap (λ b. cond b (Some v.taken) None) (key_itself (key_of n v))

  -- the job is not there any more
  pub removed : (v : Waiting) → find nat_cmp n es ≡ Some v → AreIndexed (without nat_cmp n es) (without due_cmp (key_of n v) due)
  removed v there = record {
    numbers = left_sorted nat_cmp n es h.numbers;
    dues = left_sorted due_cmp (key_of n v) due h.dues;
    same = λ k. without_key k (key_of n v) due ∙ by k (k.number == n) refl ∙ ap (mark_of k) (sym (without_number k.number n es));
  }
    where
      by : (k : DueKey) (b : Bool) → (k.number == n) ≡ b → cond (not (due_eq (key_of n v) k)) (find due_cmp k due) None ≡ mark_of k (cond (not b) (find nat_cmp k.number es) None)
      by k true is = found (due_eq (key_of n v) k) refl
        where
          found : (b : Bool) → due_eq (key_of n v) k ≡ b → cond (not b) (find due_cmp k due) None ≡ None
          found true same = refl
          found false apart = only_it v there k (eqb-true k.number n is) ((eq_by_cmp_equiv due_total).symm k (key_of n v) ∙ apart)
      by k false is = ap (λ b. cond (not b) (find due_cmp k due) None) (other_key (key_of n v) k (λ e. eqb-false k.number n is (sym e))) ∙ h.same k

  -- nothing was kept after all
  pub taken_back : (key : DueKey) (mark : Bool) → key.number ≡ n → find nat_cmp n es ≡ None → AreIndexed es (without due_cmp key (put due_cmp key mark due))
  taken_back key mark e none = record {
    numbers = h.numbers;
    dues = left_sorted due_cmp key (put due_cmp key mark due) (sorted_put due_total key mark due h.dues);
    same = λ k. without_key k key (put due_cmp key mark due) ∙ ap (λ o. cond (not (due_eq key k)) o None) (put_key k key mark due ∙ ap (λ b. cond b (Some mark) (find due_cmp k due)) ((eq_by_cmp_equiv due_total).symm k key)) ∙ by k (due_eq key k) refl ∙ h.same k;
  }
    where
      by : (k : DueKey) (b : Bool) → due_eq key k ≡ b → cond (not b) (cond b (Some mark) (find due_cmp k due)) None ≡ find due_cmp k due
      by k true same = sym (kept_at k None (ap (λ (j : DueKey). j.number) (sym (same_key key k same)) ∙ e) none)
      by k false apart = refl

  -- another target
  pub readdressed : (v w : Waiting) → find nat_cmp n es ≡ Some v → w.taken ≡ false → AreIndexed (put nat_cmp n w es) (rekeyed (key_of n v) (key_of n w) due)
  readdressed v w there free = by (due_eq (key_of n v) (key_of n w)) refl
    where
      put_all : AreIndexed (put nat_cmp n w es) (put due_cmp (key_of n w) w.taken due) → AreIndexed (put nat_cmp n w es) (put due_cmp (key_of n w) false due)
      put_all = subst (λ b. AreIndexed (put nat_cmp n w es) (put due_cmp (key_of n w) b due)) free

      by : (b : Bool) → due_eq (key_of n v) (key_of n w) ≡ b
          → AreIndexed (put nat_cmp n w es) (cond (not b) (without due_cmp (key_of n v) (put due_cmp (key_of n w) false due)) (put due_cmp (key_of n w) false due))
      by true same = put_all (remarked v w there (same_key (key_of n v) (key_of n w) same))
      by false apart = record {
        numbers = sorted_put nat_cmp_total n w es h.numbers;
        dues = left_sorted due_cmp (key_of n v) (put due_cmp (key_of n w) false due) (sorted_put due_total (key_of n w) false due h.dues);
        same = λ k. without_key k (key_of n v) (put due_cmp (key_of n w) false due) ∙ ap (λ o. cond (not (due_eq (key_of n v) k)) o None) (put_key k (key_of n w) false due) ∙ at k (k.number == n) refl ∙ ap (mark_of k) (sym (put_number k.number n w es));
      }
        where
          -- where the old key is, the new one is not
          marks : (k : DueKey) → k.number ≡ n → (b c : Bool) → due_eq (key_of n v) k ≡ b → due_eq k (key_of n w) ≡ c → cond (not b) (cond c (Some false) (find due_cmp k due)) None ≡ cond c (Some false) None
          marks k e true true same also = absurd (true≢false (sym also ∙ ap (λ (j : DueKey). due_eq j (key_of n w)) (sym (same_key (key_of n v) k same)) ∙ apart))
          marks k e true false same also = refl
          marks k e false true other also = refl
          marks k e false false other also = only_it v there k e ((eq_by_cmp_equiv due_total).symm k (key_of n v) ∙ other)

          at : (k : DueKey) (b : Bool) → (k.number == n) ≡ b → cond (not (due_eq (key_of n v) k)) (cond (due_eq k (key_of n w)) (Some false) (find due_cmp k due)) None ≡ mark_of k (cond b (Some w) (find nat_cmp k.number es))
          at k true is =
              let e = eqb-true k.number n is in
              marks k e (due_eq (key_of n v) k) (due_eq k (key_of n w)) refl refl
              ∙ (λ i. cond (due_eq k (key_of (sym e i) w)) (Some (sym free i)) None)
          at k false is =
              (λ i. cond (not (other_key (key_of n v) k (λ e. eqb-false k.number n is (sym e)) i)) (cond (other_key k (key_of n w) (eqb-false k.number n is) i) (Some false) (find due_cmp k due)) None)
              ∙ h.same k
