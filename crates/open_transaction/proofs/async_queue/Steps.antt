-- One more target is gone over: the first job so far, and how many jobs are left.
use Rattle.std.proofs.Common.{◌≡◌, ◌⊎◌, inl, inr, refl, ℕ, ◌+◌, ◌<◌, ◌≤◌, Bool, true, false, cond, IsTrue, List, [], ◌∷◌, Option, Some, None, sym, ap, subst, ◌∙◌, arith, true≢false}
use Rattle.std.specs.Prelude.{◌&&◌, not, nat_le}
use Rattle.std.specs.FinMap.{find}
use Rattle.std.specs.Ordering.{is_eq, is_lt}
use Rattle.std.specs.declared.cmp.Ordering.{Ordering}
use Rattle.std.specs.declared.cmp.Ordering.TheVariants.{Less, Equal, Greater}
use Rattle.kd_base.specs.OrderLaws.{is_less}
use Rattle.kd_base.specs.ToolsLaws.{both_true, some_is}
use Rattle.kdcs_types.specs.declared.key.Target.{Target}
use Rattle.kdcs_types.specs.declared.key.Target.TheVariants.{Tac, Lterm}
use Rattle.kdcs_types.specs.Same.{target_eq}
use Rattle.open_transaction.specs.declared.async_queue.due.DueKey.{DueKey}
use Rattle.open_transaction.specs.declared.async_queue.queue.QueuedJob.{QueuedJob}
use Rattle.open_transaction.specs.DueIndex.{IsFirst, IsThere, due_key, tac_in}
use Rattle.open_transaction.specs.DueOrder.{due_cmp, target_cmp}
use Rattle.open_transaction.specs.DueOrderLaws.{due_same, target_eq_itself, target_total}
use Rattle.open_transaction.specs.Queue.{either_of, is_due}
use Rattle.open_transaction.proofs.async_queue.Firsts.{Both, first_of_both, first_same}
use Rattle.open_transaction.proofs.async_queue.Scans.{due_for}
use Rattle.open_transaction.proofs.async_queue.Targets.{HasJob, IsAfter, IsPassed, from_target, not_less, not_less_itself}

module _ (due : List (DueKey × Bool)) (now : ℕ) (allowed : Target → Bool) where
  abbrev test : QueuedJob → Bool
  test = is_due now allowed

  -- of targets before the next one
  abbrev pub Before : Option Target → QueuedJob → Type 0
  Before next q = IsThere due q × IsPassed due next q.to

  -- of this target or a lesser one
  abbrev pub UpTo : Target → QueuedJob → Type 0
  UpTo to q = IsThere due q × (is_lt (target_cmp to q.to) ≡ false)

  -- the tests of targets where a target is this one
  its_test : (to : Target) (q : QueuedJob) → allowed to ≡ true → q.to ≡ to → test q ≡ is_due now (target_eq to) q
  its_test to q passes e = ap (λ b. not q.taken && (nat_le q.due now && b)) (ap allowed e ∙ passes ∙ sym (ap (target_eq to) e ∙ target_eq_itself to))

  is_allowed : (q : QueuedJob) → test q ≡ true → allowed q.to ≡ true
  is_allowed q h = (both_true (nat_le q.due now) (allowed q.to) (both_true (not q.taken) (nat_le q.due now && allowed q.to) h).1).1

  -- ---- the target itself

  module _ (to : Target) where
    abbrev Its : QueuedJob → Type 0
    Its q = IsThere due q × (q.to ≡ to)

    its_first : (r : Option QueuedJob) → allowed to ≡ true → IsFirst (IsThere due) (is_due now (target_eq to)) r → IsFirst Its test r
    its_first None passes h = λ q its. its_test to q passes its.1 ∙ h q its.0
    its_first (Some f) passes h =
        let target = (due_for now to f h.1).target in
        ((h.0, target), its_test to f passes target ∙ h.1, λ q its e. h.2 q its.0 (sym (its_test to q passes its.1) ∙ e))

    up_to_itself : (q : QueuedJob) → q.to ≡ to → is_lt (target_cmp to q.to) ≡ false
    up_to_itself q e = ap (λ t. is_lt (target_cmp to t)) e ∙ not_less_itself to

    up_to_lesser : (q : QueuedJob) → IsTrue (is_lt (target_cmp q.to to)) → is_lt (target_cmp to q.to) ≡ false
    up_to_lesser q h = not_less q.to to (is_less (target_cmp q.to to) h)

    lesser_or_its : (q : QueuedJob) → is_lt (target_cmp to q.to) ≡ false → (to ≡ q.to) ⊎ IsTrue (is_lt (target_cmp q.to to))
    lesser_or_its q h = elim (from_target to q.to h) [ inl same ↦ inl same | inr less ↦ inr (ap is_lt less) ]

    -- it is allowed
    pub with_target : (first r : Option QueuedJob) → allowed to ≡ true → IsFirst (Before (Some to)) test first → IsFirst (IsThere due) (is_due now (target_eq to)) r → IsFirst (UpTo to) test (either_of first r)
    with_target first r passes h k =
        first_same test (Both test (Before (Some to)) Its) (UpTo to) (either_of first r)
        (λ q e b. elim b [ inl before ↦ (before.0, up_to_lesser q before.1) | inr its ↦ (its.0, up_to_itself q its.1) ])
        (λ q e u. elim (lesser_or_its q u.1) [ inl same ↦ inr (u.0, sym same) | inr less ↦ inl (u.0, less) ])
        (first_of_both test (Before (Some to)) Its first r h (its_first r passes k))

    -- it is not
    pub without_target : (first : Option QueuedJob) → allowed to ≡ false → IsFirst (Before (Some to)) test first → IsFirst (UpTo to) test first
    without_target first fails h =
        first_same test (Before (Some to)) (UpTo to) first
        (λ q e before. (before.0, up_to_lesser q before.1))
        (λ q e u. elim (lesser_or_its q u.1) [ inl same ↦ absurd (true≢false (sym (is_allowed q e) ∙ ap allowed (sym same) ∙ fails)) | inr less ↦ (u.0, less) ])
        h

    -- the next one
    passed : (next : Target) (q : QueuedJob) → target_cmp to next ≡ Less → is_lt (target_cmp to q.to) ≡ false → IsTrue (is_lt (target_cmp q.to next))
    passed next q more h =
        elim (lesser_or_its q h) [
          | inl same ↦ ap (λ t. is_lt (target_cmp t next)) (sym same) ∙ ap is_lt more
          | inr less ↦ ap is_lt (target_total.trans q.to to next (is_less (target_cmp q.to to) less) more)
        ]

    pub then_next : (next : Option Target) (first : Option QueuedJob) → IsAfter due to next → IsFirst (UpTo to) test first → IsFirst (Before next) test first
    then_next None first after h = first_same test (UpTo to) (Before None) first (λ q e u. (u.0, tt)) (λ q e b. (b.0, after.none q b.0 tt)) h
    then_next (Some next) first after h = first_same test (UpTo to) (Before (Some next)) first (λ q e u. (u.0, passed next q after.greater u.1)) (λ q e b. (b.0, after.none q b.0 b.1)) h

  -- ---- the end

  pub none_so_far : (next : Option Target) → ((q : QueuedJob) → IsThere due q → IsPassed due next q.to → ⊥) → IsFirst (Before next) test None
  none_so_far next none q before = absurd (none q before.0 before.1)

  pub first_of_all : ((lterm : List ℕ) → allowed (Lterm lterm) ≡ false) → (next : Option Target) (first : Option QueuedJob) → tac_in next ≡ None → IsFirst (Before next) test first → IsFirst (IsThere due) test first
  first_of_all refuses None first end h = first_same test (Before None) (IsThere due) first (λ q e before. before.0) (λ q e there. (there, tt)) h
  first_of_all refuses (Some (Tac tac)) first end h = absurd cc
  first_of_all refuses (Some (Lterm lterm)) first end h =
      first_same test (Before (Some (Lterm lterm))) (IsThere due) first (λ q e before. before.0) (λ q e there. (there, tac_first q.to (is_allowed q e))) h
    where
      tac_first : (to : Target) → allowed to ≡ true → IsTrue (is_lt (target_cmp to (Lterm lterm)))
      tac_first (Tac tac) passes = refl
      tac_first (Lterm other) passes = absurd (true≢false (sym passes ∙ refuses other))

-- the next target is a TAC
pub next_tac : (next : Option Target) (tac : List ℕ) → tac_in next ≡ Some tac → next ≡ Some (Tac tac)
next_tac None tac e = absurd cc
next_tac (Some (Tac name)) tac e = cc
next_tac (Some (Lterm lterm)) tac e = absurd cc

-- ---- how many jobs are left

-- how many pairs pass the test
abbrev how_many : (DueKey × Bool → Bool) → List (DueKey × Bool) → ℕ
how_many p [] = 0
how_many p (e ∷ es) = cond (p e) 1 0 + how_many p es

-- of targets that are not before the next one
abbrev pub left : List (DueKey × Bool) → Option Target → ℕ
left due None = 0
left due (Some next) = how_many (λ (e : DueKey × Bool). not (is_lt (target_cmp e.0.to next))) due

module _ (p q : DueKey × Bool → Bool) (less : (e : DueKey × Bool) → p e ≡ true → q e ≡ true) where
  one_less : (e : DueKey × Bool) → cond (p e) 1 0 ≤ cond (q e) 1 0
  one_less e = by (p e) (q e) (less e)
    where
      by : (a b : Bool) → (a ≡ true → b ≡ true) → cond a 1 0 ≤ cond b 1 0
      by true b h = subst (λ (c : Bool). 1 ≤ cond c 1 0) (sym (h refl)) (omega arith)
      by false b h = omega arith

  no_more : (es : List (DueKey × Bool)) → how_many p es ≤ how_many q es
  no_more [] = omega arith
  no_more (e ∷ es) = omega (arith, one_less e, no_more es)

  fewer : (k : DueKey) (v : Bool) (es : List (DueKey × Bool)) → find due_cmp k es ≡ Some v → p (k, v) ≡ false → q (k, v) ≡ true → how_many p es < how_many q es
  fewer k v [] h fails passes = absurd cc
  fewer k v (e ∷ es) h fails passes = by (due_cmp k e.0) refl (λ g. fewer k v es g fails passes)
    where
      later : is_eq (due_cmp k e.0) ≡ false → (find due_cmp k es ≡ Some v → how_many p es < how_many q es) → how_many p (e ∷ es) < how_many q (e ∷ es)
      later apart rest = omega (arith, one_less e, rest (sym (ap (λ b. cond b (Some e.1) (find due_cmp k es)) apart) ∙ h))

      by : (r : Ordering) → due_cmp k e.0 ≡ r → (find due_cmp k es ≡ Some v → how_many p es < how_many q es) → how_many p (e ∷ es) < how_many q (e ∷ es)
      by Less is rest = later (ap is_eq is) rest
      by Equal is rest =
          let value : e.1 ≡ v = some_is e.1 v (sym (ap (λ r. cond (is_eq r) (Some e.1) (find due_cmp k es)) is) ∙ h) in
          let it : (k, v) ≡ e = λ i. (due_same k e.0 is i, sym value i) in
          omega (arith, ap {B = ℕ} (λ (x : Bool). cond x 1 0) (sym (ap p it) ∙ fails), ap {B = ℕ} (λ (x : Bool). cond x 1 0) (sym (ap q it) ∙ passes), no_more es)
      by Greater is rest = later (ap is_eq is) rest

pub falls : (due : List (DueKey × Bool)) (to : Target) (next : Option Target) → HasJob due to → IsAfter due to next → left due next < left due (Some to)
falls due to None has after = none_left due
  where
    none_left : (es : List (DueKey × Bool)) → 0 < how_many (λ (e : DueKey × Bool). not (is_lt (target_cmp e.0.to to))) due
    none_left es =
        omega (
          arith,
          fewer (λ e. false) (λ (e : DueKey × Bool). not (is_lt (target_cmp e.0.to to))) (λ e h. absurd cc) (due_key has.job) has.job.taken due has.there refl
              (ap (λ t. not (is_lt (target_cmp t to))) has.target ∙ ap not (not_less_itself to)),
        )
falls due to (Some next) has after =
    fewer (λ (e : DueKey × Bool). not (is_lt (target_cmp e.0.to next))) (λ (e : DueKey × Bool). not (is_lt (target_cmp e.0.to to)))
    (λ e h. kept e.0.to h)
    (due_key has.job) has.job.taken due has.there
    (ap (λ t. not (is_lt (target_cmp t next))) has.target ∙ ap (λ r. not (is_lt r)) after.greater)
    (ap (λ t. not (is_lt (target_cmp t to))) has.target ∙ ap not (not_less_itself to))
  where
    kept : (t : Target) → not (is_lt (target_cmp t next)) ≡ true → not (is_lt (target_cmp t to)) ≡ true
    kept t h = by (target_cmp t to) refl
      where
        by : (r : Ordering) → target_cmp t to ≡ r → not (is_lt r) ≡ true
        by Less is = absurd (true≢false (sym h ∙ ap (λ r. not (is_lt r)) (target_total.trans t to next is after.greater)))
        by Equal is = refl
        by Greater is = refl
