-- All walks, one after another.
use Rattle.std.proofs.Common.{◌≡◌, inl, inr, ℕ, List, [], ◌∷◌, ◌++◌, zero, suc, ◌+◌, ◌<◌, ◌≤◌, length, get_or, slice_set, refl, sym, ap, subst, ◌∙◌, arith}
use Rattle.std.specs.Prelude.{All, Bool, true, false, ◌&&◌, cond}
use Rattle.std.specs.Cmp.{booleans_Decides}
use Rattle.std.proofs.Math.Bool.{beq}
use Rattle.std.proofs.lemmas.List.Sums.{sum_by-cons}
use Rattle.kd_base.specs.ToolsLaws.{both_true}
use Rattle.kdcs_types.specs.Tables.{TableRows}
use Rattle.abstract_monitor.specs.declared.command.Command.{Command}
use Rattle.abstract_monitor.specs.Commands.{started}
use Rattle.abstract_monitor.specs.State.{Application}
use Rattle.laws_of_states.specs.ItemsLaws.{IsIn}
use Rattle.lab_orders.specs.declared.explored.Outcome.{Outcome}
use Rattle.lab_orders.specs.declared.performed.Found.{Found}
use Rattle.lab_orders.specs.Exploring.{AreDistinct, AreOutcomes, AreSame, IsAdded, IsCounted, IsFirst, IsOther, IsOutcome, IsShown, IsTally, IsThatOf, IsThere, is_shorter, orders_of}
use Rattle.lab_orders.specs.Finding.{IsFound}
use Rattle.lab_walks.specs.declared.signs.Signs.{Signs}
use Rattle.lab_walks.specs.Outcomes.{Result, sent_by}
use Rattle.lab_orders.specs.Told.{ComesTo, outcome_result}
use Rattle.lab_walks.specs.Walks.{IsWalk}
use Rattle.lab_orders.proofs.Told.{told_added}

-- one outcome more is among them
pub record Added (app : Application) (t : TableRows) (cs : List Command) (old new : List Outcome) (turns : List ℕ) : Type 0 where
  pub each : AreOutcomes app t cs new
  pub kept : (o : List ℕ) → IsShown app t cs old o → IsShown app t cs new o
  pub there : IsShown app t cs new turns

-- ---- the parts of a result

-- all signs are the same
pub signs_equal : (x y : Signs) → (beq x.k04 y.k04 && (beq x.k05 y.k05 && (beq x.dump y.dump && (beq x.standstill y.standstill && beq x.spent y.spent)))) ≡ true → x ≡ y
signs_equal x y e =
    let a = both_true _ _ e in
    let b = both_true _ _ a.1 in
    let c = both_true _ _ b.1 in
    let d = both_true _ _ c.1 in
    let k04 = (booleans_Decides x.k04 y.k04).0 a.0 in
    let k05 = (booleans_Decides x.k05 y.k05).0 b.0 in
    let dump = (booleans_Decides x.dump y.dump).0 c.0 in
    let standstill = (booleans_Decides x.standstill y.standstill).0 d.0 in
    let spent = (booleans_Decides x.spent y.spent).0 d.1 in
    λ i. record { k04 = k04 i; k05 = k05 i; dump = dump i; standstill = standstill i; spent = spent i }

pub same_that : (o : Outcome) (f : Found) → o.signs ≡ f.signs → o.tables ≡ f.tables → o.lines ≡ f.lines → IsThatOf o f
same_that o f signs tables lines i = record { lines = lines i; tables = tables i; signs = signs i }

pub that_parts : (o : Outcome) (f : Found) → IsThatOf o f → (o.signs ≡ f.signs) × (o.tables ≡ f.tables) × (o.lines ≡ f.lines)
that_parts o f same = (ap (λ (r : Result). r.signs) same, ap (λ (r : Result). r.tables) same, ap (λ (r : Result). r.lines) same)

-- ---- one outcome more

module _ (app : Application) (t : TableRows) (cs : List Command) (found : Found) (is : IsFound app t cs found) where
  of_found : (y : Outcome) → IsThatOf y found → ComesTo app cs (started app t) y found.turns
  of_found y same = same ∙ is.result

  outcome_found : (y : Outcome) → IsFirst y found → IsOutcome app t cs y
  outcome_found y first = record {
    walk = subst (IsWalk app cs (started app t)) (sym first.turns) is.walk;
    sent = first.sent ∙ is.sent ∙ ap (sent_by app cs (started app t)) (sym first.turns);
    comes = subst (ComesTo app cs (started app t) y) (sym first.turns) (of_found y first.same);
  }

  that_of : (x y : Outcome) → IsCounted x y found → IsThatOf y found
  that_of x y c = c.result ∙ c.same

  counted : (x y : Outcome) → IsCounted x y found → IsOutcome app t cs x → IsOutcome app t cs y
  counted x y c h = record {
    walk = subst (IsWalk app cs (started app t)) (sym c.turns) (walk_of (is_shorter found x));
    sent = c.sent ∙ sent_of (is_shorter found x) ∙ ap (sent_by app cs (started app t)) (sym c.turns);
    comes = subst (ComesTo app cs (started app t) y) (sym c.turns) (comes_of (is_shorter found x));
  }
    where
      walk_of : (b : Bool) → IsWalk app cs (started app t) (cond b found.turns x.turns)
      walk_of true = is.walk
      walk_of false = h.walk

      sent_of : (b : Bool) → cond b found.sent x.sent ≡ sent_by app cs (started app t) (cond b found.turns x.turns)
      sent_of true = is.sent
      sent_of false = h.sent

      comes_of : (b : Bool) → ComesTo app cs (started app t) y (cond b found.turns x.turns)
      comes_of true = of_found y (that_of x y c)
      comes_of false = c.result ∙ h.comes

  added_more : (x y : Outcome) (xs ys : List Outcome) → y ≡ x → IsOutcome app t cs x → Added app t cs xs ys found.turns → Added app t cs (x ∷ xs) (y ∷ ys) found.turns
  added_more x y xs ys same here rest = record {
    each = (subst (IsOutcome app t cs) (sym same) here, rest.each);
    kept = λ o shown. by o shown;
    there = inr rest.there;
  }
    where
      by : (o : List ℕ) → IsShown app t cs (x ∷ xs) o → IsShown app t cs (y ∷ ys) o
      by o (inl here) = inl (ap outcome_result same ∙ here)
      by o (inr later) = inr (rest.kept o later)

  pub added : (old new : List Outcome) → IsAdded old new found → AreOutcomes app t cs old → Added app t cs old new found.turns
  added [] [] h each = absurd h
  added [] (y ∷ []) h each = record { each = (outcome_found y h, tt); kept = λ o shown. absurd shown; there = inl (of_found y h.same) }
  added [] (y ∷ z ∷ zs) h each = absurd h
  added (x ∷ xs) [] h each = absurd h
  added (x ∷ xs) (y ∷ ys) (inl h) each = record {
    each = (counted x y h.0 each.0, subst (AreOutcomes app t cs) (sym h.1) each.1);
    kept = λ o shown. by o shown;
    there = inl (of_found y (that_of x y h.0));
  }
    where
      by : (o : List ℕ) → IsShown app t cs (x ∷ xs) o → IsShown app t cs (y ∷ ys) o
      by o (inl here) = inl (h.0.result ∙ here)
      by o (inr later) = inr (subst (λ (l : List Outcome). IsShown app t cs l o) (sym h.1) later)
  added (x ∷ xs) (y ∷ ys) (inr h) each = added_more x y xs ys h.0 each.0 (added xs ys h.2 each.1)

-- ---- distinct outcomes

other_first : (x y : Outcome) (found : Found) → IsThatOf y found → (IsThatOf x found → ⊥) → AreSame x y → ⊥
other_first x y found is not same = not (same ∙ is)

other_added : (found : Found) (x : Outcome) (xs ys : List Outcome) → IsAdded xs ys found → (IsThatOf x found → ⊥) → IsOther x xs → IsOther x ys
other_added found x [] [] h not other = absurd h
other_added found x [] (y ∷ []) h not other = (other_first x y found h.same not, tt)
other_added found x [] (y ∷ z ∷ zs) h not other = absurd h
other_added found x (z ∷ zs) [] h not other = absurd h
other_added found x (z ∷ zs) (y ∷ ys) (inl h) not other = (other_first x y found (h.0.result ∙ h.0.same) not, subst (IsOther x) (sym h.1) other.1)
other_added found x (z ∷ zs) (y ∷ ys) (inr h) not other = (subst (λ (o : Outcome). AreSame x o → ⊥) (sym h.0) other.0, other_added found x zs ys h.2 not other.1)

other_counted : (x y : Outcome) → outcome_result y ≡ outcome_result x → (zs : List Outcome) → IsOther x zs → IsOther y zs
other_counted x y same [] other = tt
other_counted x y same (z ∷ zs) other = (λ both. other.0 (sym same ∙ both), other_counted x y same zs other.1)

distinct_added : (found : Found) (old new : List Outcome) → IsAdded old new found → AreDistinct old → AreDistinct new
distinct_added found [] [] h distinct = absurd h
distinct_added found [] (y ∷ []) h distinct = (tt, tt)
distinct_added found [] (y ∷ z ∷ zs) h distinct = absurd h
distinct_added found (x ∷ xs) [] h distinct = absurd h
distinct_added found (x ∷ xs) (y ∷ ys) (inl h) distinct = (subst (IsOther y) (sym h.1) (other_counted x y h.0.result xs distinct.0), subst AreDistinct (sym h.1) distinct.1)
distinct_added found (x ∷ xs) (y ∷ ys) (inr h) distinct = (subst (λ (o : Outcome). IsOther o ys) (sym h.0) (other_added found x xs ys h.2 h.1 distinct.0), distinct_added found xs ys h.2 distinct.1)

-- ---- each order is counted

orders_more : (x : Outcome) (xs : List Outcome) → orders_of (x ∷ xs) ≡ x.orders + orders_of xs
orders_more x xs = sum_by-cons (λ (o : Outcome). o.orders) x xs

counted_added : (found : Found) (old new : List Outcome) → IsAdded old new found → orders_of new ≡ orders_of old + 1
counted_added found [] [] h = absurd h
counted_added found [] (y ∷ []) h = omega (arith, orders_more y [], h.orders)
counted_added found [] (y ∷ z ∷ zs) h = absurd h
counted_added found (x ∷ xs) [] h = absurd h
counted_added found (x ∷ xs) (y ∷ ys) (inl h) = omega (arith, orders_more y ys, orders_more x xs, h.0.orders, ap orders_of h.1)
counted_added found (x ∷ xs) (y ∷ ys) (inr h) = omega (arith, orders_more y ys, orders_more x xs, ap (λ (o : Outcome). o.orders) h.0, counted_added found xs ys h.2)

-- the orders of one outcome are among all
pub there_orders : (old : List Outcome) (found : Found) (at : ℕ) → IsThere old found at → (x : Outcome) → x ≡ get_or old at x → x.orders ≤ orders_of old
there_orders [] found at h x e = absurd h
there_orders (o ∷ os) found zero h x e = omega (arith, orders_more o os, ap (λ (o : Outcome). o.orders) e)
there_orders (o ∷ os) found (suc at) h x e = omega (arith, orders_more o os, there_orders os found at h.1 x e)

-- ---- a tally

module _ (app : Application) (t : TableRows) (cs : List Command) where
  pub tally_start : (none : List Outcome) → none ≡ [] → IsTally app t cs [] none
  tally_start none is = subst (IsTally app t cs []) (sym is) (record { each = tt; distinct = tt; counted = refl; told = tt; walks_are = λ w there. absurd there; shown = λ w there. absurd there })

  pub tally_more : (walks : List (List ℕ)) (old new : List Outcome) (found : Found) → IsTally app t cs walks old → IsFound app t cs found → IsAdded old new found → IsTally app t cs (found.turns ∷ walks) new
  tally_more walks old new found tally is h = record {
    each = more.each;
    distinct = distinct_added found old new h tally.distinct;
    counted = omega (arith, counted_added found old new h, tally.counted);
    told = told_added app cs (started app t) found is.result is.serial t refl walks old new h tally.distinct (λ w there comes. tally.shown w there) tally.told;
    walks_are = walks_are;
    shown = shown;
  }
    where
      more : Added app t cs old new found.turns
      more = added app t cs found is old new h tally.each

      walks_are : (w : List ℕ) → IsIn w (found.turns ∷ walks) → IsWalk app cs (started app t) w
      walks_are w (inl same) = subst (IsWalk app cs (started app t)) same is.walk
      walks_are w (inr later) = tally.walks_are w later

      shown : (w : List ℕ) → IsIn w (found.turns ∷ walks) → IsShown app t cs new w
      shown w (inl same) = subst (IsShown app t cs new) same more.there
      shown w (inr later) = more.kept w (tally.shown w later)

-- ---- its place

-- found at its place, it is counted there
pub counted_there : (old : List Outcome) (found : Found) (at : ℕ) → IsThere old found at → (y d : Outcome) → ((x : Outcome) → x ≡ get_or old at d → IsThatOf x found → IsCounted x y found) → IsAdded old (slice_set old at y) found
counted_there [] found at h y d counts = absurd h
counted_there (x ∷ xs) found zero h y d counts = inl (counts x refl h, refl)
counted_there (x ∷ xs) found (suc at) h y d counts = inr (refl, h.0, counted_there xs found at h.1 y d counts)

pub counted_so : (x here y : Outcome) (found : Found) → x ≡ here → IsThatOf x found → outcome_result y ≡ outcome_result here → y.turns ≡ cond (is_shorter found here) found.turns here.turns → y.sent ≡ cond (is_shorter found here) found.sent here.sent → y.orders ≡ here.orders + 1 → y.serial ≡ here.serial + cond found.serial 1 0 → IsCounted x y found
counted_so x here y found is same result turns sent orders serial = record {
  same = same;
  result = result ∙ ap outcome_result (sym is);
  turns = turns ∙ ap (λ (o : Outcome). cond (is_shorter found o) found.turns o.turns) (sym is);
  sent = sent ∙ ap (λ (o : Outcome). cond (is_shorter found o) found.sent o.sent) (sym is);
  orders = orders ∙ ap (λ (o : Outcome). o.orders + 1) (sym is);
  serial = serial ∙ ap (λ (o : Outcome). o.serial + cond found.serial 1 0) (sym is);
}

-- not there, it is behind the others
pub added_behind : (old : List Outcome) (found : Found) (y : Outcome) → All (λ (o : Outcome). IsThatOf o found → ⊥) old → IsFirst y found → IsAdded old (old ++ y ∷ []) found
added_behind [] found y others first = first
added_behind (x ∷ xs) found y others first = inr (refl, others 0 x (omega arith), added_behind xs found y (λ k d lt. others (suc k) d (omega (arith, lt))) first)

pub is_there : (old : List Outcome) (found : Found) (at : ℕ) (x : Outcome) → ((k : ℕ) (d : Outcome) → k < at → IsThatOf (get_or old k d) found → ⊥) → at < length old → x ≡ get_or old at x → IsThatOf x found → IsThere old found at
is_there [] found at x before lt is same = absurd (omega (arith, lt))
is_there (y ∷ ys) found zero x before lt is same = subst (λ (z : Outcome). IsThatOf z found) is same
is_there (y ∷ ys) found (suc at) x before lt is same = (before 0 x (omega arith), is_there ys found at x (λ k d less. before (suc k) d (omega (arith, less))) (omega (arith, lt)) is same)

pub there_within : (old : List Outcome) (found : Found) (at : ℕ) → IsThere old found at → at < length old
there_within [] found at there = absurd there
there_within (x ∷ xs) found zero there = omega arith
there_within (x ∷ xs) found (suc at) there = let behind : at < length xs = there_within xs found at there.1 in omega (arith, behind)
