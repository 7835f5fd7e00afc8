-- The walks that were tried, and those that are still to be walked.
use Rattle.std.proofs.Common.{◌≡◌, ℕ, ◌+◌, ◌<◌, List, [], ◌∷◌, inl, inr, refl, sym, ap, subst, ◌∙◌, arith, length}
use Rattle.std.specs.Prelude.{◌⊎◌, true, Some}
use Rattle.std.proofs.lemmas.Bool.{true≢false}
use Rattle.kdcs_types.specs.Tables.{TableRows}
use Rattle.abstract_monitor.specs.declared.command.Command.{Command}
use Rattle.abstract_monitor.specs.Commands.{started}
use Rattle.abstract_monitor.specs.State.{Application}
use Rattle.laws_of_states.specs.ItemsLaws.{IsIn}
use Rattle.lab_orders.specs.declared.explored.Explored.{Explored}
use Rattle.lab_orders.specs.declared.explored.Outcome.{Outcome}
use Rattle.lab_walks.specs.declared.frame.Frame.{Frame}
use Rattle.lab_orders.specs.declared.performed.Found.{Found}
use Rattle.lab_orders.specs.Exploring.{AllOrMore, AreAll, AreOrdered, AreOutcomes, IsAdded, IsDrawn, IsMet, IsOfAllWalks, IsShown, IsTally, IsTried}
use Rattle.lab_orders.specs.Finding.{Descended, IsFound}
use Rattle.lab_walks.specs.Frames.{Advanced, IsAhead, IsLeft}
use Rattle.lab_orders.specs.Laws.{OrdersAreWalked, Starts, WalksAreOrders}
use Rattle.lab_walks.specs.Lists.{AreOnce}
use Rattle.lab_walks.specs.Orders.{worked}
use Rattle.lab_walks.specs.Outcomes.{Result}
use Rattle.lab_walks.specs.Frames.{IsWay}
use Rattle.lab_orders.specs.Standing.{IsAsGood}
use Rattle.lab_orders.specs.Told.{AreMore}
use Rattle.lab_walks.specs.Walks.{IsWalk}
use Rattle.lab_orders.proofs.Exploring.{tally_more, tally_start}
use Rattle.lab_orders.proofs.Following.{stood_itself}
use Rattle.lab_orders.proofs.Searching.{ahead_end, left_ahead, turns_ahead, turns_not_left, way_none, way_open}

-- each outcome is that of an order
pub ordered : WalksAreOrders → (app : Application) (t : TableRows) (cs : List Command) (outcomes : List Outcome) → AreOutcomes app t cs outcomes → AreOrdered app t cs outcomes
ordered orders app t cs [] each = tt
ordered orders app t cs (x ∷ xs) each = (orders app cs (started app t) x.turns each.0.walk, ordered orders app t cs xs each.1)

-- so many walks were tried, and those still to be walked are ahead
pub record AllTried (app : Application) (t : TableRows) (cs : List Command) (tried : ℕ) (outcomes : List Outcome) (frames : List Frame) : Type 0 where
  pub walks : List (List ℕ)
  pub number : length walks ≡ tried
  pub tally : IsTally app t cs walks outcomes
  pub once : AreOnce walks
  pub way : IsWay app cs (started app t) frames
  -- each walk was tried or is ahead, and none is both
  pub covers : (w : List ℕ) → IsWalk app cs (started app t) w → IsIn w walks ⊎ IsAhead frames w
  pub fresh : (w : List ℕ) → IsIn w walks → IsAhead frames w → ⊥

module _ (app : Application) (t : TableRows) (cs : List Command) where
  pub tried_start : (outcomes : List Outcome) (frames : List Frame) → outcomes ≡ [] → frames ≡ [] → AllTried app t cs 0 outcomes frames
  tried_start outcomes frames no_outcomes no_frames = record {
    walks = [];
    number = refl;
    tally = tally_start app t cs outcomes no_outcomes;
    once = tt;
    way = way_none app cs (started app t) frames no_frames;
    covers = λ w walk. inr (subst (λ (l : List Frame). IsAhead l w) (sym no_frames) tt);
    fresh = λ w there. absurd there;
  }

  module _ (tried : ℕ) (old : List Outcome) (frames deeper : List Frame) (found : Found) (all : AllTried app t cs tried old frames) (down : Descended app t cs frames deeper found) where
    -- the walk that was found is a further one
    found_once : AreOnce (found.turns ∷ all.walks)
    found_once = (λ there. all.fresh found.turns there (down.only found.turns (subst (IsAhead deeper) (sym down.turns) (turns_ahead deeper))), all.once)

    pub tried_further : (most : ℕ) → tried ≡ most → AreMore app cs (started app t) most
    tried_further most same = record {
      walks = found.turns ∷ all.walks;
      each = further;
      once = found_once;
      number = omega (arith, all.number, same);
    }
      where
        further : (w : List ℕ) → IsIn w (found.turns ∷ all.walks) → IsWalk app cs (started app t) w
        further w (inl same) = subst (IsWalk app cs (started app t)) same down.found_is.walk
        further w (inr there) = all.tally.walks_are w there

    module _ (new : List Outcome) (is : IsAdded old new found) where
      abbrev walks : List (List ℕ)
      walks = found.turns ∷ all.walks

      tally : IsTally app t cs walks new
      tally = tally_more app t cs all.walks old new found all.tally down.found_is is

      in_or_left : (w : List ℕ) → IsWalk app cs (started app t) w → IsIn w walks ⊎ IsLeft deeper w
      in_or_left w walk = elim (all.covers w walk) [
        | inl there ↦ inl (inr there)
        | inr ahead ↦ elim (ahead_end app cs (started app t) deeper down.end w walk (down.kept w walk ahead)) [
          | inl same ↦ inl (inl (down.turns ∙ sym same))
          | inr left ↦ inr left
        ]
      ]

      not_left : (w : List ℕ) → IsIn w walks → IsLeft deeper w → ⊥
      not_left w (inl same) left = turns_not_left deeper (way_open app cs (started app t) deeper down.way) (subst (IsLeft deeper) (sym same ∙ down.turns) left)
      not_left w (inr there) left = all.fresh w there (down.only w (left_ahead deeper w left))

      pub tried_more : (next : List Frame) → Advanced deeper next → AllTried app t cs (tried + 1) new next
      tried_more next advanced = record {
        walks = walks;
        number = omega (arith, all.number);
        tally = tally;
        once = found_once;
        way = advanced.way app cs (started app t) down.way;
        covers = λ w walk. elim (in_or_left w walk) [ inl there ↦ inl there | inr left ↦ inr (advanced.left w left) ];
        fresh = λ w there ahead. not_left w there (advanced.only w ahead);
      }

      pub tried_all : ((w : List ℕ) → IsLeft deeper w → ⊥) → (most : ℕ) → tried < most → (e : Explored) → e.outcomes ≡ new → e.orders ≡ tried + 1 → e.all ≡ true → e.each ≡ true → AllOrMore app t cs most (Some e)
      tried_all none most less e outcomes orders is_all is_each = (
        record {
          walks = walks;
          tally = subst (IsTally app t cs walks) (sym outcomes) tally;
          number = omega (arith, all.number, orders);
          stood = λ w walk. stood_itself app cs (started app t) walks w (each_walk w walk) walk;
          once = λ each. found_once;
          whole = λ each. each_walk;
          all = is_all;
          most_orders = omega (arith, orders, less);
        },
        λ not. absurd (true≢false (sym is_each ∙ not)),
      )
        where
          each_walk : (w : List ℕ) → IsWalk app cs (started app t) w → IsIn w walks
          each_walk w walk = elim (in_or_left w walk) [ inl there ↦ there | inr left ↦ absurd (none w left) ]

  -- a walk comes to what one that is as good comes to
  pub shown_so : (outcomes : List Outcome) (w v : List ℕ) → IsAsGood app cs (started app t) v w → IsShown app t cs outcomes v → IsShown app t cs outcomes w
  shown_so [] w v good h = h
  shown_so (x ∷ xs) w v good (inl here) = inl (here ∙ good.stands.result)
  shown_so (x ∷ xs) w v good (inr later) = inr (shown_so xs w v good later)

  -- each order is shown where each walk is
  pub orders_shown : OrdersAreWalked → Starts app t cs → (outcomes : List Outcome) → ((w : List ℕ) → IsWalk app cs (started app t) w → IsShown app t cs outcomes w) → AreAll app t cs outcomes
  orders_shown walked starts outcomes all order is =
      let h = walked app t cs starts order is in
      shown outcomes (all (worked app cs (started app t) order) h.walk)
    where
      shown : (outcomes : List Outcome) → IsShown app t cs outcomes (worked app cs (started app t) order) → IsMet app t cs outcomes order
      shown [] h = absurd h
      shown (x ∷ xs) (inl here) = inl ((walked app t cs starts order is).same x.lines x.tables (record { sent_is = ap (λ (r : Result). r.lines) here; tables_are = ap (λ (r : Result). r.tables) here }))
      shown (x ∷ xs) (inr later) = inr (shown xs later)

  -- what is told of all walks, or of those that were drawn
  pub tried_whole : (most : ℕ) (e : Explored) → IsOfAllWalks app t cs most e → IsTried app t cs e
  tried_whole most e whole = record {
    walks = whole.walks;
    each = whole.tally.walks_are;
    number = whole.number;
    shown = whole.tally.shown;
    told = whole.tally.told;
    stood = λ all. whole.stood;
    once = whole.once;
    whole = whole.whole;
  }

  -- and each walk is shown
  pub whole_shown : (most : ℕ) (e : Explored) → IsOfAllWalks app t cs most e → (w : List ℕ) → IsWalk app cs (started app t) w → IsShown app t cs e.outcomes w
  whole_shown most e whole w walk = let stood = whole.stood w walk in shown_so e.outcomes w stood.other stood.good (whole.tally.shown stood.other stood.among)

  pub tried_drawn : (most : ℕ) (e : Explored) → IsDrawn app t cs most e → IsTried app t cs e
  tried_drawn most e drawn = record {
    walks = drawn.walks;
    each = drawn.tally.walks_are;
    number = drawn.number;
    shown = drawn.tally.shown;
    told = drawn.tally.told;
    stood = λ all. absurd (true≢false (sym all ∙ drawn.all));
    once = λ each. absurd (true≢false (sym each ∙ drawn.each));
    whole = λ each. absurd (true≢false (sym each ∙ drawn.each));
  }

-- ---- drawn walks

-- so many walks were drawn
pub record AreDrawn (app : Application) (t : TableRows) (cs : List Command) (drawn : ℕ) (outcomes : List Outcome) : Type 0 where
  pub walks : List (List ℕ)
  pub number : length walks ≡ drawn
  pub tally : IsTally app t cs walks outcomes

module _ (app : Application) (t : TableRows) (cs : List Command) where
  pub drawn_none : (outcomes : List Outcome) → outcomes ≡ [] → AreDrawn app t cs 0 outcomes
  drawn_none outcomes none = record { walks = []; number = refl; tally = tally_start app t cs outcomes none }

  pub drawn_one : (drawn : ℕ) (old new : List Outcome) (found : Found) → AreDrawn app t cs drawn old → IsFound app t cs found → IsAdded old new found → AreDrawn app t cs (drawn + 1) new
  drawn_one drawn old new found are is added = record {
    walks = found.turns ∷ are.walks;
    number = omega (arith, are.number);
    tally = tally_more app t cs are.walks old new found are.tally is added;
  }
