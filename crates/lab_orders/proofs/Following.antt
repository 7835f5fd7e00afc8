-- Walks that stand for all, and turns that are still to be followed.
use Rattle.std.proofs.Common.{◌≡◌, ℕ, zero, suc, ◌+◌, ◌<◌, List, [], ◌∷◌, ◌++◌, inl, inr, refl, sym, ap, subst, ◌∙◌, arith, below_more, drop, get_or, length, slice_set}
use Rattle.std.specs.Prelude.{◌⊎◌, Option, Some, None, cond, nat_lt}
use Rattle.std.proofs.Math.Seq.{drop-append_seam}
use Rattle.std.proofs.lemmas.List.{append-nil, drop_more, length-append}
use Rattle.std.proofs.lemmas.List.Sums.{sum_by-append}
use Rattle.kdcs_types.specs.Tables.{TableRows}
use Rattle.abstract_monitor.specs.declared.command.Command.{Command}
use Rattle.abstract_monitor.specs.Commands.{started}
use Rattle.abstract_monitor.specs.State.{Application, State}
use Rattle.laws_of_states.specs.ItemsLaws.{IsIn}
use Rattle.lab_states.specs.Outlines.{OutlinesTellStates}
use Rattle.lab_walks.specs.declared.frame.Frame.{Frame}
use Rattle.lab_walks.specs.Ahead.{Arrived, ArrivedStandFor, SeesTheSame, StandsFor}
use Rattle.lab_walks.specs.Frames.{IsFrame, IsWay, turn_in, turns_in}
use Rattle.lab_walks.specs.FramesLaws.{way_more}
use Rattle.lab_walks.specs.Walks.{AtEnd, CanBe, InRun, IsEnd, IsWalk, Spot, stand}
use Rattle.lab_orders.specs.declared.explored.Outcome.{Outcome}
use Rattle.lab_orders.specs.declared.key.Key.{Key}
use Rattle.lab_orders.specs.declared.performed.Found.{Found}
use Rattle.lab_orders.specs.declared.search.Seen.TheVariants as seen
use Rattle.lab_orders.specs.declared.standing.Node.{Node}
use Rattle.lab_orders.specs.Alike.{IsKeyed, IsKeyedIf, IsNoWorse}
use Rattle.lab_orders.specs.Exploring.{AreFollowed, IsAddedIf, IsFollowedIf, IsTally}
use Rattle.lab_orders.specs.Finding.{SawIt}
use Rattle.lab_orders.specs.Standing.{AreInPlace, AreNodes, CanReplace, IsAsGood, IsFollowed, IsNode, IsPending, IsPut, IsReplaced, IsStoodFor, chosen}
use Rattle.lab_orders.specs.Told.{turns_of}
use Rattle.lab_orders.proofs.Exploring.{tally_more, tally_start}
use Rattle.lab_orders.proofs.Reaching.{turns_more}
use Rattle.lab_orders.proofs.Searching.{goes_on, is_in_there, no_stop, way_none}

-- ---- lists

module _ {X : Type 0} where
  in_front : (x : X) (xs ys : List X) → IsIn x xs → IsIn x (xs ++ ys)
  in_front x [] ys there = absurd there
  in_front x (y ∷ xs) ys (inl same) = inl same
  in_front x (y ∷ xs) ys (inr later) = inr (in_front x xs ys later)

  in_back : (x : X) (xs ys : List X) → IsIn x ys → IsIn x (xs ++ ys)
  in_back x [] ys there = there
  in_back x (y ∷ xs) ys there = inr (in_back x xs ys there)

  in_both : (x : X) (xs ys : List X) → IsIn x (xs ++ ys) → IsIn x xs ⊎ IsIn x ys
  in_both x [] ys there = inr there
  in_both x (y ∷ xs) ys (inl same) = inl (inl same)
  in_both x (y ∷ xs) ys (inr later) = elim (in_both x xs ys later) [ inl front ↦ inl (inr front) | inr back ↦ inr back ]

  in_place : (x d : X) (xs : List X) (at : ℕ) → at < length xs → x ≡ get_or xs at d → IsIn x xs
  in_place x d [] at less is = absurd (omega (arith, less))
  in_place x d (y ∷ xs) zero less is = inl (sym is)
  in_place x d (y ∷ xs) (suc at) less is = inr (in_place x d xs at (omega (arith, less)) is)

  place_in : (x d : X) (xs : List X) → IsIn x xs → (at : ℕ) × (at < length xs) × (get_or xs at d ≡ x)
  place_in x d [] there = absurd there
  place_in x d (y ∷ xs) (inl same) = (zero, omega arith, same)
  place_in x d (y ∷ xs) (inr later) = let it = place_in x d xs later in let less = it.1 in (suc it.0, omega (arith, less), it.2)

  -- one in the place of another
  in_set : (x : X) (xs : List X) (at : ℕ) → at < length xs → IsIn x (slice_set xs at x)
  in_set x [] at less = absurd (omega (arith, less))
  in_set x (y ∷ xs) zero less = inl refl
  in_set x (y ∷ xs) (suc at) less = inr (in_set x xs at (omega (arith, less)))

  in_set_or : (x y d : X) (xs : List X) (at : ℕ) → IsIn y xs → IsIn y (slice_set xs at x) ⊎ (get_or xs at d ≡ y)
  in_set_or x y d [] at there = absurd there
  in_set_or x y d (z ∷ xs) zero (inl same) = inr same
  in_set_or x y d (z ∷ xs) zero (inr later) = inl (inr later)
  in_set_or x y d (z ∷ xs) (suc at) (inl same) = inl (inl same)
  in_set_or x y d (z ∷ xs) (suc at) (inr later) = elim (in_set_or x y d xs at later) [ inl there ↦ inl (inr there) | inr here ↦ inr here ]

  set_in : (x y : X) (xs : List X) (at : ℕ) → IsIn y (slice_set xs at x) → IsIn y (x ∷ xs)
  set_in x y [] at there = absurd there
  set_in x y (z ∷ xs) zero (inl same) = inl same
  set_in x y (z ∷ xs) zero (inr later) = inr (inr later)
  set_in x y (z ∷ xs) (suc at) (inl same) = inr (inl same)
  set_in x y (z ∷ xs) (suc at) (inr later) = elim (set_in x y xs at later) [ inl here ↦ inl here | inr there ↦ inr (inr there) ]

  -- ends of one length
  same_end : (xs ends ys others : List X) → xs ++ ends ≡ ys ++ others → length ends ≡ length others → ends ≡ others
  same_end xs ends ys others same long =
      let before : length xs ≡ length ys = omega (arith, length-append xs ends, length-append ys others, ap length same, long) in
      sym (drop-append_seam xs ends) ∙ ap (drop (length xs)) same ∙ ap (λ n. drop n (ys ++ others)) before ∙ drop-append_seam ys others

-- ---- as good

turns_then : (xs ys : List ℕ) → turns_of (xs ++ ys) ≡ turns_of xs + turns_of ys
turns_then xs ys = sum_by-append (λ (task : ℕ). cond (nat_lt 0 task) 1 0) xs ys

good_itself : (app : Application) (cs : List Command) (s : State) (w : List ℕ) → IsWalk app cs s w → IsAsGood app cs s w w
good_itself app cs s w walk = record { stands = record { walk_is = walk; result = refl; serial = refl }; turns = omega arith }

-- a walk that was found
pub stood_itself : (app : Application) (cs : List Command) (s : State) (walks : List (List ℕ)) (w : List ℕ) → IsIn w walks → IsWalk app cs s w → IsStoodFor app cs s walks w
stood_itself app cs s walks w there walk = record { other = w; among = there; good = good_itself app cs s w walk }

good_both : (app : Application) (cs : List Command) (s : State) (a b c : List ℕ) → IsAsGood app cs s a b → IsAsGood app cs s b c → IsAsGood app cs s a c
good_both app cs s a b c one other = record {
  stands = record { walk_is = one.stands.walk_is; result = one.stands.result ∙ other.stands.result; serial = one.stands.serial ∙ other.stands.serial };
  turns = omega (arith, one.turns, other.turns);
}

-- ---- keys

module _ (stand_for : ArrivedStandFor) (tell : OutlinesTellStates) where
  -- turns with a key that is no worse stand for the others
  keyed_stand : (app : Application) (t : TableRows) (script : List Command) (p q : List ℕ) (k l : Key) → IsKeyed app t script p k → IsKeyed app t script q l → IsNoWorse l k
      → (o : List ℕ) → IsWalk app script (started app t) (p ++ o) → StandsFor app script (started app t) (q ++ o) (p ++ o)
  keyed_stand app t script p q k l one other no_worse o walk =
      stand_for app script (started app t) p q (k.left + 1) k.room l.room one.cs one.s one.steps other.steps one.ends other.ends one.arrived arrived no_worse.room one.whole other.whole sees o walk
    where
      behind : other.cs ≡ one.cs
      behind = same_end other.front other.cs one.front one.cs (sym other.split ∙ one.split) (sym other.behind ∙ no_worse.behind ∙ one.behind)

      state : other.s ≡ one.s
      state = tell app other.s one.s other.facts one.facts other.replays one.replays (sym other.outline ∙ no_worse.outline ∙ one.outline)

      arrived : Arrived app script (started app t) q (k.left + 1) l.room one.cs one.s other.steps other.ends
      arrived = subst (λ (x : ℕ × List Command × State). Arrived app script (started app t) q x.0 l.room x.1 x.2 other.steps other.ends) (λ i. (no_worse.left i + 1, behind i, state i)) other.arrived

      sees : SeesTheSame app other.steps one.steps other.ends one.ends
      sees = record {
        lines = sym other.lines ∙ no_worse.lines ∙ one.lines;
        k04 = sym other.k04 ∙ no_worse.k04 ∙ one.k04;
        k05 = sym other.k05 ∙ no_worse.k05 ∙ one.k05;
        dump = sym other.dump ∙ no_worse.dump ∙ one.dump;
        serial = sym other.serial ∙ no_worse.serial ∙ one.serial;
        work = other.rest ∙ sym one.rest;
      }

  module _ (app : Application) (t : TableRows) (cs : List Command) where
    replaces : (n m : Node) → IsNode app t cs n → IsNode app t cs m → CanReplace n m
        → (o : List ℕ) → IsWalk app cs (started app t) (turns_in m.frames ++ o) → IsAsGood app cs (started app t) (turns_in n.frames ++ o) (turns_in m.frames ++ o)
    replaces n m one other can o walk = record {
      stands =
          keyed_stand app t cs (turns_in m.frames) (turns_in n.frames) can.other_key can.key
          (subst (IsKeyedIf app t cs (turns_in m.frames)) can.other_has other.keyed)
          (subst (IsKeyedIf app t cs (turns_in n.frames)) can.has one.keyed)
          can.no_worse o walk;
      turns = omega (arith, turns_then (turns_in n.frames) o, turns_then (turns_in m.frames) o, can.turns);
    }

    -- a node that was put among others
    pub place_put : (old new : List Node) (node : Node) → AreNodes app t cs old → IsNode app t cs node → IsPut old new node → AreInPlace app t cs (node ∷ old) new
    place_put old new node olds is put = record {
      are = are;
      each = λ n there o walk.
          elim (put.kept n there) [
            | inl still ↦ record { node = n; among = still; behind = o; good = good_itself app cs (started app t) (turns_in n.frames ++ o) walk }
            | inr replaced ↦ record { node = replaced.by; among = replaced.among; behind = o; good = replaces replaced.by n (are replaced.by replaced.among) (all n there) replaced.can o walk }
          ];
    }
      where
        all : (n : Node) → IsIn n (node ∷ old) → IsNode app t cs n
        all n (inl same) = subst (IsNode app t cs) same is
        all n (inr later) = olds n later

        are : AreNodes app t cs new
        are n there = all n (put.only n there)

-- ---- a node among others

pub replaced_at : (nodes : List Node) (node by : Node) (at : ℕ) → at < length nodes → by ≡ get_or nodes at by → CanReplace by node → IsReplaced nodes node
replaced_at nodes node by at less is can = record { by = by; among = in_place by by nodes at less is; can = can }

pub put_behind : (nodes : List Node) (node : Node) → IsPut nodes (nodes ++ node ∷ []) node
put_behind nodes node = record { kept = kept; only = only }
  where
    kept : (n : Node) → IsIn n (node ∷ nodes) → IsIn n (nodes ++ node ∷ []) ⊎ IsReplaced (nodes ++ node ∷ []) n
    kept n (inl same) = inl (in_back n nodes (node ∷ []) (inl same))
    kept n (inr later) = inl (in_front n nodes (node ∷ []) later)

    only : (n : Node) → IsIn n (nodes ++ node ∷ []) → IsIn n (node ∷ nodes)
    only n there = elim (in_both n nodes (node ∷ []) there) [ inl front ↦ inr front | inr back ↦ last back ]
      where
        last : IsIn n (node ∷ []) → IsIn n (node ∷ nodes)
        last (inl same) = inl same
        last (inr none) = absurd none

pub put_there : (nodes : List Node) (node : Node) (at : ℕ) → at < length nodes → CanReplace node (get_or nodes at node) → IsPut nodes (slice_set nodes at node) node
put_there nodes node at less can = record { kept = kept; only = λ n there. set_in node n nodes at there }
  where
    there : IsIn node (slice_set nodes at node)
    there = in_set node nodes at less

    kept : (n : Node) → IsIn n (node ∷ nodes) → IsIn n (slice_set nodes at node) ⊎ IsReplaced (slice_set nodes at node) n
    kept n (inl same) = inl (subst (λ (m : Node). IsIn m (slice_set nodes at node)) same there)
    kept n (inr later) =
        elim (in_set_or node n node nodes at later) [
          | inl still ↦ inl still
          | inr here ↦ inr (record { by = node; among = there; can = subst (CanReplace node) here can })
        ]

-- ---- nodes in place of others

module _ (app : Application) (t : TableRows) (cs : List Command) where
  abbrev Follows : List Node → List Frame → Type 0
  Follows nodes frames = IsFollowed app cs (started app t) nodes frames

  pending_more : (old new : List Node) (w : List ℕ) → ((n : Node) → IsIn n old → Follows new n.frames) → IsPending app cs (started app t) old w → IsPending app cs (started app t) new w
  pending_more old new w each p =
      let q = each p.node p.among p.behind p.good.stands.walk_is in
      record { node = q.node; among = q.among; behind = q.behind; good = good_both app cs (started app t) (turns_in q.node.frames ++ q.behind) (turns_in p.node.frames ++ p.behind) w q.good p.good }

  follows_itself : (nodes : List Node) (node : Node) → IsIn node nodes → Follows nodes node.frames
  follows_itself nodes node there o walk = record { node = node; among = there; behind = o; good = good_itself app cs (started app t) (turns_in node.frames ++ o) walk }

  follows_more : (old new : List Node) (frames : List Frame) → ((n : Node) → IsIn n old → Follows new n.frames) → Follows old frames → Follows new frames
  follows_more old new frames each h o walk = pending_more old new (turns_in frames ++ o) each (h o walk)

  pub place_none : (nodes : List Node) → AreNodes app t cs nodes → AreInPlace app t cs nodes nodes
  place_none nodes are = record { are = are; each = follows_itself nodes }

  -- one node more in place of others
  pub place_more : (first old new : List Node) (node : Node) → AreInPlace app t cs first old → AreInPlace app t cs (node ∷ old) new → AreInPlace app t cs first new
  place_more first old new node before after = record { are = after.are; each = λ n there. follows_more old new n.frames (λ m later. after.each m (inr later)) (before.each n there) }

  place_follows : (old new : List Node) (node : Node) (frames : List Frame) → AreInPlace app t cs (node ∷ old) new → Follows old frames → Follows new frames
  place_follows old new node frames after = follows_more old new frames (λ m later. after.each m (inr later))

  -- ---- the choices of a frame

  chosen_frame : (p : Spot) (f : Frame) (at : ℕ) → at < length f.choices → IsFrame app p f → IsFrame app p (chosen f at)
  chosen_frame (AtEnd u) f at less h = h
  chosen_frame (InRun left room u) f at less h = record { idle = h.idle; can = h.can; whole = h.whole; once = h.once; at = less }

  module _ (frames : List Frame) (last : Frame) (here : IsFrame app (stand app cs (started app t) (turns_in frames)) last) where
    pub choice_way : IsWay app cs (started app t) frames → (at : ℕ) → at < length last.choices → IsWay app cs (started app t) (frames ++ chosen last at ∷ [])
    choice_way way at less = way_more app cs (started app t) frames (chosen last at) way (chosen_frame (stand app cs (started app t) (turns_in frames)) last at less here)

    -- a walk goes on by one of them
    pub choices_follow : (nodes : List Node) → ((at : ℕ) → at < length last.choices → Follows nodes (frames ++ chosen last at ∷ [])) → Follows nodes frames
    choices_follow nodes each [] walk = absurd (no_stop app cs (started app t) (stand app cs (started app t) (turns_in frames)) last here (subst (λ (w : List ℕ). IsEnd (stand app cs (started app t) w)) (append-nil (turns_in frames)) walk.end))
    choices_follow nodes each (u ∷ o) walk =
        let there = is_in_there u last.choices (goes_on app cs (started app t) (stand app cs (started app t) (turns_in frames)) last here u (walk.can (turns_in frames) u o refl)) in
        let it = place_in u 0 last.choices there in
        let same = turns_more frames (chosen last it.0) o ∙ ap (λ (v : ℕ). turns_in frames ++ v ∷ o) it.2 in
        subst (IsPending app cs (started app t) nodes) same (each it.0 it.1 o (subst (IsWalk app cs (started app t)) (sym same) walk))

    -- one of them more was put among the nodes
    pub choice_more : (old new : List Node) (node : Node) (at : ℕ) → ((k : ℕ) → k < at → Follows old (frames ++ chosen last k ∷ [])) → AreInPlace app t cs (node ∷ old) new → node.frames ≡ frames ++ chosen last at ∷ []
        → (k : ℕ) → k < at + 1 → Follows new (frames ++ chosen last k ∷ [])
    choice_more old new node at each after is =
        below_more (λ k. Follows new (frames ++ chosen last k ∷ [])) at (λ k less. place_follows old new node (frames ++ chosen last k ∷ []) after (each k less)) (subst (Follows new) is (after.each node (inl refl)))

  -- ---- turns that are a walk

  closed : (p : Spot) → IsEnd p → (u : ℕ) → CanBe app p u → ⊥
  closed (AtEnd s) end u can = can
  closed (InRun left room s) end u can = end

  -- no other walk begins with them
  pub walk_follows : (nodes : List Node) (frames : List Frame) (found : Found) → SawIt app cs t frames (seen.Ended found) → IsFollowedIf app t cs nodes frames (Some found)
  walk_follows nodes frames found saw = (saw.2, only)
    where
      only : (o : List ℕ) → IsWalk app cs (started app t) (turns_in frames ++ o) → turns_in frames ++ o ≡ found.turns
      only [] walk = append-nil (turns_in frames) ∙ sym saw.1
      only (u ∷ o) walk = absurd (closed (stand app cs (started app t) (turns_in frames)) saw.0 u (walk.can (turns_in frames) u o refl))

  -- ---- a layer

  -- one node more was followed
  module _ (most : ℕ) (node : Node) (rest old new : List Node) (place : AreInPlace app t cs old new) where
    -- each of the others is there
    others : (n : Node) → IsIn n (rest ++ old) → Follows (rest ++ new) n.frames
    others n there =
        elim (in_both n rest old there) [
          | inl front ↦ follows_itself (rest ++ new) n (in_front n rest new front)
          | inr back ↦ follows_more new (rest ++ new) n.frames (λ m later. follows_itself (rest ++ new) m (in_back m rest new later)) (place.each n back)
        ]

    others_are : AreNodes app t cs (node ∷ rest ++ old) → AreNodes app t cs (rest ++ new)
    others_are are n there = elim (in_both n rest new there) [ inl front ↦ are n (inr (in_front n rest old front)) | inr back ↦ place.are n back ]

    follow_more : (outcomes more : List Outcome) (orders after : ℕ) (found : Option Found) → AreFollowed app t cs most orders outcomes (node ∷ rest ++ old) → IsFollowedIf app t cs new node.frames found
        → IsAddedIf most outcomes more orders after found → AreFollowed app t cs most after more (rest ++ new)
    follow_more outcomes more orders after None h followed added = record {
      walks = h.walks;
      tally = subst (IsTally app t cs h.walks) (sym added.0) h.tally;
      number = h.number ∙ sym added.1;
      few = omega (arith, h.few, added.1);
      nodes_are = others_are h.nodes_are;
      covered = λ w walk. elim (h.covered w walk) [ inl stood ↦ inl stood | inr pending ↦ inr (pending_more (node ∷ rest ++ old) (rest ++ new) w each pending) ];
    }
      where
        each : (n : Node) → IsIn n (node ∷ rest ++ old) → Follows (rest ++ new) n.frames
        each n (inl same) =
            subst (λ (m : Node). Follows (rest ++ new) m.frames) same
            (follows_more new (rest ++ new) node.frames (λ m later. follows_itself (rest ++ new) m (in_back m rest new later)) followed)
        each n (inr later) = others n later
    follow_more outcomes more orders after (Some found) h followed added = record {
      walks = found.turns ∷ h.walks;
      tally = tally_more app t cs h.walks outcomes more found h.tally followed.0 added.0;
      number = let number = h.number in let one = added.1 in omega (arith, number, one);
      few = added.2;
      nodes_are = others_are h.nodes_are;
      covered = λ w walk. elim (h.covered w walk) [ inl stood ↦ inl (record { other = stood.other; among = inr stood.among; good = stood.good }) | inr pending ↦ by w pending pending.among ];
    }
      where
        by : (w : List ℕ) (p : IsPending app cs (started app t) (node ∷ rest ++ old) w) → IsIn p.node (node ∷ rest ++ old) → IsStoodFor app cs (started app t) (found.turns ∷ h.walks) w ⊎ IsPending app cs (started app t) (rest ++ new) w
        by w p (inl same) =
            let here = ap (λ (n : Node). turns_in n.frames ++ p.behind) same in
            let is = sym here ∙ followed.1 p.behind (subst (IsWalk app cs (started app t)) (sym here) p.good.stands.walk_is) in
            inl (record { other = found.turns; among = inl refl; good = subst (λ (v : List ℕ). IsAsGood app cs (started app t) v w) is p.good })
        by w p (inr later) =
            inr (pending_more (rest ++ old) (rest ++ new) w others (record { node = p.node; among = later; behind = p.behind; good = p.good }))

  module _ (most : ℕ) (layer : List Node) where
    pub layer_more : (outcomes more : List Outcome) (orders after : ℕ) (old new : List Node) (at : ℕ) (node : Node) (found : Option Found) → at < length layer → node ≡ get_or layer at node
        → AreFollowed app t cs most orders outcomes (drop at layer ++ old) → AreInPlace app t cs old new → IsFollowedIf app t cs new node.frames found → IsAddedIf most outcomes more orders after found
        → AreFollowed app t cs most after more (drop (at + 1) layer ++ new)
    layer_more outcomes more orders after old new at node found less is h place followed added =
        follow_more most node (drop (at + 1) layer) old new place outcomes more orders after found
        (subst (λ (l : List Node). AreFollowed app t cs most orders outcomes (l ++ old)) (drop_more layer at node less ∙ ap (λ (n : Node). n ∷ drop (at + 1) layer) (sym is)) h)
        followed added

    -- each node of it is one
    pub layer_node : (outcomes : List Outcome) (orders : ℕ) (next : List Node) (at : ℕ) (node : Node) → at < length layer → node ≡ get_or layer at node → AreFollowed app t cs most orders outcomes (drop at layer ++ next) → IsNode app t cs node
    layer_node outcomes orders next at node less is h =
        subst (AreNodes app t cs) (ap (λ (l : List Node). l ++ next) (drop_more layer at node less)) h.nodes_are node (inl (sym is))

    pub layer_next : (outcomes : List Outcome) (orders : ℕ) (next : List Node) (at : ℕ) → AreFollowed app t cs most orders outcomes (drop at layer ++ next) → AreNodes app t cs next
    layer_next outcomes orders next at h n there = h.nodes_are n (in_back n (drop at layer) next there)

  -- the start
  pub follow_start : (most : ℕ) (outcomes : List Outcome) (layer : List Node) (node : Node) → outcomes ≡ [] → layer ≡ node ∷ [] → node.frames ≡ [] → node.key ≡ None → AreFollowed app t cs most 0 outcomes layer
  follow_start most outcomes layer node none one no_frames no_key = subst (AreFollowed app t cs most 0 outcomes) (sym one) (record {
    walks = [];
    tally = tally_start app t cs outcomes none;
    number = refl;
    few = omega arith;
    nodes_are = nodes_are;
    covered = λ w walk. inr (record { node = node; among = inl refl; behind = w; good = subst (λ (l : List ℕ). IsAsGood app cs (started app t) (l ++ w) w) (sym (ap turns_in no_frames)) (good_itself app cs (started app t) w walk) });
  })
    where
      is : IsNode app t cs node
      is = record {
        way = way_none app cs (started app t) node.frames no_frames;
        keyed = subst (IsKeyedIf app t cs (turns_in node.frames)) (sym no_key) tt;
      }

      nodes_are : AreNodes app t cs (node ∷ [])
      nodes_are n (inl same) = subst (IsNode app t cs) same is
      nodes_are n (inr none) = absurd none
