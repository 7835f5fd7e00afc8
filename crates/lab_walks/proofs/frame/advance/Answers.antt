use Rattle.std.proofs.Common.{List, ◌+◌, ◌<◌, length, refl, arith, sym, subst}
use Rattle.lab_walks.specs.declared.frame.Frame.{Frame}
use Rattle.lab_walks.specs.Frames.{IsAhead, IsLeft}
use Rattle.lab_walks.specs.Frames.{IsWay}
use Rattle.lab_walks.proofs.Advancing.{left_less, left_longer, left_next, next_left, way_less, way_next}
use Rattle.lab_walks.proofs.frame.advance.Goals as goal

pub returns-then-frame-saturating_sub : goal.returns-then-frame-saturating_sub
returns-then-frame-saturating_sub c =
    let old = c.in-Some.frame in
    let new : Frame = record { choices = c.in-Some.frame.choices; at = c.in-Some.frame.at + 1; idle = c.in-Some.frame.idle } in
    let lt : c.in-Some.frame.at + 1 < length c.in-Some.frame.choices = omega (arith, c.if-frame-saturating_sub.true, c.saturating_sub.ensures, c.len.ensures) in
    record {
      left = λ w h. subst (λ (l : List Frame). IsAhead l w) (sym c.in_ok-push.ensures.items) (left_next c.pop.new.self.items old new (refl, refl, refl) lt w (subst (λ (l : List Frame). IsLeft l w) c.in-Some.ensures.items (c.loop-frame.invariant.left w h)));
      only = λ w h. c.loop-frame.invariant.only w (subst (λ (l : List Frame). IsLeft l w) (sym c.in-Some.ensures.items) (next_left c.pop.new.self.items old new (refl, refl, refl) lt w (subst (λ (l : List Frame). IsAhead l w) c.in_ok-push.ensures.items h)));
      way = λ app cs s h. subst (IsWay app cs s) (sym c.in_ok-push.ensures.items) (way_next app cs s c.pop.new.self.items old new (refl, refl, refl) lt (subst (IsWay app cs s) c.in-Some.ensures.items (c.loop-frame.invariant.way app cs s h)));
    }

pub loop-frame-preserved : goal.loop-frame-preserved
loop-frame-preserved c = record {
  left = λ w h. left_less c.pop.new.self.items c.in-Some.frame (omega arith) w (subst (λ (l : List Frame). IsLeft l w) c.in-Some.ensures.items (c.loop-frame.invariant.left w h));
  only = λ w h. c.loop-frame.invariant.only w (subst (λ (l : List Frame). IsLeft l w) (sym c.in-Some.ensures.items) (left_longer c.pop.new.self.items c.in-Some.frame w h));
  way = λ app cs s h. way_less app cs s c.pop.new.self.items c.in-Some.frame (subst (IsWay app cs s) c.in-Some.ensures.items (c.loop-frame.invariant.way app cs s h));
}
