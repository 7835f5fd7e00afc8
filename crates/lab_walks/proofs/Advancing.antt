-- The next choice, and what is ahead then.
use Rattle.std.proofs.Common.{◌≡◌, ℕ, ◌+◌, ◌<◌, ◌≤◌, List, [], ◌∷◌, ◌++◌, inl, inr, refl, sym, ap, subst, ◌∙◌, append_assoc, arith, get_or, drop, length}
use Rattle.std.specs.Prelude.{◌⊎◌, Bool, true, false, ◌||◌, ◌==◌, IsTrue, All}
use Rattle.std.proofs.lemmas.Bool.{eq-eqb, true≢false}
use Rattle.std.proofs.lemmas.List.{drop_all, drop_more}
use Rattle.abstract_monitor.specs.declared.command.Command.{Command}
use Rattle.abstract_monitor.specs.State.{Application, State}
use Rattle.lab_walks.specs.declared.frame.Frame.{Frame}
use Rattle.lab_walks.specs.Frames.{IsAhead, IsFrame, IsLeft, IsWay, others, turn_in, turns_in}
use Rattle.lab_walks.specs.FramesLaws.{first_or_later, way_more}
use Rattle.lab_walks.specs.Lists.{AreOnce}
use Rattle.lab_walks.specs.Orders.{is_in}
use Rattle.lab_walks.specs.Walks.{AtEnd, CanBe, InRun, Spot, stand}

-- the first or a later one
pub from_here : (t : ℕ) (xs : List ℕ) (at : ℕ) → at < length xs → (t ≡ get_or xs at 0) ⊎ IsTrue (is_in t (drop (at + 1) xs)) → IsTrue (is_in t (drop at xs))
from_here t xs at lt h = subst (λ (l : List ℕ). IsTrue (is_in t l)) (sym (drop_more xs at 0 lt)) (by (get_or xs at 0 == t) refl h)
  where
    by : (b : Bool) → (get_or xs at 0 == t) ≡ b → (t ≡ get_or xs at 0) ⊎ IsTrue (is_in t (drop (at + 1) xs)) → IsTrue (b || is_in t (drop (at + 1) xs))
    by true e h = refl
    by false e (inl same) = absurd (true≢false (sym (eq-eqb (get_or xs at 0) t (sym same)) ∙ e))
    by false e (inr later) = later

module _ (app : Application) (cs : List Command) (s : State) where
  pub way_less : (frames : List Frame) (last : Frame) → IsWay app cs s (frames ++ last ∷ []) → IsWay app cs s frames
  way_less frames last way before f behind e = way before f (behind ++ last ∷ []) (ap (λ (l : List Frame). l ++ last ∷ []) e ∙ append_assoc before (f ∷ behind) (last ∷ []))

  pub way_last : (frames : List Frame) (last : Frame) → IsWay app cs s (frames ++ last ∷ []) → IsFrame app (stand app cs s (turns_in frames)) last
  way_last frames last way = way frames last [] refl

-- ---- the next choice

-- the frame with its next choice
abbrev pub NextFrame : Frame → Frame → Type 0
NextFrame old new = (new.choices ≡ old.choices) × (new.at ≡ old.at + 1) × (new.idle ≡ old.idle)

pub left_next : (frames : List Frame) (old new : Frame) → NextFrame old new → old.at + 1 < length old.choices → (w : List ℕ) → IsLeft (frames ++ old ∷ []) w → IsAhead (frames ++ new ∷ []) w
left_next [] old new is lt [] h = absurd h
left_next [] old new is lt (t ∷ w) (inl both) = absurd both.1
left_next [] old new is lt (t ∷ w) (inr other) =
    elim (first_or_later t old.choices (old.at + 1) lt other) [
      | inl same ↦ inl (same ∙ (λ i. get_or (sym is.0 i) (sym is.1 i) 0), tt)
      | inr later ↦ inr (subst (λ (l : List ℕ). IsTrue (is_in t l)) (λ i. drop (sym is.1 i + 1) (sym is.0 i)) later)
    ]
left_next (f ∷ frames) old new is lt [] h = absurd h
left_next (f ∷ frames) old new is lt (t ∷ w) (inl both) = inl (both.0, left_next frames old new is lt w both.1)
left_next (f ∷ frames) old new is lt (t ∷ w) (inr other) = inr other

pub next_left : (frames : List Frame) (old new : Frame) → NextFrame old new → old.at + 1 < length old.choices → (w : List ℕ) → IsAhead (frames ++ new ∷ []) w → IsLeft (frames ++ old ∷ []) w
next_left [] old new is lt [] h = absurd h
next_left [] old new is lt (t ∷ w) h = inr (from_here t old.choices (old.at + 1) lt (by h))
  where
    by : ((t ≡ turn_in new) × IsAhead [] w) ⊎ IsTrue (is_in t (others new)) → (t ≡ get_or old.choices (old.at + 1) 0) ⊎ IsTrue (is_in t (drop (old.at + 1 + 1) old.choices))
    by (inl both) = inl (both.0 ∙ (λ i. get_or (is.0 i) (is.1 i) 0))
    by (inr other) = inr (subst (λ (l : List ℕ). IsTrue (is_in t l)) (λ i. drop (is.1 i + 1) (is.0 i)) other)
next_left (f ∷ frames) old new is lt [] h = absurd h
next_left (f ∷ frames) old new is lt (t ∷ w) (inl both) = inl (both.0, next_left frames old new is lt w both.1)
next_left (f ∷ frames) old new is lt (t ∷ w) (inr other) = inr other

pub left_longer : (frames : List Frame) (last : Frame) (w : List ℕ) → IsLeft frames w → IsLeft (frames ++ last ∷ []) w
left_longer [] last w h = absurd h
left_longer (f ∷ frames) last [] h = absurd h
left_longer (f ∷ frames) last (t ∷ w) (inl both) = inl (both.0, left_longer frames last w both.1)
left_longer (f ∷ frames) last (t ∷ w) (inr other) = inr other

-- the last frame has no other choice
pub left_less : (frames : List Frame) (last : Frame) → length last.choices ≤ last.at + 1 → (w : List ℕ) → IsLeft (frames ++ last ∷ []) w → IsLeft frames w
left_less [] last over [] h = absurd h
left_less [] last over (t ∷ w) (inl both) = absurd both.1
left_less [] last over (t ∷ w) (inr other) = absurd (true≢false (sym (subst (λ (l : List ℕ). IsTrue (is_in t l)) (drop_all (last.at + 1) last.choices over) other)))
left_less (f ∷ frames) last over [] h = absurd h
left_less (f ∷ frames) last over (t ∷ w) (inl both) = inl (both.0, left_less frames last over w both.1)
left_less (f ∷ frames) last over (t ∷ w) (inr other) = inr other

next_frame : (app : Application) (p : Spot) (old new : Frame) → NextFrame old new → old.at + 1 < length old.choices → IsFrame app p old → IsFrame app p new
next_frame app (AtEnd u) old new is lt h = absurd h
next_frame app (InRun left room u) old new is lt h = record {
  idle = is.2 ∙ h.idle;
  can = subst (All (CanBe app (InRun left room u))) (sym is.0) h.can;
  whole = λ t can. subst (λ (l : List ℕ). IsTrue (is_in t l)) (sym is.0) (h.whole t can);
  once = subst AreOnce (sym is.0) h.once;
  at = subst (λ (l : List ℕ). new.at < length l) (sym is.0) (omega (arith, is.1, lt));
}

pub way_next : (app : Application) (cs : List Command) (s : State) (frames : List Frame) (old new : Frame) → NextFrame old new → old.at + 1 < length old.choices → IsWay app cs s (frames ++ old ∷ []) → IsWay app cs s (frames ++ new ∷ [])
way_next app cs s frames old new is lt way = way_more app cs s frames new (way_less app cs s frames old way) (next_frame app (stand app cs s (turns_in frames)) old new is lt (way_last app cs s frames old way))
