-- Laws of frames.
use Rattle.std.proofs.Common.{◌≡◌, ℕ, ◌+◌, ◌<◌, List, [], ◌∷◌, ◌++◌, inl, inr, refl, sym, subst, drop, get_or, length}
use Rattle.std.specs.Prelude.{◌⊎◌, Bool, true, false, ◌||◌, ◌==◌, IsTrue}
use Rattle.std.proofs.lemmas.Bool.{eqb-true}
use Rattle.std.proofs.lemmas.List.{drop_more}
use Rattle.abstract_monitor.specs.declared.command.Command.{Command}
use Rattle.abstract_monitor.specs.State.{Application, State}
use Rattle.lab_walks.specs.declared.frame.Frame.{Frame}
use Rattle.lab_walks.specs.Frames.{IsFrame, IsWay, turns_in}
use Rattle.lab_walks.specs.ListsLaws.{each_more}
use Rattle.lab_walks.specs.Orders.{is_in}
use Rattle.lab_walks.specs.Walks.{stand}

-- it is the first or a later one
pub first_or_later : (t : ℕ) (xs : List ℕ) (at : ℕ) → at < length xs → IsTrue (is_in t (drop at xs)) → (t ≡ get_or xs at 0) ⊎ IsTrue (is_in t (drop (at + 1) xs))
first_or_later t xs at lt h = by (get_or xs at 0 == t) refl (subst (λ (l : List ℕ). IsTrue (is_in t l)) (drop_more xs at 0 lt) h)
  where
    by : (b : Bool) → (get_or xs at 0 == t) ≡ b → IsTrue (b || is_in t (drop (at + 1) xs)) → (t ≡ get_or xs at 0) ⊎ IsTrue (is_in t (drop (at + 1) xs))
    by true e h = inl (sym (eqb-true (get_or xs at 0) t e))
    by false e h = inr h

-- one frame more
pub way_more : (app : Application) (cs : List Command) (s : State) (frames : List Frame) (last : Frame) → IsWay app cs s frames → IsFrame app (stand app cs s (turns_in frames)) last → IsWay app cs s (frames ++ last ∷ [])
way_more app cs s frames last way here = each_more (λ (before : List Frame) (f : Frame). IsFrame app (stand app cs s (turns_in before)) f) frames last way here
