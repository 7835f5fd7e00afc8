-- Lists of steps and acts, one after another.
use Rattle.std.specs.Prelude.{◌≡◌, refl, List, [], ◌∷◌, ◌++◌}
use Rattle.kdcs_types.specs.declared.act.Act.{Act}
use Rattle.kdcs_types.specs.declared.act.Act.TheVariants.{Commit, Emit}
use Rattle.kdcs_types.specs.Tables.{TableRows, changed}
use Rattle.abstract_monitor.specs.State.{State}
use Rattle.abstract_monitor.specs.Commands.{ScriptStep, state_after}
use Rattle.abstract_monitor.specs.Trace.{tables_after}

pub after_both : (s : State) (xs ys : List ScriptStep) → state_after s (xs ++ ys) ≡ state_after (state_after s xs) ys
unfolding state_after
after_both s [] ys = refl
after_both s (d ∷ ds) ys = after_both d.after ds ys

pub tables_both : (t : TableRows) (xs ys : List Act) → tables_after t (xs ++ ys) ≡ tables_after (tables_after t xs) ys
unfolding tables_after
tables_both t [] ys = refl
tables_both t (Commit c ∷ xs) ys = tables_both (changed t c) xs ys
tables_both t (Emit bytes ∷ xs) ys = tables_both t xs ys
