-- Laws: what each step of a script makes of the durable tables: it has at most one commit, which is first and is the difference that the step makes.
use Rattle.std.specs.Prelude.{◌≡◌, refl, ℕ, ◌+◌, cond, List, [], ◌∷◌, ◌++◌}
use Rattle.std.proofs.Common.{ap, ◌∙◌}
use Rattle.std.proofs.lemmas.List.Sums.{sum_by-cons, sum_by-append}
use Rattle.kdcs_types.specs.declared.act.Act.{Act}
use Rattle.kdcs_types.specs.declared.act.Act.TheVariants.{Commit, Emit}
use Rattle.abstract_monitor.specs.State.{Application, State}
use Rattle.abstract_monitor.specs.Turns.{commit_of}
use Rattle.abstract_monitor.specs.Made.{is_commit}
use Rattle.laws_of_states.specs.Cut.{commits_in}
use Rattle.laws_of_states.specs.Steps.{AreLines}
use Rattle.kdcs_types.specs.Tables.{TableRows}
use Rattle.abstract_monitor.specs.Trace.{tables_after}

-- ---- how many commits

-- what one act adds
abbrev of_act : Act → ℕ
of_act act = cond (is_commit act) 1 0

pub commits_of_both : (xs ys : List Act) → commits_in (xs ++ ys) ≡ commits_in xs + commits_in ys
commits_of_both xs ys = sum_by-append of_act xs ys

pub lines_commit_nothing : (acts : List Act) → AreLines acts → commits_in acts ≡ 0
lines_commit_nothing [] h = refl
lines_commit_nothing (Emit line ∷ acts) h = sum_by-cons of_act (Emit line) acts ∙ ap (λ n. 0 + n) (lines_commit_nothing acts h)
lines_commit_nothing (Commit changes ∷ acts) h = absurd h

-- a commit and its lines
pub commit_counts : (app : Application) (s u : State) (lines : List Act) → AreLines lines → commits_in (commit_of app s.tables u.tables ∷ lines) ≡ 1
commit_counts app s u lines h = sum_by-cons of_act (commit_of app s.tables u.tables) lines ∙ ap (λ n. 1 + n) (lines_commit_nothing lines h)

-- lines change no tables
pub lines_after : (t : TableRows) (acts : List Act) → AreLines acts → tables_after t acts ≡ t
unfolding tables_after
lines_after t [] h = refl
lines_after t (Emit bytes ∷ acts) h = lines_after t acts h
lines_after t (Commit changes ∷ acts) h = absurd h
