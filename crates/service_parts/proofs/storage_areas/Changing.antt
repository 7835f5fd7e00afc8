-- The changes of a transaction's writes are in the order of their keys, may be made, and make what the writes make.
use Rattle.std.specs.Prelude.{◌≡◌, refl, IsTrue, List, [], ◌∷◌, ◌++◌, Option}
use Rattle.std.proofs.Common.{ap, append-nil, sym, ◌∙◌}
use Rattle.std.specs.Ordering.{is_lt}
use Rattle.std.specs.FinMap.{is_sorted}
use Rattle.std.specs.FinMap.Entries.{below_all}
use Rattle.std.specs.List.{list_all}
use Rattle.kd_base.specs.ToolsLaws.{both_true, true_both}
use Rattle.kdcs_types.specs.declared.act.Change.{Change}
use Rattle.kdcs_types.specs.declared.key.Area.{Area}
use Rattle.kdcs_types.specs.declared.key.Key.{Key}
use Rattle.kdcs_types.specs.Keyed.{keyed}
use Rattle.kdcs_types.specs.Keys.{area_cmp, area_key, key_cmp}
use Rattle.kdcs_types.specs.Tables.{TableRows, AreChanges, change_fits, change_key, with_change, with_changes}
use Rattle.abstract_monitor.specs.Bytes.{Bytes}
use Rattle.abstract_monitor.specs.AreaLaws.{area_changes}
use Rattle.abstract_monitor.specs.Endings.{area_change, with_areas}
use Rattle.service_parts.specs.Areas.{changes_of}

abbrev pub Written : Type 0
Written = List (Area × Option Bytes)

below : (area : Area) (key : Key) (ws : Written) → key ≡ area_key area → IsTrue (below_all area_cmp area ws) → IsTrue (below_all key_cmp key (keyed change_key (changes_of ws)))
below area key [] e h = refl
below area key (w ∷ ws) e h =
    let parts = both_true (is_lt (area_cmp area w.0)) (below_all area_cmp area ws) h in
    true_both _ _ ((λ i. is_lt (key_cmp (e i) ((area_changes w.0 w.1).key i))) ∙ parts.0) (below area key ws e parts.1)

ascending : (ws : Written) → IsTrue (is_sorted area_cmp ws) → IsTrue (is_sorted key_cmp (keyed change_key (changes_of ws)))
ascending [] up = refl
ascending (w ∷ ws) up =
    let parts = both_true (below_all area_cmp w.0 ws) (is_sorted area_cmp ws) up in
    true_both _ _ (below w.0 _ ws (area_changes w.0 w.1).key parts.0) (ascending ws parts.1)

fit : (ws : Written) → IsTrue (list_all change_fits (changes_of ws))
fit [] = refl
fit (w ∷ ws) = true_both _ _ (area_changes w.0 w.1).fits (fit ws)

pub are_changes : (ws : Written) → IsTrue (is_sorted area_cmp ws) → AreChanges (changes_of ws)
are_changes ws up = record { ascending = ascending ws up; fit = fit ws }

pub makes_the_writes : (ws : Written) (t : TableRows) → with_changes t (changes_of ws) ≡ with_areas t ws
unfolding with_areas
makes_the_writes [] t = refl
makes_the_writes (w ∷ ws) t = makes_the_writes ws (with_change t (area_change w.0 w.1))

-- where none is left to make
pub all_made : (changes : List Change) (left written : Written) → changes ++ changes_of left ≡ changes_of written → left ≡ [] → changes ≡ changes_of written
all_made changes left written whole none = sym (append-nil changes) ∙ ap (λ (l : Written). changes ++ changes_of l) (sym none) ∙ whole
