-- The report of an update.
use Rattle.std.specs.Prelude.{ℕ, Bool, true, false, List, [], ◌∷◌, ◌++◌, codes, nat_eq}
use Rattle.std.specs.Cmp.Lexicographic.{pointwise}
use Rattle.std.specs.Fmt.{decimal}
use Rattle.kdcs_types.specs.declared.act.Act.{Act}
use Rattle.kdcs_types.specs.declared.act.Act.TheVariants.{Emit}
use Rattle.kdcs_types.specs.Tables.{TableRows}
use Rattle.application_types.specs.Generation.{Generated}
use Rattle.kd_update.specs.Carrying.{carried, dropped}
use Rattle.kd_update.specs.declared.carrying.Dropped.{Dropped}

-- APPLINAME
abbrev pub update_line : List ℕ → List ℕ
update_line name = codes "UPDATE " ++ (name ++ 10 ∷ [])

-- how many rows of each kind went
abbrev pub dropped_line : Dropped → List ℕ
dropped_line d =
    codes "DROPPED TLS " ++ (decimal d.tlss ++ (codes " ULS " ++ (decimal d.ulss ++ (codes " SERVICES " ++ (decimal d.services ++ (codes " JOBS " ++ (decimal d.jobs ++ (codes " SHOWN " ++ (decimal d.shown ++ (codes " GSSBS " ++ (decimal d.gssbs ++ 10 ∷ [])))))))))))

abbrev pub ready_line : List ℕ
ready_line = codes "KDCFILE READY\n"

abbrev pub up_to_date_line : List ℕ
up_to_date_line = codes "KDCFILE UP TO DATE\n"

-- the fingerprints are the same
abbrev pub is_same_print : (a b : List ℕ) → Bool
is_same_print a b = pointwise nat_eq a b

-- the lines where the file is of these texts already, and where its tables are carried
abbrev pub report_by : (same : Bool) → Generated → (old : TableRows) → List Act
report_by true g old = Emit up_to_date_line ∷ []
report_by false g old = Emit (update_line g.limits.appliname) ∷ Emit (dropped_line (dropped old (carried g old))) ∷ Emit ready_line ∷ []
