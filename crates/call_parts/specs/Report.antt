-- The report of a generation.
use Rattle.std.specs.Prelude.{ℕ, List, [], ◌∷◌, ◌++◌, codes}
use Rattle.std.specs.Fmt.{decimal}
use Rattle.kdcs_types.specs.declared.act.Act.{Act}
use Rattle.kdcs_types.specs.declared.act.Act.TheVariants.{Emit}
use Rattle.application_types.specs.declared.kdcdef_types.limits.Counts.{Counts}
use Rattle.application_types.specs.Generation.{Generated}

-- APPLINAME
abbrev pub name_line : List ℕ → List ℕ
name_line name = codes "GEN " ++ (name ++ 10 ∷ [])

-- how many statements of each kind there are
abbrev pub counts_line : Counts → List ℕ
counts_line c = codes "USERS " ++ (decimal c.users ++ (codes " PTERMS " ++ (decimal c.pterms ++ (codes " LTERMS " ++ (decimal c.lterms ++ (codes " TACS " ++ (decimal c.tacs ++ (codes " PROGRAMS " ++ (decimal c.programs ++ 10 ∷ [])))))))))

-- what was read and not kept
abbrev pub passed_line : Counts → List ℕ
passed_line c = codes "PASSED STATEMENTS " ++ (decimal c.passed_statements ++ (codes " OPERANDS " ++ (decimal c.passed_operands ++ 10 ∷ [])))

abbrev pub ready_line : List ℕ
ready_line = codes "KDCFILE READY\n"

-- the lines of `gen`, in their order
abbrev pub report : Generated → List Act
report g = Emit (name_line g.limits.appliname) ∷ Emit (counts_line g.counts) ∷ Emit (passed_line g.counts) ∷ Emit ready_line ∷ []
