-- What is gathered of statements, one after another.
use Rattle.std.specs.Prelude.{◌≡◌, ◌<◌, Bool, true, false, List, [], ◌++◌, length, None}
use Rattle.std.specs.List.{All}
use Rattle.application_types.specs.declared.kdcdef_types.statement.Said.{Said}
use Rattle.application_types.specs.declared.kdcdef_types.statement.Said.TheVariants.{Program, Lterm, Kset}
use Rattle.application_types.specs.declared.kdcdef_types.statement.Statement.{Statement}
use Rattle.application_check.specs.declared.kdcdef_check.gathered.Gathered.{Gathered}
use Rattle.application_check.specs.Steps.{IsFirstOf, AmongFirst, OwnFault, AreFilled, AreNamedFilled, AllNamed, IsTallyOf}

-- a statement that others may name: TACs a program, PTERMs an LTERM, users and LTERMs a key set
abbrev pub may_be_named : Said → Bool
may_be_named (Program name) = true
may_be_named (Lterm name entry) = true
may_be_named (Kset name set) = true
may_be_named _ = false

-- the line is behind those of all these statements
abbrev pub IsBehind : List Statement → Statement → Type 0
IsBehind ss s = All (λ (t : Statement). t.line < s.line) ss

-- these statements were gathered: all up to the first with a fault of its own are kept, and of those behind it the names
-- that others may name
pub record WereGathered (g : Gathered) (ss : List Statement) : Type 0 where
  pub later : List Statement
  pub all : ss ≡ g.kept.items ++ later
  pub behind : All (λ (s : Statement). IsBehind g.kept.items s) later
  pub none_later : g.first ≡ None → later ≡ []
  pub first : IsFirstOf (AmongFirst g.kept.items (OwnFault g.kept.items) (length g.kept.items)) g.first
  pub filled : g.first ≡ None → AreFilled g.tables.value g.kept.items
  pub named_filled : AreNamedFilled g.tables.value ss
  pub tally : IsTallyOf g.tally g.kept.items
  pub named : AllNamed g.kept.items

abbrev pub IsGathered : Gathered → Type 0
IsGathered g = (ss : List Statement) × WereGathered g ss

-- what holds of the statements that were gathered
abbrev pub OfGathered : Gathered → (List Statement → Type 0) → Type 0
OfGathered g P = (ss : List Statement) → WereGathered g ss → P ss
