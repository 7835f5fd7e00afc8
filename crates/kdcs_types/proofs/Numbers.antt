-- The changes of rows leave the numbers alone, and do not look at them.
use Rattle.std.specs.Prelude.{◌≡◌, refl, ℕ, List, [], ◌∷◌}
use Rattle.std.proofs.Common.{ap, sym, ◌∙◌}
use Rattle.kdcs_types.specs.declared.key.Key.TheVariants as key
use Rattle.kdcs_types.specs.declared.act.Row.TheVariants as row
use Rattle.kdcs_types.specs.declared.act.Change.{Change}
use Rattle.kdcs_types.specs.declared.act.Change.TheVariants.{Set, Remove}
use Rattle.kdcs_types.specs.declared.row_lists.RowLists.{RowLists}
use Rattle.kdcs_types.specs.Tables.{TableRows, with_change, with_changes, IsSortedTables}
use Rattle.kdcs_types.specs.RowsKept.{tables_in, HasSameRows}

abbrev numbered : ℕ → ℕ → TableRows → TableRows
numbered clock next t = record t { clock = clock; next_job = next }

one : (clock next : ℕ) (t : TableRows) (c : Change) → with_change (numbered clock next t) c ≡ numbered clock next (with_change t c)
one clock next t (Set (row.Gssb n c)) = refl
one clock next t (Set (row.Tls b l c)) = refl
one clock next t (Set (row.Uls b u c)) = refl
one clock next t (Set (row.Service i s)) = refl
one clock next t (Set (row.Job n v)) = refl
one clock next t (Set (row.Shown l v)) = refl
one clock next t (Remove (key.Gssb n)) = refl
one clock next t (Remove (key.Tls b l)) = refl
one clock next t (Remove (key.Uls b l)) = refl
one clock next t (Remove (key.Service i)) = refl
one clock next t (Remove (key.Job n)) = refl
one clock next t (Remove (key.Shown n)) = refl

all : (clock next : ℕ) (t : TableRows) (cs : List Change) → with_changes (numbered clock next t) cs ≡ numbered clock next (with_changes t cs)
all clock next t [] = refl
all clock next t (c ∷ cs) = ap (λ u. with_changes u cs) (one clock next t c) ∙ all clock next (with_change t c) cs

same_tables_in : (l m : RowLists) → HasSameRows l m → tables_in 0 0 l ≡ tables_in 0 0 m
same_tables_in l m h = λ i. record { clock = 0; next_job = 0; gssbs = h.gssbs i; tlss = h.tlss i; ulss = h.ulss i; services = h.services i; jobs = h.jobs i; shown = h.shown i }

-- the tables with new numbers and with the changes made
pub change_made : (clock next : ℕ) (old reserved new : RowLists) (copied items : List Change) → HasSameRows reserved old → copied ≡ items → tables_in 0 0 new ≡ with_changes (tables_in 0 0 reserved) copied
    → tables_in clock next new ≡ with_changes (tables_in clock next old) items
change_made clock next old reserved new copied items rows same made =
    ap (numbered clock next) (made ∙ ap (with_changes (tables_in 0 0 reserved)) same ∙ ap (λ t. with_changes t items) (same_tables_in reserved old rows))
    ∙ sym (all clock next (tables_in 0 0 old) items)

pub renumbered : (a b clock next : ℕ) (l : RowLists) → IsSortedTables (tables_in a b l) → IsSortedTables (tables_in clock next l)
renumbered a b clock next l h = record { gssbs = h.gssbs; tlss = h.tlss; ulss = h.ulss; services = h.services; jobs = h.jobs; shown = h.shown; tlss_filled = h.tlss_filled; ulss_filled = h.ulss_filled; services_fit = h.services_fit }
