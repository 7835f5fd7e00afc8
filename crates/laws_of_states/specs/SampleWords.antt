-- How worked rows are written: what a script prints, and which tables it leaves.
use Rattle.std.specs.Prelude.{List, ◌++◌, codes}
use Rattle.kdcs_types.specs.Tables.{TableRows, empty_tables}
use Rattle.abstract_monitor.specs.Bytes.{Bytes}
use Rattle.abstract_monitor.specs.State.{Application}
use Rattle.abstract_monitor.specs.declared.command.Command.{Command}
use Rattle.abstract_monitor.specs.declared.command.Command.TheVariants.{Input}
use Rattle.abstract_monitor.specs.Trace.{trace, tables_after, bytes_of}
use Rattle.abstract_monitor.specs.Listing.{listing}
use Rattle.laws_of_states.specs.Sample.{shop}

-- what a script prints from a start with these tables
abbrev pub prints_from : Application → TableRows → List Command → Bytes
prints_from app t script = bytes_of (trace app t script)

-- the tables that are stored after it
abbrev pub stores_from : Application → TableRows → List Command → TableRows
stores_from app t script = tables_after t (trace app t script)

-- the same of the sample application and a fresh file
abbrev pub prints : List Command → Bytes
prints script = prints_from shop empty_tables script

abbrev pub stores : List Command → TableRows
stores script = stores_from shop empty_tables script

-- what the list of tables shows after it
abbrev pub lists : List Command → Bytes
lists script = listing (stores script)

abbrev pub p1 : Bytes → Command
p1 text = Input (codes "P1") text

abbrev pub p2 : Bytes → Command
p2 text = Input (codes "P2") text

-- user U1 signs on at P1, and user U2 at P2
abbrev pub s1 : Command
s1 = p1 (codes "KDCSIGN U1,PW1")

abbrev pub s2 : Command
s2 = p2 (codes "KDCSIGN U2")

-- the lines of these commands
abbrev pub signed_1 : Bytes
signed_1 = codes "SYS P1 SIGNED ON U1\n"

abbrev pub signed_2 : Bytes
signed_2 = codes "SYS P2 SIGNED ON U2\n"

abbrev pub signed_both : Bytes
signed_both = signed_1 ++ signed_2
