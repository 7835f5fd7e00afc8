-- Worked rows: the slot of the GSSB CNT at page 1, the head of its page, and sizes of a small file, by computation.
use Rattle.std.specs.Prelude.{refl}
use Rattle.kdcfile_layout.specs.Layout.{spelled_slot, chain_head, zeros}
use Rattle.kdcfile_layout.specs.Examples.{WorkedRows}

pub worked_rows : WorkedRows
unfolding spelled_slot zeros chain_head
worked_rows = record {
  slot_at_page_1 = refl;
  head_of_four_bytes = refl;
  one_directory_page = refl;
  pages_of_small = refl;
  first_page = refl;
}
