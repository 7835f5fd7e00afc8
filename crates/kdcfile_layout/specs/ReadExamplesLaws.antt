-- Worked rows: a root and slots of a small file, and the page of the GSSB CNT with the value 0002, by computation.
use Rattle.std.specs.Prelude.{refl}
use Rattle.kdcfile_layout.specs.Fields.{number}
use Rattle.kdcfile_layout.specs.Layout.{zeros, chain_head}
use Rattle.kdcfile_layout.specs.Slots.{slot_of}
use Rattle.kdcfile_layout.specs.Reading.{numbers_of}
use Rattle.kdcfile_layout.specs.ReadExamples.{WorkedRows}

pub worked_rows : WorkedRows
unfolding number numbers_of slot_of zeros chain_head
worked_rows = record {
  root_of_small = refl;
  root_with_two_directory_pages = refl;
  two_numbers = refl;
  numbers_too_short = refl;
  slot_of_cnt = refl;
  slot_with_a_last_byte = refl;
  slot_too_short = refl;
  slot_of_no_record = refl;
  slot_of_kind_0 = refl;
  whole_of_cnt = refl;
  part_of_cnt = refl;
  part_with_another_number = refl;
  part_with_a_byte_in_its_head = refl;
}
