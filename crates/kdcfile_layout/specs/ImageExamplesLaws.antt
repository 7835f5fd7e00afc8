-- Worked rows: a fresh file with BLKSIZE=2K and PGPOOL=16, by computation.
use Rattle.std.specs.Prelude.{refl}
use Rattle.kdcfile_layout.specs.Fresh.{numbers}
use Rattle.kdcfile_layout.specs.ImageExamples.{WorkedRows}

pub worked_rows : WorkedRows
unfolding numbers
worked_rows = record {
  one_directory_page = refl;
  most_directory_pages = refl;
  bytes_of_small = refl;
  head_of_small = refl;
  directory_of_small = refl;
  slots_of_small = refl;
  root_of_small = refl;
}
