use Rattle.unit_read.proofs.Answered.{found_stands, read_whole, only_that, fault_found, refused_for}
use Rattle.unit_read.proofs.read.read_units.Goals as goal

pub returns : goal.returns
returns c = record {
  found = found_stands c.args.text.now c.read_text.result c.read_text.ensures;
  whole = read_whole c.args.text.now c.read_text.result (found_stands c.args.text.now c.read_text.result c.read_text.ensures);
  only = only_that c.args.text.now c.read_text.result c.read_text.ensures;
  fault = fault_found c.args.text.now c.read_text.result c.read_text.ensures;
  refused = refused_for c.args.text.now c.read_text.result c.read_text.ensures;
}
