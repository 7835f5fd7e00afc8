use Rattle.texts.proofs.kdcdef_lex.Faults.{found_stands, only_that, fault_found, refused_for}
use Rattle.texts.proofs.kdcdef_lex.Bounds.{found_within}
use Rattle.texts.proofs.kdcdef_lex.read.lines.Goals as goal

pub returns : goal.returns
returns c = record {
  found = found_stands c.args.text.now c.read_text.result c.read_text.ensures;
  only = only_that c.args.text.now c.read_text.result c.read_text.ensures;
  fault = fault_found c.args.text.now c.read_text.result c.read_text.ensures;
  refused = refused_for c.args.text.now c.read_text.result c.read_text.ensures;
  bounds = found_within c.args.text.now c.read_text.result (found_stands c.args.text.now c.read_text.result c.read_text.ensures);
}
