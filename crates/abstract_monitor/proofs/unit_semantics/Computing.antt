-- One name to unfold where a proof computes with statements.
use Rattle.kd_base.specs.Text.{trim_end}
use Rattle.abstract_monitor.specs.Contents.{trim_start, fitted, overlaid, number_of, in_digits, number_in, compared}
use Rattle.abstract_monitor.specs.Fields.{value_of, stored}
use Rattle.abstract_monitor.specs.Statement.{done_by, step, answered}

unfoldable pub statements : Unit {0}
unfolding trim_end trim_start fitted overlaid number_of in_digits number_in compared value_of stored done_by step answered
statements = tt
