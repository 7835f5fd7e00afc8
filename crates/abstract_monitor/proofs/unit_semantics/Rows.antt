-- The worked rows hold, by computation.
use Rattle.std.specs.Prelude.{refl}
use Rattle.abstract_monitor.specs.Rows.{Moves, Numbers, Comparisons, CallsAndEnds}
use Rattle.abstract_monitor.proofs.unit_semantics.Computing.{statements}

pub moves : Moves
unfolding statements
moves = record { overlapping = refl; fills = refl; cuts = refl; last_code = refl; last_length = refl; joins_what_it_read = refl; joins_trimmed = refl }

pub numbers : Numbers
unfolding statements
numbers = record { adds_itself = refl; cut_quotient = refl; spaces_are_zero = refl; by_zero = refl; below_zero = refl; too_long = refl; no_number = refl; most_digits = refl; a_digit_more = refl; a_space_within = refl; longest_result = refl; result_of_19_digits = refl }

pub comparisons : Comparisons
unfolding statements
comparisons = record { shorter_is_filled = refl; filled_before_compared = refl; nothing_is_spaces = refl; jumps_where_true = refl; goes_on_where_false = refl }

pub calls_and_ends : CallsAndEnds
unfolding statements
calls_and_ends = record { asks_with_its_bytes = refl; asks_with_its_capacity = refl; last_of_its_time = refl; time_is_spent = refl; behind_the_last = refl; takes_the_answer = refl }
