-- What a typed line asks for.
use Rattle.std.specs.Prelude.{ℕ, Bool, true, false, List, [], ◌∷◌, ◌++◌, length, nat_lt, take, drop, codes, Option, Some, None}
use Rattle.kd_base.specs.Limits.{longest_text}
use Rattle.script_read.specs.Script.{same}
use Rattle.typed_lines.specs.declared.typed.Question.{Question}
use Rattle.typed_lines.specs.declared.typed.Question.TheVariants.{Show, Locks, Tasks, Jobs, Counts, Echo}
use Rattle.typed_lines.specs.declared.typed.Switch.{Switch}
use Rattle.typed_lines.specs.declared.typed.Switch.TheVariants.{Auto, Trace}
use Rattle.typed_lines.specs.declared.typed.Typed.{Typed}
use Rattle.typed_lines.specs.declared.typed.Typed.TheVariants as asks

abbrev pub begins_with_echo : List ℕ → Bool
begins_with_echo line = same (take 5 line) (codes "ECHO ")

abbrev pub question_with : (show locks tasks jobs counts echo : Bool) → Option Question
question_with true locks tasks jobs counts echo = Some Show
question_with false true tasks jobs counts echo = Some Locks
question_with false false true jobs counts echo = Some Tasks
question_with false false false true counts echo = Some Jobs
question_with false false false false true echo = Some Counts
question_with false false false false false true = Some Echo
question_with false false false false false false = None

-- the question that a line is
abbrev pub question_of : List ℕ → Option Question
question_of line = question_with (same line (codes "SHOW")) (same line (codes "LOCKS")) (same line (codes "TASKS")) (same line (codes "JOBS")) (same line (codes "COUNTS")) (begins_with_echo line)

abbrev pub switch_with : (auto manual trace quiet : Bool) → Option Switch
switch_with true manual trace quiet = Some (Auto true)
switch_with false true trace quiet = Some (Auto false)
switch_with false false true quiet = Some (Trace true)
switch_with false false false true = Some (Trace false)
switch_with false false false false = None

-- the switch that a line sets
abbrev pub switch_of : List ℕ → Option Switch
switch_of line = switch_with (same line (codes "AUTO")) (same line (codes "MANUAL")) (same line (codes "TRACE")) (same line (codes "QUIET"))

abbrev pub typed_by : Option Question → Option Switch → Typed
typed_by (Some question) switch = asks.Question question
typed_by None (Some switch) = asks.Switch switch
typed_by None None = asks.Script

abbrev pub typed_with : (long : Bool) → List ℕ → Typed
typed_with true line = asks.Script
typed_with false line = typed_by (question_of line) (switch_of line)

-- a question, a switch, or else a line of a script, which refuses one that is longer than a text may be
abbrev pub typed_of : List ℕ → Typed
typed_of line = typed_with (nat_lt longest_text (length line)) line

-- the text behind `ECHO` and its space, as a line
abbrev pub echo_line : List ℕ → List ℕ
echo_line line = drop 5 line ++ 10 ∷ []
