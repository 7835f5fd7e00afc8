use Rattle.std.proofs.Common.{◌≡◌, ℕ, ◌+◌, List, [], ◌∷◌, ◌++◌, Result, Some, None, Ok, Err, refl, sym, ap, ◌∙◌, append_assoc, arith}
use Rattle.std.specs.Str.Lines.{lines}
use Rattle.script_read.specs.declared.fault.ScriptFault.{ScriptFault}
use Rattle.script_read.specs.Script.{Line, Nothing, Says, IsBad, IsOutOfRange, line_then, script_from}
use Rattle.script_read.specs.Reading.{line_result, onto}
use Rattle.script_read.proofs.reading.commands_of.Goals as goal
use Rattle.script_read.proofs.reading.commands_of.Goals.{in-Some+in_ok-push, in_default}

-- a line that has no command, and one that has this
nothing_more : {C : Type 0} (front : List C) (n : ℕ) (l : Line C) (rest : Result (List C) ScriptFault) → line_result n l ≡ Ok None → onto front (line_then n l rest) ≡ onto front rest
nothing_more front n Nothing rest h = refl
nothing_more front n (Says d) rest h = absurd cc
nothing_more front n IsBad rest h = absurd cc
nothing_more front n IsOutOfRange rest h = absurd cc

one_more : {C : Type 0} (front : List C) (n : ℕ) (l : Line C) (rest : Result (List C) ScriptFault) (command : C) → line_result n l ≡ Ok (Some command)
    → onto front (line_then n l rest) ≡ onto (front ++ command ∷ []) rest
one_more front n Nothing rest command h = absurd cc
one_more front n (Says d) (Ok commands) command h = let e : d ≡ command = cc in rw (e, append_assoc) refl
one_more front n (Says d) (Err fault) command h = refl
one_more front n IsBad rest command h = absurd cc
one_more front n IsOutOfRange rest command h = absurd cc

pub loop-rest-preserved : goal.loop-rest-preserved
loop-rest-preserved g c =
    let reads = g.R.LineReader.line_of c.args.reader.now in
    let tail = script_from reads (c.loop-rest.number + 1) (lines c.next_line.result.1.now) in
    let here = sym (ap (λ (ls : List (List ℕ)). onto c.loop-rest.commands (script_from reads c.loop-rest.number ls)) c.next_line.ensures.lines) ∙ c.loop-rest.invariant.so_far in
    record {
      so_far = elim c.match-branch-2.branch [
        | in-Some+in_ok-push w ↦
            ap (λ (commands : List g.row.R-Command.Denot). onto commands tail) (w.commands-is ∙ w.in_ok-push.ensures.ok)
            ∙ sym (one_more c.loop-rest.commands c.loop-rest.number (reads c.next_line.result.0.now) tail w.in-Some.command (rw w.in-Some.is at c.in_ok-command.ensures)) ∙ here
        | in_default w ↦
            ap (λ (commands : List g.row.R-Command.Denot). onto commands tail) w.commands-is
            ∙ sym (nothing_more c.loop-rest.commands c.loop-rest.number (reads c.next_line.result.0.now) tail (rw w.in_default.is at c.in_ok-command.ensures)) ∙ here
      ];
      bounded = omega (arith, c.next_line.ensures.shorter, c.loop-rest.invariant.bounded);
    }
