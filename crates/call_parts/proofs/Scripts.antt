-- How many commands a script has, how many turns each makes at most, and which names they have.
use Rattle.std.proofs.Common.{◌≡◌, ℕ, ◌+◌, ◌≤◌, Bool, true, false, not, List, [], ◌∷◌, length, Result, Ok, Err, refl, sym, ap, subst, ◌∙◌, arith}
use Rattle.std.specs.Prelude.{◌||◌, nat_lt, cond, All}
use Rattle.std.specs.Str.Lines.{lines}
use Rattle.std.proofs.lemmas.Bool.Decides.{nat_tests}
use Rattle.std.proofs.lemmas.List.Elements.{All-cons, All-nil}
use Rattle.std.proofs.lemmas.List.Sums.{sum_by-cons}
use Rattle.kd_base.specs.ToolsLaws.{ok_is}
use Rattle.application_types.specs.Generation.{Generated}
use Rattle.abstract_monitor.specs.CommandsOf.{IsCommandOf}
use Rattle.abstract_monitor.specs.declared.command.Command.{Command}
use Rattle.abstract_monitor.specs.declared.command.Command.TheVariants.{Input, Tick, Run, Turn, Drop, Print, PrintLast, Restart}
use Rattle.script_read.specs.declared.fault.ScriptFault.{ScriptFault}
use Rattle.script_read.specs.Script.{Line, Nothing, Says, IsBad, IsOutOfRange, begins_with_space, is_passed, line_by, line_then, script_from, script_by, command_lines, is_too_long}
use Rattle.script_read.specs.Commands.{begins_with_in, command_by, line_in, script_in}
use Rattle.script_read.specs.Spelling.{IsSpelled, CommandsOnly}
use Rattle.call_parts.specs.Asking.{IsShort}
use Rattle.script_read.proofs.Fitting.{of_spelled}

-- ---- the turns

spelled_short : (g : Generated) (c : Command) (line : List ℕ) → IsSpelled g c line → IsShort c
spelled_short g (Input pterm text) line h = tt
spelled_short g (Tick ticks) line h = tt
spelled_short g (Run turns) line h = h.1.range.1
spelled_short g (Turn task) line h = tt
spelled_short g (Drop pterm) line h = tt
spelled_short g (Print pterm) line h = tt
spelled_short g (PrintLast pterm) line h = tt
spelled_short g Restart line h = tt

-- no more commands than lines, and each is short and of the generation
record AreFew (g : Generated) (commands : List Command) (n : ℕ) : Type 0 where
  count : length commands ≤ n
  short : All IsShort commands
  known : All (IsCommandOf g) commands

module _ (g : Generated) (only : CommandsOnly) where
  -- a line that is passed over says nothing
  line_few : (line : List ℕ) (number n : ℕ) (rest : Result (List Command) ScriptFault) (later : (cs : List Command) → rest ≡ Ok cs → AreFew g cs n) (l : Line Command) → line_in g line ≡ l → (cs : List Command) → line_then number l rest ≡ Ok cs → AreFew g cs (1 + n)
  line_few line number n rest later Nothing at cs e = let few = later cs e in record { count = omega (arith, few.count); short = few.short; known = few.known }
  line_few line number n (Ok ds) later (Says c) at cs e =
      let few = later ds refl in
      subst (λ (l : List Command). AreFew g l (1 + n)) (ok_is ScriptFault (c ∷ ds) cs e) (record { count = omega (arith, few.count); short = All-cons IsShort c ds (spelled_short g c line (only g c line at)) few.short; known = All-cons (IsCommandOf g) c ds (of_spelled g c line (only g c line at)) few.known })
  line_few line number n (Err fault) later (Says c) at cs e = absurd cc
  line_few line number n rest later IsBad at cs e = absurd cc
  line_few line number n rest later IsOutOfRange at cs e = absurd cc

  passed_or : (line : List ℕ) (ls : List (List ℕ)) (b : Bool) → is_passed line ≡ b → command_lines (line ∷ ls) ≡ cond (not b) 1 0 + command_lines ls
  passed_or line ls b is = sum_by-cons (λ (l : List ℕ). cond (not (is_passed l)) 1 0) line ls ∙ ap (λ (c : Bool). cond (not c) 1 0 + command_lines ls) is

  -- a line in front of others
  few_by : (line : List ℕ) (ls : List (List ℕ)) (number : ℕ) (later : (cs : List Command) → script_from (line_in g) (number + 1) ls ≡ Ok cs → AreFew g cs (command_lines ls)) (cs : List Command) → script_from (line_in g) number (line ∷ ls) ≡ Ok cs
      → (b : Bool) → is_passed line ≡ b → AreFew g cs (command_lines (line ∷ ls))
  few_by line ls number later cs e true passed =
      let nothing : line_in g line ≡ Nothing = ap (λ (b : Bool). line_by b (begins_with_space line) (command_by (begins_with_in line) g line)) passed in
      let few = later cs (sym (ap (λ (l : Line Command). line_then number l (script_from (line_in g) (number + 1) ls)) nothing) ∙ e) in
      record { count = omega (arith, few.count, passed_or line ls true passed); short = few.short; known = few.known }
  few_by line ls number later cs e false some =
      let few = line_few line number (command_lines ls) (script_from (line_in g) (number + 1) ls) later (line_in g line) refl cs e in
      record { count = omega (arith, few.count, passed_or line ls false some); short = few.short; known = few.known }

  few_from : (ls : List (List ℕ)) (number : ℕ) (cs : List Command) → script_from (line_in g) number ls ≡ Ok cs → AreFew g cs (command_lines ls)
  few_from [] number cs e = subst (λ (l : List Command). AreFew g l 0) (ok_is ScriptFault [] cs e) (record { count = omega arith; short = All-nil IsShort; known = All-nil (IsCommandOf g) })
  few_from (line ∷ ls) number cs e = few_by line ls number (λ ds f. few_from ls (number + 1) ds f) cs e (is_passed line) refl

  script_few : (text : List ℕ) (cs : List Command) → script_in g text ≡ Ok cs → AreFew g cs (command_lines (lines text)) × (command_lines (lines text) ≤ 1000000)
  script_few text cs e = by (is_too_long text) refl
    where
      either_false : (a b : Bool) → (a || b) ≡ false → b ≡ false
      either_false true b h = absurd cc
      either_false false b h = h

      within : (n : ℕ) → nat_lt 1000000 n ≡ false → n ≤ 1000000
      within n h = grind (arith, nat_tests, h)

      by : (b : Bool) → is_too_long text ≡ b → AreFew g cs (command_lines (lines text)) × (command_lines (lines text) ≤ 1000000)
      by true long = absurd (let no = sym (ap (λ (b : Bool). script_by b (line_in g) text) long) ∙ e in cc)
      by false short = (
        few_from (lines text) 1 cs (sym (ap (λ (b : Bool). script_by b (line_in g) text) short) ∙ e),
        within (command_lines (lines text)) (either_false (nat_lt 16777216 (length text)) (nat_lt 1000000 (command_lines (lines text))) short),
      )

  -- a script has a million commands at most, of a million turns each
  pub script_count : (text : List ℕ) (cs : List Command) → script_in g text ≡ Ok cs → length cs ≤ 1000000
  script_count text cs e = let few = script_few text cs e in omega (arith, few.0.count, few.1)

  pub script_short : (text : List ℕ) (cs : List Command) → script_in g text ≡ Ok cs → All IsShort cs
  script_short text cs e = (script_few text cs e).0.short

  -- its names are those of the generation
  pub script_names : (text : List ℕ) (cs : List Command) → script_in g text ≡ Ok cs → All (IsCommandOf g) cs
  script_names text cs e = (script_few text cs e).0.known
