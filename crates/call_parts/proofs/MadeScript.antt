-- The made script is read as its commands, line by line.
use Rattle.std.proofs.Common.{◌≡◌, ℕ, zero, suc, ◌+◌, ◌-◌, ◌*◌, ◌≤◌, ◌<◌, Bool, true, false, not, eqb, List, [], ◌∷◌, ◌++◌, length, Ok, refl, ap, inl, ◌∙◌, arith, append_assoc, length-append}
use Rattle.std.specs.Prelude.{◌%◌, ◌==◌, ◌||◌, nat_lt, cond, flat_map, codes, decimal, slice_index, Option, is_some}
use Rattle.std.specs.Fmt.{digits}
use Rattle.std.specs.List.{list_all, slice_split, AllByRecursion as Each}
use Rattle.std.specs.Str.Lines.{lines, lines_of_parts, strip_carriage_return}
use Rattle.std.proofs.lemmas.Bool.Decides.{nat_tests}
use Rattle.std.proofs.lemmas.List.Elements.{All-cons, All-nil, All-from_recursion}
use Rattle.std.proofs.lemmas.List.Splits.{slice_split_at, length-slice_split}
use Rattle.std.proofs.lemmas.List.Sums.{sum_by-cons}
use Rattle.std.specs.List.{All}
use Rattle.kd_base.specs.ToolsLaws.{both_true}
use Rattle.application_types.specs.declared.kdcdef_types.entry.PtermEntry.{PtermEntry}
use Rattle.application_types.specs.Statements.{IsWithin}
use Rattle.abstract_monitor.specs.Bytes.{Bytes}
use Rattle.abstract_monitor.specs.CommandsOf.{IsCommandOf}
use Rattle.abstract_monitor.specs.Lines.{line}
use Rattle.abstract_monitor.specs.Made.{numbered_name, for_four, made_lterm, made_pterm, made_generation, sign_on_command, when, made_round, made_rounds, made_script}
use Rattle.abstract_monitor.specs.declared.command.Command.{Command}
use Rattle.abstract_monitor.specs.declared.command.Command.TheVariants.{Input, Run, Tick}
use Rattle.script_read.specs.Script.{Line, Says, is_passed, command_lines, is_too_long, line_then, script_by, script_from}
use Rattle.script_read.specs.Commands.{is_text_byte, line_in, script_in}
use Rattle.script_read.specs.Spelling.{IsPterm, CommandsAreSaid}
use Rattle.call_parts.specs.MadeTexts.{command_line, script_text}

-- ---- a line and LF in front of a text

no_mark : (b : ℕ) → is_text_byte b ≡ true → (eqb b 10 ≡ false) × (eqb b 13 ≡ false)
no_mark b h = (grind (arith, nat_tests, h), grind (arith, nat_tests, h))

no_lf : (text : Bytes) → list_all is_text_byte text ≡ true → All (λ b. eqb b 10 ≡ false) text
no_lf [] h = All-nil (λ b. eqb b 10 ≡ false)
no_lf (b ∷ text) h = let a = both_true (is_text_byte b) (list_all is_text_byte text) h in All-cons (λ b. eqb b 10 ≡ false) b text (no_mark b a.0).0 (no_lf text a.1)

at_text : (text : Bytes) (i : ℕ) → list_all is_text_byte text ≡ true → eqb (slice_index text i) 13 ≡ false
at_text [] i h = refl
at_text (b ∷ text) zero h = (no_mark b (both_true (is_text_byte b) (list_all is_text_byte text) h).0).1
at_text (b ∷ text) (suc i) h = at_text text i (both_true (is_text_byte b) (list_all is_text_byte text) h).1

unstripped : (text : Bytes) → list_all is_text_byte text ≡ true → strip_carriage_return text ≡ text
unstripped text h = rw (at_text text (length text - 1) h) refl

parts_then : (x : Bytes) (parts : List Bytes) → 1 ≤ length parts → lines_of_parts (x ∷ parts) ≡ strip_carriage_return x ∷ lines_of_parts parts
parts_then x [] some = absurd (omega (arith, some))
parts_then x (y ∷ parts) some = refl

first_line : (text rest : Bytes) → list_all is_text_byte text ≡ true → lines (line text ++ rest) ≡ text ∷ lines rest
first_line text rest h =
    ap lines (append_assoc text (10 ∷ []) rest)
    ∙ ap lines_of_parts (slice_split_at (λ b. eqb b 10) text 10 rest (no_lf text h) refl)
    ∙ parts_then text (slice_split (λ b. eqb b 10) rest) (omega (arith, length-slice_split (λ b. eqb b 10) rest))
    ∙ ap (λ (l : Bytes). l ∷ lines rest) (unstripped text h)

-- ---- lines that say commands

-- a command is written as one short line of printable bytes, which says it
record IsSaid (c : Command) : Type 0 where
  text : Bytes
  written : command_line c ≡ line text
  printable : list_all is_text_byte text ≡ true
  short : length text ≤ 29
  says : line_in made_generation text ≡ Says c
  known : IsCommandOf made_generation c

-- the lines of commands that are said so
first_of_more : (c : Command) (cs : List Command) (said : IsSaid c) → lines (flat_map command_line (c ∷ cs)) ≡ said.text ∷ lines (flat_map command_line cs)
first_of_more c cs said = ap (λ (l : Bytes). lines (l ++ flat_map command_line cs)) said.written ∙ first_line said.text (flat_map command_line cs) said.printable

read_from : (cs : List Command) (number : ℕ) → Each IsSaid cs → script_from (line_in made_generation) number (lines (flat_map command_line cs)) ≡ Ok cs
read_from [] number all = refl
read_from (c ∷ cs) number all =
    ap (script_from (line_in made_generation) number) (first_of_more c cs all.0)
    ∙ ap (λ (l : Line Command). line_then number l (script_from (line_in made_generation) (number + 1) (lines (flat_map command_line cs)))) all.0.says
    ∙ ap (line_then number (Says c)) (read_from cs (number + 1) all.1)

few_lines : (cs : List Command) → Each IsSaid cs → command_lines (lines (flat_map command_line cs)) ≤ length cs
few_lines [] all = omega arith
few_lines (c ∷ cs) all =
    let first = ap command_lines (first_of_more c cs all.0) ∙ sum_by-cons (λ (l : Bytes). cond (not (is_passed l)) 1 0) all.0.text (lines (flat_map command_line cs)) in
    omega (arith, first, at_most_one (not (is_passed all.0.text)), few_lines cs all.1)
  where
    at_most_one : (b : Bool) → cond b 1 0 ≤ 1
    at_most_one true = omega arith
    at_most_one false = omega arith

few_bytes : (cs : List Command) → Each IsSaid cs → length (flat_map command_line cs) ≤ 30 * length cs
few_bytes [] all = omega arith
few_bytes (c ∷ cs) all =
    omega (arith, length-append (command_line c) (flat_map command_line cs), ap length all.0.written, length-append all.0.text (10 ∷ []), all.0.short, few_bytes cs all.1)

-- ---- the commands of the made script

abbrev IsTerminal : ℕ → Type 0
IsTerminal k = IsPterm made_generation false (numbered_name (codes "P") k)

terminal : (k : ℕ) → k < 4 → IsTerminal (k + 1)
unfolding digits
terminal zero few = record { terminal = (made_pterm 1).1; lterm = (made_lterm 1).1; is_name = (omega arith, omega arith, refl); is_pterm = refl; is_lterm = refl; usage = refl }
terminal (suc zero) few = record { terminal = (made_pterm 2).1; lterm = (made_lterm 2).1; is_name = (omega arith, omega arith, refl); is_pterm = refl; is_lterm = refl; usage = refl }
terminal (suc (suc zero)) few = record { terminal = (made_pterm 3).1; lterm = (made_lterm 3).1; is_name = (omega arith, omega arith, refl); is_pterm = refl; is_lterm = refl; usage = refl }
terminal (suc (suc (suc zero))) few = record { terminal = (made_pterm 4).1; lterm = (made_lterm 4).1; is_name = (omega arith, omega arith, refl); is_pterm = refl; is_lterm = refl; usage = refl }
terminal (suc (suc (suc (suc k)))) few = absurd (omega (arith, few))

-- the text of an input for ADD
record IsAdd (text : Bytes) : Type 0 where
  printable : list_all is_text_byte text ≡ true
  short : length text ≤ 12

add_text : (d : ℕ) → d < 10 → IsAdd (codes "ADD " ++ decimal d)
unfolding digits
add_text zero few = record { printable = refl; short = omega arith }
add_text (suc zero) few = record { printable = refl; short = omega arith }
add_text (suc (suc zero)) few = record { printable = refl; short = omega arith }
add_text (suc (suc (suc zero))) few = record { printable = refl; short = omega arith }
add_text (suc (suc (suc (suc zero)))) few = record { printable = refl; short = omega arith }
add_text (suc (suc (suc (suc (suc zero))))) few = record { printable = refl; short = omega arith }
add_text (suc (suc (suc (suc (suc (suc zero)))))) few = record { printable = refl; short = omega arith }
add_text (suc (suc (suc (suc (suc (suc (suc zero))))))) few = record { printable = refl; short = omega arith }
add_text (suc (suc (suc (suc (suc (suc (suc (suc zero)))))))) few = record { printable = refl; short = omega arith }
add_text (suc (suc (suc (suc (suc (suc (suc (suc (suc zero))))))))) few = record { printable = refl; short = omega arith }
add_text (suc (suc (suc (suc (suc (suc (suc (suc (suc (suc d)))))))))) few = absurd (omega (arith, few))

-- what is before the text of an input at a terminal
record IsFront (k : ℕ) (text : Bytes) : Type 0 where
  printable : list_all is_text_byte (codes "IN " ++ numbered_name (codes "P") k ++ 32 ∷ text) ≡ list_all is_text_byte text
  length_is : length (codes "IN " ++ numbered_name (codes "P") k ++ 32 ∷ text) ≡ 6 + length text

front : (k : ℕ) (text : Bytes) → k < 4 → IsFront (k + 1) text
unfolding digits
front zero text few = record { printable = refl; length_is = omega arith }
front (suc zero) text few = record { printable = refl; length_is = omega arith }
front (suc (suc zero)) text few = record { printable = refl; length_is = omega arith }
front (suc (suc (suc zero))) text few = record { printable = refl; length_is = omega arith }
front (suc (suc (suc (suc k)))) text few = absurd (omega (arith, few))

module _ (are_said : CommandsAreSaid) where
  input_said : (k : ℕ) (text : Bytes) → k < 4 → list_all is_text_byte text ≡ true → length text ≤ 12 → IsSaid (Input (numbered_name (codes "P") (k + 1)) text)
  input_said k text few printable short =
      let words = front k text few in
      record {
        text = codes "IN " ++ numbered_name (codes "P") (k + 1) ++ 32 ∷ text;
        written = refl;
        printable = words.printable ∙ printable;
        short = omega (arith, words.length_is, short);
        says = are_said made_generation (Input (numbered_name (codes "P") (k + 1)) text) (codes "IN " ++ numbered_name (codes "P") (k + 1) ++ 32 ∷ text)
            (record { dialogue = terminal k few; printable = printable; spelled = inl refl });
        known = ap (λ (o : Option PtermEntry). is_some o) (terminal k few).is_pterm;
      }

  joined_said : (xs ys : List Command) → Each IsSaid xs → Each IsSaid ys → Each IsSaid (xs ++ ys)
  joined_said [] ys all more = more
  joined_said (x ∷ xs) ys all more = (all.0, joined_said xs ys all.1 more)

  run_said : (due : Bool) → Each IsSaid (when due (Run 100))
  unfolding digits
  run_said true = (record { text = codes "RUN 100"; written = refl; printable = refl; short = omega arith; says = refl; known = tt }, tt)
  run_said false = tt

  tick_said : (due : Bool) → Each IsSaid (when due (Tick 1))
  unfolding digits
  tick_said true = (record { text = codes "TICK 1"; written = refl; printable = refl; short = omega arith; says = refl; known = tt }, tt)
  tick_said false = tt

  round_said : (all i : ℕ) → Each IsSaid (made_round all i)
  round_said all i =
      let add = add_text (i % 10) (omega arith) in (
        input_said ((i + 3) % 4) (codes "ADD " ++ decimal (i % 10)) (omega arith) add.printable add.short,
        joined_said (when (i % 2 == 0 || i == all) (Run 100)) (when (i % 100 == 0) (Tick 1)) (run_said (i % 2 == 0 || i == all)) (tick_said (i % 100 == 0)),
      )

  rounds_said : (all left i : ℕ) → Each IsSaid (made_rounds all left i)
  unfolding made_rounds
  rounds_said all zero i = tt
  rounds_said all (suc n) i = joined_said (made_round all i) (made_rounds all n (i + 1)) (round_said all i) (rounds_said all n (i + 1))

  signs_said : Each IsSaid (for_four sign_on_command)
  unfolding digits
  signs_said = (
    input_said 0 (codes "KDCSIGN U1") (omega arith) refl (omega arith),
    (
      input_said 1 (codes "KDCSIGN U2") (omega arith) refl (omega arith),
      (input_said 2 (codes "KDCSIGN U3") (omega arith) refl (omega arith), (input_said 3 (codes "KDCSIGN U4") (omega arith) refl (omega arith), tt)),
    ),
  )

  -- ---- the script

  when_few : (due : Bool) (c : Command) → length (when due c) ≤ 1
  when_few true c = omega arith
  when_few false c = omega arith

  few_rounds : (all left i : ℕ) → length (made_rounds all left i) ≤ 3 * left
  unfolding made_rounds
  few_rounds all zero i = omega arith
  few_rounds all (suc n) i =
      omega (
        arith,
        length-append (made_round all i) (made_rounds all n (i + 1)),
        length-append (when (i % 2 == 0 || i == all) (Run 100)) (when (i % 100 == 0) (Tick 1)),
        when_few (i % 2 == 0 || i == all) (Run 100),
        when_few (i % 100 == 0) (Tick 1),
        few_rounds all n (i + 1),
      )

  not_long : (bytes commands : ℕ) → bytes ≤ 16777216 → commands ≤ 1000000 → (nat_lt 16777216 bytes || nat_lt 1000000 commands) ≡ false
  not_long bytes commands few fewer = grind (arith, nat_tests, few, fewer)

  script_said : (n : ℕ) → Each IsSaid (made_script n)
  script_said n = joined_said (for_four sign_on_command) (made_rounds n n 1) signs_said (rounds_said n n 1)

  -- its terminals are those of the made generation
  pub script_known : (n : ℕ) → All (IsCommandOf made_generation) (made_script n)
  script_known n = All-from_recursion (IsCommandOf made_generation) (made_script n) (all (made_script n) (script_said n))
    where
      all : (cs : List Command) → Each IsSaid cs → Each (IsCommandOf made_generation) cs
      all [] said = tt
      all (c ∷ cs) said = (said.0.known, all cs said.1)

  pub script_read : (n : ℕ) → IsWithin 1 20000 n → script_in made_generation (script_text n) ≡ Ok (made_script n)
  script_read n within =
      let all = script_said n in
      let few = few_rounds n n 1 in
      let count : length (made_script n) ≤ 60004 = omega (arith, within.1, length-append (for_four sign_on_command) (made_rounds n n 1), few) in
      let short : is_too_long (script_text n) ≡ false =
      not_long (length (script_text n)) (command_lines (lines (script_text n))) (omega (arith, few_bytes (made_script n) all, count)) (omega (arith, few_lines (made_script n) all, count)) in
      ap (λ (b : Bool). script_by b (line_in made_generation) (script_text n)) short ∙ read_from (made_script n) 1 all
