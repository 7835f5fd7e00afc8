-- A line says a command where it is spelled so, and only there.
use Rattle.std.proofs.Common.{◌≡◌, inl, inr, ℕ, Bool, true, false, List, ◌∷◌, refl, sym, subst}
use Rattle.std.specs.Prelude.{drop}
use Rattle.kd_base.specs.Limits.{last_clock}
use Rattle.application_types.specs.Generation.{Generated}
use Rattle.abstract_monitor.specs.declared.command.Command.{Command}
use Rattle.abstract_monitor.specs.declared.command.Command.TheVariants.{Input, Tick, Run, Turn, Drop, Print, PrintLast, Restart}
use Rattle.script_read.specs.declared.keyword.Keyword.TheVariants as keywords
use Rattle.script_read.specs.Script.{Line, Says, IsBad, IsOutOfRange, words, is_passed, begins_with_space}
use Rattle.script_read.specs.Commands.{last_turns, spelling, begins_with_in, line_of_words, command_by}
use Rattle.script_read.specs.Spelling.{AreParted, IsSpelled, IsOutsideItsRange, CommandsAreSaid, CommandsOnly, OutsideIsTold, OutsideOnly}
use Rattle.script_read.proofs.Parted.{AreSome, words_parted, words_some}
use Rattle.script_read.proofs.Shapes.{by_front}
use Rattle.script_read.proofs.Inputs.{input_said, input_only, input_never_out}
use Rattle.script_read.proofs.Keyed.{number_line, outside_line, pterm_line, print_last_line, restart_line, HasKeyword, has_keyword, spelled_by_words, outside_by_words}

pub commands_said : CommandsAreSaid
commands_said g (Input name text) line s = input_said g name text line s
commands_said g (Tick n) line s = number_line g keywords.Tick Tick 0 last_clock n line (λ w. refl) s
commands_said g (Run n) line s = number_line g keywords.Run Run 0 last_turns n line (λ w. refl) s
commands_said g (Turn n) line s = number_line g keywords.Turn Turn 1 g.limits.tasks n line (λ w. refl) s
commands_said g (Drop name) line s = pterm_line g keywords.Drop Drop false name line (λ w. refl) s.0 s.1
commands_said g (Print name) line s = pterm_line g keywords.Print Print true name line (λ w. refl) s.0 s.1
commands_said g (PrintLast name) line s = print_last_line g name line s.0 s.1
commands_said g Restart line s = restart_line g line s

pub outside_told : OutsideIsTold
outside_told g line (inl tick) = outside_line g keywords.Tick Tick 0 last_clock line (λ w. refl) tick
outside_told g line (inr (inl run)) = outside_line g keywords.Run Run 0 last_turns line (λ w. refl) run
outside_told g line (inr (inr turn)) = outside_line g keywords.Turn Turn 1 g.limits.tasks line (λ w. refl) turn

-- a line of words that are not bad
record IsKeyed (g : Generated) (line : List ℕ) (what : Line Command) : Type 0 where
  pub has : HasKeyword g (words line) what
  pub some : AreSome has.operands
  pub parted : AreParted (spelling has.keyword ∷ has.operands) line

keyed : (g : Generated) (line : List ℕ) (what : Line Command) → (what ≡ IsBad → ⊥) → begins_with_space line ≡ false → line_of_words g (words line) ≡ what → IsKeyed g line what
keyed g line what good front h =
    let k = has_keyword g (words line) what good h in
    let all : AreSome (spelling k.keyword ∷ k.operands) = subst AreSome k.are (words_some line) in
    record { has = k; some = all.1; parted = words_parted (spelling k.keyword ∷ k.operands) line front k.are }

says_by : (is_in : Bool) (g : Generated) (c : Command) (line : List ℕ) → begins_with_in line ≡ is_in → begins_with_space line ≡ false → command_by is_in g line ≡ Says c → IsSpelled g c line
says_by true g c line begins front h =
    let s = input_only g line c begins h in
    subst (λ (x : Command). IsSpelled g x line) (sym s.command_is) s.is
says_by false g c line begins front h =
    let k = keyed g line (Says c) (λ e. cc) front h in
    spelled_by_words g k.has.keyword k.has.operands line c k.some k.parted k.has.is

pub commands_only : CommandsOnly
commands_only g c line h =
    let f = by_front (is_passed line) (begins_with_space line) (command_by (begins_with_in line) g line) (Says c) (λ e. cc) (λ e. cc) h in
    says_by (begins_with_in line) g c line refl f.1 f.2

outside_by : (is_in : Bool) (g : Generated) (line : List ℕ) → begins_with_space line ≡ false → command_by is_in g line ≡ IsOutOfRange → IsOutsideItsRange g line
outside_by true g line front h = absurd (input_never_out g (drop 3 line) h)
outside_by false g line front h =
    let k = keyed g line IsOutOfRange (λ e. cc) front h in
    outside_by_words g k.has.keyword k.has.operands line k.some k.parted k.has.is

pub outside_only : OutsideOnly
outside_only g line h =
    let f = by_front (is_passed line) (begins_with_space line) (command_by (begins_with_in line) g line) IsOutOfRange (λ e. cc) (λ e. cc) h in
    outside_by (begins_with_in line) g line f.1 f.2
