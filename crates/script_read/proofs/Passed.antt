-- The lines that are passed over.
use Rattle.std.proofs.Common.{◌≡◌, ◌⊎◌, inl, inr, ℕ, zero, suc, Bool, true, false, List, [], ◌∷◌, length, Option, Some, None, refl, sym, ap, ◌∙◌}
use Rattle.std.specs.Prelude.{◌||◌, replicate, drop, codes}
use Rattle.std.specs.List.{list_all, before_first, after_first}
use Rattle.std.proofs.lemmas.Bool.{eqb-true}
use Rattle.kd_base.specs.Text.{is_space, is_digit, decimal_value, name_of}
use Rattle.kd_base.specs.Limits.{last_clock}
use Rattle.application_types.specs.Generation.{Generated}
use Rattle.abstract_monitor.specs.declared.command.Command.{Command}
use Rattle.abstract_monitor.specs.declared.command.Command.TheVariants.{Input, Tick, Run, Turn, Drop, Print, PrintLast}
use Rattle.script_read.specs.declared.keyword.Keyword.{Keyword}
use Rattle.script_read.specs.declared.keyword.Keyword.TheVariants as keywords
use Rattle.script_read.specs.Script.{Line, Nothing, as_command, words, same, is_comment, is_passed, begins_with_space, line_by, is_count, number_in, number_by, numbered}
use Rattle.script_read.specs.Commands.{last_turns, lterm_at, is_wanted, pterm_by, pterm_in, is_text_byte, begins_with_in, input_by, keyword_of, alone, with_one, last_by, with_two, with_words, keyed}
use Rattle.script_read.specs.Commands.{line_of_words, command_by}
use Rattle.script_read.specs.Spelling.{IsPassed, PassedAreNothing, PassedOnly}
use Rattle.kd_base.specs.RoundTripsLaws.{spaces_only, only_spaces}

-- ---- they are passed over

passed_spaces : (n : ℕ) → is_passed (replicate n 32) ≡ true
passed_spaces zero = refl
passed_spaces (suc n) = spaces_only n

passed : (line : List ℕ) → IsPassed line → is_passed line ≡ true
passed line (inl comment) = ap is_passed comment.1
passed line (inr spaces) = ap is_passed spaces.1 ∙ passed_spaces spaces.0

pub passed_said : PassedAreNothing
passed_said g line is = ap (λ (p : Bool). line_by p (begins_with_space line) (command_by (begins_with_in line) g line)) (passed line is)

-- ---- and no others

either : (a b : Bool) → (a || b) ≡ true → (a ≡ true) ⊎ (b ≡ true)
either true b h = inl refl
either false b h = inr h

comment_so : (line : List ℕ) → is_comment line ≡ true → (rest : List ℕ) × (line ≡ 42 ∷ rest)
comment_so [] h = absurd cc
comment_so (b ∷ rest) h = (rest, ap (λ (x : ℕ). x ∷ rest) (eqb-true b 42 h))

passed_so : (line : List ℕ) → is_passed line ≡ true → IsPassed line
passed_so line h =
    elim (either (is_comment line) (list_all is_space line) h) [
      | inl comment ↦ inl (comment_so line comment)
      | inr spaces ↦ inr (length line, only_spaces line spaces)
    ]

-- a line that says something, or is at fault
abbrev tells : {C : Type 0} → Line C → Bool
tells Nothing = false
tells _ = true

as_tells : {A C : Type 0} (say : A → C) (x : Line A) → tells x ≡ true → tells (as_command say x) ≡ true
as_tells say Nothing h = h
as_tells say _ h = refl

in_tells : (count : Bool) (n : ℕ) → tells (number_in count n) ≡ true
in_tells true n = refl
in_tells false n = refl

by_tells : (digits : Bool) (low high : ℕ) (word : List ℕ) → tells (number_by digits low high word) ≡ true
by_tells true low high word = in_tells (is_count low high word) (decimal_value word)
by_tells false low high word = refl

number_tells : (low high : ℕ) (word : List ℕ) → tells (numbered low high word) ≡ true
number_tells low high word = by_tells (list_all is_digit word) low high word

name_tells : (is : Bool) (word : List ℕ) → tells (pterm_by is word) ≡ true
name_tells true word = refl
name_tells false word = refl

pterm_tells : (g : Generated) (printer : Bool) (word : List ℕ) → tells (pterm_in g printer word) ≡ true
pterm_tells g printer word = name_tells (is_wanted printer (lterm_at g (name_of word))) word

input_tells : (printable : Bool) (g : Generated) (name text : List ℕ) → tells (input_by printable (pterm_in g false name) text) ≡ true
input_tells true g name text = as_tells (λ (n : List ℕ). let c : Command = Input n text in c) (pterm_in g false name) (pterm_tells g false name)
input_tells false g name text = refl

alone_tells : (k : Keyword) → tells (alone k) ≡ true
alone_tells keywords.Tick = refl
alone_tells _ = refl

one_tells : (g : Generated) (k : Keyword) (word : List ℕ) → tells (with_one g k word) ≡ true
one_tells g keywords.Tick word = as_tells Tick (numbered 0 last_clock word) (number_tells 0 last_clock word)
one_tells g keywords.Run word = as_tells Run (numbered 0 last_turns word) (number_tells 0 last_turns word)
one_tells g keywords.Turn word = as_tells Turn (numbered 1 g.limits.tasks word) (number_tells 1 g.limits.tasks word)
one_tells g keywords.Drop word = as_tells Drop (pterm_in g false word) (pterm_tells g false word)
one_tells g keywords.Print word = as_tells Print (pterm_in g true word) (pterm_tells g true word)
one_tells g keywords.Restart word = refl

last_tells : (is : Bool) (g : Generated) (word : List ℕ) → tells (last_by is (pterm_in g true word)) ≡ true
last_tells true g word = as_tells PrintLast (pterm_in g true word) (pterm_tells g true word)
last_tells false g word = refl

two_tells : (g : Generated) (k : Keyword) (word last : List ℕ) → tells (with_two g k word last) ≡ true
two_tells g keywords.Print word last = last_tells (same last (codes "LAST")) g word
two_tells g _ word last = refl

words_tell : (g : Generated) (k : Keyword) (operands : List (List ℕ)) → tells (with_words g k operands) ≡ true
words_tell g k [] = alone_tells k
words_tell g k (word ∷ []) = one_tells g k word
words_tell g k (word ∷ last ∷ []) = two_tells g k word last
words_tell g k (word ∷ last ∷ more ∷ rest) = refl

keyed_tells : (g : Generated) (o : Option Keyword) (operands : List (List ℕ)) → tells (keyed g o operands) ≡ true
keyed_tells g None operands = refl
keyed_tells g (Some k) operands = words_tell g k operands

line_tells : (g : Generated) (ws : List (List ℕ)) → tells (line_of_words g ws) ≡ true
line_tells g [] = refl
line_tells g (word ∷ operands) = keyed_tells g (keyword_of word) operands

command_tells : (is_in : Bool) (g : Generated) (line : List ℕ) → tells (command_by is_in g line) ≡ true
command_tells true g line = input_tells (list_all is_text_byte (after_first is_space (drop 3 line))) g (before_first is_space (drop 3 line)) (after_first is_space (drop 3 line))
command_tells false g line = line_tells g (words line)

by_parts : (passed spaced : Bool) (said : Line Command) → tells said ≡ true → line_by passed spaced said ≡ Nothing → passed ≡ true
by_parts true spaced said t h = refl
by_parts false true said t h = absurd cc
by_parts false false said t h = absurd (let none : tells said ≡ false = ap tells h in let differ = sym t ∙ none in cc)

pub passed_only : PassedOnly
passed_only g line h = passed_so line (by_parts (is_passed line) (begins_with_space line) (command_by (begins_with_in line) g line) (command_tells (begins_with_in line) g line) h)
