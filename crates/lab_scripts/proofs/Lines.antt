-- What the lines of a script say, which is as a test takes them.
use Rattle.std.proofs.Common.{◌≡◌, inl, inr, ℕ, zero, suc, ◌==◌, ◌≤◌, ◌<◌, Bool, true, false, List, [], ◌∷◌, length, take, Some, Result, Ok, Err, refl, ap, sym, subst, ◌∙◌, arith}
use Rattle.std.specs.Prelude.{◌||◌, codes, nat_lt, replicate}
use Rattle.std.specs.List.{list_all}
use Rattle.std.specs.Str.Lines.{lines}
use Rattle.std.proofs.lemmas.Bool.Decides.{nat_tests}
use Rattle.kd_base.specs.Limits.{longest_text}
use Rattle.kd_base.specs.Text.{is_space}
use Rattle.kd_base.specs.RoundTripsLaws.{spaces_only}
use Rattle.kd_base.specs.ToolsLaws.{ok_is}
use Rattle.application_types.specs.Generation.{Generated}
use Rattle.abstract_monitor.specs.declared.command.Command.{Command}
use Rattle.script_read.specs.declared.fault.ScriptFault.{ScriptFault}
use Rattle.script_read.specs.Commands.{begins_with_in, command_by, line_in, script_in}
use Rattle.script_read.specs.SameLaws.{same_bytes}
use Rattle.script_read.specs.Script.{Line, Nothing, Says, IsBad, IsOutOfRange, begins_with_space, command_lines, is_comment, is_passed, is_too_long, line_by, line_then, same, script_by, script_from}
use Rattle.script_read.specs.Spelling.{IsPassed, PassedOnly}
use Rattle.lab_scripts.specs.Expected.{text_by, text_in}

-- ---- a line that expects a text is a comment

begins : (n : ℕ) (rest line : List ℕ) → take (suc n) line ≡ 42 ∷ rest → is_comment line ≡ true
begins n rest [] h = absurd cc
begins n rest (b ∷ bs) h = let e : b ≡ 42 = cc in ap (λ (x : ℕ). x == 42) e

marked_by : (spaced marked : Bool) (line text : List ℕ) → same (take 3 line) (codes "*> ") ≡ spaced → same (take 2 line) (codes "*>") ≡ marked → text_by spaced marked line ≡ Some text → is_comment line ≡ true
marked_by true marked line text s k h = begins 2 (62 ∷ 32 ∷ []) line (same_bytes (take 3 line) (codes "*> ") s)
marked_by false true line text s k h = begins 1 (62 ∷ []) line (same_bytes (take 2 line) (codes "*>") k)
marked_by false false line text s k h = absurd cc

pub expects_passed : (line text : List ℕ) → text_in line ≡ Some text → is_passed line ≡ true
expects_passed line text h = ap (λ (c : Bool). c || list_all is_space line) (marked_by (same (take 3 line) (codes "*> ")) (same (take 2 line) (codes "*>")) line text refl refl h)

-- ---- a line that is passed over says nothing, and any other a command

spaces_passed : (n : ℕ) → is_passed (replicate n 32) ≡ true
spaces_passed zero = refl
spaces_passed (suc n) = spaces_only n

passed_so : (line : List ℕ) → IsPassed line → is_passed line ≡ true
passed_so line (inl comment) = ap is_passed comment.1
passed_so line (inr spaces) = ap is_passed spaces.1 ∙ spaces_passed spaces.0

module _ (g : Generated) (number : ℕ) (line : List ℕ) (behind : Result (List Command) ScriptFault) where
  pub passed_says : (commands : List Command) → is_passed line ≡ true → line_then number (line_in g line) behind ≡ Ok commands → behind ≡ Ok commands
  passed_says commands is h = sym (ap (λ (p : Bool). line_then number (line_by p (begins_with_space line) (command_by (begins_with_in line) g line)) behind) is) ∙ h

  says_something : PassedOnly → is_passed line ≡ false → line_in g line ≡ Nothing → ⊥
  says_something only is nothing = let passed : is_passed line ≡ true = passed_so line (only g line nothing) in cc

some_says : (number : ℕ) (said : Line Command) (behind : Result (List Command) ScriptFault) (commands : List Command) → (said ≡ Nothing → ⊥) → line_then number said behind ≡ Ok commands → 0 < length commands
some_says number Nothing behind commands some h = absurd (some refl)
some_says number (Says c) (Ok cs) commands some h = let P : List Command → Type 0 = λ l. 0 < length l in subst P (ok_is ScriptFault (c ∷ cs) commands h) (omega arith)
some_says number (Says c) (Err fault) commands some h = absurd cc
some_says number IsBad behind commands some h = absurd cc
some_says number IsOutOfRange behind commands some h = absurd cc

next_says : (number : ℕ) (said : Line Command) (behind : Result (List Command) ScriptFault) (c : Command) (cs : List Command) → (said ≡ Nothing → ⊥) → line_then number said behind ≡ Ok (c ∷ cs) → behind ≡ Ok cs
next_says number Nothing behind c cs some h = absurd (some refl)
next_says number (Says d) (Ok ds) c cs some h = let e : d ∷ ds ≡ c ∷ cs = ok_is ScriptFault (d ∷ ds) (c ∷ cs) h in cc
next_says number (Says d) (Err fault) c cs some h = absurd cc
next_says number IsBad behind c cs some h = absurd cc
next_says number IsOutOfRange behind c cs some h = absurd cc

module _ (only : PassedOnly) (g : Generated) (number : ℕ) (line : List ℕ) (behind : Result (List Command) ScriptFault) (is : is_passed line ≡ false) where
  pub has_command : (commands : List Command) → line_then number (line_in g line) behind ≡ Ok commands → 0 < length commands
  has_command commands h = some_says number (line_in g line) behind commands (says_something g number line behind only is) h

  pub command_says : (c : Command) (cs : List Command) → line_then number (line_in g line) behind ≡ Ok (c ∷ cs) → behind ≡ Ok cs
  command_says c cs h = next_says number (line_in g line) behind c cs (says_something g number line behind only is) h

-- ---- a script that is read is short enough to number its lines

short_by : (long : Bool) (g : Generated) (text : List ℕ) (commands : List Command) → is_too_long text ≡ long → script_by long (line_in g) text ≡ Ok commands → (length text ≤ longest_text) × (script_from (line_in g) 1 (lines text) ≡ Ok commands)
short_by true g text commands is h = absurd cc
short_by false g text commands is h = (within (nat_lt longest_text (length text)) (nat_lt 1000000 (command_lines (lines text))) refl is, h)
  where
    within : (a b : Bool) → nat_lt longest_text (length text) ≡ a → (a || b) ≡ false → length text ≤ longest_text
    within true b e h = absurd cc
    within false b e h = grind (arith, nat_tests)

pub short_script : (g : Generated) (text : List ℕ) (commands : List Command) → script_in g text ≡ Ok commands → (length text ≤ longest_text) × (script_from (line_in g) 1 (lines text) ≡ Ok commands)
short_script g text commands h = short_by (is_too_long text) g text commands refl h
