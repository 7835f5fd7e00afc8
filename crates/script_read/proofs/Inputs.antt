-- The lines of IN.
use Rattle.std.proofs.Common.{◌≡◌, ◌⊎◌, inl, inr, ℕ, ◌+◌, Bool, true, false, List, [], ◌∷◌, ◌++◌, length, take, drop, get_or, refl, sym, ap, ◌∙◌, arith, append_assoc, append-nil, length-append}
use Rattle.std.specs.Prelude.{IsTrue, not, codes, nat_lt}
use Rattle.std.specs.List.{list_all, position_or_len, before_first, after_first, All}
use Rattle.std.proofs.lemmas.Bool.{cases_Bool, eqb-true, ltb-true, ltb-false}
use Rattle.std.proofs.lemmas.List.{take-append-drop, take_at, drop_at, take_all, drop_all, drop_more}
use Rattle.std.proofs.lemmas.List.Elements.{All-head, All-tail}
use Rattle.std.proofs.lemmas.List.Sums.{passes_at_first}
use Rattle.kd_base.specs.Text.{is_space}
use Rattle.kd_base.specs.ToolsLaws.{true_both}
use Rattle.kd_base.specs.FrontsLaws.{split_there}
use Rattle.application_types.specs.Generation.{Generated}
use Rattle.abstract_monitor.specs.declared.command.Command.{Command}
use Rattle.abstract_monitor.specs.declared.command.Command.TheVariants.{Input}
use Rattle.script_read.specs.Script.{Line, Says, IsOutOfRange, as_command}
use Rattle.script_read.specs.Commands.{pterm_in, is_text_byte, begins_with_in, input_by, input, line_in}
use Rattle.script_read.specs.Spelling.{IsPterm, IsInput}
use Rattle.script_read.specs.SameLaws.{same_bytes}
use Rattle.script_read.proofs.Shapes.{as_said, as_out}
use Rattle.script_read.proofs.Names.{name_word, pterm_said, pterm_only, pterm_never_out}

-- ---- before and after the first space

spaceless : (word : List ℕ) → All (λ b. is_space b ≡ false) word → IsTrue (list_all (λ b. not (is_space b)) word)
spaceless [] none = refl
spaceless (b ∷ word) none =
    true_both (not (is_space b)) (list_all (λ b. not (is_space b)) word) (ap not (All-head (λ b. is_space b ≡ false) b word none)) (spaceless word (All-tail (λ b. is_space b ≡ false) b word none))

-- a word, and what is before and after the first space
record Splits (line word rest : List ℕ) : Type 0 where
  pub before : before_first is_space line ≡ word
  pub behind : after_first is_space line ≡ rest

splits_at : (word rest : List ℕ) → All (λ b. is_space b ≡ false) word → Splits (word ++ 32 ∷ rest) word rest
splits_at word rest none =
    let at : position_or_len is_space (word ++ 32 ∷ rest) ≡ length word = split_there (λ b. not (is_space b)) word (32 ∷ rest) (spaceless word none) refl in
    let long : length (word ++ 32 ∷ []) ≡ length word + 1 = length-append word (32 ∷ []) in
    record {
      before = ap (λ (n : ℕ). take n (word ++ 32 ∷ rest)) at ∙ take_at word (32 ∷ rest) (length word) refl;
      behind =
          ap (λ (n : ℕ). drop (n + 1) (word ++ 32 ∷ rest)) at
          ∙ ap (drop (length word + 1)) (sym (append_assoc word (32 ∷ []) rest))
          ∙ drop_at (word ++ 32 ∷ []) rest (length word + 1) long;
    }

splits_last : (word : List ℕ) → All (λ b. is_space b ≡ false) word → Splits word word []
splits_last word none =
    let whole : position_or_len is_space (word ++ []) ≡ length word = split_there (λ b. not (is_space b)) word [] (spaceless word none) refl in
    let at : position_or_len is_space word ≡ length word = ap (position_or_len is_space) (sym (append-nil word)) ∙ whole in
    record {
      before = take_all (position_or_len is_space word) word (omega arith);
      behind = drop_all (position_or_len is_space word + 1) word (omega arith);
    }

-- a line is what is before and after its first space, if it has one
parts : (line : List ℕ)
    → (line ≡ before_first is_space line ++ 32 ∷ after_first is_space line) ⊎ ((line ≡ before_first is_space line) × (after_first is_space line ≡ []))
parts line =
    let n = position_or_len is_space line in
    elim (cases_Bool (nat_lt n (length line))) [
      | inl h ↦
          let lt = ltb-true n (length line) h in
          inl
          (sym (take-append-drop n line)
          ∙ ap (λ (l : List ℕ). take n line ++ l) (drop_more line n 0 lt)
          ∙ ap (λ (b : ℕ). take n line ++ b ∷ drop (n + 1) line) (eqb-true (get_or line n 0) 32 (passes_at_first is_space line 0 lt)))
      | inr h ↦
          let le = ltb-false n (length line) h in
          inr (sym (take_all n line le), drop_all (n + 1) line (omega arith))
    ]

-- ---- lines of IN

said_so : (g : Generated) (rest name text : List ℕ) → Splits rest name text → IsPterm g false name → IsTrue (list_all is_text_byte text) → input g rest ≡ Says (Input name text)
said_so g rest name text s is printable =
    ap (λ (t : List ℕ). input_by (list_all is_text_byte t) (pterm_in g false (before_first is_space rest)) t) s.behind
    ∙ ap (λ (n : List ℕ). input_by (list_all is_text_byte text) (pterm_in g false n) text) s.before
    ∙ ap (λ (b : Bool). input_by b (pterm_in g false name) text) printable
    ∙ ap (λ (l : Line (List ℕ)). input_by true l text) (pterm_said g false name is)

pub input_said : (g : Generated) (name text line : List ℕ) → IsInput g name text line → line_in g line ≡ Says (Input name text)
input_said g name text line is =
    let none = (name_word name is.dialogue.is_name).none in
    elim is.spelled [
      | inl e ↦
          let at : line_in g (codes "IN " ++ (name ++ 32 ∷ text)) ≡ input g (name ++ 32 ∷ text) = refl in
          ap (line_in g) e ∙ at ∙ said_so g (name ++ 32 ∷ text) name text (splits_at name text none) is.dialogue is.printable
      | inr e ↦
          let at : line_in g (codes "IN " ++ name) ≡ input g name = refl in
          let s = splits_last name none in
          let alone : Splits name name text = record { before = s.before; behind = s.behind ∙ sym e.1 } in
          ap (line_in g) e.0 ∙ at ∙ said_so g name name text alone is.dialogue is.printable
    ]

-- ---- and nothing else

by_text : (printable : Bool) (name : Line (List ℕ)) (text : List ℕ) (command : Command) → input_by printable name text ≡ Says command → (printable ≡ true) × (as_command (λ named. Input named text) name ≡ Says command)
by_text true name text command h = (refl, h)
by_text false name text command h = absurd cc

in_front : (line : List ℕ) → begins_with_in line ≡ true → line ≡ codes "IN " ++ drop 3 line
in_front line h = sym (take-append-drop 3 line) ∙ ap (λ (l : List ℕ). l ++ drop 3 line) (same_bytes (take 3 line) (codes "IN ") h)

spelled_so : (line rest name text : List ℕ) → line ≡ codes "IN " ++ rest → (rest ≡ name ++ 32 ∷ text) ⊎ ((rest ≡ name) × (text ≡ []))
    → (line ≡ codes "IN " ++ (name ++ 32 ∷ text)) ⊎ ((line ≡ codes "IN " ++ name) × (text ≡ []))
spelled_so line rest name text e (inl p) = inl (e ∙ ap (λ (l : List ℕ). codes "IN " ++ l) p)
spelled_so line rest name text e (inr p) = inr (e ∙ ap (λ (l : List ℕ). codes "IN " ++ l) p.0, p.1)

-- what a line that begins with IN says
pub record SaysInput (g : Generated) (line : List ℕ) (command : Command) : Type 0 where
  pub name : List ℕ
  pub text : List ℕ
  pub is : IsInput g name text line
  pub command_is : command ≡ Input name text

pub input_only : (g : Generated) (line : List ℕ) (command : Command) → begins_with_in line ≡ true → input g (drop 3 line) ≡ Says command → SaysInput g line command
input_only g line command begins h =
    let rest = drop 3 line in
    let name = before_first is_space rest in
    let text = after_first is_space rest in
    let t = by_text (list_all is_text_byte text) (pterm_in g false name) text command h in
    let s = as_said (λ (named : List ℕ). let c : Command = Input named text in c) (pterm_in g false name) command t.1 in
    let p = pterm_only g false name s.0 s.1 in
    record {
      name = name;
      text = text;
      is = record { dialogue = p.1; printable = t.0; spelled = spelled_so line rest name text (in_front line begins) (parts rest) };
      command_is = s.2 ∙ ap (λ (n : List ℕ). let c : Command = Input n text in c) p.0;
    }

never_out : (printable : Bool) (g : Generated) (name text : List ℕ) → input_by printable (pterm_in g false name) text ≡ IsOutOfRange → ⊥
never_out true g name text h = pterm_never_out g false name (as_out (λ (named : List ℕ). let c : Command = Input named text in c) (pterm_in g false name) h)
never_out false g name text h = cc

pub input_never_out : (g : Generated) (rest : List ℕ) → input g rest ≡ IsOutOfRange → ⊥
input_never_out g rest h = never_out (list_all is_text_byte (after_first is_space rest)) g (before_first is_space rest) (after_first is_space rest) h
