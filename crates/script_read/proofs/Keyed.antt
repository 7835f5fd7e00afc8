-- The lines of a keyword and its words.
use Rattle.std.proofs.Common.{◌≡◌, inl, inr, ℕ, ◌≤◌, Bool, true, false, List, [], ◌∷◌, ◌++◌, length, Option, Some, None, refl, sym, ap, subst, ◌∙◌}
use Rattle.std.specs.Prelude.{codes}
use Rattle.kd_base.specs.ToolsLaws.{find_passes}
use Rattle.kd_base.specs.Limits.{last_clock}
use Rattle.application_types.specs.Generation.{Generated}
use Rattle.abstract_monitor.specs.declared.command.Command.{Command}
use Rattle.abstract_monitor.specs.declared.command.Command.TheVariants.{Tick, Run, Turn, Drop, Print, PrintLast, Restart}
use Rattle.script_read.specs.declared.keyword.Keyword.{Keyword}
use Rattle.script_read.specs.declared.keyword.Keyword.TheVariants as keywords
use Rattle.script_read.specs.declared.keyword.TheConstants.{KEYWORDS}
use Rattle.script_read.specs.Script.{Line, Says, IsBad, IsOutOfRange, as_command, words, same, numbered}
use Rattle.script_read.specs.Commands.{last_turns, pterm_in, spelling, keyword_of, alone, with_one, last_by, with_two, with_words, keyed, line_of_words, line_in}
use Rattle.script_read.specs.Spelling.{AreParted, IsNumber, IsPterm, IsNumbered, IsSpelled, IsOutside, IsOutsideItsRange}
use Rattle.script_read.specs.SameLaws.{same_bytes}
use Rattle.script_read.proofs.Parted.{IsWord, AreWords, AreSome, parted_words}
use Rattle.script_read.proofs.Numbers.{word_of, digits_word, number_said, outside_said, number_only, outside_only}
use Rattle.script_read.proofs.Shapes.{as_said, as_out, front_of}
use Rattle.script_read.proofs.Names.{name_word, pterm_said, pterm_only, pterm_never_out}

-- ---- keywords

spelled_word : (k : Keyword) → IsWord (spelling k)
spelled_word keywords.Tick = word_of (codes "TICK") refl
spelled_word k = word_of (spelling k) refl

known : (k : Keyword) → keyword_of (spelling k) ≡ Some k
known keywords.Tick = refl
known _ = refl

keyword_is : (word : List ℕ) (k : Keyword) → keyword_of word ≡ Some k → word ≡ spelling k
keyword_is word k e = same_bytes word (spelling k) (find_passes (λ (keyword : Keyword). same word (spelling keyword)) KEYWORDS k e)

-- ---- what is spelled so is said

-- a line that begins with a keyword is read by its words
by_words : (g : Generated) (k : Keyword) (rest : List ℕ) → line_in g (spelling k ++ rest) ≡ line_of_words g (words (spelling k ++ rest))
by_words g keywords.Tick rest = refl
by_words g _ rest = refl

keyed_line : (g : Generated) (k : Keyword) (operands : List (List ℕ)) (line : List ℕ) → AreWords operands → AreParted (spelling k ∷ operands) line → line_in g line ≡ with_words g k operands
keyed_line g k operands line are p =
    let f = front_of (spelling k) operands line p in
    ap (line_in g) f.1
    ∙ by_words g k f.0
    ∙ ap (line_of_words g) (ap words (sym f.1) ∙ parted_words (spelling k ∷ operands) line (spelled_word k, are) p)
    ∙ ap (λ (o : Option Keyword). keyed g o operands) (known k)

-- a keyword that takes a number
abbrev TakesNumber : Generated → Keyword → (ℕ → Command) → ℕ → ℕ → Type 0
TakesNumber g k say low high = (word : List ℕ) → with_one g k word ≡ as_command say (numbered low high word)

-- a keyword that takes a PTERM
abbrev TakesPterm : Generated → Keyword → (List ℕ → Command) → Bool → Type 0
TakesPterm g k say printer = (word : List ℕ) → with_one g k word ≡ as_command say (pterm_in g printer word)

pub number_line : (g : Generated) (k : Keyword) (say : ℕ → Command) (low high n : ℕ) (line : List ℕ) → TakesNumber g k say low high → IsNumbered (spelling k) low high n line → line_in g line ≡ Says (say n)
number_line g k say low high n line takes s =
    keyed_line g k (s.0 ∷ []) line (digits_word s.0 s.1.some s.1.all_digits, tt) s.2
    ∙ takes s.0
    ∙ ap (λ (x : Line ℕ). as_command say x) (number_said low high n s.0 s.1)

pub outside_line : (g : Generated) (k : Keyword) (say : ℕ → Command) (low high : ℕ) (line : List ℕ) → TakesNumber g k say low high → IsOutside (spelling k) low high line → line_in g line ≡ IsOutOfRange
outside_line g k say low high line takes o =
    keyed_line g k (o.digits ∷ []) line (digits_word o.digits o.some o.all_digits, tt) o.parted
    ∙ takes o.digits
    ∙ ap (λ (x : Line ℕ). as_command say x) (outside_said low high o.digits o.some o.all_digits o.outside)

pub pterm_line : (g : Generated) (k : Keyword) (say : List ℕ → Command) (printer : Bool) (name line : List ℕ) → TakesPterm g k say printer → IsPterm g printer name → AreParted (spelling k ∷ name ∷ []) line → line_in g line ≡ Says (say name)
pterm_line g k say printer name line takes is p =
    keyed_line g k (name ∷ []) line (name_word name is.is_name, tt) p
    ∙ takes name
    ∙ ap (λ (x : Line (List ℕ)). as_command say x) (pterm_said g printer name is)

pub print_last_line : (g : Generated) (name line : List ℕ) → IsPterm g true name → AreParted (codes "PRINT" ∷ name ∷ codes "LAST" ∷ []) line → line_in g line ≡ Says (PrintLast name)
print_last_line g name line is p =
    keyed_line g keywords.Print (name ∷ codes "LAST" ∷ []) line (name_word name is.is_name, (word_of (codes "LAST") refl, tt)) p
    ∙ ap (λ (x : Line (List ℕ)). as_command PrintLast x) (pterm_said g true name is)

pub restart_line : (g : Generated) (line : List ℕ) → AreParted (codes "RESTART" ∷ []) line → line_in g line ≡ Says Restart
restart_line g line p = keyed_line g keywords.Restart [] line tt p

-- ---- and nothing else

-- words that are not bad begin with a keyword
pub record HasKeyword (g : Generated) (ws : List (List ℕ)) (what : Line Command) : Type 0 where
  pub keyword : Keyword
  pub operands : List (List ℕ)
  pub are : ws ≡ spelling keyword ∷ operands
  pub is : with_words g keyword operands ≡ what

by_keyword : (g : Generated) (word : List ℕ) (operands : List (List ℕ)) (what : Line Command) (o : Option Keyword) → keyword_of word ≡ o → (what ≡ IsBad → ⊥) → keyed g o operands ≡ what → HasKeyword g (word ∷ operands) what
by_keyword g word operands what None e good h = absurd (good (sym h))
by_keyword g word operands what (Some k) e good h =
    record { keyword = k; operands = operands; are = ap (λ (w : List ℕ). w ∷ operands) (keyword_is word k e); is = h }

pub has_keyword : (g : Generated) (ws : List (List ℕ)) (what : Line Command) → (what ≡ IsBad → ⊥) → line_of_words g ws ≡ what → HasKeyword g ws what
has_keyword g [] what good h = absurd (good (sym h))
has_keyword g (word ∷ operands) what good h = by_keyword g word operands what (keyword_of word) refl good h

says_is : (a b : Command) → (let x : Line Command = Says a in x) ≡ Says b → b ≡ a
says_is a b h = cc

-- the line is spelled as what its words say
only_alone : (g : Generated) (k : Keyword) (line : List ℕ) (c : Command) → AreParted (spelling k ∷ []) line → alone k ≡ Says c → IsSpelled g c line
only_alone g keywords.Restart line c p h = subst (λ (x : Command). IsSpelled g x line) (sym (says_is Restart c h)) p
only_alone g _ line c p h = absurd cc

only_number : (g : Generated) (say : ℕ → Command) (low high : ℕ) (word line : List ℕ) (c : Command) → 1 ≤ length word → as_command say (numbered low high word) ≡ Says c
    → ((n : ℕ) → IsNumber low high n word → IsSpelled g (say n) line) → IsSpelled g c line
only_number g say low high word line c some h so =
    let s = as_said say (numbered low high word) c h in
    subst (λ (x : Command). IsSpelled g x line) (sym s.2) (so s.0 (number_only low high s.0 word some s.1))

only_pterm : (g : Generated) (say : List ℕ → Command) (printer : Bool) (word line : List ℕ) (c : Command) → as_command say (pterm_in g printer word) ≡ Says c
    → (IsPterm g printer word → IsSpelled g (say word) line) → IsSpelled g c line
only_pterm g say printer word line c h so =
    let s = as_said say (pterm_in g printer word) c h in
    let o = pterm_only g printer word s.0 s.1 in
    subst (λ (x : Command). IsSpelled g x line) (sym (s.2 ∙ ap say o.0)) (so o.1)

only_one : (g : Generated) (k : Keyword) (word line : List ℕ) (c : Command) → 1 ≤ length word → AreParted (spelling k ∷ word ∷ []) line → with_one g k word ≡ Says c → IsSpelled g c line
only_one g keywords.Tick word line c some p h = only_number g Tick 0 last_clock word line c some h (λ n is. (word, is, p))
only_one g keywords.Run word line c some p h = only_number g Run 0 last_turns word line c some h (λ n is. (word, is, p))
only_one g keywords.Turn word line c some p h = only_number g Turn 1 g.limits.tasks word line c some h (λ n is. (word, is, p))
only_one g keywords.Drop word line c some p h = only_pterm g Drop false word line c h (λ is. (is, p))
only_one g keywords.Print word line c some p h = only_pterm g Print true word line c h (λ is. (is, p))
only_one g keywords.Restart word line c some p h = absurd cc

by_last : (is : Bool) (name : Line (List ℕ)) (c : Command) → last_by is name ≡ Says c → (is ≡ true) × (as_command PrintLast name ≡ Says c)
by_last true name c h = (refl, h)
by_last false name c h = absurd cc

only_two : (g : Generated) (k : Keyword) (word last line : List ℕ) (c : Command) → AreParted (spelling k ∷ word ∷ last ∷ []) line → with_two g k word last ≡ Says c → IsSpelled g c line
only_two g keywords.Print word last line c p h =
    let l = by_last (same last (codes "LAST")) (pterm_in g true word) c h in
    let parted = subst (λ (w : List ℕ). AreParted (codes "PRINT" ∷ word ∷ w ∷ []) line) (same_bytes last (codes "LAST") l.0) p in
    only_pterm g PrintLast true word line c l.1 (λ is. (is, parted))
only_two g _ word last line c p h = absurd cc

pub spelled_by_words : (g : Generated) (k : Keyword) (operands : List (List ℕ)) (line : List ℕ) (c : Command) → AreSome operands → AreParted (spelling k ∷ operands) line → with_words g k operands ≡ Says c → IsSpelled g c line
spelled_by_words g k [] line c some p h = only_alone g k line c p h
spelled_by_words g k (word ∷ []) line c some p h = only_one g k word line c some.0 p h
spelled_by_words g k (word ∷ last ∷ []) line c some p h = only_two g k word last line c p h
spelled_by_words g k (word ∷ last ∷ more ∷ rest) line c some p h = absurd cc

-- only a number is out of its range
out_alone : (k : Keyword) → alone k ≡ IsOutOfRange → ⊥
out_alone keywords.Tick h = cc
out_alone _ h = cc

outside_of : (keyword : List ℕ) (low high : ℕ) (word line : List ℕ) → 1 ≤ length word → AreParted (keyword ∷ word ∷ []) line → numbered low high word ≡ IsOutOfRange → IsOutside keyword low high line
outside_of keyword low high word line some p h =
    let o = outside_only low high word h in
    record { digits = word; some = some; all_digits = o.all_digits; outside = o.outside; parted = p }

out_one : (g : Generated) (k : Keyword) (word line : List ℕ) → 1 ≤ length word → AreParted (spelling k ∷ word ∷ []) line → with_one g k word ≡ IsOutOfRange → IsOutsideItsRange g line
out_one g keywords.Tick word line some p h = inl (outside_of (codes "TICK") 0 last_clock word line some p (as_out Tick (numbered 0 last_clock word) h))
out_one g keywords.Run word line some p h = inr (inl (outside_of (codes "RUN") 0 last_turns word line some p (as_out Run (numbered 0 last_turns word) h)))
out_one g keywords.Turn word line some p h = inr (inr (outside_of (codes "TURN") 1 g.limits.tasks word line some p (as_out Turn (numbered 1 g.limits.tasks word) h)))
out_one g keywords.Drop word line some p h = absurd (pterm_never_out g false word (as_out Drop (pterm_in g false word) h))
out_one g keywords.Print word line some p h = absurd (pterm_never_out g true word (as_out Print (pterm_in g true word) h))
out_one g keywords.Restart word line some p h = absurd cc

out_last : (is : Bool) (g : Generated) (word : List ℕ) → last_by is (pterm_in g true word) ≡ IsOutOfRange → ⊥
out_last true g word h = pterm_never_out g true word (as_out PrintLast (pterm_in g true word) h)
out_last false g word h = cc

out_two : (g : Generated) (k : Keyword) (word last : List ℕ) → with_two g k word last ≡ IsOutOfRange → ⊥
out_two g keywords.Print word last h = out_last (same last (codes "LAST")) g word h
out_two g _ word last h = cc

pub outside_by_words : (g : Generated) (k : Keyword) (operands : List (List ℕ)) (line : List ℕ) → AreSome operands → AreParted (spelling k ∷ operands) line → with_words g k operands ≡ IsOutOfRange → IsOutsideItsRange g line
outside_by_words g k [] line some p h = absurd (out_alone k h)
outside_by_words g k (word ∷ []) line some p h = out_one g k word line some.0 p h
outside_by_words g k (word ∷ last ∷ []) line some p h = absurd (out_two g k word last h)
outside_by_words g k (word ∷ last ∷ more ∷ rest) line some p h = absurd cc
