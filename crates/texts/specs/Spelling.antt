-- A text stands for statements.
use Rattle.std.specs.Prelude.{◌≡◌, ℕ, ◌+◌, ◌≤◌, ◌⊎◌, true, false, IsTrue, List, [], ◌∷◌, ◌++◌, length, Some, None}
use Rattle.std.specs.List.{list_all}
use Rattle.std.specs.Str.Lines.{lines}
use Rattle.kd_base.specs.Limits.{longest_text}
use Rattle.texts.specs.declared.kdcdef_lex.token.Token.{Token}
use Rattle.texts.specs.declared.kdcdef_lex.group.Group.{Group}
use Rattle.texts.specs.declared.kdcdef_lex.statement.RawStatement.{RawStatement}
use Rattle.texts.specs.Lines.{is_passed, continued}
use Rattle.texts.specs.Reading.{is_text_byte}
use Rattle.texts.specs.Grammar.{AreTokens, IsStatement}

-- each line but the last is continued, and their bytes joined are the text
abbrev pub Joins : List (List ℕ) → List ℕ → Type 0
Joins [] text = ⊥
Joins (line ∷ []) text = (continued line ≡ None) × (text ≡ line)
Joins (line ∷ next ∷ more) text = (body rest : List ℕ) × (continued line ≡ Some body) × (text ≡ body ++ rest) × Joins (next ∷ more) rest

-- the first line is neither empty nor a comment
abbrev pub BeginsStatement : List (List ℕ) → Type 0
BeginsStatement [] = ⊥
BeginsStatement (line ∷ more) = is_passed line ≡ false

-- each line is continued, and their bytes joined are the text
abbrev pub JoinsOpen : List (List ℕ) → List ℕ → Type 0
JoinsOpen [] text = text ≡ []
JoinsOpen (line ∷ more) text = (body rest : List ℕ) × (continued line ≡ Some body) × (text ≡ body ++ rest) × JoinsOpen more rest

-- the lines, from number n on, are joined to a group, after which these lines follow; where it is continued to the end, none follows
pub record IsGroup (n : ℕ) (own after : List (List ℕ)) (g : Group) : Type 0 where
  pub begins : BeginsStatement own
  pub first : g.first ≡ n
  pub last : g.last + 1 ≡ n + length own
  pub joined : (Joins own g.text × (g.dangling ≡ false)) ⊎ (JoinsOpen own g.text × (g.dangling ≡ true) × (after ≡ []))

-- the lines from number n on are cut into these groups, with empty lines and comments before, between and after them
abbrev pub Cut : ℕ → List (List ℕ) → List Group → Type 0
Cut n all [] = IsTrue (list_all is_passed all)
Cut n all (g ∷ gs) =
    (before own after : List (List ℕ)) × (all ≡ before ++ (own ++ after)) × IsTrue (list_all is_passed before) × IsGroup (n + length before) own after g × Cut (g.last + 1) after gs

-- the text is a spelling of the statement
abbrev pub Spells : List ℕ → RawStatement → Type 0
Spells text s = IsTrue (list_all is_text_byte text) × (ts : List Token) × AreTokens ts text × IsStatement s ts

-- the group is a spelling of the statement
abbrev pub Says : Group → RawStatement → Type 0
Says g s = (g.dangling ≡ false) × Spells g.text s × (s.line ≡ g.first)

-- one after another
abbrev pub AllSay : List Group → List RawStatement → Type 0
AllSay [] [] = Unit {0}
AllSay [] (s ∷ ss) = ⊥
AllSay (g ∷ gs) [] = ⊥
AllSay (g ∷ gs) (s ∷ ss) = Says g s × AllSay gs ss

-- the text is cut into groups of lines, each of which is a spelling of its statement
abbrev pub SpellsStatements : List ℕ → List RawStatement → Type 0
SpellsStatements text ss = (length text ≤ longest_text) × (gs : List Group) × Cut 1 (lines text) gs × AllSay gs ss
