-- What the words of a call ask for.
use Rattle.std.specs.Prelude.{ℕ, Bool, true, false, ◌&&◌, nat_le, List, [], ◌∷◌, length, codes, Option, Some, None}
use Rattle.kd_base.specs.Text.{decimal_of}
use Rattle.script_read.specs.Script.{same}
use Rattle.lab_cli.specs.declared.words.Word.{Word}
use Rattle.lab_cli.specs.declared.words.Word.TheVariants.{Check, Trace, Talk, Explore, Test}

abbrev pub word_by : (check trace talk test : Bool) → Option Word
word_by true trace talk test = Some Check
word_by false true talk test = Some Trace
word_by false false true test = Some Talk
word_by false false false true = Some Test
word_by false false false false = None

-- the word of a BASE alone that is spelled so
abbrev pub word_of : List ℕ → Option Word
word_of word = word_by (same word (codes "check")) (same word (codes "trace")) (same word (codes "talk")) (same word (codes "test"))

abbrev pub explore_by : (some : Bool) → (most number : ℕ) → Option Word
explore_by true most number = Some (Explore most number)
explore_by false most number = None

-- so many orders, at least one, from this number
abbrev pub explore_with : (most number : Option ℕ) → Option Word
explore_with None number = None
explore_with (Some most) None = None
explore_with (Some most) (Some number) = explore_by (nat_le 1 most) most number

abbrev pub exploring_by : (explore : Bool) → (most number : Option ℕ) → Option Word
exploring_by true most number = explore_with most number
exploring_by false most number = None

-- `explore` with these numbers
abbrev pub exploring : (word : List ℕ) → (most number : Option ℕ) → Option Word
exploring word most number = exploring_by (same word (codes "explore")) most number

-- a BASE has 1 to 200 bytes
abbrev pub is_base : List ℕ → Bool
is_base base = nat_le 1 (length base) && nat_le (length base) 200

abbrev pub asked_by : (base : Bool) → Option Word → List ℕ → Option (Word × List ℕ)
asked_by true None base = None
asked_by true (Some word) base = Some (word, base)
asked_by false word base = None

abbrev pub asked : Option Word → List ℕ → Option (Word × List ℕ)
asked word base = asked_by (is_base base) word base

-- the word and the BASE of `check BASE`, `trace BASE`, `talk BASE`, `test BASE`, `explore BASE N` and `explore BASE N NUMBER`; no other words are a form
abbrev pub request_of : List (List ℕ) → Option (Word × List ℕ)
request_of [] = None
request_of (word ∷ []) = None
request_of (word ∷ base ∷ []) = asked (word_of word) base
request_of (word ∷ base ∷ most ∷ []) = asked (exploring word (decimal_of most) (Some 1)) base
request_of (word ∷ base ∷ most ∷ number ∷ []) = asked (exploring word (decimal_of most) (decimal_of number)) base
request_of (word ∷ base ∷ most ∷ number ∷ more ∷ rest) = None
