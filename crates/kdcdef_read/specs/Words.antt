-- The words of KDCDEF, which may be written in either case.
use Rattle.std.specs.Prelude.{ℕ, Bool, ◌||◌, List, [], ◌∷◌, Option, Some, None, codes}
use Rattle.std.specs.Option.{option_or}
use Rattle.std.specs.Str.{str_eq_ignore_ascii_case}
use Rattle.kd_base.specs.FirstFaults.{first_true}
use Rattle.kdcdef_read.specs.declared.words.Keyword.{Keyword}
use Rattle.kdcdef_read.specs.declared.words.Keyword.TheVariants as keywords
use Rattle.kdcdef_read.specs.declared.words.Form.{Form}
use Rattle.kdcdef_read.specs.declared.words.Form.TheVariants as forms
use Rattle.kdcdef_read.specs.declared.words.Key.{Key}
use Rattle.kdcdef_read.specs.declared.words.Key.TheVariants as keys

-- the same word, in either case
abbrev pub is : List ℕ → List ℕ → Bool
is word text = str_eq_ignore_ascii_case word text

-- the statements whose operands are kept
abbrev pub kept_of : List ℕ → Option Keyword
kept_of word =
    first_true
    ((is word (codes "MAX"), keywords.Max) ∷ (is word (codes "PROGRAM"), keywords.Program) ∷ (is word (codes "TAC"), keywords.Tac)
    ∷ (is word (codes "USER"), keywords.User) ∷ (is word (codes "PTERM"), keywords.Pterm) ∷ (is word (codes "LTERM"), keywords.Lterm)
    ∷ (is word (codes "TLS"), keywords.Tls) ∷ (is word (codes "ULS"), keywords.Uls) ∷ (is word (codes "TACCLASS"), keywords.TacClass)
    ∷ (is word (codes "KSET"), keywords.Kset) ∷ [])

-- the nine statements that are read and not kept
abbrev pub is_passed : List ℕ → Bool
is_passed word =
    is word (codes "FORMSYS") || is word (codes "ROOT") || is word (codes "OPTION") || is word (codes "EXIT") || is word (codes "MESSAGE")
    || is word (codes "BCAMAPPL") || is word (codes "RESERVE") || is word (codes "SIGNON") || is word (codes "ACCOUNT")

-- what the other keywords stand for
abbrev pub other_form : List ℕ → Option Form
other_form word = first_true ((is_passed word, forms.Passed) ∷ (is word (codes "END"), forms.End) ∷ [])

-- a statement whose operands are kept, or another one
abbrev pub kept_form : Option Keyword → Option Form → Option Form
kept_form None other = other
kept_form (Some keyword) other = Some (forms.Kept keyword)

-- what a keyword stands for
abbrev pub form_of : List ℕ → Option Form
form_of word = kept_form (kept_of word) (other_form word)

-- the keys of MAX
abbrev pub limit_key : List ℕ → Option Key
limit_key word =
    first_true
    ((is word (codes "APPLINAME"), keys.Appliname) ∷ (is word (codes "KDCFILE"), keys.KdcFile) ∷ (is word (codes "TASKS"), keys.Tasks) ∷ (is word (codes "ASYNTASKS"), keys.Asyntasks)
    ∷ (is word (codes "GSSBS"), keys.Gssbs) ∷ (is word (codes "LSSBS"), keys.Lssbs) ∷ (is word (codes "KB"), keys.Kb) ∷ (is word (codes "SPAB"), keys.Spab)
    ∷ (is word (codes "NB"), keys.Nb) ∷ (is word (codes "PGPOOL"), keys.Pgpool) ∷ (is word (codes "RESWAIT"), keys.Reswait) ∷ (is word (codes "BLKSIZE"), keys.Blksize)
    ∷ (is word (codes "APPLIMODE"), keys.Applimode) ∷ (is word (codes "REDELIVERY"), keys.Redelivery) ∷ [])

-- the other keys
abbrev pub entry_key : List ℕ → Option Key
entry_key word =
    first_true
    ((is word (codes "PROGRAM"), keys.Program) ∷ (is word (codes "TYPE"), keys.Type) ∷ (is word (codes "CALL"), keys.Call) ∷ (is word (codes "STATUS"), keys.Status)
    ∷ (is word (codes "TACCLASS"), keys.TacClass) ∷ (is word (codes "TIME"), keys.Time) ∷ (is word (codes "LOCK"), keys.Lock) ∷ (is word (codes "PASS"), keys.Pass)
    ∷ (is word (codes "RESTART"), keys.Restart) ∷ (is word (codes "KSET"), keys.Kset) ∷ (is word (codes "LTERM"), keys.Lterm) ∷ (is word (codes "USAGE"), keys.Usage)
    ∷ (is word (codes "KEYS"), keys.Keys) ∷ [])

-- the key that a word is
abbrev pub key_of : List ℕ → Option Key
key_of word = option_or (limit_key word) (entry_key word)

-- the place of a key among all keys
abbrev pub place_of : Key → ℕ
place_of keys.First = 0
place_of keys.Appliname = 1
place_of keys.KdcFile = 2
place_of keys.Tasks = 3
place_of keys.Asyntasks = 4
place_of keys.Gssbs = 5
place_of keys.Lssbs = 6
place_of keys.Kb = 7
place_of keys.Spab = 8
place_of keys.Nb = 9
place_of keys.Pgpool = 10
place_of keys.Reswait = 11
place_of keys.Blksize = 12
place_of keys.Applimode = 13
place_of keys.Redelivery = 14
place_of keys.Program = 15
place_of keys.Type = 16
place_of keys.Call = 17
place_of keys.Status = 18
place_of keys.TacClass = 19
place_of keys.Time = 20
place_of keys.Lock = 21
place_of keys.Pass = 22
place_of keys.Restart = 23
place_of keys.Kset = 24
place_of keys.Lterm = 25
place_of keys.Usage = 26
place_of keys.Keys = 27
