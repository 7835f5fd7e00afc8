-- How the lines of units are written.
use Rattle.std.specs.Prelude.{◌≡◌, ℕ, ◌<◌, ◌≤◌, Bool, true, false, IsTrue, List, [], ◌∷◌, ◌++◌, length, Some, None, codes}
use Rattle.std.specs.List.{list_all}
use Rattle.kd_base.specs.Limits.{longest_content}
use Rattle.kd_base.specs.Fronts.{begins}
use Rattle.kd_base.specs.Text.{IsProgName, IsDecimal, decimal_value}
use Rattle.kd_base.specs.declared.words.Mode.{Mode}
use Rattle.kd_base.specs.declared.words.Mode.TheVariants.{Relative, Absolute}
use Rattle.application_types.specs.declared.unit_types.action.HeaderName.{HeaderName}
use Rattle.application_types.specs.declared.unit_types.action.HeaderName.TheVariants.{Benid, Logter, Tacvg, Tacal, Crccc, Rlm}
use Rattle.application_types.specs.declared.unit_types.action.Operand.{Operand}
use Rattle.application_types.specs.declared.unit_types.action.Operand.TheVariants as operands
use Rattle.application_types.specs.declared.unit_types.action.Relation.{Relation}
use Rattle.application_types.specs.declared.unit_types.action.Relation.TheVariants.{Eq, Ne, Lt, Gt}
use Rattle.application_types.specs.declared.unit_types.action.Action.{Action}
use Rattle.application_types.specs.declared.unit_types.action.Action.TheVariants as actions
use Rattle.unit_read.specs.declared.word.Word.{Word}
use Rattle.unit_read.specs.declared.word.Word.TheVariants.{Plain, Literal}
use Rattle.unit_read.specs.declared.piece.Piece.{Piece}
use Rattle.unit_read.specs.declared.piece.Piece.TheVariants as pieces
use Rattle.texts.specs.Quotes.{is_quote, doubled}
use Rattle.texts.specs.Parts.{AreParts}
use Rattle.unit_read.specs.Lines.{is_word_byte, is_passed}
use Rattle.unit_read.specs.Operands.{is_name, header_of}
use Rattle.unit_read.specs.Keys.{variant_keyword}
use Rattle.unit_read.specs.Statements.{takes_follow_up}

-- ---- words as bytes

-- the bytes of a word
abbrev pub written : Word → List ℕ
written (Plain word) = word
written (Literal content) = 39 ∷ (doubled content ++ 39 ∷ [])

-- a plain word has no blank, and begins with no quote
abbrev pub IsWord : Word → Type 0
IsWord (Plain word) = (0 < length word) × IsTrue (list_all is_word_byte word) × (begins is_quote word ≡ false)
IsWord (Literal content) = Unit {0}

-- no more of the word follows
abbrev pub WordEnds : Word → List ℕ → Type 0
WordEnds w rest = begins is_word_byte rest ≡ false

-- the line is these words, with blanks before, between and after them
abbrev pub AreWords : List Word → List ℕ → Type 0
AreWords ws bytes = AreParts written IsWord WordEnds ws bytes

-- ---- operands as words

abbrev pub header_name : HeaderName → List ℕ
header_name Benid = codes "KCBENID"
header_name Logter = codes "KCLOGTER"
header_name Tacvg = codes "KCTACVG"
header_name Tacal = codes "KCTACAL"
header_name Crccc = codes "KCRCCC"
header_name Rlm = codes "KCRLM"

abbrev pub operand_word : Operand → Word
operand_word (operands.Field name) = Plain name
operand_word (operands.Literal bytes) = Literal bytes
operand_word (operands.Digits digits) = Plain digits
operand_word (operands.Header header) = Plain (header_name header)
operand_word (operands.Trim name) = Plain (codes "TRIM(" ++ (name ++ codes ")"))

-- names have their form, a field has no header's name, a literal has at most 32,767 bytes, digits are 1 to 18
abbrev pub IsOperand : Operand → Type 0
IsOperand (operands.Field name) = IsTrue (is_name name) × (header_of name ≡ None)
IsOperand (operands.Literal bytes) = length bytes ≤ longest_content
IsOperand (operands.Digits digits) = IsDecimal digits
IsOperand (operands.Header header) = Unit {0}
IsOperand (operands.Trim name) = IsTrue (is_name name)

abbrev pub relation_name : Relation → List ℕ
relation_name Eq = codes "EQ"
relation_name Ne = codes "NE"
relation_name Lt = codes "LT"
relation_name Gt = codes "GT"

abbrev pub mode_name : Mode → List ℕ
mode_name Relative = codes "R"
mode_name Absolute = codes "A"

-- ---- statements as words

-- the words of a statement
abbrev pub spelled : Action → List Word
spelled (actions.Move f o) = Plain (codes "MOVE") ∷ Plain f ∷ operand_word o ∷ []
spelled (actions.Join f o p) = Plain (codes "JOIN") ∷ Plain f ∷ operand_word o ∷ operand_word p ∷ []
spelled (actions.Add f o) = Plain (codes "ADD") ∷ Plain f ∷ operand_word o ∷ []
spelled (actions.Sub f o) = Plain (codes "SUB") ∷ Plain f ∷ operand_word o ∷ []
spelled (actions.Mul f o) = Plain (codes "MUL") ∷ Plain f ∷ operand_word o ∷ []
spelled (actions.Div f o) = Plain (codes "DIV") ∷ Plain f ∷ operand_word o ∷ []
spelled (actions.If o r p l) = Plain (codes "IF") ∷ operand_word o ∷ Plain (relation_name r) ∷ operand_word p ∷ Plain l ∷ []
spelled (actions.Jump l) = Plain (codes "JUMP") ∷ Plain l ∷ []
spelled actions.Init = Plain (codes "INIT") ∷ []
spelled (actions.Mget f) = Plain (codes "MGET") ∷ Plain f ∷ []
spelled (actions.Mput o) = Plain (codes "MPUT") ∷ operand_word o ∷ []
spelled (actions.Fget f) = Plain (codes "FGET") ∷ Plain f ∷ []
spelled (actions.Fput to o) = Plain (codes "FPUT") ∷ operand_word to ∷ operand_word o ∷ []
spelled (actions.Dput to mode d h m s o) =
    Plain (codes "DPUT") ∷ operand_word to ∷ Plain (mode_name mode) ∷ operand_word d ∷ operand_word h ∷ operand_word m ∷ operand_word s ∷ operand_word o ∷ []
spelled (actions.SgetGb n f) = Plain (codes "SGET") ∷ Plain (codes "GB") ∷ operand_word n ∷ Plain f ∷ []
spelled (actions.SputGb n o) = Plain (codes "SPUT") ∷ Plain (codes "GB") ∷ operand_word n ∷ operand_word o ∷ []
spelled (actions.SrelGb n) = Plain (codes "SREL") ∷ Plain (codes "GB") ∷ operand_word n ∷ []
spelled (actions.SgetKp n f) = Plain (codes "SGET") ∷ Plain (codes "KP") ∷ operand_word n ∷ Plain f ∷ []
spelled (actions.SgetRl n f) = Plain (codes "SGET") ∷ Plain (codes "RL") ∷ operand_word n ∷ Plain f ∷ []
spelled (actions.SputMs n o) = Plain (codes "SPUT") ∷ Plain (codes "MS") ∷ operand_word n ∷ operand_word o ∷ []
spelled (actions.SrelLb n) = Plain (codes "SREL") ∷ Plain (codes "LB") ∷ operand_word n ∷ []
spelled (actions.SgetUs n f) = Plain (codes "SGET") ∷ Plain (codes "US") ∷ operand_word n ∷ Plain f ∷ []
spelled (actions.SputUs n o) = Plain (codes "SPUT") ∷ Plain (codes "US") ∷ operand_word n ∷ operand_word o ∷ []
spelled (actions.Gtda n f) = Plain (codes "GTDA") ∷ operand_word n ∷ Plain f ∷ []
spelled (actions.Ptda n o) = Plain (codes "PTDA") ∷ operand_word n ∷ operand_word o ∷ []
spelled (actions.UnlkGb n) = Plain (codes "UNLK") ∷ Plain (codes "GB") ∷ operand_word n ∷ []
spelled (actions.UnlkUs n) = Plain (codes "UNLK") ∷ Plain (codes "US") ∷ operand_word n ∷ []
spelled (actions.UnlkDa n) = Plain (codes "UNLK") ∷ Plain (codes "DA") ∷ operand_word n ∷ []
spelled (actions.Pend v None) = Plain (codes "PEND") ∷ Plain (variant_keyword v) ∷ []
spelled (actions.Pend v (Some o)) = Plain (codes "PEND") ∷ Plain (variant_keyword v) ∷ operand_word o ∷ []

abbrev pub IsName : List ℕ → Type 0
IsName name = IsTrue (is_name name)

-- its names and operands are such, and PEND has a follow-up exactly where its variant takes one
abbrev pub IsAction : Action → Type 0
IsAction (actions.Move f o) = IsName f × IsOperand o
IsAction (actions.Join f o p) = IsName f × IsOperand o × IsOperand p
IsAction (actions.Add f o) = IsName f × IsOperand o
IsAction (actions.Sub f o) = IsName f × IsOperand o
IsAction (actions.Mul f o) = IsName f × IsOperand o
IsAction (actions.Div f o) = IsName f × IsOperand o
IsAction (actions.If o r p l) = IsOperand o × IsOperand p × IsName l
IsAction (actions.Jump l) = IsName l
IsAction actions.Init = Unit {0}
IsAction (actions.Mget f) = IsName f
IsAction (actions.Mput o) = IsOperand o
IsAction (actions.Fget f) = IsName f
IsAction (actions.Fput to o) = IsOperand to × IsOperand o
IsAction (actions.Dput to mode d h m s o) = IsOperand to × IsOperand d × IsOperand h × IsOperand m × IsOperand s × IsOperand o
IsAction (actions.SgetGb n f) = IsOperand n × IsName f
IsAction (actions.SputGb n o) = IsOperand n × IsOperand o
IsAction (actions.SrelGb n) = IsOperand n
IsAction (actions.SgetKp n f) = IsOperand n × IsName f
IsAction (actions.SgetRl n f) = IsOperand n × IsName f
IsAction (actions.SputMs n o) = IsOperand n × IsOperand o
IsAction (actions.SrelLb n) = IsOperand n
IsAction (actions.SgetUs n f) = IsOperand n × IsName f
IsAction (actions.SputUs n o) = IsOperand n × IsOperand o
IsAction (actions.Gtda n f) = IsOperand n × IsName f
IsAction (actions.Ptda n o) = IsOperand n × IsOperand o
IsAction (actions.UnlkGb n) = IsOperand n
IsAction (actions.UnlkUs n) = IsOperand n
IsAction (actions.UnlkDa n) = IsOperand n
IsAction (actions.Pend v None) = takes_follow_up v ≡ false
IsAction (actions.Pend v (Some o)) = (takes_follow_up v ≡ true) × IsOperand o

-- ---- pieces as words

abbrev pub area_name : Bool → List ℕ
area_name true = codes "SPAB"
area_name false = codes "KB"

-- the digits say the number, which is from the least one to 32,767
abbrev pub Says : ℕ → List ℕ → ℕ → Type 0
Says least digits n = IsDecimal digits × (n ≡ decimal_value digits) × (least ≤ n) × (n ≤ longest_content)

abbrev pub IsPiece : Piece → List Word → Type 0
IsPiece (pieces.Unit name) ws = (ws ≡ Plain (codes "UNIT") ∷ Plain name ∷ []) × IsProgName name
IsPiece (pieces.Field name spab offset len) ws =
    (o l : List ℕ) × (ws ≡ Plain (codes "FIELD") ∷ Plain name ∷ Plain (area_name spab) ∷ Plain o ∷ Plain l ∷ []) × IsName name × (header_of name ≡ None) × Says 0 o offset × Says 1 l len
IsPiece (pieces.Label name) ws = (ws ≡ Plain (name ++ codes ":") ∷ []) × IsName name
IsPiece (pieces.Statement a) ws = (ws ≡ spelled a) × IsAction a
IsPiece pieces.End ws = ws ≡ Plain (codes "END") ∷ []

-- the line is a spelling of the piece
abbrev pub SpellsPiece : List ℕ → Piece → Type 0
SpellsPiece line piece = (is_passed line ≡ false) × (ws : List Word) × AreWords ws line × IsPiece piece ws
