-- The keywords that statements begin with.
use Rattle.std.specs.Prelude.{ℕ, Bool, false, ◌&&◌, ◌||◌, ◌==◌, List, [], ◌∷◌, length, drop, Option, if◌then◌else◌, codes, bytes_eq, find}
use Rattle.kd_base.specs.declared.words.Variant.{Variant}
use Rattle.kd_base.specs.declared.words.Variant.TheVariants.{Kp, Pr, Pa, Re, Sp, Fi, Fc, Fr, Er, Rs}
use Rattle.unit_read.specs.declared.word.Word.{Word}
use Rattle.unit_read.specs.declared.word.Word.TheVariants.{Plain}
use Rattle.unit_read.specs.declared.key.Key.{Key}
use Rattle.unit_read.specs.declared.key.Key.TheVariants as keys
use Rattle.unit_read.specs.declared.key.TheConstants.{KEYS}

abbrev pub variant_keyword : Variant → List ℕ
variant_keyword Kp = codes "KP"
variant_keyword Pr = codes "PR"
variant_keyword Pa = codes "PA"
variant_keyword Re = codes "RE"
variant_keyword Sp = codes "SP"
variant_keyword Fi = codes "FI"
variant_keyword Fc = codes "FC"
variant_keyword Fr = codes "FR"
variant_keyword Er = codes "ER"
variant_keyword Rs = codes "RS"

-- the keyword of the call or the plain statement, and that of the operation or the variant; empty where there is none
abbrev pub keywords_of : Key → List ℕ × List ℕ
keywords_of keys.Move = (codes "MOVE", [])
keywords_of keys.Join = (codes "JOIN", [])
keywords_of keys.Add = (codes "ADD", [])
keywords_of keys.Sub = (codes "SUB", [])
keywords_of keys.Mul = (codes "MUL", [])
keywords_of keys.Div = (codes "DIV", [])
keywords_of keys.If = (codes "IF", [])
keywords_of keys.Jump = (codes "JUMP", [])
keywords_of keys.Init = (codes "INIT", [])
keywords_of keys.Mget = (codes "MGET", [])
keywords_of keys.Mput = (codes "MPUT", [])
keywords_of keys.Fget = (codes "FGET", [])
keywords_of keys.Fput = (codes "FPUT", [])
keywords_of keys.Dput = (codes "DPUT", [])
keywords_of keys.SgetGb = (codes "SGET", codes "GB")
keywords_of keys.SputGb = (codes "SPUT", codes "GB")
keywords_of keys.SrelGb = (codes "SREL", codes "GB")
keywords_of keys.SgetKp = (codes "SGET", codes "KP")
keywords_of keys.SgetRl = (codes "SGET", codes "RL")
keywords_of keys.SputMs = (codes "SPUT", codes "MS")
keywords_of keys.SrelLb = (codes "SREL", codes "LB")
keywords_of keys.SgetUs = (codes "SGET", codes "US")
keywords_of keys.SputUs = (codes "SPUT", codes "US")
keywords_of keys.Gtda = (codes "GTDA", [])
keywords_of keys.Ptda = (codes "PTDA", [])
keywords_of keys.UnlkGb = (codes "UNLK", codes "GB")
keywords_of keys.UnlkUs = (codes "UNLK", codes "US")
keywords_of keys.UnlkDa = (codes "UNLK", codes "DA")
keywords_of (keys.Pend variant) = (codes "PEND", variant_keyword variant)

abbrev pub first_keyword : Key → List ℕ
first_keyword key = (keywords_of key).0

abbrev pub second_keyword : Key → List ℕ
second_keyword key = (keywords_of key).1

-- the word in front is this one
abbrev pub is_front : List Word → List ℕ → Bool
is_front (Plain word ∷ words) wanted = bytes_eq word wanted
is_front _ wanted = false

abbrev pub begins_with : List Word → Key → Bool
begins_with words key = is_front words (first_keyword key) && (length (second_keyword key) == 0 || is_front (drop 1 words) (second_keyword key))

-- the statement that the words begin with
abbrev pub key_of : List Word → Option Key
key_of words = find (begins_with words) KEYS

abbrev pub keyword_count : Key → ℕ
keyword_count key = if length (second_keyword key) == 0 then 1 else 2
