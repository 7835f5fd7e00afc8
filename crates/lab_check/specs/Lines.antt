-- What a text is called, and how a refusal is printed.
use Rattle.std.specs.Prelude.{ℕ, List, ◌++◌, codes}
use Rattle.std.specs.Fmt.{decimal}
use Rattle.lab_check.specs.declared.lab_findings.refusal.Refusal.{Refusal}
use Rattle.lab_check.specs.declared.lab_findings.text_name.TextName.{TextName}
use Rattle.lab_check.specs.declared.lab_findings.text_name.TextName.TheVariants.{Definition, Units, Script}

-- the word by which a text is printed
abbrev pub word_of : TextName → List ℕ
word_of Definition = codes "DEF"
word_of Units = codes "UNITS"
word_of Script = codes "SCRIPT"

-- the line of a refusal, without its end
abbrev pub refusal_line : Refusal → List ℕ
refusal_line r = word_of r.text ++ (codes " " ++ (decimal r.line ++ codes " ")) ++ r.name.now
