-- Laws: texts that compare as equal are the same bytes, and `==` says the same of them.
use Rattle.std.proofs.Common.{◌≡◌, ℕ, true, List, ◌∙◌}
use Rattle.std.specs.Prelude.{nat_eq}
use Rattle.std.specs.Cmp.Lexicographic.{pointwise, texts_ties}
use Rattle.std.proofs.lemmas.Slice.Eq.{bytes_eq-Decides}
use Rattle.script_read.specs.Script.{same}

pub same_texts : (a b : List ℕ) → pointwise nat_eq a b ≡ same a b
same_texts a b = texts_ties a b

pub same_bytes : (a b : List ℕ) → same a b ≡ true → a ≡ b
same_bytes a b h = (bytes_eq-Decides a b).0 (texts_ties a b ∙ h)
