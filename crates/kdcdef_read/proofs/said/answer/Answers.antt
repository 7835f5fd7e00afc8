use Rattle.std.proofs.Common.{◌≡◌, ℕ, ◌<◌, List, length, get_or, Option, refl, ◌∙◌, rules}
use Rattle.std.specs.Option.{option_or}
use Rattle.std.proofs.lemmas.Option.{slice_get-get_or}
use Rattle.kdcdef_read.specs.declared.value.Value.{Value}
use Rattle.kdcdef_read.specs.declared.words.Keyword.{Keyword}
use Rattle.kdcdef_read.specs.declared.words.Key.{Key}
use Rattle.kdcdef_read.specs.Words.{place_of}
use Rattle.kdcdef_read.specs.Table.{row_of}
use Rattle.kdcdef_read.specs.Operands.{default_in}
use Rattle.kdcdef_read.specs.Filling.{answer}
use Rattle.kdcdef_read.proofs.said.answer.Goals as goal

at_place : (keyword : Keyword) (slots : List (Option Value)) (key : Key) (place : ℕ) (other : Option Value) → place ≡ place_of key → place < length slots
    → option_or (get_or slots place other) (default_in (row_of keyword key)) ≡ answer keyword slots key
at_place keyword slots key place other is within = rw (← is, slice_get-get_or slots place other within) refl

pub returns : goal.returns
returns c =
    let within : c.place_of.result < length c.args.given.now.slots = search rules in
    c.or.ensures ∙ rw c.default_of.ensures (at_place c.args.keyword c.args.given.now.slots c.args.key c.place_of.result c.index-given-place_of.result c.place_of.ensures.place within)
