-- Keys are told apart by their places.
use Rattle.std.proofs.Common.{◌≡◌, ◌<◌, true, List, [], ◌∷◌, Some, refl, sym, ap, ◌∙◌}
use Rattle.std.proofs.lemmas.Option.{slice_get_within}
use Rattle.std.specs.List.{slice_get}
use Rattle.std.proofs.lemmas.Bool.{eqb-true}
use Rattle.kd_base.specs.ToolsLaws.{some_is}
use Rattle.kdcdef_read.specs.declared.words.Key.{Key}
use Rattle.kdcdef_read.specs.declared.words.Key.TheVariants as keys
use Rattle.kdcdef_read.specs.Words.{place_of}
use Rattle.kdcdef_read.specs.Operands.{same_key}

abbrev all_keys : List Key
all_keys =
    keys.First ∷ keys.Appliname ∷ keys.KdcFile ∷ keys.Tasks ∷ keys.Asyntasks ∷ keys.Gssbs ∷ keys.Lssbs ∷ keys.Kb ∷ keys.Spab ∷ keys.Nb ∷ keys.Pgpool ∷ keys.Reswait ∷ keys.Blksize ∷ keys.Applimode ∷ keys.Redelivery ∷ keys.Program ∷ keys.Type ∷ keys.Call ∷ keys.Status ∷ keys.TacClass ∷ keys.Time ∷ keys.Lock ∷ keys.Pass ∷ keys.Restart ∷ keys.Kset ∷ keys.Lterm ∷ keys.Usage ∷ keys.Keys ∷ []

at_place : (key : Key) → slice_get all_keys (place_of key) ≡ Some key
at_place keys.First = refl
at_place key = refl

pub within : (key : Key) → place_of key < 28
within key = slice_get_within all_keys (place_of key) key (at_place key)

pub same_place : (a b : Key) → place_of a ≡ place_of b → a ≡ b
same_place a b e = some_is a b (sym (at_place a) ∙ ap (slice_get all_keys) e ∙ at_place b)

pub same_key_is : (a b : Key) → same_key a b ≡ true → a ≡ b
same_key_is a b h = same_place a b (eqb-true (place_of a) (place_of b) h)
