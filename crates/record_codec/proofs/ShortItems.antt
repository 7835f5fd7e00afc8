-- What is short where all that was written of it is short.
use Rattle.std.specs.Prelude.{ℕ, ◌+◌, ◌-◌, ◌^◌, ◌<◌, ◌≤◌, List, length, replicate, All, get_or}
use Rattle.std.proofs.Common.{arith, length-append}
use Rattle.std.proofs.lemmas.List.{length-replicate}
use Rattle.std.proofs.lemmas.List.Folds.{length-flat_map-take}
use Rattle.kd_base.specs.Field.{list}
use Rattle.kd_base.specs.Text.{padded}
use Rattle.record_codec.specs.ItemsLaws.{count_within}
use Rattle.record_codec.specs.Values.{counted, lssb_bytes}

module _ {A : Type 0} (bytes_of : A → List ℕ) where
  pub few : ((x : A) → 1 ≤ length (bytes_of x)) → (xs : List A) → length (counted bytes_of xs) < 2 ^ 32 → length xs < 2 ^ 32
  few some xs h = omega (arith, count_within bytes_of some xs, h)

  -- each item's bytes are fewer
  item_within : (xs : List A) (i : ℕ) (d : A) → i < length xs → length (counted bytes_of xs) < 2 ^ 32 → length (bytes_of (get_or xs i d)) < 2 ^ 32
  item_within xs i d h short = omega (arith, length-flat_map-take bytes_of xs i d h, short)

pub few_parts : (xs : List (List ℕ)) → length (counted list xs) < 2 ^ 32 → length xs < 2 ^ 32
few_parts = few list (λ x. omega arith)

some_of_lssb : (x : List ℕ × List ℕ) → 12 + length x.1 ≤ length (lssb_bytes x)
some_of_lssb x = omega (arith, length-append x.0 (replicate (8 - length x.0) 32), length-replicate {A = ℕ} (8 - length x.0) 32, length-append (padded x.0) (list x.1))

pub few_lssbs : (xs : List (List ℕ × List ℕ)) → length (counted lssb_bytes xs) < 2 ^ 32 → length xs < 2 ^ 32
few_lssbs = few lssb_bytes (λ x. omega (arith, some_of_lssb x))

pub short_parts : (xs : List (List ℕ)) → length (counted list xs) < 2 ^ 32 → All (λ (part : List ℕ). length part < 2 ^ 32) xs
short_parts xs h i d k = omega (arith, item_within list xs i d k h)

pub short_lssbs : (xs : List (List ℕ × List ℕ)) → length (counted lssb_bytes xs) < 2 ^ 32 → All (λ (lssb : List ℕ × List ℕ). length lssb.1 < 2 ^ 32) xs
short_lssbs xs h i d k = omega (arith, item_within lssb_bytes xs i d k h, some_of_lssb (get_or xs i d))
