-- How far two scripts are alike.
use Rattle.std.proofs.Common.{◌≡◌, ℕ, zero, suc, ◌+◌, ◌<◌, List, [], ◌∷◌, length, take, drop, sym, ◌∙◌}
use Rattle.std.specs.Prelude.{All}
use Rattle.std.proofs.lemmas.List.{take_more_same}
use Rattle.std.proofs.lemmas.List.Elements.{All-nil, All-cons, All-head, All-tail}
use Rattle.std.proofs.lemmas.Option.{get_or_from_slice_get, slice_get_within}
use Rattle.abstract_monitor.specs.declared.command.Command.{Command}
use Rattle.lab_scripts.specs.Parting.{GoOnAlike}

pub alike_within : (one other : List Command) (at : ℕ) → GoOnAlike at one other → at < length one
alike_within one other at (c, here, there) = slice_get_within one at c here

pub alike_within_too : (one other : List Command) (at : ℕ) → GoOnAlike at one other → at < length other
alike_within_too one other at (c, here, there) = slice_get_within other at c there

-- one command more
pub alike_more : (one other : List Command) (at : ℕ) → take at one ≡ take at other → GoOnAlike at one other → take (at + 1) one ≡ take (at + 1) other
alike_more one other at same (c, here, there) =
    take_more_same one other at c (slice_get_within one at c here) (slice_get_within other at c there) same (get_or_from_slice_get one at c c here ∙ sym (get_or_from_slice_get other at c c there))

-- ---- parts of a script

module _ (P : Command → Type 0) where
  pub all_taken : (cs : List Command) (n : ℕ) → All P cs → All P (take n cs)
  all_taken cs zero all = All-nil P
  all_taken [] (suc n) all = All-nil P
  all_taken (c ∷ cs) (suc n) all = All-cons P c (take n cs) (All-head P c cs all) (all_taken cs n (All-tail P c cs all))

  pub all_left : (cs : List Command) (n : ℕ) → All P cs → All P (drop n cs)
  all_left cs zero all = all
  all_left [] (suc n) all = All-nil P
  all_left (c ∷ cs) (suc n) all = all_left cs n (All-tail P c cs all)
