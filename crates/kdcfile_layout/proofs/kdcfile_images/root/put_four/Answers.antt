use Rattle.std.proofs.Common.{rules, ◌≡◌, ℕ, zero, suc, ◌≤◌, ◌+◌, ◌++◌, List, [], ◌∷◌, length, take, drop, refl, ap, arith, slice_index_or, slice_set}
use native.Mathlib.Numerals.{unary_clauses}
use Rattle.kdcfile_layout.proofs.kdcfile_images.root.put_four.Goals as goal

-- four bytes in place of those from a place on
put_there : (xs four : List ℕ) (at : ℕ) → length four ≡ 4 → at + 4 ≤ length xs
    → slice_set (slice_set (slice_set (slice_set xs at (slice_index_or four 0 0)) (at + 1) (slice_index_or four 1 0)) (at + 2) (slice_index_or four 2 0)) (at + 3) (slice_index_or four 3 0) ≡ take at xs ++ four ++ drop (at + 4) xs
put_there (x ∷ xs) four (suc at) long room = simp unary_clauses (ap (λ (l : List ℕ). x ∷ l) (simp unary_clauses at (put_there xs four at long (omega (arith, room)))))
put_there (x ∷ y ∷ z ∷ w ∷ xs) (a ∷ b ∷ c ∷ d ∷ []) zero long room = refl
put_there xs four at long room = absurd (omega (arith, long, room))

pub returns : goal.returns
returns c = put_there c.args.to.now.items c.args.four c.args.at (search rules) c.requires
