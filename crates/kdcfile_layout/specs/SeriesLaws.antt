-- Parts of a file, one after another.
use Rattle.std.proofs.Common.{◌≡◌, ℕ, ◌+◌, ◌<◌, ◌≤◌, List, [], ◌∷◌, ◌++◌, length, take, get_or, Bor, ap, ◌∙◌}
use Rattle.std.proofs.lemmas.Grind.{flat_map-append}
use Rattle.std.proofs.lemmas.List.{append-nil, take_more}
use Rattle.std.proofs.lemmas.List.Folds.{length-flat_map-take}
use Rattle.kdcfile_layout.specs.Series.{together}

-- one part more at the end
pub together_more : (parts : List (Bor (List ℕ))) (part : Bor (List ℕ)) → together (parts ++ part ∷ []) ≡ together parts ++ part.now
together_more parts part = flat_map-append (λ (p : Bor (List ℕ)). p.now) parts (part ∷ []) ∙ ap (λ (l : List ℕ). together parts ++ l) (append-nil part.now)

-- the parts up to a place, and the next one
pub together_next : (parts : List (Bor (List ℕ))) (i : ℕ) (d : Bor (List ℕ)) → i < length parts → together (take (i + 1) parts) ≡ together (take i parts) ++ (get_or parts i d).now
together_next parts i d lt = ap (λ (l : List (Bor (List ℕ))). together l) (take_more parts i d lt) ∙ together_more (take i parts) (get_or parts i d)

-- they are no more than all of them
pub together_within : (parts : List (Bor (List ℕ))) (i : ℕ) (d : Bor (List ℕ)) → i < length parts → length (together (take i parts)) + length (get_or parts i d).now ≤ length (together parts)
together_within parts i d lt = length-flat_map-take (λ (p : Bor (List ℕ)). p.now) parts i d lt
