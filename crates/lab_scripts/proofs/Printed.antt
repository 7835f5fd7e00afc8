-- A text that is printed after nothing.
use Rattle.std.proofs.Common.{◌≡◌, ℕ, List, [], ◌++◌, subst}
use Rattle.lab_turns.specs.Consoles.{Passed, printed}

pub printed_then : {C : Type 0} (passes : C → List Passed → C → Type 0) (both : (a b c : C) (xs ys : List Passed) → passes a xs b → passes b ys c → passes a (xs ++ ys) c) (a b c : C) (text text' : List ℕ) → text ≡ text' → passes a [] b → passes b (printed text) c → passes a (printed text') c
printed_then passes both a b c text text' is quiet put = subst (λ (l : List ℕ). passes a (printed l) c) is (both a b c [] (printed text) quiet put)
