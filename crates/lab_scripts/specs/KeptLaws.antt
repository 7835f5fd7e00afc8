-- Laws: texts that are kept one after another.
use Rattle.std.specs.Prelude.{◌≡◌, ℕ, List, [], ◌∷◌, ◌++◌}
use Rattle.std.proofs.Common.{refl, sym, ap, ◌∙◌, append_assoc}
use Rattle.std.proofs.lemmas.List.{append-nil}
use Rattle.lab_turns.specs.Consoles.{Passed, Typed, Ended, Put, printed}
use Rattle.lab_scripts.specs.Kept.{Keeps, put_in}

pub keeps_none : (l : List ℕ) → Keeps l [] l
unfolding put_in
keeps_none l = sym (append-nil l)

-- the end of the input leaves what is kept
pub keeps_end : (l : List ℕ) → Keeps l (Ended ∷ []) l
unfolding put_in
keeps_end l = sym (append-nil l)

put_both : (xs ys : List Passed) → put_in (xs ++ ys) ≡ put_in xs ++ put_in ys
unfolding put_in
put_both [] ys = refl
put_both (Typed line ∷ xs) ys = put_both xs ys
put_both (Ended ∷ xs) ys = put_both xs ys
put_both (Put byte ∷ xs) ys = ap (λ (l : List ℕ). byte ∷ l) (put_both xs ys)

pub keeps_both : (a b c : List ℕ) (xs ys : List Passed) → Keeps a xs b → Keeps b ys c → Keeps a (xs ++ ys) c
keeps_both a b c xs ys first later =
    later
    ∙ ap (λ (l : List ℕ). l ++ put_in ys) first
    ∙ append_assoc a (put_in xs) (put_in ys)
    ∙ ap (λ (l : List ℕ). a ++ l) (sym (put_both xs ys))

-- of a text that is printed all is kept
pub put_printed : (text : List ℕ) → put_in (printed text) ≡ text
unfolding put_in
put_printed [] = refl
put_printed (byte ∷ bytes) = ap (λ (l : List ℕ). byte ∷ l) (put_printed bytes)

pub keeps_put : (a b text : List ℕ) → b ≡ a ++ text → Keeps a (printed text) b
keeps_put a b text is = is ∙ ap (λ (l : List ℕ). a ++ l) (sym (put_printed text))
