-- The lines of steps one after another.
use Rattle.std.specs.Prelude.{◌≡◌, ℕ, List, [], ◌∷◌, ◌++◌}
use Rattle.std.proofs.Common.{refl, sym, ap, ◌∙◌, append_assoc}
use Rattle.std.proofs.lemmas.List.{append-nil}
use Rattle.abstract_monitor.specs.Trace.{bytes_of}
use Rattle.lab_turns.specs.Heard.{Heard, Asked, Turned, Done, Over}
use Rattle.lab_scripts.specs.Records.{Records, heard_bytes}

pub records_none : (l : List ℕ) → Records l [] l
records_none l = sym (append-nil l)

pub heard_bytes_both : (xs ys : List Heard) → heard_bytes (xs ++ ys) ≡ heard_bytes xs ++ heard_bytes ys
heard_bytes_both [] ys = refl
heard_bytes_both (Asked command ∷ xs) ys = heard_bytes_both xs ys
heard_bytes_both (Turned view after acts ∷ xs) ys = ap (λ (l : List ℕ). bytes_of acts ++ l) (heard_bytes_both xs ys) ∙ sym (append_assoc (bytes_of acts) (heard_bytes xs) (heard_bytes ys))
heard_bytes_both (Done after acts ∷ xs) ys = ap (λ (l : List ℕ). bytes_of acts ++ l) (heard_bytes_both xs ys) ∙ sym (append_assoc (bytes_of acts) (heard_bytes xs) (heard_bytes ys))
heard_bytes_both (Over turns end ∷ xs) ys = heard_bytes_both xs ys

pub records_both : (a b c : List ℕ) (xs ys : List Heard) → Records a xs b → Records b ys c → Records a (xs ++ ys) c
records_both a b c xs ys first later =
    later
    ∙ ap (λ (l : List ℕ). l ++ heard_bytes ys) first
    ∙ append_assoc a (heard_bytes xs) (heard_bytes ys)
    ∙ ap (λ (l : List ℕ). a ++ l) (sym (heard_bytes_both xs ys))
