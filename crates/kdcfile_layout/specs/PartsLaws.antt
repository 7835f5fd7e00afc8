-- Parts of a file, and what a torn write leaves of them.
use Rattle.std.proofs.Common.{◌≡◌, ◌⊎◌, inl, inr, ⊎_elim, ℕ, ◌+◌, ◌-◌, ◌%◌, ◌<◌, ◌≤◌, List, length, take, drop, sym, ap, ◌∙◌, arith}
use Rattle.std.proofs.lemmas.Bool.{cases_eq}
use Rattle.std.proofs.lemmas.List.{take-take, drop-drop, drop-take, length-take, length-drop}
use Rattle.kd_device.specs.Device.{Torn}
use Rattle.kdcfile_layout.specs.Layout.{StandsAt}

-- what is found in the file does not pass its end
pub within_file : (q : ℕ) (part h : List ℕ) → StandsAt q part h → 0 < length part → q + length part ≤ length h
within_file q part h stands some = omega (arith, ap (λ (l : List ℕ). length l) stands, length-take (length part) (drop q h), length-drop q h)

module _ (from upto : ℕ) (h c : List ℕ) (torn : Torn from upto h c) where
  module _ (q : ℕ) (part : List ℕ) (stands : StandsAt q part h) where
    pub stands_below : q + length part ≤ from → StandsAt q part c
    stands_below le =
        sym (drop-take q (length part) c)
        ∙ ap (λ (l : List ℕ). drop q l) (sym (take-take (q + length part) from c le) ∙ ap (λ (l : List ℕ). take (q + length part) l) torn.before ∙ take-take (q + length part) from h le)
        ∙ drop-take q (length part) h
        ∙ stands

    pub stands_above : upto ≤ q → StandsAt q part c
    stands_above le =
        let far : upto + (q - upto) ≡ q = omega arith in
        ap (λ (l : List ℕ). take (length part) l)
        (ap (λ (n : ℕ). drop n c) (sym far) ∙ sym (drop-drop (q - upto) upto c) ∙ ap (λ (l : List ℕ). drop (q - upto) l) torn.after ∙ drop-drop (q - upto) upto h ∙ ap (λ (n : ℕ). drop n h) far)
        ∙ stands

pub one_of_two : (n : ℕ) → (n % 2 ≡ 0) ⊎ (n % 2 ≡ 1)
one_of_two n = ⊎_elim (λ e. inl e) (λ e. inr (omega arith)) (cases_eq (n % 2) 0)
