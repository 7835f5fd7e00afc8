-- The search for a text by its name.
use Rattle.std.proofs.Common.{◌≡◌, ◌∙◌, ℕ, ◌+◌, ◌<◌, List, Bool, true, false, cond, length, drop, get_or, refl, ap, add-one}
use Rattle.std.specs.Prelude.{Some}
use Rattle.std.specs.Str.{bytes_eq}
use Rattle.std.proofs.Math.Seq.{drop-cons}
use Rattle.std.proofs.lemmas.Map.Text.{is_eq-slice_cmp}
use Rattle.kd_device.specs.Room.{text_of}

module _ (name : List ℕ) (texts : List (List ℕ × List ℕ)) (i : ℕ) (d : List ℕ × List ℕ) (lt : i < length texts) where
  here : text_of name (drop i texts) ≡ cond (bytes_eq name (get_or texts i d).0) (Some (get_or texts i d).1) (text_of name (drop (i + 1) texts))
  here = rw (add-one, drop-cons texts i d lt, is_eq-slice_cmp name (get_or texts i d).0) refl

  pub found : bytes_eq name (get_or texts i d).0 ≡ true → text_of name (drop i texts) ≡ Some (get_or texts i d).1
  found e = here ∙ ap (λ (b : Bool). cond b (Some (get_or texts i d).1) (text_of name (drop (i + 1) texts))) e

  pub passed : bytes_eq name (get_or texts i d).0 ≡ false → text_of name (drop i texts) ≡ text_of name (drop (i + 1) texts)
  passed e = here ∙ ap (λ (b : Bool). cond b (Some (get_or texts i d).1) (text_of name (drop (i + 1) texts))) e
