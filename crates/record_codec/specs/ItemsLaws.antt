-- Laws: so many items, read one after another.
use Rattle.std.specs.Prelude.{◌≡◌, ℕ, zero, suc, ◌+◌, ◌-◌, ◌<◌, ◌≤◌, List, [], ◌∷◌, ◌++◌, length, flat_map, Option, Some, None, option_and_then, Result, Ok, Err}
use Rattle.std.proofs.Common.{sym, ap, subst, ◌∙◌, append-nil, length-append, arith}
use Rattle.std.specs.Result.{IsErr, IsErrAnd}
use Rattle.std.specs.Option.{option_map}
use Rattle.kd_base.specs.Tools.{onto_first}
use Rattle.kd_base.specs.ToolsLaws.{onto_first_then}
use Rattle.record_codec.specs.Fields.{items}
use Rattle.record_codec.specs.Reads.{Reads}
use Rattle.record_codec.specs.declared.reading.Unread.{Unread}
use Rattle.record_codec.specs.declared.reading.Unread.TheVariants.{NotThere, Memory}

abbrev pub error : {A : Type 0} → Unread → Result A Unread
error e = Err e

module _ {A : Type 0} (one : List ℕ → Option (A × List ℕ)) where
  abbrev Items : Type 0
  Items = Option (List A × List ℕ)

  pub none_left : (n k : ℕ) (so_far : List A) (whole : Items) (old : List ℕ) → k < n → onto_first so_far (items one (n - k) old) ≡ whole → one old ≡ None → whole ≡ None
  unfolding items
  none_left n k so_far whole old h e none =
      let more : n - k ≡ suc (n - (k + 1)) = omega (arith, h) in
      sym e ∙ ap (λ (m : ℕ). onto_first so_far (items one m old)) more
      ∙ ap (λ o. onto_first so_far (option_and_then (λ p. option_map (λ q. (p.0 ∷ q.0, q.1)) (items one (n - (k + 1)) p.1)) o)) none

  pub one_more : (n k : ℕ) (so_far : List A) (whole : Items) (old new : List ℕ) (x : A) → k < n → onto_first so_far (items one (n - k) old) ≡ whole → one old ≡ Some (x, new) → onto_first (so_far ++ x ∷ []) (items one (n - (k + 1)) new) ≡ whole
  unfolding items
  one_more n k so_far whole old new x h e found =
      let more : n - k ≡ suc (n - (k + 1)) = omega (arith, h) in
      onto_first_then so_far (x ∷ []) (items one (n - (k + 1)) new)
      ∙ sym (ap (λ (m : ℕ). onto_first so_far (items one m old)) more
      ∙ ap (λ o. onto_first so_far (option_and_then (λ p. option_map (λ q. (p.0 ∷ q.0, q.1)) (items one (n - (k + 1)) p.1)) o)) found)
      ∙ e

  pub all_read : (n k : ℕ) (so_far : List A) (whole : Items) (left : List ℕ) → n ≤ k → onto_first so_far (items one (n - k) left) ≡ whole → whole ≡ Some (so_far, left)
  unfolding items
  all_read n k so_far whole left h e =
      let none : n - k ≡ zero = omega (arith, h) in
      sym e ∙ ap (λ (m : ℕ). onto_first so_far (items one m left)) none ∙ ap (λ (l : List A). let o : Items = Some (l, left) in o) (append-nil so_far)

  pub fails : (n k : ℕ) (so_far : List A) (whole : Items) (old left : List ℕ) (e : Unread) → k < n → onto_first so_far (items one (n - k) old) ≡ whole → Reads (error {A = A} e) left (one old) → Reads (error {A = List A} e) left whole
  fails n k so_far whole old left NotThere h e none = none_left n k so_far whole old h e none
  fails n k so_far whole old left Memory h e none = tt

  pub fails_as : (n k : ℕ) (so_far : List A) (whole : Items) (old left : List ℕ) (e : Unread) (r : Result (List A) Unread) → IsErr r × IsErrAnd r (λ x. x ≡ e) → k < n → onto_first so_far (items one (n - k) old) ≡ whole → Reads (error {A = A} e) left (one old) → Reads r left whole
  fails_as n k so_far whole old left e (Ok x) is h f none = absurd (cc is.0)
  fails_as n k so_far whole old left e (Err x) is h f none = subst (λ (y : Unread). Reads (error {A = List A} y) left whole) (sym is.1) (fails n k so_far whole old left e h f none)

-- there are as many items as bytes at most
pub count_within : {A : Type 0} (bytes_of : A → List ℕ) → ((x : A) → 1 ≤ length (bytes_of x)) → (xs : List A) → length xs ≤ length (flat_map bytes_of xs)
count_within bytes_of some [] = omega arith
count_within bytes_of some (x ∷ xs) = omega (arith, length-append (bytes_of x) (flat_map bytes_of xs), some x, count_within bytes_of some xs)
