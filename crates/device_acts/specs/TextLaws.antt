-- The bytes of a fingerprint tell the texts that they were joined from.
use Rattle.std.proofs.Common.{◌≡◌, ℕ, ◌+◌, ◌<◌, ◌^◌, List, ◌++◌, length, take, drop, refl, sym, ap, ◌∙◌, append_assoc}
use Rattle.std.specs.Int.{w64, to_be_bytes}
use Rattle.kdcfile_layout.specs.FieldsLaws.{after, field, written_8}
use Rattle.kdcfile_layout.specs.Fields.{number}
use Rattle.device_acts.specs.Fingerprints.{joined, TextsAreToldApart}

module _ (a b : List ℕ) where
  parts : drop 0 (joined a b) ≡ to_be_bytes w64 (length a) ++ (a ++ b)
  parts = append_assoc (to_be_bytes w64 (length a)) a b

  size_told : length a < 2 ^ 64 → number w64 0 (joined a b) ≡ length a
  size_told small = written_8 (joined a b) (a ++ b) 0 (length a) parts small

  texts : drop 8 (joined a b) ≡ a ++ b
  texts = after (joined a b) (to_be_bytes w64 (length a)) (a ++ b) 0 8 parts refl

  first_told : take (length a) (drop 8 (joined a b)) ≡ a
  first_told = field (joined a b) a b 8 (length a) texts refl

  second_told : drop (8 + length a) (joined a b) ≡ b
  second_told = after (joined a b) a b 8 (length a) texts refl

pub texts_are_told_apart : TextsAreToldApart
texts_are_told_apart a b c d small_a small_c same =
    let sizes : length a ≡ length c = sym (size_told a b small_a) ∙ ap (number w64 0) same ∙ size_told c d small_c in (
      sym (first_told a b) ∙ (λ i. take (sizes i) (drop 8 (same i))) ∙ first_told c d,
      sym (second_told a b) ∙ (λ i. drop (8 + sizes i) (same i)) ∙ second_told c d,
    )
