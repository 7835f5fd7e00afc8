-- The sequence of a content, by what is found for its key.
use Rattle.std.proofs.Common.{◌≡◌, ℕ, ◌<◌, ◌^◌, List, length, get_or, Option, Some, None, Result, Ok, Err, sym, ap, subst, ◌∙◌}
use Rattle.std.specs.Prelude.{IsTrue, IfSome, IfNone}
use Rattle.std.specs.FinMap.{find, is_sorted}
use Rattle.kd_base.specs.ToolsLaws.{some_is, some_of}
use Rattle.kd_base.specs.Places.{IsPlace}
use Rattle.kd_base.specs.PlacesLaws.{found_entry, none_found}
use Rattle.kd_records.specs.declared.content.Content.{Content}
use Rattle.kd_records.specs.declared.key.RecordKey.{RecordKey}
use Rattle.kd_records.specs.Contents.{Record}
use Rattle.kd_records.specs.Keys.{key_cmp}
use Rattle.kd_records.specs.KeyLaws.{key_total}
use Rattle.kdcfile_copies.specs.Copies.{HasSequence, sequence_key, sequence_value}
use Rattle.kdcfile_copies.specs.CopiesLaws.{some_none, length_sequence_value}

module _ (y : Content) (searched : List Record) (k : RecordKey) (up : IsTrue (is_sorted key_cmp y.items)) (is : searched ≡ y.items) (key : k ≡ sequence_key) where
  pub found_at : (place : Result ℕ ℕ) (at : ℕ) (e : Record) (bytes : List ℕ) → IsPlace key_cmp k searched place → place ≡ Ok at → e ≡ get_or searched at e → bytes ≡ (get_or searched at e).1 → Some bytes ≡ find key_cmp sequence_key y.items
  found_at place at e bytes there ok read value =
      let found : Some e.1 ≡ find key_cmp k y.items = found_entry key_cmp key_total k y.items searched at e up is (subst (λ (r : Result ℕ ℕ). IsPlace key_cmp k searched r) ok there) (read ∙ ap (λ (l : List Record). get_or l at e) is) in
      ap (λ (v : List ℕ). some_of v) (value ∙ sym (ap (λ (r : Record). r.1) read)) ∙ found ∙ ap (λ (q : RecordKey). find key_cmp q y.items) key

  pub not_found : (place : Result ℕ ℕ) (at : ℕ) → IsPlace key_cmp k searched place → place ≡ Err at → None ≡ find key_cmp sequence_key y.items
  not_found place at there err =
      none_found key_cmp key_total k y.items searched at up is (subst (λ (r : Result ℕ ℕ). IsPlace key_cmp k searched r) err there) ∙ ap (λ (q : RecordKey). find key_cmp q y.items) key

pub some_sequence : (o : Option ℕ) (bytes : List ℕ) (y : Content) → Some bytes ≡ find key_cmp sequence_key y.items → IfSome o (λ n. bytes ≡ sequence_value n) → IfSome o (λ n. n < 2 ^ 64) → IfSome o (λ n. HasSequence n y)
some_sequence None bytes y found is small = tt
some_sequence (Some n) bytes y found is small = record { found = sym found ∙ ap (λ (v : List ℕ). some_of v) is; small = small }

pub no_sequence : (o : Option ℕ) (bytes : List ℕ) (y : Content) → Some bytes ≡ find key_cmp sequence_key y.items → IfNone o (length bytes ≡ 8 → ⊥) → IfNone o ((n : ℕ) → HasSequence n y → ⊥)
no_sequence (Some n) bytes y found none = tt
no_sequence None bytes y found none = λ n has. none (ap (λ (v : List ℕ). length v) (some_is bytes (sequence_value n) (found ∙ has.found)) ∙ length_sequence_value n)

pub none_there : (y : Content) → None ≡ find key_cmp sequence_key y.items → (n : ℕ) → HasSequence n y → ⊥
none_there y none n has = some_none (sym has.found ∙ sym none)
