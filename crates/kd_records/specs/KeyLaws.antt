-- The order of keys is total, and keys that tie are one key.
use Rattle.std.specs.Prelude.{◌≡◌, ℕ, List, slice_index, drop}
use Rattle.std.proofs.Common.{ap}
use Rattle.std.specs.Cmp.{IsTotalOrder, on_total}
use Rattle.std.specs.Cmp.Lexicographic.{nat_list_cmp_total}
use Rattle.std.specs.FinMap.{IsAntisymmetric, slice_cmp-IsAntisymmetric, nat_cmp-IsAntisymmetric}
use Rattle.kd_records.specs.declared.key.RecordKey.{RecordKey}
use Rattle.kd_records.specs.Keys.{key_text, key_cmp}

pub key_total : IsTotalOrder key_cmp
key_total = on_total key_text nat_list_cmp_total

key_back : (a b : RecordKey) → key_text a ≡ key_text b → a ≡ b
key_back a b e =
    let kinds : a.kind ≡ b.kind = ap (λ (t : List ℕ). slice_index t 0) e in
    let bytes : a.bytes ≡ b.bytes = ap (λ (t : List ℕ). drop 1 t) e in
    λ i. record { kind = kinds i; bytes = bytes i }

pub same_key : IsAntisymmetric key_cmp
same_key a b e = key_back a b (slice_cmp-IsAntisymmetric nat_cmp-IsAntisymmetric (key_text a) (key_text b) e)
