-- Slots whose records were read, with one slot more.
use Rattle.std.proofs.Common.{ℕ, ◌+◌, List, [], ◌∷◌, ◌++◌, Option, Some, None, refl, sym, subst, arith, append-nil, length-append}
use Rattle.std.proofs.lemmas.List.Elements.{All-nil, All-cons, All-append}
use Rattle.kd_records.specs.Contents.{Record, IsRecord}
use Rattle.kdcfile_layout.specs.declared.chain.Chain.{Chain}
use Rattle.kdcfile_layout.specs.declared.kdcfile_read.slot.First.{First}
use Rattle.kdcfile_layout.specs.Chains.{Chained}
use Rattle.kdcfile_load.specs.Gathers.{AreKept}
use Rattle.kdcfile_load.specs.Reads.{with_free, with_record, IsCharged, IsFirst, Follows, IsGathering}
use Rattle.kdcfile_load.specs.declared.records.Gathering.{Gathering}

-- joined tables
pub kept_joined : (size : ℕ) (slots more : List (Option Chain)) (records rest : List Record) → AreKept size slots records → AreKept size more rest → AreKept size (slots ++ more) (records ++ rest)
kept_joined size [] more [] rest kept also = also
kept_joined size [] more (r ∷ records) rest kept also = absurd kept
kept_joined size (None ∷ slots) more records rest kept also = kept_joined size slots more records rest kept also
kept_joined size (Some c ∷ slots) more [] rest kept also = absurd kept
kept_joined size (Some c ∷ slots) more (r ∷ records) rest kept also = (kept.0, kept.1, kept_joined size slots more records rest kept.2 also)

with_free_is : (size n : ℕ) (g : Gathering) → IsGathering size n g → IsGathering size (n + 1) (with_free g)
with_free_is size n g is = record {
  number = omega (arith, length-append {A = Option Chain} g.slots (None ∷ []), is.number);
  kept = subst (λ (l : List Record). AreKept size (g.slots ++ None ∷ []) l) (append-nil g.records) (kept_joined size g.slots (None ∷ []) g.records [] is.kept tt);
  records = is.records;
}

with_record_is : (size n : ℕ) (g : Gathering) (f : First) (r : Chained) → IsGathering size n g → IsFirst (Some f) → IsCharged size r → IsGathering size (n + 1) (with_record g f.key r)
with_record_is size n g f r is key charged = record {
  number = omega (arith, length-append {A = Option Chain} g.slots (Some (record { key = f.key; pages = r.0 }) ∷ []), is.number);
  kept = kept_joined size g.slots (Some (record { key = f.key; pages = r.0 }) ∷ []) g.records ((f.key, r.1) ∷ []) is.kept (refl, charged.pages, tt);
  records =
      All-append IsRecord g.records ((f.key, r.1) ∷ []) is.records
      (All-cons IsRecord (f.key, r.1) [] (record { kind_from_one = key.kind_from_one; kind_is_byte = key.kind_is_byte; key_length = key.key_length; value_length = charged.value }) (All-nil IsRecord));
}

pub gathering_more : (size n : ℕ) (g next : Gathering) (o : Option First) → IsGathering size n g → IsFirst o → Follows size o g next → IsGathering size (n + 1) next
gathering_more size n g next None is key follows = subst (λ (x : Gathering). IsGathering size (n + 1) x) (sym follows) (with_free_is size n g is)
gathering_more size n g next (Some f) is key follows = subst (λ (x : Gathering). IsGathering size (n + 1) x) (sym follows.1) (with_record_is size n g f follows.0 is key follows.2)
