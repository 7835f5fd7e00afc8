-- What a stop leaves of two copies at rest, in tables.
use Rattle.std.proofs.Common.{◌≡◌, ℕ, List, subst}
use Rattle.std.specs.Prelude.{Option, Some, None}
use Rattle.kd_records.specs.Identity.{Identity}
use Rattle.kd_records.specs.declared.content.Content.{Content}
use Rattle.kd_device.specs.Twin.{Both, disk_of, half_leaves}
use Rattle.kd_device.specs.declared.half.Half.{Half}
use Rattle.kd_device.specs.declared.half.Half.TheVariants.{First, Second}
use Rattle.kdcs_types.specs.Tables.{TableRows}
use Rattle.record_codec.specs.Records.{content_of_tables}
use Rattle.kdcfile_copies.specs.declared.answer.LoadedCopy.{LoadedCopy}
use Rattle.kdcfile_copies.specs.Copies.{IsChosen, IsCopyOf}
use Rattle.kdcfile_double.specs.Opening.{KeepsTablesTwice}
use Rattle.kdcfile_double.specs.Twice.{IsInUse, IsKeptTwice, IsOpen, IsTwice, SideRests, Twice, content_of, copy_at, identity_of, sequence_of}
use Rattle.twin_run.specs.KeepingLaws.{alone_stands, pair_stands}
use Rattle.twin_run.specs.Running.{CountsAs, IsCopyOfTables}

-- a stop now leaves copies of these tables: the one that counts, and each half in use, which is what reads give
pub record RestsTwice (i : Identity) (s : Twice) (t : TableRows) (b : Both) (lb : ℕ → List ℕ → List ℕ → List ℕ → Type 0) : Type 0 where
  pub counts : (c d : List ℕ) → lb b.moment c d b.sent → CountsAs i t c d
  pub alone : (half : Half) → IsInUse half s → (c : List ℕ) → half_leaves half lb b.moment c b.sent → IsCopyOfTables i t c × (c ≡ (disk_of half b).holds)

-- a half in use has what reads give
same_bytes : (half : Half) (i : Identity) (n : ℕ) (x : Content) (p : Option LoadedCopy) (q : LoadedCopy) (holds c : List ℕ) → p ≡ Some q → SideRests half i n x p holds c → c ≡ holds
same_bytes half i n x (Some p) q holds c is rests = rests.0
same_bytes half i n x None q holds c is rests = absurd cc

module _ (i : Identity) (s : Twice) (t : TableRows) (b : Both) (lb : ℕ → List ℕ → List ℕ → List ℕ → Type 0) (twice : IsTwice s) (keeps : KeepsTablesTwice i s t) (kept : IsKeptTwice s b lb) where
  copy_of : (c : List ℕ) → IsCopyOf (identity_of s) (sequence_of s) (content_of s) c → IsCopyOfTables i t c
  copy_of c is = record {
    tables = keeps.tables;
    copy = (sequence_of s, subst (λ (j : Identity). IsCopyOf j (sequence_of s) (content_of_tables t) c) keeps.identity_is (subst (λ (x : Content). IsCopyOf (identity_of s) (sequence_of s) x c) keeps.content is));
  }

  counts_now : IsOpen s → (c d : List ℕ) → lb b.moment c d b.sent → CountsAs i t c d
  counts_now is_open c d left =
      let chosen = pair_stands s b twice is_open c d (record { first_rests = kept.first_rests c d left; second_rests = kept.second_rests c d left }) in (
        sequence_of s,
        record {
          tables = keeps.tables;
          chosen = subst (λ (j : Identity). IsChosen j (sequence_of s) (content_of_tables t) c d) keeps.identity_is (subst (λ (x : Content). IsChosen (identity_of s) (sequence_of s) x c d) keeps.content chosen);
        },
      )

  alone_by : (half : Half) → IsInUse half s → (c : List ℕ) → SideRests half (identity_of s) (sequence_of s) (content_of s) (copy_at half s) (disk_of half b).holds c → IsCopyOfTables i t c × (c ≡ (disk_of half b).holds)
  alone_by half used c rests = (
    copy_of c (alone_stands s b twice half c (record { used = used; rests = rests })),
    same_bytes half (identity_of s) (sequence_of s) (content_of s) (copy_at half s) used.0 (disk_of half b).holds c used.1 rests,
  )

  alone_now : (half : Half) → IsInUse half s → (c : List ℕ) → half_leaves half lb b.moment c b.sent → IsCopyOfTables i t c × (c ≡ (disk_of half b).holds)
  alone_now First used c left = alone_by First used c (kept.first_rests c left.0 left.1)
  alone_now Second used c left = alone_by Second used c (kept.second_rests left.0 c left.1)

  pub rests_twice : IsOpen s → RestsTwice i s t b lb
  rests_twice is_open = record { counts = counts_now is_open; alone = alone_now }
