-- Laws: two files are those of one application at most.
use Rattle.std.specs.Prelude.{◌≡◌, ◌<◌, ℕ, Bool, true, false, cond, List, [], ◌∷◌, map, Option, Some, None}
use Rattle.std.proofs.Common.{refl, sym, ap, ◌∙◌, arith}
use Rattle.std.specs.Ordering.{eq_by_cmp}
use Rattle.std.specs.Cmp.{Equal-is}
use Rattle.std.specs.FinMap.{find}
use Rattle.kd_records.specs.Identity.{Identity}
use Rattle.kd_records.specs.KeyLaws.{same_key}
use Rattle.kd_records.specs.Keys.{key_cmp}
use Rattle.kd_records.specs.declared.key.RecordKey.{RecordKey}
use Rattle.kdcs_types.specs.Keys.{key_kind}
use Rattle.kdcs_types.specs.declared.key.Key.{Key}
use Rattle.kdcs_types.specs.declared.key.Key.TheVariants as key
use Rattle.kdcs_types.specs.declared.act.Row.{Row}
use Rattle.kdcs_types.specs.Tables.{TableRows, row_key}
use Rattle.kdcfile_copies.specs.Copies.{IsBare, IsCopyOf, IsNoCopy, sequence_key}
use Rattle.kdcfile_copies.specs.CopiesLaws.{bare_is_no_copy, one_is_chosen}
use Rattle.record_codec.specs.Records.{content_of_tables, rows_of}
use Rattle.record_codec.specs.Values.{record_of}
use Rattle.device_acts.specs.MeaningLaws.{one_meaning_of_tables, one_table}
use Rattle.device_acts.specs.Stands.{StandsForNoTables, StandsForTables}
use Rattle.kdcfile_carry.specs.Files.{AreFilesBy, Files, HaveTwoMeanings, OneMeaningOfFiles, TwoMeaningsAreNone}

-- ---- the record of the sequence is of no row

kind_is : sequence_key.kind ≡ 7
unfolding sequence_key
kind_is = refl

kind_below : (k : Key) → key_kind k < 7
kind_below (key.Gssb name) = omega arith
kind_below (key.Tls block lterm) = omega arith
kind_below (key.Uls block user) = omega arith
kind_below (key.Service id) = omega arith
kind_below (key.Job number) = omega arith
kind_below (key.Shown lterm) = omega arith

absent : (rows : List Row) → find key_cmp sequence_key (map record_of rows) ≡ None
absent [] = refl
absent (r ∷ rows) = by (eq_by_cmp key_cmp sequence_key (record_of r).0) refl (absent rows)
  where
    by : (b : Bool) → eq_by_cmp key_cmp sequence_key (record_of r).0 ≡ b → find key_cmp sequence_key (map record_of rows) ≡ None → cond b (Some (record_of r).1) (find key_cmp sequence_key (map record_of rows)) ≡ None
    by true e rest =
        let same : 7 ≡ key_kind (row_key r) = sym kind_is ∙ ap (λ (k : RecordKey). k.kind) (same_key sequence_key (record_of r).0 ((Equal-is (key_cmp sequence_key (record_of r).0)).0 e)) in
        absurd (omega (arith, same, kind_below (row_key r)))
    by false e rest = rest

pub tables_are_bare : (t : TableRows) → IsBare (content_of_tables t)
tables_are_bare t = absent (rows_of t)

-- a KDCFILE by itself is no copy, and a copy none by itself
pub tables_are_no_copy : (i : Identity) (t : TableRows) (bytes : List ℕ) → StandsForTables i t bytes → IsNoCopy bytes
tables_are_no_copy i t bytes h = bare_is_no_copy i (content_of_tables t) bytes (tables_are_bare t) h.content

pub copy_has_no_tables : (i : Identity) (n : ℕ) (t : TableRows) (bytes : List ℕ) → IsCopyOf i n (content_of_tables t) bytes → StandsForNoTables bytes
copy_has_no_tables i n t bytes is j u h = tables_are_no_copy j u bytes h i n (content_of_tables t) is

-- ---- one meaning

same_files : (i j : Identity) (t u : TableRows) (s r : Option ℕ) → i ≡ j → t ≡ u → s ≡ r → ◌≡◌ {A = Files} (record { identity = i; tables = t; sequence = s }) (record { identity = j; tables = u; sequence = r })
same_files i j t u s r made kept numbered = λ k. record { identity = made k; tables = kept k; sequence = numbered k }

by_sequence : (i j : Identity) (t u : TableRows) (s r : Option ℕ) (a b : List ℕ) → AreFilesBy i t s a b → AreFilesBy j u r a b → ◌≡◌ {A = Files} (record { identity = i; tables = t; sequence = s }) (record { identity = j; tables = u; sequence = r })
by_sequence i j t u None None a b h k =
    let same = one_meaning_of_tables i j t u a h.0 k.0 in
    same_files i j t u None None same.0 same.1 refl
by_sequence i j t u None (Some m) a b h k = absurd (k.1 i t h.0)
by_sequence i j t u (Some n) None a b h k = absurd (h.1 j u k.0)
by_sequence i j t u (Some n) (Some m) a b h k =
    let same = one_is_chosen i j n m (content_of_tables t) (content_of_tables u) a b h.0.chosen k.0.chosen in
    same_files i j t u (Some n) (Some m) same.0 (one_table t u h.0.tables k.0.tables same.2) (ap Some same.1)

pub one_meaning_of_files : OneMeaningOfFiles
one_meaning_of_files f h a b is too = by_sequence f.identity h.identity f.tables h.tables f.sequence h.sequence a b is too

none_by : (i : Identity) (t : TableRows) (s : Option ℕ) (a b : List ℕ) → HaveTwoMeanings a b → AreFilesBy i t s a b → ⊥
none_by i t None a b two h = two.copy h.1
none_by i t (Some n) a b two h = two.by_itself h.1

pub two_meanings_are_none : TwoMeaningsAreNone
two_meanings_are_none a b two f h = none_by f.identity f.tables f.sequence a b two h
