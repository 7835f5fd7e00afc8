-- What a patch does to look-ups, and that it makes contents that a file can keep.
use Rattle.std.specs.Prelude.{◌≡◌, ◌≢◌, ◌<◌, ◌≤◌, ◌^◌, ℕ, IsTrue, List, [], Option}
use Rattle.std.specs.Option.{unwrap_or}
use Rattle.std.specs.FinMap.{find, is_sorted}
use Rattle.kd_records.specs.declared.key.RecordKey.{RecordKey}
use Rattle.kd_records.specs.declared.content.Content.{Content}
use Rattle.kd_records.specs.declared.content.Patch.{Patch}
use Rattle.kd_records.specs.Keys.{key_cmp}
use Rattle.kd_records.specs.Contents.{Record, changed, patched, IsContent, IsPatch}
use Rattle.kd_records.specs.Charge.{IsBlockSize, total_charge}

-- after a change the key has the new value, or none, and each other key what it had
abbrev pub ChangeSaysWhatIsFound : Type 0
ChangeSaysWhatIsFound = (records : List Record) (k : RecordKey) (value : Option (List ℕ)) → (find key_cmp k (changed records (k, value)) ≡ value) × ((q : RecordKey) → q ≢ k → find key_cmp q (changed records (k, value)) ≡ find key_cmp q records)

-- after a patch a key has what the patch says of it, and otherwise what it had
abbrev pub PatchSaysWhatIsFound : Type 0
PatchSaysWhatIsFound = (x : Content) (p : Patch) → IsPatch p → (k : RecordKey) → find key_cmp k (patched x p).items ≡ unwrap_or (find key_cmp k p.items) (find key_cmp k x.items)

-- a patch with no items leaves all records
abbrev pub NoChangesChangeNothing : Type 0
NoChangesChangeNothing = (x : Content) (p : Patch) → p.items ≡ [] → (patched x p).items ≡ x.items

-- the keys of a content ascend after a patch, if they did so before
abbrev pub PatchKeepsOrder : Type 0
PatchKeepsOrder = (x : Content) (p : Patch) → IsTrue (is_sorted key_cmp x.items) → IsTrue (is_sorted key_cmp (patched x p).items)

-- a patch makes a content that a file can keep, if there are pages for it
abbrev pub PatchKeepsContent : Type 0
PatchKeepsContent = (blksize pages : ℕ) (x : Content) (p : Patch) → IsBlockSize blksize → pages ≤ 30000 → IsContent x → IsPatch p → p.clock < 2 ^ 64 → p.next_job < 2 ^ 64 → total_charge blksize (patched x p).items ≤ pages → IsContent (patched x p)
