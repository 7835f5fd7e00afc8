-- The patch of changes: it changes records of rows, and where the changes are in order and their keys proper, it is a patch for a content.
use Rattle.std.specs.Prelude.{◌≡◌, refl, IsTrue, List, [], ◌∷◌, map, All}
use Rattle.std.proofs.Common.{ap, get_or, subst, sym, ◌∙◌}
use Rattle.std.proofs.lemmas.List.Elements.{All-map, All-weaker, recursion_from_All}
use Rattle.std.specs.FinMap.{is_sorted}
use Rattle.std.specs.FinMap.Entries.{below_all}
use Rattle.std.specs.List.{AllByRecursion as Each}
use Rattle.std.specs.Ordering.{is_lt}
use Rattle.kd_base.specs.ToolsLaws.{both_true, true_both}
use Rattle.kd_records.specs.declared.content.Patch.{Patch}
use Rattle.kd_records.specs.declared.key.RecordKey.{RecordKey}
use Rattle.kd_records.specs.Contents.{Change as RecordChange, IsKey, IsPatch}
use Rattle.kd_records.specs.Keys.{key_cmp as record_cmp}
use Rattle.kdcs_types.specs.declared.act.Change.{Change}
use Rattle.kdcs_types.specs.declared.act.Change.TheVariants.{Set, Remove}
use Rattle.kdcs_types.specs.declared.act.Changes.{Changes}
use Rattle.kdcs_types.specs.declared.key.Key.{Key}
use Rattle.kdcs_types.specs.Keyed.{ascends, keyed}
use Rattle.kdcs_types.specs.Keys.{key_cmp, key_kind}
use Rattle.kdcs_types.specs.Tables.{change_key}
use Rattle.record_codec.specs.Order.{IsProperKey}
use Rattle.record_codec.specs.OrderLaws.{keys_keep_their_order}
use Rattle.record_codec.specs.Records.{patch_of}
use Rattle.record_codec.specs.Values.{record_change, record_key}
use Rattle.device_acts.specs.Acting.{IsOfChanges}
use Rattle.device_acts.specs.ContentLaws.{record_key_there}
use Rattle.device_acts.specs.NamedLaws.{HasProperChange}

-- ---- keys

-- the record of a change has its key
key_of_change : (c : Change) → (record_change c).0 ≡ record_key (change_key c)
key_of_change (Set r) = refl
key_of_change (Remove k) = refl

abbrev HasKey : RecordChange → Type 0
HasKey x = IsKey x.0

change_there : (c : Change) → HasProperChange c → HasKey (record_change c)
change_there c h = subst IsKey (sym (key_of_change c)) (record_key_there (change_key c) h)

pub of_changes : (p : Patch) (c : Changes) → p ≡ patch_of c → IsOfChanges p
of_changes p c is =
    subst IsOfChanges (sym is)
    (All-map (λ (x : RecordChange). (k : Key) × (x.0.kind ≡ key_kind k)) record_change c.items (λ i d lt. let change = get_or c.items i d in (change_key change, ap (λ (k : RecordKey). k.kind) (key_of_change change))))

-- ---- order

record_order : (k : Key) (c : Change) → IsProperKey k → HasProperChange c → record_cmp (record_key k) (record_change c).0 ≡ key_cmp k (change_key c)
record_order k c h is = ap (record_cmp (record_key k)) (key_of_change c) ∙ keys_keep_their_order k (change_key c) h is

below_records : (k : Key) (cs : List Change) → IsProperKey k → Each HasProperChange cs → IsTrue (below_all key_cmp k (keyed change_key cs)) → IsTrue (below_all record_cmp (record_key k) (map record_change cs))
below_records k [] h hs below = refl
below_records k (c ∷ cs) h hs below =
    let parts = both_true (is_lt (key_cmp k (change_key c))) (below_all key_cmp k (keyed change_key cs)) below in
    true_both (is_lt (record_cmp (record_key k) (record_change c).0)) (below_all record_cmp (record_key k) (map record_change cs))
    (ap is_lt (record_order k c h hs.0) ∙ parts.0) (below_records k cs h hs.1 parts.1)

records_ascend : (cs : List Change) → Each HasProperChange cs → IsTrue (ascends change_key cs) → IsTrue (is_sorted record_cmp (map record_change cs))
records_ascend [] hs up = refl
records_ascend (c ∷ cs) hs up =
    let parts = both_true (below_all key_cmp (change_key c) (keyed change_key cs)) (ascends change_key cs) up in
    true_both (below_all record_cmp (record_change c).0 (map record_change cs)) (is_sorted record_cmp (map record_change cs))
    (subst (λ (q : RecordKey). IsTrue (below_all record_cmp q (map record_change cs))) (sym (key_of_change c)) (below_records (change_key c) cs hs.0 hs.1 parts.0))
    (records_ascend cs hs.1 parts.1)

pub patch_there : (c : Changes) → All HasProperChange c.items → IsTrue (ascends change_key c.items) → IsPatch (patch_of c)
patch_there c proper up = record {
  keys = All-map HasKey record_change c.items (All-weaker HasProperChange (λ (ch : Change). HasKey (record_change ch)) change_there c.items proper);
  ascending = records_ascend c.items (recursion_from_All HasProperChange c.items proper) up;
}
