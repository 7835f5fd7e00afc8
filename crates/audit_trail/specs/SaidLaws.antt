-- Laws: what lines say, and what is made of it, is what a trail may have.
use Rattle.std.specs.Prelude.{◌≡◌, refl, ⊤, ℕ, ◌≤◌, true, IsTrue, List, [], ◌∷◌, ◌++◌, ◌&&◌, nat_le, length, Some, None, option_and_then}
use Rattle.std.proofs.Common.{subst, ◌∙◌, inl, inr}
use Rattle.std.proofs.lemmas.Bool.Decides.{nat_tests}
use Rattle.std.proofs.Common.{arith}
use Rattle.std.proofs.lemmas.List.Elements.{All-nil, All-push, recursion_from_All}
use Rattle.std.proofs.lemmas.List.Folds.{list_all-append}
use Rattle.std.specs.List.{AllByRecursion as Each, list_all}
use Rattle.std.specs.Option.{option_map}
use Rattle.kd_base.specs.Text.{IsName, is_name_byte, name_of, decimal_of}
use Rattle.kd_base.specs.ToolsLaws.{chosen, some_is, map_some, and_some, both_true, true_both}
use Rattle.kd_records.specs.declared.key.RecordKey.{RecordKey}
use Rattle.kdcs_types.specs.declared.act.Change.{Change}
use Rattle.kdcs_types.specs.declared.act.Change.TheVariants.{Set, Remove}
use Rattle.kdcs_types.specs.declared.act.Changes.{Changes}
use Rattle.kdcs_types.specs.declared.act.Row.{Row}
use Rattle.kdcs_types.specs.declared.key.Key.{Key}
use Rattle.kdcs_types.specs.declared.service.Settled.{Settled}
use Rattle.kdcs_types.specs.Keyed.{ascends}
use Rattle.kdcs_types.specs.RowLaws.{changed_sorted}
use Rattle.kdcs_types.specs.Tables.{empty_tables, changed, change_key, change_fits, row_fits, IsSortedTables}
use Rattle.record_codec.specs.Fields.{AreBytes}
use Rattle.record_codec.specs.PatchesLaws.{OfSet, changes_keep, all_rows}
use Rattle.record_codec.specs.RowReadings.{IsProperRow, key_read, row_read}
use Rattle.record_codec.specs.RowReadingsLaws.{key_proper, row_there}
use Rattle.record_codec.specs.TableReadings.{AreProperTables, changes_of}
use Rattle.audit_trail.specs.declared.entry.Trail.{Trail}
use Rattle.audit_trail.specs.declared.keyword.Keyword.{Keyword}
use Rattle.audit_trail.specs.declared.keyword.Keyword.TheVariants as keywords
use Rattle.audit_trail.specs.declared.line.Line.{Line}
use Rattle.audit_trail.specs.declared.line.Line.TheVariants as says
use Rattle.audit_trail.specs.declared.place.Place.{Place}
use Rattle.audit_trail.specs.declared.place.Place.TheVariants.{First, Second, Rows, Made, Changing, Ended}
use Rattle.audit_trail.specs.KeptReadings.{kept_read}
use Rattle.audit_trail.specs.KeptLaws.{kept_there}
use Rattle.audit_trail.specs.Lines.{words, one, two, three, bytes_of, so_many_bytes, value_of, two_numbers, kept_of, kind_of, with_bytes, record_key_of, key_of, row_of, end_of, begun, started}
use Rattle.audit_trail.specs.Lines.{committed, ticked, shown, settled, set, removed, said, keyword_of, said_by, line_in}
use Rattle.audit_trail.specs.WordsLaws.{are_bytes, so_many_are_bytes, value_is_bytes}
use Rattle.audit_trail.specs.Facts.{IsMaker, IsKeptRecord, IsProperChange, AreProperChanges, IsEntry, IsTrail, IsOrdered}
use Rattle.audit_trail.specs.Places.{trail_of, entry_of, with_entry, with_next, with_fingerprint, with_start, with_commit, with_row_at_start, changing, with_change, so_far, made, ended, step}
use Rattle.audit_trail.specs.Places.{after_line}

-- ---- what a line says

-- what made a commit is so, and a change is of a row that may be there
abbrev pub IsSaid : Line → Type 0
IsSaid (says.Trail fingerprint) = ⊤
IsSaid (says.Start clock next) = ⊤
IsSaid (says.Made by) = IsMaker by
IsSaid (says.Commit clock next) = ⊤
IsSaid (says.Change c) = IsProperChange c × IsTrue (change_fits c)
IsSaid says.End = ⊤

name_is : (word name : List ℕ) → name_of word ≡ Some name → IsName name
name_is word name e =
    elim (chosen (nat_le 1 (length word) && nat_le (length word) 8 && list_all is_name_byte word) (Some word) None (Some name) e) [
      | inl h ↦
          let outer = both_true (nat_le 1 (length word) && nat_le (length word) 8) (list_all is_name_byte word) h.0 in
          let inner = both_true (nat_le 1 (length word)) (nat_le (length word) 8) outer.0 in
          subst IsName (some_is word name h.1) (least (length word) inner.0, most (length word) inner.1, outer.1)
      | inr h ↦ absurd (cc h.1)
    ]
  where
    least : (n : ℕ) → nat_le 1 n ≡ true → 1 ≤ n
    least n h = grind (arith, nat_tests)

    most : (n : ℕ) → nat_le n 8 ≡ true → n ≤ 8
    most n h = grind (arith, nat_tests)

record_key_bytes : (p : List ℕ × List ℕ) (k : RecordKey) → record_key_of p ≡ Some k → AreBytes k.bytes
record_key_bytes p k e =
    let a = and_some (λ (kind : ℕ). option_map (with_bytes kind) (so_many_bytes 24 p.1)) (kind_of p.0) k e in
    let m = map_some (with_bytes a.0) (so_many_bytes 24 p.1) k a.2 in
    subst (λ (x : RecordKey). AreBytes x.bytes) m.2 (so_many_are_bytes 24 p.1 m.0 m.1)

row_may_stand : (p : List ℕ × List ℕ × List ℕ) (r : Row) → row_of p ≡ Some r → IsProperRow r × IsTrue (row_fits r)
row_may_stand p r e =
    let a = and_some (λ (k : RecordKey). option_and_then (λ (value : List ℕ). row_read (k, value)) (value_of p.2)) (record_key_of (p.0, p.1)) r e in
    let b = and_some (λ (value : List ℕ). row_read (a.0, value)) (value_of p.2) r a.2 in
    let there = row_there (a.0, b.0) r (record_key_bytes (p.0, p.1) a.0 a.1) (value_is_bytes p.2 b.0 b.1) b.2 in
    (there.proper, there.fits)

key_is_proper : (p : List ℕ × List ℕ) (q : Key) → key_of p ≡ Some q → IsProperChange (Remove q)
key_is_proper p q e =
    let a = and_some key_read (record_key_of p) q e in
    key_proper a.0 q (record_key_bytes p a.0 a.1) a.2

kept_is : (word : List ℕ) (kept : Settled) → kept_of word ≡ Some kept → IsKeptRecord kept
kept_is word kept e =
    let a = and_some kept_read (bytes_of word) kept e in
    kept_there a.0 kept (are_bytes word a.0 a.1) a.2

end_is : (rest : List (List ℕ)) (l : Line) → end_of rest ≡ Some l → IsSaid l
end_is [] l e = subst IsSaid (some_is says.End l e) tt
end_is (word ∷ rest) l e = absurd (cc e)

by_keyword : (keyword : Keyword) (rest : List (List ℕ)) (l : Line) → said keyword rest ≡ Some l → IsSaid l
by_keyword keywords.Trail rest l e = let m = map_some begun (option_and_then (so_many_bytes 32) (one rest)) l e in subst IsSaid m.2 tt
by_keyword keywords.Start rest l e = let m = map_some started (option_and_then two_numbers (two rest)) l e in subst IsSaid m.2 tt
by_keyword keywords.Tick rest l e = let m = map_some ticked (option_and_then decimal_of (one rest)) l e in subst IsSaid m.2 tt
by_keyword keywords.Shown rest l e =
    let m = map_some shown (option_and_then name_of (one rest)) l e in
    let a = and_some name_of (one rest) m.0 m.1 in
    subst IsSaid m.2 (name_is a.0 m.0 a.2)
by_keyword keywords.Transaction rest l e =
    let m = map_some settled (option_and_then kept_of (one rest)) l e in
    let a = and_some kept_of (one rest) m.0 m.1 in
    subst IsSaid m.2 (kept_is a.0 m.0 a.2)
by_keyword keywords.Commit rest l e = let m = map_some committed (option_and_then two_numbers (two rest)) l e in subst IsSaid m.2 tt
by_keyword keywords.Set rest l e =
    let m = map_some set (option_and_then row_of (three rest)) l e in
    let a = and_some row_of (three rest) m.0 m.1 in
    subst IsSaid m.2 (row_may_stand a.0 m.0 a.2)
by_keyword keywords.Remove rest l e =
    let m = map_some removed (option_and_then key_of (two rest)) l e in
    let a = and_some key_of (two rest) m.0 m.1 in
    subst IsSaid m.2 (key_is_proper a.0 m.0 a.2, refl)
by_keyword keywords.End rest l e = end_is rest l e

by_words : (ws : List (List ℕ)) (l : Line) → said_by ws ≡ Some l → IsSaid l
by_words [] l e = absurd (cc e)
by_words (word ∷ rest) l e =
    let a = and_some (λ (keyword : Keyword). said keyword rest) (keyword_of word) l e in
    by_keyword a.0 rest l a.2

lines_are_said : (text : List ℕ) (l : Line) → line_in text ≡ Some l → IsSaid l
lines_are_said text l e = by_words (words text) l e

-- ---- what is made of it

next_is_proper : (c : Changes) (x : Change) (d : Changes) → AreProperChanges c → IsSaid (says.Change x) → with_next c x ≡ Some d → AreProperChanges d
next_is_proper c x d are is e =
    let more = changes_of c.clock c.next_job (c.items ++ x ∷ []) in
    elim (chosen (ascends change_key (c.items ++ x ∷ [])) (Some more) None (Some d) e) [
      | inl h ↦
          subst AreProperChanges (some_is more d h.1) (record {
            changes = record { ascending = h.0; fit = list_all-append change_fits c.items (x ∷ []) ∙ true_both (list_all change_fits c.items) (list_all change_fits (x ∷ [])) are.changes.fit (true_both (change_fits x) true is.1 refl) };
            proper = All-push IsProperChange c.items x are.proper is.0;
          })
      | inr h ↦ absurd (cc h.1)
    ]

-- rows that are set have what these changes have
sets_are : (cs : List Change) → Each IsProperChange cs → Each (OfSet IsProperRow) cs
sets_are [] h = tt
sets_are (Set r ∷ cs) h = (h.0, sets_are cs h.1)
sets_are (Remove k ∷ cs) h = (tt, sets_are cs h.1)

empty_sorted : IsSortedTables empty_tables
empty_sorted = record { gssbs = refl; tlss = refl; ulss = refl; services = refl; jobs = refl; shown = refl; tlss_filled = refl; ulss_filled = refl; services_fit = refl }

start_is_proper : (start : Changes) → AreProperChanges start → AreProperTables (changed empty_tables start)
start_is_proper start are =
    all_rows IsProperRow (changed empty_tables start)
    (changes_keep IsProperRow start.items (record empty_tables { clock = start.clock; next_job = start.next_job }) (record { gssbs = tt; tlss = tt; ulss = tt; services = tt; jobs = tt; shown = tt })
    (sets_are start.items (recursion_from_All IsProperChange start.items are.proper)) are.changes.fit)

so_far_is : (p : Place) (t : Trail) → IsOrdered p → so_far p ≡ Some t → IsTrail t
so_far_is First t h e = absurd (cc e)
so_far_is (Second fingerprint) t h e = absurd (cc e)
so_far_is (Rows fingerprint start) t h e =
    subst IsTrail (some_is (trail_of fingerprint (changed empty_tables start) []) t e)
    (record { sorted = changed_sorted empty_tables start empty_sorted h.changes; proper = start_is_proper start h; entries = All-nil IsEntry })
so_far_is (Made trail by) t h e = absurd (cc e)
so_far_is (Changing trail entry) t h e =
    subst IsTrail (some_is (with_entry trail entry) t e) (record { sorted = h.0.sorted; proper = h.0.proper; entries = All-push IsEntry trail.entries entry h.0.entries h.1 })
so_far_is (Ended trail) t h e = absurd (cc e)

no_changes : (clock next : ℕ) → AreProperChanges (changes_of clock next [])
no_changes clock next = record { changes = record { ascending = refl; fit = refl }; proper = All-nil IsProperChange }

fingerprint_keeps : (p q : Place) (fingerprint : List ℕ) → with_fingerprint p fingerprint ≡ Some q → IsOrdered q
fingerprint_keeps First q fingerprint e = subst IsOrdered (some_is (Second fingerprint) q e) tt
fingerprint_keeps (Second before) q fingerprint e = absurd (cc e)
fingerprint_keeps (Rows before start) q fingerprint e = absurd (cc e)
fingerprint_keeps (Made trail by) q fingerprint e = absurd (cc e)
fingerprint_keeps (Changing trail entry) q fingerprint e = absurd (cc e)
fingerprint_keeps (Ended trail) q fingerprint e = absurd (cc e)

start_keeps : (p q : Place) (clock next : ℕ) → with_start p clock next ≡ Some q → IsOrdered q
start_keeps First q clock next e = absurd (cc e)
start_keeps (Second fingerprint) q clock next e = subst IsOrdered (some_is (Rows fingerprint (changes_of clock next [])) q e) (no_changes clock next)
start_keeps (Rows fingerprint start) q clock next e = absurd (cc e)
start_keeps (Made trail by) q clock next e = absurd (cc e)
start_keeps (Changing trail entry) q clock next e = absurd (cc e)
start_keeps (Ended trail) q clock next e = absurd (cc e)

commit_keeps : (p q : Place) (clock next : ℕ) → IsOrdered p → with_commit p clock next ≡ Some q → IsOrdered q
commit_keeps First q clock next h e = absurd (cc e)
commit_keeps (Second fingerprint) q clock next h e = absurd (cc e)
commit_keeps (Rows fingerprint start) q clock next h e = absurd (cc e)
commit_keeps (Made trail by) q clock next h e =
    subst IsOrdered (some_is (Changing trail (entry_of by (changes_of clock next []))) q e) (h.0, record { by = h.1; changes = no_changes clock next })
commit_keeps (Changing trail entry) q clock next h e = absurd (cc e)
commit_keeps (Ended trail) q clock next h e = absurd (cc e)

row_keeps : (fingerprint : List ℕ) (start : Changes) (x : Change) (q : Place) → AreProperChanges start → IsSaid (says.Change x) → with_row_at_start fingerprint start x ≡ Some q → IsOrdered q
row_keeps fingerprint start (Set r) q h is e =
    let m = map_some (λ (c : Changes). Rows fingerprint c) (with_next start (Set r)) q e in
    subst IsOrdered m.2 (next_is_proper start (Set r) m.0 h is m.1)
row_keeps fingerprint start (Remove k) q h is e = absurd (cc e)

change_keeps : (p : Place) (x : Change) (q : Place) → IsOrdered p → IsSaid (says.Change x) → with_change p x ≡ Some q → IsOrdered q
change_keeps First x q h is e = absurd (cc e)
change_keeps (Second fingerprint) x q h is e = absurd (cc e)
change_keeps (Rows fingerprint start) x q h is e = row_keeps fingerprint start x q h is e
change_keeps (Made trail by) x q h is e = absurd (cc e)
change_keeps (Changing trail entry) x q h is e =
    let m = map_some (changing trail entry.by) (with_next entry.changes x) q e in
    subst IsOrdered m.2 (h.0, record { by = h.1.by; changes = next_is_proper entry.changes x m.0 h.1.changes is m.1 })
change_keeps (Ended trail) x q h is e = absurd (cc e)

step_keeps : (p : Place) (l : Line) (q : Place) → IsOrdered p → IsSaid l → step p l ≡ Some q → IsOrdered q
step_keeps p (says.Trail fingerprint) q h is e = fingerprint_keeps p q fingerprint e
step_keeps p (says.Start clock next) q h is e = start_keeps p q clock next e
step_keeps p (says.Made by) q h is e = let m = map_some (made by) (so_far p) q e in subst IsOrdered m.2 (so_far_is p m.0 h m.1, is)
step_keeps p (says.Commit clock next) q h is e = commit_keeps p q clock next h e
step_keeps p (says.Change x) q h is e = change_keeps p x q h is e
step_keeps p says.End q h is e = let m = map_some ended (so_far p) q e in subst IsOrdered m.2 (so_far_is p m.0 h m.1)

-- what was read up to a line is a trail so far after it too
pub after_keeps : (p : Place) (text : List ℕ) (q : Place) → IsOrdered p → after_line p text ≡ Some q → IsOrdered q
after_keeps p text q h e =
    let a = and_some (step p) (line_in text) q e in
    step_keeps p a.0 q h (lines_are_said text a.0 a.1) a.2
