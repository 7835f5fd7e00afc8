-- Laws: a trail is read as it was written.
use Rattle.std.specs.Prelude.{◌≡◌, refl, ⊤, ℕ, ◌+◌, ◌^◌, ◌<◌, ◌≤◌, Bool, false, IsTrue, cond, nat_lt, List, [], ◌∷◌, ◌++◌, length, map, flat_map, codes, decimal, Option, Some, None, option_and_then}
use Rattle.std.specs.Prelude.{All}
use Rattle.std.proofs.Common.{sym, ap, subst, ◌∙◌, arith, append_assoc, append-nil, length-append}
use Rattle.std.proofs.lemmas.Bool.Decides.{nat_tests}
use Rattle.std.proofs.lemmas.List.Elements.{recursion_from_All}
use Rattle.std.specs.List.{AllByRecursion as Each, list_all}
use Rattle.std.specs.Option.{option_map}
use Rattle.std.specs.Str.Lines.{lines}
use Rattle.hex.proofs.HexLemmas.{length-encode_with}
use Rattle.hex.specs.Hex.{encode_lower, lower_digits}
use Rattle.kd_base.specs.Limits.{longest_text}
use Rattle.kd_base.specs.ToolsLaws.{both_true}
use Rattle.kdcs_types.specs.declared.act.Change.{Change}
use Rattle.kdcs_types.specs.declared.act.Change.TheVariants.{Set, Remove}
use Rattle.kdcs_types.specs.declared.act.Changes.{Changes}
use Rattle.kdcs_types.specs.declared.act.Row.{Row}
use Rattle.kdcs_types.specs.Keyed.{ascends}
use Rattle.kdcs_types.specs.Tables.{TableRows, empty_tables, changed, change_key, change_fits, IsSortedTables}
use Rattle.record_codec.specs.OneToOneLaws.{tables_are_one_to_one}
use Rattle.record_codec.specs.Records.{rows_of, content_of_tables, AreTablesOf}
use Rattle.record_codec.specs.RowReadings.{IsProperRow}
use Rattle.record_codec.specs.TableReadings.{AreRecordBytes, AreProperTables, changes_of}
use Rattle.record_codec.specs.TableReadingsLaws.{changes_are, FitsThere, rows_fit, tables_proper, tables_read, tables_there, records_ascend}
use Rattle.record_codec.specs.Values.{record_of, record_change}
use Rattle.audit_trail.specs.declared.entry.By.{By}
use Rattle.audit_trail.specs.declared.entry.By.TheVariants.{Tick, Shown, Transaction}
use Rattle.audit_trail.specs.declared.entry.Trail.{Trail}
use Rattle.audit_trail.specs.declared.entry.TrailEntry.{TrailEntry}
use Rattle.audit_trail.specs.declared.line.Line.{Line}
use Rattle.audit_trail.specs.declared.line.Line.TheVariants as says
use Rattle.audit_trail.specs.declared.place.Place.{Place}
use Rattle.audit_trail.specs.declared.place.Place.TheVariants.{First, Second, Rows, Made, Changing, Ended}
use Rattle.audit_trail.specs.AscendingLaws.{front_ascends}
use Rattle.audit_trail.specs.Facts.{IsProperChange}
use Rattle.audit_trail.specs.Kept.{kept_bytes}
use Rattle.audit_trail.specs.LinesLaws.{Spells, trail_back, start_back, commit_back, tick_back, shown_back, settled_back, end_back, removed_back, set_back}
use Rattle.audit_trail.specs.Places.{trail_of, entry_of, with_next, changing, with_change, so_far, made, ended, step, then_from, trail_from, trail_by}
use Rattle.audit_trail.specs.Printed.{line, change_line, set_line, by_line, entry_lines, tables_lines, head_lines, end_line, trail_text}
use Rattle.audit_trail.specs.RoundTrip.{HasFewDigits, IsWritableMaker, IsWritable, AreWritable, TrailsComeBack}
use Rattle.audit_trail.specs.WordsLaws.{line_is}
use Rattle.audit_trail.specs.Written.{AreMakerBytes, AreChangeBytes}

-- ---- from place to place

-- through the lines of this text one comes from a place to another, whatever follows
abbrev Reaches : Place → List ℕ → Place → Type 0
Reaches from text to = (n : ℕ) (rest : List ℕ) → (m : ℕ) × (trail_from from n (lines (text ++ rest)) ≡ trail_from to m (lines rest))

through_none : (p : Place) → Reaches p [] p
through_none p n rest = (n, refl)

through_both : (p q r : Place) (a b : List ℕ) → Reaches p a q → Reaches q b r → Reaches p (a ++ b) r
through_both p q r a b f g n rest =
    let x = f n (b ++ rest) in
    let y = g x.0 rest in
    (y.0, ap (λ (l : List ℕ). trail_from p n (lines l)) (append_assoc a b rest) ∙ x.1 ∙ y.1)

through_line : (p q : Place) (keyword : List ℕ) (ws : List (List ℕ)) (l : Line) → Spells keyword ws l → step p l ≡ Some q → Reaches p (line keyword ws) q
through_line p q keyword ws l spells goes n rest =
    (n + 1, ap (trail_from p n) (line_is keyword ws rest spells.keyword_black spells.rest_black) ∙ ap (λ (o : Option Place). then_from n o (λ (next : Place). trail_from next (n + 1) (lines rest))) (ap (option_and_then (step p)) spells.says ∙ goes))

-- ---- changes

-- a change that a line can say
abbrev CanBeSaid : Change → Type 0
CanBeSaid x = IsProperChange x × (IsTrue (change_fits x) × AreChangeBytes (record_change x))

through_change : (p q : Place) (x : Change) → CanBeSaid x → with_change p x ≡ Some q → Reaches p (change_line (record_change x)) q
through_change p q (Set r) can e = through_line p q _ _ (says.Change (Set r)) (set_back r can.0 can.1.0 can.1.1.1) e
through_change p q (Remove k) can e = through_line p q _ _ (says.Change (Remove k)) (removed_back k can.0) e

module _ (at : Changes → Place) (May : Change → Type 0) (here : (c : Changes) (x : Change) → May x → with_change (at c) x ≡ option_map at (with_next c x)) where
  through_changes : (clock next : ℕ) (done xs : List Change) → IsTrue (ascends change_key (done ++ xs)) → Each May xs → Each CanBeSaid xs
      → Reaches (at (changes_of clock next done)) (flat_map change_line (map record_change xs)) (at (changes_of clock next (done ++ xs)))
  through_changes clock next done [] up may can =
      subst (λ (l : List Change). Reaches (at (changes_of clock next done)) [] (at (changes_of clock next l))) (sym (append-nil done)) (through_none (at (changes_of clock next done)))
  through_changes clock next done (x ∷ xs) up may can =
      let c = changes_of clock next done in
      let d = changes_of clock next (done ++ x ∷ []) in
      let whole : (done ++ x ∷ []) ++ xs ≡ done ++ x ∷ xs = append_assoc done (x ∷ []) xs in
      let all_up : IsTrue (ascends change_key ((done ++ x ∷ []) ++ xs)) = subst (λ (l : List Change). IsTrue (ascends change_key l)) (sym whole) up in
      let one : with_change (at c) x ≡ Some (at d) = here c x may.0 ∙ ap (λ (b : Bool). option_map at (cond b (Some d) None)) (front_ascends (done ++ x ∷ []) xs all_up) in
      through_both (at c) (at d) (at (changes_of clock next (done ++ x ∷ xs))) (change_line (record_change x)) (flat_map change_line (map record_change xs)) (through_change (at c) (at d) x can.0 one)
      (subst (λ (l : List Change). Reaches (at d) (flat_map change_line (map record_change xs)) (at (changes_of clock next l))) whole (through_changes clock next (done ++ x ∷ []) xs all_up may.1 can.1))

-- ---- entries

abbrev Any : Change → Type 0
Any x = ⊤

each_any : (xs : List Change) → Each Any xs
each_any [] = tt
each_any (x ∷ xs) = (tt, each_any xs)

can_be_said : (xs : List Change) → Each IsProperChange xs → IsTrue (list_all change_fits xs) → Each AreChangeBytes (map record_change xs) → Each CanBeSaid xs
can_be_said [] proper fit are = tt
can_be_said (x ∷ xs) proper fit are =
    let parts = both_true (change_fits x) (list_all change_fits xs) fit in
    ((proper.0, (parts.0, are.0)), can_be_said xs proper.1 parts.1 are.1)

-- the line of what a transaction kept has two digits for each byte
kept_within : (keyword bytes : List ℕ) → length bytes ≤ length (line keyword (encode_lower bytes ∷ []))
kept_within keyword bytes =
    let hex = encode_lower bytes in
    omega (
      arith,
      length-encode_with lower_digits bytes,
      length-append keyword ((32 ∷ (hex ++ [])) ++ 10 ∷ []),
      length-append (hex ++ []) (10 ∷ []),
      length-append hex [],
    )

through_maker : (p : Place) (t : Trail) (by : By) → so_far p ≡ Some t → IsWritableMaker by → AreMakerBytes by → length (by_line by) ≤ longest_text → Reaches p (by_line by) (Made t by)
through_maker p t (Tick ticks) so can are long = through_line p (Made t (Tick ticks)) _ _ (says.Made (Tick ticks)) (tick_back ticks can) (ap (option_map (made (Tick ticks))) so)
through_maker p t (Shown lterm) so can are long = through_line p (Made t (Shown lterm)) _ _ (says.Made (Shown lterm)) (shown_back lterm can) (ap (option_map (made (Shown lterm))) so)
through_maker p t (Transaction kept) so can are long =
    let few : length (kept_bytes kept) < 2 ^ 64 = omega (arith, kept_within (codes "T") (kept_bytes kept), long) in
    through_line p (Made t (Transaction kept)) _ _ (says.Made (Transaction kept)) (settled_back kept can.0 can.1 are few) (ap (option_map (made (Transaction kept))) so)

through_entry : (p : Place) (t : Trail) (e : TrailEntry) → so_far p ≡ Some t → IsWritable e → length (entry_lines e) ≤ longest_text → Reaches p (entry_lines e) (Changing t e)
through_entry p t e so can long =
    let c = e.changes in
    let by = e.by in
    let items = flat_map change_line (map record_change c.items) in
    let numbers = line (codes "C") (decimal c.clock ∷ decimal c.next_job ∷ []) in
    let short : length (by_line by) ≤ longest_text = omega (arith, length-append (by_line by) (numbers ++ items), long) in
    let begun = Changing t (entry_of by (changes_of c.clock c.next_job [])) in
    through_both p (Made t by) (Changing t e) (by_line by) (numbers ++ items) (through_maker p t by so can.by can.by_bytes short)
    (through_both (Made t by) begun (Changing t e) numbers items (through_line (Made t by) begun _ _ (says.Commit c.clock c.next_job) (commit_back c.clock c.next_job can.clock can.next_job) refl)
    (through_changes (changing t by) Any (λ d x any. refl) c.clock c.next_job [] c.items can.changes.changes.ascending (each_any c.items)
    (can_be_said c.items (recursion_from_All IsProperChange c.items can.changes.proper) can.changes.changes.fit (recursion_from_All AreChangeBytes (map record_change c.items) can.bytes))))

-- where one comes through entries
record Comes (p : Place) (text : List ℕ) (t : Trail) : Type 0 where
  there : Place
  through : Reaches p text there
  so : so_far there ≡ Some t

through_entries : (fingerprint : List ℕ) (start : TableRows) (done es : List TrailEntry) (p : Place) → so_far p ≡ Some (trail_of fingerprint start done) → Each IsWritable es → length (flat_map entry_lines es) ≤ longest_text
    → Comes p (flat_map entry_lines es) (trail_of fingerprint start (done ++ es))
through_entries fingerprint start done [] p so can long =
    record { there = p; through = through_none p; so = so ∙ ap (λ (l : List TrailEntry). let o : Option Trail = Some (trail_of fingerprint start l) in o) (sym (append-nil done)) }
through_entries fingerprint start done (e ∷ es) p so can long =
    let t = trail_of fingerprint start done in
    let q = Changing t e in
    let here : length (entry_lines e) ≤ longest_text = omega (arith, length-append (entry_lines e) (flat_map entry_lines es), long) in
    let behind : length (flat_map entry_lines es) ≤ longest_text = omega (arith, length-append (entry_lines e) (flat_map entry_lines es), long) in
    let more = through_entries fingerprint start (done ++ e ∷ []) es q refl can.1 behind in
    record {
      there = more.there;
      through = through_both p q more.there (entry_lines e) (flat_map entry_lines es) (through_entry p t e so can.0 here) more.through;
      so = more.so ∙ ap (λ (l : List TrailEntry). let o : Option Trail = Some (trail_of fingerprint start l) in o) (append_assoc done (e ∷ []) es);
    }

-- ---- the tables at the start

abbrev set_of : Row → Change
set_of r = Set r

abbrev IsSet : Change → Type 0
IsSet (Set r) = ⊤
IsSet (Remove k) = ⊥

rows_alone : (fingerprint : List ℕ) (c : Changes) (x : Change) → IsSet x → with_change (Rows fingerprint c) x ≡ option_map (Rows fingerprint) (with_next c x)
rows_alone fingerprint c (Set r) is = refl
rows_alone fingerprint c (Remove k) is = absurd is

each_set : (rs : List Row) → Each IsSet (map set_of rs)
each_set [] = tt
each_set (r ∷ rs) = (tt, each_set rs)

rows_can_be_said : (rs : List Row) → Each IsProperRow rs → Each FitsThere rs → Each AreRecordBytes (map record_of rs) → Each CanBeSaid (map set_of rs)
rows_can_be_said [] proper fit are = tt
rows_can_be_said (r ∷ rs) proper fit are = ((proper.0, (fit.0, are.0)), rows_can_be_said rs proper.1 fit.1 are.1)

same_lines : (rs : List Row) → flat_map change_line (map record_change (map set_of rs)) ≡ flat_map set_line (map record_of rs)
same_lines [] = refl
same_lines (r ∷ rs) = ap (λ (l : List ℕ). set_line (record_of r) ++ l) (same_lines rs)

abbrev sets_of : TableRows → Changes
sets_of t = changes_of t.clock t.next_job (map set_of (rows_of t))

-- the tables that the records of some tables make are those
record ComeBack (t : TableRows) : Type 0 where
  up : IsTrue (ascends change_key (map set_of (rows_of t)))
  same : changed empty_tables (sets_of t) ≡ t

tables_come_back : (t : TableRows) → IsSortedTables t → AreProperTables t → All AreRecordBytes (content_of_tables t).items → ComeBack t
tables_come_back t sorted proper are =
    let x = content_of_tables t in
    let is : AreTablesOf x t = record { sorted = sorted; records = refl } in
    let sets = tables_read x t proper is in
    let rise = records_ascend x t proper is in
    let there = tables_there x (sets_of t) refl refl are rise sets in
    record {
      up = (changes_are x.items (map set_of (rows_of t)) are rise sets).ascending;
      same = tables_are_one_to_one (changed empty_tables (sets_of t)) t (tables_proper x.items (sets_of t) are sets) proper there.sorted sorted (sym there.records);
    }

through_tables : (fingerprint : List ℕ) (t : TableRows) → HasFewDigits t.clock → HasFewDigits t.next_job → IsSortedTables t → AreProperTables t → All AreRecordBytes (content_of_tables t).items → ComeBack t
    → Reaches (Second fingerprint) (tables_lines t) (Rows fingerprint (sets_of t))
through_tables fingerprint t clock next sorted proper are back =
    let rows = rows_of t in
    let begun = Rows fingerprint (changes_of t.clock t.next_job []) in
    let numbers = line (codes "START") (decimal t.clock ∷ decimal t.next_job ∷ []) in
    through_both (Second fingerprint) begun (Rows fingerprint (sets_of t)) numbers (flat_map set_line (map record_of rows))
    (through_line (Second fingerprint) begun _ _ (says.Start t.clock t.next_job) (start_back t.clock t.next_job clock next) refl)
    (subst (λ (l : List ℕ). Reaches begun l (Rows fingerprint (sets_of t))) (same_lines rows)
    (through_changes (λ (c : Changes). Rows fingerprint c) IsSet (rows_alone fingerprint) t.clock t.next_job [] (map set_of rows) back.up (each_set rows)
    (rows_can_be_said rows (recursion_from_All IsProperRow rows proper) (rows_fit t sorted) (recursion_from_All AreRecordBytes (map record_of rows) are))))

-- ---- the whole

through_all : (fingerprint : List ℕ) (start : TableRows) (es : List TrailEntry) → AreWritable fingerprint start es → length (trail_text fingerprint start es) ≤ longest_text → Reaches First (trail_text fingerprint start es) (Ended (trail_of fingerprint start es))
through_all fingerprint start es can long =
    let back = tables_come_back start can.sorted can.proper can.bytes in
    let first = line (codes "TRAIL") (encode_lower fingerprint ∷ []) in
    let entries = flat_map entry_lines es in
    let rows = Rows fingerprint (sets_of start) in
    let whole = trail_of fingerprint start es in
    let few : length entries ≤ longest_text = omega (arith, length-append (head_lines fingerprint start) (entries ++ end_line), length-append entries end_line, long) in
    let begun : so_far rows ≡ Some (trail_of fingerprint start []) = ap (λ (t : TableRows). let o : Option Trail = Some (trail_of fingerprint t []) in o) back.same in
    let comes = through_entries fingerprint start [] es rows begun (recursion_from_All IsWritable es can.all) few in
    through_both First rows (Ended whole) (head_lines fingerprint start) (entries ++ end_line)
    (through_both First (Second fingerprint) rows first (tables_lines start) (through_line First (Second fingerprint) _ _ (says.Trail fingerprint) (trail_back fingerprint can.fingerprint_length can.fingerprint_bytes) refl)
    (through_tables fingerprint start can.clock can.next_job can.sorted can.proper can.bytes back))
    (through_both rows comes.there (Ended whole) entries end_line comes.through (through_line comes.there (Ended whole) (codes "END") [] says.End end_back (ap (option_map ended) comes.so)))

pub trails_come_back : TrailsComeBack
trails_come_back fingerprint start es can long =
    let text = trail_text fingerprint start es in
    let short : nat_lt longest_text (length text) ≡ false = grind (arith, nat_tests, long) in
    let x = through_all fingerprint start es can long 1 [] in
    ap (λ (b : Bool). trail_by b text) short ∙ ap (λ (l : List ℕ). trail_from First 1 (lines l)) (sym (append-nil text)) ∙ x.1
