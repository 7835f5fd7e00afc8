-- What acts make of tables, where a keeper has the records of them.
use Rattle.std.proofs.Common.{◌≡◌, inl, inr, ⊎_elim, ℕ, ◌≤◌, ◌+◌, arith, List, [], ◌∷◌, ◌++◌, refl, sym, ap, subst, ◌∙◌, append_assoc}
use Rattle.kd_device.specs.Device.{State}
use Rattle.kd_device.specs.TimeLaws.{leaves_weaker}
use Rattle.kd_records.specs.Charge.{total_charge}
use Rattle.kd_records.specs.Contents.{patched}
use Rattle.kd_records.specs.Identity.{Identity}
use Rattle.kd_records.specs.declared.content.Content.{Content}
use Rattle.kd_records.specs.declared.content.Patch.{Patch}
use Rattle.kdcs_types.specs.declared.act.Act.{Act}
use Rattle.kdcs_types.specs.declared.act.Act.TheVariants.{Commit, Emit}
use Rattle.kdcs_types.specs.Tables.{TableRows, changed}
use Rattle.abstract_monitor.specs.Trace.{tables_after}
use Rattle.laws_of_runs.specs.ListsLaws.{tables_both}
use Rattle.record_codec.specs.Records.{content_of_tables, patch_of}
use Rattle.device_acts.specs.Stands.{AreTables}
use Rattle.device_acts.specs.Storing.{AreStorable}
use Rattle.device_acts.specs.Acting.{IsCutOf, WithinActs, WritesBegun, acts_most, content_after, AreCommittable}
use Rattle.device_acts.specs.ActingLaws.{Goes}
use Rattle.device_acts.specs.WritingLaws.{Adds}
use Rattle.device_run.specs.Running.{commits_most_with}
use Rattle.device_run.specs.Keeping.{StandsForRows}

tables_none : (t : TableRows) → tables_after t [] ≡ t
unfolding tables_after
tables_none t = refl

pub tables_go : Goes tables_after
tables_go = record { none = tables_none; joined = tables_both }

module _ (i : Identity) where
  storable_first : (t : TableRows) (p q : List Act) → AreStorable i.blksize i.pages t (p ++ q) → AreStorable i.blksize i.pages t p
  storable_first t [] q s = tt
  storable_first t (Commit c ∷ p) q s = (s.0, storable_first (changed t c) p q s.1)
  storable_first t (Emit line ∷ p) q s = storable_first t p q s

  pub tables_stay : (t : TableRows) (acts : List Act) → AreTables t → AreStorable i.blksize i.pages t acts → AreTables (tables_after t acts)
  unfolding tables_after
  tables_stay t [] h s = h
  tables_stay t (Commit c ∷ acts) h s = tables_stay (changed t c) acts s.0.tables s.1
  tables_stay t (Emit line ∷ acts) h s = tables_stay t acts h s

  pub contents_are : (t : TableRows) (acts : List Act) → AreStorable i.blksize i.pages t acts → content_after (content_of_tables t) acts ≡ content_of_tables (tables_after t acts)
  unfolding tables_after
  contents_are t [] s = refl
  contents_are t (Commit c ∷ acts) s = ap (λ (x : Content). content_after x acts) s.0.records ∙ contents_are (changed t c) acts s.1
  contents_are t (Emit line ∷ acts) s = contents_are t acts s

  pub committable : (t : TableRows) (acts : List Act) → AreStorable i.blksize i.pages t acts → AreCommittable i (content_of_tables t) acts
  committable t [] s = tt
  committable t (Commit c ∷ acts) s = (
    record { short = s.0.short; patch = s.0.patch; before = s.0.before; after = subst (λ (x : Content). total_charge i.blksize x.items ≤ i.pages) (sym s.0.records) s.0.after },
    subst (λ (x : Content). AreCommittable i x acts) (sym s.0.records) (committable (changed t c) acts s.1),
  )
  committable t (Emit line ∷ acts) s = committable t acts s

  module _ (stands : Identity → Content → List ℕ → Type 0) where
    -- what some first acts make of a content, where it is that of tables
    pub rows_of_part : (t : TableRows) (p q all : List Act) (image : List ℕ) → AreTables t → AreStorable i.blksize i.pages t all → all ≡ p ++ q → stands i (content_after (content_of_tables t) p) image → StandsForRows stands i (tables_after t p) image
    rows_of_part t p q all image h s whole file =
        let first = storable_first t p q (subst (λ (l : List Act). AreStorable i.blksize i.pages t l) whole s) in
        record { tables = tables_stay t p h first; content = subst (λ (x : Content). stands i x image) (contents_are t p first) file }

    cut_of_tables : (t : TableRows) (all : List Act) (sent image out : List ℕ) → AreTables t → AreStorable i.blksize i.pages t all → IsCutOf content_after (stands i) (content_of_tables t) all sent image out → IsCutOf tables_after (StandsForRows stands i) t all sent image out
    cut_of_tables t all sent image out h s cut = record {
      since = cut.since;
      more = cut.more;
      done = cut.done;
      left = cut.left;
      whole = cut.whole;
      file = rows_of_part t cut.done cut.left all image h s cut.whole cut.file;
      bytes = cut.bytes;
    }

    -- what acts make of a content is what they make of its tables
    pub tables_within : (t : TableRows) (acts : List Act) (a b : State) (la lb : ℕ → List ℕ → List ℕ → Type 0) → AreTables t → AreStorable i.blksize i.pages t acts → WithinActs content_after (stands i) (content_of_tables t) acts a b la lb → WithinActs tables_after (StandsForRows stands i) t acts a b la lb
    tables_within t acts a b la lb h s p = record {
      frame = p.frame;
      names = p.names;
      any_moment = λ told. leaves_weaker a b la lb (IsCutOf content_after (stands i) (content_of_tables t) acts a.sent) (IsCutOf tables_after (StandsForRows stands i) t acts a.sent) (p.any_moment told) (λ image out cut. cut_of_tables t acts a.sent image out h s cut);
      quiet = p.quiet;
    }

-- ---- what acts write

module _ (most : Identity → Patch → ℕ) (i : Identity) where
  most_both : (p q : List Act) → commits_most_with most i (p ++ q) ≡ commits_most_with most i p + commits_most_with most i q
  most_both [] q = omega arith
  most_both (Commit c ∷ p) q = let rest = most_both p q in omega (arith, rest)
  most_both (Emit line ∷ p) q = most_both p q

  -- what a commit writes at most does not hang on the tables
  abbrev pub most_of : TableRows → List Act → ℕ
  most_of t acts = commits_most_with most i acts

  pub commits_add : Adds tables_after most_of
  commits_add = record { joined = λ t p q. most_both p q }

  -- what acts write over contents is at most what their commits write
  module _ (written : Identity → Content → Patch → ℕ) (bounded : (j : Identity) (x : Content) (patch : Patch) → written j x patch ≤ most j patch) where
    acts_bounded : (x : Content) (acts : List Act) → acts_most written i x acts ≤ commits_most_with most i acts
    acts_bounded x [] = omega arith
    acts_bounded x (Commit c ∷ acts) =
        let here = bounded i x (patch_of c) in
        let rest = acts_bounded (patched x (patch_of c)) acts in
        omega (arith, here, rest)
    acts_bounded x (Emit line ∷ acts) = acts_bounded x acts

    pub commits_written : (stands : Identity → Content → List ℕ → Type 0) (t : TableRows) (acts : List Act) (a b : State) (image : List ℕ) → AreTables t → AreStorable i.blksize i.pages t acts → WritesBegun content_after (stands i) (content_of_tables t) (acts_most written i (content_of_tables t)) acts a b image
        → WritesBegun tables_after (StandsForRows stands i) t (commits_most_with most i) acts a b image
    commits_written stands t acts a b image h s begun =
        let w = begun.writes in
        let bound = acts_bounded (content_of_tables t) w.done in
        record {
          writes = record { since = w.since; more = w.more; done = w.done; left = w.left; whole = w.whole; bytes = w.bytes; put = omega (arith, w.put, bound) };
          file = ⊎_elim
              (λ file. inl (rows_of_part i stands t w.done w.left acts image h s w.whole file))
              (λ last. inr (last.0, last.1, last.2, rows_of_part i stands t last.0 (Commit last.1 ∷ w.left) acts image h s (w.whole ∙ ap (λ (l : List Act). l ++ w.left) last.2 ∙ append_assoc last.0 (Commit last.1 ∷ []) w.left) last.3))
              begun.file;
        }
