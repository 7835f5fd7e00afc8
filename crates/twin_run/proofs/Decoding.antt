-- What a keeper of two copies has done, at its two files.
use Rattle.std.proofs.Common.{◌≡◌, ◌⊎◌, ◌≤◌, ℕ, List, ◌++◌, inl, inr, ⊎_elim, refl, sym, subst, ◌∙◌, arith}
use Rattle.kd_device.specs.Device.{Rose}
use Rattle.kd_records.specs.Identity.{Identity}
use Rattle.kd_device.specs.Twin.{Both, half_leaves}
use Rattle.kd_device.specs.declared.half.Half.{Half}
use Rattle.kd_device.specs.declared.half.Half.TheVariants.{First, Second}
use Rattle.kdcs_types.specs.Tables.{TableRows}
use Rattle.kdcs_types.specs.declared.act.Act.{Act}
use Rattle.abstract_monitor.specs.Trace.{bytes_of, tables_after}
use Rattle.record_codec.specs.Records.{content_of_tables}
use Rattle.device_acts.specs.Stands.{AreTables}
use Rattle.kdcfile_copies.specs.Copies.{IsChosen, IsCopyOf}
use Rattle.kdcfile_double.specs.Twice.{IsInUse, IsKeptTwice, IsOpen, IsTwice, RoseAt, Twice, content_of, identity_of}
use Rattle.device_acts.specs.Acting.{IsCutOf, IsKeptBy, WithinActs}
use Rattle.device_run.specs.Keeping.{StandsForRows}
use Rattle.twin_run.specs.Images.{alone_image, pair_image}
use Rattle.twin_run.specs.Keeping.{CopiesSince, IsSinceStart, IsSpared, failures, file_kept, leaves_kept, one_more, stands_kept, state_kept}
use Rattle.twin_run.specs.KeepingLaws.{all_gone, alone_decodes, kept_both, kept_images, pair_decodes}
use Rattle.twin_run.specs.Parts.{DidTwice, IsCutOfTables, PartTwice}
use Rattle.twin_run.specs.Running.{CountsAs, FailsTwice, FrameTwice, IsCopyOfTables}

-- ---- where a run begins

module _ (s0 s : Twice) (b0 a : Both) (la : ℕ → List ℕ → List ℕ → List ℕ → Type 0) (copies : s0 ≡ s) (begins : b0 ≡ a) (i : Identity) (is_open : IsOpen s) (identity : identity_of s ≡ one_more i) where
  copies_here : CopiesSince s a a i s
  copies_here = record {
    is_open = is_open;
    identity = identity;
    mended = refl;
    used = λ half here. (here, refl);
    unused = λ half here. inl here;
    lost_stays = λ half is. is;
    newly_lost = λ half is. inl is;
  }

  here : IsSinceStart s a a i s
  here = record { faults = λ half. omega arith; told = refl; names = λ half told. refl; copies = λ is. copies_here }

  pub since_here : IsSinceStart s0 b0 a i s
  since_here = subst (λ (z : Twice). IsSinceStart z b0 a i s) (sym copies) (subst (λ (z : Both). IsSinceStart s z a i s) (sym begins) here)

  pub kept_here : IsTwice s → IsKeptTwice s a la → IsKeptBy (file_kept i s a) (state_kept s0 b0 a) (leaves_kept s0 b0 a la)
  kept_here twice kept = kept_images i s0 b0 a s la twice (since_here.copies is_open) kept

-- ---- what was done

-- what became of the twin and of its copies
pub frame_kept : (s0 : Twice) (b0 a b : Both) (i : Identity) (s : Twice) → b0 ≡ a → IsSinceStart s0 b0 b i s → a.line_faults ≤ b.line_faults → a.moment ≤ b.moment → FrameTwice a b
frame_kept s0 b0 a b i s begins since line moment =
    subst (λ (z : Both). z.line_faults ≤ b.line_faults → z.moment ≤ b.moment → FrameTwice z b) begins
    (λ line moment. record {
      told = since.told;
      first_faults = since.faults First;
      second_faults = since.faults Second;
      line_faults = line;
      moment = moment;
      first_names = since.names First;
      second_names = since.names Second;
    })
    line moment

module _ (i : Identity) (t : TableRows) where
  pub counts_of : (c d : List ℕ) → StandsForRows stands_kept i t (pair_image c d) → CountsAs (one_more i) t c d
  counts_of c d h =
      let chosen = (pair_decodes (λ a b. (n : ℕ) × IsChosen (one_more i) n (content_of_tables t) a b) (λ half a. (n : ℕ) × IsCopyOf (one_more i) n (content_of_tables t) a) c d).0 h.content in
      (chosen.0, record { tables = h.tables; chosen = chosen.1 })

  pub copy_of : (half : Half) (c : List ℕ) → StandsForRows stands_kept i t (alone_image half c) → IsCopyOfTables (one_more i) t c
  copy_of half c h = record {
    tables = h.tables;
    copy = (alone_decodes (λ a b. (n : ℕ) × IsChosen (one_more i) n (content_of_tables t) a b) (λ half a. (n : ℕ) × IsCopyOf (one_more i) n (content_of_tables t) a) half c).0 h.content;
  }

-- a cut in images is one in the files that they are of
module _ (i : Identity) (t : TableRows) (acts : List Act) (sent : List ℕ) where
  pub pair_cut : (c d out : List ℕ) → IsCutOf tables_after (StandsForRows stands_kept i) t acts sent (pair_image c d) out → IsCutOfTables (λ u. CountsAs (one_more i) u c d) t acts sent out
  pair_cut c d out h = record { since = h.since; more = h.more; done = h.done; left = h.left; whole = h.whole; file = counts_of i (tables_after t h.done) c d h.file; bytes = h.bytes }

  pub half_cut : (half : Half) (c out : List ℕ) → IsCutOf tables_after (StandsForRows stands_kept i) t acts sent (alone_image half c) out → IsCutOfTables (λ u. IsCopyOfTables (one_more i) u c) t acts sent out
  half_cut half c out h = record { since = h.since; more = h.more; done = h.done; left = h.left; whole = h.whole; file = copy_of i (tables_after t h.done) half c h.file; bytes = h.bytes }

module _ (s0 s : Twice) (b0 a b : Both) (la lb : ℕ → List ℕ → List ℕ → List ℕ → Type 0) (copies : s0 ≡ s) (begins : b0 ≡ a) where
  pub left_pair : (e : Both) (le : ℕ → List ℕ → List ℕ → List ℕ → Type 0) (u : ℕ) (c d out : List ℕ) → le u c d out → leaves_kept s0 b0 e le u (pair_image c d) out
  left_pair e le u c d out left = (pair_decodes (λ c d. le u c d out) (λ half c. IsSpared half s0 b0 e × half_leaves half le u c out) c d).1 left

  pub pair_left : (e : Both) (le : ℕ → List ℕ → List ℕ → List ℕ → Type 0) (u : ℕ) (c d out : List ℕ) → leaves_kept s0 b0 e le u (pair_image c d) out → le u c d out
  pair_left e le u c d out left = (pair_decodes (λ c d. le u c d out) (λ half c. IsSpared half s0 b0 e × half_leaves half le u c out) c d).0 left

  pub left_alone : (e : Both) (le : ℕ → List ℕ → List ℕ → List ℕ → Type 0) (half : Half) (u : ℕ) (c out : List ℕ) → IsSpared half s0 b0 e → half_leaves half le u c out → leaves_kept s0 b0 e le u (alone_image half c) out
  left_alone e le half u c out spared left = (alone_decodes (λ c d. le u c d out) (λ half c. IsSpared half s0 b0 e × half_leaves half le u c out) half c).1 (spared, left)

  pub alone_left : (e : Both) (le : ℕ → List ℕ → List ℕ → List ℕ → Type 0) (half : Half) (u : ℕ) (c out : List ℕ) → leaves_kept s0 b0 e le u (alone_image half c) out → half_leaves half le u c out
  alone_left e le half u c out left = ((alone_decodes (λ c d. le u c d out) (λ half c. IsSpared half s0 b0 e × half_leaves half le u c out) half c).0 left).1

  pub spared : (half : Half) → IsInUse half s → (RoseAt half a b → ⊥) → IsSpared half s0 b0 b
  spared half used whole = record { used = subst (λ (z : Twice). IsInUse half z) (sym copies) used; whole = λ rose. whole (subst (λ (z : Both). RoseAt half z b) begins rose) }

  module _ (i : Identity) (t : TableRows) (acts : List Act) (within : WithinActs tables_after (StandsForRows stands_kept i) t acts (state_kept s0 b0 a) (state_kept s0 b0 b) (leaves_kept s0 b0 a la) (leaves_kept s0 b0 b lb)) where
    -- whatever became of the acts
    pub part_of_acts : (own : Identity) (z : Twice) → IsSinceStart s0 b0 b own z → PartTwice (one_more i) s t acts a b la lb
    part_of_acts own z since = record {
      frame = frame_kept s0 b0 a b own z begins since within.frame.line_faults within.frame.moment;
      pairs = λ told.
          let h = within.any_moment told in
          record {
            later = h.later;
            only = λ u c d out le left. ⊎_elim (λ past. inl (pair_left a la u c d out past)) (λ cut. inr (pair_cut i t acts a.sent c d out cut)) (h.only u (pair_image c d) out le (left_pair b lb u c d out left));
          };
      halves = λ told half used whole.
          let h = within.any_moment told in
          record {
            later = h.later;
            only = λ u c out le left.
                ⊎_elim (λ past. inl (alone_left a la half u c out past)) (λ cut. inr (half_cut i t acts a.sent half c out cut)) (h.only u (alone_image half c) out le (left_alone b lb half u c out (spared half used whole) left));
          };
    }

  -- all acts were done
  pub did_acts : (i own : Identity) (t : TableRows) (acts : List Act) (z : Twice) → IsSinceStart s0 b0 b own z → one_more own ≡ i → AreTables (tables_after t acts) → content_of z ≡ content_of_tables (tables_after t acts) → b.sent ≡ a.sent ++ bytes_of acts
      → IsKeptBy (file_kept own z b) (state_kept s0 b0 b) (leaves_kept s0 b0 b lb) → lb b.moment b.first.holds b.second.holds b.sent → DidTwice i s t acts z.lost a b lb
  did_acts i own t acts z since same tables content sent rest now =
      let file = rest (pair_image b.first.holds b.second.holds) (left_pair b lb b.moment b.first.holds b.second.holds b.sent now) in
      record {
        now = z;
        lost_is = refl;
        twice = file.0;
        own = own;
        since = subst (λ (x : Twice). CopiesSince x a b own z) copies (subst (λ (x : Both). CopiesSince s0 x b own z) begins (since.copies file.1));
        keeps = record { identity_is = file.2 ∙ same; tables = tables; content = content };
        kept = kept_both own s0 b0 b z lb rest;
        sent = sent;
      }

  -- a call of the line failed, or calls on all halves in use
  pub fails_twice : Rose (failures s0 b0 a) (failures s0 b0 b) ⊎ Rose a.line_faults b.line_faults → FailsTwice s a b
  fails_twice (inl rose) =
      inr (λ half used. subst (λ (z : Both). RoseAt half z b) begins (all_gone s0 b0 a b rose half (subst (λ (z : Twice). IsInUse half z) (sym copies) used)))
  fails_twice (inr rose) = inl rose
