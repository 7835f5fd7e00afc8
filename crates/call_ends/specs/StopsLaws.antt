-- Laws: acts over copies that were opened, from the call on.
use Rattle.std.proofs.Common.{◌≡◌, ◌⊎◌, inl, inr, ⊎_elim, ℕ, List, [], ◌++◌, Some, None, refl, sym, ap, ◌∙◌, arith}
use Rattle.std.specs.Prelude.{IsTrue}
use Rattle.std.proofs.lemmas.List.{append-nil}
use Rattle.kd_records.specs.Identity.{Identity}
use Rattle.kd_device.specs.Twin.{Both, half_leaves}
use Rattle.kd_device.specs.declared.half.Half.{Half}
use Rattle.kd_device.specs.declared.half.Half.TheVariants.{First, Second}
use Rattle.kdcs_types.specs.declared.act.Act.{Act}
use Rattle.kdcs_types.specs.Tables.{TableRows}
use Rattle.abstract_monitor.specs.Trace.{bytes_of, tables_after}
use Rattle.kdcfile_double.specs.Twice.{FineTwice, IsInUse, IsOpen, RoseAt, SameFaultsAt, Twice}
use Rattle.kdcfile_copies.specs.Beside.{file_of}
use Rattle.twin_run.specs.Running.{CountsAs, FailsTwice, FrameTwice, IsCopyOfTables, IsCutTwice, RanTwice, WithinTwice, with_copies}
use Rattle.call_parts.specs.OpeningTwo.{LeavesOpeningTwo}
use Rattle.call_parts.specs.LeavingTwo.{AttachesBoth, FailsTwo, FaultsTwo, FineTwo, FrameTwin, LeavesUnmadeTwo, WasBehind}
use Rattle.call_ends.specs.Stops.{IsCutOfTwo, IsStopOfRun, RanTwo}

-- ---- stops that sent nothing

-- nothing was done
pub cut_none : (keeps : TableRows → Type 0) (t : TableRows) (acts : List Act) (a b : Both) (out : List ℕ) → out ≡ a.sent → keeps t → IsCutOfTwo keeps t acts a b out
unfolding tables_after bytes_of
cut_none keeps t acts a b out silent file = record {
  mended = None;
  mended_was = λ half is. absurd cc;
  lost = None;
  lost_rose = λ half is. absurd cc;
  since = [];
  more = silent ∙ sym (append-nil a.sent);
  done = [];
  left = with_copies None acts None;
  whole = refl;
  files = file;
  bytes = inl refl;
}

-- a stop that sent nothing leaves a cut of which nothing is done, or files that are not made yet
pub silent_stop : (i : Identity) (t : TableRows) (acts : List Act) (a b : Both) (c d out : List ℕ) → out ≡ a.sent → CountsAs i t c d ⊎ LeavesUnmadeTwo a c d out → IsStopOfRun i t acts a b c d out
silent_stop i t acts a b c d out silent files = record {
  pair = ⊎_elim (λ counts. inl (cut_none (λ u. CountsAs i u c d) t acts a b out silent counts)) (λ unmade. inr unmade) files;
  alone = λ half more. absurd (more silent);
}

-- ---- counts of faults only rise

pub rose_later : (half : Half) (a m b : Both) → FrameTwin a m → RoseAt half m b → RoseAt half a b
rose_later First a m b f h = omega (arith, f.first_faults, h)
rose_later Second a m b f h = omega (arith, f.second_faults, h)

pub rose_before : (half : Half) (a m b : Both) → FrameTwice m b → RoseAt half a m → RoseAt half a b
rose_before First a m b f h = omega (arith, f.first_faults, h)
rose_before Second a m b f h = omega (arith, f.second_faults, h)

pub frames_then : (a m b : Both) → FrameTwin a m → FrameTwice m b → FrameTwin a b
frames_then a m b f k = record {
  told = k.told ∙ f.told;
  first_faults = omega (arith, f.first_faults, k.first_faults);
  second_faults = omega (arith, f.second_faults, k.second_faults);
  line_faults = omega (arith, f.line_faults, k.line_faults);
  moment = omega (arith, f.moment, k.moment);
}

pub attached_then : (base : List ℕ) (a m b : Both) → FrameTwice m b → IsTrue m.told → AttachesBoth base a m → AttachesBoth base a b
attached_then base a m b f told h First = f.first_names told ∙ h First
attached_then base a m b f told h Second = f.second_names told ∙ h Second

-- what is left of a half, beside some file of the other one
left_of : (half : Half) (leaves : ℕ → List ℕ → List ℕ → List ℕ → Type 0) (t : ℕ) (c d out : List ℕ) → leaves t c d out → half_leaves half leaves t (file_of half c d) out
left_of First leaves t c d out left = (d, left)
left_of Second leaves t c d out left = (c, left)

-- ---- the copies as the opening left them, and what became of them then

module _ (i : Identity) (s : Twice) (t : TableRows) (acts : List Act) (a m b : Both) (first : FrameTwin a m) (second : FrameTwice m b) (lost : (half : Half) → s.lost ≡ Some half → RoseAt half a m) where
  is_lost : (half : Half) → s.lost ≡ Some half → RoseAt half a b
  is_lost half is = rose_before half a m b second (lost half is)

  may_be_lost : (half : Half) → (s.lost ≡ Some half) ⊎ RoseAt half m b → RoseAt half a b
  may_be_lost half h = ⊎_elim (is_lost half) (rose_later half a m b first) h

  pub faults_of_run : IsOpen s → FailsTwice s m b → FaultsTwo a b
  faults_of_run some (inl line) = inl (omega (arith, first.line_faults, line))
  faults_of_run (inl is_used) (inr all) = inr (inl (rose_later First a m b first (all First is_used)))
  faults_of_run (inr is_used) (inr all) = inr (inr (rose_later Second a m b first (all Second is_used)))

  pub fine_of_run : FineTwo a m → ((half : Half) → IsInUse half s → SameFaultsAt half a m) → FineTwice s m b → FineTwo a b
  fine_of_run opened fine h = record {
    spared = (h.spared.0, h.spared.2 ∙ fine h.spared.0 h.spared.1);
    line = ⊎_elim (λ none. ⊎_elim (λ same. inl (same ∙ none)) (λ rose. inr (rose.0, rose_later rose.0 a m b first rose.2)) h.line) (λ rose. inr (rose.0, rose_before rose.0 a m b second rose.1)) opened.line;
  }

  module _ (used : (half : Half) → IsInUse half s ⊎ (s.lost ≡ Some half)) where
    pub fails_of_run : FailsTwice s m b → FailsTwo a b
    fails_of_run (inl line) = inl (omega (arith, first.line_faults, line))
    fails_of_run (inr all) = inr (inl (rose First, rose Second))
      where
        rose : (half : Half) → RoseAt half a b
        rose half = ⊎_elim (λ is_used. rose_later half a m b first (all half is_used)) (is_lost half) (used half)

    module _ (sent : m.sent ≡ a.sent) (mended : (half : Half) → s.mended ≡ Some half → WasBehind half a) where
      cut_from : (keeps : TableRows → Type 0) (out : List ℕ) → IsCutTwice keeps s t acts m b out → IsCutOfTwo keeps t acts a b out
      cut_from keeps out h = record {
        mended = s.mended;
        mended_was = mended;
        lost = h.lost;
        lost_rose = λ half is. may_be_lost half (h.lost_may half is);
        since = h.since;
        more = h.more ∙ ap (λ (l : List ℕ). l ++ h.since) sent;
        done = h.done;
        left = h.left;
        whole = h.whole;
        files = h.files;
        bytes = h.bytes;
      }

      pub stop_of_run : (la lm lb : ℕ → List ℕ → List ℕ → List ℕ → Type 0) → IsTrue m.told → LeavesOpeningTwo i t a m lm → WithinTwice i s t acts m b lm lb → (c d out : List ℕ) → lb a.moment c d out → IsStopOfRun i t acts a b c d out
      stop_of_run la lm lb told opening within c d out left = record { pair = pair; alone = alone }
        where
          pair : IsCutOfTwo (λ u. CountsAs i u c d) t acts a b out ⊎ LeavesUnmadeTwo a c d out
          pair =
              ⊎_elim (λ past. let o = opening c d out past in (silent_stop i t acts a b c d out o.0 o.1).pair)
              (λ cut. inl (cut_from (λ u. CountsAs i u c d) out cut)) ((within.pairs told).only a.moment c d out first.moment left)

          silent : (half : Half) (c : List ℕ) → half_leaves half lm a.moment c out → out ≡ a.sent
          silent First c past = (opening c past.0 out past.1).0
          silent Second c past = (opening past.0 c out past.1).0

          alone : (half : Half) → (out ≡ a.sent → ⊥) → (RoseAt half a b → ⊥) → IsCutOfTwo (λ u. IsCopyOfTables i u (file_of half c d)) t acts a b out
          alone half more fine = ⊎_elim in_use (λ is. absurd (fine (is_lost half is))) (used half)
            where
              in_use : IsInUse half s → IsCutOfTwo (λ u. IsCopyOfTables i u (file_of half c d)) t acts a b out
              in_use is_used =
                  let left_alone = within.halves told half is_used (λ rose. fine (rose_later half a m b first rose)) in
                  ⊎_elim (λ past. absurd (more (silent half (file_of half c d) past))) (λ cut. cut_from (λ u. IsCopyOfTables i u (file_of half c d)) out cut)
                  (left_alone.only a.moment (file_of half c d) out first.moment (left_of half lb a.moment c d out left))

      pub ran_from : (lb : ℕ → List ℕ → List ℕ → List ℕ → Type 0) → ((half : Half) → IsInUse half s → SameFaultsAt half a m) → ((half : Half) → WasBehind half a → (s.mended ≡ Some half) ⊎ (s.lost ≡ Some half)) → RanTwice i s t acts m b lb → RanTwo i t acts a b lb
      ran_from lb fine mended_all h = record {
        mended = s.mended;
        mended_was = mended;
        lost = h.lost;
        lost_rose = λ half is. may_be_lost half (h.lost_may half is);
        mended_all = λ half behind. ⊎_elim (λ is. inl is) (λ is. inr (h.lost_stays half is)) (mended_all half behind);
        sent = h.sent ∙ ap (λ (l : List ℕ). l ++ bytes_of (with_copies s.mended acts h.lost)) sent;
        counts = h.counts;
        counts_after = h.counts_after;
        copies = λ half. ⊎_elim
            (λ is_used. ⊎_elim (λ is. inl is) (λ last. inr (record { same = last.same ∙ fine half is_used; holds = last.holds; at_rest = last.at_rest })) (h.copies half is_used))
            (λ is. inl (h.lost_stays half is)) (used half);
      }

-- ---- nothing was done

pub nothing_within : (i : Identity) (s : Twice) (t : TableRows) (acts : List Act) (a : Both) (la : ℕ → List ℕ → List ℕ → List ℕ → Type 0) → WithinTwice i s t acts a a la la
nothing_within i s t acts a la = record {
  frame = record { told = refl; first_faults = omega arith; second_faults = omega arith; line_faults = omega arith; moment = omega arith; first_names = λ told. refl; second_names = λ told. refl };
  pairs = λ told. record { later = omega arith; only = λ t c d out le left. inl left };
  halves = λ told half is_used fine. record { later = omega arith; only = λ t c out le left. inl left };
}
