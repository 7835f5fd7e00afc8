-- A line of the copies is said, or none is.
use Rattle.std.proofs.Common.{◌≡◌, ℕ, List, [], ◌∷◌, ◌++◌, take, inr, inl, refl, sym, ap, subst, ◌∙◌, arith}
use Rattle.std.specs.Prelude.{IsTrue}
use Rattle.std.proofs.lemmas.List.{append-nil}
use Rattle.kd_device.specs.Device.{Frame}
use Rattle.kd_device.specs.Twin.{Both, half_state}
use Rattle.kd_device.specs.declared.half.Half.{Half}
use Rattle.kdcs_types.specs.declared.act.Act.{Act}
use Rattle.kdcs_types.specs.declared.act.Act.TheVariants.{Emit}
use Rattle.abstract_monitor.specs.Trace.{bytes_of}
use Rattle.kdcfile_copies.specs.Beside.{LeavesFrontBoth, LeavesSamePairs, SaidBoth, SameDisk}
use Rattle.kdcfile_copies.specs.BesideLaws.{pairs_weaker}
use Rattle.device_acts.specs.ActingLaws.{no_bytes}
use Rattle.device_run.specs.Running.{SendsPart}
use Rattle.twin_run.specs.Parts.{SaysTwice}

bytes_of_line : (line : List ℕ) → bytes_of (Emit line ∷ []) ≡ line
unfolding bytes_of
bytes_of_line line = append-nil line

module _ (lines : List Act) (line : List ℕ) (is : lines ≡ Emit line ∷ []) (a b : Both) (la lb : ℕ → List ℕ → List ℕ → List ℕ → Type 0) where
  front : (out : List ℕ) → ((n : ℕ) × (out ≡ a.sent ++ take n line)) → SendsPart lines a.sent out
  front out part =
      subst (λ (l : List Act). SendsPart l a.sent out) (sym is)
      (record {
        since = take part.0 line;
        more = part.1;
        done = [];
        left = Emit line ∷ [];
        whole = refl;
        bytes = inr (line, [], refl, part.0, ap (λ (l : List ℕ). l ++ take part.0 line) (sym no_bytes));
      })

  pub says_line : ((half : Half) → SameDisk half a b) → ((half : Half) → Frame (half_state half a) (half_state half b)) → (IsTrue a.told → LeavesSamePairs a b la lb) → (IsTrue a.told → LeavesFrontBoth line a b la lb) → SaysTwice lines a b la lb
  says_line disks frame stop left = record {
    disks = disks;
    frame = frame;
    stop = stop;
    any_moment = λ told.
        pairs_weaker a b la lb (λ c d out. la a.moment c d a.sent × ((n : ℕ) × (out ≡ a.sent ++ take n line))) (λ c d out. la a.moment c d a.sent × SendsPart lines a.sent out) (left told) (λ c d out h. (h.0, front out h.1));
  }

  pub sent_line : SaidBoth line a b → b.sent ≡ a.sent ++ bytes_of lines
  sent_line said = said ∙ ap (λ (l : List ℕ). a.sent ++ l) (sym (ap bytes_of is ∙ bytes_of_line line))

module _ (lines : List Act) (is : lines ≡ []) (a : Both) (la : ℕ → List ℕ → List ℕ → List ℕ → Type 0) where
  pub says_nothing : SaysTwice lines a a la la
  says_nothing = record {
    disks = λ half. refl;
    frame = λ half. record { told = refl; disk_faults = omega arith; line_faults = omega arith; moment = omega arith };
    stop = λ told c d left. left;
    any_moment = λ told. record { later = omega arith; only = λ t c d out le left. inl left };
  }

  pub sent_nothing : a.sent ≡ a.sent ++ bytes_of lines
  sent_nothing = sym (ap (λ (l : List ℕ). a.sent ++ l) (ap bytes_of is ∙ no_bytes) ∙ append-nil a.sent)
