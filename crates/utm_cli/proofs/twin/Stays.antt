-- Files that stay as they are, and a line that is said then: what a stop leaves.
use Rattle.std.proofs.Common.{◌≡◌, inl, inr, ⊎_elim, ℕ, List, [], ◌++◌, take, refl, sym, ap, subst, ◌∙◌, arith}
use Rattle.std.proofs.lemmas.List.{append-nil}
use Rattle.kd_device.specs.Twin.{Both, Disk}
use Rattle.kd_device.specs.declared.half.Half.{Half}
use Rattle.kd_device.specs.declared.half.Half.TheVariants.{First, Second}
use Rattle.kdcs_types.specs.declared.act.Act.{Act}
use Rattle.kdcs_types.specs.Tables.{TableRows}
use Rattle.abstract_monitor.specs.Trace.{bytes_of}
use Rattle.kdcfile_copies.specs.Copies.{IsNoCopy}
use Rattle.kdcfile_double.specs.ChoiceLaws.{nothing_is_no_copy}
use Rattle.kdcfile_double.specs.Mended.{BothRest}
use Rattle.kdcfile_double.specs.Opening.{SameFiles, Unchanged}
use Rattle.kdcfile_copies.specs.Beside.{LeavesFrontBoth, SaidBoth, SameDisk}
use Rattle.twin_run.specs.Running.{CountsAs}
use Rattle.call_parts.specs.Asking.{Errand}
use Rattle.call_parts.specs.declared.words.Word.{Word}
use Rattle.call_parts.specs.declared.words.Word.TheVariants.{Gen, Run, Show, Update, Trail, Audit, Make}
use Rattle.call_parts.specs.Opening.{OpensTwo, identity_of_two}
use Rattle.utm_cli.specs.DoingTwo.{StartsTwoBy, StartsTwo, acts_two}
use Rattle.call_parts.specs.OpeningTwo.{StaysAsItIs}
use Rattle.call_ends.specs.Stops.{IsStopOfRun}
use Rattle.call_ends.specs.StopsLaws.{silent_stop}
use Rattle.utm_cli.specs.PromiseTwo.{IsFrontOfTwo, IsStopBy, StopsTwo}
use Rattle.call_parts.specs.LeavingTwo.{SaidTwo}

-- no bytes, so no copy
none_of_nothing : (c holds : List ℕ) → c ≡ holds → holds ≡ [] → IsNoCopy c
none_of_nothing c holds same empty = subst IsNoCopy (sym (same ∙ empty)) nothing_is_no_copy

-- both files are as they were, and nothing more was sent
pub record IsAsBefore (a : Both) (c d out : List ℕ) : Type 0 where
  pub first : c ≡ a.first.holds
  pub second : d ≡ a.second.holds
  pub silent : out ≡ a.sent

module _ (e : Errand) (acts : List Act) (t : TableRows) (a b : Both) (c d out : List ℕ) (same : IsAsBefore a c d out) where
  as_opened : OpensTwo e a t → IsStopOfRun (identity_of_two e) t acts a b c d out
  as_opened (inl (empty, is)) = silent_stop (identity_of_two e) t acts a b c d out same.silent (inr (record { empty = empty; silent = same.silent; first_none = none_of_nothing c a.first.holds same.first empty.0; second_none = none_of_nothing d a.second.holds same.second empty.1 }))
  as_opened (inr (n, most, goes)) =
      silent_stop (identity_of_two e) t acts a b c d out same.silent (inl (subst (λ (l : List ℕ). CountsAs (identity_of_two e) t l d) (sym same.first) (subst (λ (l : List ℕ). CountsAs (identity_of_two e) t a.first.holds l) (sym same.second) (n, goes.0))))

  no_front : (bytes : List ℕ) → IsFrontOfTwo bytes a c d out
  no_front bytes = record { first_same = same.first; second_same = same.second; front = (0, same.silent ∙ sym (append-nil a.sent)) }

  unchanged_by : (word : Word) → StartsTwoBy word e a t → IsStopBy word (identity_of_two e) t acts a b c d out
  unchanged_by Gen starts = as_opened starts
  unchanged_by Run starts = as_opened starts
  unchanged_by Show starts = no_front (bytes_of acts)
  unchanged_by Update starts = absurd starts
  unchanged_by Trail starts = no_front (bytes_of acts)
  unchanged_by Audit starts = no_front (bytes_of acts)
  unchanged_by (Make n) starts = absurd starts

-- ---- files that stay

module _ (a b : Both) (la lb : ℕ → List ℕ → List ℕ → List ℕ → Type 0) (stays : StaysAsItIs a b la lb) (rest : BothRest a la) (silent : (c d out : List ℕ) → la a.moment c d out → out ≡ a.sent) where
  at_call : (c d out : List ℕ) → la a.moment c d out → IsAsBefore a c d out
  at_call c d out left =
      let same = silent c d out left in
      let here : la a.moment c d a.sent = subst (λ (o : List ℕ). la a.moment c d o) same left in
      record { first = rest.first_rests c d here; second = rest.second_rests c d here; silent = same }

  unchanged : (c d out : List ℕ) → Unchanged a la c d out → IsAsBefore a c d out
  unchanged c d out h = record { first = rest.first_rests c h.1.0 h.1.1; second = rest.second_rests h.2.0 d h.2.1; silent = h.0 }

  pub as_before : (c d out : List ℕ) → lb a.moment c d out → IsAsBefore a c d out
  as_before c d out left = ⊎_elim (at_call c d out) (unchanged c d out) (stays.leaves.only a.moment c d out (omega arith) left)

-- what stays at all is cut where nothing is done
pub stays_stops : (e : Errand) (t : TableRows) (a b : Both) (la lb : ℕ → List ℕ → List ℕ → List ℕ → Type 0) → StaysAsItIs a b la lb → ((c d out : List ℕ) → la a.moment c d out → out ≡ a.sent) → StartsTwo e a t → StopsTwo e t a b la lb
stays_stops e t a b la lb stays silent starts = λ rest c d out left. unchanged_by e (acts_two e t) t a b c d out (as_before a b la lb stays rest silent c d out left) e.word starts

-- the same twin
pub stays_same : (a : Both) (la : ℕ → List ℕ → List ℕ → List ℕ → Type 0) → StaysAsItIs a a la la
stays_same a la = record {
  files = record { first_holds = refl; second_holds = refl; first_put = refl; second_put = refl };
  sent = refl;
  leaves = record { later = omega arith; only = λ t c d out le left. inl left };
}

-- ---- a line that is said over files that stay

module _ (line : List ℕ) (a m b : Both) (la lm lb : ℕ → List ℕ → List ℕ → List ℕ → Type 0) (stays : StaysAsItIs a m la lm) (disks : (half : Half) → SameDisk half m b) where
  pub same_files : SameFiles a b
  same_files = record {
    first_holds = ap (λ (x : Disk). x.holds) (disks First) ∙ stays.files.first_holds;
    second_holds = ap (λ (x : Disk). x.holds) (disks Second) ∙ stays.files.second_holds;
    first_put = ap (λ (x : Disk). x.put) (disks First) ∙ stays.files.first_put;
    second_put = ap (λ (x : Disk). x.put) (disks Second) ∙ stays.files.second_put;
  }

  pub said_after : SaidBoth line m b → SaidTwo line a b
  said_after said = record { files = same_files; sent = said ∙ ap (λ (s : List ℕ). s ++ line) stays.sent }

  pub front_after : LeavesFrontBoth line m b lm lb → ((c d out : List ℕ) → lm m.moment c d out → lm a.moment c d out) → BothRest a la → ((c d out : List ℕ) → la a.moment c d out → out ≡ a.sent) → (c d out : List ℕ) → lb a.moment c d out → IsFrontOfTwo line a c d out
  front_after left earlier rest silent c d out at = ⊎_elim before within (left.only a.moment c d out stays.leaves.later at)
    where
      before : lm a.moment c d out → IsFrontOfTwo line a c d out
      before past =
          let same = as_before a m la lm stays rest silent c d out past in
          record { first_same = same.first; second_same = same.second; front = (0, same.silent ∙ sym (append-nil a.sent)) }

      within : lm m.moment c d m.sent × ((n : ℕ) × (out ≡ m.sent ++ take n line)) → IsFrontOfTwo line a c d out
      within (past, part) =
          let same = as_before a m la lm stays rest silent c d m.sent (earlier c d m.sent past) in
          record { first_same = same.first; second_same = same.second; front = (part.0, part.1 ∙ ap (λ (s : List ℕ). s ++ take part.0 line) stays.sent) }
