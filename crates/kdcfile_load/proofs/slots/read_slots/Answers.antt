use Rattle.std.proofs.Common.{◌≡◌, ◌∙◌, ◌*◌, List, [], ℕ, Option, Some, None, length, subst, sym, ap}
use Rattle.std.specs.Prelude.{IsTrue}
use Rattle.kdcfile_layout.specs.Places.{At}
use Rattle.kdcfile_layout.specs.Fields.{AreBytes}
use Rattle.kdcfile_layout.specs.Layout.{IsNoImage, slots_in_page}
use Rattle.kdcfile_layout.specs.declared.kdcfile_read.slot.First.{First}
use Rattle.kdcfile_layout.specs.Chains.{page_at}
use Rattle.kdcfile_load.specs.Openings.{Opens, pages_of_file}
use Rattle.kdcfile_load.specs.Reads.{AreFirsts, directory_from, records_from, none_yet}
use Rattle.kdcfile_load.specs.Slots.{ReadsSlots}
use Rattle.kdcfile_load.specs.declared.records.Gathering.{Gathering}
use Rattle.kdcfile_load.proofs.Choices.{ok_then, none_then, some_then, of_some}
use Rattle.kdcfile_load.proofs.ImagesLaws.{no_directory, no_records}
use Rattle.kdcfile_load.proofs.slots.read_slots.Goals as goal

-- the same, with the number of pages and the directory as they are told
directory_before : (size n m : ℕ) (h a b : List ℕ) (o q : Option (List (Option First))) → n ≡ m → a ≡ b → o ≡ directory_from size n h [] a → o ≡ q → directory_from size m h [] b ≡ q
directory_before size n m h a b o q count same is e = sym (ap (λ (d : List ℕ). directory_from size n h [] d) same ∙ ap (λ (k : ℕ). directory_from size k h [] b) count) ∙ sym is ∙ e

records_before : (size n m : ℕ) (h now : List ℕ) (a b : List (Option First)) (o q : Option Gathering) → now ≡ h → n ≡ m → a ≡ b → o ≡ records_from size n now (none_yet n) a → o ≡ q → records_from size m h (none_yet m) b ≡ q
records_before size n m h now a b o q same count slots is e =
    sym (ap (λ (l : List ℕ). records_from size n l (none_yet n) a) same ∙ ap (λ (k : ℕ). records_from size k h (none_yet k) a) count ∙ ap (λ (s : List (Option First)). records_from size m h (none_yet m) s) slots)
    ∙ sym is
    ∙ e

pub returns-in_default-clause-none : goal.returns-in_default-clause-none
returns-in_default-clause-none g c = λ told opens.
    let p = c.args.opening.now in
    no_directory (g.D.Device.state c.args.device.now).holds c.args.opening.now opens
    (directory_before p.head.blksize c.page_count-count.result (pages_of_file c.args.opening.now) (g.D.Device.state c.args.device.now).holds c.as_slice.result.now p.directory c.in_ok-slots.field-0 None c.page_count-count.ensures.value c.as_slice.ensures (c.in_ok-slots.ensures.value told) c.in_default.is)

pub returns-clause-none : goal.returns-clause-none
returns-clause-none g c =
    ok_then _ _ c.read_records.result c.read_records.ensures.value
    (λ o value.
    none_then (IsTrue (g.D.Device.state c.args.device.now).told → Opens (g.D.Device.state c.args.device.now).holds c.args.opening.now → IsNoImage (g.D.Device.state c.args.device.now).holds) o
    (λ e told opens.
    no_records (g.D.Device.state c.args.device.now).holds c.args.opening.now opens c.in-Some.slots
    (directory_before c.args.opening.now.head.blksize c.page_count-count.result (pages_of_file c.args.opening.now) (g.D.Device.state c.args.device.now).holds c.as_slice.result.now c.args.opening.now.directory c.in_ok-slots.field-0 (Some c.in-Some.slots) c.page_count-count.ensures.value c.as_slice.ensures (c.in_ok-slots.ensures.value told) c.in-Some.is)
    (records_before c.args.opening.now.head.blksize c.page_count-count.result (pages_of_file c.args.opening.now) (g.D.Device.state c.args.device.now).holds (g.D.Device.state c.read_directory.new.device).holds c.as_slice-2.result.now c.in-Some.slots o None (c.in_ok-slots.ensures.rests told).holds c.page_count-count.ensures.value c.as_slice-2.ensures
    (value (c.in_ok-slots.ensures.frame.told ∙ told)) e)))

pub returns-clause-reads : goal.returns-clause-reads
returns-clause-reads g c =
    ok_then _ _ c.read_records.result c.read_records.ensures.value
    (λ o value.
    some_then (λ found. IsTrue (g.D.Device.state c.args.device.now).told → ReadsSlots (g.D.Device.state c.args.device.now).holds c.args.opening.now found) o
    (λ found e told.
    record {
      slots = c.in-Some.slots;
      are =
          subst (λ (d : List ℕ). AreFirsts (length d * slots_in_page c.args.opening.now.head.blksize) c.in-Some.slots) c.as_slice.ensures
          (of_some (λ s. AreFirsts (length c.as_slice.result.now * slots_in_page c.args.opening.now.head.blksize) s) c.in_ok-slots.field-0 c.in-Some.slots c.in_ok-slots.ensures.slots c.in-Some.is);
      directory =
          directory_before c.args.opening.now.head.blksize c.page_count-count.result (pages_of_file c.args.opening.now) (g.D.Device.state c.args.device.now).holds c.as_slice.result.now c.args.opening.now.directory c.in_ok-slots.field-0 (Some c.in-Some.slots) c.page_count-count.ensures.value c.as_slice.ensures (c.in_ok-slots.ensures.value told) c.in-Some.is;
      records =
          records_before c.args.opening.now.head.blksize c.page_count-count.result (pages_of_file c.args.opening.now) (g.D.Device.state c.args.device.now).holds (g.D.Device.state c.read_directory.new.device).holds c.as_slice-2.result.now c.in-Some.slots o (Some found) (c.in_ok-slots.ensures.rests told).holds c.page_count-count.ensures.value c.as_slice-2.ensures
          (value (c.in_ok-slots.ensures.frame.told ∙ told)) e;
      bytes =
          subst (λ (d : List ℕ). (k q : ℕ) → At d k q → AreBytes (page_at c.args.opening.now.head.blksize (g.D.Device.state c.args.device.now).holds q)) c.as_slice.ensures
          (of_some (λ s. IsTrue (g.D.Device.state c.args.device.now).told → (k q : ℕ) → At c.as_slice.result.now k q → AreBytes (page_at c.args.opening.now.head.blksize (g.D.Device.state c.args.device.now).holds q)) c.in_ok-slots.field-0 c.in-Some.slots c.in_ok-slots.ensures.bytes c.in-Some.is told);
    }))
