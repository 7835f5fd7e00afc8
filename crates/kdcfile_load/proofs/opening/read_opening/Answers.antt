use Rattle.std.proofs.Common.{◌≡◌, ◌∙◌, Bool, List, ℕ, Option, Some, None, subst, sym, ap}
use Rattle.kdcfile_layout.specs.Fields.{AreBytes}
use Rattle.kdcfile_layout.specs.Layout.{directory_pages}
use Rattle.kdcfile_layout.specs.declared.kdcfile_read.head.Head.{Head}
use Rattle.kdcfile_layout.specs.declared.kdcfile_read.root.RootFields.{RootFields}
use Rattle.kdcfile_layout.specs.Reading.{root_of, numbers_of}
use Rattle.kdcfile_layout.specs.Reads.{root_in, numbers_in}
use Rattle.kdcfile_load.proofs.OpeningsLaws.{no_head, no_root, no_numbers}
use Rattle.kdcfile_load.proofs.opening.read_opening.Goals as goal

-- what is read now is of the file as it was
root_before : (a : Head) (h now : List ℕ) (o q : Option RootFields) → now ≡ h → o ≡ root_of a.blksize (root_in a.second now) → o ≡ q → root_of a.blksize (root_in a.second h) ≡ q
root_before a h now o q same is e = ap (λ (l : List ℕ). root_of a.blksize (root_in a.second l)) (sym same) ∙ sym is ∙ e

numbers_before : (n m : ℕ) (second : Bool) (h now : List ℕ) (o q : Option (List ℕ)) → now ≡ h → n ≡ m → o ≡ numbers_of n (numbers_in n second now) → o ≡ q → numbers_of m (numbers_in m second h) ≡ q
numbers_before n m second h now o q same count is e =
    ap (λ (l : List ℕ). numbers_of m (numbers_in m second l)) (sym same) ∙ ap (λ (k : ℕ). numbers_of k (numbers_in k second now)) (sym count) ∙ sym is ∙ e

pub returns-in_default-clause-none : goal.returns-in_default-clause-none
returns-in_default-clause-none g c = λ told. no_head (g.D.Device.state c.args.device.now).holds (sym (c.in_ok-head.ensures.value told) ∙ c.in_default.is)

pub returns-in_default-2-clause-none : goal.returns-in_default-2-clause-none
returns-in_default-2-clause-none g c = λ told.
    let told_b = c.in_ok-head.ensures.frame.told ∙ told in
    no_root (g.D.Device.state c.args.device.now).holds c.in-Some.head (sym (c.in_ok-head.ensures.value told) ∙ c.in-Some.is)
    (root_before c.in-Some.head (g.D.Device.state c.args.device.now).holds (g.D.Device.state c.read_head.new.device).holds c.in_ok-root.field-0 None (c.in_ok-head.ensures.rests told).holds (c.in_ok-root.ensures.value told_b) c.in_default-2.is)

pub returns-in_default-3-clause-none : goal.returns-in_default-3-clause-none
returns-in_default-3-clause-none g c = λ told.
    let told_b = c.in_ok-head.ensures.frame.told ∙ told in
    let told_c = c.in_ok-root.ensures.frame.told ∙ told_b in
    let same_b = (c.in_ok-head.ensures.rests told).holds in
    let same_c = (c.in_ok-root.ensures.rests told_b).holds ∙ same_b in
    no_numbers (g.D.Device.state c.args.device.now).holds c.in-Some.head (sym (c.in_ok-head.ensures.value told) ∙ c.in-Some.is) c.in-Some-2.root
    (root_before c.in-Some.head (g.D.Device.state c.args.device.now).holds (g.D.Device.state c.read_head.new.device).holds c.in_ok-root.field-0 (Some c.in-Some-2.root) same_b (c.in_ok-root.ensures.value told_b) c.in-Some-2.is)
    (numbers_before c.directory_pages-count.result (directory_pages c.in-Some.head.blksize c.in-Some-2.root.pgpool) c.in-Some.head.second (g.D.Device.state c.args.device.now).holds (g.D.Device.state c.read_root.new.device).holds c.in_ok-directory.field-0 None same_c c.directory_pages-count.ensures.value (c.in_ok-directory.ensures.value told_c) c.in_default-3.is)

pub returns-clause-opens : goal.returns-clause-opens
returns-clause-opens g c = λ told.
    let told_b = c.in_ok-head.ensures.frame.told ∙ told in
    let told_c = c.in_ok-root.ensures.frame.told ∙ told_b in
    let same_b = (c.in_ok-head.ensures.rests told).holds in
    let same_c = (c.in_ok-root.ensures.rests told_b).holds ∙ same_b in
    record {
      head = sym (c.in_ok-head.ensures.value told) ∙ c.in-Some.is;
      root = root_before c.in-Some.head (g.D.Device.state c.args.device.now).holds (g.D.Device.state c.read_head.new.device).holds c.in_ok-root.field-0 (Some c.in-Some-2.root) same_b (c.in_ok-root.ensures.value told_b) c.in-Some-2.is;
      numbers =
          numbers_before c.directory_pages-count.result (directory_pages c.in-Some.head.blksize c.in-Some-2.root.pgpool) c.in-Some.head.second (g.D.Device.state c.args.device.now).holds (g.D.Device.state c.read_root.new.device).holds c.in_ok-directory.field-0 (Some c.in-Some-3.directory) same_c c.directory_pages-count.ensures.value
          (c.in_ok-directory.ensures.value told_c) c.in-Some-3.is;
      head_bytes = c.in_ok-head.ensures.bytes told;
      root_bytes = subst (λ (l : List ℕ). AreBytes (root_in c.in-Some.head.second l)) same_b (c.in_ok-root.ensures.bytes told_b);
      number_bytes =
          subst (λ (l : List ℕ). AreBytes (numbers_in (directory_pages c.in-Some.head.blksize c.in-Some-2.root.pgpool) c.in-Some.head.second l)) same_c
          (subst (λ (n : ℕ). AreBytes (numbers_in n c.in-Some.head.second (g.D.Device.state c.read_root.new.device).holds)) c.directory_pages-count.ensures.value (c.in_ok-directory.ensures.bytes told_c));
    }
