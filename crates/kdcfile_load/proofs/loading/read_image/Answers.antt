use Rattle.std.proofs.Common.{◌≡◌, ◌∙◌, ◌*◌, List, ℕ, subst, sym}
use Rattle.std.specs.Prelude.{IsTrue}
use Rattle.kdcfile_layout.specs.Layout.{Stands, IsNoImage, slots_in_page}
use Rattle.kdcfile_layout.specs.Stored.{IsStored}
use Rattle.kdcfile_layout.specs.Opened.{identity_of, layout_in}
use Rattle.kdcfile_load.specs.Openings.{directory_length, IsOpening, Opens}
use Rattle.kdcfile_load.specs.Reads.{IsGathering}
use Rattle.kdcfile_load.specs.Slots.{ReadsSlots}
use Rattle.kdcfile_load.specs.Loads.{IsSound, loaded_with}
use Rattle.kdcfile_load.specs.declared.opening.Opening.{Opening}
use Rattle.kdcfile_load.specs.declared.records.Gathering.{Gathering}
use Rattle.kdcfile_load.specs.declared.loading.Loaded.{Loaded}
use Rattle.kdcfile_load.proofs.Choices.{none_then, some_then, of_some, of_none}
use Rattle.kdcfile_load.proofs.ImagesLaws.{stored, stands, not_sound}
use Rattle.kdcfile_load.proofs.loading.read_image.Goals as goal

-- the slots are of the file as it was
slots_before : (h now : List ℕ) (p : Opening) (g : Gathering) → now ≡ h → ReadsSlots now p g → ReadsSlots h p g
slots_before h now p g e read = subst (λ (l : List ℕ). ReadsSlots l p g) e read

abbrev Stored : Loaded → Type 0
Stored l = IsStored (identity_of l.image) l.content (layout_in l.image.root l.slots) l.pool

abbrev Stood : List ℕ → Loaded → Type 0
Stood h l = Stands (identity_of l.image) l.image.second l.content (layout_in l.image.root l.slots) h

pub returns-in_default-2-clause-none : goal.returns-in_default-2-clause-none
returns-in_default-2-clause-none g c = λ told.
    let told_b = c.in_ok-opening.ensures.frame.told ∙ told in
    let same = (c.in_ok-opening.ensures.rests told).holds in
    let opens = of_some (λ p. IsTrue (g.D.Device.state c.args.device.now).told → Opens (g.D.Device.state c.args.device.now).holds p) c.in_ok-opening.field-0 c.in-Some.opening c.in_ok-opening.ensures.opens c.in-Some.is told in
    subst (λ (l : List ℕ). IsNoImage l) same
    (of_none (IsTrue (g.D.Device.state c.read_opening.new.device).told → Opens (g.D.Device.state c.read_opening.new.device).holds c.in-Some.opening → IsNoImage (g.D.Device.state c.read_opening.new.device).holds) c.in_ok-found.field-0 c.in_ok-found.ensures.none c.in_default-2.is told_b
    (subst (λ (l : List ℕ). Opens l c.in-Some.opening) (sym same) opens))

pub returns-clause-stored : goal.returns-clause-stored
returns-clause-stored g c =
    some_then Stored c.in_ok-check_image.field-0
    (λ l e.
    subst (λ (x : Loaded). Stored x) (sym (of_some (λ x. x ≡ loaded_with c.in-Some.opening c.in-Some-2.found) c.in_ok-check_image.field-0 l c.in_ok-check_image.ensures.loaded e))
    (stored c.in-Some.opening c.in-Some-2.found
    (of_some (λ p. IsOpening p) c.in_ok-opening.field-0 c.in-Some.opening c.in_ok-opening.ensures.opening c.in-Some.is)
    (of_some (λ x. IsGathering c.in-Some.opening.head.blksize (directory_length c.in-Some.opening * slots_in_page c.in-Some.opening.head.blksize) x) c.in_ok-found.field-0 c.in-Some-2.found c.in_ok-found.ensures.gathered c.in-Some-2.is)
    (of_some (λ x. IsSound c.in-Some.opening c.in-Some-2.found) c.in_ok-check_image.field-0 l c.in_ok-check_image.ensures.sound e)))

pub returns-clause-stands : goal.returns-clause-stands
returns-clause-stands g c =
    some_then (λ l. IsTrue (g.D.Device.state c.args.device.now).told → Stood (g.D.Device.state c.args.device.now).holds l) c.in_ok-check_image.field-0
    (λ l e told.
    let told_b = c.in_ok-opening.ensures.frame.told ∙ told in
    subst (λ (x : Loaded). Stood (g.D.Device.state c.args.device.now).holds x) (sym (of_some (λ x. x ≡ loaded_with c.in-Some.opening c.in-Some-2.found) c.in_ok-check_image.field-0 l c.in_ok-check_image.ensures.loaded e))
    (stands c.in-Some.opening c.in-Some-2.found
    (of_some (λ p. IsOpening p) c.in_ok-opening.field-0 c.in-Some.opening c.in_ok-opening.ensures.opening c.in-Some.is)
    (of_some (λ x. IsGathering c.in-Some.opening.head.blksize (directory_length c.in-Some.opening * slots_in_page c.in-Some.opening.head.blksize) x) c.in_ok-found.field-0 c.in-Some-2.found c.in_ok-found.ensures.gathered c.in-Some-2.is)
    (of_some (λ x. IsSound c.in-Some.opening c.in-Some-2.found) c.in_ok-check_image.field-0 l c.in_ok-check_image.ensures.sound e)
    (g.D.Device.state c.args.device.now).holds
    (of_some (λ p. IsTrue (g.D.Device.state c.args.device.now).told → Opens (g.D.Device.state c.args.device.now).holds p) c.in_ok-opening.field-0 c.in-Some.opening c.in_ok-opening.ensures.opens c.in-Some.is told)
    (slots_before (g.D.Device.state c.args.device.now).holds (g.D.Device.state c.read_opening.new.device).holds c.in-Some.opening c.in-Some-2.found (c.in_ok-opening.ensures.rests told).holds
    (of_some (λ x. IsTrue (g.D.Device.state c.read_opening.new.device).told → ReadsSlots (g.D.Device.state c.read_opening.new.device).holds c.in-Some.opening x) c.in_ok-found.field-0 c.in-Some-2.found c.in_ok-found.ensures.reads c.in-Some-2.is told_b))))

pub returns-clause-none : goal.returns-clause-none
returns-clause-none g c =
    none_then (IsTrue (g.D.Device.state c.args.device.now).told → IsNoImage (g.D.Device.state c.args.device.now).holds) c.in_ok-check_image.field-0
    (λ e told.
    let told_b = c.in_ok-opening.ensures.frame.told ∙ told in
    not_sound (g.D.Device.state c.args.device.now).holds c.in-Some.opening
    (of_some (λ p. IsTrue (g.D.Device.state c.args.device.now).told → Opens (g.D.Device.state c.args.device.now).holds p) c.in_ok-opening.field-0 c.in-Some.opening c.in_ok-opening.ensures.opens c.in-Some.is told)
    c.in-Some-2.found (directory_length c.in-Some.opening * slots_in_page c.in-Some.opening.head.blksize)
    (of_some (λ x. IsGathering c.in-Some.opening.head.blksize (directory_length c.in-Some.opening * slots_in_page c.in-Some.opening.head.blksize) x) c.in_ok-found.field-0 c.in-Some-2.found c.in_ok-found.ensures.gathered c.in-Some-2.is)
    (slots_before (g.D.Device.state c.args.device.now).holds (g.D.Device.state c.read_opening.new.device).holds c.in-Some.opening c.in-Some-2.found (c.in_ok-opening.ensures.rests told).holds
    (of_some (λ x. IsTrue (g.D.Device.state c.read_opening.new.device).told → ReadsSlots (g.D.Device.state c.read_opening.new.device).holds c.in-Some.opening x) c.in_ok-found.field-0 c.in-Some-2.found c.in_ok-found.ensures.reads c.in-Some-2.is told_b))
    (of_none (IsSound c.in-Some.opening c.in-Some-2.found → ⊥) c.in_ok-check_image.field-0 c.in_ok-check_image.ensures.none e))
