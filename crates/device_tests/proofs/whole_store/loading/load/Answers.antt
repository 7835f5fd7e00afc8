use Rattle.std.proofs.Common.{List, ℕ, take, Option, sym, ap, ◌∙◌}
use Rattle.std.specs.Option.{option_map}
use Rattle.kd_records.specs.Contents.{Record}
use Rattle.device_tests.specs.declared.whole_store.image.Loaded.{Loaded}
use Rattle.device_tests.specs.Opened.{Opened}
use Rattle.device_tests.specs.ReadImagesLaws.{image_taken, no_head, no_image, stands_read}
use Rattle.device_tests.proofs.whole_store.loading.load.Goals as goal

pub returns-in_default-clause-none : goal.returns-in_default-clause-none
returns-in_default-clause-none g c _ told =
    let at_rest = c.in_ok-bring_to_rest.ensures.frame.told ∙ told in
    let same = (c.in_ok-bring_to_rest.ensures.rests told).holds in
    no_head (g.D.Device.state c.args.device.now).holds c.as_slice.result.now (c.as_slice.ensures.value ∙ c.in_ok-front.ensures.value at_rest ∙ ap (λ (l : List ℕ). take 4097 l) same) (sym c.head_of.ensures.value ∙ c.in_default.is)

pub returns-in-Some-2-clause-stands : goal.returns-in-Some-2-clause-stands
returns-in-Some-2-clause-stands g c told =
    let at_rest = c.in_ok-bring_to_rest.ensures.frame.told ∙ told in
    let read = c.in_ok-front.ensures.frame.told ∙ at_rest in
    let same = (c.in_ok-bring_to_rest.ensures.rests told).holds in
    let then_same = (c.in_ok-front.ensures.rests at_rest).holds ∙ same in
    let loaded = c.in-Some-2.loaded in
    stands_read (g.D.Device.state c.args.device.now).holds c.as_slice.result.now (c.as_slice.ensures.value ∙ c.in_ok-front.ensures.value at_rest ∙ ap (λ (l : List ℕ). take 4097 l) same) c.in-Some.head (sym c.head_of.ensures.value ∙ c.in-Some.is)
    c.as_slice-2.result.now
    (image_taken c.in-Some.head (g.D.Device.state c.args.device.now).holds (g.D.Device.state c.read_part.new.device).holds c.in_ok-bytes.bytes.items c.as_slice-2.result.now c.place.result c.image_size.result c.as_slice-2.ensures.value (c.in_ok-bytes.ensures.value read) c.image_size.ensures c.place.ensures then_same)
    c.head_of.ensures.bytes c.in_ok-loaded.ensures.bytes loaded.image loaded.records
    (sym c.in_ok-loaded.ensures.value ∙ ap (λ (o : Option Loaded). option_map {T = Loaded} {U = Opened × List Record} (λ l. (l.image, l.records)) o) c.in-Some-2.is)

pub returns-clause-none : goal.returns-clause-none
returns-clause-none g c _ told =
    let at_rest = c.in_ok-bring_to_rest.ensures.frame.told ∙ told in
    let read = c.in_ok-front.ensures.frame.told ∙ at_rest in
    let same = (c.in_ok-bring_to_rest.ensures.rests told).holds in
    let then_same = (c.in_ok-front.ensures.rests at_rest).holds ∙ same in
    no_image (g.D.Device.state c.args.device.now).holds c.as_slice.result.now (c.as_slice.ensures.value ∙ c.in_ok-front.ensures.value at_rest ∙ ap (λ (l : List ℕ). take 4097 l) same) c.in-Some.head (sym c.head_of.ensures.value ∙ c.in-Some.is)
    c.as_slice-2.result.now
    (image_taken c.in-Some.head (g.D.Device.state c.args.device.now).holds (g.D.Device.state c.read_part.new.device).holds c.in_ok-bytes.bytes.items c.as_slice-2.result.now c.place.result c.image_size.result c.as_slice-2.ensures.value (c.in_ok-bytes.ensures.value read) c.image_size.ensures c.place.ensures then_same)
    (sym c.in_ok-loaded.ensures.value ∙ ap (λ (o : Option Loaded). option_map {T = Loaded} {U = Opened × List Record} (λ l. (l.image, l.records)) o) c.in-None.is)
