use Rattle.std.proofs.Common.{◌≡◌, ◌<◌, ◌≤◌, ◌+◌, ◌-◌, ◌++◌, ◌∙◌, length, take, refl, ap, sym, arith, ℕ, List}
use Rattle.std.specs.Prelude.{Option}
use Rattle.std.specs.Option.{option_map}
use Rattle.kdcfile_load.specs.Reads.{page_in}
use Rattle.kdcfile_layout.specs.declared.kdcfile_read.part.Part.{Part}
use Rattle.kdcfile_layout.specs.Chains.{Held}
use Rattle.kdcfile_layout.specs.ReadChainsLaws.{some_chain}
use Rattle.kdcfile_load.proofs.Choices.{not_failed, of_some}
use Rattle.kdcfile_load.proofs.SoFarLaws.{none_now, more_now, none_last, last_now, last_pages, last_bytes, not_last, is_last}
use Rattle.kdcfile_load.proofs.chain.read_parts.Goals as goal

held_in : Option Part → Option Held
held_in o = option_map (λ (q : Part). (q.next, q.bytes)) o

pub returns-in_default-clause-none : goal.returns-in_default-clause-none
unfolding held_in
returns-in_default-clause-none g c = λ _ told.
    let before : c.loop-part.part < c.args.pages = omega (arith, c.loop-part-test.true) in
    none_now c.args.size c.args.count c.args.key.now c.args.whole c.args.pages c.args.first c.loop-part.part c.loop-part.room c.loop-part.page c.loop-part.found.pages c.loop-part.found.value _ _ _ _ c.loop-part.invariant.reading before told (sym (c.in_ok-here.ensures.value c.args.count c.loop-part.page (g.D.Device.state c.args.device.now).holds (c.loop-part.invariant.page told)) ∙ ap (λ (o : Option Part). held_in o) c.in_default.is)

pub loop-part-preserved : goal.loop-part-preserved
unfolding held_in
loop-part-preserved g c = record {
  reading =
      more_now c.args.size c.args.count c.args.key.now c.args.whole c.args.pages c.args.first c.loop-part.part c.loop-part.room c.loop-part.page c.loop-part.found.pages c.loop-part.found.value _ _ _ _ c.loop-part.invariant.reading (c.in-Some.here.next, c.in-Some.here.bytes) c.loop-part-test.true (of_some (λ (q : Part). c.args.size ≤ length q.bytes + 48) _ c.in-Some.here c.in_ok-here.ensures.long c.in-Some.is)
      (λ told. sym (c.in_ok-here.ensures.value c.args.count c.loop-part.page (g.D.Device.state c.args.device.now).holds (c.loop-part.invariant.page told)) ∙ ap (λ (o : Option Part). held_in o) c.in-Some.is)
      _ _ c.page_in.ensures.frame c.page_in.ensures.names (c.in_ok-bytes.ensures.fine (λ e. not_failed e)) c.page_in.ensures.rests c.add.new.self.pages c.add.new.self.value (c.loop-part.room - (c.args.size - 48)) c.in_ok-add.ensures.pages
      (c.in_ok-add.ensures.value ∙ ap (λ (l : List ℕ). c.loop-part.found.value ++ l) (c.split_at.ensures.front ∙ ap (λ (l : List ℕ). take (c.args.size - 48) l) c.as_slice.ensures)) refl;
  page = λ told.
      c.in_ok-bytes.ensures.value (rw c.loop-part.invariant.reading.rested.frame.told told)
      ∙ ap (λ (h : List ℕ). page_in c.args.size c.args.count h c.in-Some.here.next) (c.loop-part.invariant.reading.rested.rests told).holds;
}

pub returns-in_default-2-clause-none : goal.returns-in_default-2-clause-none
unfolding held_in
returns-in_default-2-clause-none g c = λ _ told.
    let last : c.loop-part.part ≡ c.args.pages - 1 = omega (arith, c.loop-part-test.false, c.loop-part.auto.part-end) in
    none_last c.args.size c.args.count c.args.key.now c.args.whole c.args.pages c.args.first c.loop-part.part c.loop-part.room c.loop-part.page c.loop-part.found.pages c.loop-part.found.value _ _ _ _ c.loop-part.invariant.reading (c.args.pages - 1) last refl told (sym (c.in_ok-here-2.ensures.value c.args.count c.loop-part.page (g.D.Device.state c.args.device.now).holds (c.loop-part.invariant.page told)) ∙ ap (λ (o : Option Part). held_in o) c.in_default-2.is)

pub returns-then-here-clause-none : goal.returns-then-here-clause-none
unfolding held_in
returns-then-here-clause-none g c = λ _ told.
    let last : c.loop-part.part ≡ c.args.pages - 1 = omega (arith, c.loop-part-test.false, c.loop-part.auto.part-end) in
    sym (not_last c.loop-part.found.pages c.loop-part.found.value c.loop-part.room c.loop-part.page (c.in-Some-2.here.next, c.in-Some-2.here.bytes) c.if-here.true)
    ∙ last_now c.args.size c.args.count c.args.key.now c.args.whole c.args.pages c.args.first c.loop-part.part c.loop-part.room c.loop-part.page c.loop-part.found.pages c.loop-part.found.value _ _ _ _ c.loop-part.invariant.reading (c.in-Some-2.here.next, c.in-Some-2.here.bytes) (c.args.pages - 1) last refl told
    (sym (c.in_ok-here-2.ensures.value c.args.count c.loop-part.page (g.D.Device.state c.args.device.now).holds (c.loop-part.invariant.page told)) ∙ ap (λ (o : Option Part). held_in o) c.in-Some-2.is)

pub returns-clause-value : goal.returns-clause-value
unfolding held_in
returns-clause-value g c = λ _ told.
    let last : c.loop-part.part ≡ c.args.pages - 1 = omega (arith, c.loop-part-test.false, c.loop-part.auto.part-end) in
    some_chain _ _ _ _ c.in_ok-add-2.ensures.pages (c.in_ok-add-2.ensures.value ∙ ap (λ (l : List ℕ). c.loop-part.found.value ++ l) (c.split_at-2.ensures.front ∙ ap (λ (l : List ℕ). take c.loop-part.room l) c.as_slice-2.ensures))
    ∙ sym (is_last c.loop-part.found.pages c.loop-part.found.value c.loop-part.room c.loop-part.page (c.in-Some-2.here.next, c.in-Some-2.here.bytes) c.if-here.false)
    ∙ last_now c.args.size c.args.count c.args.key.now c.args.whole c.args.pages c.args.first c.loop-part.part c.loop-part.room c.loop-part.page c.loop-part.found.pages c.loop-part.found.value _ _ _ _ c.loop-part.invariant.reading (c.in-Some-2.here.next, c.in-Some-2.here.bytes) (c.args.pages - 1) last refl told
    (sym (c.in_ok-here-2.ensures.value c.args.count c.loop-part.page (g.D.Device.state c.args.device.now).holds (c.loop-part.invariant.page told)) ∙ ap (λ (o : Option Part). held_in o) c.in-Some-2.is)

pub returns-clause-pages : goal.returns-clause-pages
returns-clause-pages g c = λ _.
    last_pages c.args.size c.args.count c.args.key.now c.args.whole c.args.pages c.args.first c.loop-part.part c.loop-part.room c.loop-part.page c.loop-part.found.pages c.loop-part.found.value _ _ _ _ c.loop-part.invariant.reading (c.in-Some-2.here.next, c.in-Some-2.here.bytes)
    (omega (arith, c.loop-part-test.false, c.loop-part.auto.part-end)) c.add-2.new.self.pages c.in_ok-add-2.ensures.pages

pub returns-clause-length : goal.returns-clause-length
returns-clause-length g c = λ _.
    last_bytes c.args.size c.args.count c.args.key.now c.args.whole c.args.pages c.args.first c.loop-part.part c.loop-part.room c.loop-part.page c.loop-part.found.pages c.loop-part.found.value _ _ _ _ c.loop-part.invariant.reading (c.in-Some-2.here.next, c.in-Some-2.here.bytes)
    (omega (arith, c.loop-part-test.false, c.loop-part.auto.part-end)) (of_some (λ (q : Part). c.args.size ≤ length q.bytes + 48) _ c.in-Some-2.here c.in_ok-here-2.ensures.long c.in-Some-2.is)
    c.add-2.new.self.value (c.in_ok-add-2.ensures.value ∙ ap (λ (l : List ℕ). c.loop-part.found.value ++ l) (c.split_at-2.ensures.front ∙ ap (λ (l : List ℕ). take c.loop-part.room l) c.as_slice-2.ensures))
