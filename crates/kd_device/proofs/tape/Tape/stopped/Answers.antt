use Rattle.std.proofs.Common.{◌≡◌, ◌∙◌, ◌<◌, ℕ, List, [], length, get_or, ap, sym, subst, arith}
use Rattle.std.proofs.lemmas.List.{length-map}
use Rattle.kd_device.specs.History.{Event, StopLeaves, AllDone, at_first, after, fresh}
use Rattle.kd_device.specs.Recording.{FileNow, Recording}
use Rattle.kd_device.proofs.Kept.{start_at}
use Rattle.kd_device.proofs.Replay.{inside_take, front_is}
use Rattle.kd_device.proofs.tape.Tape.stopped.Goals as goal

pub image_after-requires : goal.image_after-requires
image_after-requires c = rw (c.deref.ensures.value, c.deref-2.ensures.value) (inside_take (length c.self.inside.kept.items) c.args.call c.self.inside.made.items c.self.invariant.0.inside)

pub returns-clause-image : goal.returns-clause-image
returns-clause-image c =
    let r = c.args.self.now in let a = c.args in let files = c.self.inside.files.items in let f = c.index.result.now in let s = at_first r.starts in
    let starts = ap (λ (x : Recording). x.starts) c.self.view_is in
    let lt : a.disk < length files = omega (arith, c.requires.disk, ap (λ (l : List (List ℕ)). length l) starts, length-map files (λ (x : FileNow). x.start)) in
    let first : s.disk a.disk ≡ fresh c.start-start.result.now = ap (λ (l : List ℕ). fresh l) (ap (λ (l : List (List ℕ)). get_or l a.disk []) (sym starts) ∙ start_at files a.disk f lt (sym c.index.ensures) ∙ sym c.start-start.ensures) in
    let front = front_is r c.self.inside.kept.items c.deref-2.result.now c.self.inside.made.items c.deref.result.now a.call (ap (λ (x : Recording). x.events) c.self.view_is) c.deref-2.ensures.value c.deref.ensures.value in
    subst (λ (es : List Event). StopLeaves ((after s es).disk a.disk) c.from_vec.result) front (rw c.from_vec.ensures (c.in_ok-image.ensures.image s first))

pub returns-clause-old : goal.returns-clause-old
returns-clause-old c = λ zero.
    let r = c.args.self.now in let a = c.args in let files = c.self.inside.files.items in let f = c.index.result.now in let s = at_first r.starts in
    let starts = ap (λ (x : Recording). x.starts) c.self.view_is in
    let lt : a.disk < length files = omega (arith, c.requires.disk, ap (λ (l : List (List ℕ)). length l) starts, length-map files (λ (x : FileNow). x.start)) in
    let first : s.disk a.disk ≡ fresh c.start-start.result.now = ap (λ (l : List ℕ). fresh l) (ap (λ (l : List (List ℕ)). get_or l a.disk []) (sym starts) ∙ start_at files a.disk f lt (sym c.index.ensures) ∙ sym c.start-start.ensures) in
    let front = front_is r c.self.inside.kept.items c.deref-2.result.now c.self.inside.made.items c.deref.result.now a.call (ap (λ (x : Recording). x.events) c.self.view_is) c.deref-2.ensures.value c.deref.ensures.value in
    c.from_vec.ensures ∙ c.in_ok-image.ensures.old zero s first ∙ ap (λ (es : List Event). ((after s es).disk a.disk).base) front

pub returns-clause-new : goal.returns-clause-new
returns-clause-new c = λ one done.
    let r = c.args.self.now in let a = c.args in let files = c.self.inside.files.items in let f = c.index.result.now in let s = at_first r.starts in
    let starts = ap (λ (x : Recording). x.starts) c.self.view_is in
    let lt : a.disk < length files = omega (arith, c.requires.disk, ap (λ (l : List (List ℕ)). length l) starts, length-map files (λ (x : FileNow). x.start)) in
    let first : s.disk a.disk ≡ fresh c.start-start.result.now = ap (λ (l : List ℕ). fresh l) (ap (λ (l : List (List ℕ)). get_or l a.disk []) (sym starts) ∙ start_at files a.disk f lt (sym c.index.ensures) ∙ sym c.start-start.ensures) in
    let front = front_is r c.self.inside.kept.items c.deref-2.result.now c.self.inside.made.items c.deref.result.now a.call (ap (λ (x : Recording). x.events) c.self.view_is) c.deref-2.ensures.value c.deref.ensures.value in
    c.from_vec.ensures ∙ c.in_ok-image.ensures.new one (subst AllDone (sym front) done) s first ∙ ap (λ (es : List Event). ((after s es).disk a.disk).bytes) front
