use Rattle.std.proofs.Common.{◌≡◌, subst, ap, refl, ◌∙◌, Some}
use Rattle.kd_device.specs.Twin.{other}
use Rattle.kd_device.specs.declared.half.Half.{Half}
use Rattle.kdcfile_double.specs.Twice.{AreAlike, copy_at}
use Rattle.kdcfile_double.specs.MendLaws.{taken_first, taken_second}
use Rattle.kdcfile_double.proofs.store.TwinStore.take.Goals.{in-First+in-Some-1, in-First+in-None-1, in-Second+in-Some-1, in-Second+in-None-1}
use Rattle.kdcfile_double.proofs.store.TwinStore.take.Goals as goal

pub returns : goal.returns
returns c =
    let v = c.self.view_is in
    let alike : AreAlike c.args.self.now = subst AreAlike v c.self.invariant.alike in
    let uses : copy_at (other c.args.half) c.args.self.now ≡ Some c.in-Some.own.now = subst (λ (h : Half). copy_at h c.args.self.now ≡ Some c.in-Some.own.now) c.other.ensures c.in-Some.ensures.some in
    let same = c.are_alike.ensures.0 c.if-not-are_alike.false in
    record {
      taken = elim c.match-half.branch [
        | in-First+in-Some-1 w ↦ taken_first c.args.half c.args.self.now _ c.in-Some.own.now c.args.copy alike uses same w.in-First.is (ap (λ z. z.first) w.self-inside-is) (ap (λ z. z.second) w.self-inside-is ∙ ap (λ z. z.second) v) refl (ap (λ z. z.lost) w.self-inside-is ∙ ap (λ z. z.lost) v)
        | in-First+in-None-1 w ↦ taken_first c.args.half c.args.self.now _ c.in-Some.own.now c.args.copy alike uses same w.in-First.is (ap (λ z. z.first) w.self-inside-is) (ap (λ z. z.second) w.self-inside-is ∙ ap (λ z. z.second) v) refl (ap (λ z. z.lost) w.self-inside-is ∙ ap (λ z. z.lost) v)
        | in-Second+in-Some-1 w ↦ taken_second c.args.half c.args.self.now _ c.in-Some.own.now c.args.copy alike uses same w.in-Second.is (ap (λ z. z.first) w.self-inside-is ∙ ap (λ z. z.first) v) (ap (λ z. z.second) w.self-inside-is) refl (ap (λ z. z.lost) w.self-inside-is ∙ ap (λ z. z.lost) v)
        | in-Second+in-None-1 w ↦ taken_second c.args.half c.args.self.now _ c.in-Some.own.now c.args.copy alike uses same w.in-Second.is (ap (λ z. z.first) w.self-inside-is ∙ ap (λ z. z.first) v) (ap (λ z. z.second) w.self-inside-is) refl (ap (λ z. z.lost) w.self-inside-is ∙ ap (λ z. z.lost) v)
      ];
    }
