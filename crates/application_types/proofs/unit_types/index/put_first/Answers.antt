use Rattle.std.proofs.Common.{ℕ, ap, sym, ◌∙◌}
use Rattle.std.specs.Global.{Vec as Bytes}
use Rattle.application_types.specs.Index.{at_name}
use Rattle.application_types.specs.PlacesLaws.{put_last, others_kept, none_found}
use Rattle.application_types.proofs.unit_types.index.put_first.Goals as goal

pub returns-in_ok-insert : goal.returns-in_ok-insert
returns-in_ok-insert g c =
    let e = c.in_ok-from_slice.ensures.items in
    let u = c.in_ok-insert.ensures.updates in
    put_last (at_name c.args.places.now) (at_name c.insert.new.self) c.args.name.now c.args.place
    (none_found (at_name c.args.places.now c.args.name.now) c.contains_key.ensures c.if-not-contains_key.true)
    (ap (at_name c.insert.new.self) (sym e) ∙ u.1)
    (λ other ne. others_kept (λ (k : Bytes ℕ). k.items) c.in_ok-from_slice.field-0 c.args.places.now.entries c.insert.new.self.entries u.3 other (λ h. ne (h ∙ e)))
