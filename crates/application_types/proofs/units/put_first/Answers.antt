use Rattle.std.proofs.Common.{ℕ, List}
use Rattle.std.specs.BTreeMap.{get_by}
use Rattle.std.specs.Cmp.Lexicographic.{slice_cmp}
use Rattle.std.specs.Ordering.{nat_cmp}
use Rattle.application_types.specs.PlacesLaws.{put_last, others_kept, none_found}
use Rattle.application_types.proofs.units.put_first.Goals as goal

pub returns-in_ok-insert : goal.returns-in_ok-insert
returns-in_ok-insert c =
    let u = c.in_ok-insert.ensures.updates in
    put_last (λ (w : List ℕ). get_by (slice_cmp nat_cmp w) c.args.places.now) (λ (w : List ℕ). get_by (slice_cmp nat_cmp w) c.insert.new.self) c.args.name c.args.place
    (none_found (get_by (slice_cmp nat_cmp c.args.name) c.args.places.now) c.contains_key.ensures c.if-not-contains_key.true)
    u.1
    (others_kept (λ (k : List ℕ). k) c.args.name c.args.places.now.entries c.insert.new.self.entries u.3)
