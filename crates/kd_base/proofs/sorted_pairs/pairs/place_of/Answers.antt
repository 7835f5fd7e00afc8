use Rattle.std.proofs.Common.{rules}
use Rattle.std.proofs.lemmas.List.Sorted.{answers_always}
use Rattle.kd_base.proofs.sorted_pairs.pairs.place_of.Goals as goal

-- the closure gives a pair's key
pub returns : goal.returns
returns g c =
    let facts = c.binary_search_by_key.ensures in
    record { range = facts.bound; position = facts.position (λ (e : g.row.K.Denot × g.row.V.Denot). e.0) (answers_always _ _ _ (λ f a r h called. search rules)) }
