use Rattle.std.proofs.Common.{rules}
use Rattle.std.proofs.lemmas.List.Sorted.{answers_always}
use Rattle.kdcs_types.specs.Tables.{service_key}
use Rattle.kdcs_types.proofs.places.service_place.Goals as goal

-- the closure gives a row's key
pub returns : goal.returns
returns c =
    let facts = c.binary_search_by_key.ensures in
    record { range = facts.bound; position = facts.position service_key (answers_always _ _ _ (λ f a r g called. search rules)) }
