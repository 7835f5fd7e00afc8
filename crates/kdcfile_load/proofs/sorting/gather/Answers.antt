use Rattle.std.proofs.Common.{◌∙◌, ◌<◌, List, subst}
use Rattle.std.specs.List.Sorted.{IsPermutation}
use Rattle.kd_records.specs.Contents.{Record}
use Rattle.kd_records.specs.Keys.{key_cmp}
use Rattle.kd_base.specs.Places.{times}
use Rattle.kdcfile_load.proofs.SortingLaws.{sorted_gathered, sorted_new, twice_not_new}
use Rattle.kdcfile_load.proofs.sorting.gather.Goals as goal

pub returns-in-Some-clause-items : goal.returns-in-Some-clause-items
returns-in-Some-clause-items c =
    c.from_vec.ensures ∙ c.into_vec-in-Some.ensures.pairs
    ∙ sorted_gathered c.args.records c.in-Some.pairs (subst (λ (l : List Record). IsPermutation l c.in-Some.pairs) c.into_vec.ensures c.in-Some.ensures.pairs) c.in-Some.ensures.ascending

pub returns-in-Some-clause-new : goal.returns-in-Some-clause-new
returns-in-Some-clause-new c =
    sorted_new c.args.records c.in-Some.pairs (subst (λ (l : List Record). IsPermutation l c.in-Some.pairs) c.into_vec.ensures c.in-Some.ensures.pairs) c.in-Some.ensures.ascending

pub returns-in-None-clause-twice : goal.returns-in-None-clause-twice
returns-in-None-clause-twice c =
    let twice = c.in-None.ensures.twice in
    twice_not_new c.args.records (twice.0, subst (λ (l : List Record). 1 < times key_cmp twice.0 l) c.into_vec.ensures twice.1)
