use Rattle.std.proofs.Common.{◌∙◌, subst, ℕ}
use Rattle.std.specs.Prelude.{Result}
use Rattle.kd_base.specs.Places.{IsPlace}
use Rattle.kd_base.specs.PlacesLaws.{found_entry, none_found, put_entry, inserted_entry, removed_entry, none_to_remove}
use Rattle.kd_records.specs.Keys.{key_cmp}
use Rattle.kd_records.specs.KeyLaws.{key_total}
use Rattle.kd_records.proofs.in_place.change_in_room.Goals as goal

pub returns-in-Ok-Some-clause-items : goal.returns-in-Ok-Some-clause-items
returns-in-Ok-Some-clause-items c =
    let place = subst (λ (r : Result ℕ ℕ). IsPlace key_cmp c.args.key c.as_slice.result.now r) c.in-Ok-Some.is-0 c.place_of-place.ensures in
    rw (c.in-Ok-Some.is-1, c.replace.ensures.after)
    (put_entry key_cmp key_total c.args.key c.in-Ok-Some.value c.args.records.now.items _ c.in-Ok-Some.at c.index_mut.result.now c.requires.ascending c.as_slice.ensures.value place c.index_mut.ensures.value)

pub returns-in-Ok-Some-clause-value : goal.returns-in-Ok-Some-clause-value
returns-in-Ok-Some-clause-value c =
    let place = subst (λ (r : Result ℕ ℕ). IsPlace key_cmp c.args.key c.as_slice.result.now r) c.in-Ok-Some.is-0 c.place_of-place.ensures in
    rw c.replace.ensures.value
    (found_entry key_cmp key_total c.args.key c.args.records.now.items _ c.in-Ok-Some.at c.index_mut.result.now c.requires.ascending c.as_slice.ensures.value place c.index_mut.ensures.value)

pub returns-in-Ok-None-clause-items : goal.returns-in-Ok-None-clause-items
returns-in-Ok-None-clause-items c =
    let place = subst (λ (r : Result ℕ ℕ). IsPlace key_cmp c.args.key c.as_slice.result.now r) c.in-Ok-None.is-0 c.place_of-place.ensures in
    rw c.in-Ok-None.is-1
    (c.remove.ensures.items ∙ removed_entry key_cmp key_total c.args.key c.args.records.now.items _ c.in-Ok-None.at c.requires.ascending c.as_slice.ensures.value place)

pub returns-in-Ok-None-clause-value : goal.returns-in-Ok-None-clause-value
returns-in-Ok-None-clause-value c =
    let place = subst (λ (r : Result ℕ ℕ). IsPlace key_cmp c.args.key c.as_slice.result.now r) c.in-Ok-None.is-0 c.place_of-place.ensures in
    found_entry key_cmp key_total c.args.key c.args.records.now.items _ c.in-Ok-None.at c.remove.result c.requires.ascending c.as_slice.ensures.value place c.remove.ensures.value

pub returns-in-Ok-clause-items : goal.returns-in-Ok-clause-items
returns-in-Ok-clause-items c =
    let place = subst (λ (r : Result ℕ ℕ). IsPlace key_cmp c.args.key c.as_slice.result.now r) c.in-Err-Some.is-0 c.place_of-place.ensures in
    rw c.in-Err-Some.is-1
    (c.in-Ok.ensures.items ∙ inserted_entry key_cmp key_total c.args.key c.in-Err-Some.value c.args.records.now.items _ c.in-Err-Some.at c.requires.ascending c.as_slice.ensures.value place)

pub returns-in-Ok-clause-value : goal.returns-in-Ok-clause-value
returns-in-Ok-clause-value c =
    let place = subst (λ (r : Result ℕ ℕ). IsPlace key_cmp c.args.key c.as_slice.result.now r) c.in-Err-Some.is-0 c.place_of-place.ensures in
    none_found key_cmp key_total c.args.key c.args.records.now.items _ _ c.requires.ascending c.as_slice.ensures.value place

pub returns-in-Err-None-clause-items : goal.returns-in-Err-None-clause-items
returns-in-Err-None-clause-items c =
    let place = subst (λ (r : Result ℕ ℕ). IsPlace key_cmp c.args.key c.as_slice.result.now r) c.in-Err-None.is-0 c.place_of-place.ensures in
    rw c.in-Err-None.is-1 (none_to_remove key_cmp key_total c.args.key c.args.records.now.items _ _ c.requires.ascending c.as_slice.ensures.value place)

pub returns-in-Err-None-clause-value : goal.returns-in-Err-None-clause-value
returns-in-Err-None-clause-value c =
    let place = subst (λ (r : Result ℕ ℕ). IsPlace key_cmp c.args.key c.as_slice.result.now r) c.in-Err-None.is-0 c.place_of-place.ensures in
    none_found key_cmp key_total c.args.key c.args.records.now.items _ _ c.requires.ascending c.as_slice.ensures.value place
