use Rattle.std.proofs.Common.{append_assoc, rules, refl, ◌≡◌, ◌∷◌, [], List, ℕ, length}
use Rattle.std.proofs.lemmas.List.{take_at, drop_at}
use Rattle.kdcfile_layout.specs.Layout.{zeros}
use Rattle.kdcfile_layout.proofs.spell.used_slot.Goals as goal

pub returns : goal.returns
unfolding zeros
returns c =
    let key : List ℕ = c.copy_from_slice.new.self in
    let rest : List ℕ = 0 ∷ 0 ∷ 0 ∷ 0 ∷ 0 ∷ 0 ∷ 0 ∷ [] in
    let long : length key ≡ 24 = search rules in
    rw (take_at key rest 24 long, drop_at key rest 24 long, c.copy_from_slice.ensures.after, c.copy_from_slice-2.ensures.after, c.to_be_bytes.ensures, append_assoc) refl
