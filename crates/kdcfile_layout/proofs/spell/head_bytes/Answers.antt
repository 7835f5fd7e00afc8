use Rattle.std.proofs.Common.{rules, ◌≡◌, ◌∷◌, ◌++◌, ◌∙◌, List, ℕ, length, refl, ap}
use Rattle.std.specs.Int.{w32, to_be_bytes}
use Rattle.kdcfile_layout.specs.Layout.{zeros, chain_head}
use Rattle.kdcfile_layout.proofs.Zeros.{head_put}
use Rattle.kdcfile_layout.proofs.spell.head_bytes.Goals as goal

pub returns : goal.returns
unfolding zeros chain_head
returns c =
    let kind : ℕ = c.args.key.now.kind in
    let key : List ℕ = c.args.key.now.bytes in
    let whole : List ℕ = c.to_be_bytes.result in
    let part : List ℕ = c.to_be_bytes-2.result in
    let next : List ℕ = c.to_be_bytes-3.result in
    let lk : length key ≡ 24 = search rules in
    let lw : length whole ≡ 4 = search rules in
    let lp : length part ≡ 4 = search rules in
    let ln : length next ≡ 4 = search rules in
    head_put kind key whole part next _ c.put_over.new.to c.put_over-2.new.to c.put_over-3.new.to c.put_over-4.new.to lk lw lp ln refl c.put_over.ensures c.put_over-2.ensures c.put_over-3.ensures c.put_over-4.ensures
    ∙ ap (λ (l : List ℕ). kind ∷ (key ++ l ++ part ++ next ++ zeros 11)) c.to_be_bytes.ensures
    ∙ ap (λ (l : List ℕ). kind ∷ (key ++ to_be_bytes w32 c.args.whole ++ l ++ next ++ zeros 11)) c.to_be_bytes-2.ensures
    ∙ ap (λ (l : List ℕ). kind ∷ (key ++ to_be_bytes w32 c.args.whole ++ to_be_bytes w32 c.args.part ++ l ++ zeros 11)) c.to_be_bytes-3.ensures
