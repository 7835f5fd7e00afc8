use Rattle.std.proofs.Common.{rules, ◌≡◌, ℕ, ◌+◌, ◌-◌, ◌*◌, ◌<◌, List, [], ◌∷◌, ◌++◌, length, take, drop, get_or, ap, sym, subst, ◌∙◌, arith, append_assoc, length-append}
use Rattle.std.specs.List.{flat_map}
use Rattle.std.specs.Int.{w32, to_be_bytes}
use Rattle.std.proofs.lemmas.List.{append-nil, take_all, take_more}
use Rattle.std.proofs.lemmas.Grind.{flat_map-append}
use Rattle.kdcfile_layout.specs.Layout.{zeros}
use Rattle.kdcfile_layout.specs.PagesLaws.{length_zeros}
use Rattle.kdcfile_layout.proofs.Zeros.{put_over}
use Rattle.kdcfile_layout.proofs.kdcfile_images.root.with_numbers.Goals as goal

-- the bytes of one number more
one_more : (head pages : List ℕ) (n : ℕ) → n < length pages → head ++ flat_map (λ p. to_be_bytes w32 p) (take (n + 1) pages) ≡ (head ++ flat_map (λ p. to_be_bytes w32 p) (take n pages)) ++ to_be_bytes w32 (get_or pages n 0)
one_more head pages n lt =
    ap (λ (l : List ℕ). head ++ flat_map (λ p. to_be_bytes w32 p) l) (take_more pages n 0 lt)
    ∙ ap (λ (l : List ℕ). head ++ l) (flat_map-append (λ p. to_be_bytes w32 p) (take n pages) (get_or pages n 0 ∷ []) ∙ ap (λ (l : List ℕ). flat_map (λ p. to_be_bytes w32 p) (take n pages) ++ l) (append-nil (to_be_bytes w32 (get_or pages n 0))))
    ∙ sym (append_assoc head (flat_map (λ p. to_be_bytes w32 p) (take n pages)) (to_be_bytes w32 (get_or pages n 0)))

none_behind : (xs : List ℕ) → xs ++ zeros 0 ≡ xs
unfolding zeros
none_behind xs = append-nil xs

pub put_four-requires : goal.put_four-requires
put_four-requires c =
    let front : List ℕ = c.args.head ++ flat_map (λ p. to_be_bytes w32 p) (take c.loop-n.n c.args.pages.now) in
    let left : ℕ = 4 * (length c.args.pages.now - c.loop-n.n) in
    let four : length c.to_be_bytes.result ≡ 4 = search rules in
    omega (arith, four, ap (λ (l : List ℕ). length l) c.loop-n.invariant.bytes, length-append front (zeros left), length_zeros left, c.loop-n.invariant.length, c.loop-n-test.true)

pub loop-n-preserved : goal.loop-n-preserved
loop-n-preserved c =
    let front : List ℕ = c.args.head ++ flat_map (λ p. to_be_bytes w32 p) (take c.loop-n.n c.args.pages.now) in
    let left : ℕ = 4 * (length c.args.pages.now - c.loop-n.n) in
    let four : length c.to_be_bytes.result ≡ 4 = search rules in
    let more = one_more c.args.head c.args.pages.now c.loop-n.n c.loop-n-test.true ∙ ap (λ (l : List ℕ). front ++ l) (sym c.to_be_bytes.ensures) in
    record {
      bytes =
          put_over front c.to_be_bytes.result left c.loop-n.bytes.items c.put_four.new.to.items c.loop-n.invariant.bytes
          (subst (λ (at : ℕ). c.put_four.new.to.items ≡ take at c.loop-n.bytes.items ++ c.to_be_bytes.result ++ drop (at + length c.to_be_bytes.result) c.loop-n.bytes.items) (sym c.loop-n.invariant.length)
          (subst (λ (long : ℕ). c.put_four.new.to.items ≡ take (c.len-from.result + 4 * c.loop-n.n) c.loop-n.bytes.items ++ c.to_be_bytes.result ++ drop (c.len-from.result + 4 * c.loop-n.n + long) c.loop-n.bytes.items) (sym four) c.put_four.ensures))
          ∙ ap (λ (l : List ℕ). l ++ zeros (left - length c.to_be_bytes.result)) (sym more)
          ∙ ap (λ (k : ℕ). (c.args.head ++ flat_map (λ p. to_be_bytes w32 p) (take (c.loop-n.n + 1) c.args.pages.now)) ++ zeros k) (omega (arith, four));
      length = ap (λ (l : List ℕ). length l) more ∙ omega (arith, length-append front c.to_be_bytes.result, four, c.loop-n.invariant.length);
    }

pub returns : goal.returns
returns c =
    let all : c.loop-n.n ≡ length c.args.pages.now = omega (arith, c.loop-n-test.false, c.loop-n.auto.n-end) in
    c.from_vec.ensures
    ∙ c.loop-n.invariant.bytes
    ∙ ap (λ (k : ℕ). (c.args.head ++ flat_map (λ p. to_be_bytes w32 p) (take c.loop-n.n c.args.pages.now)) ++ zeros k) (omega (arith, all))
    ∙ none_behind (c.args.head ++ flat_map (λ p. to_be_bytes w32 p) (take c.loop-n.n c.args.pages.now))
    ∙ ap (λ (l : List ℕ). c.args.head ++ flat_map (λ p. to_be_bytes w32 p) l) (take_all c.loop-n.n c.args.pages.now (omega (arith, all)))
