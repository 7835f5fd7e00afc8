-- Zero bytes in parts.
use Rattle.std.proofs.Common.{◌≡◌, ℕ, ◌+◌, ◌-◌, List, [], ◌∷◌, ◌++◌, length, take, drop, refl, ap, sym, subst, ◌∙◌, arith, length-append}
use Rattle.std.proofs.Math.Seq.{drop-append-add}
use Rattle.std.proofs.lemmas.List.{drop-replicate, replicate-append-replicate, take_at}
use Rattle.kdcfile_layout.specs.Layout.{zeros}

pub zeros_then : (m n : ℕ) → zeros m ++ zeros n ≡ zeros (m + n)
unfolding zeros
zeros_then m n = replicate-append-replicate m n 0

pub zeros_left : (n m : ℕ) → drop n (zeros m) ≡ zeros (m - n)
unfolding zeros
zeros_left n m = drop-replicate n m 0

-- bytes that are put over the first of zero bytes
pub put_over : (front more : List ℕ) (m : ℕ) (old new : List ℕ) → old ≡ front ++ zeros m → new ≡ take (length front) old ++ more ++ drop (length front + length more) old → new ≡ (front ++ more) ++ zeros (m - length more)
put_over front more m old new was is =
    is
    ∙ ap (λ (l : List ℕ). take (length front) l ++ more ++ drop (length front + length more) l) was
    ∙ ap (λ (l : List ℕ). l ++ more ++ drop (length front + length more) (front ++ zeros m)) (take_at front (zeros m) (length front) refl)
    ∙ ap (λ (l : List ℕ). front ++ more ++ l) (drop-append-add front (zeros m) (length more) ∙ zeros_left (length more) m)

-- the same, at a place that is given
pub put_at : (front more : List ℕ) (m at : ℕ) (old new : List ℕ) → length front ≡ at → old ≡ front ++ zeros m → new ≡ take at old ++ more ++ drop (at + length more) old → new ≡ (front ++ more) ++ zeros (m - length more)
put_at front more m at old new long was is =
    put_over front more m old new was (subst (λ (n : ℕ). new ≡ take n old ++ more ++ drop (n + length more) old) (sym long) is)

-- a byte, 24 bytes and three times four bytes that are put over 48 zero bytes
pub head_put : (kind : ℕ) (key a b c h0 h1 h2 h3 h4 : List ℕ) → length key ≡ 24 → length a ≡ 4 → length b ≡ 4 → length c ≡ 4
    → h0 ≡ kind ∷ zeros 47
    → h1 ≡ take 1 h0 ++ key ++ drop (1 + length key) h0
    → h2 ≡ take 25 h1 ++ a ++ drop (25 + length a) h1
    → h3 ≡ take 29 h2 ++ b ++ drop (29 + length b) h2
    → h4 ≡ take 33 h3 ++ c ++ drop (33 + length c) h3
    → h4 ≡ kind ∷ (key ++ a ++ b ++ c ++ zeros 11)
head_put kind key a b c h0 h1 h2 h3 h4 lk la lb lc e0 e1 e2 e3 e4 =
    let f1 : List ℕ = kind ∷ key in
    let f2 : List ℕ = f1 ++ a in
    let f3 : List ℕ = f2 ++ b in
    let l1 : length f1 ≡ 25 = omega (arith, lk) in
    let l2 : length f2 ≡ 29 = omega (arith, length-append f1 a, l1, la) in
    let l3 : length f3 ≡ 33 = omega (arith, length-append f2 b, l2, lb) in
    let p1 : h1 ≡ f1 ++ zeros 23 = put_at (kind ∷ []) key 47 1 h0 h1 refl e0 e1 ∙ ap (λ (n : ℕ). f1 ++ zeros n) (omega (arith, lk)) in
    let p2 : h2 ≡ f2 ++ zeros 19 = put_at f1 a 23 25 h1 h2 l1 p1 e2 ∙ ap (λ (n : ℕ). f2 ++ zeros n) (omega (arith, la)) in
    let p3 : h3 ≡ f3 ++ zeros 15 = put_at f2 b 19 29 h2 h3 l2 p2 e3 ∙ ap (λ (n : ℕ). f3 ++ zeros n) (omega (arith, lb)) in
    put_at f3 c 15 33 h3 h4 l3 p3 e4 ∙ ap (λ (n : ℕ). (f3 ++ c) ++ zeros n) (omega (arith, lc))
