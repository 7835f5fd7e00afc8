-- Several writes, one list after another.
use Rattle.std.proofs.Common.{◌≡◌, ℕ, ◌+◌, ◌-◌, ◌≤◌, List, [], ◌∷◌, ◌++◌, length, take, drop, replicate, refl, sym, ap, ◌∙◌, arith, append_assoc, length-append}
use Rattle.std.proofs.lemmas.List.{drop-drop, drop_at, take_at, take-append-le}
use Rattle.kd_device.specs.Device.{written}
use Rattle.kd_device.specs.TornLaws.{length_front, length_written}
use Rattle.kdcfile_layout.specs.declared.page.PageWrite.{PageWrite}
use Rattle.kdcfile_layout.specs.Writes.{written_all}

pub written_joined : (h : List ℕ) (xs ys : List PageWrite) → written_all h (xs ++ ys) ≡ written_all (written_all h xs) ys
written_joined h [] ys = refl
written_joined h (x ∷ xs) ys = written_joined (written h x.at x.bytes) xs ys

pub longer : (ws : List PageWrite) (h : List ℕ) → length h ≤ length (written_all h ws)
longer [] h = omega arith
longer (w ∷ ws) h = omega (arith, longer ws (written h w.at w.bytes), length_written h w.at w.bytes)

-- a write that begins where another ends is one with it
pub written_on : (h : List ℕ) (a : ℕ) (x y : List ℕ) → written (written h a x) (a + length x) y ≡ written h a (x ++ y)
written_on h a x y =
    let f = take a (h ++ replicate (a - length h) 0) in
    let one = written h a x in
    let d = drop (a + length x) h in
    let parted : one ≡ (f ++ x) ++ d = sym (append_assoc f x d) in
    let wide : length (f ++ x) ≡ a + length x = omega (arith, length-append f x, length_front h a x) in
    let front : take (a + length x) (one ++ replicate (a + length x - length one) 0) ≡ f ++ x =
    take-append-le (a + length x) one (replicate (a + length x - length one) 0) (omega (arith, length_written h a x))
    ∙ ap (λ (l : List ℕ). take (a + length x) l) parted
    ∙ take_at (f ++ x) d (a + length x) wide in
    let rest : drop (a + length x + length y) one ≡ drop (a + length (x ++ y)) h =
    sym (drop-drop (length y) (a + length x) one)
    ∙ ap (λ (l : List ℕ). drop (length y) (drop (a + length x) l)) parted
    ∙ ap (λ (l : List ℕ). drop (length y) l) (drop_at (f ++ x) d (a + length x) wide)
    ∙ drop-drop (length y) (a + length x) h
    ∙ ap (λ (n : ℕ). drop n h) (omega (arith, length-append x y)) in
    ap (λ (l : List ℕ). l ++ (y ++ drop (a + length x + length y) one)) front
    ∙ ap (λ (l : List ℕ). (f ++ x) ++ (y ++ l)) rest
    ∙ append_assoc f x (y ++ drop (a + length (x ++ y)) h)
    ∙ ap (λ (l : List ℕ). f ++ l) (sym (append_assoc x y (drop (a + length (x ++ y)) h)))
