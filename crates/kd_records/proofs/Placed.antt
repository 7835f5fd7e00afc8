-- A record is put where the lesser keys end.
use Rattle.std.proofs.Common.{◌≡◌, ℕ, suc, ◌+◌, Bool, true, false, cond, List, [], ◌∷◌, get_or, set, drop, refl, sym, ◌∙◌, ap, subst, arith, true≢false}
use Rattle.std.specs.List.{prefix_len, insert}
use Rattle.std.specs.Ordering.{is_eq, is_gt}
use Rattle.std.specs.declared.cmp.Ordering.{Ordering}
use Rattle.std.specs.declared.cmp.Ordering.TheVariants.{Less, Equal, Greater}
use Rattle.std.specs.FinMap.{put}
use Rattle.std.specs.FinMap.Entries.{by_order}
use Rattle.kd_records.specs.declared.key.RecordKey.{RecordKey}
use Rattle.kd_records.specs.Keys.{key_cmp}
use Rattle.kd_records.specs.Contents.{Record}
use Rattle.kd_records.specs.Places.{begins_with_key}

abbrev pub lesser : RecordKey → List Record → ℕ
lesser k records = prefix_len (λ (r : Record). is_gt (key_cmp k r.0)) records

-- a key that is there keeps its place
pub put_over : (k : RecordKey) (v : List ℕ) (rs : List Record) (e : Record) → begins_with_key k (drop (lesser k rs) rs) ≡ true → e ≡ get_or rs (lesser k rs) e
    → set rs (lesser k rs) (e.0, v) ≡ put key_cmp k v rs
put_over k v [] e = λ h is. absurd (true≢false (sym h))
put_over k v (r ∷ rs) e = by (put_over k v rs e) (key_cmp k r.0) refl
  where
    by : (begins_with_key k (drop (lesser k rs) rs) ≡ true → e ≡ get_or rs (lesser k rs) e → set rs (lesser k rs) (e.0, v) ≡ put key_cmp k v rs)
        → (o : Ordering) → key_cmp k r.0 ≡ o
        → begins_with_key k (drop (cond (is_gt o) (1 + lesser k rs) 0) (r ∷ rs)) ≡ true
        → e ≡ get_or (r ∷ rs) (cond (is_gt o) (1 + lesser k rs) 0) e
        → set (r ∷ rs) (cond (is_gt o) (1 + lesser k rs) 0) (e.0, v) ≡ by_order o ((k, v) ∷ r ∷ rs) ((r.0, v) ∷ rs) (r ∷ put key_cmp k v rs)
    by rest Less t = λ h is. absurd (true≢false (sym h ∙ ap is_eq t))
    by rest Equal t = λ h is. ap (λ (x : Record). (x.0, v) ∷ rs) is
    by rest Greater t =
        let P : ℕ → Type 0 = λ n. begins_with_key k (drop n (r ∷ rs)) ≡ true → e ≡ get_or (r ∷ rs) n e → set (r ∷ rs) n (e.0, v) ≡ r ∷ put key_cmp k v rs in
        let next : suc (lesser k rs) ≡ 1 + lesser k rs = omega arith in
        subst P next (λ h is. ap (λ (xs : List Record). r ∷ xs) (rest h is))

-- a key that is not there goes between
pub put_new : (k : RecordKey) (v : List ℕ) (rs : List Record) → begins_with_key k (drop (lesser k rs) rs) ≡ false → insert rs (lesser k rs) (k, v) ≡ put key_cmp k v rs
put_new k v [] = λ h. refl
put_new k v (r ∷ rs) = by (put_new k v rs) (key_cmp k r.0) refl
  where
    by : (begins_with_key k (drop (lesser k rs) rs) ≡ false → insert rs (lesser k rs) (k, v) ≡ put key_cmp k v rs)
        → (o : Ordering) → key_cmp k r.0 ≡ o
        → begins_with_key k (drop (cond (is_gt o) (1 + lesser k rs) 0) (r ∷ rs)) ≡ false
        → insert (r ∷ rs) (cond (is_gt o) (1 + lesser k rs) 0) (k, v) ≡ by_order o ((k, v) ∷ r ∷ rs) ((r.0, v) ∷ rs) (r ∷ put key_cmp k v rs)
    by rest Less t = λ h. refl
    by rest Equal t = λ h. absurd (true≢false (sym (ap is_eq t) ∙ h))
    by rest Greater t =
        let P : ℕ → Type 0 = λ n. begins_with_key k (drop n (r ∷ rs)) ≡ false → insert (r ∷ rs) n (k, v) ≡ r ∷ put key_cmp k v rs in
        let next : suc (lesser k rs) ≡ 1 + lesser k rs = omega arith in
        subst P next (λ h. ap (λ (xs : List Record). r ∷ xs) (rest h))

-- the same, where the list goes by several names
pub set_over : (k : RecordKey) (v : List ℕ) (rs items front there : List Record) (n : ℕ) (e : Record) (t : Bool) → items ≡ rs → front ≡ rs → there ≡ rs → n ≡ lesser k front
    → t ≡ begins_with_key k (drop n there) → t ≡ true → e ≡ get_or items n e → set items n (e.0, v) ≡ put key_cmp k v rs
set_over k v rs items front there n e t a b b' m h there' is =
    let P : ℕ → Type 0 = λ n. begins_with_key k (drop n rs) ≡ true → e ≡ get_or rs n e → set rs n (e.0, v) ≡ put key_cmp k v rs in
    let at : n ≡ lesser k rs = m ∙ ap (lesser k) b in
    ap (λ (xs : List Record). set xs n (e.0, v)) a
    ∙ subst P (sym at) (put_over k v rs e) (ap (λ (xs : List Record). begins_with_key k (drop n xs)) (sym b') ∙ sym h ∙ there') (is ∙ ap (λ (xs : List Record). get_or xs n e) a)

pub insert_new : (k : RecordKey) (v : List ℕ) (rs items front there : List Record) (n : ℕ) (t : Bool) → items ≡ rs → front ≡ rs → there ≡ rs → n ≡ lesser k front
    → t ≡ begins_with_key k (drop n there) → t ≡ false → insert items n (k, v) ≡ put key_cmp k v rs
insert_new k v rs items front there n t a b b' m h there' =
    let P : ℕ → Type 0 = λ n. begins_with_key k (drop n rs) ≡ false → insert rs n (k, v) ≡ put key_cmp k v rs in
    let at : n ≡ lesser k rs = m ∙ ap (lesser k) b in
    ap (λ (xs : List Record). insert xs n (k, v)) a
    ∙ subst P (sym at) (put_new k v rs) (ap (λ (xs : List Record). begins_with_key k (drop n xs)) (sym b') ∙ sym h ∙ there')
