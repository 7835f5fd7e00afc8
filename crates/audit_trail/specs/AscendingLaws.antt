-- Laws: changes ascend where each key is greater than the last one in front of it.
use Rattle.std.specs.Prelude.{◌≡◌, refl, ℕ, suc, ◌-◌, ◌<◌, Bool, true, false, ◌&&◌, IsTrue, List, [], ◌∷◌, ◌++◌, length, get_or}
use Rattle.std.proofs.Common.{sym, ap, ◌∙◌, arith}
use Rattle.std.specs.FinMap.Entries.{below_all}
use Rattle.std.specs.Ordering.{is_lt}
use Rattle.kd_base.specs.OrderLaws.{is_less}
use Rattle.kd_base.specs.ToolsLaws.{both_true, true_both}
use Rattle.kdcs_types.specs.declared.act.Change.{Change}
use Rattle.kdcs_types.specs.declared.key.Key.{Key}
use Rattle.kdcs_types.specs.Keyed.{keyed, ascends}
use Rattle.kdcs_types.specs.KeyLaws.{key_total}
use Rattle.kdcs_types.specs.Keys.{key_cmp}
use Rattle.kdcs_types.specs.Tables.{change_key}

-- all keys are greater than this one
abbrev below : Key → List Change → Bool
below k cs = below_all key_cmp k (keyed change_key cs)

-- the last key is less than this one
abbrev ends_below : List Change → Key → Bool
ends_below [] k = true
ends_below (c ∷ []) k = is_lt (key_cmp (change_key c) k)
ends_below (c ∷ d ∷ cs) k = ends_below (d ∷ cs) k

less_too : (a b c : Key) → is_lt (key_cmp a b) ≡ true → is_lt (key_cmp b c) ≡ true → is_lt (key_cmp a c) ≡ true
less_too a b c h k = ap is_lt (key_total.trans a b c (is_less (key_cmp a b) h) (is_less (key_cmp b c) k))

below_more : (k : Key) (c : Change) (cs : List Change) (x : Change) → below k (c ∷ cs) ≡ true → ends_below (c ∷ cs) (change_key x) ≡ true → below k (c ∷ (cs ++ x ∷ [])) ≡ true
below_more k c [] x h less =
    let here = (both_true (is_lt (key_cmp k (change_key c))) true h).0 in
    true_both (is_lt (key_cmp k (change_key c))) (below k (x ∷ [])) here (true_both (is_lt (key_cmp k (change_key x))) true (less_too k (change_key c) (change_key x) here less) refl)
below_more k c (d ∷ cs) x h less =
    let parts = both_true (is_lt (key_cmp k (change_key c))) (below k (d ∷ cs)) h in
    true_both (is_lt (key_cmp k (change_key c))) (below k (d ∷ (cs ++ x ∷ []))) parts.0 (below_more k d cs x parts.1 less)

second : (a b c : Bool) → c ≡ b → (b ≡ true → a ≡ true) → (a && c) ≡ b
second a true c e to = true_both a c (to refl) e
second true false c e to = e
second false false c e to = refl

one_test : (b : Bool) → ((b && true) && true) ≡ b
one_test true = refl
one_test false = refl

-- one more change at the end
pub one_more_ascends : (cs : List Change) (x : Change) → IsTrue (ascends change_key cs) → ascends change_key (cs ++ x ∷ []) ≡ ends_below cs (change_key x)
one_more_ascends [] x up = refl
one_more_ascends (c ∷ []) x up = one_test (is_lt (key_cmp (change_key c) (change_key x)))
one_more_ascends (c ∷ d ∷ cs) x up =
    let parts = both_true (below (change_key c) (d ∷ cs)) (ascends change_key (d ∷ cs)) up in
    second (below (change_key c) (d ∷ (cs ++ x ∷ []))) (ends_below (d ∷ cs) (change_key x)) (ascends change_key (d ∷ (cs ++ x ∷ []))) (one_more_ascends (d ∷ cs) x parts.1) (below_more (change_key c) d cs x parts.0)

-- the last change decides
pub last_decides : (cs : List Change) (last x : Change) → 0 < length cs → last ≡ get_or cs (length cs - 1) last → ends_below cs (change_key x) ≡ is_lt (key_cmp (change_key last) (change_key x))
last_decides [] last x some e = absurd (omega (arith, some))
last_decides (c ∷ []) last x some e = ap (λ (y : Change). is_lt (key_cmp (change_key y) (change_key x))) (sym e)
last_decides (c ∷ d ∷ cs) last x some e =
    let whole : length (c ∷ d ∷ cs) - 1 ≡ suc (length cs) = omega arith in
    let behind : length (d ∷ cs) - 1 ≡ length cs = omega arith in
    last_decides (d ∷ cs) last x (omega arith) (e ∙ ap (λ (n : ℕ). get_or (c ∷ d ∷ cs) n last) whole ∙ ap (λ (n : ℕ). get_or (d ∷ cs) n last) (sym behind))

-- changes in front of others
below_front : (k : Key) (cs ds : List Change) → below k (cs ++ ds) ≡ true → below k cs ≡ true
below_front k [] ds h = refl
below_front k (c ∷ cs) ds h =
    let parts = both_true (is_lt (key_cmp k (change_key c))) (below k (cs ++ ds)) h in
    true_both (is_lt (key_cmp k (change_key c))) (below k cs) parts.0 (below_front k cs ds parts.1)

pub front_ascends : (cs ds : List Change) → IsTrue (ascends change_key (cs ++ ds)) → IsTrue (ascends change_key cs)
front_ascends [] ds h = refl
front_ascends (c ∷ cs) ds h =
    let parts = both_true (below (change_key c) (cs ++ ds)) (ascends change_key (cs ++ ds)) h in
    true_both (below (change_key c) cs) (ascends change_key cs) (below_front (change_key c) cs ds parts.0) (front_ascends cs ds parts.1)
