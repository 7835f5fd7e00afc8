-- Which users are signed on, after a session was put in or taken out.
use Rattle.std.specs.Prelude.{◌≡◌, refl, ℕ, suc, ◌≤◌, Bool, true, false, cond, not, ◌||◌, IsTrue, List, [], ◌∷◌, bytes_eq, Some, None, is_some}
use Rattle.std.proofs.Common.{sym, ap, ◌∙◌, subst, true≢false, arith}
use Rattle.std.proofs.lemmas.Slice.Eq.{bytes_eq-Decides}
use Rattle.std.proofs.lemmas.Map.Text.{is_eq-slice_cmp}
use Rattle.std.specs.Cmp.Lexicographic.{nat_list_cmp_total}
use Rattle.std.specs.FinMap.{find, put, is_sorted}
use Rattle.std.specs.FinMap.Entries.{by_order, below_all, where_key, is_sorted-put, is_sorted-where_key}
use Rattle.std.specs.List.{list_any}
use Rattle.std.specs.Ordering.{is_eq}
use Rattle.std.specs.declared.cmp.Ordering.{Ordering}
use Rattle.std.specs.declared.cmp.Ordering.TheVariants.{Less, Equal, Greater}
use Rattle.kd_base.specs.ToolsLaws.{some_is, both_true}
use Rattle.abstract_monitor.specs.Bytes.{Bytes, bytes_cmp}
use Rattle.abstract_monitor.specs.Sessions.{has_user}
use Rattle.abstract_monitor.specs.State.{Session}
use Rattle.abstract_monitor.specs.Turns.{pterm_by, pterm_of_user}
use Rattle.laws_of_states.specs.CountsLaws.{times}
use Rattle.laws_of_states.specs.EntriesLaws.{none_below, none_before}
use Rattle.kd_base.specs.OrderLaws.{holds, is_true}

abbrev pub Signed : Type 0
Signed = List (Bytes × Session)

-- with this session at the terminal, and without one there
abbrev pub signed_at : (pterm : Bytes) → Session → Signed → Signed
signed_at pterm v es = put bytes_cmp pterm v es

abbrev pub left_at : (pterm : Bytes) → Signed → Signed
left_at pterm es = where_key bytes_cmp (λ p. not (bytes_eq pterm p)) es

pub same_bytes : (a b : Bytes) → bytes_eq a b ≡ true → a ≡ b
same_bytes a b h = (bytes_eq-Decides a b).0 h

pub bytes_itself : (a : Bytes) → bytes_eq a a ≡ true
bytes_itself a = (bytes_eq-Decides a a).1 refl

pub signed_sorted : (pterm : Bytes) (v : Session) (es : Signed) → IsTrue (is_sorted bytes_cmp es) → IsTrue (is_sorted bytes_cmp (signed_at pterm v es))
signed_sorted pterm v es h = is_true _ (is_sorted-put bytes_cmp nat_list_cmp_total pterm v es (holds _ h))

pub left_sorted : (pterm : Bytes) (es : Signed) → IsTrue (is_sorted bytes_cmp es) → IsTrue (is_sorted bytes_cmp (left_at pterm es))
left_sorted pterm es h = is_true _ (is_sorted-where_key bytes_cmp (λ p. not (bytes_eq pterm p)) es (holds _ h))

-- a user is signed on where a session is of this user
pub signed_any : (es : Signed) (user : Bytes) → is_some (pterm_of_user es user) ≡ list_any (has_user user) es
unfolding pterm_of_user
signed_any [] user = refl
signed_any (e ∷ es) user = by (bytes_eq e.1.user user) (signed_any es user)
  where
    by : (b : Bool) → is_some (pterm_of_user es user) ≡ list_any (has_user user) es → is_some (pterm_by e.0 b (pterm_of_user es user)) ≡ (b || list_any (has_user user) es)
    by true h = refl
    by false h = h

-- a session at a new terminal
pub signed_more : (p : Bytes × Session → Bool) (k : Bytes) (v : Session) (es : Signed) → find bytes_cmp k es ≡ None → times p (signed_at k v es) ≡ cond (p (k, v)) (suc (times p es)) (times p es)
signed_more p k v [] none = refl
signed_more p k v (e ∷ es) none = by (bytes_cmp k e.0) none (signed_more p k v es)
  where
    under : (a b : Bool) (n : ℕ) → cond b (suc (cond a (suc n) n)) (cond a (suc n) n) ≡ cond a (suc (cond b (suc n) n)) (cond b (suc n) n)
    under true true n = refl
    under true false n = refl
    under false true n = refl
    under false false n = refl

    by : (r : Ordering) → cond (is_eq r) (Some e.1) (find bytes_cmp k es) ≡ None
        → (find bytes_cmp k es ≡ None → times p (signed_at k v es) ≡ cond (p (k, v)) (suc (times p es)) (times p es))
        → times p (by_order r ((k, v) ∷ e ∷ es) ((e.0, v) ∷ es) (e ∷ signed_at k v es)) ≡ cond (p (k, v)) (suc (times p (e ∷ es))) (times p (e ∷ es))
    by Less h later = refl
    by Equal h later = absurd (true≢false (ap is_some h))
    by Greater h later = ap (λ n. cond (p e) (suc n) n) (later h) ∙ under (p (k, v)) (p e) (times p es)

-- another session of the same user at the terminal
pub signed_same : (u k : Bytes) (v w : Session) (es : Signed) → IsTrue (is_sorted bytes_cmp es) → find bytes_cmp k es ≡ Some v → w.user ≡ v.user → times (has_user u) (signed_at k w es) ≡ times (has_user u) es
signed_same u k v w [] sorted is same = absurd (true≢false (sym (ap is_some is)))
signed_same u k v w (e ∷ es) sorted is same = by (bytes_cmp k e.0) refl is (signed_same u k v w es)
  where
    parts : (below_all bytes_cmp e.0 es ≡ true) × (is_sorted bytes_cmp es ≡ true)
    parts = both_true (below_all bytes_cmp e.0 es) (is_sorted bytes_cmp es) sorted

    by : (r : Ordering) → bytes_cmp k e.0 ≡ r → cond (is_eq r) (Some e.1) (find bytes_cmp k es) ≡ Some v
        → (IsTrue (is_sorted bytes_cmp es) → find bytes_cmp k es ≡ Some v → w.user ≡ v.user → times (has_user u) (signed_at k w es) ≡ times (has_user u) es)
        → times (has_user u) (by_order r ((k, w) ∷ e ∷ es) ((e.0, w) ∷ es) (e ∷ signed_at k w es)) ≡ times (has_user u) (e ∷ es)
    by Less q h later = absurd (true≢false (sym (ap is_some (sym (none_before bytes_cmp nat_list_cmp_total k e.0 es q parts.0) ∙ h))))
    by Equal q h later = ap (λ name. cond (bytes_eq name u) (suc (times (has_user u) es)) (times (has_user u) es)) (same ∙ ap (λ (x : Session). x.user) (sym (some_is e.1 v h)))
    by Greater q h later = ap (λ n. cond (has_user u e) (suc n) n) (later parts.1 h same)

-- no test counts more where sessions were taken out
pub fewer : (pterm : Bytes) (p : Bytes × Session → Bool) (es : Signed) → times p (left_at pterm es) ≤ times p es
fewer pterm p [] = omega arith
fewer pterm p (e ∷ es) = by (not (bytes_eq pterm e.0)) (fewer pterm p es)
  where
    more : (c : Bool) (k n : ℕ) → k ≤ n → cond c (suc k) k ≤ cond c (suc n) n
    more true k n h = omega arith
    more false k n h = h

    over : (c : Bool) (k n : ℕ) → k ≤ n → k ≤ cond c (suc n) n
    over true k n h = omega arith
    over false k n h = h

    by : (b : Bool) → times p (left_at pterm es) ≤ times p es
        → times p (cond b (e ∷ left_at pterm es) (left_at pterm es)) ≤ cond (p e) (suc (times p es)) (times p es)
    by true h = more (p e) _ _ h
    by false h = over (p e) _ _ h

-- a terminal where another user was signed on
pub signed_less : (u k : Bytes) (es : Signed) → IsTrue (is_sorted bytes_cmp es) → ((v : Session) → find bytes_cmp k es ≡ Some v → bytes_eq v.user u ≡ false)
    → times (has_user u) (left_at k es) ≡ times (has_user u) es
signed_less u k [] sorted other = refl
signed_less u k (e ∷ es) sorted other = by (bytes_eq k e.0) refl (signed_less u k es parts.1)
  where
    parts : (below_all bytes_cmp e.0 es ≡ true) × (is_sorted bytes_cmp es ≡ true)
    parts = both_true (below_all bytes_cmp e.0 es) (is_sorted bytes_cmp es) sorted

    by : (b : Bool) → bytes_eq k e.0 ≡ b
        → (((v : Session) → find bytes_cmp k es ≡ Some v → bytes_eq v.user u ≡ false) → times (has_user u) (left_at k es) ≡ times (has_user u) es)
        → times (has_user u) (cond (not b) (e ∷ left_at k es) (left_at k es)) ≡ cond (bytes_eq e.1.user u) (suc (times (has_user u) es)) (times (has_user u) es)
    by true q later =
        let here : k ≡ e.0 = same_bytes k e.0 q in
        let tied : is_eq (bytes_cmp k e.0) ≡ true = is_eq-slice_cmp k e.0 ∙ q in
        let found : find bytes_cmp k (e ∷ es) ≡ Some e.1 = ap (λ b. cond b (Some e.1) (find bytes_cmp k es)) tied in
        let none : find bytes_cmp k es ≡ None = none_below bytes_cmp k es (subst (λ n. below_all bytes_cmp n es ≡ true) (sym here) parts.0) in
        later (λ v h. absurd (true≢false (sym (ap is_some (sym none ∙ h)))))
        ∙ ap (λ b. cond b (suc (times (has_user u) es)) (times (has_user u) es)) (sym (other e.1 found))
    by false q later =
        let passed : (v : Session) → find bytes_cmp k es ≡ Some v → bytes_eq v.user u ≡ false = λ v h. other v (skip (is_eq (bytes_cmp k e.0)) refl v h) in
        ap (λ n. cond (bytes_eq e.1.user u) (suc n) n) (later passed)
      where
        skip : (b : Bool) → is_eq (bytes_cmp k e.0) ≡ b → (v : Session) → find bytes_cmp k es ≡ Some v → cond b (Some e.1) (find bytes_cmp k es) ≡ Some v
        skip false r v h = h
        skip true r v h = absurd (true≢false (sym r ∙ is_eq-slice_cmp k e.0 ∙ q))

-- the terminal of a user is left: one session of the user fewer
pub signed_fewer : (k : Bytes) (v : Session) (es : Signed) → find bytes_cmp k es ≡ Some v → suc (times (has_user v.user) (left_at k es)) ≤ times (has_user v.user) es
signed_fewer k v [] is = absurd (true≢false (sym (ap is_some is)))
signed_fewer k v (e ∷ es) is = by (bytes_eq k e.0) refl (signed_fewer k v es)
  where
    by : (b : Bool) → bytes_eq k e.0 ≡ b
        → (find bytes_cmp k es ≡ Some v → suc (times (has_user v.user) (left_at k es)) ≤ times (has_user v.user) es)
        → suc (times (has_user v.user) (cond (not b) (e ∷ left_at k es) (left_at k es))) ≤ cond (bytes_eq e.1.user v.user) (suc (times (has_user v.user) es)) (times (has_user v.user) es)
    by true q later =
        let found : e.1 ≡ v = some_is e.1 v (sym (ap (λ b. cond b (Some e.1) (find bytes_cmp k es)) (is_eq-slice_cmp k e.0 ∙ q)) ∙ is) in
        let own : bytes_eq e.1.user v.user ≡ true = ap (λ (w : Session). bytes_eq w.user v.user) found ∙ bytes_itself v.user in
        let less : times (has_user v.user) (left_at k es) ≤ times (has_user v.user) es = fewer k (has_user v.user) es in
        subst (λ b. suc (times (has_user v.user) (left_at k es)) ≤ cond b (suc (times (has_user v.user) es)) (times (has_user v.user) es)) (sym own) (omega arith)
    by false q later = more (has_user v.user e) _ _ (later (sym (ap (λ b. cond b (Some e.1) (find bytes_cmp k es)) (is_eq-slice_cmp k e.0 ∙ q)) ∙ is))
      where
        more : (c : Bool) (m n : ℕ) → suc m ≤ n → suc (cond c (suc m) m) ≤ cond c (suc n) n
        more true m n h = omega arith
        more false m n h = h
