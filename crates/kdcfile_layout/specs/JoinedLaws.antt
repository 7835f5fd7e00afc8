-- Writes of pages side by side, made as one.
use Rattle.std.proofs.Common.{◌≡◌, inl, inr, ⊎_elim, ℕ, ◌+◌, ◌<◌, ◌≤◌, Bool, true, false, not, List, [], ◌∷◌, ◌++◌, length, refl, sym, ap, subst, ◌∙◌, arith, length-append}
use Rattle.std.specs.Prelude.{All}
use Rattle.std.proofs.lemmas.List.Elements.{All-nil, All-cons, All-append, All-head, All-tail}
use Rattle.std.proofs.lemmas.List.Sums.{sum_by-append, sum_by-cons}
use Rattle.kd_device.specs.Device.{written}
use Rattle.kdcfile_layout.specs.Places.{At}
use Rattle.kdcfile_layout.specs.PlacesLaws.{at_within, at_push, at_front, at_end, no_item}
use Rattle.kdcfile_layout.specs.Layout.{Layout, root_place}
use Rattle.kdcfile_layout.specs.declared.page.PageWrite.{PageWrite}
use Rattle.kdcfile_layout.specs.Writes.{written_all, total}
use Rattle.kdcfile_layout.specs.WritesLaws.{written_joined, written_on}
use Rattle.kdcfile_layout.specs.Crash.{IsFree}
use Rattle.kdcfile_layout.specs.Joined.{Follows, NoneFollows, joined_write, AreJoined}

-- ---- free writes

no_root : (b : Bool) (at : ℕ) → at ≡ root_place b → 24576 ≤ at → ⊥
no_root true at e le = omega (arith, e, le)
no_root false at e le = omega (arith, e, le)

-- two free writes of pages side by side are one
pub free_joined : (size : ℕ) (second : Bool) (l : Layout) (w v : PageWrite) → 0 < size → Follows w v → IsFree size second l w → IsFree size second l v → IsFree size second l (joined_write w v)
free_joined size second l w v some follows (inl r) free = absurd (no_root (not second) w.at r.0 follows.0)
free_joined size second l w v some follows free (inl r) = absurd (no_root (not second) v.at r.0 (omega (arith, follows.0, follows.1)))
free_joined size second l w v some follows (inr first) (inr second_free) =
    inr (
      follows.0,
      λ u p named.
          ⊎_elim
          (λ a. inl a)
          (λ b. ⊎_elim (λ c. absurd (omega (arith, b, c, follows.1, some))) (λ c. inr (omega (arith, c, follows.1, length-append w.bytes v.bytes))) (second_free.1 u p named))
          (first.1 u p named),
    )

-- ---- writes that follow one another

-- one more, which does not follow the last
none_more : (vs : List PageWrite) (w : PageWrite) → NoneFollows vs → ((k : ℕ) (u : PageWrite) → At vs k u → k + 1 ≡ length vs → Follows u w → ⊥) → NoneFollows (vs ++ w ∷ [])
none_more vs w none far k u v at_u at_v follows =
    ⊎_elim
    (λ u_in.
    ⊎_elim
    (λ v_in. none k u v u_in v_in follows)
    (λ last. far k u u_in last.0 (subst (λ (x : PageWrite). Follows u x) (sym last.1) follows))
    (at_push vs w (k + 1) v at_v))
    (λ last. absurd (omega (arith, last.0, at_within (vs ++ w ∷ []) (k + 1) v at_v, length-append vs (w ∷ []))))
    (at_push vs w k u at_u)

-- the last one is longer
none_longer : (front : List PageWrite) (w v : PageWrite) → v.at ≡ w.at → NoneFollows (front ++ w ∷ []) → NoneFollows (front ++ v ∷ [])
none_longer front w v same none =
    none_more front v
    (λ k u x at_u at_x follows. none k u x (at_front front (w ∷ []) k u at_u) (at_front front (w ∷ []) (k + 1) x at_x) follows)
    (λ k u at e follows. none k u w (at_front front (w ∷ []) k u at) (subst (λ (n : ℕ). At (front ++ w ∷ []) n w) (sym e) (at_end front w)) (follows.0, sym same ∙ follows.1))

-- the last one of a list
last_one : (front : List PageWrite) (w : PageWrite) (k : ℕ) (u : PageWrite) → At (front ++ w ∷ []) k u → k + 1 ≡ length (front ++ w ∷ []) → w ≡ u
last_one front w k u at e =
    ⊎_elim (λ a. absurd (omega (arith, e, at_within front k u a, length-append front (w ∷ [])))) (λ b. b.1) (at_push front w k u at)

-- ---- writes that are joined

total_end : (ws : List PageWrite) (w : PageWrite) → total (ws ++ w ∷ []) ≡ total ws + length w.bytes
total_end ws w = omega (arith, sum_by-append (λ (v : PageWrite). length v.bytes) ws (w ∷ []), sum_by-cons (λ (v : PageWrite). length v.bytes) w [])

module _ (P : PageWrite → Type 0) where
  all_front : (ws : List PageWrite) (w : PageWrite) → All P (ws ++ w ∷ []) → All P ws
  all_front [] w all = All-nil P
  all_front (v ∷ ws) w all = All-cons P v ws (All-head P v (ws ++ w ∷ []) all) (all_front ws w (All-tail P v (ws ++ w ∷ []) all))

  all_end : (ws : List PageWrite) (w : PageWrite) → All P (ws ++ w ∷ []) → P w
  all_end [] w all = All-head P w [] all
  all_end (v ∷ ws) w all = all_end ws w (All-tail P v (ws ++ w ∷ []) all)

  all_both : (ws : List PageWrite) (w : PageWrite) → All P ws → P w → All P (ws ++ w ∷ [])
  all_both ws w all one = All-append P ws (w ∷ []) all (All-cons P w [] one (All-nil P))

-- one more write, which does not follow the last
joined_apart : (ws vs : List PageWrite) (w : PageWrite) → ((k : ℕ) (u : PageWrite) → At vs k u → k + 1 ≡ length vs → Follows u w → ⊥) → AreJoined ws vs → AreJoined (ws ++ w ∷ []) (vs ++ w ∷ [])
joined_apart ws vs w far is = record {
  holds = λ h. written_joined h vs (w ∷ []) ∙ ap (λ (k : List ℕ). written k w.at w.bytes) (is.holds h) ∙ sym (written_joined h ws (w ∷ []));
  total = total_end vs w ∙ ap (λ (n : ℕ). n + length w.bytes) is.total ∙ sym (total_end ws w);
  most = omega (arith, is.most, length-append ws (w ∷ []), length-append vs (w ∷ []));
  below = λ end all.
      let P : PageWrite → Type 0 = λ v. v.at + length v.bytes ≤ end in
      all_both P vs w (is.below end (all_front P ws w all)) (all_end P ws w all);
  free = λ size second l some all.
      let P : PageWrite → Type 0 = IsFree size second l in
      all_both P vs w (is.free size second l some (all_front P ws w all)) (all_end P ws w all);
  apart = none_more vs w is.apart far;
}

pub joined_first : (w : PageWrite) (ws : List PageWrite) → AreJoined ws [] → AreJoined (ws ++ w ∷ []) (w ∷ [])
joined_first w ws is = joined_apart ws [] w (λ k u at e follows. no_item k u at) is

pub joined_next : (ws front : List PageWrite) (u w : PageWrite) → (Follows u w → ⊥) → AreJoined ws (front ++ u ∷ []) → AreJoined (ws ++ w ∷ []) ((front ++ u ∷ []) ++ w ∷ [])
joined_next ws front u w far is = joined_apart ws (front ++ u ∷ []) w (λ k x at e follows. far (subst (λ (y : PageWrite). Follows y w) (sym (last_one front u k x at e)) follows)) is

-- one more write, which follows the last
pub joined_more : (ws front : List PageWrite) (w v : PageWrite) → Follows w v → AreJoined ws (front ++ w ∷ []) → AreJoined (ws ++ v ∷ []) (front ++ joined_write w v ∷ [])
joined_more ws front w v follows is = record {
  holds = λ h.
      let f = written_all h front in
      written_joined h front (joined_write w v ∷ [])
      ∙ sym (written_on f w.at w.bytes v.bytes)
      ∙ ap (λ (n : ℕ). written (written f w.at w.bytes) n v.bytes) (sym follows.1)
      ∙ ap (λ (k : List ℕ). written k v.at v.bytes) (sym (written_joined h front (w ∷ [])) ∙ is.holds h)
      ∙ sym (written_joined h ws (v ∷ []));
  total = omega (arith, total_end front (joined_write w v), total_end ws v, total_end front w, is.total, length-append w.bytes v.bytes);
  most = omega (arith, is.most, length-append front (joined_write w v ∷ []), length-append ws (v ∷ []), length-append front (w ∷ []));
  below = λ end all.
      let P : PageWrite → Type 0 = λ x. x.at + length x.bytes ≤ end in
      all_both P front (joined_write w v) (all_front P front w (is.below end (all_front P ws v all))) (omega (arith, all_end P ws v all, follows.1, length-append w.bytes v.bytes));
  free = λ size second l some all.
      let P : PageWrite → Type 0 = IsFree size second l in
      let rest = is.free size second l some (all_front P ws v all) in
      all_both P front (joined_write w v) (all_front P front w rest) (free_joined size second l w v some follows (all_end P front w rest) (all_end P ws v all));
  apart = none_longer front w (joined_write w v) refl is.apart;
}
