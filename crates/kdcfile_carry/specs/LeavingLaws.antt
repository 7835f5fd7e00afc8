-- Laws: steps one after another, each of which keeps what a stop leaves of two files.
use Rattle.std.specs.Prelude.{◌≡◌, ◌≤◌, ℕ, List}
use Rattle.std.proofs.Common.{inl, inr, ⊎_elim, sym, subst, ◌∙◌, arith}
use Rattle.kd_device.specs.declared.half.Half.{Half}
use Rattle.kd_device.specs.declared.half.Half.TheVariants.{First, Second}
use Rattle.kd_device.specs.Twin.{Both, disk_of, half_leaves, other}
use Rattle.kdcfile_copies.specs.Beside.{LeavesBeside, LeavesPairs, IsBeside, file_of}
use Rattle.kdcfile_copies.specs.BesideLaws.{beside_pairs, pairs_then, pairs_weaker}
use Rattle.kdcfile_copies.specs.Mending.{LeavesHalf}
use Rattle.kdcfile_double.specs.MakingLaws.{RestsBoth}
use Rattle.kdcfile_double.specs.Mended.{BothRest}
use Rattle.kdcfile_double.specs.Opening.{Unchanged}
use Rattle.kdcfile_carry.specs.Leaving.{StaysWithin}

module _ (a b : Both) (la lb : ℕ → List ℕ → List ℕ → List ℕ → Type 0) where
  -- a fact that says less
  pub stays_weaker : (P Q : List ℕ → List ℕ → Type 0) → ((c d : List ℕ) → P c d → Q c d) → StaysWithin P a b la lb → StaysWithin Q a b la lb
  stays_weaker P Q f h = record {
    sent = h.sent;
    now = λ c d left. f c d (h.now c d left);
    leaves = pairs_weaker a b la lb (λ c d out. (out ≡ a.sent) × P c d) (λ c d out. (out ≡ a.sent) × Q c d) h.leaves (λ c d out p. (p.0, f c d p.1));
  }

  -- one step after another
  pub stays_then : (P : List ℕ → List ℕ → Type 0) (e : Both) (le : ℕ → List ℕ → List ℕ → List ℕ → Type 0) → StaysWithin P a b la lb → StaysWithin P b e lb le → StaysWithin P a e la le
  stays_then P e le h k = record {
    sent = k.sent ∙ h.sent;
    now = k.now;
    leaves = pairs_then a b la lb e le (λ c d out. (out ≡ a.sent) × P c d) h.leaves (pairs_weaker b e lb le (λ c d out. (out ≡ b.sent) × P c d) (λ c d out. (out ≡ a.sent) × P c d) k.leaves (λ c d out p. (p.0 ∙ h.sent, p.1)));
  }

  -- calls that change nothing, where both files are at rest and have P
  pub rests_stay : (P : List ℕ → List ℕ → Type 0) → BothRest a la → P a.first.holds a.second.holds → RestsBoth a b la lb → StaysWithin P a b la lb
  rests_stay P rest has rests = record {
    sent = rests.sent;
    now = λ c d left. own c d (rests.first_stop c (d, left)) (rests.second_stop d (c, left));
    leaves = pairs_weaker a b la lb (Unchanged a la) (λ c d out. (out ≡ a.sent) × P c d) rests.leaves (λ c d out u. (u.0, own c d u.1 u.2));
  }
    where
      own : (c d : List ℕ) → half_leaves First la a.moment c a.sent → half_leaves Second la a.moment d a.sent → P c d
      own c d one two =
          let first : c ≡ a.first.holds = rest.first_rests c one.0 one.1 in
          let second : d ≡ a.second.holds = rest.second_rests two.0 d two.1 in
          subst (λ (x : List ℕ). P x d) (sym first) (subst (λ (x : List ℕ). P a.first.holds x) (sym second) has)

  -- both files at rest stay so
  pub rest_both : RestsBoth a b la lb → BothRest a la → BothRest b lb
  rest_both rests rest = record {
    first_rests = λ c d left. let was = rests.first_stop c (d, left) in rest.first_rests c was.0 was.1 ∙ sym rests.files.first_holds;
    second_rests = λ c d left. let was = rests.second_stop d (c, left) in rest.second_rests was.0 d was.1 ∙ sym rests.files.second_holds;
  }

-- what a step on one half left of its file, beside the other one, which it kept
abbrev pub HalfHas : Half → (a : Both) → (P : List ℕ → Type 0) → (c d : List ℕ) → Type 0
HalfHas half a P c d = (file_of (other half) c d ≡ (disk_of (other half) a).holds) × P (file_of half c d)

other_rests : (half : Half) (a : Both) (la : ℕ → List ℕ → List ℕ → List ℕ → Type 0) → BothRest a la → (d : List ℕ) → half_leaves (other half) la a.moment d a.sent → d ≡ (disk_of (other half) a).holds
other_rests First a la rest d left = rest.second_rests left.0 d left.1
other_rests Second a la rest c left = rest.first_rests c left.0 left.1

own_rests : (half : Half) (a : Both) (la : ℕ → List ℕ → List ℕ → List ℕ → Type 0) → BothRest a la → (c : List ℕ) → half_leaves half la a.moment c a.sent → c ≡ (disk_of half a).holds
own_rests First a la rest c left = rest.first_rests c left.0 left.1
own_rests Second a la rest d left = rest.second_rests left.0 d left.1

left_pair : (half : Half) (leaves : ℕ → List ℕ → List ℕ → List ℕ → Type 0) (t : ℕ) (c d out : List ℕ) → leaves t c d out → half_leaves half leaves t (file_of half c d) out
left_pair First leaves t c d out left = (d, left)
left_pair Second leaves t c d out left = (c, left)

module _ (half : Half) (a b : Both) (la lb : ℕ → List ℕ → List ℕ → List ℕ → Type 0) (rest : BothRest a la) (sent_now : (c d out : List ℕ) → la a.moment c d out → out ≡ a.sent) (P : List ℕ → Type 0) (P0 : P (disk_of half a).holds) where
  silent : (c out : List ℕ) → half_leaves half la a.moment c out → out ≡ a.sent
  silent c out left = by half left
    where
      by : (h : Half) → half_leaves h la a.moment c out → out ≡ a.sent
      by First l = sent_now c l.0 out l.1
      by Second l = sent_now l.0 c out l.1

  own : (c out : List ℕ) → half_leaves half la a.moment c out → (out ≡ a.sent) × P c
  own c out left =
      let quiet = silent c out left in
      (quiet, subst P (sym (own_rests half a la rest c (subst (λ (o : List ℕ). half_leaves half la a.moment c o) quiet left))) P0)

  has_half : (c d out : List ℕ) → IsBeside half a la (λ x o. (o ≡ a.sent) × P x) c d out → (out ≡ a.sent) × HalfHas half a P c d
  has_half c d out h =
      let now : (out ≡ a.sent) × P (file_of half c d) = ⊎_elim (λ l. own (file_of half c d) out l) (λ p. p) h.1 in
      (now.0, (other_rests half a la rest (file_of (other half) c d) h.0, now.1))

  -- a step on one half, of whose file a stop leaves what it was or one that has P
  pub half_stays : b.sent ≡ a.sent → ((t u : ℕ) (c d out : List ℕ) → t ≤ u → lb u c d out → lb t c d out) → LeavesBeside half a b la lb (λ c out. (out ≡ a.sent) × P c) → StaysWithin (HalfHas half a P) a b la lb
  half_stays same earlier beside =
      let pairs = beside_pairs a b la lb half (λ c out. (out ≡ a.sent) × P c) beside in
      record {
        sent = same;
        now = λ c d left.
            ⊎_elim
            (λ was. let own_is = own (file_of half c d) b.sent (left_pair half la a.moment c d b.sent was) in
            (other_rests half a la rest (file_of (other half) c d) (left_pair (other half) la a.moment c d a.sent (subst (λ (o : List ℕ). la a.moment c d o) same was)), own_is.1))
            (λ p. (has_half c d b.sent p).1)
            (pairs.only a.moment c d b.sent (omega arith) (earlier a.moment b.moment c d b.sent pairs.later left));
        leaves = pairs_weaker a b la lb (IsBeside half a la (λ x o. (o ≡ a.sent) × P x)) (λ c d out. (out ≡ a.sent) × HalfHas half a P c d) pairs has_half;
      }

-- what a copying over left of its target, beside the source, which it kept
module _ (target : Half) (a b : Both) (la lb : ℕ → List ℕ → List ℕ → List ℕ → Type 0) (rest : BothRest a la) (sent_now : (c d out : List ℕ) → la a.moment c d out → out ≡ a.sent) (P : List ℕ → Type 0) (P0 : P (disk_of target a).holds) where
  pub as_pairs : LeavesHalf target (disk_of (other target) a).holds P a b la lb → LeavesPairs a b la lb (λ c d out. (out ≡ a.sent) × HalfHas target a P c d)
  as_pairs h = by target h
    where
      by : (t : Half) → LeavesHalf t (disk_of (other t) a).holds P a b la lb → LeavesPairs a b la lb (λ c d out. (out ≡ a.sent) × HalfHas t a P c d)
      by First l = record { later = (l a.sent).later; only = λ t c d out at left. ⊎_elim (λ was. inl was) (λ p. inr (p.0, (p.1, p.2))) ((l d).only t c out at left) }
      by Second l = record { later = (l a.sent).later; only = λ t c d out at left. ⊎_elim (λ was. inl was) (λ p. inr (p.0, (p.1, p.2))) ((l c).only t d out at left) }

  pub copying_stays : b.sent ≡ a.sent → ((t u : ℕ) (c d out : List ℕ) → t ≤ u → lb u c d out → lb t c d out) → LeavesHalf target (disk_of (other target) a).holds P a b la lb → StaysWithin (HalfHas target a P) a b la lb
  copying_stays same earlier h =
      let pairs = as_pairs h in
      record {
        sent = same;
        now = λ c d left.
            ⊎_elim
            (λ was. let there : la a.moment c d a.sent = subst (λ (o : List ℕ). la a.moment c d o) same was in
            (other_rests target a la rest (file_of (other target) c d) (left_pair (other target) la a.moment c d a.sent there), subst P (sym (own_rests target a la rest (file_of target c d) (left_pair target la a.moment c d a.sent there))) P0))
            (λ p. p.1)
            (pairs.only a.moment c d b.sent (omega arith) (earlier a.moment b.moment c d b.sent pairs.later left));
        leaves = pairs;
      }
