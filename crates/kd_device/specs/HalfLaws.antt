-- Laws: what a stop leaves of a half, whatever it leaves of the other one.
use Rattle.std.specs.Prelude.{◌≡◌, ◌≤◌, ℕ, List, [], Result}
use Rattle.std.proofs.Common.{inl, inr, ⊎_elim}
use Rattle.kd_device.specs.Device.{State, Quiet, Writes, Emits}
use Rattle.kd_device.specs.declared.half.Half.{Half}
use Rattle.kd_device.specs.declared.half.Half.TheVariants.{First, Second}
use Rattle.kd_device.specs.Twin.{Both, other, disk_of, slice, half_leaves}
use Rattle.kd_device.specs.Apart.{SentNow, Earlier}

-- what is left of one half beside an image of the other one, and the other way round
pub slice_other : (half : Half) (leaves : ℕ → List ℕ → List ℕ → List ℕ → Type 0) (d : List ℕ) (t : ℕ) (c out : List ℕ) → slice half d leaves t c out → slice (other half) c leaves t d out
slice_other First leaves d t c out left = left
slice_other Second leaves d t c out left = left

pub slice_back : (half : Half) (leaves : ℕ → List ℕ → List ℕ → List ℕ → Type 0) (d : List ℕ) (t : ℕ) (c out : List ℕ) → slice (other half) c leaves t d out → slice half d leaves t c out
slice_back First leaves d t c out left = left
slice_back Second leaves d t c out left = left

-- the laws of a twin, by halves
pub holds_half : (half : Half) (b : Both) (leaves : ℕ → List ℕ → List ℕ → List ℕ → Type 0) → leaves b.moment b.first.holds b.second.holds b.sent → half_leaves half leaves b.moment (disk_of half b).holds b.sent
holds_half First b leaves left = (b.second.holds, left)
holds_half Second b leaves left = (b.first.holds, left)

pub sent_half : (half : Half) (b : Both) (leaves : ℕ → List ℕ → List ℕ → List ℕ → Type 0) → ((c d out : List ℕ) → leaves b.moment c d out → out ≡ b.sent) → SentNow half b leaves
sent_half First b leaves h d c out left = h c d out left
sent_half Second b leaves h d c out left = h d c out left

pub earlier_half : (half : Half) (leaves : ℕ → List ℕ → List ℕ → List ℕ → Type 0) → ((t u : ℕ) (c d out : List ℕ) → t ≤ u → leaves u c d out → leaves t c d out) → Earlier half leaves
earlier_half First leaves h d t u c out le left = h t u c d out le left
earlier_half Second leaves h d t u c out le left = h t u d c out le left

-- a call whose clauses hold for each image of the other half
module _ (half : Half) (a b : State) (la lb : ℕ → List ℕ → List ℕ → List ℕ → Type 0) where
  pub quiet_half : ((d : List ℕ) → Quiet a b (slice half d la) (slice half d lb)) → Quiet a b (half_leaves half la) (half_leaves half lb)
  quiet_half q = record {
    holds = (q []).holds;
    sent = (q []).sent;
    put = (q []).put;
    stop = λ c left. (left.0, (q left.0).stop c left.1);
    time = record {
      later = (q []).time.later;
      only = λ t c out le left. ⊎_elim (λ l. inl (left.0, l)) (λ now. inr (now.0, (left.0, now.1))) ((q left.0).time.only t c out le left.1);
    };
    keeps = λ t c out le left. (left.0, (q left.0).keeps t c out le left.1);
  }

  pub writes_half : {E : Type 0} (at : ℕ) (bytes : List ℕ) (result : Result Unit E) → ((d : List ℕ) → Writes at bytes a b (slice half d la) (slice half d lb) result) → Writes at bytes a b (half_leaves half la) (half_leaves half lb) result
  writes_half at bytes result w = record {
    holds = (w []).holds;
    sent = (w []).sent;
    put = (w []).put;
    stop = λ c left. let was = (w left.0).stop c left.1 in (was.0, (left.0, was.1), was.2);
    time = record {
      later = (w []).time.later;
      only = λ t c out le left. ⊎_elim (λ l. inl (left.0, l)) (λ now. inr (now.0, (left.0, now.1))) ((w left.0).time.only t c out le left.1);
    };
    keeps = λ t c out le left. (left.0, (w left.0).keeps t c out le left.1);
  }

  pub emits_half : {E : Type 0} (piece : List ℕ) (result : Result Unit E) → ((d : List ℕ) → Emits piece a b (slice half d la) (slice half d lb) result) → Emits piece a b (half_leaves half la) (half_leaves half lb) result
  emits_half piece result e = record {
    holds = (e []).holds;
    sent = (e []).sent;
    part = (e []).part;
    put = (e []).put;
    stop = λ c left. (left.0, (e left.0).stop c left.1);
    time = record {
      later = (e []).time.later;
      only = λ t c out le left. ⊎_elim (λ l. inl (left.0, l)) (λ sending. inr (record { image = (left.0, sending.image); prefix = sending.prefix })) ((e left.0).time.only t c out le left.1);
    };
    keeps = λ t c out le left. (left.0, (e left.0).keeps t c out le left.1);
  }
