-- Devices and twins in memory, after one call more of their tape.
use Rattle.std.proofs.Common.{◌≡◌, ◌⊎◌, ◌≤◌, ℕ, List, [], ◌∷◌, ◌++◌, Bool, true, false, Result, Ok, Err, refl, ap, sym, subst, ◌∙◌, arith, length}
use Rattle.std.specs.Prelude.{is_ok, nat_eq, OnOk, IsTrue}
use Rattle.kd_device.specs.Device.{Frame, Quiet, Writes, Emits, Only}
use Rattle.kd_device.specs.History.{Event, Wrote, Synced, Emitted, Disk, StopLeaves, is_on, put_by}
use Rattle.kd_device.specs.declared.half.Half.{Half}
use Rattle.kd_device.specs.declared.half.Half.TheVariants.{First, Second}
use Rattle.kd_device.specs.Twin.{disk_number, other, disk_of, half_state, slice}
use Rattle.kd_device.specs.Twin as twin
use Rattle.kd_device.specs.Recording.{Recording, names_of, left_by, with_event, with_name}
use Rattle.kd_device.specs.Memory.{OfOne, OfBoth}
use Rattle.kd_device.specs.TwinMemory.{TwinMemory, seen_disk, seen_both, both_of, tally_of, counted, emit_counted}
use Rattle.kd_device.specs.Recording as tapes
use Rattle.kd_device.specs.declared.kind.CallKind.{CallKind}
use Rattle.kd_device.specs.declared.kind.CallKind.TheVariants.{Attach, Size, Read, Write, Sync, Emit}
use Rattle.kd_device.specs.declared.tally.Tally.{Tally}
use Rattle.kd_device.specs.Tally.{with_call, after_call}
use Rattle.kd_device.proofs.Grows.{ImagesBy, disk_same, put_same, named_one, named_other, wrote, synced, durable, emitted, parts}

pub of_one : ImagesBy 0 OfOne
of_one = record { own = λ c ds h. h; other_image = λ c x ds es same h s. s }

-- beside this image of the other half
abbrev pub Side : Half → List ℕ → List ℕ → (ℕ → Disk) → Type 0
Side First d c = OfBoth c d
Side Second d c = OfBoth d c

pub of_first : (d : List ℕ) → ImagesBy 0 (Side First d)
of_first d = record { own = λ c ds h. h.0; other_image = λ c x ds es same h s. (s, subst (λ (y : Disk). StopLeaves y d) (sym (same 1 (λ e. omega (arith, e)))) h.1) }

pub of_second : (d : List ℕ) → ImagesBy 1 (Side Second d)
of_second d = record { own = λ c ds h. h.1; other_image = λ c x ds es same h s. (subst (λ (y : Disk). StopLeaves y d) (sym (same 0 (λ e. omega (arith, e)))) h.0, s) }

-- the twin's leaves, with the tape alone
abbrev pub left_both : Recording → ℕ → List ℕ → List ℕ → List ℕ → Type 0
left_both r t c d out = left_by (OfBoth c d) r t out

same_disk : (a b : twin.Disk) → a.holds ≡ b.holds → a.put ≡ b.put → a.names ≡ b.names → a.disk_faults ≡ b.disk_faults → a ≡ b
same_disk a b holds put names faults = rw (holds, put, names, faults) refl

-- a disk that the call is not on
seen_same : (i : ℕ) (n n' : ℕ) (m : Recording) (e : Event) (m' : Recording) (k : ℕ) → n' ≡ n → m' ≡ with_event m e k → is_on i e ≡ false → seen_disk i n' m' ≡ seen_disk i n m
seen_same i n n' m e m' k faults is off =
    same_disk _ _ (ap (λ (x : Disk). x.bytes) (disk_same m e m' k is i off)) (put_same m e m' k is i off) (ap (λ (x : Recording). names_of i x.names) is) faults

-- a call on a half counts on its side alone
its_faults : (half : Half) (kind : CallKind) (fails : Bool) (m n : TwinMemory) → n ≡ counted half kind fails m → (tally_of (other half) n).faults ≡ (tally_of (other half) m).faults
its_faults First kind fails m n same = ap (λ (x : TwinMemory). x.second.faults) same
its_faults Second kind fails m n same = ap (λ (x : TwinMemory). x.first.faults) same

pub recording_same : (half : Half) (kind : CallKind) (fails : Bool) (m n : TwinMemory) → n ≡ counted half kind fails m → n.recording ≡ m.recording
recording_same First kind fails m n e = ap (λ (x : TwinMemory). x.recording) e
recording_same Second kind fails m n e = ap (λ (x : TwinMemory). x.recording) e

-- a disk that the call is not on, whatever else was counted
seen_half : (half : Half) (m n : TwinMemory) (e : Event) (r : Recording) (k : ℕ) → (tally_of half n).faults ≡ (tally_of half m).faults → r ≡ with_event m.recording e k → is_on (disk_number half) e ≡ false
    → disk_of half (seen_both n.first.faults n.second.faults n.line.faults r) ≡ disk_of half (both_of m)
seen_half First m n e r k faults is off = seen_same 0 m.first.faults n.first.faults m.recording e r k faults is off
seen_half Second m n e r k faults is off = seen_same 1 m.second.faults n.second.faults m.recording e r k faults is off

other_disk : (half : Half) → nat_eq (disk_number (other half)) (disk_number half) ≡ false
other_disk First = refl
other_disk Second = refl

module _ (half : Half) (kind : CallKind) (fails : Bool) (m n : TwinMemory) (r : Recording) (same : n ≡ counted half kind fails m) where
  -- a write or a sync of a half keeps the other disk
  pub its_wrote : (at : ℕ) (bytes : List ℕ) (done : Bool) (k : ℕ) → r ≡ with_event m.recording (Wrote (disk_number half) at bytes done) k
      → disk_of (other half) (seen_both n.first.faults n.second.faults n.line.faults r) ≡ disk_of (other half) (both_of m)
  its_wrote at bytes done k is = seen_half (other half) m n (Wrote (disk_number half) at bytes done) r k (its_faults half kind fails m n same) is (other_disk half)

  pub its_synced : (done : Bool) (k : ℕ) → r ≡ with_event m.recording (Synced (disk_number half) done) k
      → disk_of (other half) (seen_both n.first.faults n.second.faults n.line.faults r) ≡ disk_of (other half) (both_of m)
  its_synced done k is = seen_half (other half) m n (Synced (disk_number half) done) r k (its_faults half kind fails m n same) is (other_disk half)

-- an emit keeps both
line_off : (half : Half) (piece : List ℕ) (done : Bool) → is_on (disk_number half) (Emitted piece done) ≡ false
line_off half piece done = refl

emit_faults : (half : Half) (fails : Bool) (m n : TwinMemory) → n ≡ emit_counted fails m → (tally_of half n).faults ≡ (tally_of half m).faults
emit_faults First fails m n same = ap (λ (x : TwinMemory). x.first.faults) same
emit_faults Second fails m n same = ap (λ (x : TwinMemory). x.second.faults) same

pub both_kept : (fails : Bool) (m n : TwinMemory) (piece : List ℕ) (done : Bool) (r : Recording) (k : ℕ) → n ≡ emit_counted fails m → r ≡ with_event m.recording (Emitted piece done) k
    → (half : Half) → disk_of half (seen_both n.first.faults n.second.faults n.line.faults r) ≡ disk_of half (both_of m)
both_kept fails m n piece done r k same is half = seen_half half m n (Emitted piece done) r k (emit_faults half fails m n same) is (line_off half piece done)

-- an attach of a half
its_named : (i j : ℕ) (a b : ℕ) (m : Recording) (name : List ℕ) (r : Recording) → a ≡ b → nat_eq i j ≡ false → r ≡ with_name m j name → seen_disk i a r ≡ seen_disk i b m
its_named i j a b m name r faults off is =
    same_disk _ _ (ap (λ (x : Recording). (tapes.disk_of i x).bytes) is) (ap (λ (x : Recording). put_by i x.events) is) (ap (λ (x : Recording). names_of i x.names) is ∙ named_other i j m.names name off) faults

pub named_apart : (half : Half) (kind : CallKind) (fails : Bool) (m n : TwinMemory) (name : List ℕ) (r : Recording) → n ≡ counted half kind fails m → r ≡ with_name m.recording (disk_number half) name
    → disk_of (other half) (seen_both n.first.faults n.second.faults n.line.faults r) ≡ disk_of (other half) (both_of m)
named_apart First kind fails m n name r same is = its_named 1 0 n.second.faults m.second.faults m.recording name r (ap (λ (x : TwinMemory). x.second.faults) same) refl is
named_apart Second kind fails m n name r same is = its_named 0 1 n.first.faults m.first.faults m.recording name r (ap (λ (x : TwinMemory). x.first.faults) same) refl is

pub named_half : (half : Half) (f s l f' s' l' : ℕ) (m r : Recording) (name : List ℕ) → r ≡ with_name m (disk_number half) name
    → (half_state half (seen_both f' s' l' r)).names ≡ (half_state half (seen_both f s l m)).names ++ name ∷ []
named_half First f s l f' s' l' m r name is = ap (λ (x : Recording). names_of 0 x.names) is ∙ named_one 0 m.names name
named_half Second f s l f' s' l' m r name is = ap (λ (x : Recording). names_of 1 x.names) is ∙ named_one 1 m.names name

module _ (f s l f' s' l' : ℕ) (m m' : Recording) (k : ℕ) where
  module _ (d : List ℕ) where
    pub wrote_half : (half : Half) {E : Type 0} (at : ℕ) (bytes : List ℕ) (done : Bool) (result : Result Unit E) → m' ≡ with_event m (Wrote (disk_number half) at bytes done) k → is_ok result ≡ done
        → Writes at bytes (half_state half (seen_both f s l m)) (half_state half (seen_both f' s' l' m')) (slice half d (left_both m)) (slice half d (left_both m')) result
    wrote_half First at bytes done result = wrote 0 (Side First d) (of_first d) f l f' l' m m' k at bytes done result
    wrote_half Second at bytes done result = wrote 1 (Side Second d) (of_second d) s l s' l' m m' k at bytes done result

    pub synced_half : (half : Half) (done : Bool) → m' ≡ with_event m (Synced (disk_number half) done) k
        → Quiet (half_state half (seen_both f s l m)) (half_state half (seen_both f' s' l' m')) (slice half d (left_both m)) (slice half d (left_both m'))
    synced_half First done = synced 0 (Side First d) (of_first d) f l f' l' m m' k done
    synced_half Second done = synced 1 (Side Second d) (of_second d) s l s' l' m m' k done

    pub durable_half : (half : Half) {E : Type 0} (done : Bool) (result : Result Unit E) → m' ≡ with_event m (Synced (disk_number half) done) k → is_ok result ≡ done
        → OnOk result (Only (half_state half (seen_both f s l m)).holds (half_state half (seen_both f' s' l' m')) (slice half d (left_both m')))
    durable_half First done result = durable 0 (Side First d) (of_first d) f l f' l' m m' k done result
    durable_half Second done result = durable 1 (Side Second d) (of_second d) s l s' l' m m' k done result

    pub emitted_half : (half : Half) {E : Type 0} (piece : List ℕ) (done : Bool) (result : Result Unit E) → m' ≡ with_event m (Emitted piece done) k → is_ok result ≡ done
        → Emits piece (half_state half (seen_both f s l m)) (half_state half (seen_both f' s' l' m')) (slice half d (left_both m)) (slice half d (left_both m')) result
    emitted_half First piece done result = emitted 0 (Side First d) (of_first d) f l f' l' m m' k piece done result
    emitted_half Second piece done result = emitted 1 (Side Second d) (of_second d) s l s' l' m m' k piece done result

    pub parted_half : (half : Half) (piece : List ℕ) (done : Bool) → m' ≡ with_event m (Emitted piece done) k → (t : ℕ) (c out : List ℕ) → t ≤ length m.events
        → slice half d (left_both m') t c out → slice half d (left_both m) t c out ⊎ slice half d (left_both m') (length m.events) c out
    parted_half First piece done is t c out = parts m (Emitted piece done) m' k is (OfBoth c d) t out
    parted_half Second piece done is t c out = parts m (Emitted piece done) m' k is (OfBoth d c) t out

pub durable_halves : (f s l f' s' l' : ℕ) (m m' : Recording) (k : ℕ) (half : Half) {E : Type 0} (done : Bool) (result : Result Unit E) → m' ≡ with_event m (Synced (disk_number half) done) k → is_ok result ≡ done
    → OnOk result (IsTrue true → (d : List ℕ) → Only (half_state half (seen_both f s l m)).holds (half_state half (seen_both f' s' l' m')) (slice half d (left_both m')))
durable_halves f s l f' s' l' m m' k half {E = E} done (Ok v) is_after is = λ told d. durable_half f s l f' s' l' m m' k d half {E = E} done (Ok v) is_after is
durable_halves f s l f' s' l' m m' k half done (Err v) is_after is = tt

same_faults : (kind : CallKind) (t : Tally) → (with_call kind t).faults ≡ t.faults
same_faults Attach t = refl
same_faults Size t = refl
same_faults Read t = refl
same_faults Write t = refl
same_faults Sync t = refl
same_faults Emit t = refl

faults_grow : (kind : CallKind) (fails : Bool) (t u : Tally) → u ≡ after_call kind fails t → t.faults ≤ u.faults
faults_grow kind true t u is = omega (arith, ap (λ (x : Tally). x.faults) is)
faults_grow kind false t u is = omega (arith, ap (λ (x : Tally). x.faults) is, same_faults kind t)

-- what no call lowers
pub counted_frame : (half : Half) (kind : CallKind) (fails : Bool) (m n : TwinMemory) (r : Recording) → n ≡ counted half kind fails m → length m.recording.events ≤ length r.events
    → Frame (half_state half (both_of m)) (half_state half (seen_both n.first.faults n.second.faults n.line.faults r))
counted_frame First kind fails m n r same le =
    record { told = refl; disk_faults = faults_grow kind fails m.first n.first (ap (λ (x : TwinMemory). x.first) same); line_faults = omega (arith, ap (λ (x : TwinMemory). x.line.faults) same); moment = le }
counted_frame Second kind fails m n r same le =
    record { told = refl; disk_faults = faults_grow kind fails m.second n.second (ap (λ (x : TwinMemory). x.second) same); line_faults = omega (arith, ap (λ (x : TwinMemory). x.line.faults) same); moment = le }
