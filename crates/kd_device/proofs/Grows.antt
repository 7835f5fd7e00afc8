-- What a stop may leave after one call more.
use Rattle.std.proofs.Common.{◌≡◌, ◌≢◌, ◌⊎◌, ℕ, zero, suc, ◌+◌, ◌≤◌, min, Bool, true, false, cond, List, [], ◌∷◌, ◌++◌, length, take, Result, Ok, Err}
use Rattle.std.proofs.Common.{inl, inr, ⊎_elim, refl, sym, ap, subst, ◌∙◌, arith, length-append}
use Rattle.std.specs.Prelude.{is_ok, nat_eq, OnOk, IsTrue}
use Rattle.std.proofs.lemmas.List.{take_all, append-nil}
use Rattle.std.proofs.lemmas.Bool.{eq-eqb, eqb-true, false_from_ne_true}
use Rattle.kd_device.specs.Device.{Torn, LeavesOnly, Now, Quiet, Writes, Emits, Only, written}
use Rattle.kd_device.specs.History.{Event, Wrote, Synced, Emitted, Disk, Moment, at_first, is_on, moved, step, after, Torns, StopLeaves, AtRest, Within, Left, Since, put_once, put_by}
use Rattle.kd_device.specs.HistoryLaws.{now_to, now_from, has_bytes}
use Rattle.kd_device.specs.Recording.{Recording, moment_of, disk_of, names_of, seen, left_by, with_event}

pub after_push : (s : Moment) (es : List Event) (e : Event) → after s (es ++ e ∷ []) ≡ step (after s es) e
after_push s [] e = refl
after_push s (x ∷ es) e = after_push (step s x) es e

module _ (P : (ℕ → Disk) → Type 0) where
  left_push : (s : Moment) (es : List Event) (e : Event) (out : List ℕ) → Left P s (es ++ e ∷ []) out → Left P s es out ⊎ (Within P (after s es) e out ⊎ AtRest P (step (after s es) e) out)
  left_push s [] e out (inl here) = inl here
  left_push s [] e out (inr later) = inr later
  left_push s (x ∷ es) e out (inl here) = inl (inl here)
  left_push s (x ∷ es) e out (inr (inl within)) = inl (inr (inl within))
  left_push s (x ∷ es) e out (inr (inr later)) = ⊎_elim (λ l. inl (inr (inr l))) (λ r. inr r) (left_push (step s x) es e out later)

  left_keeps : (s : Moment) (es : List Event) (e : Event) (out : List ℕ) → Left P s es out → Left P s (es ++ e ∷ []) out
  left_keeps s [] e out here = inl here
  left_keeps s (x ∷ es) e out (inl here) = inl here
  left_keeps s (x ∷ es) e out (inr (inl within)) = inr (inl within)
  left_keeps s (x ∷ es) e out (inr (inr later)) = inr (inr (left_keeps (step s x) es e out later))

  since_push : (t : ℕ) (s : Moment) (es : List Event) (e : Event) (out : List ℕ) → t ≤ length es → Since P t s (es ++ e ∷ []) out → Since P t s es out ⊎ (Within P (after s es) e out ⊎ AtRest P (step (after s es) e) out)
  since_push zero s es e out le left = left_push s es e out left
  since_push (suc t) s [] e out le left = absurd (omega arith)
  since_push (suc t) s (x ∷ es) e out le left = since_push t (step s x) es e out (omega arith) left

  since_keeps : (t : ℕ) (s : Moment) (es : List Event) (e : Event) (out : List ℕ) → t ≤ length es → Since P t s es out → Since P t s (es ++ e ∷ []) out
  since_keeps zero s es e out le left = left_keeps s es e out left
  since_keeps (suc t) s [] e out le left = absurd (omega arith)
  since_keeps (suc t) s (x ∷ es) e out le left = since_keeps t (step s x) es e out (omega arith) left

  -- what a stop within a call leaves, or after it, is there since its beginning
  since_call : (s : Moment) (es : List Event) (e : Event) (out : List ℕ) → Within P (after s es) e out ⊎ AtRest P (step (after s es) e) out → Since P (length es) s (es ++ e ∷ []) out
  since_call s [] e out w = inr w
  since_call s (x ∷ es) e out w = since_call (step s x) es e out w

torns_pop : (rs : List (ℕ × ℕ)) (r : ℕ × ℕ) (old new : List ℕ) → Torns (rs ++ r ∷ []) old new → (mid : List ℕ) × Torns rs old mid × Torn r.0 r.1 mid new
torns_pop [] r old new h = (old, refl, subst (λ (l : List ℕ). Torn r.0 r.1 old l) (sym h.2) h.1)
torns_pop (q ∷ rs) r old new h = let m = torns_pop rs r h.0 new h.2 in (m.0, (h.0, h.1, m.1), m.2)

pub same_number : (i : ℕ) → nat_eq i i ≡ true
same_number i = eq-eqb i i refl

pub other_number : (j i : ℕ) → j ≢ i → nat_eq j i ≡ false
other_number j i ne = false_from_ne_true (nat_eq j i) (λ e. ne (eqb-true j i e))

put_push : (i : ℕ) (es : List Event) (e : Event) → put_by i (es ++ e ∷ []) ≡ put_by i es + put_once i e
put_push i [] e = omega arith
put_push i (x ∷ es) e = omega (arith, put_push i es e)

put_elsewhere : (i : ℕ) (e : Event) → is_on i e ≡ false → put_once i e ≡ 0
put_elsewhere i (Wrote disk at bytes done) off = ap (λ (b : Bool). cond b (length bytes) 0) off
put_elsewhere i (Synced disk done) off = refl
put_elsewhere i (Emitted piece done) off = refl

named_on : (b : Bool) (name : List ℕ) (ns ms : List (List ℕ)) → cond b (name ∷ (ns ++ ms)) (ns ++ ms) ≡ cond b (name ∷ ns) ns ++ ms
named_on true name ns ms = refl
named_on false name ns ms = refl

names_push : (i : ℕ) (ns : List (ℕ × List ℕ)) (n : ℕ × List ℕ) → names_of i (ns ++ n ∷ []) ≡ names_of i ns ++ cond (nat_eq i n.0) (n.1 ∷ []) []
names_push i [] n = refl
names_push i (x ∷ ns) n = rw (names_push i ns n) (named_on (nat_eq i x.0) x.1 (names_of i ns) (cond (nat_eq i n.0) (n.1 ∷ []) []))

-- one name more of a disk, and of another one
pub named_one : (i : ℕ) (ns : List (ℕ × List ℕ)) (name : List ℕ) → names_of i (ns ++ (i, name) ∷ []) ≡ names_of i ns ++ name ∷ []
named_one i ns name = names_push i ns (i, name) ∙ ap (λ (b : Bool). names_of i ns ++ cond b (name ∷ []) []) (same_number i)

pub named_other : (j i : ℕ) (ns : List (ℕ × List ℕ)) (name : List ℕ) → nat_eq j i ≡ false → names_of j (ns ++ (i, name) ∷ []) ≡ names_of j ns
named_other j i ns name off = names_push j ns (i, name) ∙ ap (λ (b : Bool). names_of j ns ++ cond b (name ∷ []) []) off ∙ append-nil (names_of j ns)

-- what a stop leaves of all disks, with this image of the i-th
pub record ImagesBy (i : ℕ) (L : List ℕ → (ℕ → Disk) → Type 0) : Type 0 where
  pub own : (c : List ℕ) (ds : ℕ → Disk) → L c ds → StopLeaves (ds i) c
  pub other_image : (c x : List ℕ) (ds es : ℕ → Disk) → ((j : ℕ) → j ≢ i → es j ≡ ds j) → L c ds → StopLeaves (es i) x → L x es

abbrev pub leaves_by : (List ℕ → (ℕ → Disk) → Type 0) → Recording → ℕ → List ℕ → List ℕ → Type 0
leaves_by L r t c out = left_by (L c) r t out

-- the same memory with one call more
module _ (m : Recording) (e : Event) (m' : Recording) (k : ℕ) (is_after : m' ≡ with_event m e k) where
  starts : m'.starts ≡ m.starts
  starts = ap (λ (r : Recording). r.starts) is_after

  grows : m'.events ≡ m.events ++ e ∷ []
  grows = ap (λ (r : Recording). r.events) is_after

  pub moment_now : moment_of m' ≡ step (moment_of m) e
  moment_now = rw (starts, grows) (after_push (at_first m.starts) m.events e)

  pub sent_now : (moment_of m').sent ≡ (step (moment_of m) e).sent
  sent_now = ap (λ (s : Moment). s.sent) moment_now

  pub later : length m.events ≤ length m'.events
  later = rw grows (omega (arith, length-append m.events (e ∷ [])))

  -- its disk, and another one
  pub disk_now : (i : ℕ) → is_on i e ≡ true → disk_of i m' ≡ moved e (disk_of i m)
  disk_now i on = ap (λ (s : Moment). s.disk i) moment_now ∙ ap (λ (b : Bool). cond b (moved e (disk_of i m)) (disk_of i m)) on

  pub disk_same : (i : ℕ) → is_on i e ≡ false → disk_of i m' ≡ disk_of i m
  disk_same i off = ap (λ (s : Moment). s.disk i) moment_now ∙ ap (λ (b : Bool). cond b (moved e (disk_of i m)) (disk_of i m)) off

  pub put_grows : (i : ℕ) → put_by i m'.events ≡ put_by i m.events + put_once i e
  put_grows i = ap (λ (es : List Event). put_by i es) grows ∙ put_push i m.events e

  pub put_same : (i : ℕ) → is_on i e ≡ false → put_by i m'.events ≡ put_by i m.events
  put_same i off = omega (arith, put_grows i, put_elsewhere i e off)

  module _ (P : (ℕ → Disk) → Type 0) where
    pub goes : (t : ℕ) (out : List ℕ) → t ≤ length m.events → left_by P m' t out → left_by P m t out ⊎ (Within P (moment_of m) e out ⊎ AtRest P (step (moment_of m) e) out)
    goes t out le left = since_push P t (at_first m.starts) m.events e out le (rw (← starts, ← grows) left)

    pub keeps : (t : ℕ) (out : List ℕ) → t ≤ length m.events → left_by P m t out → left_by P m' t out
    keeps t out le left = rw (starts, grows) (since_keeps P t (at_first m.starts) m.events e out le left)

    now_is : (out : List ℕ) → left_by P m' (length m'.events) out → AtRest P (step (moment_of m) e) out
    now_is out left = subst (λ (s : Moment). AtRest P s out) moment_now (now_from P (at_first m'.starts) m'.events out left)

    now_has : (out : List ℕ) → AtRest P (step (moment_of m) e) out → left_by P m' (length m'.events) out
    now_has out rest = now_to P (at_first m'.starts) m'.events out (subst (λ (s : Moment). AtRest P s out) (sym moment_now) rest)

    -- a stop that leaves what it did not before is one since the call began
    pub parts : (t : ℕ) (out : List ℕ) → t ≤ length m.events → left_by P m' t out → left_by P m t out ⊎ left_by P m' (length m.events) out
    parts t out le left = ⊎_elim (λ l. inl l) (λ w. inr (rw (starts, grows) (since_call P (at_first m.starts) m.events e out w))) (goes t out le left)

    before : (out : List ℕ) → P (moment_of m).disk → out ≡ (moment_of m).sent → left_by P m (length m.events) out
    before out p is = now_to P (at_first m.starts) m.events out (p, is)

-- what holds where it was done holds after an `Ok`
on_done : {E : Type 0} (P : Bool → Type 0) (result : Result Unit E) (done : Bool) → is_ok result ≡ done → P done → OnOk result (P true)
on_done P (Ok x) true is p = p
on_done P (Ok x) false is p = absurd cc
on_done P (Err x) done is p = tt

-- a piece that was sent, or was not, is a front of it
sent_front : (done : Bool) (piece old : List ℕ) → cond done (old ++ piece) old ≡ old ++ take (cond done (length piece) 0) piece
sent_front true piece old = ap (λ (l : List ℕ). old ++ l) (sym (take_all (length piece) piece (omega arith)))
sent_front false piece old = sym (append-nil old)

-- a disk with the line, before and after one call more
module _ (i : ℕ) (L : List ℕ → (ℕ → Disk) → Type 0) (by : ImagesBy i L) (d l d' l' : ℕ) (m m' : Recording) (k : ℕ) where
  others : (e : Event) → ((j : ℕ) → j ≢ i → is_on j e ≡ false) → (s : Moment) (j : ℕ) → j ≢ i → s.disk j ≡ (step s e).disk j
  others e off s j ne = sym (ap (λ (b : Bool). cond b (moved e (s.disk j)) (s.disk j)) (off j ne))

  -- what a stop after a call on the disk leaves of it
  rest_of : (e : Event) (is_after : m' ≡ with_event m e k) → is_on i e ≡ true → (c out : List ℕ) → leaves_by L m' (length m'.events) c out → StopLeaves (moved e (disk_of i m)) c
  rest_of e is_after on c out left =
      subst (λ (x : Disk). StopLeaves x c) (ap (λ (b : Bool). cond b (moved e (disk_of i m)) (disk_of i m)) on) (by.own c (step (moment_of m) e).disk (now_is m e m' k is_after (L c) out left).0)

  -- another image of it, which a stop before the call could leave
  was : (e : Event) (is_after : m' ≡ with_event m e k) → ((j : ℕ) → j ≢ i → is_on j e ≡ false) → (c x out : List ℕ) → leaves_by L m' (length m'.events) c out → StopLeaves (disk_of i m) x → leaves_by L m (length m.events) x (moment_of m).sent
  was e is_after off c x out left stands =
      before m e m' k is_after (L x) (moment_of m).sent (by.other_image c x (step (moment_of m) e).disk (moment_of m).disk (others e off (moment_of m)) (now_is m e m' k is_after (L c) out left).0 stands) refl

  disk_time : (e : Event) (is_after : m' ≡ with_event m e k) → ((c out : List ℕ) → Within (L c) (moment_of m) e out → ⊥) → LeavesOnly (seen i d l m) (seen i d' l' m') (leaves_by L m) (leaves_by L m') (Now (seen i d' l' m') (leaves_by L m'))
  disk_time e is_after none = record {
    later = later m e m' k is_after;
    only = λ t c out le left.
        ⊎_elim (λ l. inl l) (⊎_elim (λ w. absurd (none c out w)) (λ r. inr (r.1 ∙ sym (sent_now m e m' k is_after), now_has m e m' k is_after (L c) (moment_of m').sent (r.0, sent_now m e m' k is_after))))
        (goes m e m' k is_after (L c) t out le left);
  }

  pub wrote : {E : Type 0} (at : ℕ) (bytes : List ℕ) (done : Bool) (result : Result Unit E) → m' ≡ with_event m (Wrote i at bytes done) k → is_ok result ≡ done
      → Writes at bytes (seen i d l m) (seen i d' l' m') (leaves_by L m) (leaves_by L m') result
  wrote at bytes done result is_after is =
      let e = Wrote i at bytes done in
      let x = disk_of i m in
      record {
        holds = on_done (λ (b : Bool). (disk_of i m').bytes ≡ cond b (written x.bytes at bytes) x.bytes) result done is (ap (λ (y : Disk). y.bytes) (disk_now m e m' k is_after i (same_number i)));
        sent = sent_now m e m' k is_after;
        put = put_grows m e m' k is_after i ∙ ap (λ (b : Bool). put_by i m.events + cond b (length bytes) 0) (same_number i);
        stop = λ c left.
            let rest = rest_of e is_after (same_number i) c (moment_of m').sent left in
            let torn = torns_pop x.pending (min at (length x.bytes), at + length bytes) x.base c rest in
            (torn.0, was e is_after (λ j ne. other_number j i ne) c torn.0 (moment_of m').sent left torn.1, torn.2);
        time = disk_time e is_after (λ c out w. w);
        keeps = λ t c out le left. keeps m e m' k is_after (L c) t out le left;
      }

  synced_stop : (x : Disk) (done : Bool) (c : List ℕ) → StopLeaves x x.bytes → StopLeaves (moved (Synced i done) x) c → StopLeaves x c
  synced_stop x true c has rest = subst (λ (b : List ℕ). Torns x.pending x.base b) (sym rest) has
  synced_stop x false c has rest = rest

  pub synced : (done : Bool) → m' ≡ with_event m (Synced i done) k → Quiet (seen i d l m) (seen i d' l' m') (leaves_by L m) (leaves_by L m')
  synced done is_after =
      let e = Synced i done in
      record {
        holds = ap (λ (y : Disk). y.bytes) (disk_now m e m' k is_after i (same_number i));
        sent = sent_now m e m' k is_after;
        put = omega (arith, put_grows m e m' k is_after i);
        stop = λ c left.
            was e is_after (λ j ne. other_number j i ne) c c (moment_of m').sent left (synced_stop (disk_of i m) done c (has_bytes i m.starts m.events) (rest_of e is_after (same_number i) c (moment_of m').sent left));
        time = disk_time e is_after (λ c out w. w);
        keeps = λ t c out le left. keeps m e m' k is_after (L c) t out le left;
      }

  pub durable : {E : Type 0} (done : Bool) (result : Result Unit E) → m' ≡ with_event m (Synced i done) k → is_ok result ≡ done → OnOk result (Only (disk_of i m).bytes (seen i d' l' m') (leaves_by L m'))
  durable true (Ok v) is_after is = λ c left. rest_of (Synced i true) is_after (same_number i) c (moment_of m').sent left
  durable false (Ok v) is_after is = absurd cc
  durable done (Err v) is_after is = tt

  pub all_durable : {E : Type 0} (done : Bool) (result : Result Unit E) → m' ≡ with_event m (Synced i done) k → is_ok result ≡ done → OnOk result (IsTrue true → Only (disk_of i m).bytes (seen i d' l' m') (leaves_by L m'))
  all_durable {E = E} done (Ok v) is_after is = λ told. durable {E = E} done (Ok v) is_after is
  all_durable done (Err v) is_after is = tt

  pub emitted : {E : Type 0} (piece : List ℕ) (done : Bool) (result : Result Unit E) → m' ≡ with_event m (Emitted piece done) k → is_ok result ≡ done
      → Emits piece (seen i d l m) (seen i d' l' m') (leaves_by L m) (leaves_by L m') result
  emitted piece done result is_after is =
      let e = Emitted piece done in
      let old = (moment_of m).sent in
      record {
        holds = ap (λ (y : Disk). y.bytes) (disk_same m e m' k is_after i refl);
        sent = on_done (λ (b : Bool). (moment_of m').sent ≡ cond b (old ++ piece) old) result done is (sent_now m e m' k is_after);
        part = (cond done (length piece) 0, sent_now m e m' k is_after ∙ sent_front done piece old);
        put = put_same m e m' k is_after i refl;
        stop = λ c left. before m e m' k is_after (L c) old (now_is m e m' k is_after (L c) (moment_of m').sent left).0 refl;
        time = record {
          later = later m e m' k is_after;
          only = λ t c out le left.
              ⊎_elim
              (λ l. inl l)
              (⊎_elim
              (λ w. inr (record { image = before m e m' k is_after (L c) old w.0 refl; prefix = w.1 }))
              (λ r. inr (record { image = before m e m' k is_after (L c) old r.0 refl; prefix = (cond done (length piece) 0, r.1 ∙ sent_front done piece old) })))
              (goes m e m' k is_after (L c) t out le left);
        };
        keeps = λ t c out le left. keeps m e m' k is_after (L c) t out le left;
      }
