-- How the bytes that acts write add up.
use Rattle.std.proofs.Common.{◌≡◌, ◌⊎◌, inl, inr, ⊎_elim, ℕ, ◌+◌, ◌≤◌, ◌<◌, List, [], ◌∷◌, ◌++◌, length, take, drop, get_or, refl, sym, ap, subst, ◌∙◌, arith, append_assoc}
use Rattle.std.proofs.lemmas.List.{append-nil, take_all}
use Rattle.kd_device.specs.Device.{State, LeavesOnly}
use Rattle.kd_records.specs.Contents.{patched}
use Rattle.kd_records.specs.Identity.{Identity}
use Rattle.kd_records.specs.declared.content.Content.{Content}
use Rattle.kd_records.specs.declared.content.Patch.{Patch}
use Rattle.kdcfile_store.specs.Kept.{OldOrNew}
use Rattle.kdcs_types.specs.declared.act.Act.{Act}
use Rattle.kdcs_types.specs.declared.act.Act.TheVariants.{Commit, Emit}
use Rattle.kdcs_types.specs.declared.act.Changes.{Changes}
use Rattle.abstract_monitor.specs.Bytes.{Bytes}
use Rattle.abstract_monitor.specs.Trace.{bytes_of}
use Rattle.laws_of_states.specs.Cut.{SentBy}
use Rattle.record_codec.specs.Records.{patch_of}
use Rattle.device_acts.specs.Acting.{HasOrBegan, IsCutOf, WritesBegun, WritesUpTo, acts_most, content_after}
use Rattle.device_acts.specs.ActingLaws.{Goes, around, bytes_joined, cut_none, no_bytes, one_more}
use Rattle.device_acts.specs.ContentsLaws.{bytes_of_commit}

-- acts in two parts write at most what the first part does, and what the second does after it
pub record Adds {X : Type 0} (after : X → List Act → X) (most : X → List Act → ℕ) : Type 0 where
  pub joined : (x : X) (p q : List Act) → most x (p ++ q) ≡ most x p + most (after x p) q

-- ---- what was sent by acts in two parts

sent_then : (p done left q : List Act) (since : Bytes) → SentBy done left since → SentBy (p ++ done) (left ++ q) (bytes_of p ++ since)
sent_then p done left q since (inl all) = inl (ap (λ (l : Bytes). bytes_of p ++ l) all ∙ sym (bytes_joined p done))
sent_then p done left q since (inr part) =
    inr (
      part.0,
      part.1 ++ q,
      ap (λ (l : List Act). l ++ q) part.2,
      part.3,
      ap (λ (l : Bytes). bytes_of p ++ l) part.4 ∙ sym (append_assoc (bytes_of p) (bytes_of done) (take part.3 part.0)) ∙ ap (λ (l : Bytes). l ++ take part.3 part.0) (sym (bytes_joined p done)),
    )

-- ---- acts of one part

-- nothing was written or sent
pub writes_none : (most : List Act → ℕ) (acts : List Act) (a b : State) → b.sent ≡ a.sent → b.put ≤ a.put → WritesUpTo most acts a b
writes_none most acts a b sent put = record {
  since = [];
  more = sent ∙ sym (append-nil a.sent);
  done = [];
  left = acts;
  whole = refl;
  bytes = inl (sym no_bytes);
  put = omega (arith, put);
}

-- after calls that sent nothing, and wrote at most so many bytes
module _ (k : ℕ) (most : List Act → ℕ) (acts : List Act) (a b d : State) (sent : b.sent ≡ a.sent) (put : b.put ≤ a.put + k) where
  pub writes_after : WritesUpTo most acts b d → WritesUpTo (λ l. k + most l) acts a d
  writes_after h = record {
    since = h.since;
    more = h.more ∙ ap (λ (s : Bytes). s ++ h.since) sent;
    done = h.done;
    left = h.left;
    whole = h.whole;
    bytes = h.bytes;
    put = omega (arith, put, h.put);
  }

  pub begun_after : {X : Type 0} (after : X → List Act → X) (stands : X → Bytes → Type 0) (start : X) (image : Bytes) → WritesBegun after stands start most acts b d image → WritesBegun after stands start (λ l. k + most l) acts a d image
  unfolding writes_after
  begun_after after stands start image h = record { writes = writes_after h.writes; file = h.file }

module _ {X : Type 0} (after : X → List Act → X) (goes : Goes after) (stands : X → Bytes → Type 0) (start : X) (most : List Act → ℕ) (acts : List Act) (a b : State) (image : Bytes) where
  -- a cut of acts that wrote nothing
  pub cut_begun : b.put ≤ a.put → IsCutOf after stands start acts a.sent image b.sent → WritesBegun after stands start most acts a b image
  cut_begun put h = record {
    writes = record { since = h.since; more = h.more; done = h.done; left = h.left; whole = h.whole; bytes = h.bytes; put = omega (arith, put) };
    file = inl h.file;
  }

  -- nothing was done
  pub none_begun : b.put ≤ a.put → b.sent ≡ a.sent → stands start image → WritesBegun after stands start most acts a b image
  none_begun put sent file = cut_begun put (subst (λ (o : Bytes). IsCutOf after stands start acts a.sent image o) (sym sent) (cut_none after goes stands start acts a.sent image file))

  -- whatever became of acts that wrote nothing
  pub quiet_begun : (la lb : ℕ → List ℕ → List ℕ → Type 0) → b.put ≤ a.put → ((c out : Bytes) → la a.moment c out → out ≡ a.sent) → ((c : Bytes) → la a.moment c a.sent → stands start c) → LeavesOnly a b la lb (IsCutOf after stands start acts a.sent) → lb a.moment image b.sent → WritesBegun after stands start most acts a b image
  quiet_begun la lb put sent before left now =
      ⊎_elim
      (λ past. let same = sent image b.sent past in none_begun put same (before image (subst (la a.moment image) same past)))
      (λ cut. cut_begun put cut)
      (left.only a.moment image b.sent (omega arith) now)

  -- all was done
  pub all_begun : b.sent ≡ a.sent ++ bytes_of acts → b.put ≤ a.put + most acts → stands (after start acts) image → WritesBegun after stands start most acts a b image
  all_begun sent put file = record {
    writes = record { since = bytes_of acts; more = sent; done = acts; left = []; whole = sym (append-nil acts); bytes = inl refl; put = put };
    file = inl file;
  }

-- ---- acts one after another

-- the first acts write no more than all
pub writes_most : {X : Type 0} (after : X → List Act → X) (most : X → List Act → ℕ) → Adds after most → (x : X) (acts : List Act) (a b : State) → WritesUpTo (most x) acts a b → b.put ≤ a.put + most x acts
writes_most after most adds x acts a b h =
    let sum = ap (most x) h.whole ∙ adds.joined x h.done h.left in
    omega (arith, h.put, sum)

module _ {X : Type 0} (after : X → List Act → X) (goes : Goes after) (stands : X → Bytes → Type 0) (most : X → List Act → ℕ) (adds : Adds after most) where
  module _ (start now : X) (done here : List Act) (a b d : State) (reached : now ≡ after start done) (put : b.put ≤ a.put + most start done) where
    most_then : (p : List Act) → most start (done ++ p) ≡ most start done + most now p
    most_then p = adds.joined start done p ∙ ap (λ (x : X). most start done + most x p) (sym reached)

    made_then : (p : List Act) (image : Bytes) → stands (after now p) image → stands (after start (done ++ p)) image
    made_then p image = subst (λ (x : X). stands x image) (ap (λ (x : X). after x p) reached ∙ sym (goes.joined start done p))

    has_or_began : (p : List Act) (image : Bytes) → HasOrBegan after stands now p image → HasOrBegan after stands start (done ++ p) image
    has_or_began p image (inl file) = inl (made_then p image file)
    has_or_began p image (inr (before, c, last, file)) =
        inr (done ++ before, c, ap (λ (l : List Act). done ++ l) last ∙ sym (append_assoc done before (Commit c ∷ [])), made_then before image file)

    -- whatever became of the acts that are next
    pub begun_within : (all rest : List Act) (image : Bytes) → b.sent ≡ a.sent ++ bytes_of done → WritesBegun after stands now (most now) here b d image → all ≡ done ++ (here ++ rest) → WritesBegun after stands start (most start) all a d image
    begun_within all rest image sent step split =
        let w = step.writes in
        record {
          writes = record {
            since = bytes_of done ++ w.since;
            more = w.more ∙ ap (λ (s : Bytes). s ++ w.since) sent ∙ append_assoc a.sent (bytes_of done) w.since;
            done = done ++ w.done;
            left = w.left ++ rest;
            whole = split ∙ ap (λ (l : List Act). done ++ l) (ap (λ (l : List Act). l ++ rest) w.whole ∙ append_assoc w.done w.left rest) ∙ sym (append_assoc done w.done (w.left ++ rest));
            bytes = sent_then done w.done w.left rest w.since w.bytes;
            put = let sum = most_then w.done in omega (arith, w.put, put, sum);
          };
          file = has_or_began w.done image step.file;
        }

    -- and where they are done
    pub put_then : d.put ≤ b.put + most now here → d.put ≤ a.put + most start (done ++ here)
    put_then more =
        let sum = most_then here in
        omega (arith, more, put, sum)

  -- the act at i
  module _ (start now : X) (all : List Act) (i : ℕ) (act : Act) (is : act ≡ get_or all i act) (lt : i < length all) (a b d : State) (reached : now ≡ after start (take i all)) (put : b.put ≤ a.put + most start (take i all)) where
    pub act_begun : (image : Bytes) → b.sent ≡ a.sent ++ bytes_of (take i all) → WritesBegun after stands now (most now) (act ∷ []) b d image → WritesBegun after stands start (most start) all a d image
    act_begun image sent step = begun_within start now (take i all) (act ∷ []) a b d reached put all (drop (i + 1) all) image sent step (around all i act act is lt)

    pub act_puts : d.put ≤ b.put + most now (act ∷ []) → d.put ≤ a.put + most start (take (i + 1) all)
    act_puts more =
        subst (λ (l : List Act). d.put ≤ a.put + most start l) (sym (one_more all i act act is lt))
        (put_then start now (take i all) (act ∷ []) a b d reached put more)

-- all acts, where those before i are all
pub over_begun : {X : Type 0} (after : X → List Act → X) (goes : Goes after) (stands : X → Bytes → Type 0) (start : X) (most : List Act → ℕ) (all : List Act) (i : ℕ) (a b : State) (image : Bytes) → length all ≤ i → b.sent ≡ a.sent ++ bytes_of (take i all) → b.put ≤ a.put + most (take i all) → stands (after start (take i all)) image → WritesBegun after stands start most all a b image
over_begun after goes stands start most all i a b image over sent put file =
    subst (λ (l : List Act). WritesBegun after stands start most l a b image) (take_all i all over) (all_begun after goes stands start most (take i all) a b image sent put file)

-- ---- contents of records

most_joined : (most : Identity → Content → Patch → ℕ) (i : Identity) (x : Content) (p q : List Act) → acts_most most i x (p ++ q) ≡ acts_most most i x p + acts_most most i (content_after x p) q
most_joined most i x [] q = omega arith
most_joined most i x (Commit c ∷ p) q = let rest = most_joined most i (patched x (patch_of c)) p q in omega (arith, rest)
most_joined most i x (Emit line ∷ p) q = most_joined most i x p q

pub contents_add : (most : Identity → Content → Patch → ℕ) (i : Identity) → Adds content_after (acts_most most i)
contents_add most i = record { joined = most_joined most i }

-- a commit, whole or absent
module _ (stands : Content → Bytes → Type 0) (most : Identity → Content → Patch → ℕ) (i : Identity) (x : Content) (a b : State) (la lb : ℕ → List ℕ → List ℕ → Type 0) (image : Bytes) where
  -- once it was begun
  commit_file : (c : Changes) (out : Bytes) → la a.moment image a.sent ⊎ OldOrNew stands x (patched x (patch_of c)) a.sent image out → ((d : Bytes) → la a.moment d a.sent → stands x d) → HasOrBegan content_after stands x (Commit c ∷ []) image
  commit_file c out (inl past) before = inr ([], c, refl, before image past)
  commit_file c out (inr (silent, inl old)) before = inr ([], c, refl, old)
  commit_file c out (inr (silent, inr new)) before = inl new

  pub commit_begun : (act : Act) (c : Changes) (p : Patch) → act ≡ Commit c → p ≡ patch_of c → b.sent ≡ a.sent → b.put ≤ a.put + most i x p → ((d : Bytes) → la a.moment d a.sent → stands x d) → LeavesOnly a b la lb (OldOrNew stands x (patched x p) a.sent) → lb a.moment image b.sent
      → WritesBegun content_after stands x (acts_most most i x) (act ∷ []) a b image
  commit_begun act c p is patch sent put before left now =
      let here = subst (λ (q : Patch). LeavesOnly a b la lb (OldOrNew stands x (patched x q) a.sent)) patch left in
      let may = here.only a.moment image b.sent (omega arith) now in
      subst (λ (y : Act). WritesBegun content_after stands x (acts_most most i x) (y ∷ []) a b image) (sym is)
      (record {
        writes = record {
          since = [];
          more = sent ∙ sym (append-nil a.sent);
          done = Commit c ∷ [];
          left = [];
          whole = refl;
          bytes = inl (sym (bytes_of_commit c));
          put = let same = ap (most i x) patch in omega (arith, put, same);
        };
        file = commit_file c b.sent (⊎_elim (λ past. inl (subst (la a.moment image) sent past)) (λ either. inr either) may) before;
      })
