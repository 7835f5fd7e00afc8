-- What acts make of a content of records, and what a store may take of them.
use Rattle.std.proofs.Common.{◌≡◌, inl, inr, ℕ, ◌+◌, ◌<◌, List, [], ◌∷◌, ◌++◌, length, take, drop, get_or, refl, sym, ap, subst, ◌∙◌}
use Rattle.std.specs.Prelude.{IsTrue, true}
use Rattle.std.proofs.lemmas.List.{append-nil, drop_more}
use Rattle.kd_device.specs.Device.{State, Frame, SameNames, LeavesOnly}
use Rattle.kd_device.specs.TimeLaws.{leaves_weaker}
use Rattle.kd_records.specs.Contents.{patched}
use Rattle.kd_records.specs.Identity.{Identity}
use Rattle.kd_records.specs.declared.content.Content.{Content}
use Rattle.kd_records.specs.declared.content.Patch.{Patch}
use Rattle.kdcfile_store.specs.Kept.{OldOrNew}
use Rattle.kdcs_types.specs.declared.act.Act.{Act}
use Rattle.kdcs_types.specs.declared.act.Act.TheVariants.{Commit, Emit}
use Rattle.kdcs_types.specs.declared.act.Changes.{Changes}
use Rattle.abstract_monitor.specs.Trace.{bytes_of}
use Rattle.record_codec.specs.Records.{patch_of}
use Rattle.device_acts.specs.Acting.{commits_nothing, IsCutOf, IsKeptBy, DidActs, WithinActs, content_after, AreCommittable}
use Rattle.device_acts.specs.Said.{Said, SaidPart}
use Rattle.device_acts.specs.ActingLaws.{Goes, one_more, cut_none, cut_after, cut_within_line}

content_joined : (x : Content) (p q : List Act) → content_after x (p ++ q) ≡ content_after (content_after x p) q
content_joined x [] q = refl
content_joined x (Commit c ∷ p) q = content_joined (patched x (patch_of c)) p q
content_joined x (Emit line ∷ p) q = content_joined x p q

pub content_goes : Goes content_after
content_goes = record { none = λ x. refl; joined = content_joined }

-- ---- what can be committed

-- acts in two parts: the first, and the second after it
pub committable_parts : (i : Identity) (x : Content) (p q : List Act) → AreCommittable i x (p ++ q) → AreCommittable i x p × AreCommittable i (content_after x p) q
committable_parts i x [] q can = (tt, can)
committable_parts i x (Commit c ∷ p) q can = let rest = committable_parts i (patched x (patch_of c)) p q can.1 in ((can.0, rest.0), rest.1)
committable_parts i x (Emit line ∷ p) q can = committable_parts i x p q can

-- acts up to one of them
module _ (now : Content) (acts : List Act) (i : ℕ) (act : Act) (is : act ≡ get_or acts i act) (lt : i < length acts) where
  pub content_more : (x next : Content) → now ≡ content_after x (take i acts) → next ≡ content_after now (act ∷ []) → next ≡ content_after x (take (i + 1) acts)
  content_more x next reached made =
      made ∙ ap (λ (y : Content). content_after y (act ∷ [])) reached ∙ sym (content_joined x (take i acts) (act ∷ [])) ∙ ap (λ (l : List Act). content_after x l) (sym (one_more acts i act act is lt))

  parts : (j : Identity) → AreCommittable j now (drop i acts) → AreCommittable j now (act ∷ []) × AreCommittable j (content_after now (act ∷ [])) (drop (i + 1) acts)
  parts j can = committable_parts j now (act ∷ []) (drop (i + 1) acts) (subst (λ (l : List Act). AreCommittable j now l) (drop_more acts i act lt ∙ ap (λ (y : Act). y ∷ drop (i + 1) acts) (sym is)) can)

  pub can_here : (j : Identity) → AreCommittable j now (drop i acts) → AreCommittable j now (act ∷ [])
  can_here j can = (parts j can).0

  pub can_more : (j : Identity) (next : Content) → AreCommittable j now (drop i acts) → next ≡ content_after now (act ∷ []) → AreCommittable j next (drop (i + 1) acts)
  can_more j next can made = subst (λ (y : Content). AreCommittable j y (drop (i + 1) acts)) (sym made) (parts j can).1

-- ---- a commit

-- a commit is no line
pub not_lines : (changes : Changes) (act : Act) → act ≡ Commit changes → commits_nothing (act ∷ []) ≡ true → ⊥
not_lines changes act is lines = let no_line = ap (λ (x : Act). commits_nothing (x ∷ [])) (sym is) ∙ lines in cc

pub bytes_of_commit : (c : Changes) → bytes_of (Commit c ∷ []) ≡ []
unfolding bytes_of
bytes_of_commit c = refl

-- a commit that was whole or absent
commit_cut : (stands : Content → List ℕ → Type 0) (x : Content) (c : Changes) (sent image out : List ℕ) → OldOrNew stands x (patched x (patch_of c)) sent image out → IsCutOf content_after stands x (Commit c ∷ []) sent image out
commit_cut stands x c sent image out (same, inl old) = subst (λ (o : List ℕ). IsCutOf content_after stands x (Commit c ∷ []) sent image o) (sym same) (cut_none content_after content_goes stands x (Commit c ∷ []) sent image old)
commit_cut stands x c sent image out (same, inr new) =
    cut_after content_after content_goes stands x (Commit c ∷ []) [] sent image out new (same ∙ sym (ap (λ (l : List ℕ). sent ++ l) (bytes_of_commit c) ∙ append-nil sent))

module _ (stands : Content → List ℕ → Type 0) (x : Content) (act : Act) (a b : State) (la lb : ℕ → List ℕ → List ℕ → Type 0) where
  pub commit_within : (c : Changes) (p : Patch) → act ≡ Commit c → p ≡ patch_of c → Frame a b → SameNames a b → (IsTrue a.told → LeavesOnly a b la lb (OldOrNew stands x (patched x p) a.sent)) → WithinActs content_after stands x (act ∷ []) a b la lb
  commit_within c p is patch frame names left = record {
    frame = frame;
    names = names;
    any_moment = λ told.
        subst (λ (y : Act). LeavesOnly a b la lb (IsCutOf content_after stands x (y ∷ []) a.sent)) (sym is)
        (leaves_weaker a b la lb (OldOrNew stands x (patched x (patch_of c)) a.sent) (IsCutOf content_after stands x (Commit c ∷ []) a.sent)
        (subst (λ (q : Patch). LeavesOnly a b la lb (OldOrNew stands x (patched x q) a.sent)) patch (left told))
        (λ image out h. commit_cut stands x c a.sent image out h));
    quiet = λ told lines. absurd (not_lines c act is lines);
  }

  pub commit_sent : (fine : State → State → Type 0) (file : List ℕ → Type 0) (c : Changes) → act ≡ Commit c → (IsTrue a.told → IsKeptBy file b lb) → (IsTrue a.told → b.sent ≡ a.sent) → fine a b → DidActs fine file (act ∷ []) a b lb
  commit_sent fine file c is kept sent went = record {
    rest = kept;
    sent = λ told. sent told ∙ sym (ap (λ (l : List ℕ). a.sent ++ l) (ap (λ (y : Act). bytes_of (y ∷ [])) is ∙ bytes_of_commit c) ∙ append-nil a.sent);
    calls = went;
  }

-- ---- a line

bytes_of_line : (line : List ℕ) → bytes_of (Emit line ∷ []) ≡ line
unfolding bytes_of
bytes_of_line line = append-nil line

-- what a keeper has at rest, a stop before a line leaves
pub rest_stands : (file stands : List ℕ → Type 0) (a : State) (la : ℕ → List ℕ → List ℕ → Type 0) → ((c : List ℕ) → file c → stands c) → IsKeptBy file a la → (c : List ℕ) → la a.moment c a.sent → stands c
rest_stands file stands a la means kept c left = means c (kept c left)

-- a line that was sent, or a front of it
module _ {X : Type 0} (after : X → List Act → X) (goes : Goes after) (stands : X → List ℕ → Type 0) (x : X) (a b : State) (la lb : ℕ → List ℕ → List ℕ → Type 0) (act : Act) (line : List ℕ) (is : act ≡ Emit line) where
  pub line_within : Frame a b → SameNames a b → (IsTrue a.told → (c : List ℕ) → la a.moment c a.sent → stands x c) → (IsTrue a.told → SaidPart line a b)
      → (IsTrue a.told → LeavesOnly a b la lb (λ c out. la a.moment c a.sent × ((n : ℕ) × (out ≡ a.sent ++ take n line))))
      → WithinActs after stands x (act ∷ []) a b la lb
  line_within frame names here part left = record {
    frame = frame;
    names = names;
    any_moment = λ told.
        subst (λ (y : Act). LeavesOnly a b la lb (IsCutOf after stands x (y ∷ []) a.sent)) (sym is)
        (leaves_weaker a b la lb (λ c out. la a.moment c a.sent × ((n : ℕ) × (out ≡ a.sent ++ take n line))) (IsCutOf after stands x (Emit line ∷ []) a.sent) (left told)
        (λ image out h. cut_within_line after goes stands x line [] a.sent image out h.1.0 (here told image h.0) h.1.1));
    quiet = λ told lines. (part told).disk;
  }

-- a line that was sent
pub line_sent : (fine : State → State → Type 0) (file : List ℕ → Type 0) (a b : State) (lb : ℕ → List ℕ → List ℕ → Type 0) (act : Act) (line : List ℕ) → act ≡ Emit line → (IsTrue a.told → IsKeptBy file b lb) → (IsTrue a.told → Said line a b) → fine a b → DidActs fine file (act ∷ []) a b lb
line_sent fine file a b lb act line is kept said went = record {
  rest = kept;
  sent = λ told. (said told).sent ∙ ap (λ (l : List ℕ). a.sent ++ l) (sym (ap (λ (y : Act). bytes_of (y ∷ [])) is ∙ bytes_of_line line));
  calls = went;
}
