-- How far some acts are done, over whatever the acts make of one another: contents of records, or tables.
use Rattle.std.specs.Prelude.{◌≡◌, ◌⊎◌, ◌≤◌, ℕ, ◌+◌, Bool, true, false, IsTrue, ⊤, List, [], ◌∷◌, ◌++◌, All}
use Rattle.std.specs.List.{list_all}
use Rattle.kd_device.specs.Device.{State, Rose, Frame, SameFaults, SameNames, LeavesOnly}
use Rattle.kd_records.specs.Charge.{total_charge}
use Rattle.kd_records.specs.Contents.{patched, Change as RecordChange, IsPatch}
use Rattle.kd_records.specs.Identity.{Identity}
use Rattle.kd_records.specs.declared.content.Content.{Content}
use Rattle.kd_records.specs.declared.content.Patch.{Patch}
use Rattle.kdcfile_store.specs.Kept.{IsKept}
use Rattle.kdcs_types.specs.declared.act.Act.{Act}
use Rattle.kdcs_types.specs.declared.act.Act.TheVariants.{Commit, Emit}
use Rattle.kdcs_types.specs.declared.act.Changes.{Changes}
use Rattle.kdcs_types.specs.declared.key.Key.{Key}
use Rattle.kdcs_types.specs.Keys.{key_kind}
use Rattle.abstract_monitor.specs.Bytes.{Bytes}
use Rattle.abstract_monitor.specs.Lines.{restart_line}
use Rattle.abstract_monitor.specs.Trace.{bytes_of}
use Rattle.laws_of_states.specs.Cut.{SentBy}
use Rattle.record_codec.specs.Records.{patch_of}
use Rattle.record_codec.specs.Values.{HasShortChange}
use Rattle.device_acts.specs.Said.{SameDisk}

abbrev pub is_line : Act → Bool
is_line (Commit changes) = false
is_line (Emit line) = true

-- the acts are lines alone
abbrev pub commits_nothing : List Act → Bool
commits_nothing acts = list_all is_line acts

-- some first acts were done, the image stands for what they make of the start, and these bytes were sent beyond those before
pub record IsCutOf {X : Type 0} (after : X → List Act → X) (stands : X → Bytes → Type 0) (start : X) (all : List Act) (sent image out : Bytes) : Type 0 where
  pub since : Bytes
  pub more : out ≡ sent ++ since
  pub done : List Act
  pub left : List Act
  pub whole : all ≡ done ++ left
  pub file : stands (after start done) image
  pub bytes : SentBy done left since

-- whatever became of the acts: at each moment, what was sent and what a stop leaves are a cut of them
pub record WithinActs {X : Type 0} (after : X → List Act → X) (stands : X → Bytes → Type 0) (start : X) (acts : List Act) (a b : State) (la lb : ℕ → List ℕ → List ℕ → Type 0) : Type 0 where
  pub frame : Frame a b
  pub names : SameNames a b
  pub any_moment : IsTrue a.told → LeavesOnly a b la lb (IsCutOf after stands start acts a.sent)
  pub quiet : IsTrue a.told → commits_nothing acts ≡ true → SameDisk a b

-- all their lines were sent, a stop leaves just the bytes of the store's one file, and no call failed
pub record Sent (file : List ℕ → Type 0) (acts : List Act) (a b : State) (lb : ℕ → List ℕ → List ℕ → Type 0) : Type 0 where
  pub rest : IsTrue a.told → IsKept file b lb
  pub sent : IsTrue a.told → b.sent ≡ a.sent ++ bytes_of acts
  pub faults : SameFaults a b

-- a stop now leaves no image but those of the files
abbrev pub IsKeptBy : (file : List ℕ → Type 0) → State → (ℕ → List ℕ → List ℕ → Type 0) → Type 0
IsKeptBy file s leaves = (c : List ℕ) → leaves s.moment c s.sent → file c

-- what holds where no call failed goes on from one part to the next
pub record JoinsParts (fine : State → State → Type 0) : Type 0 where
  pub none : (a : State) → fine a a
  pub after : (a b d : State) → fine a b → fine b d → fine a d

-- all their lines were sent, a stop leaves no image but those of the files, and the calls were fine
pub record DidActs (fine : State → State → Type 0) (file : List ℕ → Type 0) (acts : List Act) (a b : State) (lb : ℕ → List ℕ → List ℕ → Type 0) : Type 0 where
  pub rest : IsTrue a.told → IsKeptBy file b lb
  pub sent : IsTrue a.told → b.sent ≡ a.sent ++ bytes_of acts
  pub calls : fine a b

-- the bytes of a single file, as reads give them
abbrev pub OwnFile : (file : List ℕ → Type 0) → State → List ℕ → Type 0
OwnFile file s c = file c × (c ≡ s.holds)

-- the lines of some first acts were sent beyond the bytes before, and perhaps a part of the line that is next, and the bytes that were written since are at most those that these acts write
pub record WritesUpTo (most : List Act → ℕ) (acts : List Act) (a b : State) : Type 0 where
  pub since : Bytes
  pub more : b.sent ≡ a.sent ++ since
  pub done : List Act
  pub left : List Act
  pub whole : acts ≡ done ++ left
  pub bytes : SentBy done left since
  pub put : b.put ≤ a.put + most done

-- the image stands for what these first acts make, or the last of them is a commit that was begun, and it stands for what those before it make
abbrev pub HasOrBegan : {X : Type 0} → (after : X → List Act → X) → (stands : X → Bytes → Type 0) → X → (done : List Act) → Bytes → Type 0
HasOrBegan after stands start done image = stands (after start done) image ⊎ ((before : List Act) × (c : Changes) × (done ≡ before ++ Commit c ∷ []) × stands (after start before) image)

-- the bytes written are at most those of some first acts, which are those whose lines were sent and whose commits the image has, but for a last one that was begun
pub record WritesBegun {X : Type 0} (after : X → List Act → X) (stands : X → Bytes → Type 0) (start : X) (most : List Act → ℕ) (acts : List Act) (a b : State) (image : Bytes) : Type 0 where
  pub writes : WritesUpTo most acts a b
  pub file : HasOrBegan after stands start writes.done image

-- whatever became of the acts: so it is with each image that a stop now leaves
abbrev pub WritesWithin : {X : Type 0} → (after : X → List Act → X) → (stands : X → Bytes → Type 0) → X → (most : List Act → ℕ) → (acts : List Act) → (a b : State) → (lb : ℕ → List ℕ → List ℕ → Type 0) → Type 0
WritesWithin after stands start most acts a b lb = IsTrue a.told → (image : List ℕ) → lb b.moment image b.sent → WritesBegun after stands start most acts a b image

-- an act that asks for the disk: a commit, or the line of a RESTART, before which the files are opened again
abbrev pub AsksDisk : Act → Type 0
AsksDisk (Commit changes) = ⊤
AsksDisk (Emit line) = line ≡ restart_line

-- just the lines before an act were sent that asks for the disk
pub record HaltsAt (acts : List Act) (a b : State) : Type 0 where
  pub done : List Act
  pub next : Act
  pub left : List Act
  pub asks : AsksDisk next
  pub whole : acts ≡ done ++ next ∷ left
  pub sent : b.sent ≡ a.sent ++ bytes_of done

-- a call of the line failed, or the acts halted at one that asks for the disk
abbrev pub LineOrDisk : (acts : List Act) → (a b : State) → Type 0
LineOrDisk acts a b = IsTrue a.told → Rose a.line_faults b.line_faults ⊎ HaltsAt acts a b

-- ---- contents of records

-- the content after some acts
abbrev pub content_after : Content → List Act → Content
content_after x [] = x
content_after x (Commit c ∷ acts) = content_after (patched x (patch_of c)) acts
content_after x (Emit line ∷ acts) = content_after x acts

-- each record that the patch changes is of a kind that the rows of tables have
abbrev pub IsOfChanges : Patch → Type 0
IsOfChanges p = All (λ (c : RecordChange). (k : Key) × (c.0.kind ≡ key_kind k)) p.items

-- a store of this identity that keeps the content can take the changes
pub record CanCommit (i : Identity) (x : Content) (c : Changes) : Type 0 where
  pub short : All HasShortChange c.items
  pub patch : IsPatch (patch_of c)
  pub before : total_charge i.blksize x.items ≤ i.pages
  pub after : total_charge i.blksize (patched x (patch_of c)).items ≤ i.pages

-- and all commits of some acts, one after another
abbrev pub AreCommittable : Identity → Content → List Act → Type 0
AreCommittable i x [] = ⊤
AreCommittable i x (Commit c ∷ acts) = CanCommit i x c × AreCommittable i (patched x (patch_of c)) acts
AreCommittable i x (Emit line ∷ acts) = AreCommittable i x acts

-- how many bytes some acts write at most, by the bound of a commit over a content: a commit after another is over what that one makes, and a line writes none
abbrev pub acts_most : (Identity → Content → Patch → ℕ) → Identity → Content → List Act → ℕ
acts_most most i x [] = 0
acts_most most i x (Commit c ∷ acts) = most i x (patch_of c) + acts_most most i (patched x (patch_of c)) acts
acts_most most i x (Emit line ∷ acts) = acts_most most i x acts
