-- What a file of a KDCFILE is, which of two counts, and what the next run does with them.
use Rattle.std.specs.Prelude.{◌≡◌, ◌≤◌, ◌-◌, ℕ, Bool, true, false, IsTrue, List, [], get_or, Ok, Err}
use Rattle.kd_device.specs.Room.{RoomState}
use Rattle.kd_records.specs.Charge.{total_charge}
use Rattle.kd_records.specs.Identity.{Identity}
use Rattle.kd_records.specs.declared.content.Content.{Content}
use Rattle.kdcfile_layout.specs.Layout.{IsNoImage, StandsFor}
use Rattle.kdcfile_copies.specs.Copies.{AtMost, Below, HasSequence, IsCopyOf, IsNoCopy}
use Rattle.kdcs_types.specs.Tables.{TableRows}
use Rattle.laws_of_states.specs.Suits.{Suits}
use Rattle.device_acts.specs.Opening.{IsOfOtherTexts, IsRefused}
use Rattle.device_acts.specs.Stands.{StandsForTables, identity_for}
use Rattle.kdcfile_double.specs.Opening.{AreEmpty, GoesOnFrom, IsRefusedTwo, IsSpent, IsTwoOfOtherTexts, last_sequence}
use Rattle.refusals.specs.declared.error.Refusal.{Refusal}
use Rattle.call_parts.specs.Asking.{AreThere, Errand, Reading, ReadsFor, ReadsForTwo}
use Rattle.call_parts.specs.declared.words.Word.TheVariants.{Gen}
use Rattle.carry_cli.specs.declared.kinds.Counting.{Counting}
use Rattle.carry_cli.specs.declared.kinds.Counting.TheVariants as counts
use Rattle.carry_cli.specs.declared.kinds.Kind.{Kind}
use Rattle.carry_cli.specs.declared.kinds.Kind.TheVariants as kind
use Rattle.carry_cli.specs.declared.kinds.Making.{Making}
use Rattle.carry_cli.specs.declared.kinds.Next.{Next}
use Rattle.carry_cli.specs.declared.kinds.Next.TheVariants as next
use Rattle.carry_cli.specs.declared.kinds.Said.{Said}
use Rattle.carry_cli.specs.declared.kinds.Said.TheVariants as said
use Rattle.carry_cli.specs.declared.kinds.State.{State}
use Rattle.carry_cli.specs.declared.kinds.There.{There}
use Rattle.carry_cli.specs.declared.kinds.Why.TheVariants as why

-- with what a file that is kept once was made, and what this content takes of its page pool
abbrev pub made_once : Identity → Content → Making
made_once i x = record { blksize = i.blksize; pgpool = i.pages; used = total_charge i.blksize x.items; fingerprint = i.fingerprint }

-- the same of a copy, whose pool has a page more for the record of its sequence
abbrev pub made_twice : Identity → Content → Making
made_twice i x = record { blksize = i.blksize; pgpool = i.pages - 1; used = total_charge i.blksize x.items; fingerprint = i.fingerprint }

-- the same without a page
abbrev pub one_less : Making → Making
one_less m = record { blksize = m.blksize; pgpool = m.pgpool - 1; used = m.used - 1; fingerprint = m.fingerprint }

-- a file whose making or mending did not end: its first byte is 0
abbrev pub IsUnfinished : List ℕ → Type 0
IsUnfinished bytes = (bytes ≡ [] → ⊥) × (get_or bytes 0 0 ≡ 0)

-- a file that was never a KDCFILE, or was damaged: its first byte is another one, and it stands for nothing
abbrev pub IsForeign : List ℕ → Type 0
IsForeign bytes = (get_or bytes 0 0 ≡ 0 → ⊥) × IsNoImage bytes

-- what a file is, by whether there is one and by its bytes
abbrev pub IsKind : Kind → (there : Bool) → List ℕ → Type 0
IsKind kind.Missing there bytes = (there ≡ false) × (bytes ≡ [])
IsKind kind.Empty there bytes = (there ≡ true) × (bytes ≡ [])
IsKind kind.Shut there bytes = IsUnfinished bytes
IsKind kind.NoKdcfile there bytes = IsForeign bytes
IsKind (kind.Single m) there bytes = (i : Identity) × (x : Content) × StandsFor i x bytes × ((n : ℕ) → HasSequence n x → ⊥) × (m ≡ made_once i x)
IsKind (kind.Copy n m) there bytes = (i : Identity) × (x : Content) × IsCopyOf i n x bytes × (m ≡ made_twice i x)

-- which of two files counts; of two copies with one sequence that differ the first one does
abbrev pub IsCounting : Counting → (a b : List ℕ) → Type 0
IsCounting counts.Neither a b = IsNoCopy a × IsNoCopy b
IsCounting counts.Alike a b = (i : Identity) × (n : ℕ) × (x : Content) × IsCopyOf i n x a × IsCopyOf i n x b
IsCounting counts.First a b = (i : Identity) × (n : ℕ) × (x : Content) × IsCopyOf i n x a × AtMost n b × (IsCopyOf i n x b → ⊥)
IsCounting counts.Second a b = (i : Identity) × (n : ℕ) × (x : Content) × IsCopyOf i n x b × Below n a

-- what a run of this errand over one file would do with it
abbrev pub NextOfOne : Errand → (bytes : List ℕ) → Next → Type 0
NextOfOne e bytes next.Texts = ⊥
NextOfOne e bytes next.Makes = bytes ≡ []
NextOfOne e bytes next.GoesOn = (t : TableRows) × StandsForTables (identity_for e.application.generation e.fingerprint) t bytes × Suits e.application.generation t
NextOfOne e bytes (next.Refuses why.NotKdcfile) = IsRefused e.application.generation e.fingerprint bytes
NextOfOne e bytes (next.Refuses why.OtherGeneration) = (stored : List ℕ) × IsOfOtherTexts stored e.fingerprint bytes
NextOfOne e bytes (next.Refuses why.SequenceSpent) = ⊥

-- what a run over two files would do with them
abbrev pub NextOfTwo : Errand → (a b : List ℕ) → Next → Type 0
NextOfTwo e a b next.Texts = ⊥
NextOfTwo e a b next.Makes = AreEmpty a b
NextOfTwo e a b next.GoesOn = (n : ℕ) × (t : TableRows) × (n ≤ last_sequence) × GoesOnFrom e.application.generation e.fingerprint n t a b
NextOfTwo e a b (next.Refuses why.NotKdcfile) = IsRefusedTwo e.application.generation e.fingerprint a b
NextOfTwo e a b (next.Refuses why.OtherGeneration) = (stored : List ℕ) × IsTwoOfOtherTexts stored e.fingerprint a b
NextOfTwo e a b (next.Refuses why.SequenceSpent) = (n : ℕ) × IsSpent e.application.generation e.fingerprint n a b

-- what the texts of a BASE say, and what the next run would therefore do with its files
abbrev pub IsTold : (base : List ℕ) → RoomState → (a b : List ℕ) → Said → Next → Type 0
IsTold base room a b (said.Single print) does = (e : Errand) × ReadsFor Gen base room (Ok e) × (e.fingerprint ≡ print) × NextOfOne e a does
IsTold base room a b (said.Double print) does = (e : Errand) × ReadsForTwo Gen base room (Ok e) × (e.fingerprint ≡ print) × NextOfTwo e a b does
IsTold base room a b said.Refused does = (w : Refusal) × ReadsFor Gen base room (Err w) × ((r : Reading) → ReadsForTwo Gen base room r → ⊥) × (does ≡ next.Texts)
IsTold base room a b said.Unread does = (IsTrue room.sure → (d u s : List ℕ) → AreThere Gen base room d u s → ⊥) × (does ≡ next.Texts)

-- the files of a BASE are this
pub record IsStateOf (s : State) (base : List ℕ) (room : RoomState) (there : There) (a b : List ℕ) : Type 0 where
  pub first_is : IsKind s.first there.first a
  pub second_is : IsKind s.second there.second b
  pub counts : IsCounting s.counting a b
  pub told : IsTold base room a b s.said s.next

-- a file is one of these at most: no bytes are of two kinds
abbrev pub FilesHaveOneState : Type 0
FilesHaveOneState = (k l : Kind) (there : Bool) (bytes : List ℕ) → IsKind k there bytes → IsKind l there bytes → k ≡ l
