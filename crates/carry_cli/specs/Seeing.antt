-- What was read of a file, and what was read of the texts.
use Rattle.std.specs.Prelude.{◌≡◌, ⊤, ℕ, Bool, true, false, IsTrue, IsSome, List, [], Option, Some, None, Ok, Err}
use Rattle.kd_device.specs.Room.{RoomState}
use Rattle.kdcfile_store.specs.Paged.{HasFile}
use Rattle.kdcfile_copies.specs.Copies.{HasSequence, bare}
use Rattle.kdcfile_copies.specs.Finding.{IsLoaded}
use Rattle.kdcfile_copies.specs.declared.answer.Found.{Found}
use Rattle.kdcfile_copies.specs.declared.answer.Found.TheVariants as found
use Rattle.kdcfile_copies.specs.declared.answer.LoadedCopy.{LoadedCopy}
use Rattle.refusals.specs.declared.error.Refusal.{Refusal}
use Rattle.call_parts.specs.Asking.{AreThere, Reading, ReadsFor, ReadsForTwo, gen_errand}
use Rattle.call_parts.specs.declared.words.Word.TheVariants.{Gen}
use Rattle.carry_cli.specs.Kinds.{IsForeign, IsUnfinished, NextOfOne, NextOfTwo, made_once, made_twice}
use Rattle.carry_cli.specs.declared.kinds.Kind.{Kind}
use Rattle.carry_cli.specs.declared.kinds.Kind.TheVariants as kind
use Rattle.carry_cli.specs.declared.kinds.Next.{Next}
use Rattle.carry_cli.specs.declared.kinds.Next.TheVariants as next
use Rattle.carry_cli.specs.declared.kinds.Said.{Said}
use Rattle.carry_cli.specs.declared.kinds.Said.TheVariants as said
use Rattle.carry_cli.specs.declared.seeing.Seen.{Seen}
use Rattle.carry_cli.specs.declared.seeing.Seen.TheVariants as seen
use Rattle.carry_cli.specs.declared.text_kinds.Texts.{Texts}
use Rattle.carry_cli.specs.declared.text_kinds.Texts.TheVariants as texts

-- what was read of a file is what its bytes are
abbrev pub IsSeen : Seen → List ℕ → Type 0
IsSeen seen.Empty bytes = bytes ≡ []
IsSeen seen.Shut bytes = IsUnfinished bytes
IsSeen seen.Foreign bytes = IsForeign bytes
IsSeen (seen.Single store) bytes = (bytes ≡ [] → ⊥) × HasFile store bytes × ((n : ℕ) → HasSequence n store.content → ⊥)
IsSeen (seen.Copy c) bytes = HasFile c.store bytes

-- what is known of it on any device
abbrev pub IsSound : Seen → Type 0
IsSound seen.Empty = ⊤
IsSound seen.Shut = ⊤
IsSound seen.Foreign = ⊤
IsSound (seen.Single store) = ⊤
IsSound (seen.Copy c) = IsLoaded c

-- the copy that it is
abbrev pub copy_of : Seen → Option LoadedCopy
copy_of seen.Empty = None
copy_of seen.Shut = None
copy_of seen.Foreign = None
copy_of (seen.Single store) = None
copy_of (seen.Copy c) = Some c

abbrev pub found_of : Seen → Found
found_of seen.Empty = found.Empty
found_of seen.Shut = found.NoCopy
found_of seen.Foreign = found.NoCopy
found_of (seen.Single store) = found.NoCopy
found_of (seen.Copy c) = found.Copy c

abbrev pub empty_kind : (there : Bool) → Kind
empty_kind true = kind.Empty
empty_kind false = kind.Missing

-- what is told of it
abbrev pub kind_of : (there : Bool) → Seen → Kind
kind_of there seen.Empty = empty_kind there
kind_of there seen.Shut = kind.Shut
kind_of there seen.Foreign = kind.NoKdcfile
kind_of there (seen.Single store) = kind.Single (made_once store.identity store.content)
kind_of there (seen.Copy c) = kind.Copy c.sequence (made_twice c.store.identity (bare c.store.content))

-- the texts of a BASE as they were read
abbrev pub AreTexts : (base : List ℕ) → RoomState → Texts → Type 0
AreTexts base room (texts.Single w) = ReadsFor Gen base room (Ok (gen_errand w))
AreTexts base room (texts.Double w) = ReadsForTwo Gen base room (Ok (gen_errand w))
AreTexts base room texts.Refused = (why : Refusal) × ReadsFor Gen base room (Err why) × ((r : Reading) → ReadsForTwo Gen base room r → ⊥)
AreTexts base room texts.Unread = IsTrue room.sure → (d u s : List ℕ) → AreThere Gen base room d u s → ⊥

-- an application of two copies says so
abbrev pub AreDouble : Texts → Type 0
AreDouble (texts.Single w) = ⊤
AreDouble (texts.Double w) = IsSome w.application.generation.double
AreDouble texts.Refused = ⊤
AreDouble texts.Unread = ⊤

-- what is told of them
abbrev pub said_of : Texts → Said
said_of (texts.Single w) = said.Single w.fingerprint
said_of (texts.Double w) = said.Double w.fingerprint
said_of texts.Refused = said.Refused
said_of texts.Unread = said.Unread

-- what the next run would do by these texts
abbrev pub NextIs : Texts → (a b : List ℕ) → Next → Type 0
NextIs (texts.Single w) a b does = NextOfOne (gen_errand w) a does
NextIs (texts.Double w) a b does = NextOfTwo (gen_errand w) a b does
NextIs texts.Refused a b does = does ≡ next.Texts
NextIs texts.Unread a b does = does ≡ next.Texts
