-- What the next run does, by what was read.
use Rattle.std.proofs.Common.{◌≡◌, ◌≤◌, ℕ, List, refl, sym, subst}
use Rattle.kd_device.specs.Room.{RoomState}
use Rattle.kdcfile_double.specs.Choice.{AreOfFiles}
use Rattle.kdcfile_double.specs.ChoiceLaws.{chosen_tables}
use Rattle.kdcfile_double.specs.Opening.{AreEmpty, GoesOnFrom, KeepsTablesTwice, identity_twice, last_sequence}
use Rattle.kdcfile_double.specs.Twice.{Twice, sequence_of}
use Rattle.kdcs_types.specs.Tables.{TableRows}
use Rattle.laws_of_states.specs.Suits.{Suits}
use Rattle.device_acts.proofs.warm_start.Kept.{no_tables}
use Rattle.device_acts.specs.Opening.{IsRefused}
use Rattle.application_types.specs.Generation.{Generated}
use Rattle.call_parts.specs.Asking.{gen_errand}
use Rattle.carry_cli.specs.Kinds.{IsCounting, IsKind, IsStateOf, IsTold}
use Rattle.carry_cli.specs.KindsLaws.{foreign_filled}
use Rattle.carry_cli.specs.Seeing.{AreTexts, IsSeen, IsSound, NextIs, kind_of, said_of}
use Rattle.carry_cli.specs.declared.kinds.Counting.{Counting}
use Rattle.carry_cli.specs.declared.kinds.Kind.{Kind}
use Rattle.carry_cli.specs.declared.kinds.Next.{Next}
use Rattle.carry_cli.specs.declared.kinds.Said.{Said}
use Rattle.carry_cli.specs.declared.kinds.There.{There}
use Rattle.carry_cli.specs.declared.seeing.Seen.{Seen}
use Rattle.carry_cli.specs.declared.seeing.Seen.TheVariants as seen
use Rattle.carry_cli.specs.declared.text_kinds.Texts.{Texts}
use Rattle.carry_cli.specs.declared.text_kinds.Texts.TheVariants as texts
use Rattle.carry_cli.proofs.Seen.{empty_seen, kind_is}

-- a file that stands for nothing is refused
pub foreign_refused : (g : Generated) (fingerprint bytes : List ℕ) → IsSeen seen.Foreign bytes → IsRefused g fingerprint bytes
foreign_refused g fingerprint bytes h = (foreign_filled bytes h, no_tables g fingerprint bytes h.1)

-- two files of which one was seen with bytes are not both empty
pub not_empty : (f s : Seen) (a b : List ℕ) → IsSound f → IsSound s → IsSeen f a → IsSeen s b → ((f ≡ seen.Empty) × (s ≡ seen.Empty) → ⊥) → AreEmpty a b → ⊥
not_empty f s a b f_sound s_sound first second filled empty = filled (empty_seen f a f_sound first empty.0, empty_seen s b s_sound second empty.1)

-- an application goes on from the tables of two files that were opened
pub going : (g : Generated) (fingerprint : List ℕ) (s : Twice) (t : TableRows) (a b : List ℕ) → AreOfFiles s a b → KeepsTablesTwice (identity_twice g fingerprint) s t → Suits g t → sequence_of s ≤ last_sequence
    → (n : ℕ) × (u : TableRows) × (n ≤ last_sequence) × GoesOnFrom g fingerprint n u a b
going g fingerprint s t a b fits keeps suits most = (sequence_of s, t, most, (chosen_tables s a b fits (identity_twice g fingerprint) t keeps, suits))

-- what is told of the texts, and what the next run does by them
pub told_is : (t : Texts) (base : List ℕ) (room : RoomState) (a b : List ℕ) (does : Next) → AreTexts base room t → NextIs t a b does → IsTold base room a b (said_of t) does
told_is (texts.Single w) base room a b does read h = (gen_errand w, read, refl, h)
told_is (texts.Double w) base room a b does read h = (gen_errand w, read, refl, h)
told_is texts.Refused base room a b does read h = (read.0, read.1, read.2, h)
told_is texts.Unread base room a b does read h = (read, h)

-- what two files are, of which this was seen
pub is_state : (there : There) (t : Texts) (f s : Seen) → IsSound f → IsSound s → (p q : Kind) (counting : Counting) (does : Next) (says : Said) → p ≡ kind_of there.first f → q ≡ kind_of there.second s → says ≡ said_of t
    → ((a b : List ℕ) → IsSeen f a → IsSeen s b → IsCounting counting a b) → ((a b : List ℕ) → IsSeen f a → IsSeen s b → NextIs t a b does) → (a b : List ℕ) → IsSeen f a → IsSeen s b → (base : List ℕ) (room : RoomState) → AreTexts base room t
    → IsStateOf (record { first = p; second = q; counting = counting; said = says; next = does }) base room there a b
is_state there t f s f_sound s_sound p q counting does says p_is q_is says_is counts goes a b first second base room read = record {
  first_is = subst (λ (k : Kind). IsKind k there.first a) (sym p_is) (kind_is there.first f a f_sound first);
  second_is = subst (λ (k : Kind). IsKind k there.second b) (sym q_is) (kind_is there.second s b s_sound second);
  counts = counts a b first second;
  told = subst (λ (x : Said). IsTold base room a b x does) (sym says_is) (told_is t base room a b does read (goes a b first second));
}
