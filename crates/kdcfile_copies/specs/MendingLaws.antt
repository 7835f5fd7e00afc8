-- Laws: what files stand for that a mending leaves.
use Rattle.std.proofs.Common.{◌≡◌, ⊎_elim, ℕ, ◌+◌, ◌%◌, ◌≤◌, List, [], ◌∷◌, length, get_or, ap, sym, ◌∙◌, arith, length-take}
use Rattle.std.specs.Prelude.{Bool}
use Rattle.std.proofs.lemmas.List.{get_or-take, drop_all, take_all}
use Rattle.kd_device.specs.Device.{Torn}
use Rattle.kd_records.specs.declared.content.Content.{Content}
use Rattle.kd_records.specs.Identity.{Identity}
use Rattle.kdcfile_layout.specs.Layout.{StandsAt, Layout, Part, PartStands, IsImage, Stands, StandsFor, IsNoImage, root_place, page_place, root, head, directory_text}
use Rattle.kdcfile_layout.specs.PartsLaws.{stands_below}
use Rattle.kdcfile_layout.specs.CrashLaws.{long, root_inside, byte_stands, byte_of}
use Rattle.kdcfile_layout.specs.Gates.{IsShut}
use Rattle.kdcfile_copies.specs.Mending.{BeginsWith}

-- a file whose gate is not open, or with nothing after it, stands for no image
abbrev pub ShutMeansNothing : Type 0
ShutMeansNothing = (c : List ℕ) → IsShut c → IsNoImage c

-- a file that begins with the bytes of another one stands for what that one stands for
abbrev pub CopiesMeanTheSame : Type 0
CopiesMeanTheSame = (i : Identity) (second : Bool) (x : Content) (l : Layout) (s c : List ℕ) → Stands i second x l s → BeginsWith s c → Stands i second x l c

pub gate_open : (i : Identity) (second : Bool) (x : Content) (l : Layout) (c : List ℕ) → IsImage i second x l c → get_or c 0 0 ≡ 75
gate_open i second x l c image = sym (get_or-take 13 c 0 0 (omega arith)) ∙ ap (λ (t : List ℕ). get_or t 0 0) image.headed

pub shut_means_nothing : ShutMeansNothing
shut_means_nothing c shut i x stands =
    let image = stands.2.image in
    ⊎_elim (λ short. omega (arith, short, long i stands.0 x stands.1 c image)) (λ closed. closed (gate_open i stands.0 x stands.1 c image)) shut

-- a copy, as a write past the end that is torn
as_torn : (s c : List ℕ) → BeginsWith s c → Torn (length s) (length s + length c) s c
as_torn s c copy = record {
  before = copy ∙ sym (take_all (length s) s (omega arith));
  after = drop_all (length s + length c) c (omega arith) ∙ sym (drop_all (length s + length c) s (omega arith));
  no_shorter = omega (arith, ap (λ (t : List ℕ). length t) copy, length-take (length s) c);
  no_longer = omega arith;
}

-- what is inside the file is at the same place of a copy
pub copied_part : (s c : List ℕ) → BeginsWith s c → (q : ℕ) (part : List ℕ) → StandsAt q part s → q + length part ≤ length s → StandsAt q part c
copied_part s c copy q part stands inside = stands_below (length s) (length s + length c) s c (as_torn s c copy) q part stands inside

pub image_copied : (i : Identity) (second : Bool) (x : Content) (l : Layout) (s c : List ℕ) → IsImage i second x l s → BeginsWith s c → IsImage i second x l c
image_copied i second x l s c image copy = record {
  identity = image.identity;
  content = image.content;
  layout = image.layout;
  headed = copied_part s c copy 0 (head i) image.headed (omega (arith, long i second x l s image));
  root = copied_part s c copy (root_place second) (root i x l.directory) image.root (root_inside i second x l s image);
  directory = λ k p at. part (p, directory_text i.blksize k l.slots) (image.directory k p at);
  chains = λ t b v at found n e lt. part _ (image.chains t b v at found n e lt);
}
  where
    part : (q : Part) → PartStands i.blksize s q → PartStands i.blksize c q
    part q stands = record {
      stands = copied_part s c copy (page_place i.blksize q.0) q.1 stands.stands (omega (arith, stands.fits, stands.inside));
      fits = stands.fits;
      inside = omega (arith, stands.inside, (as_torn s c copy).no_shorter);
    }

pub copies_mean_the_same : CopiesMeanTheSame
copies_mean_the_same i second x l s c stands copy =
    let inside : 4097 ≤ length s = omega (arith, long i second x l s stands.image) in
    record {
      selected = ap (λ (n : ℕ). n % 2) (byte_of c (get_or s 4096 0) (copied_part s c copy 4096 (get_or s 4096 0 ∷ []) (byte_stands s inside) inside)) ∙ stands.selected;
      image = image_copied i second x l s c stands.image copy;
    }

pub copy_stands_for : (i : Identity) (x : Content) (s c : List ℕ) → StandsFor i x s → BeginsWith s c → StandsFor i x c
copy_stands_for i x s c stands copy = (stands.0, stands.1, copies_mean_the_same i stands.0 x stands.1 s c stands.2 copy)
