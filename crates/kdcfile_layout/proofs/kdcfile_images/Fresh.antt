-- A fresh file: its bytes in parts, and what a stop within its making leaves.
use Rattle.std.proofs.Common.{◌≡◌, inl, inr, ⊎_elim, ℕ, suc, ◌+◌, ◌-◌, ◌*◌, ◌<◌, ◌≤◌, ◌^◌, min, false, List, [], ◌∷◌, ◌++◌, length, take, replicate, Bor, refl, sym, ap, subst, ◌∙◌, arith}
use Rattle.std.proofs.Common.{append_assoc, length-append}
use Rattle.std.proofs.lemmas.List.{append-nil, take-replicate}
use Rattle.kd_device.specs.Device.{State, LeavesOnly, Only, Quiet}
use Rattle.kd_device.specs.TimeLaws.{leaves_weaker, leaves_then, quiet_leaves}
use Rattle.kd_records.specs.Charge.{IsBlockSize}
use Rattle.kd_records.specs.Identity.{Identity, IsIdentity}
use Rattle.kdcfile_layout.specs.Layout.{Stands, directory_pages, fresh, zeros}
use Rattle.kdcfile_layout.specs.Gates.{ShutOr}
use Rattle.kdcfile_layout.specs.Fresh.{fresh_file, fresh_layout, fresh_length, Made}
use Rattle.kdcfile_layout.specs.PagesLaws.{length_zeros}
use Rattle.kdcfile_layout.specs.Series.{together}
use Rattle.kdcfile_layout.specs.SeriesLaws.{together_more}
use Rattle.kdcfile_layout.specs.CrashLaws.{per_root}
use Rattle.kdcfile_layout.specs.declared.kdcfile_images.image.Root.{Root}
use Rattle.kdcfile_layout.specs.Opened.{IsOpened}
use Rattle.kdcfile_layout.specs.Commit.{spelled_root}
use Rattle.kdcfile_layout.specs.Fresh.{numbers, fresh_root}
use Rattle.kdcfile_layout.proofs.Zeros.{zeros_then}
use Rattle.kdcfile_layout.proofs.kdcfile_images.Committing.{length_spelled_root}
use Rattle.kdcfile_layout.specs.FreshLaws.{length_numbers, shut_no_image, fresh_stands, length_fresh}

pub numbers_none : [] ≡ numbers 0
unfolding numbers
numbers_none = refl

pub numbers_more : (xs : List ℕ) (n : ℕ) → xs ≡ numbers n → xs ++ n ∷ [] ≡ numbers (n + 1)
unfolding numbers
numbers_more xs n is = ap (λ (l : List ℕ). l ++ n ∷ []) is ∙ ap (λ (m : ℕ). numbers m) (next n)
  where
    next : (n : ℕ) → suc n ≡ n + 1
    next n = omega arith

-- ---- the bytes in parts

-- a buffer of zero bytes
pub zeros_in_all : (buffer : List ℕ) (n : ℕ) → buffer ≡ zeros n → buffer ≡ zeros (length buffer)
zeros_in_all buffer n is = is ∙ ap (λ (m : ℕ). zeros m) (sym (ap (λ (l : List ℕ). length l) is ∙ length_zeros n))

front_zeros : (m n : ℕ) → m ≤ n → take m (zeros n) ≡ zeros m
unfolding zeros
front_zeros m n le = take-replicate m n 0 le

no_zeros : (xs : List ℕ) (n : ℕ) → xs ++ zeros (n - n) ≡ xs
unfolding zeros
no_zeros xs n = let none : n - n ≡ 0 = omega arith in ap (λ (m : ℕ). xs ++ replicate m 0) none ∙ append-nil xs

-- the first part alone
pub parts_begin : (part : Bor (List ℕ)) (none parts : List (Bor (List ℕ))) (count : ℕ) → none ≡ [] → parts ≡ none ++ part ∷ [] → together parts ≡ part.now ++ zeros (count - count)
parts_begin part none parts count empty is = ap (λ (l : List (Bor (List ℕ))). together l) (is ∙ ap (λ (l : List (Bor (List ℕ))). l ++ part ∷ []) empty) ∙ append-nil part.now ∙ sym (no_zeros part.now count)

-- one more part of zero bytes
pub parts_go_on : (parts more : List (Bor (List ℕ))) (part : Bor (List ℕ)) (front buffer : List ℕ) (count left n : ℕ) → together parts ≡ front ++ zeros (count - left) → left ≤ count → buffer ≡ zeros (length buffer)
    → n ≡ min left (length buffer) → part.now ≡ take n buffer → more ≡ parts ++ part ∷ [] → together more ≡ front ++ zeros (count - (left - length part.now))
parts_go_on parts more part front buffer count left n so_far le zero n_is taken is =
    let part_is : part.now ≡ zeros n = taken ∙ ap (λ (l : List ℕ). take n l) zero ∙ front_zeros n (length buffer) (omega arith) in
    let long : length part.now ≡ n = ap (λ (l : List ℕ). length l) part_is ∙ length_zeros n in
    let count_on : count - left + n ≡ count - (left - length part.now) = omega arith in
    ap (λ (l : List (Bor (List ℕ))). together l) is
    ∙ together_more parts part
    ∙ ap (λ (l : List ℕ). l ++ part.now) so_far
    ∙ append_assoc front (zeros (count - left)) part.now
    ∙ ap (λ (l : List ℕ). front ++ (zeros (count - left) ++ l)) part_is
    ∙ ap (λ (l : List ℕ). front ++ l) (zeros_then (count - left) n)
    ∙ ap (λ (m : ℕ). front ++ zeros m) count_on

pub length_parts : (parts : List (Bor (List ℕ))) (front : List ℕ) (count : ℕ) → together parts ≡ front ++ zeros count → length (together parts) ≡ length front + count
length_parts parts front count is = omega (arith, ap (λ (l : List ℕ). length l) is, length-append front (zeros count), length_zeros count)

-- ---- what a stop leaves

-- room is taken while nothing is there, to r, and then all is written, to b
pub from_empty : (rest : List ℕ) (a r b : State) (la lr lb : ℕ → List ℕ → List ℕ → Type 0) → a.holds ≡ [] → Only a.holds a la → Quiet a r la lr → LeavesOnly r b lr lb (ShutOr rest r.sent) → LeavesOnly a b la lb (ShutOr rest a.sent)
from_empty rest a r b la lr lb empty only quiet to_b =
    leaves_then a r la lr b lb (ShutOr rest a.sent)
    (leaves_weaker a r la lr (λ c out. (out ≡ a.sent) × (c ≡ a.holds)) (ShutOr rest a.sent) (quiet_leaves a r la lr (λ c. c ≡ a.holds) only quiet)
    (λ c out h. (h.0, inl (inl (omega (arith, ap (λ (l : List ℕ). length l) (h.1 ∙ empty)))))))
    (leaves_weaker r b lr lb (ShutOr rest r.sent) (ShutOr rest a.sent) to_b (λ c out h. (h.0 ∙ quiet.sent, h.1)))

-- the whole of a making
module _ (i : Identity) (is : IsIdentity i) (rest : List ℕ) (whole : 75 ∷ rest ≡ fresh_file i) where
  pub made_stands : (h : List ℕ) → h ≡ 75 ∷ rest → Stands i false fresh (fresh_layout i) h
  made_stands h e = subst (λ (l : List ℕ). Stands i false fresh (fresh_layout i) l) (sym (e ∙ whole)) (fresh_stands i is)

  pub in_making : (a b : State) (la lb : ℕ → List ℕ → List ℕ → Type 0) → LeavesOnly a b la lb (ShutOr rest a.sent) → LeavesOnly a b la lb (Made i a.sent)
  in_making a b la lb leaves =
      leaves_weaker a b la lb (ShutOr rest a.sent) (Made i a.sent) leaves
      (λ c out h. (h.0, ⊎_elim (λ shut. inl (shut_no_image c shut)) (λ now. inr (false, fresh_layout i, made_stands c now)) h.1))

-- how many bytes are written, of which the last ones are zero
module _ (i : Identity) (is : IsIdentity i) (front bytes : List ℕ) (pages : ℕ) (same : bytes ≡ front) (whole : 75 ∷ front ++ zeros pages ≡ fresh_file i) where
  pub made_length : length bytes + pages + 1 ≡ fresh_length i
  made_length =
      omega (arith, ap (λ (l : List ℕ). length l) same, ap (λ (l : List ℕ). length l) whole, length_append_zeros, length_fresh i is)
    where
      length_append_zeros : length (front ++ zeros pages) ≡ length front + pages
      length_append_zeros = omega (arith, length-append front (zeros pages), length_zeros pages)

  pub made_short : length bytes + pages < 2 ^ 62
  made_short = omega (arith, made_length, short i.blksize (directory_pages i.blksize i.pages) is.blksize (per_root i.blksize i.pages is.blksize is.most))
    where
      short : (size d : ℕ) → IsBlockSize size → d ≤ 469 → d * size < 2 ^ 32
      short size d known few = elim known [ inl e ↦ rw e (omega arith) | inr h ↦ elim h [ inl e ↦ rw e (omega arith) | inr e ↦ rw e (omega arith) ] ]

-- the root of a fresh file
module _ (i : Identity) (is : IsIdentity i) (r : Root) (r_is : r ≡ fresh_root i) where
  directory_is : length r.directory ≡ directory_pages i.blksize i.pages
  directory_is = ap (λ (s : Root). length s.directory) r_is ∙ length_numbers (directory_pages i.blksize i.pages)

  pub few_pages : length r.directory < 2 ^ 32
  few_pages = omega (arith, directory_is, per_root i.blksize i.pages is.blksize is.most)

  pub root_fits : (bytes : List ℕ) → bytes ≡ spelled_root r → length bytes ≤ 8192
  root_fits bytes bytes_are =
      omega (
        arith,
        ap (λ (l : List ℕ). length l) bytes_are,
        length_spelled_root r (ap (λ (s : Root). length s.fingerprint) r_is ∙ is.fingerprint),
        directory_is,
        per_root i.blksize i.pages is.blksize is.most,
      )

  pub fresh_opened : IsOpened (record { blksize = i.blksize; root = r; second = false })
  fresh_opened =
      subst (λ (s : Root). IsOpened (record { blksize = i.blksize; root = s; second = false })) (sym r_is)
      (record { identity = is; directory = length_numbers (directory_pages i.blksize i.pages) })
