-- What a stop within the making of a file leaves.
use Rattle.std.proofs.Common.{◌≡◌, inl, inr, ⊎_elim, ℕ, ◌+◌, ◌*◌, ◌%◌, Bool, false, List, [], ◌∷◌, ◌++◌, length, take, drop, get_or, refl, sym, ap, subst, ◌∙◌, arith, length-append, append_assoc}
use Rattle.std.proofs.lemmas.Grind.{common_steps}
use Rattle.std.proofs.lemmas.List.{take_at, drop_at, get_or-take, get_or-append_right, get_or_append_left, append-nil, length-take}
use Rattle.kd_device.specs.Device.{State, LeavesOnly, Only, Quiet}
use Rattle.kd_device.specs.TimeLaws.{leaves_weaker, leaves_then, quiet_leaves}
use Rattle.kd_records.specs.declared.content.Content.{Content}
use Rattle.kd_records.specs.Identity.{Identity, IsIdentity}
use Rattle.kd_records.specs.Contents.{IsContent}
use Rattle.kdcfile_layout.specs.FreshLaws.{zeros_at}
use Rattle.device_tests.specs.File.{Stands, IsNoImage, spelled, root, head, mark, image_size}
use Rattle.kdcfile_layout.specs.Layout.{zeros, fresh}
use Rattle.kdcfile_layout.specs.PagesLaws.{length_zeros}
use Rattle.kdcfile_layout.specs.Gates.{IsShut, ShutOr}
use Rattle.device_tests.specs.Fresh.{fresh_rest, Made}

first_byte : (i : Identity) (x : Content) (second : Bool) (c : List ℕ) → Stands i second x c → get_or c 0 0 ≡ 75
first_byte i x second c stands = sym (get_or-take 17 c 0 0 (omega arith)) ∙ ap (λ (l : List ℕ). get_or l 0 0) stands.headed

pub shut_no_image : (c : List ℕ) → IsShut c → IsNoImage c
shut_no_image c (inl short) i x stands = absurd (omega (arith, ap (λ (l : List ℕ). length l) stands.1.headed, length-take 17 c))
shut_no_image c (inr shut) i x stands = shut (first_byte i x stands.0 c stands.1)

pub length_root : (i : Identity) → IsIdentity i → length (root i fresh) ≡ 64
length_root i is =
    let sum : length (root i fresh) ≡ length i.fingerprint + 32 = grind (arith, common_steps) in
    omega (arith, sum, is.fingerprint)

module _ (i : Identity) (is : IsIdentity i) (gap left : ℕ) (gap_is : gap ≡ 8175) where
  split : 75 ∷ (mark i ++ zeros gap ++ (root i fresh ++ zeros left) ++ (root i fresh ++ zeros left)) ≡ (head i ++ zeros gap) ++ ((root i fresh ++ zeros left) ++ (root i fresh ++ zeros left))
  split = append_assoc (head i ++ zeros gap) (root i fresh ++ zeros left) (root i fresh ++ zeros left)

  front : length (head i ++ zeros gap) ≡ 8192
  front = omega (arith, length-append (head i) (zeros gap), length_zeros gap)

  plain : spelled i fresh ≡ root i fresh
  plain = append-nil (root i fresh)

  content : IsContent fresh
  content = record { clock = omega arith; next_job = omega arith; records = λ k d lt. absurd (omega (arith, lt)); ascending = refl; few = omega arith }

  pub fresh_stands : Stands i false fresh (75 ∷ (mark i ++ zeros gap ++ (root i fresh ++ zeros left) ++ (root i fresh ++ zeros left)))
  fresh_stands = record {
    identity = is;
    content = content;
    headed = ap (λ (l : List ℕ). take 17 l) (split ∙ append_assoc (head i) (zeros gap) (root i fresh ++ zeros left ++ (root i fresh ++ zeros left))) ∙ take_at (head i) (zeros gap ++ (root i fresh ++ zeros left ++ (root i fresh ++ zeros left))) 17 refl;
    selected =
        ap (λ (n : ℕ). n % 2)
        (ap (λ (l : List ℕ). get_or l 4096 0) (split ∙ append_assoc (head i) (zeros gap) (root i fresh ++ zeros left ++ (root i fresh ++ zeros left)))
        ∙ get_or-append_right (head i) (zeros gap ++ (root i fresh ++ zeros left ++ (root i fresh ++ zeros left))) 17 4096 0 refl (omega arith)
        ∙ get_or_append_left (zeros gap) (root i fresh ++ zeros left ++ (root i fresh ++ zeros left)) 0 4079 (omega (arith, length_zeros gap))
        ∙ zeros_at gap 4079 (omega arith));
    image =
        rw plain
        (ap (λ (l : List ℕ). take (length (root i fresh)) l) (ap (λ (l : List ℕ). drop 8192 l) split ∙ drop_at (head i ++ zeros gap) (root i fresh ++ zeros left ++ (root i fresh ++ zeros left)) 8192 front ∙ append_assoc (root i fresh) (zeros left) (root i fresh ++ zeros left)) ∙ take_at (root i fresh) (zeros left ++ (root i fresh ++ zeros left)) (length (root i fresh)) refl);
    inside = omega (arith, ap (λ (l : List ℕ). length l) plain, length_root i is);
  }

  pub length_fresh : length (75 ∷ (mark i ++ zeros gap ++ (root i fresh ++ zeros left) ++ (root i fresh ++ zeros left))) ≡ 8320 + 2 * left
  length_fresh =
      omega (
        arith,
        ap (λ (l : List ℕ). length l) split,
        length-append (head i ++ zeros gap) ((root i fresh ++ zeros left) ++ (root i fresh ++ zeros left)),
        front,
        length-append (root i fresh ++ zeros left) (root i fresh ++ zeros left),
        length-append (root i fresh) (zeros left),
        length_zeros left,
        length_root i is,
      )

-- the whole of a making: reserve to r, all writes to b
module _ (i : Identity) (is : IsIdentity i) (rest : List ℕ) (rest_is : rest ≡ fresh_rest i) where
  pub made_stands : Stands i false fresh (75 ∷ rest)
  made_stands = subst (λ (l : List ℕ). Stands i false fresh (75 ∷ l)) (sym rest_is) (fresh_stands i is 8175 (8128 + i.pages * i.blksize) refl)

  pub made_length : length (75 ∷ rest) ≡ 8192 + 2 * image_size i
  made_length = ap (λ (l : List ℕ). length (75 ∷ l)) rest_is ∙ length_fresh i is 8175 (8128 + i.pages * i.blksize) refl ∙ omega arith

  pub in_making : (a r b : State) (la lr lb : ℕ → List ℕ → List ℕ → Type 0) → a.holds ≡ [] → Only a.holds a la → Quiet a r la lr → LeavesOnly r b lr lb (ShutOr rest r.sent) → LeavesOnly a b la lb (Made i a.sent)
  in_making a r b la lr lb empty only quiet to_b =
      leaves_then a r la lr b lb (Made i a.sent)
      (leaves_weaker a r la lr (λ c out. (out ≡ a.sent) × (c ≡ a.holds)) (Made i a.sent) (quiet_leaves a r la lr (λ c. c ≡ a.holds) only quiet)
      (λ c out h. (h.0, inl (shut_no_image c (inl (omega (arith, ap (λ (l : List ℕ). length l) (h.1 ∙ empty))))))))
      (leaves_weaker r b lr lb (ShutOr rest r.sent) (Made i a.sent) to_b
      (λ c out h. (h.0 ∙ quiet.sent, ⊎_elim (λ shut. inl (shut_no_image c shut)) (λ now. inr (false, subst (λ (l : List ℕ). Stands i false fresh l) (sym now) made_stands)) h.1)))
