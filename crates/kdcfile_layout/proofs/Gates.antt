-- What a stop within the making of a file leaves.
use Rattle.std.proofs.Common.{◌≡◌, ◌⊎◌, inl, inr, ⊎_elim, ℕ, ◌+◌, min, List, [], ◌∷◌, ◌++◌, length, get_or, sym, ap, subst, ◌∙◌, arith}
use Rattle.std.proofs.lemmas.Bool.{cases_eq}
use Rattle.std.proofs.lemmas.List.{get_or-take, append-nil, drop_more, drop_all}
use Rattle.kd_device.specs.Device.{State, LeavesOnly, Torn, written}
use Rattle.kd_device.specs.TimeLaws.{leaves_weaker, leaves_then}
use Rattle.kdcfile_layout.specs.Synced.{WritesOnly, IsSynced}
use Rattle.kdcfile_layout.specs.Gates.{IsShut, ShutOr}

second_written : (rest : List ℕ) → written (0 ∷ []) 1 rest ≡ 0 ∷ rest
second_written rest = ap (λ (l : List ℕ). 0 ∷ (rest ++ l)) (drop_all (1 + length rest) (0 ∷ []) (omega arith)) ∙ ap (λ (l : List ℕ). 0 ∷ l) (append-nil rest)

-- the gate alone is torn
gate_torn : (rest c : List ℕ) → Torn 0 1 (0 ∷ rest) c → IsShut c ⊎ (c ≡ 75 ∷ rest)
gate_torn rest c torn = ⊎_elim (λ e. inr (opened e)) (λ ne. inl (inr ne)) (cases_eq (get_or c 0 0) 75)
  where
    opened : get_or c 0 0 ≡ 75 → c ≡ 75 ∷ rest
    opened e = drop_more c 0 0 (omega (arith, torn.no_shorter)) ∙ ap (λ (l : List ℕ). get_or c 0 0 ∷ l) torn.after ∙ ap (λ (b : ℕ). b ∷ rest) e

-- the closed gate to b, the rest to d, the open gate to e
module _ (rest : List ℕ) (a b d e : State) (la lb ld le : ℕ → List ℕ → List ℕ → Type 0) (empty : a.holds ≡ []) where
  pub in_first : WritesOnly 0 1 1 a b la lb → LeavesOnly a b la lb (ShutOr rest a.sent)
  in_first w =
      leaves_weaker a b la lb (λ c out. (out ≡ a.sent) × Torn (min 0 (length a.holds)) 1 a.holds c) (ShutOr rest a.sent) w.leaves
      (λ c out h. (h.0, inl (inl (omega (arith, h.1.no_longer, ap (λ (l : List ℕ). length l) empty)))))

  module _ (first : WritesOnly 0 1 1 a b la lb) (closed : IsSynced 1 (written a.holds 0 (0 ∷ [])) a b lb) where
    b_is : b.holds ≡ 0 ∷ []
    b_is = closed.holds ∙ ap (λ (l : List ℕ). written l 0 (0 ∷ [])) empty

    still_closed : (c : List ℕ) → Torn (min 1 (length b.holds)) (1 + length rest) b.holds c → IsShut c
    still_closed c torn =
        let at_one : Torn 1 (1 + length rest) (0 ∷ []) c = subst (λ (l : List ℕ). Torn (min 1 (length l)) (1 + length rest) l c) b_is torn in
        let zero_first : get_or c 0 0 ≡ 0 = sym (get_or-take 1 c 0 0 (omega arith)) ∙ ap (λ (l : List ℕ). get_or l 0 0) at_one.before in
        inr (λ gate. absurd (omega arith))

    pub in_second : WritesOnly 1 (1 + length rest) (length rest) b d lb ld → LeavesOnly a d la ld (ShutOr rest a.sent)
    in_second w =
        leaves_then a b la lb d ld (ShutOr rest a.sent) (in_first first)
        (leaves_weaker b d lb ld (λ c out. (out ≡ b.sent) × Torn (min 1 (length b.holds)) (1 + length rest) b.holds c) (ShutOr rest a.sent) w.leaves
        (λ c out h. (h.0 ∙ first.sent, inl (still_closed c h.1))))

    module _ (second : WritesOnly 1 (1 + length rest) (length rest) b d lb ld) (whole : IsSynced (length rest) (written b.holds 1 rest) b d ld) where
      d_is : d.holds ≡ 0 ∷ rest
      d_is = whole.holds ∙ ap (λ (l : List ℕ). written l 1 rest) b_is ∙ second_written rest

      pub in_third : WritesOnly 0 1 1 d e ld le → LeavesOnly a e la le (ShutOr rest a.sent)
      in_third w =
          leaves_then a d la ld e le (ShutOr rest a.sent) (in_second second)
          (leaves_weaker d e ld le (λ c out. (out ≡ d.sent) × Torn (min 0 (length d.holds)) 1 d.holds c) (ShutOr rest a.sent) w.leaves
          (λ c out h. (h.0 ∙ second.sent ∙ first.sent, gate_torn rest c (subst (λ (l : List ℕ). Torn 0 1 l c) d_is (subst (λ (n : ℕ). Torn n 1 d.holds c) (omega arith) h.1)))))

      pub opened : IsSynced 1 (written d.holds 0 (75 ∷ [])) d e le → IsSynced (length rest + 2) (75 ∷ rest) a e le
      opened last =
          let same : written d.holds 0 (75 ∷ []) ≡ 75 ∷ rest = ap (λ (l : List ℕ). written l 0 (75 ∷ [])) d_is in
          record { holds = last.holds ∙ same; put = omega (arith, last.put, whole.put, closed.put); at_rest = λ c left. last.at_rest c left ∙ same }
