-- Parts: what is read is written so, and what is written so is read.
use Rattle.std.proofs.Common.{◌≡◌, ℕ, zero, suc, ◌+◌, ◌-◌, ◌<◌, ◌≤◌, false, List, [], ◌∷◌, ◌++◌, length, take, Option, Some, None, refl, sym, ap, ◌∙◌, subst, arith, length-append}
use Rattle.std.specs.Prelude.{IsTrue}
use Rattle.std.specs.List.{list_all, prefix_len}
use Rattle.std.proofs.lemmas.List.{take-append-drop, append-nil}
use Rattle.kd_base.specs.Fronts.{begins}
use Rattle.kd_base.specs.FrontsLaws.{front_passes, stops}
use Rattle.kd_base.specs.ToolsLaws.{map_some, some_is, and_some, onto_then}
use Rattle.kd_base.specs.Tools.{onto}
use Rattle.texts.specs.Blanks.{is_blank, from_first}
use Rattle.texts.specs.BlanksLaws.{from_gap, shorter}
use Rattle.texts.specs.Parts.{AreParts, part_step, parts_within, parts_of}

-- ---- one part after another

module _ {P : Type 0} (part_at : List ℕ → Option (P × List ℕ)) where
  one_less : (front : List P) (n i : ℕ) (rest : List ℕ) (whole : Option (List P)) → i < n → onto front (parts_within part_at (n - i) rest) ≡ whole
      → onto front (parts_within part_at (suc (n - (i + 1))) rest) ≡ whole
  one_less front n i rest whole lt so_far =
      let k : n - i ≡ suc (n - (i + 1)) = omega arith in
      ap (λ (m : ℕ). onto front (parts_within part_at m rest)) (sym k) ∙ so_far

  none_left : (n : ℕ) (rest : List ℕ) → length rest ≡ 0 → parts_within part_at n rest ≡ Some []
  none_left zero rest e = refl
  none_left (suc n) [] e = refl
  none_left (suc n) (b ∷ rest) e = absurd (omega arith)

  pub parts_end : (front : List P) (n : ℕ) (rest : List ℕ) (whole : Option (List P)) → length rest ≡ 0 → onto front (parts_within part_at n rest) ≡ whole → Some front ≡ whole
  parts_end front n rest whole nothing so_far =
      ap (λ (ps : List P). Some ps) (sym (append-nil front)) ∙ ap (onto front) (sym (none_left n rest nothing)) ∙ so_far

  pub parts_fail : (front : List P) (n i : ℕ) (rest : List ℕ) (whole : Option (List P)) → i < n → 0 < length rest → part_step part_at rest ≡ None → onto front (parts_within part_at (n - i) rest) ≡ whole → None ≡ whole
  parts_fail front n i [] whole lt some failed so_far = absurd (omega arith)
  parts_fail front n i (b ∷ rest) whole lt some failed so_far = rw failed at (one_less front n i (b ∷ rest) whole lt so_far)

  pub parts_more : (front : List P) (n i : ℕ) (rest : List ℕ) (part : P) (after : List ℕ) (whole : Option (List P)) → i < n → 0 < length rest → part_step part_at rest ≡ Some (part, after)
      → onto front (parts_within part_at (n - i) rest) ≡ whole → onto (front ++ part ∷ []) (parts_within part_at (n - (i + 1)) after) ≡ whole
  parts_more front n i [] part after whole lt some found so_far = absurd (omega arith)
  parts_more front n i (b ∷ rest) part after whole lt some found so_far =
      onto_then front (part ∷ []) (parts_within part_at (n - (i + 1)) after) ∙ (rw found at (one_less front n i (b ∷ rest) whole lt so_far))

-- ---- all of them

-- the bytes are this part and what follows it
pub record Taken {P : Type 0} (written : P → List ℕ) (IsPart : P → Type 0) (Ends : P → List ℕ → Type 0) (bytes : List ℕ) (p : P) (rest : List ℕ) : Type 0 where
  pub parts : bytes ≡ written p ++ rest
  pub part : IsPart p
  pub ends : Ends p rest

-- one part is read where it is written, and written where it is read; it begins with no blank
pub record ReadsWritten {P : Type 0} (part_at : List ℕ → Option (P × List ℕ)) (written : P → List ℕ) (IsPart : P → Type 0) (Ends : P → List ℕ → Type 0) : Type 0 where
  pub starts : (p : P) (rest : List ℕ) → IsPart p → (begins is_blank (written p ++ rest) ≡ false) × (0 < length (written p))
  pub takes : (bytes : List ℕ) (p : P) (rest : List ℕ) → begins is_blank bytes ≡ false → 0 < length bytes → part_at bytes ≡ Some (p, rest) → Taken written IsPart Ends bytes p rest
  pub again : (p : P) (rest : List ℕ) → IsPart p → Ends p rest → part_at (written p ++ rest) ≡ Some (p, rest)

module _ {P : Type 0} (part_at : List ℕ → Option (P × List ℕ)) (written : P → List ℕ) (IsPart : P → Type 0) (Ends : P → List ℕ → Type 0) (one : ReadsWritten part_at written IsPart Ends) where
  no_parts : (gap : List ℕ) (ps : List P) → IsTrue (list_all is_blank gap) → Some [] ≡ Some ps → AreParts written IsPart Ends ps (gap ++ [])
  no_parts gap ps blank e = subst (λ (x : List P). AreParts written IsPart Ends x (gap ++ [])) (some_is [] ps e) (rw append-nil blank)

  parts_take : (n : ℕ) (bytes : List ℕ) (ps : List P) (gap : List ℕ) → length bytes ≤ n → begins is_blank bytes ≡ false → IsTrue (list_all is_blank gap) → parts_within part_at n bytes ≡ Some ps
      → AreParts written IsPart Ends ps (gap ++ bytes)
  parts_take zero [] ps gap le start blank e = no_parts gap ps blank e
  parts_take zero (b ∷ bs) ps gap le start blank e = absurd (omega arith)
  parts_take (suc n) [] ps gap le start blank e = no_parts gap ps blank e
  parts_take (suc n) (b ∷ bs) ps gap le start blank e =
      let f = λ (t : P × List ℕ). onto (t.0 ∷ []) (parts_within part_at n t.1) in
      let a = and_some f (part_step part_at (b ∷ bs)) ps e in
      let g = λ (t : P × List ℕ). let x : P × List ℕ = (t.0, from_first t.1) in x in
      let s = map_some g (part_at (b ∷ bs)) a.0 a.1 in
      let p = s.0.0 in
      let rest = s.0.1 in
      let taken = one.takes (b ∷ bs) p rest start (omega arith) s.1 in
      let found : onto (p ∷ []) (parts_within part_at n (from_first rest)) ≡ Some ps = subst (λ (x : P × List ℕ). onto (x.0 ∷ []) (parts_within part_at n x.1) ≡ Some ps) (sym s.2) a.2 in
      let m = map_some (λ (us : List P). p ∷ us) (parts_within part_at n (from_first rest)) ps found in
      let len : length (from_first rest) ≤ n = omega (arith, shorter rest, ap length taken.parts, length-append (written p) rest, (one.starts p rest taken.part).1) in
      let more = parts_take n (from_first rest) m.0 (take (prefix_len is_blank rest) rest) len (stops is_blank rest) (front_passes is_blank rest) m.1 in
      let more-is : AreParts written IsPart Ends m.0 rest = subst (AreParts written IsPart Ends m.0) (take-append-drop (prefix_len is_blank rest) rest) more in
      subst (λ (x : List P). AreParts written IsPart Ends x (gap ++ (b ∷ bs))) m.2 (gap, rest, ap (λ (x : List ℕ). gap ++ x) taken.parts, blank, taken.part, taken.ends, more-is)

  at_part : (n : ℕ) (bytes : List ℕ) (p : P) (rest : List ℕ) (ps : List P) → 0 < length bytes → length bytes ≤ n → part_at bytes ≡ Some (p, rest)
      → ((m : ℕ) → n ≡ suc m → parts_within part_at m (from_first rest) ≡ Some ps) → parts_within part_at n bytes ≡ Some (p ∷ ps)
  at_part zero bytes p rest ps some le found more = absurd (omega arith)
  at_part (suc m) [] p rest ps some le found more = absurd (omega arith)
  at_part (suc m) (b ∷ bs) p rest ps some le found more = rw (found, more m refl) refl

  parts_again : (ps : List P) (bytes : List ℕ) → AreParts written IsPart Ends ps bytes → (n : ℕ) → length (from_first bytes) ≤ n → parts_within part_at n (from_first bytes) ≡ Some ps
  parts_again [] bytes h n le =
      let nothing : from_first bytes ≡ [] = ap from_first (sym (append-nil bytes)) ∙ from_gap bytes [] h refl in
      none_left part_at n (from_first bytes) (ap length nothing)
  parts_again (p ∷ ps) bytes h n le =
      let gap = h.0 in
      let rest = h.1 in
      let start = one.starts p rest h.4 in
      let front : from_first bytes ≡ written p ++ rest = ap from_first h.2 ∙ from_gap gap (written p ++ rest) h.3 start.0 in
      let len : length (from_first bytes) ≡ length (written p) + length rest = ap length front ∙ length-append (written p) rest in
      ap (parts_within part_at n) front ∙ at_part n (written p ++ rest) p rest ps (omega (arith, length-append (written p) rest, start.1)) (omega (arith, length-append (written p) rest)) (one.again p rest h.4 h.5)
      (λ m is. parts_again ps rest h.6 m (omega (arith, shorter rest, start.1)))

  -- the parts of bytes are those, and no others
  pub parts_are : (bytes : List ℕ) (ps : List P) → parts_of part_at bytes ≡ Some ps → AreParts written IsPart Ends ps bytes
  parts_are bytes ps e =
      subst (AreParts written IsPart Ends ps) (take-append-drop (prefix_len is_blank bytes) bytes)
      (parts_take (length (from_first bytes)) (from_first bytes) ps (take (prefix_len is_blank bytes) bytes) (omega arith) (stops is_blank bytes) (front_passes is_blank bytes) e)

  pub are_parts : (bytes : List ℕ) (ps : List P) → AreParts written IsPart Ends ps bytes → parts_of part_at bytes ≡ Some ps
  are_parts bytes ps h = parts_again ps bytes h (length (from_first bytes)) (omega arith)
