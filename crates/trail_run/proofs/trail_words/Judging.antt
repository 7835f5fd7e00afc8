-- Entries that hold in turn, and the first that does not.
use Rattle.std.proofs.Common.{◌≡◌, ℕ, suc, ◌+◌, ◌<◌, List, [], ◌∷◌, ◌++◌, length, take, drop, get_or, refl, sym, ap, subst, ◌∙◌, arith}
use Rattle.std.proofs.lemmas.List.{drop_more, length-take-le, take-append-drop, take_more}
use Rattle.kdcs_types.specs.Tables.{TableRows}
use Rattle.abstract_monitor.specs.State.{Application}
use Rattle.audit_trail.specs.declared.entry.TrailEntry.{TrailEntry}
use Rattle.serial_audit.specs.Answers.{IfDiffers, IfHolds}
use Rattle.serial_audit.specs.Audit.{HoldsFor}
use Rattle.serial_audit.specs.declared.audited.Audited.{Audited}
use Rattle.serial_audit.specs.declared.audited.Audited.TheVariants as audited
use Rattle.trail_run.specs.InTurn.{AllHold, HoldInTurn}
use Rattle.trail_run.specs.Auditing.{IsFirstToDiffer, TrailsAreJudgedOnce}
use Rattle.trail_run.specs.declared.trail_words.verdict.Verdict.TheVariants.{Holds, Differs}

-- ---- one entry

-- the entry holds for no tables after these
abbrev Fails : Application → TableRows → TrailEntry → Type 0
Fails app before e = (after : TableRows) → HoldsFor app before e after → ⊥

comes_to_one : (app : Application) (before t u : TableRows) (e : TrailEntry) → HoldsFor app before e t → HoldsFor app before e u → t ≡ u
comes_to_one app before t u e h k = h.tables ∙ sym k.tables

-- what an audit of it answered
pub if_holds : (P : TableRows → Type 0) (a : Audited) (after : TableRows) → a ≡ audited.Holds after → IfHolds a P → P after
if_holds P a after is h = subst (λ (b : Audited). IfHolds b P) is h

pub if_differs : (P : TableRows → Type 0) (a : Audited) (before : TableRows) → a ≡ audited.Differs before → IfDiffers a P → P before
if_differs P a before is h = subst (λ (b : Audited). IfDiffers b P) is h

-- ---- entries in turn

-- one more holds
hold_more : (app : Application) (before : TableRows) (es : List TrailEntry) (between : TableRows) (e : TrailEntry) (after : TableRows) → HoldInTurn app before es between → HoldsFor app between e after → HoldInTurn app before (es ++ e ∷ []) after
hold_more app before [] between e after h here = (after, (subst (λ (t : TableRows). HoldsFor app t e after) h here, refl))
hold_more app before (x ∷ es) between e after h here = (h.0, (h.1.0, hold_more app h.0 es between e after h.1.1 here))

-- where all hold, each holds for the tables that those before it come to
holds_there : (app : Application) (before : TableRows) (first : List TrailEntry) (e : TrailEntry) (rest : List TrailEntry) (between after : TableRows) → HoldInTurn app before (first ++ e ∷ rest) after → HoldInTurn app before first between → (next : TableRows) × HoldsFor app between e next
holds_there app before [] e rest between after h held = (h.0, subst (λ (t : TableRows). HoldsFor app t e h.0) (sym held) h.1.0)
holds_there app before (x ∷ first) e rest between after h held =
    let same : h.0 ≡ held.0 = comes_to_one app before h.0 held.0 x h.1.0 held.1.0 in
    holds_there app held.0 first e rest between after (subst (λ (t : TableRows). HoldInTurn app t (first ++ e ∷ rest) after) same h.1.1) held.1.1

-- ---- the first that does not hold

abbrev head_or : TrailEntry → List TrailEntry → TrailEntry
head_or e [] = e
head_or e (x ∷ xs) = x

abbrev tail_of : List TrailEntry → List TrailEntry
tail_of [] = []
tail_of (x ∷ xs) = xs

-- an entry that holds is none that does not
no_both : (app : Application) (before between next : TableRows) (e x : TrailEntry) → e ≡ x → between ≡ before → HoldsFor app before x next → Fails app between e → ⊥
no_both app before between next e x same at holds fails =
    fails next (subst (λ (t : TableRows). HoldsFor app t e next) (sym at) (subst (λ (y : TrailEntry). HoldsFor app before y next) (sym same) holds))

-- two such have as many before them
as_many : (app : Application) (before : TableRows) (one other : List TrailEntry) (e f : TrailEntry) (r s : List TrailEntry) (b c : TableRows) → one ++ e ∷ r ≡ other ++ f ∷ s → HoldInTurn app before one b → HoldInTurn app before other c → Fails app b e → Fails app c f → length one ≡ length other
as_many app before [] [] e f r s b c q h k m n = refl
as_many app before [] (y ∷ other) e f r s b c q h k m n = absurd (no_both app before b k.0 e y (ap (head_or e) q) h k.1.0 m)
as_many app before (x ∷ one) [] e f r s b c q h k m n = absurd (no_both app before c h.0 f x (sym (ap (head_or f) q)) k h.1.0 n)
as_many app before (x ∷ one) (y ∷ other) e f r s b c q h k m n =
    let same : h.0 ≡ k.0 = comes_to_one app before h.0 k.0 y (subst (λ (z : TrailEntry). HoldsFor app before z h.0) (ap (head_or x) q) h.1.0) k.1.0 in
    ap suc (as_many app k.0 one other e f r s b c (ap tail_of q) (subst (λ (t : TableRows). HoldInTurn app t one b) same h.1.1) k.1.1 m n)

not_both : (app : Application) (before : TableRows) (entries : List TrailEntry) (n : ℕ) → AllHold app before entries → IsFirstToDiffer app before entries n → ⊥
not_both app before entries n h k =
    let next = holds_there app before k.first k.entry k.rest k.between h.0 (subst (λ (es : List TrailEntry). HoldInTurn app before es h.0) k.parts h.1) k.held in
    k.differs next.0 next.1

pub judged_once : TrailsAreJudgedOnce
judged_once app trail (Holds m) (Holds n) h k = ap Holds (h.1 ∙ sym k.1)
judged_once app trail (Holds m) (Differs n) h k = absurd (not_both app trail.start trail.entries n h.0 k)
judged_once app trail (Differs m) (Holds n) h k = absurd (not_both app trail.start trail.entries m k.0 h)
judged_once app trail (Differs m) (Differs n) h k =
    let same = as_many app trail.start h.first k.first h.entry k.entry h.rest k.rest h.between k.between (sym h.parts ∙ k.parts) h.held k.held h.differs k.differs in
    ap Differs (h.count ∙ ap (λ (l : ℕ). l + 1) same ∙ sym k.count)

-- ---- up to an entry of a list

module _ (xs es : List TrailEntry) (same : xs ≡ es) (i : ℕ) (e : TrailEntry) (is : e ≡ get_or xs i e) (lt : i < length xs) where
  pub same_entry : e ≡ get_or es i e
  same_entry = is ∙ ap (λ (l : List TrailEntry). get_or l i e) same

  pub same_place : i < length es
  same_place = subst (λ (l : List TrailEntry). i < length l) same lt

module _ (app : Application) (start : TableRows) (es : List TrailEntry) (i : ℕ) (between : TableRows) (held : HoldInTurn app start (take i es) between) (e : TrailEntry) (is : e ≡ get_or es i e) (lt : i < length es) where
  pub holds_next : (after : TableRows) → HoldsFor app between e after → HoldInTurn app start (take (i + 1) es) after
  holds_next after here =
      subst (λ (l : List TrailEntry). HoldInTurn app start l after)
      (sym (take_more es i e lt ∙ ap (λ (x : TrailEntry). take i es ++ x ∷ []) (sym is)))
      (hold_more app start (take i es) between e after held here)

  pub differs_here : (n : ℕ) → n ≡ i → ((after : TableRows) → HoldsFor app between e after → ⊥) → IsFirstToDiffer app start es (n + 1)
  differs_here n counted fails = record {
    first = take i es;
    entry = e;
    rest = drop (i + 1) es;
    parts = sym (take-append-drop i es) ∙ ap (λ (l : List TrailEntry). take i es ++ l) (drop_more es i e lt ∙ ap (λ (x : TrailEntry). x ∷ drop (i + 1) es) (sym is));
    count = ap (λ (l : ℕ). l + 1) (counted ∙ sym (length-take-le i es (omega (arith, lt))));
    between = between;
    held = held;
    differs = fails;
  }
