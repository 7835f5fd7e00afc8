-- The statements of a reader, gathered one after another.
use Rattle.std.proofs.Common.{◌≡◌, ◌+◌, ◌<◌, ◌≤◌, List, [], ◌∷◌, ◌++◌, Some, None, Result, Ok, Err, refl, sym, ap, ◌∙◌, arith, append_assoc, append-nil}
use Rattle.std.specs.List.{All}
use Rattle.std.proofs.lemmas.List.Elements.{All-append, All-cons, All-nil}
use Rattle.application_types.specs.declared.kdcdef_types.statement.Statement.{Statement}
use Rattle.kdcdef_read.specs.declared.fault.ReadFault.{ReadFault}
use Rattle.kdcdef_read.specs.Left.{Left}
use Rattle.kdcdef_read.specs.Reading.{followed}
use Rattle.kdcdef_read.specs.Steps.{with_front}
use Rattle.application_check.specs.declared.kdcdef_check.gathered.Gathered.{Gathered}
use Rattle.application_check.specs.Gathering.{IsBehind, WereGathered, OfGathered}

-- the statements that were gathered are those before what is left to read
pub record AreBefore (read : Result (List Statement) ReadFault) (left : Left) (g : Gathered) : Type 0 where
  pub front : List Statement
  pub all : read ≡ with_front front left.read
  pub gathered : WereGathered g front
  pub behind : All (λ (t : Statement). t.line < left.next) front

-- none is before all that is read
pub none_before : (left : Left) (g : Gathered) → WereGathered g [] → AreBefore left.read left g
none_before left g gathered = record {
  front = [];
  all = empty left.read;
  gathered = gathered;
  behind = All-nil (λ (t : Statement). t.line < left.next);
}
  where
    empty : (read : Result (List Statement) ReadFault) → read ≡ with_front [] read
    empty (Ok ss) = refl
    empty (Err e) = refl

module _ (read : Result (List Statement) ReadFault) (left : Left) (g : Gathered) (before : AreBefore read left g) where
  is_behind : (s : Statement) → left.next ≤ s.line → IsBehind before.front s
  is_behind s at = λ k d lt. let under = before.behind k d lt in omega (arith, under, at)

  -- one more is before what is left behind it
  pub one_more : (s : Statement) (next : Left) (after : Gathered) → left.read ≡ followed (Some s) next.read → left.next ≤ s.line → next.next ≡ s.line + 1
      → OfGathered g (λ ss. IsBehind ss s → WereGathered after (ss ++ s ∷ [])) → AreBefore read next after
  one_more s next after is at then add = record {
    front = before.front ++ s ∷ [];
    all = before.all ∙ ap (with_front before.front) is ∙ two before.front next.read;
    gathered = add before.front before.gathered (is_behind s at);
    behind =
        All-append (λ (t : Statement). t.line < next.next) before.front (s ∷ []) (λ k d lt. let under = before.behind k d lt in omega (arith, under, at, then))
        (All-cons (λ (t : Statement). t.line < next.next) s [] (omega (arith, then)) (All-nil (λ (t : Statement). t.line < next.next)));
  }
    where
      two : (front : List Statement) (rest : Result (List Statement) ReadFault) → with_front front (with_front (s ∷ []) rest) ≡ with_front (front ++ s ∷ []) rest
      two front (Ok ss) = ap (λ (xs : List Statement). let r : Result (List Statement) ReadFault = Ok xs in r) (sym (append_assoc front (s ∷ []) ss))
      two front (Err e) = refl

  -- at the end they are all
  pub are_all : (next : Left) → left.read ≡ followed None next.read → (ss : List Statement) × (read ≡ Ok ss) × WereGathered g ss
  are_all next is =
      (before.front, before.all ∙ ap (with_front before.front) is ∙ ap (λ (xs : List Statement). let r : Result (List Statement) ReadFault = Ok xs in r) (append-nil before.front), before.gathered)

  -- a fault of what is left is that of all
  pub is_refused : (e : ReadFault) → left.read ≡ Err e → read ≡ Err e
  is_refused e is = before.all ∙ ap (with_front before.front) is
