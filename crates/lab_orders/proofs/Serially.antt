-- Which tables can come of whole transactions, one after another.
use Rattle.std.proofs.Common.{◌≡◌, ◌+◌, ◌<◌, ◌≤◌, ℕ, zero, suc, List, [], ◌∷◌, length, inl, inr, refl, sym, ap, subst, ◌∙◌, arith}
use Rattle.std.specs.Prelude.{All, Bool, true, false, ◌||◌, bytes_eq, cond, count_by, nat_lt}
use Rattle.std.specs.List.{list_any}
use Rattle.std.proofs.lemmas.Bool.{lt-ltb, ltb-true, true≢false}
use Rattle.std.proofs.lemmas.List.Sums.{count_by-le-length, sum_by-cons}
use Rattle.std.proofs.lemmas.Slice.Eq.{bytes_eq-Decides}
use Rattle.kd_base.specs.ToolsLaws.{both_true, true_both}
use Rattle.kdcs_types.specs.Tables.{TableRows}
use Rattle.abstract_monitor.specs.Bytes.{Bytes}
use Rattle.abstract_monitor.specs.declared.command.Command.{Command}
use Rattle.abstract_monitor.specs.Commands.{started}
use Rattle.abstract_monitor.specs.State.{Application}
use Rattle.laws_of_states.specs.ItemsLaws.{IsIn}
use Rattle.lab_walks.specs.Outcomes.{Result}
use Rattle.lab_orders.specs.declared.explored.Explored.{Explored}
use Rattle.lab_orders.specs.declared.explored.Outcome.{Outcome}
use Rattle.lab_orders.specs.Exploring.{AreToldSerial, IsOfAllWalks, IsShown, LeavesSerially, SomeOrNone, is_serial_with, tables_are_serial}
use Rattle.lab_orders.specs.Standing.{IsAsGood}
use Rattle.lab_orders.specs.Told.{AreTold, AreWalks, comes_serially}
use Rattle.lab_orders.proofs.Told.{comes_true, true_comes}

-- ---- walks that pass a test

abbrev one_if : Bool → ℕ
one_if b = cond b 1 0

some_counted : (p : List ℕ → Bool) (walks : List (List ℕ)) → 1 ≤ count_by p walks → (w : List ℕ) × IsIn w walks × (p w ≡ true)
some_counted p [] some = absurd (omega (arith, some))
some_counted p (w ∷ walks) some = by (p w) refl (λ few. some_counted p walks few)
  where
    more : count_by p (w ∷ walks) ≡ one_if (p w) + count_by p walks
    more = sum_by-cons (λ v. one_if (p v)) w walks

    by : (b : Bool) → p w ≡ b → (1 ≤ count_by p walks → (v : List ℕ) × IsIn v walks × (p v ≡ true)) → (v : List ℕ) × IsIn v (w ∷ walks) × (p v ≡ true)
    by true e rest = (w, inl refl, e)
    by false e rest =
        let none : one_if (p w) ≡ 0 = ap (λ (b : Bool). one_if b) e in
        let later = rest (omega (arith, some, more, none)) in
        (later.0, inr later.1, later.2)

counted_some : (p : List ℕ → Bool) (walks : List (List ℕ)) (w : List ℕ) → IsIn w walks → p w ≡ true → 1 ≤ count_by p walks
counted_some p [] w there e = absurd there
counted_some p (v ∷ walks) w (inl same) e =
    let more = sum_by-cons (λ u. one_if (p u)) v walks in
    let one : one_if (p v) ≡ 1 = ap (λ (b : Bool). one_if b) (ap p same ∙ e) in
    omega (arith, more, one)
counted_some p (v ∷ walks) w (inr later) e =
    let more = sum_by-cons (λ u. one_if (p u)) v walks in
    let some = counted_some p walks w later e in
    omega (arith, more, some)

or_yes : (a b : Bool) → b ≡ true → (a || b) ≡ true
or_yes true b e = refl
or_yes false b e = e

-- ---- told of tables

module _ (app : Application) (t : TableRows) (cs : List Command) (walks : List (List ℕ)) where
  -- no more of them than there are walks
  pub serial_few : (outcomes : List Outcome) → AreTold app cs (started app t) walks outcomes → All (λ (o : Outcome). o.serial ≤ length walks) outcomes
  serial_few [] told k d less = absurd (omega (arith, less))
  serial_few (x ∷ xs) told zero d less = subst (λ n. n ≤ length walks) (sym told.0.serial) (count_by-le-length (comes_serially app cs (started app t) x) walks)
  serial_few (x ∷ xs) told (suc k) d less = serial_few xs told.1 k d (omega (arith, less))

  -- where it is told of the tables, there is such a walk
  some_serial : AreWalks app cs (started app t) walks → (outcomes : List Outcome) → AreTold app cs (started app t) walks outcomes → (tables : Bytes) → list_any (is_serial_with tables) outcomes ≡ true → (w : List ℕ) × LeavesSerially app t cs tables w
  some_serial are [] told tables e = absurd (true≢false (sym e))
  some_serial are (x ∷ xs) told tables e = by (is_serial_with tables x) refl (λ later. some_serial are xs told.1 tables later)
    where
      by : (b : Bool) → is_serial_with tables x ≡ b → (list_any (is_serial_with tables) xs ≡ true → (w : List ℕ) × LeavesSerially app t cs tables w) → (w : List ℕ) × LeavesSerially app t cs tables w
      by true is rest =
          let parts = both_true (bytes_eq x.tables tables) (nat_lt 0 x.serial) is in
          let positive : 0 < x.serial = ltb-true 0 x.serial parts.1 in
          let number = told.0.serial in
          let found = some_counted (comes_serially app cs (started app t) x) walks (omega (arith, positive, number)) in
          let said = both_true _ _ found.2 in (
            found.0,
            record {
              walk_is = are found.0 found.1;
              serial = said.1;
              tables_are = sym (ap (λ (r : Result). r.tables) (true_comes app cs (started app t) found.0 x said.0)) ∙ (bytes_eq-Decides x.tables tables).0 parts.0;
            },
          )
      by false is rest = rest (ap (λ b. b || list_any (is_serial_with tables) xs) (sym is) ∙ e)

  -- where there is such a walk, it is told of the tables
  serial_some : (outcomes : List Outcome) → AreTold app cs (started app t) walks outcomes → (tables : Bytes) (w : List ℕ) → IsIn w walks → IsShown app t cs outcomes w → LeavesSerially app t cs tables w → list_any (is_serial_with tables) outcomes ≡ true
  serial_some [] told tables w there shown leaves = absurd shown
  serial_some (x ∷ xs) told tables w there (inl comes) leaves = ap (λ b. b || list_any (is_serial_with tables) xs) (true_both (bytes_eq x.tables tables) (nat_lt 0 x.serial) same (lt-ltb 0 x.serial positive))
    where
      same : bytes_eq x.tables tables ≡ true
      same = (bytes_eq-Decides x.tables tables).1 (ap (λ (r : Result). r.tables) comes ∙ leaves.tables_are)

      positive : 0 < x.serial
      positive =
          let number = told.0.serial in
          let some = counted_some (comes_serially app cs (started app t) x) walks w there (true_both _ _ (comes_true app cs (started app t) w x comes) leaves.serial) in
          omega (arith, number, some)
  serial_some (x ∷ xs) told tables w there (inr later) leaves = or_yes (is_serial_with tables x) (list_any (is_serial_with tables) xs) (serial_some xs told.1 tables w there later leaves)

-- a walk with each transaction in one go is stood for by one
leaves_so : (app : Application) (t : TableRows) (cs : List Command) (tables : Bytes) (w v : List ℕ) → IsAsGood app cs (started app t) v w → LeavesSerially app t cs tables w → LeavesSerially app t cs tables v
leaves_so app t cs tables w v good leaves = record {
  walk_is = good.stands.walk_is;
  serial = good.stands.serial ∙ leaves.serial;
  tables_are = ap (λ (r : Result). r.tables) good.stands.result ∙ leaves.tables_are;
}

-- just so is it told of all walks
pub told_serial : (app : Application) (t : TableRows) (cs : List Command) (most : ℕ) (e : Explored) → IsOfAllWalks app t cs most e → AreToldSerial app t cs e.outcomes
told_serial app t cs most e whole x there = by (tables_are_serial e.outcomes x) refl
  where
    by : (b : Bool) → tables_are_serial e.outcomes x ≡ b → SomeOrNone app t cs x.tables b
    by true is = some_serial app t cs whole.walks whole.tally.walks_are e.outcomes whole.tally.told x.tables is
    by false is = λ w leaves.
        let stood = whole.stood w leaves.walk_is in
        let others = leaves_so app t cs x.tables w stood.other stood.good leaves in
        absurd (true≢false (sym (serial_some app t cs whole.walks e.outcomes whole.tally.told x.tables stood.other stood.among (whole.tally.shown stood.other stood.among) others) ∙ is))
