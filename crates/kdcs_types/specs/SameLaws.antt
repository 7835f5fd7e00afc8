-- The tests of sameness hold exactly of the same.
use Rattle.std.specs.Prelude.{◌≡◌, refl, Bool, true, false, List, [], ◌∷◌, Option, Some, None, bytes_eq, nat_eq}
use Rattle.std.proofs.Common.{sym, ap, true≢false}
use Rattle.std.proofs.lemmas.Bool.{eqb-true, eq-eqb}
use Rattle.std.specs.Option.{option_eq}
use Rattle.std.specs.Cmp.Lexicographic.{pointwise, bytes_decides}
use Rattle.kd_base.specs.ToolsLaws.{both_true, true_both}
use Rattle.kdcs_types.specs.declared.key.Target.{Target}
use Rattle.kdcs_types.specs.declared.key.Target.TheVariants as target
use Rattle.kdcs_types.specs.declared.service.Service.{Service}
use Rattle.kdcs_types.specs.declared.service.JobValue.{JobValue}
use Rattle.kdcs_types.specs.declared.act.Row.{Row}
use Rattle.kdcs_types.specs.declared.act.Row.TheVariants as row
use Rattle.kdcs_types.specs.Keys.{id_eq}
use Rattle.kdcs_types.specs.KeyLaws.{id_eq_same, id_eq_itself}
use Rattle.kdcs_types.specs.Same.{bool_eq, both_eq, target_eq, job_value_eq, service_eq, row_eq, row_same}

-- what passes is the same, and each passes with itself
record IsExact {A : Type 0} (same : A → A → Bool) : Type 0 where
  only : (x y : A) → same x y ≡ true → x ≡ y
  itself : (x : A) → same x x ≡ true

bytes_exact : IsExact bytes_eq
bytes_exact = record { only = λ x y. (bytes_decides x y).0; itself = λ x. (bytes_decides x x).1 refl }

nat_exact : IsExact nat_eq
nat_exact = record { only = eqb-true; itself = λ x. eq-eqb x x refl }

id_exact : IsExact id_eq
id_exact = record { only = id_eq_same; itself = id_eq_itself }

bool_exact : IsExact bool_eq
bool_exact = record { only = only; itself = itself }
  where
    only : (x y : Bool) → bool_eq x y ≡ true → x ≡ y
    only true true e = refl
    only true false e = absurd (true≢false (sym e))
    only false true e = absurd (true≢false (sym e))
    only false false e = refl

    itself : (x : Bool) → bool_eq x x ≡ true
    itself true = refl
    itself false = refl

option_exact : {A : Type 0} (same : A → A → Bool) → IsExact same → IsExact (option_eq same)
option_exact {A} same h = record { only = only; itself = itself }
  where
    only : (x y : Option A) → option_eq same x y ≡ true → x ≡ y
    only None None e = refl
    only None (Some y) e = absurd (true≢false (sym e))
    only (Some x) None e = absurd (true≢false (sym e))
    only (Some x) (Some y) e = ap Some (h.only x y e)

    itself : (x : Option A) → option_eq same x x ≡ true
    itself None = refl
    itself (Some x) = h.itself x

list_exact : {A : Type 0} (same : A → A → Bool) → IsExact same → IsExact (pointwise same)
list_exact {A} same h = record { only = only; itself = itself }
  where
    only : (x y : List A) → pointwise same x y ≡ true → x ≡ y
    only [] [] e = refl
    only [] (y ∷ ys) e = absurd (true≢false (sym e))
    only (x ∷ xs) [] e = absurd (true≢false (sym e))
    only (x ∷ xs) (y ∷ ys) e =
        let parts = both_true (same x y) (pointwise same xs ys) e in
        λ i. h.only x y parts.0 i ∷ only xs ys parts.1 i

    itself : (x : List A) → pointwise same x x ≡ true
    itself [] = refl
    itself (x ∷ xs) = true_both _ _ (h.itself x) (itself xs)

pair_exact : {A B : Type 0} (same : A → A → Bool) (also : B → B → Bool) → IsExact same → IsExact also → IsExact (both_eq same also)
pair_exact {A} {B} same also g h = record { only = only; itself = λ x. true_both _ _ (g.itself x.0) (h.itself x.1) }
  where
    only : (x y : A × B) → both_eq same also x y ≡ true → x ≡ y
    only x y e =
        let parts = both_true (same x.0 y.0) (also x.1 y.1) e in
        λ i. (g.only x.0 y.0 parts.0 i, h.only x.1 y.1 parts.1 i)

target_exact : IsExact target_eq
target_exact = record { only = only; itself = itself }
  where
    only : (x y : Target) → target_eq x y ≡ true → x ≡ y
    only (target.Tac a) (target.Tac b) e = ap (λ n. target.Tac n) (bytes_exact.only a b e)
    only (target.Tac a) (target.Lterm b) e = absurd (true≢false (sym e))
    only (target.Lterm a) (target.Tac b) e = absurd (true≢false (sym e))
    only (target.Lterm a) (target.Lterm b) e = ap (λ n. target.Lterm n) (bytes_exact.only a b e)

    itself : (x : Target) → target_eq x x ≡ true
    itself (target.Tac a) = bytes_exact.itself a
    itself (target.Lterm a) = bytes_exact.itself a

value_exact : IsExact job_value_eq
value_exact = record { only = only; itself = itself }
  where
    only : (a b : JobValue) → job_value_eq a b ≡ true → a ≡ b
    only a b e =
        let p1 = both_true (target_eq a.to b.to) _ e in
        let p2 = both_true (nat_eq a.due b.due) _ p1.1 in
        let p3 = both_true (nat_eq a.redelivered b.redelivered) _ p2.1 in
        let p4 = both_true (bytes_eq a.user b.user) _ p3.1 in
        let p5 = both_true (bytes_eq a.lterm b.lterm) _ p4.1 in
        λ i. record {
          to = target_exact.only a.to b.to p1.0 i;
          due = nat_exact.only a.due b.due p2.0 i;
          redelivered = nat_exact.only a.redelivered b.redelivered p3.0 i;
          user = bytes_exact.only a.user b.user p4.0 i;
          lterm = bytes_exact.only a.lterm b.lterm p5.0 i;
          message = bytes_exact.only a.message b.message p5.1 i;
        }

    itself : (a : JobValue) → job_value_eq a a ≡ true
    itself a =
        true_both _ _ (target_exact.itself a.to) (true_both _ _ (nat_exact.itself a.due) (true_both _ _ (nat_exact.itself a.redelivered) (true_both _ _ (bytes_exact.itself a.user) (true_both _ _ (bytes_exact.itself a.lterm) (bytes_exact.itself a.message)))))

service_exact : IsExact service_eq
service_exact = record { only = only; itself = itself }
  where
    names_exact : IsExact (option_eq bytes_eq)
    names_exact = option_exact bytes_eq bytes_exact

    parts_exact : IsExact (pointwise bytes_eq)
    parts_exact = list_exact bytes_eq bytes_exact

    areas_exact : IsExact (pointwise (both_eq bytes_eq bytes_eq))
    areas_exact = list_exact (both_eq bytes_eq bytes_eq) (pair_exact bytes_eq bytes_eq bytes_exact bytes_exact)

    only : (a b : Service) → service_eq a b ≡ true → a ≡ b
    only a b e =
        let p1 = both_true (id_eq a.id b.id) _ e in
        let p2 = both_true (bytes_eq a.first b.first) _ p1.1 in
        let p3 = both_true (bytes_eq a.next b.next) _ p2.1 in
        let p4 = both_true (bool_eq a.awaits b.awaits) _ p3.1 in
        let p5 = both_true (bytes_eq a.user b.user) _ p4.1 in
        let p6 = both_true (option_eq bytes_eq a.lterm b.lterm) _ p5.1 in
        let p7 = both_true (bytes_eq a.kb b.kb) _ p6.1 in
        let p8 = both_true (pointwise bytes_eq a.handed b.handed) _ p7.1 in
        let p9 = both_true (option_eq bytes_eq a.last b.last) _ p8.1 in
        λ i. record {
          id = id_exact.only a.id b.id p1.0 i;
          first = bytes_exact.only a.first b.first p2.0 i;
          next = bytes_exact.only a.next b.next p3.0 i;
          awaits = bool_exact.only a.awaits b.awaits p4.0 i;
          user = bytes_exact.only a.user b.user p5.0 i;
          lterm = names_exact.only a.lterm b.lterm p6.0 i;
          kb = bytes_exact.only a.kb b.kb p7.0 i;
          handed = parts_exact.only a.handed b.handed p8.0 i;
          last = names_exact.only a.last b.last p9.0 i;
          lssbs = areas_exact.only a.lssbs b.lssbs p9.1 i;
        }

    itself : (a : Service) → service_eq a a ≡ true
    itself a =
        true_both _ _ (id_exact.itself a.id) (true_both _ _ (bytes_exact.itself a.first) (true_both _ _ (bytes_exact.itself a.next) (true_both _ _ (bool_exact.itself a.awaits) (true_both _ _ (bytes_exact.itself a.user) (true_both _ _ (names_exact.itself a.lterm) (true_both _ _ (bytes_exact.itself a.kb) (true_both _ _ (parts_exact.itself a.handed) (true_both _ _ (names_exact.itself a.last) (areas_exact.itself a.lssbs)))))))))

row_exact : IsExact row_eq
row_exact = record { only = only; itself = itself }
  where
    only : (x y : Row) → row_eq x y ≡ true → x ≡ y
    only (row.Gssb a c) (row.Gssb b d) e =
        let p = both_true (bytes_eq a b) _ e in
        λ i. row.Gssb (bytes_exact.only a b p.0 i) (bytes_exact.only c d p.1 i)
    only (row.Tls a k c) (row.Tls b l d) e =
        let p = both_true (bytes_eq a b) _ e in
        let q = both_true (bytes_eq k l) _ p.1 in
        λ i. row.Tls (bytes_exact.only a b p.0 i) (bytes_exact.only k l q.0 i) (bytes_exact.only c d q.1 i)
    only (row.Uls a k c) (row.Uls b l d) e =
        let p = both_true (bytes_eq a b) _ e in
        let q = both_true (bytes_eq k l) _ p.1 in
        λ i. row.Uls (bytes_exact.only a b p.0 i) (bytes_exact.only k l q.0 i) (bytes_exact.only c d q.1 i)
    only (row.Service a s) (row.Service b t) e =
        let p = both_true (id_eq a b) _ e in
        λ i. row.Service (id_exact.only a b p.0 i) (service_exact.only s t p.1 i)
    only (row.Job m v) (row.Job n w) e =
        let p = both_true (nat_eq m n) _ e in
        λ i. row.Job (nat_exact.only m n p.0 i) (value_exact.only v w p.1 i)
    only (row.Shown k v) (row.Shown l w) e =
        let p = both_true (bytes_eq k l) _ e in
        λ i. row.Shown (bytes_exact.only k l p.0 i) (value_exact.only v w p.1 i)
    only _ _ e = absurd (true≢false (sym e))

    itself : (x : Row) → row_eq x x ≡ true
    itself (row.Gssb a c) = true_both _ _ (bytes_exact.itself a) (bytes_exact.itself c)
    itself (row.Tls a k c) = true_both _ _ (bytes_exact.itself a) (true_both _ _ (bytes_exact.itself k) (bytes_exact.itself c))
    itself (row.Uls a k c) = true_both _ _ (bytes_exact.itself a) (true_both _ _ (bytes_exact.itself k) (bytes_exact.itself c))
    itself (row.Service a s) = true_both _ _ (id_exact.itself a) (service_exact.itself s)
    itself (row.Job m v) = true_both _ _ (nat_exact.itself m) (value_exact.itself v)
    itself (row.Shown k v) = true_both _ _ (bytes_exact.itself k) (value_exact.itself v)

rows_exact : IsExact row_same
rows_exact = option_exact row_eq row_exact

pub row_same_only : (a b : Option Row) → row_same a b ≡ true → a ≡ b
row_same_only a b e = rows_exact.only a b e

pub row_same_itself : (a : Option Row) → row_same a a ≡ true
row_same_itself a = rows_exact.itself a
