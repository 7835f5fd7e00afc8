-- Whether two rows are the same, as a test.
use Rattle.std.specs.Prelude.{Bool, true, false, ◌&&◌, Option, bytes_eq, nat_eq}
use Rattle.std.specs.Option.{option_eq}
use Rattle.std.specs.Cmp.Lexicographic.{pointwise}
use Rattle.kdcs_types.specs.declared.key.Target.{Target}
use Rattle.kdcs_types.specs.declared.key.Target.TheVariants as target
use Rattle.kdcs_types.specs.declared.service.Service.{Service}
use Rattle.kdcs_types.specs.declared.service.JobValue.{JobValue}
use Rattle.kdcs_types.specs.declared.act.Row.{Row}
use Rattle.kdcs_types.specs.declared.act.Row.TheVariants as row
use Rattle.kdcs_types.specs.Keys.{id_eq}

abbrev pub bool_eq : Bool → Bool → Bool
bool_eq true b = b
bool_eq false true = false
bool_eq false false = true

-- both parts are the same
abbrev pub both_eq : {A B : Type 0} → (A → A → Bool) → (B → B → Bool) → A × B → A × B → Bool
both_eq same also p q = same p.0 q.0 && also p.1 q.1

abbrev pub target_eq : Target → Target → Bool
target_eq (target.Tac a) (target.Tac b) = bytes_eq a b
target_eq (target.Tac a) (target.Lterm b) = false
target_eq (target.Lterm a) (target.Tac b) = false
target_eq (target.Lterm a) (target.Lterm b) = bytes_eq a b

abbrev pub job_value_eq : JobValue → JobValue → Bool
job_value_eq a b =
    target_eq a.to b.to
    && (nat_eq a.due b.due
    && (nat_eq a.redelivered b.redelivered
    && (bytes_eq a.user b.user
    && (bytes_eq a.lterm b.lterm
    && bytes_eq a.message b.message))))

abbrev pub service_eq : Service → Service → Bool
service_eq a b =
    id_eq a.id b.id
    && (bytes_eq a.first b.first
    && (bytes_eq a.next b.next
    && (bool_eq a.awaits b.awaits
    && (bytes_eq a.user b.user
    && (option_eq bytes_eq a.lterm b.lterm
    && (bytes_eq a.kb b.kb
    && (pointwise bytes_eq a.handed b.handed
    && (option_eq bytes_eq a.last b.last
    && pointwise (both_eq bytes_eq bytes_eq) a.lssbs b.lssbs))))))))

abbrev pub row_eq : Row → Row → Bool
row_eq (row.Gssb a c) (row.Gssb b d) = bytes_eq a b && bytes_eq c d
row_eq (row.Tls a k c) (row.Tls b l d) = bytes_eq a b && (bytes_eq k l && bytes_eq c d)
row_eq (row.Uls a k c) (row.Uls b l d) = bytes_eq a b && (bytes_eq k l && bytes_eq c d)
row_eq (row.Service i s) (row.Service j t) = id_eq i j && service_eq s t
row_eq (row.Job m v) (row.Job n w) = nat_eq m n && job_value_eq v w
row_eq (row.Shown k v) (row.Shown l w) = bytes_eq k l && job_value_eq v w
row_eq _ _ = false

-- the same row, or no row both times
abbrev pub row_same : Option Row → Option Row → Bool
row_same = option_eq row_eq
