-- Kinds of services: all that the limits ask of one.
use Rattle.std.specs.Prelude.{Bool}
use Rattle.std.specs.Ordering.{bool_cmp, nat_cmp, ordering_then, eq_by_cmp}
use Rattle.std.specs.declared.cmp.Ordering.{Ordering}
use Rattle.abstract_monitor.specs.Endings.{is_asynchronous}
use Rattle.abstract_monitor.specs.Picks.{Classed}
use Rattle.service_ends.specs.declared.step_scheduler.kinds.Kind.{Kind}

-- the kind of a service of this class
abbrev pub kind_of : Classed → Kind
kind_of e = record { asynchronous = is_asynchronous e.0; class = e.1 }

abbrev pub kind_cmp : Kind → Kind → Ordering
kind_cmp a b = ordering_then (bool_cmp a.asynchronous b.asynchronous) (nat_cmp a.class b.class)

abbrev pub kind_eq : Kind → Kind → Bool
kind_eq = eq_by_cmp kind_cmp

-- the service is of this kind
abbrev pub is_of_kind : Kind → Classed → Bool
is_of_kind kind e = kind_eq kind (kind_of e)
