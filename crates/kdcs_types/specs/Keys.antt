-- The order of keys: by kind, then text by text. It is that of the keys of records in a KDCFILE.
use Rattle.std.specs.Prelude.{ℕ, Bool, List, [], ◌∷◌}
use Rattle.std.specs.Ordering.{nat_cmp, eq_by_cmp}
use Rattle.std.specs.declared.cmp.Ordering.{Ordering}
use Rattle.std.specs.Cmp.Lexicographic.{slice_cmp}
use Rattle.kdcs_types.specs.declared.key.Area.{Area}
use Rattle.kdcs_types.specs.declared.key.Area.TheVariants as area
use Rattle.kdcs_types.specs.declared.key.ServiceId.{ServiceId}
use Rattle.kdcs_types.specs.declared.key.ServiceId.TheVariants as id
use Rattle.kdcs_types.specs.declared.key.Key.{Key}
use Rattle.kdcs_types.specs.declared.key.Key.TheVariants as key

-- what tells a service from others: an asynchronous one has A and its job's number, a dialogue one D and its user
abbrev pub id_texts : ServiceId → List (List ℕ)
id_texts (id.Asynchronous number) = (65 ∷ []) ∷ (number ∷ []) ∷ []
id_texts (id.Dialogue user) = (68 ∷ []) ∷ user ∷ []

-- the kind of the record that a row has
abbrev pub key_kind : Key → ℕ
key_kind (key.Gssb name) = 1
key_kind (key.Tls block lterm) = 2
key_kind (key.Uls block user) = 3
key_kind (key.Service service) = 4
key_kind (key.Job number) = 5
key_kind (key.Shown lterm) = 6

-- what tells a key from others of its kind
abbrev pub texts_behind : Key → List (List ℕ)
texts_behind (key.Gssb name) = name ∷ []
texts_behind (key.Tls block lterm) = block ∷ lterm ∷ []
texts_behind (key.Uls block user) = block ∷ user ∷ []
texts_behind (key.Service service) = id_texts service
texts_behind (key.Job number) = (number ∷ []) ∷ []
texts_behind (key.Shown lterm) = lterm ∷ []

abbrev pub key_texts : Key → List (List ℕ)
key_texts k = (key_kind k ∷ []) ∷ texts_behind k

abbrev pub texts_cmp : List (List ℕ) → List (List ℕ) → Ordering
texts_cmp = slice_cmp (slice_cmp nat_cmp)

-- the order of keys
abbrev pub key_cmp : Key → Key → Ordering
key_cmp a b = texts_cmp (key_texts a) (key_texts b)

abbrev pub key_eq : Key → Key → Bool
key_eq = eq_by_cmp key_cmp

-- the key of an area's row
abbrev pub area_key : Area → Key
area_key (area.Gssb name) = key.Gssb name
area_key (area.Tls block lterm) = key.Tls block lterm
area_key (area.Uls block user) = key.Uls block user

-- the order of areas, and of services, is that of their keys
abbrev pub area_cmp : Area → Area → Ordering
area_cmp a b = key_cmp (area_key a) (area_key b)

abbrev pub area_eq : Area → Area → Bool
area_eq = eq_by_cmp area_cmp

abbrev pub id_cmp : ServiceId → ServiceId → Ordering
id_cmp a b = key_cmp (key.Service a) (key.Service b)

abbrev pub id_eq : ServiceId → ServiceId → Bool
id_eq = eq_by_cmp id_cmp
