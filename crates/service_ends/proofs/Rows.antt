-- A row that is not there and goes leaves the tables as they are.
use Rattle.std.specs.Prelude.{◌≡◌, refl, List, [], ◌∷◌, None, is_some}
use Rattle.std.proofs.Common.{ap, inl, inr, true≢false}
use Rattle.std.proofs.lemmas.Bool.{cases_Bool}
use Rattle.kdcs_types.specs.declared.key.Key.{Key}
use Rattle.kdcs_types.specs.declared.key.Key.TheVariants as key
use Rattle.kdcs_types.specs.declared.key.ServiceId.{ServiceId}
use Rattle.kdcs_types.specs.declared.service.Service.{Service}
use Rattle.kdcs_types.specs.Keyed.{item_at, without_item}
use Rattle.kdcs_types.specs.Keys.{key_eq}
use Rattle.kdcs_types.specs.Tables.{TableRows, service_key, service_of}
use Rattle.abstract_monitor.specs.Endings.{with_service}

same_items : {E : Type 0} (key_of : E → Key) (k : Key) (es : List E) → item_at key_of k es ≡ None → without_item key_of k es ≡ es
same_items key_of k [] e = refl
same_items {E} key_of k (x ∷ xs) e =
    elim (cases_Bool (key_eq k (key_of x))) [
      | inl h ↦ absurd (true≢false (ap is_some (rw h at e)))
      | inr h ↦ rw h (ap (λ (l : List E). x ∷ l) (same_items key_of k xs (rw h at e)))
    ]

pub none_goes : (t : TableRows) (id : ServiceId) → service_of t id ≡ None → with_service t id None ≡ t
none_goes t id e = ap (λ (l : List Service). record t { services = l }) (same_items service_key (key.Service id) t.services e)
