-- An LSSB that is deleted.
use Rattle.std.specs.Prelude.{◌≡◌, refl, true, not, List, Option, Some, None, is_some}
use Rattle.std.proofs.Common.{ap, sym, ◌∙◌, true≢false}
use Rattle.std.specs.FinMap.{find}
use Rattle.std.specs.FinMap.Entries.{where_key}
use Rattle.std.specs.Cmp.Lexicographic.{texts_ties}
use Rattle.kdcs_types.specs.declared.call.Code.TheVariants.{Done}
use Rattle.abstract_monitor.specs.Bytes.{Bytes, bytes_cmp}
use Rattle.abstract_monitor.specs.Calls.{delete_local, delete_local_by, replied, without_local}
use Rattle.abstract_monitor.specs.State.{OpenTransaction}
use Rattle.kd_base.specs.Places.{without}

without_is : (name : Bytes) (lssbs : List (Bytes × Bytes)) → without_local name lssbs ≡ without bytes_cmp name lssbs
without_is name lssbs i = where_key bytes_cmp (λ n. not (texts_ties name n i)) lssbs

some_by : (x : OpenTransaction) (name : Bytes) (o : Option Bytes) → is_some o ≡ true → delete_local_by x name o ≡ replied (record x { lssbs = without_local name x.lssbs }) Done
some_by x name None e = absurd (true≢false (sym e))
some_by x name (Some bytes) e = refl

pub deleted_one : (x : OpenTransaction) (name : Bytes) → is_some (find bytes_cmp name x.lssbs) ≡ true → delete_local x name ≡ replied (record x { lssbs = without bytes_cmp name x.lssbs }) Done
deleted_one x name e =
    some_by x name (find bytes_cmp name x.lssbs) e
    ∙ ap (λ (l : List (Bytes × Bytes)). replied (record x { lssbs = l }) Done) (without_is name x.lssbs)
