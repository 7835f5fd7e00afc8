-- A call on a block or a GSSB, by whose area it names.
use Rattle.std.specs.Prelude.{◌≡◌, refl, ℕ, Bool, Result, IfOk}
use Rattle.std.proofs.Common.{◌⊎◌, inl, inr, subst, ◌∙◌, ap}
use Rattle.kdcs_types.specs.declared.call.Call.{Call}
use Rattle.kdcs_types.specs.declared.call.Call.TheVariants.{SputGb, SgetUs, SputUs, Gtda, Ptda}
use Rattle.kdcs_types.specs.declared.key.Area.{Area}
use Rattle.kdcs_types.specs.declared.key.ServiceId.{ServiceId}
use Rattle.kdcs_types.specs.Tables.{TableRows}
use Rattle.application_types.specs.Generation.{Generated}
use Rattle.abstract_monitor.specs.declared.answer.Called.{Called}
use Rattle.abstract_monitor.specs.Bytes.{Bytes}
use Rattle.abstract_monitor.specs.Calls.{Performed, Told, called, name_in_operand, read_block, write_block}
use Rattle.abstract_monitor.specs.Locks.{Locks, told_now}
use Rattle.abstract_monitor.specs.Statements.{area_of_call}
use Rattle.abstract_monitor.specs.State.{OpenTransaction as Transaction}
use Rattle.kdcs_calls.specs.declared.operand.Owner.{Owner}
use Rattle.kdcs_calls.specs.Parts.{goes_on, named_by, owner_of}

module _ (g : Generated) (t : TableRows) (l : Locks) (id : ServiceId) (asynchronous : Bool) (x : Transaction) (call : Call) (owner : Owner) (of : owner ≡ owner_of x call) where
  abbrev answer : Performed
  answer = called g (told_now l g.limits.reswait t id (area_of_call x call)) asynchronous x call

  abbrev goes : (named : Owner) (go : Told → Area → Performed) (name : Bytes) → Performed
  goes named go name = goes_on g t l id x (named_by named) go (name_in_operand name)

  -- the answer that goes on with the owner's area is the call's
  by_owner : {E : Type 0} (r : Result Called E) (y : Transaction) (go : Told → Area → Performed) (name : Bytes) → goes (owner_of x call) go name ≡ answer
      → IfOk r (λ (a : Called). (y, a) ≡ goes owner go name) → IfOk r (λ (a : Called). (y, a) ≡ answer)
  by_owner r y go name is = subst (λ (p : Performed). IfOk r (λ (a : Called). (y, a) ≡ p)) (ap (λ (o : Owner). goes o go name) of ∙ is)

  pub writes : {E : Type 0} (r : Result Called E) (y : Transaction) (name bytes : Bytes)
      → (call ≡ SputGb name bytes) ⊎ ((call ≡ SputUs name bytes) ⊎ (call ≡ Ptda name bytes))
      → IfOk r (λ (a : Called). (y, a) ≡ goes owner (λ v a. write_block v x a bytes) name) → IfOk r (λ (a : Called). (y, a) ≡ answer)
  unfolding called
  writes r y name bytes is = by_owner r y (λ v a. write_block v x a bytes) name (by is)
    where
      by : (call ≡ SputGb name bytes) ⊎ ((call ≡ SputUs name bytes) ⊎ (call ≡ Ptda name bytes)) → goes (owner_of x call) (λ v a. write_block v x a bytes) name ≡ answer
      by (inl e) = rw e refl
      by (inr (inl e)) = rw e refl
      by (inr (inr e)) = rw e refl

  pub reads : {E : Type 0} (r : Result Called E) (y : Transaction) (name : Bytes) (capacity : ℕ)
      → (call ≡ SgetUs name capacity) ⊎ (call ≡ Gtda name capacity)
      → IfOk r (λ (a : Called). (y, a) ≡ goes owner (λ v a. read_block v x a capacity) name) → IfOk r (λ (a : Called). (y, a) ≡ answer)
  unfolding called
  reads r y name capacity is = by_owner r y (λ v a. read_block v x a capacity) name (by is)
    where
      by : (call ≡ SgetUs name capacity) ⊎ (call ≡ Gtda name capacity) → goes (owner_of x call) (λ v a. read_block v x a capacity) name ≡ answer
      by (inl e) = rw e refl
      by (inr e) = rw e refl
