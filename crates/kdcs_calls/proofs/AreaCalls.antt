-- A call goes on with the area in its operand just as the definitions say, and so do the locks and the waits.
use Rattle.std.specs.Prelude.{◌≡◌, ⊤, refl, ℕ, Bool, true, false, ◌&&◌, Option, Some, None, Result, Ok, Err, IfOk, OnOk, if◌then◌else◌, option_map}
use Rattle.std.proofs.Common.{ap, sym, subst, ◌∙◌}
use Rattle.kdcs_types.specs.declared.key.Area.{Area}
use Rattle.kdcs_types.specs.declared.key.Area.TheVariants.{Gssb, Tls, Uls}
use Rattle.kdcs_types.specs.declared.call.Call.{Call}
use Rattle.kdcs_types.specs.declared.call.Call.TheVariants.{SgetGb, SputGb, SrelGb, SgetUs, SputUs, Gtda, Ptda, UnlkGb, UnlkUs, UnlkDa}
use Rattle.kdcs_types.specs.declared.call.Code.{Code}
use Rattle.kdcs_types.specs.declared.call.Code.TheVariants.{K03, K08, K11}
use Rattle.kdcs_types.specs.declared.key.ServiceId.{ServiceId}
use Rattle.kdcs_types.specs.Tables.{TableRows}
use Rattle.application_types.specs.Generation.{Generated}
use Rattle.monitor_parts.specs.Asked.{asked, unlocked as unlocked_locks}
use Rattle.abstract_monitor.specs.declared.answer.Called.{Called}
use Rattle.abstract_monitor.specs.declared.answer.Called.TheVariants.{Replied, Waits, Abnormal, Pends}
use Rattle.abstract_monitor.specs.Bytes.{Bytes}
use Rattle.abstract_monitor.specs.Calls.{Told, Performed, called, declared, deleted, locked, name_in_operand, or_empty, read_answer, read_block, read_or, replied, seen, unlocked, write_block, wrote}
use Rattle.abstract_monitor.specs.Endings.{is_asynchronous}
use Rattle.abstract_monitor.specs.Locks.{Locks, told_now}
use Rattle.abstract_monitor.specs.Statements.{area_of_call}
use Rattle.abstract_monitor.specs.State.{OpenTransaction as Transaction}
use Rattle.kdcs_calls.specs.Calling.{after_release, after_request, is_declared, locks_by_call, may_release}
use Rattle.kdcs_calls.specs.Parts.{area_by, asked_in, goes_on, in_area, released_in, told_of}
use Rattle.kdcs_calls.proofs.Holders.{IsQuiet}

-- SGET GB
abbrev read_area : Told → Transaction → Area → (capacity : ℕ) → Performed
read_area v x area capacity = locked v x area (λ y. read_or K03 y capacity (seen v y area))

-- SREL GB
abbrev delete_area : Told → Transaction → Area → Performed
delete_area v x area = locked v x area (λ y. deleted y area (seen v y area))

-- ---- what a call answers

module _ (g : Generated) (t : TableRows) (l : Locks) (id : ServiceId) (x : Transaction) (named : Bytes → Area) where
  area_call : (go : Told → Area → Performed) (o : Option Bytes) → in_area x (area_by g named o) (λ a. go (told_of g t l id a) a) ≡ goes_on g t l id x named go o
  unfolding told_now
  area_call go None = refl
  area_call go (Some name) = by (is_declared g (named name))
    where
      by : (b : Bool) → in_area x (if b then Ok (named name) else Err K08) (λ a. go (told_of g t l id a) a) ≡ declared x b (go (told_of g t l id (named name)) (named name))
      by true = refl
      by false = refl

  area_asked : (o : Option Bytes) → asked_in g t.clock l id (area_by g named o) ≡ after_request g t.clock l id (option_map named o)
  area_asked None = refl
  area_asked (Some name) = by (is_declared g (named name))
    where
      by : (b : Bool) → asked_in g t.clock l id (if b then Ok (named name) else Err K08) ≡ (if b then asked l g.limits.reswait t.clock id (named name) else l)
      by true = refl
      by false = refl

  area_released : (o : Option Bytes) → released_in l id x (area_by g named o) ≡ after_release g l id x (option_map named o)
  area_released None = refl
  area_released (Some name) = by (is_declared g (named name))
    where
      by : (b : Bool) → released_in l id x (if b then Ok (named name) else Err K08) ≡ (if b && may_release x (named name) then unlocked_locks l id (named name) else l)
      by true = refl
      by false = refl

  module _ {E : Type 0} (r : Result Called E) (o : Option Bytes) (area : Result Area Code) (is : area ≡ area_by g named o) where
    pub answers_in : (y : Transaction) (go : Told → Area → Performed) → IfOk r (λ (answer : Called). (y, answer) ≡ in_area x area (λ a. go (told_of g t l id a) a)) → IfOk r (λ (answer : Called). (y, answer) ≡ goes_on g t l id x named go o)
    answers_in y go h = subst (λ (p : Performed). IfOk r (λ (answer : Called). (y, answer) ≡ p)) (ap (λ (a : Result Area Code). in_area x a (λ a. go (told_of g t l id a) a)) is ∙ area_call go o) h

    pub locks_in : (new : Locks) → OnOk r (new ≡ asked_in g t.clock l id area) → OnOk r (new ≡ after_request g t.clock l id (option_map named o))
    locks_in new h = subst (λ (m : Locks). OnOk r (new ≡ m)) (ap (asked_in g t.clock l id) is ∙ area_asked o) h

    pub locks_out : (new : Locks) → OnOk r (new ≡ released_in l id x area) → OnOk r (new ≡ after_release g l id x (option_map named o))
    locks_out new h = subst (λ (m : Locks). OnOk r (new ≡ m)) (ap (released_in l id x) is ∙ area_released o) h

-- ---- what becomes of the locks and of the waits

abbrev pub IsReply : Called → Type 0
IsReply (Replied reply) = ⊤
IsReply Waits = ⊥
IsReply (Abnormal cause) = ⊥
IsReply (Pends variant o) = ⊥

-- a call that is answered, and whose transaction touches the same areas
abbrev pub IsPlain : Transaction → Performed → Type 0
IsPlain x p = IsQuiet x p × IsReply p.1

plain_read : (x : Transaction) (capacity : ℕ) (o : Option Bytes) → IsPlain x (read_or K03 x capacity o)
plain_read x capacity None = (refl, tt)
plain_read x capacity (Some bytes) = (refl, tt)

plain_delete : (x : Transaction) (area : Area) (o : Option Bytes) → IsPlain x (deleted x area o)
plain_delete x area None = (refl, tt)
plain_delete x area (Some bytes) = (refl, tt)

-- a call on no area but LSSBs
abbrev pub IsAlone : Call → Type 0
IsAlone (SgetGb name capacity) = ⊥
IsAlone (SputGb name bytes) = ⊥
IsAlone (SrelGb name) = ⊥
IsAlone (SgetUs name capacity) = ⊥
IsAlone (SputUs name bytes) = ⊥
IsAlone (Gtda name capacity) = ⊥
IsAlone (Ptda name bytes) = ⊥
IsAlone (UnlkGb name) = ⊥
IsAlone (UnlkUs name) = ⊥
IsAlone (UnlkDa name) = ⊥
IsAlone _ = ⊤

module _ (g : Generated) (t : TableRows) (l : Locks) (id : ServiceId) (x : Transaction) where
  -- what the definition says of a call
  abbrev pub answer_to : Call → Performed
  answer_to call = called g (told_now l g.limits.reswait t id (area_of_call x call)) (is_asynchronous id) x call

  -- what follows from refusals, from requests for a lock, from UNLK and from the calls on no area, follows from all
  module _ (Matches : Locks → Option Area → Performed → Type 0)
      (refuses : (area : Option Area) (code : Code) → Matches l area (replied x code))
      (locks : (area : Area) (go : Transaction → Performed) → ((y : Transaction) → IsPlain y (go y)) → Matches (asked l g.limits.reswait t.clock id area) (Some area) (locked (told_of g t l id area) x area go))
      (releases : (v : Told) (area : Area) → Matches (if may_release x area then unlocked_locks l id area else l) (Some area) (unlocked v x area))
      (alone : (call : Call) → IsAlone call → Matches l None (answer_to call)) where
    abbrev Asks : (go : Told → Area → Performed) → Type 0
    Asks go = (area : Area) → Matches (asked l g.limits.reswait t.clock id area) (Some area) (go (told_of g t l id area) area)

    asked_matches : (named : Bytes → Area) (go : Told → Area → Performed) → Asks go → (o : Option Bytes) → Matches (after_request g t.clock l id (option_map named o)) (option_map named o) (goes_on g t l id x named go o)
    unfolding told_now
    asked_matches named go asks None = refuses None K11
    asked_matches named go asks (Some name) = by (is_declared g (named name))
      where
        by : (b : Bool) → Matches (if b then asked l g.limits.reswait t.clock id (named name) else l) (Some (named name)) (declared x b (go (told_of g t l id (named name)) (named name)))
        by true = asks (named name)
        by false = refuses (Some (named name)) K08

    released_matches : (named : Bytes → Area) (o : Option Bytes) → Matches (after_release g l id x (option_map named o)) (option_map named o) (goes_on g t l id x named (λ v a. unlocked v x a) o)
    released_matches named None = refuses None K11
    released_matches named (Some name) = by (is_declared g (named name))
      where
        by : (b : Bool) → Matches (if b && may_release x (named name) then unlocked_locks l id (named name) else l) (Some (named name)) (declared x b (unlocked (told_now l g.limits.reswait t id (Some (named name))) x (named name)))
        by true = releases (told_now l g.limits.reswait t id (Some (named name))) (named name)
        by false = refuses (Some (named name)) K08

    reads : (capacity : ℕ) → Asks (λ (v : Told) (a : Area). read_area v x a capacity)
    reads capacity area = locks area (λ y. read_or K03 y capacity (seen (told_of g t l id area) y area)) (λ y. plain_read y capacity (seen (told_of g t l id area) y area))

    reads_block : (capacity : ℕ) → Asks (λ (v : Told) (a : Area). read_block v x a capacity)
    reads_block capacity area = locks area (λ y. read_answer y capacity (or_empty (seen (told_of g t l id area) y area))) (λ y. (refl, tt))

    writes : (bytes : Bytes) → Asks (λ (v : Told) (a : Area). write_block v x a bytes)
    writes bytes area = locks area (λ y. wrote y area (Some bytes)) (λ y. (refl, tt))

    deletes : Asks (λ (v : Told) (a : Area). delete_area v x a)
    deletes area = locks area (λ y. deleted y area (seen (told_of g t l id area) y area)) (λ y. plain_delete y area (seen (told_of g t l id area) y area))

    abbrev uls : Bytes → Area
    uls block = Uls block x.user

    abbrev tls : Bytes → Area
    tls block = Tls block x.lterm

    matches : (call : Call) → Matches (locks_by_call g t.clock l id x call) (area_of_call x call) (answer_to call)
    unfolding called
    matches (SgetGb name capacity) = asked_matches Gssb (λ v a. read_area v x a capacity) (reads capacity) (name_in_operand name)
    matches (SputGb name bytes) = asked_matches Gssb (λ v a. write_block v x a bytes) (writes bytes) (name_in_operand name)
    matches (SrelGb name) = asked_matches Gssb (λ v a. delete_area v x a) deletes (name_in_operand name)
    matches (SgetUs name capacity) = asked_matches uls (λ v a. read_block v x a capacity) (reads_block capacity) (name_in_operand name)
    matches (SputUs name bytes) = asked_matches uls (λ v a. write_block v x a bytes) (writes bytes) (name_in_operand name)
    matches (Gtda name capacity) = asked_matches tls (λ v a. read_block v x a capacity) (reads_block capacity) (name_in_operand name)
    matches (Ptda name bytes) = asked_matches tls (λ v a. write_block v x a bytes) (writes bytes) (name_in_operand name)
    matches (UnlkGb name) = released_matches Gssb (name_in_operand name)
    matches (UnlkUs name) = released_matches uls (name_in_operand name)
    matches (UnlkDa name) = released_matches tls (name_in_operand name)
    matches call = alone call tt

    pub performed_matches : {E : Type 0} (call : Call) (new : Locks) (y : Transaction) (r : Result Called E)
        → IfOk r (λ (answer : Called). (y, answer) ≡ answer_to call)
        → OnOk r (new ≡ locks_by_call g t.clock l id x call)
        → IfOk r (λ (answer : Called). Matches new (area_of_call x call) (y, answer))
    performed_matches call new y (Ok answer) exact after =
        subst (λ (m : Locks). Matches m (area_of_call x call) (y, answer)) (sym after)
        (subst (λ (p : Performed). Matches (locks_by_call g t.clock l id x call) (area_of_call x call) p) (sym exact) (matches call))
    performed_matches call new y (Err e) exact after = tt
