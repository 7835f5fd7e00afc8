-- Steps of a replay.
use Rattle.std.proofs.Common.{◌≡◌, ℕ, ◌+◌, ◌-◌, ◌<◌, ◌≤◌, min, List, [], ◌∷◌, ◌++◌, length, take, drop, get_or, Result, Ok, Err, inl, sym, ap, subst, ◌∙◌, arith, zero, suc}
use Rattle.std.specs.Prelude.{OnOk}
use Rattle.std.proofs.lemmas.List.{drop-drop, take_more, map_push, take-map, length-take}
use Rattle.kd_device.specs.declared.call.Call.{Call}
use Rattle.kd_device.specs.Device.{Torn, written}
use Rattle.kd_device.specs.History.{Event, Disk, Moment, Torns, StopLeaves, AllDone, IsDone, AtRest, Since, step_on, step, after}
use Rattle.kd_device.specs.Recording.{Recording, event, events, IsInside, AllInside}
use Rattle.kd_device.specs.HistoryLaws.{torns_push}
use Rattle.kd_device.specs.TornLaws.{torn_over}
use Rattle.kd_device.proofs.Grows.{after_push}

pub torn_step : (d : Disk) (at upto first : ℕ) (bytes image image' : List ℕ) → bytes ≡ d.bytes → first ≡ min at (length bytes) → StopLeaves d image → Torn first upto image image' → Torns (d.pending ++ (min at (length d.bytes), upto) ∷ []) d.base image'
torn_step d at upto first bytes image image' same is torns torn =
    torns_push d.pending (min at (length d.bytes), upto) d.base image image' torns (subst (λ (n : ℕ). Torn n upto image image') (is ∙ ap (λ (l : List ℕ). min at (length l)) same) torn)

pub torn_ok : {E : Type 0} (r : Result Unit E) (old new : List ℕ) (from at : ℕ) (bytes : List ℕ) → from ≤ at → from ≤ length old → OnOk r (new ≡ written old at bytes) → OnOk r (Torn from (at + length bytes) old new)
torn_ok (Ok x) old new from at bytes le short e = subst (λ (l : List ℕ). Torn from (at + length bytes) old l) (sym e) (torn_over old from at bytes le short)
torn_ok (Err x) old new from at bytes le short e = tt

pub inside_at : (n : ℕ) (calls : List Call) (i : ℕ) (d : Call) → AllInside n calls → i < length calls → IsInside n (get_or calls i d)
inside_at n [] i d h lt = absurd (omega arith)
inside_at n (x ∷ calls) zero d h lt = h.0
inside_at n (x ∷ calls) (suc i) d h lt = inside_at n calls i d h.1 (omega arith)

pub inside_take : (n : ℕ) (k : ℕ) (calls : List Call) → AllInside n calls → AllInside n (take k calls)
inside_take n zero calls h = tt
inside_take n (suc k) [] h = tt
inside_take n (suc k) (x ∷ calls) h = (h.0, inside_take n k calls h.1)

-- a disk after one call more
pub after_more : (disk : ℕ) (s : Moment) (kept : List ℕ) (calls : List Call) (i : ℕ) (d : Call) → i < length calls → (after s (events kept (take (i + 1) calls))).disk disk ≡ step_on disk (event kept (get_or calls i d)) ((after s (events kept (take i calls))).disk disk)
after_more disk s kept calls i d lt =
    ap (λ (l : List Call). (after s (events kept l)).disk disk) (take_more calls i d lt)
    ∙ ap (λ (l : List Event). (after s l).disk disk) (map_push (event kept) (take i calls) (get_or calls i d))
    ∙ ap (λ (x : Moment). x.disk disk) (after_push s (events kept (take i calls)) (event kept (get_or calls i d)))

pub done_at : (kept : List ℕ) (calls : List Call) (i : ℕ) (d : Call) → AllDone (events kept calls) → i < length calls → IsDone (event kept (get_or calls i d))
done_at kept [] i d h lt = absurd (omega arith)
done_at kept (x ∷ calls) zero d h lt = h.0
done_at kept (x ∷ calls) (suc i) d h lt = done_at kept calls i d h.1 (omega arith)

-- a stop after the first calls is one since then
pub rest_left : (P : (ℕ → Disk) → Type 0) (k : ℕ) (s : Moment) (es : List Event) (out : List ℕ) → k ≤ length es → AtRest P (after s (take k es)) out → Since P k s es out
rest_left P zero s [] out le rest = rest
rest_left P zero s (e ∷ es) out le rest = inl rest
rest_left P (suc k) s [] out le rest = absurd (omega arith)
rest_left P (suc k) s (e ∷ es) out le rest = rest_left P k (step s e) es out (omega arith) rest

-- the first calls
pub front_is : (r : Recording) (kept kept' : List ℕ) (calls calls' : List Call) (call : ℕ) → events kept calls ≡ r.events → kept' ≡ kept → calls' ≡ calls → events kept' (take call calls') ≡ take call r.events
front_is r kept kept' calls calls' call es k' c' = rw (k', c', ← es) (sym (take-map (event kept) call calls))

-- a write of the first bytes alone
pub torn_part : {E : Type 0} (r : Result Unit E) (old new : List ℕ) (from at n : ℕ) (bytes : List ℕ) → OnOk r (Torn from (at + length (take n bytes)) old new) → OnOk r (Torn from (at + length bytes) old new)
torn_part (Ok x) old new from at n bytes h =
    let more = at + length bytes - (at + length (take n bytes)) in
    let upto : at + length (take n bytes) + more ≡ at + length bytes = omega (arith, length-take n bytes) in
    record {
      before = h.before;
      after = subst (λ (k : ℕ). drop k new ≡ drop k old) upto (sym (drop-drop more (at + length (take n bytes)) new) ∙ ap (λ (l : List ℕ). drop more l) h.after ∙ drop-drop more (at + length (take n bytes)) old);
      no_shorter = h.no_shorter;
      no_longer = omega (arith, h.no_longer, length-take n bytes);
    }
torn_part (Err x) old new from at n bytes h = tt
