-- A call over its store: the opening, and what is done then.
use Rattle.std.proofs.Common.{◌≡◌, inl, inr, ⊎_elim, ℕ, List, [], ◌++◌, take, sym, ap, subst, ◌∙◌}
use Rattle.std.proofs.lemmas.List.{append-nil}
use Rattle.kd_device.specs.Device.{State, LeavesOnly, Only}
use Rattle.kd_device.specs.TimeLaws.{leaves_weaker, leaves_then}
use Rattle.kd_device.specs.Rest.{Rests}
use Rattle.kdcs_types.specs.declared.act.Act.{Act}
use Rattle.kdcs_types.specs.Tables.{TableRows, empty_tables}
use Rattle.abstract_monitor.specs.Trace.{tables_after}
use Rattle.device_acts.specs.Stands.{StandsForTables}
use Rattle.device_acts.specs.Opening.{IsOpening, IsBeingMade}
use Rattle.device_acts.specs.MeaningLaws.{nothing_stands, answers_exclude_each_other}
use Rattle.device_acts.specs.Said.{Said, SaidPart}
use Rattle.device_acts.specs.Acting.{IsCutOf}
use Rattle.device_run.specs.Running.{IsCutSince}
use Rattle.call_parts.specs.Asking.{Errand}
use Rattle.call_parts.specs.Opening.{Opens, identity_of}
use Rattle.utm_cli.specs.Doing.{own, acts_of}
use Rattle.utm_cli.specs.Promise.{IsCutOver}
use Rattle.utm_cli.specs.CutsLaws.{as_it_was, cut_none, cut_since}

-- ---- what a stop leaves

module _ (e : Errand) (acts : List Act) (t : TableRows) (a : State) (starts : Opens e a.holds t) where
  new_file : (image out : List ℕ) → a.holds ≡ [] → out ≡ a.sent → StandsForTables (identity_of e) empty_tables image → IsCutOver (identity_of e) acts t a image out
  new_file image out none silent made = by starts
    where
      by : Opens e a.holds t → IsCutOver (identity_of e) acts t a image out
      by (inl (empty, is)) =
          inl (subst (λ (o : List ℕ). IsCutSince (StandsForTables (identity_of e)) t acts a.sent image o) (sym silent)
          (cut_none (StandsForTables (identity_of e)) t acts a.sent image (subst (λ (u : TableRows). StandsForTables (identity_of e) u image) (sym is) made)))
      by (inr (old, suits)) = absurd (nothing_stands (identity_of e) t (subst (λ (l : List ℕ). StandsForTables (identity_of e) t l) none old))

module _ (e : Errand) (t : TableRows) (a : State) (la : ℕ → List ℕ → List ℕ → Type 0) (only : Only a.holds a la) (starts : Opens e a.holds t) where
  in_opening : (image out : List ℕ) → IsOpening (identity_of e) a la image out → IsCutOver (identity_of e) (acts_of e (own e t)) t a image out
  in_opening image out o = ⊎_elim (λ left. as_it_was e (acts_of e (own e t)) t a starts image out (only image left) o.silent) (λ made. made_cut made) o.file
    where
      made_cut : IsBeingMade (identity_of e) a image → IsCutOver (identity_of e) (acts_of e (own e t)) t a image out
      made_cut made =
          ⊎_elim (λ none. inr (record { empty = made.empty; silent = o.silent; unmade = inr none })) (λ stands. new_file e (acts_of e (own e t)) t a starts image out made.empty o.silent stands) made.image_is

  -- the opening alone
  pub opening_cut : (b : State) (lb : ℕ → List ℕ → List ℕ → Type 0) → LeavesOnly a b la lb (IsOpening (identity_of e) a la) → LeavesOnly a b la lb (IsCutOver (identity_of e) (acts_of e (own e t)) t a)
  opening_cut b lb h = leaves_weaker a b la lb (IsOpening (identity_of e) a la) (IsCutOver (identity_of e) (acts_of e (own e t)) t a) h in_opening

  -- the opening, and the acts from the tables that it answers
  pub run_cut : (u : TableRows) (b d : State) (lb ld : ℕ → List ℕ → List ℕ → Type 0) → Opens e a.holds u → LeavesOnly a b la lb (IsOpening (identity_of e) a la) → b.sent ≡ a.sent
      → LeavesOnly b d lb ld (IsCutOf tables_after (StandsForTables (identity_of e)) u (acts_of e (own e u)) b.sent) → LeavesOnly a d la ld (IsCutOver (identity_of e) (acts_of e (own e t)) t a)
  run_cut u b d lb ld from first silent h =
      leaves_then a b la lb d ld (IsCutOver (identity_of e) (acts_of e (own e t)) t a) (opening_cut b lb first)
      (leaves_weaker b d lb ld (IsCutOf tables_after (StandsForTables (identity_of e)) u (acts_of e (own e u)) b.sent) (IsCutOver (identity_of e) (acts_of e (own e t)) t a) h (λ c out cut. inl (here c out cut)))
    where
      here : (c out : List ℕ) → IsCutOf tables_after (StandsForTables (identity_of e)) u (acts_of e (own e u)) b.sent c out → IsCutSince (StandsForTables (identity_of e)) t (acts_of e (own e t)) a.sent c out
      here c out cut =
          subst (λ (v : TableRows). IsCutSince (StandsForTables (identity_of e)) v (acts_of e (own e v)) a.sent c out) ((answers_exclude_each_other e.application.generation e.fingerprint a.holds).started_once u t from starts)
          (subst (λ (s : List ℕ). IsCutSince (StandsForTables (identity_of e)) u (acts_of e (own e u)) s c out) silent (cut_since (StandsForTables (identity_of e)) u (acts_of e (own e u)) b.sent c out cut))

-- ---- what was said after calls that changed nothing

module _ (line : List ℕ) (a b d : State) (la lb : ℕ → List ℕ → List ℕ → Type 0) (rests : Rests a b la lb) where
  pub said_then : Said line b d → Said line a d
  said_then said = record {
    disk = record { holds = said.disk.holds ∙ rests.holds; put = said.disk.put ∙ rests.put };
    sent = said.sent ∙ ap (λ (s : List ℕ). s ++ line) rests.sent;
  }

  pub part_then : SaidPart line b d → SaidPart line a d
  part_then said = record {
    disk = record { holds = said.disk.holds ∙ rests.holds; put = said.disk.put ∙ rests.put };
    sent = (said.sent.0, said.sent.1 ∙ ap (λ (s : List ℕ). s ++ take said.sent.0 line) rests.sent);
  }

-- nothing was said
pub nothing_said : (line : List ℕ) (a b : State) (la lb : ℕ → List ℕ → List ℕ → Type 0) → Rests a b la lb → SaidPart line a b
nothing_said line a b la lb rests = record { disk = record { holds = rests.holds; put = rests.put }; sent = (0, rests.sent ∙ sym (append-nil a.sent)) }
