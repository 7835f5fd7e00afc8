-- Laws: cuts of acts, and of a call that did nothing.
use Rattle.std.proofs.Common.{◌≡◌, inl, inr, ⊎_elim, ℕ, List, [], ◌∷◌, ◌++◌, refl, sym, subst, ◌∙◌, arith}
use Rattle.std.proofs.lemmas.List.{append-nil}
use Rattle.kd_device.specs.Device.{State, LeavesOnly, Only}
use Rattle.kdcs_types.specs.declared.act.Act.{Act}
use Rattle.kdcs_types.specs.declared.act.Act.TheVariants.{Emit}
use Rattle.kdcs_types.specs.Tables.{TableRows}
use Rattle.abstract_monitor.specs.Trace.{tables_after, bytes_of}
use Rattle.device_acts.specs.Stands.{StandsForTables}
use Rattle.device_acts.specs.Acting.{IsCutOf}
use Rattle.device_run.specs.Running.{IsCutSince}
use Rattle.kdcfile_update.specs.Updating.{Stored}
use Rattle.call_parts.specs.Asking.{Errand}
use Rattle.call_parts.specs.Opening.{Opens, identity_of}
use Rattle.utm_cli.specs.Doing.{StartsBy, Starts, tables_by, acts_of}
use Rattle.utm_cli.specs.Promise.{IsCutOver, IsCutBy, IsCutOfRun}
use Rattle.call_parts.specs.declared.words.Word.{Word}
use Rattle.call_parts.specs.declared.words.Word.TheVariants.{Gen, Run, Show, Update, Trail, Audit, Make}

pub bytes_of_line : (line : List ℕ) (rest : List Act) → bytes_of (Emit line ∷ rest) ≡ line ++ bytes_of rest
unfolding bytes_of
bytes_of_line line rest = refl

module _ (stands : TableRows → List ℕ → Type 0) (start : TableRows) (all : List Act) (sent : List ℕ) where
  -- nothing was done
  pub cut_none : (image : List ℕ) → stands start image → IsCutSince stands start all sent image sent
  unfolding tables_after bytes_of
  cut_none image file = record { since = []; more = sym (append-nil sent); cut = record { done = []; left = all; whole = refl; file = file; bytes = inl refl } }

  pub cut_since : (image out : List ℕ) → IsCutOf tables_after stands start all sent image out → IsCutSince stands start all sent image out
  cut_since image out h = record { since = h.since; more = h.more; cut = record { done = h.done; left = h.left; whole = h.whole; file = h.file; bytes = h.bytes } }

-- ---- a call that did nothing

module _ (e : Errand) (acts : List Act) (t : TableRows) (a : State) (starts : Opens e a.holds t) where
  pub as_it_was : (image out : List ℕ) → image ≡ a.holds → out ≡ a.sent → IsCutOver (identity_of e) acts t a image out
  as_it_was image out same silent = by starts
    where
      by : Opens e a.holds t → IsCutOver (identity_of e) acts t a image out
      by (inl (empty, is)) = inr (record { empty = empty; silent = silent; unmade = inl (same ∙ empty) })
      by (inr (stands, suits)) =
          inl (subst (λ (o : List ℕ). IsCutSince (StandsForTables (identity_of e)) t acts a.sent image o) (sym silent)
          (cut_none (StandsForTables (identity_of e)) t acts a.sent image (subst (λ (l : List ℕ). StandsForTables (identity_of e) t l) (sym same) stands)))

-- nothing was done
unchanged_by : (word : Word) (e : Errand) (acts : List Act) (s : Stored) (a : State) → StartsBy word e a.holds s → (image out : List ℕ) → image ≡ a.holds → out ≡ a.sent → IsCutBy word (identity_of e) acts (tables_by word e s) s a image out
unchanged_by Gen e acts s a from image out same silent = as_it_was e acts s.tables a from.opens image out same silent
unchanged_by Run e acts s a from image out same silent = as_it_was e acts s.tables a from.opens image out same silent
unchanged_by Show e acts s a from image out same silent = (same, (0, silent ∙ sym (append-nil a.sent)))
unchanged_by Update e acts s a from image out same silent = inl (record { silent = silent; stands = subst (λ (l : List ℕ). StandsForTables s.identity s.tables l) (sym same) from.stands })
unchanged_by Trail e acts s a from image out same silent = (same, (0, silent ∙ sym (append-nil a.sent)))
unchanged_by Audit e acts s a from image out same silent = (same, (0, silent ∙ sym (append-nil a.sent)))
unchanged_by (Make n) e acts s a from image out same silent = (same, (0, silent ∙ sym (append-nil a.sent)))

pub unchanged_cut : (e : Errand) (s : Stored) (a : State) → Starts e a.holds s → (image out : List ℕ) → image ≡ a.holds → out ≡ a.sent → IsCutOfRun e s a image out
unchanged_cut e s a from image out same silent = unchanged_by e.word e (acts_of e s) s a from image out same silent

-- ---- what a stop leaves of a call

module _ (e : Errand) (s : Stored) (a d : State) (la ld : ℕ → List ℕ → List ℕ → Type 0) (only : Only a.holds a la) (starts : Starts e a.holds s) (silent : (c out : List ℕ) → la a.moment c out → out ≡ a.sent) where
  pub cut_at_call : (image out : List ℕ) → la a.moment image out → IsCutOfRun e s a image out
  cut_at_call image out left =
      let same = silent image out left in
      unchanged_cut e s a starts image out (only image (subst (λ (o : List ℕ). la a.moment image o) same left)) same

  pub cut_since_call : LeavesOnly a d la ld (IsCutOfRun e s a) → (image out : List ℕ) → ld a.moment image out → IsCutOfRun e s a image out
  cut_since_call h image out left = ⊎_elim (λ past. cut_at_call image out past) (λ cut. cut) (h.only a.moment image out (omega arith) left)
