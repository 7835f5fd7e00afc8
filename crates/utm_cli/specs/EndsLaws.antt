-- Laws: the lines of a cut are a front of all lines.
use Rattle.std.proofs.Common.{◌≡◌, inl, inr, ℕ, List, ◌++◌, length, take, drop, refl, sym, ap, ◌∙◌, append_assoc}
use Rattle.std.proofs.lemmas.List.{append-nil, take_at, take-append-drop}
use Rattle.kd_device.specs.Device.{State}
use Rattle.kd_records.specs.Identity.{Identity}
use Rattle.kdcs_types.specs.Tables.{TableRows}
use Rattle.kdcs_types.specs.declared.act.Act.{Act}
use Rattle.abstract_monitor.specs.Trace.{bytes_of}
use Rattle.laws_of_states.specs.Cut.{SentBy}
use Rattle.device_run.specs.Running.{IsCutSince}
use Rattle.kdcfile_update.specs.Updating.{Stored}
use Rattle.call_parts.specs.declared.words.Word.{Word}
use Rattle.call_parts.specs.declared.words.Word.TheVariants.{Gen, Run, Show, Update, Trail, Audit, Make}
use Rattle.call_parts.specs.Asking.{Errand}
use Rattle.call_parts.specs.Opening.{identity_of}
use Rattle.utm_cli.specs.Doing.{tables_of, acts_of}
use Rattle.utm_cli.specs.Promise.{IsCutOver, IsCutOfUpdate, IsCutBy, IsCutOfRun, EndsInCut}
use Rattle.utm_cli.specs.CutsLaws.{bytes_of_line}
use Rattle.device_acts.specs.ActingLaws.{bytes_joined}

front_of : (whole first rest : List ℕ) → whole ≡ first ++ rest → (n : ℕ) × (first ≡ take n whole)
front_of whole first rest e = (length first, sym (ap (λ (l : List ℕ). take (length first) l) e ∙ take_at first rest (length first) refl))

-- what is not sent yet
behind : (done left : List Act) (out : List ℕ) → SentBy done left out → (rest : List ℕ) × (bytes_of (done ++ left) ≡ out ++ rest)
behind done left out (inl is) = (bytes_of left, bytes_joined done left ∙ ap (λ (l : List ℕ). l ++ bytes_of left) (sym is))
behind done left out (inr (line, rest, next, n, is)) = (
  drop n line ++ bytes_of rest,
  bytes_joined done left
      ∙ ap (λ (l : List ℕ). bytes_of done ++ l) (ap bytes_of next ∙ bytes_of_line line rest ∙ ap (λ (l : List ℕ). l ++ bytes_of rest) (sym (take-append-drop n line)) ∙ append_assoc (take n line) (drop n line) (bytes_of rest))
      ∙ sym (append_assoc (bytes_of done) (take n line) (drop n line ++ bytes_of rest))
      ∙ ap (λ (l : List ℕ). l ++ (drop n line ++ bytes_of rest)) (sym is),
)

front_of_cut : (stands : TableRows → List ℕ → Type 0) (t : TableRows) (all : List Act) (sent image out : List ℕ) → IsCutSince stands t all sent image out → (n : ℕ) × (out ≡ sent ++ take n (bytes_of all))
front_of_cut stands t all sent image out h =
    let rest = behind h.cut.done h.cut.left h.since h.cut.bytes in
    let front = front_of (bytes_of all) h.since rest.0 (ap bytes_of h.cut.whole ∙ rest.1) in
    (front.0, h.more ∙ ap (λ (l : List ℕ). sent ++ l) front.1)

front_over : (i : Identity) (acts : List Act) (t : TableRows) (a : State) (image out : List ℕ) → IsCutOver i acts t a image out → (n : ℕ) × (out ≡ a.sent ++ take n (bytes_of acts))
front_over i acts t a image out (inl cut) = front_of_cut _ t acts a.sent image out cut
front_over i acts t a image out (inr unmade) = (0, unmade.silent ∙ sym (append-nil a.sent))

front_updated : (i : Identity) (acts : List Act) (t : TableRows) (s : Stored) (a : State) (image out : List ℕ) → IsCutOfUpdate i acts t s a image out → (n : ℕ) × (out ≡ a.sent ++ take n (bytes_of acts))
front_updated i acts t s a image out (inl old) = (0, old.silent ∙ sym (append-nil a.sent))
front_updated i acts t s a image out (inr cut) = front_of_cut _ t acts a.sent image out cut

front_by : (word : Word) (i : Identity) (acts : List Act) (t : TableRows) (s : Stored) (a : State) (image out : List ℕ) → IsCutBy word i acts t s a image out → (n : ℕ) × (out ≡ a.sent ++ take n (bytes_of acts))
front_by Gen i acts t s a image out cut = front_over i acts t a image out cut
front_by Run i acts t s a image out cut = front_over i acts t a image out cut
front_by Show i acts t s a image out cut = cut.1
front_by Update i acts t s a image out cut = front_updated i acts t s a image out cut
front_by Trail i acts t s a image out cut = cut.1
front_by Audit i acts t s a image out cut = cut.1
front_by (Make n) i acts t s a image out cut = cut.1

pub ends : (e : Errand) (s : Stored) (a d : State) → IsCutOfRun e s a d.holds d.sent → EndsInCut e s a d
ends e s a d cut = record { cut = cut; front = front_by e.word (identity_of e) (acts_of e s) (tables_of e s) s a d.holds d.sent cut }
