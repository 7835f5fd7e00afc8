-- The update of a device, by that of the store that was opened from it.
use Rattle.std.proofs.Common.{◌≡◌, ◌⊎◌, inl, inr, ℕ, List, ◌++◌, sym, ap, subst, ◌∙◌, arith}
use Rattle.std.specs.Prelude.{IsTrue}
use Rattle.kd_device.specs.Device.{State, LeavesOnly, Only}
use Rattle.kd_device.specs.Rest.{Before, Rests}
use Rattle.kd_device.specs.RestLaws.{rests_then}
use Rattle.kd_device.specs.TimeLaws.{leaves_weaker, leaves_then}
use Rattle.kd_records.specs.Identity.{Identity}
use Rattle.kdcs_types.specs.Tables.{TableRows}
use Rattle.application_types.specs.Generation.{Generated}
use Rattle.abstract_monitor.specs.Trace.{bytes_of}
use Rattle.laws_of_states.specs.Suits.{SuitsFrom}
use Rattle.device_acts.specs.MeaningLaws.{one_meaning_of_tables}
use Rattle.device_acts.specs.Opening.{HasNoTablesFor}
use Rattle.device_acts.specs.Stands.{StandsForTables}
use Rattle.kd_update.specs.declared.error.UpdateError.{UpdateError}
use Rattle.device_acts.specs.Acting.{WritesUpTo}
use Rattle.device_acts.specs.Said.{SameDisk}
use Rattle.kdcfile_update.specs.Parts.{IsRefusedAs, IsUnsuited, WithinUpdate}
use Rattle.kdcfile_update.specs.Updating.{Stored, IsTaken, IsUpToDate, IsUpdateCut, IsUpdated, RefusesAs, Takes, UpdateWrites, report_of, update_most}
use Rattle.kdcfile_update.specs.UpdatingLaws.{stored_once}

-- what the update did to the device that the file was opened from
pub record IsUpdateOf (g : Generated) (fingerprint : List ℕ) (a d : State) (la ld : ℕ → List ℕ → List ℕ → Type 0) : Type 0 where
  pub still : ((u : Stored) → Takes g fingerprint a.holds u → ⊥) → Rests a d la ld
  pub any_moment : Only a.holds a la → (u : Stored) → Takes g fingerprint a.holds u → LeavesOnly a d la ld (IsUpdateCut g fingerprint u a.sent)
  pub written : UpdateWrites g fingerprint a d
  pub left : (u : Stored) → Takes g fingerprint a.holds u → IsUpToDate g fingerprint u → SameDisk a d

module _ (g : Generated) (fingerprint : List ℕ) where
  -- ---- a refusal

  module _ (bytes : List ℕ) (s : Stored) (stands : StandsForTables s.identity s.tables bytes) where
    unsuited_none : IsUnsuited g fingerprint s → HasNoTablesFor g fingerprint bytes
    unsuited_none h = record {
      own_texts = λ i t other. ap (λ (j : Identity). j.fingerprint) (one_meaning_of_tables i s.identity t s.tables bytes other stands).0 ∙ h.own_texts;
      unsuited = λ i t other suits.
          let same = one_meaning_of_tables i s.identity t s.tables bytes other stands in
          h.unsuited (subst (λ (u : TableRows). SuitsFrom g s.identity.blksize s.identity.pages u) same.1 (subst (λ (j : Identity). SuitsFrom g j.blksize j.pages t) same.0 suits));
    }

    pub refuses_as : (why : UpdateError) → IsRefusedAs g fingerprint s why → RefusesAs g fingerprint bytes why
    refuses_as why (inl h) = inl (h.0, unsuited_none h.1)
    refuses_as why (inr h) = inr (record { stored = s; stands = stands; differs = h.differs; judged = h.judged })

  module _ (a b : State) (la lb : ℕ → List ℕ → List ℕ → Type 0) (rests : Rests a b la lb) where
    -- ---- the opening alone

    rests_cut : Only a.holds a la → (s : Stored) → StandsForTables s.identity s.tables a.holds → LeavesOnly a b la lb (IsUpdateCut g fingerprint s a.sent)
    rests_cut only s stands =
        leaves_weaker a b la lb (Before a la) (IsUpdateCut g fingerprint s a.sent) rests.leaves
        (λ c out before. inl (before.0, subst (λ (bytes : List ℕ). StandsForTables s.identity s.tables bytes) (sym (only c before.1)) stands))

    -- ---- and what came after it

    module _ (d : State) (ld : ℕ → List ℕ → List ℕ → Type 0) (s : Stored) (stands : StandsForTables s.identity s.tables a.holds) where
      takes : IsTaken g fingerprint s → Takes g fingerprint a.holds s
      takes how = record { stands = stands; how = how }

      same_stored : (u : Stored) → Takes g fingerprint a.holds u → s ≡ u
      same_stored u h = stored_once a.holds s u stands h.stands

      pub then_updated : IsTaken g fingerprint s × IsUpdated g fingerprint s b d ld → (u : Stored) × Takes g fingerprint a.holds u × IsUpdated g fingerprint u a d ld
      then_updated h = (
        s,
        takes h.0,
        record { sent = h.1.sent ∙ ap (λ (z : List ℕ). z ++ bytes_of (report_of g fingerprint s)) rests.sent; holds = h.1.holds; at_rest = h.1.at_rest },
      )

      module _ (h : WithinUpdate g fingerprint s b d lb ld) (told : IsTrue b.told) where
        then_still : ((u : Stored) → Takes g fingerprint a.holds u → ⊥) → Rests a d la ld
        then_still none = rests_then a b la lb d ld rests (h.still told (λ how. none s (takes how)))

        then_cut : Only a.holds a la → (u : Stored) → Takes g fingerprint a.holds u → LeavesOnly a d la ld (IsUpdateCut g fingerprint u a.sent)
        then_cut only u taken =
            subst (λ (v : Stored). LeavesOnly a d la ld (IsUpdateCut g fingerprint v a.sent)) (same_stored u taken)
            (leaves_then a b la lb d ld (IsUpdateCut g fingerprint s a.sent) (rests_cut only s stands)
            (subst (λ (z : List ℕ). LeavesOnly b d lb ld (IsUpdateCut g fingerprint s z)) rests.sent (h.any_moment told)))

        writes_by : (d.put ≡ b.put) ⊎ (IsTaken g fingerprint s × WritesUpTo (λ acts. update_most g fingerprint s) (report_of g fingerprint s) b d) → UpdateWrites g fingerprint a d
        writes_by (inl none) = inl (none ∙ rests.put)
        writes_by (inr (how, w)) =
            let put = rests.put in
            inr (
              s,
              takes how,
              record { since = w.since; more = w.more ∙ ap (λ (z : List ℕ). z ++ w.since) rests.sent; done = w.done; left = w.left; whole = w.whole; bytes = w.bytes; put = omega (arith, w.put, put) },
            )

        then_writes : UpdateWrites g fingerprint a d
        then_writes = writes_by (h.written told)

        then_left : (u : Stored) → Takes g fingerprint a.holds u → IsUpToDate g fingerprint u → SameDisk a d
        then_left u taken up =
            let same = h.left told (subst (IsUpToDate g fingerprint) (sym (same_stored u taken)) up) in
            record { holds = same.holds ∙ rests.holds; put = same.put ∙ rests.put }

        pub then_is : IsUpdateOf g fingerprint a d la ld
        then_is = record { still = then_still; any_moment = then_cut; written = then_writes; left = then_left }
