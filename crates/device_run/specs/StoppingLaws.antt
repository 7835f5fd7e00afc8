-- Laws: a run that stopped, seen from before calls that sent nothing, as from before its files were opened.
use Rattle.std.proofs.Common.{◌≡◌, ◌⊎◌, inl, inr, ◌≤◌, ℕ, List, ◌++◌, ap, subst, ◌∙◌, arith}
use Rattle.kd_device.specs.Device.{State, Rose}
use Rattle.kdcs_types.specs.Tables.{TableRows}
use Rattle.kdcs_types.specs.declared.act.Act.{Act}
use Rattle.abstract_monitor.specs.Bytes.{Bytes}
use Rattle.abstract_monitor.specs.Trace.{bytes_of, tables_after}
use Rattle.abstract_monitor.specs.declared.command.Command.{Command}
use Rattle.monitor_core.specs.CoreSteps.{durable_of}
use Rattle.monitor_core.specs.CoreValue.{CoreValue}
use Rattle.device_acts.specs.Acting.{HaltsAt, IsCutOf}
use Rattle.device_run.specs.Running.{StoppedIn, acts_before, acts_then}

module _ (a b d : State) (sent : b.sent ≡ a.sent) (lines : a.line_faults ≤ b.line_faults) where
  pub stopped_after : (stands : TableRows → Bytes → Type 0) (c : CoreValue) (script : List Command) (n : ℕ) (image : Bytes) → StoppedIn stands c script n b d image → StoppedIn stands c script n a d image
  stopped_after stands c script n image h = record {
    command = h.command;
    rest = h.rest;
    split = h.split;
    part = subst (λ (s : Bytes). IsCutOf tables_after stands (tables_after (durable_of c) (acts_before c script n)) (acts_then c script n h.command) (s ++ bytes_of (acts_before c script n)) image d.sent) sent h.part;
    restart = λ restart. said (h.restart restart);
  }
    where
      said : (d.sent ≡ b.sent ++ bytes_of (acts_before c script n)) ⊎ Rose b.line_faults d.line_faults → (d.sent ≡ a.sent ++ bytes_of (acts_before c script n)) ⊎ Rose a.line_faults d.line_faults
      said (inl same) = inl (same ∙ ap (λ (s : Bytes). s ++ bytes_of (acts_before c script n)) sent)
      said (inr rose) = inr (omega (arith, lines, rose))

  pub halted_after : (acts : List Act) → Rose b.line_faults d.line_faults ⊎ HaltsAt acts b d → Rose a.line_faults d.line_faults ⊎ HaltsAt acts a d
  halted_after acts (inl rose) = inl (omega (arith, lines, rose))
  halted_after acts (inr h) = inr (record { done = h.done; next = h.next; left = h.left; asks = h.asks; whole = h.whole; sent = h.sent ∙ ap (λ (s : Bytes). s ++ bytes_of h.done) sent })
