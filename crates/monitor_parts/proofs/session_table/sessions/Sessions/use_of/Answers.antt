use Rattle.std.proofs.Common.{◌≡◌, ap, ◌∙◌, subst, IfOk, OnErr, IsTrue}
use Rattle.application_types.specs.Generation.{Generated}
use Rattle.abstract_monitor.specs.declared.input_use.ServiceState.{ServiceState}
use Rattle.abstract_monitor.specs.declared.input_use.Use.{Use}
use Rattle.abstract_monitor.specs.Access.{denial_of}
use Rattle.abstract_monitor.specs.Bytes.{Bytes}
use Rattle.abstract_monitor.specs.Sessions.{Split, use_signed}
use Rattle.monitor_parts.specs.Inputs.{holds_text}
use Rattle.monitor_parts.proofs.session_table.Using.{use_within, use_without}
use Rattle.monitor_parts.proofs.session_table.sessions.Sessions.use_of.Goals as goal

-- within a session at a terminal with this LTERM
abbrev signed_at : Generated → (text : Bytes) → Split → ServiceState → (user lterm : Bytes) → Use
signed_at g text pieces state user lterm = use_signed g (denial_of g user lterm) text pieces state

pub returns-in_default-clause-ok : goal.returns-in_default-clause-ok
returns-in_default-clause-ok c = c.use_unsigned.ensures.exact ∙ use_without _ _ _ _ _ _ c.at-pieces.ensures c.in_default.ensures

pub returns-clause-ok : goal.returns-clause-ok
returns-clause-ok c =
    let is = ap (signed_at c.args.generation.now c.args.text.now c.at-pieces.result c.args.state c.in-Some.user) c.lterm_of-lterm.ensures ∙ use_within _ _ _ _ _ _ c.in-Some.user c.at-pieces.ensures c.in-Some.ensures in
    subst (λ (v : Use). IfOk c.use_signed.result (λ u. u ≡ v)) is c.use_signed.ensures.ok

pub returns-clause-memory : goal.returns-clause-memory
returns-clause-memory c =
    let is = ap (signed_at c.args.generation.now c.args.text.now c.at-pieces.result c.args.state c.in-Some.user) c.lterm_of-lterm.ensures ∙ use_within _ _ _ _ _ _ c.in-Some.user c.at-pieces.ensures c.in-Some.ensures in
    subst (λ (v : Use). OnErr c.use_signed.result (IsTrue (holds_text v))) is c.use_signed.ensures.memory
