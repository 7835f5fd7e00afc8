-- What an open transaction of the code stands for.
use Rattle.std.specs.Prelude.{Bool, true, false, Box, IsTrue, List, [], Option, Some, None, IfSome}
use Rattle.std.specs.declared.alloc.Global.{Global}
use Rattle.std.specs.FinMap.{is_sorted}
use Rattle.kdcs_types.specs.declared.service.Service.{Service}
use Rattle.application_types.specs.Generation.{Generated}
use Rattle.abstract_monitor.specs.Bytes.{Bytes, bytes_cmp}
use Rattle.abstract_monitor.specs.State.{OpenTransaction as Transaction}
use Rattle.abstract_monitor.specs.Endings.{followed, followed_by_input}
use Rattle.open_transaction.specs.declared.open.OpenTransaction.{OpenTransaction}

-- the definition's open transaction
abbrev pub transaction_of : OpenTransaction → Transaction
transaction_of x = record {
  began = x.began;
  first = x.first;
  user = x.user;
  lterm = x.lterm;
  inputs = x.inputs;
  current = x.current;
  run = x.run;
  inited = x.inited;
  unread = x.messages.unread;
  parts = x.messages.parts;
  written = x.areas.written;
  lssbs = x.areas.lssbs;
  drafts = x.drafts;
  touched = x.touched;
  notes = x.notes;
  statements = x.statements;
}

-- an open transaction of the code in its box
abbrev pub Boxed : Type 0
Boxed = Box OpenTransaction Global

abbrev pub boxed_transaction : Boxed → Transaction
boxed_transaction b = transaction_of b.value

-- the LSSBs of a row ascend without repeats
abbrev pub HasOrder : Option Service → Type 0
HasOrder began = IfSome began (λ (row : Service). IsTrue (is_sorted bytes_cmp row.lssbs))

-- an input that is accepted is noted; a message that is handed on is none
abbrev pub accepted_of : (accepted : Bool) → List Bytes → List Bytes
accepted_of true handed = handed
accepted_of false handed = []

-- a further unit run, after PEND PR and PA, or with the input that came after PEND KP
abbrev pub followed_with : Generated → (asynchronous : Bool) → Transaction → (tac : Bytes) → Option Bytes → Transaction
followed_with g asynchronous x tac None = followed g asynchronous x tac
followed_with g asynchronous x tac (Some input) = followed_by_input g x tac input
