-- What is left to read.
use Rattle.std.specs.Prelude.{ℕ, List, Result}
use Rattle.application_types.specs.declared.kdcdef_types.statement.Statement.{Statement}
use Rattle.kdcdef_read.specs.declared.fault.ReadFault.{ReadFault}

pub record Left : Type 0 where
  pub count : ℕ  -- how many raw statements are left
  pub next : ℕ  -- the least line of the next statement
  pub read : Result (List Statement) ReadFault  -- the statements, or their first fault
