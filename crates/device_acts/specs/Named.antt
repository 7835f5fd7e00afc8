-- Names in rows and changes are names, as the types of the code say.
use Rattle.std.specs.Prelude.{ℕ, ◌<◌, ◌^◌, ⊤, List, IfSome, All}
use Rattle.kd_base.specs.Text.{IsName}
use Rattle.kdcs_types.specs.declared.act.Act.{Act}
use Rattle.kdcs_types.specs.declared.act.Act.TheVariants.{Commit, Emit}
use Rattle.kdcs_types.specs.declared.act.Change.{Change}
use Rattle.kdcs_types.specs.declared.act.Change.TheVariants.{Set, Remove}
use Rattle.kdcs_types.specs.declared.act.Row.{Row}
use Rattle.kdcs_types.specs.declared.act.Row.TheVariants as row
use Rattle.kdcs_types.specs.declared.service.JobValue.{JobValue}
use Rattle.kdcs_types.specs.declared.service.Service.{Service}
use Rattle.kdcs_types.specs.Tables.{row_key}
use Rattle.record_codec.specs.Order.{IsProperKey}
use Rattle.record_codec.specs.Readings.{TargetFits}

-- the names of a job's value are names, and the number of its deliveries has one byte
pub record IsNamedJob (v : JobValue) : Type 0 where
  pub to : TargetFits v.to
  pub redelivered : v.redelivered < 2 ^ 8
  pub user : IsName v.user
  pub lterm : IsName v.lterm

-- an area, by its name and its content, has a name that is one
abbrev pub HasAreaName : List ℕ × List ℕ → Type 0
HasAreaName a = IsName a.0

-- the names of a service are names
pub record IsNamedService (s : Service) : Type 0 where
  pub first : IsName s.first
  pub next : IsName s.next
  pub user : IsName s.user
  pub lterm : IfSome s.lterm IsName
  pub lssbs : All HasAreaName s.lssbs

abbrev pub IsNamedValue : Row → Type 0
IsNamedValue (row.Gssb name content) = ⊤
IsNamedValue (row.Tls block lterm content) = ⊤
IsNamedValue (row.Uls block user content) = ⊤
IsNamedValue (row.Service id service) = IsNamedService service
IsNamedValue (row.Job number value) = IsNamedJob value
IsNamedValue (row.Shown lterm value) = IsNamedJob value

-- the names of key and value are names
pub record IsNamedRow (r : Row) : Type 0 where
  pub key : IsProperKey (row_key r)
  pub value : IsNamedValue r

abbrev pub IsNamedChange : Change → Type 0
IsNamedChange (Set r) = IsNamedRow r
IsNamedChange (Remove k) = IsProperKey k

abbrev pub IsNamedAct : Act → Type 0
IsNamedAct (Commit changes) = All IsNamedChange changes.items
IsNamedAct (Emit line) = ⊤
