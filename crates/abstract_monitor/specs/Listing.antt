-- The list of tables that `show` prints, in the order of kinds and keys. Messages and contents stand by escape.
use Rattle.std.specs.Prelude.{Bool, true, false, List, [], ◌∷◌, ◌++◌, flat_map, codes, decimal, Option, Some, None}
use Rattle.kd_base.specs.Text.{escaped}
use Rattle.kdcs_types.specs.declared.key.Target.{Target}
use Rattle.kdcs_types.specs.declared.key.Target.TheVariants.{Tac, Lterm}
use Rattle.kdcs_types.specs.declared.service.Job.{Job}
use Rattle.kdcs_types.specs.declared.service.JobValue.{JobValue}
use Rattle.kdcs_types.specs.declared.service.Service.{Service}
use Rattle.kdcs_types.specs.Tables.{TableRows}
use Rattle.abstract_monitor.specs.Bytes.{Bytes}
use Rattle.abstract_monitor.specs.Lines.{line, owner_text}

-- a space before each word
abbrev pub spaced : List Bytes → Bytes
spaced words = flat_map (λ (w : Bytes). 32 ∷ w) words

-- GSSB, the name and its content
abbrev pub gssb_line : Bytes × Bytes → Bytes
gssb_line r = line (codes "GSSB" ++ spaced (r.0 ∷ escaped r.1 ∷ []))

-- TLS or ULS, the block, its LTERM or user, and its content
abbrev pub block_line : (kind : Bytes) → Bytes × Bytes × Bytes → Bytes
block_line kind r = line (kind ++ spaced (r.0 ∷ r.1 ∷ escaped r.2 ∷ []))

-- it awaits an input, or goes on
abbrev pub state_text : (awaits : Bool) → Bytes
state_text true = codes "WAITS"
state_text false = codes "GOES"

-- the last dialogue message, or `-`
abbrev pub last_text : Option Bytes → Bytes
last_text None = codes "-"
last_text (Some message) = escaped message

-- LSSB, the owner, the name and its content
abbrev pub lssb_line : Service → Bytes × Bytes → Bytes
lssb_line s l = line (codes "LSSB" ++ spaced (owner_text s.id ∷ l.0 ∷ escaped l.1 ∷ []))

-- a service, its KB, and its LSSBs
abbrev pub service_lines : Service → Bytes
service_lines s =
    line (codes "SERVICE" ++ spaced (owner_text s.id ∷ s.first ∷ s.next ∷ state_text s.awaits ∷ last_text s.last ∷ []))
    ++ line (codes "KB" ++ spaced (owner_text s.id ∷ escaped s.kb ∷ []))
    ++ flat_map (lssb_line s) s.lssbs

-- T and a TAC, or L and an LTERM
abbrev pub target_words : Target → List Bytes
target_words (Tac tac) = codes "T" ∷ tac ∷ []
target_words (Lterm lterm) = codes "L" ∷ lterm ∷ []

-- JOB, its number, target, due, user, LTERM and message
abbrev pub job_line : Job → Bytes
job_line job =
    line (
    codes "JOB" ++ spaced (decimal job.number ∷ target_words job.value.to)
    ++ spaced (codes "DUE" ∷ decimal job.value.due ∷ job.value.user ∷ job.value.lterm ∷ escaped job.value.message ∷ [])
    )

-- SHOWN, the LTERM and its message
abbrev pub shown_line : Bytes × JobValue → Bytes
shown_line r = line (codes "SHOWN" ++ spaced (r.0 ∷ escaped r.1.message ∷ []))

-- all lines
unfoldable pub listing : TableRows → Bytes
listing t =
    line (codes "CLOCK" ++ spaced (decimal t.clock ∷ []))
    ++ line (codes "NEXT" ++ spaced (decimal t.next_job ∷ []))
    ++ flat_map gssb_line t.gssbs
    ++ flat_map (block_line (codes "TLS")) t.tlss
    ++ flat_map (block_line (codes "ULS")) t.ulss
    ++ flat_map service_lines t.services
    ++ flat_map job_line t.jobs
    ++ flat_map shown_line t.shown
