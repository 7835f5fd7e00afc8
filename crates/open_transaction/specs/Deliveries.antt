-- Which job an end of a transaction treats, and a job that is delivered once more.
use Rattle.std.specs.Prelude.{ℕ, Option, Some, None}
use Rattle.kdcs_types.specs.declared.key.ServiceId.{ServiceId}
use Rattle.kdcs_types.specs.declared.key.ServiceId.TheVariants.{Dialogue, Asynchronous}
use Rattle.kdcs_types.specs.declared.service.JobValue.{JobValue}
use Rattle.kdcs_types.specs.declared.service.Service.{Service}
use Rattle.open_transaction.specs.declared.async_queue.fate.Delivery.{Delivery}

-- the number of the own job: an asynchronous service without a row has one
abbrev pub own_job : ServiceId → Option Service → Option ℕ
own_job (Dialogue user) began = None
own_job (Asynchronous number) (Some row) = None
own_job (Asynchronous number) None = Some number

-- the job with this target and number of deliveries
abbrev pub with_target : JobValue → Delivery → JobValue
with_target v d = record v { to = d.to; redelivered = d.redelivered }
