-- What a user is told, and where a service goes on, leaves the tables as they are; what is shown again changes nothing.
use Rattle.std.specs.Prelude.{◌≡◌, refl, Option, Some, None}
use Rattle.std.specs.FinMap.{find}
use Rattle.kdcs_types.specs.declared.key.ServiceId.{ServiceId}
use Rattle.kdcs_types.specs.declared.key.ServiceId.TheVariants.{Dialogue, Asynchronous}
use Rattle.kdcs_types.specs.declared.service.JobValue.{JobValue}
use Rattle.kdcs_types.specs.declared.service.Service.{Service}
use Rattle.abstract_monitor.specs.Bytes.{Bytes, bytes_cmp}
use Rattle.abstract_monitor.specs.State.{Application, OpenTransaction, Session, State}
use Rattle.abstract_monitor.specs.Commands.{display, show_again_by, started}
use Rattle.abstract_monitor.specs.Turns.{pterm_of_user, noted_last, last_told, last_again, message_sent, goes_on}
use Rattle.kdcs_types.specs.Tables.{TableRows}

noted_tables : (s : State) (pterm message : Bytes) (v : Option Session) → (noted_last s pterm message v).tables ≡ s.tables
noted_tables s pterm message None = refl
noted_tables s pterm message (Some v) = refl

pub last_tables : (s : State) (pterm : Option Bytes) (message : Bytes) → (last_told s pterm message).tables ≡ s.tables
last_tables s None message = refl
last_tables s (Some pterm) message = noted_tables s pterm message (find bytes_cmp pterm s.signed)

pub sent_tables : (s : State) (id : ServiceId) (x : OpenTransaction) → (message_sent s id x).tables ≡ s.tables
sent_tables s (Dialogue user) x = last_tables s (pterm_of_user s.signed user) _
sent_tables s (Asynchronous number) x = refl

pub goes_tables : (app : Application) (s : State) (id : ServiceId) (x : OpenTransaction) (row : Option Service) → (goes_on app s id x row).tables ≡ s.tables
goes_tables app s id x None = refl
goes_tables app s id x (Some row) = refl

pub started_tables : (app : Application) (t : TableRows) → (started app t).tables ≡ t
unfolding started
started_tables app t = refl

-- what each last message that is told keeps, the last message again keeps
pub last_again_stays : (P : State → Type 0) (s : State) → ((pterm : Option Bytes) (message : Bytes) → P (last_told s pterm message)) → P s → (id : ServiceId) (last : Option Bytes) → P (last_again s id last).after
last_again_stays P s told h id None = h
last_again_stays P s told h (Dialogue user) (Some message) = told (pterm_of_user s.signed user) message
last_again_stays P s told h (Asynchronous number) (Some message) = h

-- what is shown again or displayed leaves the state as it is
pub again_stays : (P : State → Type 0) (s : State) → P s → (none : Bytes) (line_of : Bytes → Bytes) (value : Option JobValue) → P (show_again_by s none line_of value).after
again_stays P s h none line_of None = h
again_stays P s h none line_of (Some value) = h

pub display_stays : (P : State → Type 0) (s : State) → P s → (pterm : Bytes) (last : Option Bytes) → P (display s pterm last).after
display_stays P s h pterm None = h
display_stays P s h pterm (Some message) = h
