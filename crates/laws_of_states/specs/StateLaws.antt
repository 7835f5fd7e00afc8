-- Each turn, each command and each start keeps what holds of tables, sessions and open transactions.
use Rattle.kdcs_types.specs.Tables.{empty_tables}
use Rattle.abstract_monitor.specs.Commands.{started}
use Rattle.abstract_monitor.specs.Made.{made_application}
use Rattle.laws_of_states.specs.Applications.{IsApplication}
use Rattle.laws_of_states.specs.Facts.{IsSoundState}
use Rattle.laws_of_states.specs.Keeping.{Leads, HasFacts}

abbrev pub StatesStaySound : Type 0
StatesStaySound = Leads HasFacts (λ app s. IsSoundState app s)

-- the application of `make` meets every condition on applications
abbrev pub MadeIsApplication : Type 0
MadeIsApplication = IsApplication made_application

abbrev pub MadeStartIsSound : Type 0
MadeStartIsSound = IsSoundState made_application (started made_application empty_tables)
