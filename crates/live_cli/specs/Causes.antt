-- How an error of a session over two copies is handed on.
use Rattle.kdcfile_double.specs.declared.error.TwinOpenError.TheVariants as opening
use Rattle.refusals.specs.declared.error.FileRefusal.TheVariants as why
use Rattle.call_parts.specs.declared.error.CopiesError.{CopiesError}
use Rattle.call_parts.specs.declared.error.CopiesError.TheVariants as copies
use Rattle.live_run.specs.declared.error.LiveError.{LiveError}
use Rattle.live_run.specs.declared.error.LiveError.TheVariants as live
use Rattle.live_cli.specs.declared.error.SessionError.{SessionError}
use Rattle.live_cli.specs.declared.error.SessionError.TheVariants.{Missing, Refused, Failed, Input, Memory}

-- of the opening of both files
abbrev pub of_opening : CopiesError → SessionError
of_opening (copies.Missing half) = Missing half
of_opening (copies.Files opening.NotKdcfile) = Refused why.NotKdcfile
of_opening (copies.Files (opening.OtherGeneration stored)) = Refused (why.OtherGeneration stored)
of_opening (copies.Files (opening.Spent n)) = Refused why.SequenceSpent
of_opening (copies.Files opening.Failed) = Failed
of_opening (copies.Files opening.Memory) = Memory

-- of the lines that are typed then
abbrev pub of_live : LiveError → SessionError
of_live live.NotKdcfile = Refused why.NotKdcfile
of_live (live.OtherGeneration stored) = Refused (why.OtherGeneration stored)
of_live live.Failed = Failed
of_live live.Input = Input
of_live live.Spent = Memory
of_live live.Memory = Memory
