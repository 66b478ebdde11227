-- The error of a filing for a refused statement.
use Rattle.sqlite.specs.declared.error.Error.{Error}
use Rattle.sqlite.specs.declared.error.Error.TheVariants.{SqliteFailure}
use Rattle.sqlite.specs.declared.error.ErrorCode.TheVariants.{OutOfMemory}
use Rattle.report_filing.specs.declared.filing.FilingFault.{FilingFault}
use Rattle.report_filing.specs.declared.filing.FilingFault.TheVariants.{Failed, Memory}

-- a failure, unless it ran out of memory
abbrev pub fault_of : Error → FilingFault
fault_of (SqliteFailure OutOfMemory) = Memory
fault_of _ = Failed
