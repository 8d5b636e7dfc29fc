-- The texts of the refusals, and which one stands for an error of SQLite.
use Rattle.std.specs.Prelude.{ℕ, List, codes}
use Rattle.session_revocations.specs.declared.revocation_error.RevocationError.{RevocationError}
use Rattle.session_revocations.specs.declared.revocation_error.RevocationError.TheVariants as refusal
use Rattle.sqlite.specs.declared.error.Error.{Error}
use Rattle.sqlite.specs.declared.error.Error.TheVariants.{SqliteFailure}
use Rattle.sqlite.specs.declared.error.ErrorCode.{ErrorCode}
use Rattle.sqlite.specs.declared.error.ErrorCode.TheVariants as code

-- the text of a refusal
abbrev pub refusal_text : RevocationError → List ℕ
refusal_text refusal.OutOfMemory = codes "out of memory"
refusal_text refusal.TooLate = codes "the second is past what the database keeps"
refusal_text refusal.OtherSchema = codes "the database is not one of revoked sessions"
refusal_text refusal.Busy = codes "the database is locked"
refusal_text refusal.CannotOpen = codes "the database can't be opened for writing"
refusal_text refusal.Damaged = codes "the database is damaged"
refusal_text refusal.Full = codes "the disk is full"
refusal_text refusal.Disk = codes "the disk failed"
refusal_text refusal.Closed = codes "the database was closed by an earlier failure"
refusal_text (refusal.Sqlite e) = codes "SQLite refused the statement"

-- the refusal for a code of SQLite
abbrev pub refusal_of_code : ErrorCode → RevocationError
refusal_of_code code.OutOfMemory = refusal.OutOfMemory
refusal_of_code code.DatabaseBusy = refusal.Busy
refusal_of_code code.CannotOpen = refusal.CannotOpen
refusal_of_code code.NotADatabase = refusal.Damaged
refusal_of_code code.DatabaseCorrupt = refusal.Damaged
refusal_of_code code.DiskFull = refusal.Full
refusal_of_code code.SystemIoFailure = refusal.Disk
refusal_of_code code.Closed = refusal.Closed
refusal_of_code other = refusal.Sqlite (SqliteFailure other)

-- the refusal for an error of SQLite
abbrev pub refusal_of : Error → RevocationError
refusal_of (SqliteFailure failure) = refusal_of_code failure
refusal_of other = refusal.Sqlite other
