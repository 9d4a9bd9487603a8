-- What reading a log answers.
use Rattle.std.specs.Prelude.{◌≡◌, ℕ, ◌-◌, List, ◌++◌, length, take, Ok, Err, Result}
use Rattle.vocabulary.specs.declared.fault.Fault.{Fault}
use Rattle.log_format.specs.Closed.{closed_frames, closed_in, closed_octets}
use Rattle.log_format.specs.Format.{log_of}
use Rattle.log_format.specs.declared.closed.ClosedLog.{ClosedLog}

-- An answer, with its log by its frames.
abbrev pub by_frames : Result ClosedLog Fault → Result (List (List ℕ)) Fault
by_frames (Ok log) = Ok (closed_frames log)
by_frames (Err fault) = Err fault

-- A log that ends a file: it lies in the file, nothing stands behind it, and its octets are those that are written for its frames.
pub record EndsFile (file : List ℕ) (log : ClosedLog) : Type 0 where
  pub inside : closed_in log ≡ file
  pub last : take (length file - length (closed_octets log)) file ++ closed_octets log ≡ file
  pub same : closed_octets log ≡ log_of (closed_frames log)
