-- Reading a log and writing it again.
use Rattle.std.specs.Prelude.{◌≡◌, ℕ, ◌+◌, ◌-◌, ◌*◌, cond, List, ◌++◌, length, take, drop, Ok, Err, Result, nat_le}
use Rattle.vocabulary.specs.declared.fault.Fault.{Fault}
use Rattle.carrier.specs.Frames.{full_fault}
use Rattle.log_format.specs.Closed.{closed_in, closed_octets}
use Rattle.log_format.specs.Format.{entry_size, trailer_size}
use Rattle.log_format.specs.declared.closed.ClosedLog.{ClosedLog}

-- Frames that are written into so many octets: granted exactly where the log of them has room.
abbrev pub into_octets : ℕ → Result (List (List ℕ)) Fault → Result (List (List ℕ)) Fault
into_octets octets (Ok frames) = cond (nat_le (entry_size * length frames + trailer_size) octets) (Ok frames) (Err full_fault)
into_octets octets (Err fault) = Err fault

-- A log that ends a file, written again over octets: it is the file's last octets, and the octets behind it stay.
pub record Again (file octets : List ℕ) (log : ClosedLog) : Type 0 where
  pub same : take (length file - length (closed_octets log)) file ++ closed_octets log ≡ file
  pub written : closed_in log ≡ closed_octets log ++ drop (length (closed_octets log)) octets
