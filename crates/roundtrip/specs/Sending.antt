-- Writing a whole message.
use Rattle.std.specs.Prelude.{ℕ, List, [], ◌∷◌, Ok, Err, Result}
use Rattle.vocabulary.specs.declared.fault.Fault.{Fault}
use Rattle.wire.specs.Messages.{Reading, read_message}
use Rattle.wire.specs.Packets.{Content}
use Rattle.writer.specs.Drafts.{Draft, started, add_answer, added, finish_answer, finished}

-- What is answered, and every octet of the buffer behind it.
pub record Sent : Type 0 where
  pub answer : Result ℕ Fault
  pub buffer : List ℕ

-- Finishing.
abbrev pub ended : Draft → Sent
ended d = record { answer = finish_answer d; buffer = (finished d).buffer }

-- The first refusal ends it, and leaves the buffer as it is then.
abbrev pub unless_refused : Result (Unit {0}) Fault → List ℕ → Sent → Sent
unless_refused (Ok _) s rest = rest
unless_refused (Err e) s rest = record { answer = Err e; buffer = s }

-- The packets are added in their order, and the message is finished.
abbrev pub sent : List Content → Draft → Sent
sent [] d = ended d
sent (p ∷ ps) d = unless_refused (add_answer p d) d.buffer (sent ps (added p d))

-- A message of an STM.
abbrev pub written : ℕ → ℕ → List Content → List ℕ → Sent
written sender trip ps s = sent ps (started sender trip s)

-- What was read is written; octets that are no message are refused as the reader refuses them.
abbrev pub again : ℕ → Result Reading Fault → List ℕ → Sent
again trip (Ok r) s = written r.sender trip r.packets s
again trip (Err e) s = record { answer = Err e; buffer = s }

-- A message is read, and what it says is written.
abbrev pub rewritten : ℕ → List ℕ → List ℕ → Sent
rewritten trip m s = again trip (read_message trip m) s
