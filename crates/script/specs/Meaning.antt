-- What the values of the code mean.
use Rattle.std.specs.Prelude.{ℕ, List, [], Some, None, Ok, Err, Option, Result}
use Rattle.std.specs.Borrow.{Bor}
use Rattle.few.specs.Few.{held}
use Rattle.vocabulary.specs.Octets.{octets_of}
use Rattle.script.specs.Text.{parts}
use Rattle.script.specs.Grammar.{Said, anew, connected, lost, lost_for_good, came, status, announced, train_data, ticks, power_off}
use Rattle.script.specs.declared.event.Event.{Event}
use Rattle.script.specs.declared.event.Event.TheVariants as event
use Rattle.script.specs.declared.event.Unreadable.{Unreadable}
use Rattle.script.specs.declared.numbers.Numbers.{Numbers}
use Rattle.script.specs.declared.parts.Parts.{Parts}

-- The parts of the text that stands behind a part: none if the part ends the line.
abbrev pub behind : Option (Bor (List ℕ)) → List (List ℕ)
behind (Some text) = parts text.now
behind None = []

-- The parts that are to come.
abbrev pub to_come : Parts → List (List ℕ)
to_come p = behind p.rest

-- The numbers, in their order.
abbrev pub numbers_of : Numbers → List ℕ
numbers_of n = held n.kept

-- What an event says.
abbrev pub said : Event → Said
said (event.New numbers) = anew (numbers_of numbers)
said (event.Connect n) = connected n
said (event.Lost n) = lost n
said (event.FinalLoss n) = lost_for_good n
said (event.Message octets) = came (octets_of octets)
said (event.Status level number mode) = status level number mode
said (event.Announce n) = announced n
said (event.TrainData valid) = train_data valid
said (event.Run k) = ticks k
said event.PowerOff = power_off

-- What a line says that was read, if it is readable.
abbrev pub says : Result Event Unreadable → Option Said
says (Ok e) = Some (said e)
says (Err u) = None
