-- Exchanges: a call, and all that comes of it.
use Rattle.std.specs.Prelude.{◌≡◌, ℕ, ◌+◌, ◌-◌, List, [], ◌∷◌, ◌++◌, length, Ok, Err, Result}
use Rattle.vocabulary.specs.declared.fault.Fault.{Fault}
use Rattle.steps.specs.Setups.{Setup, fresh_rows, fresh_surroundings}
use Rattle.steps.specs.Calls.{Call, Step, steps_of}
use Rattle.steps.specs.Moments.{Moment, moments_of}
use Rattle.steps.specs.declared.counts.Counts.{Counts}
use Rattle.steps.specs.declared.row.Row.{Row}
use Rattle.steps.specs.declared.surroundings.Surroundings.{Surroundings}

-- No order taken and none closed.
abbrev pub no_counts : Counts
no_counts = record { taken = 0; answered = 0; followed = 0; failed = 0; voided = 0 }

abbrev pub plus_counts : Counts → Counts → Counts
plus_counts a b = record { taken = a.taken + b.taken; answered = a.answered + b.answered; followed = a.followed + b.followed; failed = a.failed + b.failed; voided = a.voided + b.voided }

-- What moments come to, taken together: their counts, the frames they added, and the rows and
-- surroundings behind the last of them.
abbrev pub counts_in : List Moment → Counts
counts_in [] = no_counts
counts_in (m ∷ ms) = plus_counts m.counts (counts_in ms)

abbrev pub added_in : List Moment → List (List ℕ)
added_in [] = []
added_in (m ∷ ms) = m.added ++ added_in ms

abbrev pub rows_behind : List Row → List Moment → List Row
rows_behind rows [] = rows
rows_behind rows (m ∷ ms) = rows_behind m.rows ms

abbrev pub surroundings_behind : Surroundings → List Moment → Surroundings
surroundings_behind s [] = s
surroundings_behind s (m ∷ ms) = surroundings_behind m.surroundings ms

-- A call, the places that it found free, the answer, the frames that it added, the places that it left
-- free, the rows and surroundings behind it, and the moments that it was made of.
pub record Exchange : Type 0 where
  pub call : Call
  pub found : ℕ
  pub answer : Result Counts Fault
  pub added : List (List ℕ)
  pub left : ℕ
  pub rows : List Row
  pub surroundings : Surroundings
  pub moments : List Moment

-- A granted call is its moments, and answers their counts.
abbrev pub granted : Call → ℕ → Surroundings → List Row → List Moment → Exchange
granted call found s rows ms = record { call = call; found = found; answer = Ok (counts_in ms); added = added_in ms; left = found - length (added_in ms); rows = rows_behind rows ms; surroundings = surroundings_behind s ms; moments = ms }

-- A refused call alters nothing.
abbrev pub declined : Call → ℕ → Surroundings → List Row → Fault → Exchange
declined call found s rows f = record { call = call; found = found; answer = Err f; added = []; left = found; rows = rows; surroundings = s; moments = [] }

abbrev pub exchange_by : Setup → Surroundings → List Row → Call → ℕ → Result (List Step) Fault → Exchange
exchange_by c s rows call found (Ok steps) = granted call found s rows (moments_of c s steps rows found)
exchange_by c s rows call found (Err f) = declined call found s rows f

-- The exchange of a call, from the rows and surroundings before it and the places that it found.
unfoldable pub exchange : Setup → Surroundings → List Row → Call → ℕ → Exchange
exchange c s rows call found = exchange_by c s rows call found (steps_of c.settings rows call)

-- A history is what the steps make: each exchange is that of its call, from the rows and surroundings
-- that the one before it left, whatever places it found.
abbrev pub Leads : Setup → Surroundings → List Row → List Exchange → Type 0
Leads c s rows [] = Unit {0}
Leads c s rows (x ∷ h) = (x ≡ exchange c s rows x.call x.found) × Leads c x.surroundings x.rows h

-- The same from fresh.
abbrev pub FromFresh : Setup → List Exchange → Type 0
FromFresh c h = Leads c fresh_surroundings (fresh_rows c.settings) h
