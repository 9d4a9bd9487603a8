-- Worked cases, with 200 for the number of a trip notice.
use Rattle.std.specs.Prelude.{◌≡◌, ℕ, true, List, [], ◌∷◌, ◌++◌, map, replicate, Some, None, Ok, Err, Option, Result, refl}
use Rattle.std.specs.List.{AllByRecursion}
use Rattle.vocabulary.specs.declared.cause.Cause.{Cause}
use Rattle.vocabulary.specs.declared.cause.Cause.TheVariants.{TimeToDataAvailable}
use Rattle.vocabulary.specs.declared.fault.Fault.{Fault}
use Rattle.vocabulary.specs.declared.order.Order.{Order}
use Rattle.vocabulary.specs.declared.order.Order.TheVariants.{ToDataAvailable}
use Rattle.vocabulary.specs.declared.state.State.{State}
use Rattle.vocabulary.specs.declared.state.State.TheVariants.{Configuration, ColdStandby, DataAvailable, Failure}
use Rattle.vocabulary.specs.declared.versions.Versions.{Versions}
use Rattle.book.specs.Orders.{usual_limit}
use Rattle.book.specs.Standard.{standard_answer}
use Rattle.wire.specs.Messages.{Reading, read_message}
use Rattle.wire.specs.Packets.{Content, cut, misfit}
use Rattle.wire.specs.Packets as wire
use Rattle.writer.specs.Drafts.{Draft, message_of, started, added}
use Rattle.steps.specs.Rows.{order_in}
use Rattle.steps.specs.Setups.{Setup, fresh_rows, fresh_surroundings}
use Rattle.steps.specs.Calls.{Call, connect, message, status, train_data, run}
use Rattle.steps.specs.Exchanges.{Exchange, exchange}
use Rattle.steps.specs.declared.counts.Counts.{Counts}
use Rattle.steps.specs.declared.row.Row.{Row}
use Rattle.steps.specs.declared.surroundings.Surroundings.{Surroundings}

-- A message to or from a unit with one packet of one value: a request, an order, a report. The last two
-- octets end the length (25), give the value and pad.
abbrev pub request_of : ℕ → ℕ → ℕ → List ℕ
request_of n a b = n ∷ 0x06 ∷ 0x0D ∷ 0x00 ∷ a ∷ b ∷ []

abbrev pub order_to : ℕ → ℕ → ℕ → List ℕ
order_to n a b = n ∷ 0x06 ∷ 0x0E ∷ 0x00 ∷ a ∷ b ∷ []

abbrev pub report_of : ℕ → ℕ → ℕ → List ℕ
report_of n a b = n ∷ 0x06 ∷ 0x0F ∷ 0x00 ∷ a ∷ b ∷ []

-- The greeting of a unit that speaks major 4 and is in PO, the version reply to it, and a status.
abbrev pub greeting_of : ℕ → List ℕ
greeting_of n = n ∷ 0x0A ∷ 0x01 ∷ 0x01 ∷ 0x28 ∷ 0x20 ∷ 0x00 ∷ 0x78 ∷ 0x06 ∷ 0x44 ∷ []

abbrev pub reply_to : ℕ → List ℕ
reply_to n = n ∷ 0x07 ∷ 0x01 ∷ 0x01 ∷ 0x28 ∷ 0x20 ∷ 0x00 ∷ []

abbrev pub status_to : ℕ → ℕ → ℕ → List ℕ
status_to n a b = n ∷ 0x06 ∷ 0x05 ∷ 0x00 ∷ a ∷ b ∷ []

-- The trip notice of unit 10.
abbrev pub trip_of10 : List ℕ
trip_of10 = 0x0A ∷ 0x05 ∷ 0xC8 ∷ 0x00 ∷ 0xA8 ∷ []

-- A call, what it answers, and the frames that it adds.
pub record Turn : Type 0 where
  pub call : Call
  pub answer : Result Counts Fault
  pub added : List (List ℕ)

-- A call that is granted with these counts, and adds these frames.
abbrev pub grants : Call → ℕ → ℕ → ℕ → ℕ → ℕ → List (List ℕ) → Turn
grants call taken answered followed failed voided frames =
    record { call = call; answer = Ok (record { taken = taken; answered = answered; followed = followed; failed = failed; voided = voided }); added = frames }

-- What is seen of a row: the held state, the open order, the earlier order, and the cause of failure.
pub record Seen : Type 0 where
  pub held : State
  pub ordered : Option Order
  pub earlier : Option Order
  pub cause : Option Cause

abbrev pub seen : Row → Seen
seen r = record { held = r.held; ordered = order_in r.open; earlier = r.earlier; cause = r.cause }

-- A unit that holds a state, and no more.
abbrev pub holding : State → Seen
holding s = record { held = s; ordered = None; earlier = None; cause = None }

-- A run of calls on a fresh control with these units, and the rows at its end.
pub record Play : Type 0 where
  pub numbers : List ℕ
  pub turns : List Turn
  pub ends : List Seen

-- A control with majors 3 and 4, minors 0, and the standard book.
abbrev pub versions : Versions
versions = record { lowest = 3; highest = 4; minors = 0 ∷ 0 ∷ 0 ∷ 0 ∷ []; full = refl }

abbrev pub standard_over : List ℕ → Setup
standard_over ns = record { settings = record { numbers = ns; versions = versions; trip = 200 }; answers = standard_answer; limits = usual_limit }

-- The exchanges of calls, each of which finds 64 places.
abbrev pub played_from : Setup → Surroundings → List Row → List Call → List Exchange
played_from c s rows [] = []
played_from c s rows (call ∷ calls) =
    exchange c s rows call 64 ∷ played_from c (exchange c s rows call 64).surroundings (exchange c s rows call 64).rows calls

abbrev pub played : Setup → List Call → List Exchange
played c calls = played_from c fresh_surroundings (fresh_rows c.settings) calls

-- What an exchange tells, and the rows behind the last one.
abbrev pub turn_of : Exchange → Turn
turn_of x = record { call = x.call; answer = x.answer; added = x.added }

abbrev pub last_rows : List Row → List Exchange → List Row
last_rows rows [] = rows
last_rows rows (x ∷ xs) = last_rows x.rows xs

-- A play holds: each call answers and adds what it says, and the rows end so.
abbrev pub calls_of : Play → List Call
calls_of p = map (λ (t : Turn). t.call) p.turns

abbrev pub Plays : Play → Type 0
Plays p = (map turn_of (played (standard_over p.numbers) (calls_of p)) ≡ p.turns) × (map seen (last_rows [] (played (standard_over p.numbers) (calls_of p))) ≡ p.ends)

-- A case is of octets that are read, and, if they are read, written; or of plays.
pub data Case : Type 0 where
  reads : List ℕ → Result Reading Fault → Case
  plays : List Play → Case

-- The message of packets, added one by one to a buffer of 255 octets.
abbrev pub draft_of : Draft → List Content → Draft
draft_of d [] = d
draft_of d (p ∷ ps) = draft_of (added p d) ps

abbrev pub WrittenSo : Result Reading Fault → List ℕ → Type 0
WrittenSo (Ok m) octets = message_of (draft_of (started m.sender 200 (replicate 255 0)) m.packets) ≡ octets
WrittenSo (Err f) octets = Unit {0}

abbrev pub Holds : Case → Type 0
Holds (reads octets reading) = (read_message 200 octets ≡ reading) × WrittenSo reading octets
Holds (plays ps) = AllByRecursion Plays ps

-- A unit is connected, greets and is brought to CO by its request; and on to CS by another.
abbrev pub to_co : ℕ → List Turn
to_co n =
    grants (connect n) 0 0 0 0 0 []
    ∷ grants (message (greeting_of n)) 0 0 0 0 0 (reply_to n ∷ status_to n 0xE0 0x60 ∷ [])
    ∷ grants (message (request_of n 0xC9 0x00)) 1 0 0 0 0 (order_to n 0xC9 0x00 ∷ [])
    ∷ grants (message (report_of n 0xC9 0x00)) 0 1 0 0 0 []
    ∷ []

abbrev pub to_cs : ℕ → List Turn
to_cs n =
    to_co n
    ++ grants (message (request_of n 0xCA 0x00)) 1 0 0 0 0 (order_to n 0xCA 0x00 ∷ [])
    ∷ grants (message (report_of n 0xCA 0x00)) 0 1 0 0 0 []
    ∷ []

-- Unit 10 from CS is ordered to DA, at its level in mode SN.
abbrev pub ordered_to_da : List Turn
ordered_to_da = to_cs 10 ++ grants (status 1 10 13) 1 0 0 0 0 (status_to 10 0xE1 0xD0 ∷ order_to 10 0xCB 0x80 ∷ []) ∷ []

abbrev pub to_da : List Turn
to_da = ordered_to_da ++ grants (message (report_of 10 0xCB 0x80)) 0 1 0 0 0 [] ∷ []

abbrev pub cases : List Case
cases =
    -- the unconditional order to CS (4), and then the status level 2, mode 3, of unit 10
    reads (0x0A ∷ 0x09 ∷ 0x0E ∷ 0x00 ∷ 0xCA ∷ 0x02 ∷ 0x80 ∷ 0x71 ∷ 0x18 ∷ []) (Ok (record { sender = 10; packets = wire.order 4 ∷ wire.status 2 3 ∷ [] }))
    -- a trip notice
    ∷ reads (0x0A ∷ 0x05 ∷ 0xC8 ∷ 0x00 ∷ 0xA8 ∷ []) (Ok (record { sender = 10; packets = wire.notice ∷ [] }))
    -- a packet of 20 bits: its length is wrong, at bit 16
    ∷ reads (0x0A ∷ 0x05 ∷ 0xC8 ∷ 0x00 ∷ 0xA0 ∷ []) (Err (misfit 16))
    -- a packet of 25 bits of which only 24 are there: it is cut, at bit 16
    ∷ reads (0x0A ∷ 0x05 ∷ 0x0F ∷ 0x00 ∷ 0xC8 ∷ []) (Err (cut 16))
    -- DA in time, and one tick too late
    ∷ plays (
    record {
      numbers = 10 ∷ [];
      ends = holding DataAvailable ∷ [];
      turns = ordered_to_da
          ++ grants (run 49) 0 0 0 0 0 []
          ∷ grants (message (report_of 10 0xCB 0x80)) 0 1 0 0 0 []
          ∷ [];
    }
    ∷ record {
      numbers = 10 ∷ [];
      ends = record { held = Failure; ordered = None; earlier = None; cause = Some TimeToDataAvailable } ∷ [];
      turns = ordered_to_da
          ++ grants (run 50) 0 0 0 1 0 (order_to 10 0xCC 0x00 ∷ [])
          ∷ [];
    }
    ∷ [])
    -- a trip notice begins the ten seconds anew
    ∷ plays (
    record {
      numbers = 10 ∷ [];
      ends = holding ColdStandby ∷ [];
      turns = to_da
          ++ grants (status 1 20 13) 1 0 0 0 0 (order_to 10 0xCA 0x80 ∷ [])
          ∷ grants (run 99) 0 0 0 0 0 []
          ∷ grants (message trip_of10) 0 0 0 0 0 []
          ∷ grants (run 99) 0 0 0 0 0 []
          ∷ grants (message (report_of 10 0xCA 0x00)) 0 1 0 0 0 []
          ∷ [];
    }
    ∷ [])
    -- an order that is overtaken, and both answered
    ∷ plays (
    record {
      numbers = 10 ∷ [];
      ends = holding ColdStandby ∷ [];
      turns = to_co 10
          ++ grants (train_data true) 0 0 0 0 0 []
          ∷ grants (message (request_of 10 0xC9 0x80)) 1 0 0 0 0 (order_to 10 0xC9 0x80 ∷ [])
          ∷ grants (message (request_of 10 0xCA 0x00)) 1 0 1 0 0 (order_to 10 0xCA 0x00 ∷ [])
          ∷ grants (message (report_of 10 0xC9 0x80)) 0 0 0 0 0 []
          ∷ grants (message (report_of 10 0xCA 0x00)) 0 1 0 0 0 []
          ∷ [];
    }
    ∷ [])
    -- one unit hands over to another
    ∷ plays (
    record {
      numbers = 10 ∷ 20 ∷ [];
      ends = holding ColdStandby ∷ record { held = ColdStandby; ordered = Some ToDataAvailable; earlier = None; cause = None } ∷ [];
      turns = (to_cs 10 ++ to_cs 20)
          ++ grants (status 1 10 13) 1 0 0 0 0 (status_to 10 0xE1 0xD0 ∷ order_to 10 0xCB 0x80 ∷ status_to 20 0xE1 0xD0 ∷ [])
          ∷ grants (message (report_of 10 0xCB 0x80)) 0 1 0 0 0 []
          ∷ grants (status 1 20 13) 1 0 0 0 0 (order_to 10 0xCA 0x80 ∷ [])
          ∷ grants (message (report_of 10 0xCA 0x00)) 1 1 0 0 0 (order_to 20 0xCB 0x80 ∷ [])
          ∷ [];
    }
    ∷ [])
    ∷ []

-- A unit greets, asks for CO, and is ordered there.
abbrev pub first_order : Play
first_order = record { numbers = 10 ∷ []; turns = to_co 10; ends = holding Configuration ∷ [] }
