-- What a row puts into the carrier in a settling.
use Rattle.std.specs.Prelude.{ℕ, ◌+◌, false, cond, List, [], ◌∷◌, ◌++◌, Some, None, Option}
use Rattle.vocabulary.specs.Levels.{level_number, mode_number}
use Rattle.vocabulary.specs.Rules.{minor_of}
use Rattle.vocabulary.specs.Settings.{Agreed}
use Rattle.vocabulary.specs.States.{order_number}
use Rattle.vocabulary.specs.declared.order.Order.{Order}
use Rattle.vocabulary.specs.declared.versions.Versions.{Versions}
use Rattle.wire.specs.Packets as wire
use Rattle.writer.specs.Encoding.{encode}
use Rattle.writer.specs.Drafts.{message_of}
use Rattle.steps.specs.Rows.{is_failure, is_checked, order_in, open_count, with_due}
use Rattle.steps.specs.declared.row.Row.{Row}
use Rattle.steps.specs.declared.surroundings.Surroundings.{Surroundings}

-- The version reply with its major, the status, the Failure order, an order.
pub data Put : Type 0 where
  reply : ℕ → Put
  status : Put
  failure : Put
  ordered : Order → Put

-- What a row would put, in this order: the frames that are due, and, unless it holds 8, the order that
-- the book answers. A row whose link is not checked puts nothing.
abbrev pub replies : Option ℕ → List Put
replies None = []
replies (Some major) = reply major ∷ []

abbrev pub orders : Option Order → List Put
orders None = []
orders (Some o) = ordered o ∷ []

abbrev pub wanted : Option Order → Row → List Put
wanted answer r =
    cond (is_checked r.link)
    (replies r.reply ++ (cond r.status_due (status ∷ []) [] ++ (cond r.failure_due (failure ∷ []) [] ++ cond (is_failure r.held) [] (orders answer))))
    []

-- What a put that was taken makes of its row. The frame is no longer due; an order is open with age 0
-- and no mark, clears the want, and makes the order that was open before the earlier one.
abbrev pub took_order : Order → Row → Row
took_order o r = record { held = r.held; want = None; link = r.link; «open» = Some (record { order = o; age = 0; noted = false }); earlier = order_in r.open; cause = r.cause; reply = r.reply; status_due = r.status_due; failure_due = r.failure_due }

abbrev pub took : Put → Row → Row
took (reply major) r = with_due None r.status_due r.failure_due r
took status r = with_due r.reply false r.failure_due r
took failure r = with_due r.reply r.status_due false r
took (ordered o) r = took_order o r

abbrev pub took_all : List Put → Row → Row
took_all [] r = r
took_all (p ∷ ps) r = took_all ps (took p r)

-- How many orders are taken, and how many are closed as followed.
abbrev pub takes : Put → ℕ
takes (reply major) = 0
takes status = 0
takes failure = 0
takes (ordered o) = 1

abbrev pub takes_all : List Put → ℕ
takes_all [] = 0
takes_all (p ∷ ps) = takes p + takes_all ps

abbrev pub follows : Put → Row → ℕ
follows (reply major) r = 0
follows status r = 0
follows failure r = 0
follows (ordered o) r = open_count r.open

abbrev pub follows_all : List Put → Row → ℕ
follows_all [] r = 0
follows_all (p ∷ ps) r = follows p r + follows_all ps (took p r)

-- The minor of the settings for a major.
abbrev pub minor_for : Versions → ℕ → ℕ
minor_for v major = elim (minor_of v major) [ Some minor ↦ minor | None ↦ 0 ]

-- The packet of a put: STM-1 with the major and its minor; STM-5 with the level and the mode as they
-- are now; STM-14 with 8; STM-14 with the order's number.
abbrev pub packet_of : Agreed → Surroundings → Put → wire.Content
packet_of a s (reply major) = wire.version major (minor_for a.versions major)
packet_of a s status = wire.status (level_number s.level) (mode_number s.mode)
packet_of a s failure = wire.order 8
packet_of a s (ordered o) = wire.order (order_number o)

-- The frame of one packet: a message to the unit with this number, with zero padding.
abbrev pub frame_of : ℕ → ℕ → wire.Content → List ℕ
frame_of trip number p = message_of (record { sender = number; trip = trip; bits = encode trip p; buffer = [] })

-- The frames of puts.
abbrev pub frames_of : Agreed → Surroundings → ℕ → List Put → List (List ℕ)
frames_of a s number [] = []
frames_of a s number (p ∷ ps) = frame_of a.trip number (packet_of a s p) ∷ frames_of a s number ps
