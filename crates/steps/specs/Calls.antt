-- The nine calls: what each is refused for, and what it comes to.
use Rattle.std.specs.Prelude.{ℕ, Bool, true, false, cond, not, ◌&&◌, ◌||◌, List, [], ◌∷◌, ◌++◌, map, replicate, Some, None, Ok, Err, Option, Result, ◌==◌, nat_le}
use Rattle.vocabulary.specs.Levels.{level_number, levels, mode_number, modes}
use Rattle.vocabulary.specs.Numbers.{case_of}
use Rattle.vocabulary.specs.Refusals.{fault_at}
use Rattle.vocabulary.specs.Rules.{in_range, among}
use Rattle.vocabulary.specs.Settings.{Agreed}
use Rattle.vocabulary.specs.declared.fault.Fault.{Fault}
use Rattle.vocabulary.specs.declared.fault.Layer.TheVariants as layer
use Rattle.vocabulary.specs.declared.fault.Refusal.{Refusal}
use Rattle.vocabulary.specs.declared.fault.Refusal.TheVariants as refusal
use Rattle.vocabulary.specs.declared.level.Level.{Level}
use Rattle.vocabulary.specs.declared.link.Link.{Link}
use Rattle.vocabulary.specs.declared.link.Link.TheVariants as link
use Rattle.vocabulary.specs.declared.mode.Mode.{Mode}
use Rattle.wire.specs.Messages.{Reading, read_message, unless}
use Rattle.wire.specs.Packets as wire
use Rattle.wire.specs.Packets.{Content}
use Rattle.steps.specs.Rows.{is_failure, is_closed, is_final}
use Rattle.steps.specs.Setups.{row_of}
use Rattle.steps.specs.declared.row.Row.{Row}

-- The calls, with numbers as they are given, and a message by its octets. A loss is final or not; a
-- status has level, national number and mode.
pub data Call : Type 0 where
  connect : ℕ → Call
  message : List ℕ → Call
  lost : ℕ → Bool → Call
  status : ℕ → ℕ → ℕ → Call
  announce : ℕ → Call
  train_data : Bool → Call
  tick : Call
  run : ℕ → Call
  power_off : Call

-- The smallest steps that a call is made of; the unit is named by its number.
pub data Step : Type 0 where
  connected : ℕ → Step
  heard_from : ℕ → Content → Step
  lost_plainly : ℕ → Step
  lost_finally : ℕ → Step
  status_set : Level → ℕ → Mode → Step
  announcement_set : Option ℕ → Step
  train_data_set : Bool → Step
  tick_passed : Step
  settled : Step
  powered_off : Step

-- The control's own refusals bear place 0. The first check that is met refuses.
abbrev pub refused : Refusal → Fault
refused why = fault_at why 0 layer.Control

abbrev pub first_of : List (Bool × Refusal) → Option Fault
first_of [] = None
first_of (check ∷ checks) = cond check.0 (Some (refused check.1)) (first_of checks)

-- No unit of the settings has this number.
abbrev pub is_unknown : Agreed → ℕ → Bool
is_unknown a n = not (among n a.numbers)

-- Connect: 2 for an unknown unit, 7 for a final link or a failed unit, 6 for an open or a checked link.
abbrev pub connect_checks : Agreed → List Row → ℕ → List (Bool × Refusal)
connect_checks a rows n =
    (is_unknown a n, refusal.UnknownStm)
    ∷ ((is_final (row_of a rows n).link || is_failure (row_of a rows n).held, refusal.Barred)
    ∷ ((not (is_closed (row_of a rows n).link), refusal.Link)
    ∷ []))

-- Lost: 2 for an unknown unit; 6 for a final link, and, unless the loss is final, for a closed one.
abbrev pub lost_checks : Agreed → List Row → ℕ → Bool → List (Bool × Refusal)
lost_checks a rows n final =
    (is_unknown a n, refusal.UnknownStm)
    ∷ ((is_final (row_of a rows n).link || (not final && is_closed (row_of a rows n).link), refusal.Link)
    ∷ [])

abbrev pub is_version : Content → Bool
is_version (wire.version major minor) = true
is_version (wire.status l m) = false
is_version (wire.request q) = false
is_version (wire.order n) = false
is_version (wire.report s) = false
is_version wire.notice = false
is_version (wire.other bits) = false

abbrev pub is_report : Content → Bool
is_report (wire.version major minor) = false
is_report (wire.status l m) = false
is_report (wire.request q) = false
is_report (wire.order n) = false
is_report (wire.report s) = true
is_report wire.notice = false
is_report (wire.other bits) = false

abbrev pub some_version : List Content → Bool
some_version [] = false
some_version (p ∷ ps) = is_version p || some_version ps

-- A greeting: STM-1, then STM-15, and no STM-1 behind the first packet.
abbrev pub is_greeting : List Content → Bool
is_greeting [] = false
is_greeting (p ∷ []) = false
is_greeting (p ∷ (q ∷ ps)) = is_version p && (is_report q && not (some_version ps))

-- Packets out of place: on an open link what is no greeting, on any other an STM-1.
abbrev pub out_of_place : Link → List Content → Bool
out_of_place link.Closed ps = some_version ps
out_of_place link.Open ps = not (is_greeting ps)
out_of_place link.Checked ps = some_version ps
out_of_place link.Final ps = some_version ps

-- Message, once it reads: 2 for an unknown unit, 6 for a closed or final link, 8 for packets out of place.
abbrev pub message_checks : Agreed → List Row → Reading → List (Bool × Refusal)
message_checks a rows m =
    (is_unknown a m.sender, refusal.UnknownStm)
    ∷ ((is_closed (row_of a rows m.sender).link || is_final (row_of a rows m.sender).link, refusal.Link)
    ∷ ((out_of_place (row_of a rows m.sender).link m.packets, refusal.Greeting)
    ∷ []))

-- Its packets in their order, and then the settling.
abbrev pub message_steps : Agreed → List Row → Result Reading Fault → Result (List Step) Fault
message_steps a rows (Err f) = Err f
message_steps a rows (Ok m) = unless (first_of (message_checks a rows m)) (Ok (map (heard_from m.sender) m.packets ++ (settled ∷ [])))

-- A value outside its range is refused by 9.
abbrev pub out_of_range : {X : Type 0} → Result X Fault
out_of_range = Err (refused refusal.Range)

-- A national number: 1 to 254 at level NTC, which is 1, and 0 at every other.
abbrev pub is_national : ℕ → ℕ → Bool
is_national l n = cond (l == 1) (in_range n) (n == 0)

-- Status: level 0 to 4, mode 0 to 15, and a national number that goes with the level.
abbrev pub status_steps : Option Level → Option Mode → Bool → ℕ → Result (List Step) Fault
status_steps None mode fits n = out_of_range
status_steps (Some l) None fits n = out_of_range
status_steps (Some l) (Some m) false n = out_of_range
status_steps (Some l) (Some m) true n = Ok (status_set l n m ∷ [])

-- The number that a call announces; 0 takes the announcement back.
abbrev pub announced_by : ℕ → Option ℕ
announced_by n = cond (n == 0) None (Some n)

-- What a call comes to: its smallest steps, or the fault that refuses it. A message is read first.
abbrev pub steps_of : Agreed → List Row → Call → Result (List Step) Fault
steps_of a rows (connect n) = unless (first_of (connect_checks a rows n)) (Ok (connected n ∷ []))
steps_of a rows (message octets) = message_steps a rows (read_message a.trip octets)
steps_of a rows (lost n final) = unless (first_of (lost_checks a rows n final)) (Ok (cond final (lost_finally n) (lost_plainly n) ∷ []))
steps_of a rows (status l n m) = status_steps (case_of level_number levels l) (case_of mode_number modes m) (is_national l n) n
steps_of a rows (announce n) = cond (nat_le n 254) (Ok (announcement_set (announced_by n) ∷ [])) out_of_range
steps_of a rows (train_data valid) = Ok (train_data_set valid ∷ [])
steps_of a rows tick = Ok (tick_passed ∷ [])
steps_of a rows (run k) = Ok (replicate k tick_passed)
steps_of a rows power_off = Ok (powered_off ∷ [])
