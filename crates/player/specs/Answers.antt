-- What the player answers.
use Rattle.std.specs.Prelude.{ℕ, List, [], ◌∷◌, ◌++◌, Some, None, Ok, Err, codes, decimal, Option, Result, refl}
use Rattle.vocabulary.specs.Refusals.{refusal_number}
use Rattle.std.specs.Option.{option_map}
use Rattle.vocabulary.specs.Settings.{Agreed, agreed, settings_of}
use Rattle.wire.specs.Messages.{Reading, read_message}
use Rattle.vocabulary.specs.declared.fault.Fault.{Fault}
use Rattle.vocabulary.specs.declared.versions.Versions.{Versions}
use Rattle.script.specs.Grammar.{Said, anew, connected, lost, lost_for_good, came, status, announced, train_data, ticks, power_off}
use Rattle.player.specs.declared.session.Session.{Session}
use Rattle.player.specs.declared.answer.Answer.{Answer}
use Rattle.player.specs.declared.answer.Answer.TheVariants.{Granted, Refused, NoCall}

-- The player speaks majors 3 and 4, with minors 0.
abbrev pub versions : Versions
versions = record { lowest = 3; highest = 4; minors = 0 ∷ (0 ∷ (0 ∷ (0 ∷ []))); full = refl }

-- Its trip notice is packet 200.
abbrev pub trip_number : ℕ
trip_number = 200

-- What stands: what the settings of the latest new control that was granted agree on.
abbrev pub standing : Session → Option Agreed
standing p = option_map agreed p.settings

-- What comes of a call: the answer that it gives, or the refusal of its fault.
abbrev pub outcome : Result Answer Fault → Answer
outcome (Ok a) = a
outcome (Err f) = Refused f.cause

-- A new control is granted, or refused for the fault in its settings.
abbrev pub on_settings : Result Agreed Fault → Answer
on_settings (Ok a) = Granted
on_settings (Err f) = Refused f.cause

abbrev pub on_new : List ℕ → Answer
on_new numbers = on_settings (settings_of numbers versions trip_number)

-- A message that the reader refuses is refused for its fault.
abbrev pub on_reading : Result Reading Fault → Answer
on_reading (Ok r) = NoCall
on_reading (Err f) = Refused f.cause

abbrev pub on_message : Option Agreed → List ℕ → Answer
on_message None os = NoCall
on_message (Some a) os = on_reading (read_message a.trip os)

-- What a line that says this is answered, where these settings stand.
abbrev pub on_said : Option Agreed → Said → Answer
on_said before (anew numbers) = on_new numbers
on_said before (connected n) = NoCall
on_said before (lost n) = NoCall
on_said before (lost_for_good n) = NoCall
on_said before (came os) = on_message before os
on_said before (status level number mode) = NoCall
on_said before (announced n) = NoCall
on_said before (train_data valid) = NoCall
on_said before (ticks k) = NoCall
on_said before power_off = NoCall

-- What a line is answered, readable or not.
abbrev pub answer_to : Option Agreed → Option Said → Answer
answer_to before None = NoCall
answer_to before (Some s) = on_said before s

-- A new control that is granted stands from then on; a refused one leaves what stood.
abbrev pub stands_on : Option Agreed → Result Agreed Fault → Option Agreed
stands_on before (Ok a) = Some a
stands_on before (Err f) = before

abbrev pub standing_new : Option Agreed → List ℕ → Option Agreed
standing_new before numbers = stands_on before (settings_of numbers versions trip_number)

-- Every other line leaves it too.
abbrev pub standing_said : Option Agreed → Said → Option Agreed
standing_said before (anew numbers) = standing_new before numbers
standing_said before (connected n) = before
standing_said before (lost n) = before
standing_said before (lost_for_good n) = before
standing_said before (came os) = before
standing_said before (status level number mode) = before
standing_said before (announced n) = before
standing_said before (train_data valid) = before
standing_said before (ticks k) = before
standing_said before power_off = before

abbrev pub standing_after : Option Agreed → Option Said → Option Agreed
standing_after before None = before
standing_after before (Some s) = standing_said before s

-- How an answer is printed: a refusal by its number.
abbrev pub shown_as : Answer → List ℕ
shown_as Granted = codes "ok 0 0 0 0 0"
shown_as (Refused r) = codes "no " ++ decimal (refusal_number r)
shown_as NoCall = codes "line"
