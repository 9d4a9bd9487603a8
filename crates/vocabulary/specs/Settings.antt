-- Settings: what they agree on, and what is refused.
use Rattle.std.specs.Prelude.{◌≡◌, ℕ, ◌≤◌, cond, List, length, Some, None, Ok, Err, Option, Result}
use Rattle.few.specs.Few.{held}
use Rattle.few.specs.declared.Few.{Few}
use Rattle.vocabulary.specs.declared.fault.Fault.{Fault}
use Rattle.vocabulary.specs.declared.fault.Layer.TheVariants as layer
use Rattle.vocabulary.specs.declared.fault.Refusal.TheVariants as refusal
use Rattle.vocabulary.specs.declared.settings.Settings.{Settings}
use Rattle.vocabulary.specs.declared.trip.TripNumber.{TripNumber}
use Rattle.vocabulary.specs.declared.versions.Versions.{Versions}
use Rattle.vocabulary.specs.Refusals.{fault_at}
use Rattle.vocabulary.specs.Rules.{wrong_number, count_fits, majors_fit}
use Rattle.vocabulary.specs.Trips.{taken}

-- The packet number that a trip notice has.
abbrev pub trip_of : TripNumber → ℕ
trip_of t = t.number

-- What settings agree on: the numbers of the STMs in their order, the versions, and the trip number.
pub record Agreed : Type 0 where
  pub numbers : List ℕ
  pub versions : Versions
  pub trip : ℕ

-- What these settings agree on.
abbrev pub agreed : Settings → Agreed
agreed s = record { numbers = held s.numbers; versions = s.versions; trip = trip_of s.trip }

-- The place of the count, if there are not 1 to 8 numbers, else of the first wrong number, if there is one.
abbrev pub wrong_numbers : List ℕ → Option ℕ
wrong_numbers ns = cond (count_fits ns) (wrong_number ns) (Some 0)

-- The first wrong part, by its place: 0 the count, 1 to 8 that number, 9 the majors, 10 the trip number.
abbrev pub wrong_part : List ℕ → Versions → ℕ → Option ℕ
wrong_part ns v t = elim (wrong_numbers ns) [ Some place ↦ Some place | None ↦ cond (majors_fit v) (cond (taken t) (Some 10) None) (Some 9) ]

-- Settings with a wrong part are refused by 1 at its place, layer control.
abbrev pub improper : ℕ → Fault
improper place = fault_at refusal.Settings place layer.Control

-- What is answered to numbers, versions and a trip number.
abbrev pub settings_of : List ℕ → Versions → ℕ → Result Agreed Fault
settings_of ns v t = elim (wrong_part ns v t) [ Some place ↦ Err (improper place) | None ↦ Ok record { numbers = ns; versions = v; trip = t } ]

-- An answer, by what it means.
abbrev pub answered : Result Settings Fault → Result Agreed Fault
answered (Ok s) = Ok (agreed s)
answered (Err f) = Err f

-- These are the numbers, 1 to 8 of them, none of which is wrong.
abbrev pub Held : List ℕ → Few ℕ 8 → Type 0
Held ns few = (held few ≡ ns) × (1 ≤ length ns) × (wrong_number ns ≡ None) × (wrong_numbers ns ≡ None)

-- The refusal at the place of what is wrong.
abbrev pub RefusedAt : Option ℕ → Fault → Type 0
RefusedAt wrong f = (place : ℕ) × (f ≡ improper place) × (wrong ≡ Some place)
