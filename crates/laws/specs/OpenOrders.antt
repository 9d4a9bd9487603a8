-- The open order of a unit, from its events alone.
use Rattle.std.specs.Prelude.{◌≡◌, ℕ, ◌+◌, Bool, true, false, cond, ◌||◌, ◌↔◌, List, [], ◌∷◌, ◌++◌, is_some, Some, None, Option, ◌==◌}
use Rattle.vocabulary.specs.States.{state_number, target_of}
use Rattle.vocabulary.specs.declared.cause.Cause.{Cause}
use Rattle.vocabulary.specs.declared.order.Order.{Order}
use Rattle.steps.specs.Rows.{is_conditional}
use Rattle.laws.specs.Events.{Event, Happening, just, took, took_failure, reported, asked, noticed, greeted, parted, ticked, off, elsewhere}

-- An order, and the ticks that count against its limit.
pub record Open : Type 0 where
  pub order : Order
  pub ticks : ℕ

-- A report answers an order if it is of its target.
abbrev pub is_answer : Order → ℕ → Bool
is_answer o s = state_number (target_of o) == s

-- WAITING. What ends the wait for an order: the next order to the unit, a report of its target,
-- power-off; and any failure of the unit.
abbrev pub ends : Order → Happening → Bool
ends o (took p) = true
ends o took_failure = false
ends o (reported s) = is_answer o s
ends o (asked q) = false
ends o noticed = false
ends o (greeted major) = false
ends o parted = false
ends o ticked = false
ends o off = true
ends o elsewhere = false

abbrev pub closes : Order → Event → Bool
closes o e = ends o e.what || is_some e.fails

abbrev pub NoneCloses : Order → List Event → Type 0
NoneCloses o [] = Unit {0}
NoneCloses o (e ∷ es) = (closes o e ≡ false) × NoneCloses o es

abbrev pub is_tick : Happening → Bool
is_tick (took p) = false
is_tick took_failure = false
is_tick (reported s) = false
is_tick (asked q) = false
is_tick noticed = false
is_tick (greeted major) = false
is_tick parted = false
is_tick ticked = true
is_tick off = false
is_tick elsewhere = false

abbrev pub is_notice : Happening → Bool
is_notice (took p) = false
is_notice took_failure = false
is_notice (reported s) = false
is_notice (asked q) = false
is_notice noticed = true
is_notice (greeted major) = false
is_notice parted = false
is_notice ticked = false
is_notice off = false
is_notice elsewhere = false

-- The events behind the latest notice, or all of them if there is none.
abbrev pub some_notice : List Event → Bool
some_notice [] = false
some_notice (e ∷ es) = is_notice e.what || some_notice es

abbrev pub since_notice : List Event → List Event
since_notice [] = []
since_notice (e ∷ es) = cond (some_notice (e ∷ es)) (since_notice es) (e ∷ es)

abbrev pub ticks_in : List Event → ℕ
ticks_in [] = 0
ticks_in (e ∷ es) = cond (is_tick e.what) 1 0 + ticks_in es

-- Behind these events the unit has this order open: it was taken, nothing has closed it since, and so
-- many ticks stand behind the taking, or, if the order is conditional, behind the latest notice since
-- then, if there is one.
pub record Waits (w : Open) (es : List Event) : Type 0 where
  pub past : List Event
  pub since : List Event
  pub taken : es ≡ past ++ (just (took w.order) ∷ since)
  pub unclosed : NoneCloses w.order since
  pub ticked : w.ticks ≡ ticks_in (cond (is_conditional w.order) (since_notice since) since)

-- COUNTING ALONG. The open order behind one more event.
abbrev pub after : Happening → Option Open → Option Open
after (took o) s = Some (record { order = o; ticks = 0 })
after took_failure s = s
after (reported n) s = elim s [ None ↦ None | Some w ↦ cond (is_answer w.order n) None (Some w) ]
after (asked q) s = s
after noticed s = elim s [ None ↦ None | Some w ↦ cond (is_conditional w.order) (Some (record { order = w.order; ticks = 0 })) (Some w) ]
after (greeted major) s = s
after parted s = s
after ticked s = elim s [ None ↦ None | Some w ↦ Some (record { order = w.order; ticks = w.ticks + 1 }) ]
after off s = None
after elsewhere s = s

abbrev pub unless_failed : Option Cause → Option Open → Option Open
unless_failed None s = s
unless_failed (Some c) s = None

abbrev pub next : Option Open → Event → Option Open
next s e = unless_failed e.fails (after e.what s)

abbrev pub open_from : Option Open → List Event → Option Open
open_from s [] = s
open_from s (e ∷ es) = open_from (next s e) es

abbrev pub open_order : List Event → Option Open
open_order es = open_from None es

-- Both are the same.
abbrev pub OpenOrderIs : Type 0
OpenOrderIs = (es : List Event) (w : Open) → (open_order es ≡ Some w) ↔ Waits w es

-- FIVE COUNTS of one event, by the order that is open before it.
abbrev pub is_open : Option Open → ℕ
is_open None = 0
is_open (Some w) = 1

abbrev pub answers_it : ℕ → Option Open → ℕ
answers_it n None = 0
answers_it n (Some w) = cond (is_answer w.order n) 1 0

abbrev pub is_taken : Happening → ℕ
is_taken (took o) = 1
is_taken took_failure = 0
is_taken (reported n) = 0
is_taken (asked q) = 0
is_taken noticed = 0
is_taken (greeted major) = 0
is_taken parted = 0
is_taken ticked = 0
is_taken off = 0
is_taken elsewhere = 0

-- Answered: a report of the open order's target.
abbrev pub is_answered : Option Open → Happening → ℕ
is_answered s (took o) = 0
is_answered s took_failure = 0
is_answered s (reported n) = answers_it n s
is_answered s (asked q) = 0
is_answered s noticed = 0
is_answered s (greeted major) = 0
is_answered s parted = 0
is_answered s ticked = 0
is_answered s off = 0
is_answered s elsewhere = 0

-- Followed: another order is taken while one is open.
abbrev pub is_followed : Option Open → Happening → ℕ
is_followed s (took o) = is_open s
is_followed s took_failure = 0
is_followed s (reported n) = 0
is_followed s (asked q) = 0
is_followed s noticed = 0
is_followed s (greeted major) = 0
is_followed s parted = 0
is_followed s ticked = 0
is_followed s off = 0
is_followed s elsewhere = 0

-- Voided: power-off while one is open.
abbrev pub is_voided : Option Open → Happening → ℕ
is_voided s (took o) = 0
is_voided s took_failure = 0
is_voided s (reported n) = 0
is_voided s (asked q) = 0
is_voided s noticed = 0
is_voided s (greeted major) = 0
is_voided s parted = 0
is_voided s ticked = 0
is_voided s off = is_open s
is_voided s elsewhere = 0

-- Failed: the unit fails at the event, and the order is open still.
abbrev pub is_failed : Option Cause → Option Open → ℕ
is_failed None s = 0
is_failed (Some c) s = is_open s

abbrev pub taken : Option Open → Event → ℕ
taken s e = is_taken e.what

abbrev pub answered : Option Open → Event → ℕ
answered s e = is_answered s e.what

abbrev pub followed : Option Open → Event → ℕ
followed s e = is_followed s e.what

abbrev pub failed : Option Open → Event → ℕ
failed s e = is_failed e.fails (after e.what s)

abbrev pub voided : Option Open → Event → ℕ
voided s e = is_voided s e.what

-- A count along events, from the order that is open before them.
abbrev pub along : (Option Open → Event → ℕ) → Option Open → List Event → ℕ
along f s [] = 0
along f s (e ∷ es) = f s e + along f (next s e) es
