-- Which orders may be given where, whatever the book.
use Rattle.std.specs.Prelude.{ℕ, Bool, true, false, cond, ◌&&◌, ◌||◌, List, [], ◌∷◌, Some, None, Option, ◌==◌}
use Rattle.vocabulary.specs.States.{state_number, order_number}
use Rattle.vocabulary.specs.declared.state.State.{State}
use Rattle.vocabulary.specs.declared.order.Order.{Order}
use Rattle.vocabulary.specs.declared.order.Order.TheVariants.{ToConfiguration, ToDataEntry, ToColdStandby, ToColdStandbyConditionally, ToHotStandby, ToDataAvailable}

-- Is this pair of numbers one of these pairs?
abbrev pub among : ℕ → ℕ → List (ℕ × ℕ) → Bool
among m n [] = false
among m n (p ∷ ps) = (m == p.0 && n == p.1) || among m n ps

-- The ten pairs of a held state and an order that may be given in it, by their numbers.
abbrev pub pairs : List (ℕ × ℕ)
pairs = (1, 2) ∷ ((2, 3) ∷ ((2, 4) ∷ ((3, 4) ∷ ((4, 6) ∷ ((4, 7) ∷ ((6, 4) ∷ ((6, 7) ∷ ((7, 4) ∷ ((7, 5) ∷ [])))))))))

-- May this order be given in this held state?
unfoldable pub paired : State → Order → Bool
paired s o = among (state_number s) (order_number o) pairs

-- The three pairs of an open order and one that may follow it, by their numbers.
abbrev pub sequels : List (ℕ × ℕ)
sequels = (3, 4) ∷ ((6, 7) ∷ ((5, 4) ∷ []))

-- May this order follow that one while it is open?
abbrev pub follows : Order → Order → Bool
follows before o = among (order_number before) (order_number o) sequels

-- No open order forbids this order: none is open, or this one may follow it.
abbrev pub free : Option Order → Order → Bool
free None o = true
free (Some before) o = follows before o

-- An answer, if it passes a test; else none.
abbrev pub kept : {X : Type 0} → (X → Bool) → Option X → Option X
kept test None = None
kept test (Some x) = cond (test x) (Some x) None

-- Are two orders the same? Their numbers tell.
abbrev pub same : Order → Order → Bool
same o p = order_number o == order_number p

-- The limit of an order in ticks: five seconds to DA, ten seconds for every other.
abbrev pub usual_limit : Order → ℕ
usual_limit ToConfiguration = 100
usual_limit ToDataEntry = 100
usual_limit ToColdStandby = 100
usual_limit ToColdStandbyConditionally = 100
usual_limit ToHotStandby = 100
usual_limit ToDataAvailable = 50
