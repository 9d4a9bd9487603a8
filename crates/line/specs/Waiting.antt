-- What a line means. Its slots are used as a ring: behind the last slot comes slot 0 again.
use Rattle.std.specs.Prelude.{◌≡◌, ℕ, ◌+◌, ◌-◌, cond, List, ◌++◌, length, take, drop, Ok, Err, Result, ◌==◌, nat_lt}
use Rattle.std.specs.Borrow.{GName}
use Rattle.few.specs.declared.Full.{Full}
use Rattle.line.specs.declared.Line.{Line}

-- What the lent slots hold.
abbrev pub lent : {T : Type 0} → Line T → List T
lent l = l.slots.now

-- The loan of the slots. As long as it is the same one, the lender gets back what the line's slots hold last.
-- Each contract that takes a line as `&mut` says so: nothing else ties a struct that holds a `&mut` to its lender.
abbrev pub loan : {T : Type 0} → Line T → GName
loan l = l.slots.ghost_name

-- The slot of the first element.
abbrev pub start_of : {T : Type 0} → Line T → ℕ
start_of l = l.first

-- The slot of a place: that many slots behind the first element's, counted round the end.
abbrev pub slot_of : {T : Type 0} → Line T → ℕ → ℕ
slot_of l i = cond (nat_lt (start_of l + i) (length (lent l))) (start_of l + i) (start_of l + i - length (lent l))

-- What the slots hold, in the order in which they are used: from the first element's slot to the end, then from slot 0.
abbrev pub ring : {T : Type 0} → Line T → List T
ring l = drop (start_of l) (lent l) ++ take (start_of l) (lent l)

-- The elements that wait, in order.
abbrev pub waits : {T : Type 0} → Line T → List T
waits l = take l.used (ring l)

-- How many places are free: one for each slot that holds no waiting element.
abbrev pub room : {T : Type 0} → Line T → ℕ
room l = length (lent l) - length (waits l)

-- The answer to a put, by how many places it finds free: it is refused exactly when there is none.
abbrev pub verdict : ℕ → Result (Unit {0}) Full
verdict n = cond (n == 0) (Err (record {})) (Ok tt)

-- First in, first out: all that ever came, in its order, is all that ever went, in its order, and then what waits.
abbrev pub InOrder : {T : Type 0} → List T → List T → Line T → Type 0
InOrder came went l = came ≡ went ++ waits l
