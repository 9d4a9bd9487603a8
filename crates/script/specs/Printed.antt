-- How an event is written as a line.
use Rattle.std.specs.Prelude.{◌≡◌, ℕ, ◌<◌, ◌≤◌, cond, List, [], ◌∷◌, ◌++◌, length, Some, codes, decimal}
use Rattle.std.specs.List.{flat_map}
use Rattle.vocabulary.specs.Hex.{hex}
use Rattle.script.specs.Grammar.{Said, anew, connected, lost, lost_for_good, came, status, announced, train_data, ticks, power_off, reading}

-- A number behind a blank.
abbrev pub spaced_number : ℕ → List ℕ
spaced_number n = 32 ∷ decimal n

-- Numbers, each behind a blank.
abbrev pub spaced : List ℕ → List ℕ
spaced ns = flat_map spaced_number ns

-- The line that says this: numbers in decimal digits, octets in hexadecimal ones.
abbrev pub printed : Said → List ℕ
printed (anew ns) = codes "n" ++ spaced ns
printed (connected n) = codes "c" ++ spaced (n ∷ [])
printed (lost n) = codes "l" ++ spaced (n ∷ [])
printed (lost_for_good n) = codes "f" ++ spaced (n ∷ [])
printed (came os) = codes "m " ++ hex os
printed (status level number mode) = codes "s" ++ spaced (level ∷ (number ∷ (mode ∷ [])))
printed (announced n) = codes "a" ++ spaced (n ∷ [])
printed (train_data valid) = cond valid (codes "v 1") (codes "v 0")
printed (ticks k) = codes "t" ++ spaced (k ∷ [])
printed power_off = codes "p"

-- Each of these is below a bound.
abbrev pub EachBelow : ℕ → List ℕ → Type 0
EachBelow k [] = Unit {0}
EachBelow k (n ∷ ns) = (n < k) × EachBelow k ns

-- What an event of the code can say: numbers of 16 bits, at most nine behind n; 1 to 255 octets of a message.
abbrev pub Sayable : Said → Type 0
Sayable (anew ns) = EachBelow 65536 ns × (length ns ≤ 9)
Sayable (connected n) = n < 65536
Sayable (lost n) = n < 65536
Sayable (lost_for_good n) = n < 65536
Sayable (came os) = EachBelow 256 os × (1 ≤ length os) × (length os ≤ 255)
Sayable (status level number mode) = EachBelow 65536 (level ∷ (number ∷ (mode ∷ [])))
Sayable (announced n) = n < 65536
Sayable (train_data valid) = Unit {0}
Sayable (ticks k) = k < 65536
Sayable power_off = Unit {0}

-- The law: any event, printed and read again, is that event.
abbrev pub ReadsBack : Type 0
ReadsBack = (s : Said) → Sayable s → reading (printed s) ≡ Some s
