-- Which packet numbers a trip notice may have.
use Rattle.std.specs.Prelude.{ℕ, Bool, ◌||◌, ◌==◌}

-- Packet numbers that a trip notice cannot have: 0 is none, and 1, 5, 13, 14 and 15 are STM-1,
-- STM-5, STM-13, STM-14 and STM-15.
abbrev pub taken : ℕ → Bool
taken n = n == 0 || (n == 1 || (n == 5 || (n == 13 || (n == 14 || n == 15))))
