-- Octets that are written over others.
use Rattle.std.specs.Prelude.{ℕ, ◌+◌, List, ◌++◌, length, take, drop}

-- These octets, with a part written over them from a place on. Those before and behind stay.
abbrev pub overwritten : ℕ → List ℕ → List ℕ → List ℕ
overwritten at part octets = take at octets ++ (part ++ drop (at + length part) octets)
