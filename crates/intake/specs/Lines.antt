-- The lines of a text.
use Rattle.std.specs.Prelude.{◌≡◌, ℕ, cond, List, [], ◌∷◌, ◌++◌, map, length, take, Some, None, Option, ◌==◌}
use Rattle.script.specs.Grammar.{Said, reading}

-- A line so far, with an octet more. Of a longer line 513 octets are kept: it is unreadable all the same.
abbrev pub keep : List ℕ → ℕ → List ℕ
keep held c = take 513 (held ++ c ∷ [])

-- What the lines say that end in a text, each at a line feed (10), where `held` is the first line so far.
abbrev pub told : List ℕ → List ℕ → List (Option Said)
told held [] = []
told held (c ∷ cs) = cond (c == 10) (reading held ∷ told [] cs) (told (keep held c) cs)

-- The line so far behind that text.
abbrev pub left : List ℕ → List ℕ → List ℕ
left held [] = held
left held (c ∷ cs) = cond (c == 10) (left [] cs) (left (keep held c) cs)

-- What a line says that has begun and has no end; nothing if none has begun.
abbrev pub last_told : List ℕ → Option (Option Said)
last_told held = cond (length held == 0) None (Some (reading held))

-- The lines of a text that a line feed ends, whole, where `line` is the first so far.
abbrev pub ended : List ℕ → List ℕ → List (List ℕ)
ended line [] = []
ended line (c ∷ cs) = cond (c == 10) (line ∷ ended [] cs) (ended (line ++ c ∷ []) cs)

-- What stands behind the last line feed, whole.
abbrev pub unended : List ℕ → List ℕ → List ℕ
unended line [] = line
unended line (c ∷ cs) = cond (c == 10) (unended [] cs) (unended (line ++ c ∷ []) cs)

-- The law: of every text each line is told as it reads, in order, and so is a last line without an end.
pub record AsTheyRead : Type 0 where
  pub each : (text : List ℕ) → told [] text ≡ map reading (ended [] text)
  pub last : (text : List ℕ) → last_told (left [] text) ≡ last_told (unended [] text)
