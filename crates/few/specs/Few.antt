-- What a few values mean.
use Rattle.std.specs.Prelude.{◌≡◌, ℕ, List, length, take, Result, MatchResult, ◌<◌}
use Rattle.few.specs.declared.Few.{Few}
use Rattle.few.specs.declared.Full.{Full}

-- The values, in their order.
abbrev pub held : {T : Type 0} {N : ℕ} → Few T N → List T
held f = take f.len f.items

-- At most n values.
abbrev pub Fits : {T : Type 0} (n : ℕ) → {N : ℕ} → List T → Result (Few T N) Full → Type 0
Fits n xs r = MatchResult r (λ f. held f ≡ xs) (λ _. n < length xs)
