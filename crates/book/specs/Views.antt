-- What the parts of a view mean.
use Rattle.std.specs.Prelude.{ℕ, cond, List, [], ◌∷◌, codes, ◌==◌}
use Rattle.vocabulary.specs.declared.level.Level.{Level}
use Rattle.vocabulary.specs.declared.level.Level.TheVariants.{Zero, Ntc, One, Two, Three}
use Rattle.book.specs.declared.view.Want.{Want}
use Rattle.book.specs.declared.view.Want.TheVariants.{Configuration, DataEntry, ColdStandby}
use Rattle.book.specs.declared.view.LevelSeen.{LevelSeen}
use Rattle.book.specs.declared.view.LevelSeen.TheVariants.{NotNtc, Own, Anothers}

-- The number of a want is that of the state asked for: CO 2, DE 3, CS 4.
abbrev pub want_number : Want → ℕ
want_number Configuration = 2
want_number DataEntry = 3
want_number ColdStandby = 4

-- What a want is called: as the state asked for.
abbrev pub want_name : Want → List ℕ
want_name Configuration = codes "CO"
want_name DataEntry = codes "DE"
want_name ColdStandby = codes "CS"

-- All wants.
abbrev pub wants : List Want
wants = Configuration ∷ (DataEntry ∷ (ColdStandby ∷ []))

-- What the level in force is to one STM: at level NTC its own if the national number is the STM's,
-- else another's; at every other level not NTC.
abbrev pub level_seen : Level → ℕ → ℕ → LevelSeen
level_seen Zero national stm = NotNtc
level_seen Ntc national stm = cond (national == stm) Own Anothers
level_seen One national stm = NotNtc
level_seen Two national stm = NotNtc
level_seen Three national stm = NotNtc
