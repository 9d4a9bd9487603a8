-- Levels and modes as SUBSET-026, chapter 7, numbers them.
use Rattle.std.specs.Prelude.{ℕ, List, [], ◌∷◌}
use Rattle.vocabulary.specs.declared.level.Level.{Level}
use Rattle.vocabulary.specs.declared.level.Level.TheVariants.{Zero, Ntc, One, Two, Three}
use Rattle.vocabulary.specs.declared.mode.Mode.{Mode}
use Rattle.vocabulary.specs.declared.mode.Mode.TheVariants.{FullSupervision, OnSight, StaffResponsible, Shunting, Unfitted, Sleeping, StandBy, Trip, PostTrip, SystemFailure, Isolation, NonLeading, LimitedSupervision, NationalSystem, Reversing, PassiveShunting}

-- The number of a level: 1 is NTC, and 2, 3 and 4 are levels 1, 2 and 3.
abbrev pub level_number : Level → ℕ
level_number Zero = 0
level_number Ntc = 1
level_number One = 2
level_number Two = 3
level_number Three = 4

-- All levels.
abbrev pub levels : List Level
levels = Zero ∷ (Ntc ∷ (One ∷ (Two ∷ (Three ∷ []))))

-- The number of a mode.
abbrev pub mode_number : Mode → ℕ
mode_number FullSupervision = 0
mode_number OnSight = 1
mode_number StaffResponsible = 2
mode_number Shunting = 3
mode_number Unfitted = 4
mode_number Sleeping = 5
mode_number StandBy = 6
mode_number Trip = 7
mode_number PostTrip = 8
mode_number SystemFailure = 9
mode_number Isolation = 10
mode_number NonLeading = 11
mode_number LimitedSupervision = 12
mode_number NationalSystem = 13
mode_number Reversing = 14
mode_number PassiveShunting = 15

-- All modes.
abbrev pub modes : List Mode
modes = FullSupervision ∷ (OnSight ∷ (StaffResponsible ∷ (Shunting ∷ (Unfitted ∷ (Sleeping ∷ (StandBy ∷ (Trip ∷ (PostTrip ∷ (SystemFailure ∷ (Isolation ∷ (NonLeading ∷ (LimitedSupervision ∷ (NationalSystem ∷ (Reversing ∷ (PassiveShunting ∷ [])))))))))))))))
