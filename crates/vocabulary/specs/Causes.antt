-- The causes of failure and their numbers.
use Rattle.std.specs.Prelude.{ℕ, List, [], ◌∷◌}
use Rattle.vocabulary.specs.declared.cause.Cause.{Cause}
use Rattle.vocabulary.specs.declared.cause.Cause.TheVariants.{Request, Report, Time, TimeToDataAvailable, TimeWithoutNotice, TimeAfterNotice, FinalDisconnection, OwnReport}

-- The number of a cause: 1 request not allowed, 2 wrong report, 3 time on an order to CO, DE, HS or
-- unconditionally to CS, 4 time on the order to DA, 5 and 6 time on the conditional order to CS
-- without and with a trip notice, 7 final disconnection, 8 the unit's own report of Failure.
abbrev pub cause_number : Cause → ℕ
cause_number Request = 1
cause_number Report = 2
cause_number Time = 3
cause_number TimeToDataAvailable = 4
cause_number TimeWithoutNotice = 5
cause_number TimeAfterNotice = 6
cause_number FinalDisconnection = 7
cause_number OwnReport = 8

-- All causes.
abbrev pub causes : List Cause
causes = Request ∷ (Report ∷ (Time ∷ (TimeToDataAvailable ∷ (TimeWithoutNotice ∷ (TimeAfterNotice ∷ (FinalDisconnection ∷ (OwnReport ∷ [])))))))
