-- The worked cases, computed.
use Rattle.std.proofs.Common.{refl}
use Rattle.std.specs.List.{AllByRecursion}
use Rattle.book.specs.Standard.{reason_for}
use Rattle.steps.specs.Exchanges.{exchange}
use Rattle.steps.specs.Cases.{cases, Holds, Plays, first_order}

pub all : AllByRecursion Holds cases
unfolding exchange reason_for
all = ((refl, refl), ((refl, refl), ((refl, tt), ((refl, tt), (((refl, refl), ((refl, refl), tt)), (((refl, refl), tt), (((refl, refl), tt), (((refl, refl), tt), tt))))))))

first : Plays first_order
unfolding exchange reason_for
first = (refl, refl)
