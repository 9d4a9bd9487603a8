-- The packets that are known here: their numbers and their lengths.
use Rattle.std.specs.Prelude.{ℕ, List, [], ◌∷◌}
use Rattle.wire.specs.declared.kind.Kind.{Kind}
use Rattle.wire.specs.declared.kind.Kind.TheVariants.{Version, Status, Request, Order, Report, TripNotice}

-- The number of a known packet. That of a trip notice is a setting.
abbrev pub kind_number : ℕ → Kind → ℕ
kind_number trip Version = 1
kind_number trip Status = 5
kind_number trip Request = 13
kind_number trip Order = 14
kind_number trip Report = 15
kind_number trip TripNotice = trip

-- The length of a known packet in bits: 21 for its number and its length field, and its values behind them.
abbrev pub kind_length : Kind → ℕ
kind_length Version = 37
kind_length Status = 28
kind_length Request = 25
kind_length Order = 25
kind_length Report = 25
kind_length TripNotice = 21

-- All of them.
abbrev pub kinds : List Kind
kinds = Version ∷ (Status ∷ (Request ∷ (Order ∷ (Report ∷ (TripNotice ∷ [])))))
