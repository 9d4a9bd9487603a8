-- The bits that a packet is written in.
use Rattle.std.specs.Prelude.{ℕ, Bool, true, ◌&&◌, List, [], ◌++◌, nat_lt}
use Rattle.bits.specs.Bits.{field}
use Rattle.wire.specs.Kinds.{kind_number, kind_length}
use Rattle.wire.specs.Packets.{Content, version, status, request, order, report, notice, other, handed_on}
use Rattle.wire.specs.declared.kind.Kind.{Kind}
use Rattle.wire.specs.declared.kind.Kind.TheVariants.{Version, Status, Request, Order, Report, TripNotice}

-- A known packet: its number in 8 bits, its length in 13, and its values.
abbrev pub packed : ℕ → Kind → List ℕ → List ℕ
packed trip k values = field 8 (kind_number trip k) ++ (field 13 (kind_length k) ++ values)

-- The values: major and minor in 8 bits each, level in 3 and mode in 4, a state in 4. An unread packet is its bits.
abbrev pub encode : ℕ → Content → List ℕ
encode trip (version major minor) = packed trip Version (field 8 major ++ field 8 minor)
encode trip (status level mode) = packed trip Status (field 3 level ++ field 4 mode)
encode trip (request state) = packed trip Request (field 4 state)
encode trip (order state) = packed trip Order (field 4 state)
encode trip (report state) = packed trip Report (field 4 state)
encode trip notice = packed trip TripNotice []
encode trip (other bs) = bs

-- Whether a packet can be written: each value fits its field, and an unread packet is one that the reader hands on so.
abbrev pub writable : ℕ → Content → Bool
writable trip (version major minor) = nat_lt major 256 && nat_lt minor 256
writable trip (status level mode) = nat_lt level 8 && nat_lt mode 16
writable trip (request state) = nat_lt state 16
writable trip (order state) = nat_lt state 16
writable trip (report state) = nat_lt state 16
writable trip notice = true
writable trip (other bs) = handed_on trip bs
