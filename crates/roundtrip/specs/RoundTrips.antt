-- What is written is read back, and what is read is written back.
use Rattle.std.specs.Prelude.{◌≡◌, ℕ, ◌*◌, ◌≤◌, Bool, true, false, ◌&&◌, List, [], ◌∷◌, ◌++◌, length, take, drop, is_ok, Ok, Result, nat_le}
use Rattle.std.specs.List.{flat_map, AllByRecursion}
use Rattle.vocabulary.specs.declared.fault.Fault.{Fault}
use Rattle.wire.specs.Messages.{Reading, read_message, body_bits}
use Rattle.wire.specs.Packets.{Content}
use Rattle.writer.specs.Encoding.{encode, writable}
use Rattle.writer.specs.Drafts.{room}

-- The bits of packets, one behind the other.
abbrev pub body_of : ℕ → List Content → List ℕ
body_of trip ps = flat_map (encode trip) ps

-- There is a packet.
abbrev pub some_packet : List Content → Bool
some_packet [] = false
some_packet (p ∷ ps) = true

-- Every packet can be written.
abbrev pub all_writable : ℕ → List Content → Bool
all_writable trip [] = true
all_writable trip (p ∷ ps) = writable trip p && all_writable trip ps

-- No refusal applies: there is a packet, each can be written, and together they find room.
abbrev pub acceptable : ℕ → List Content → List ℕ → Bool
acceptable trip ps s = some_packet ps && (all_writable trip ps && nat_le (length (body_of trip ps)) (8 * room s))

-- Packets that are written to a buffer s, with the answer r, so that it holds s': they are granted exactly if no
-- refusal applies, and then the octets that were written are read as themselves: that sender, and those packets in
-- their order.
pub record ReadBack (trip sender : ℕ) (ps : List Content) (s : List ℕ) (r : Result ℕ Fault) (s' : List ℕ) : Type 0 where
  pub granted : is_ok r ≡ acceptable trip ps s
  pub back : (n : ℕ) → r ≡ Ok n → read_message trip (take n s') ≡ Ok (record { sender = sender; packets = ps })
  pub behind : (n : ℕ) → r ≡ Ok n → drop n s' ≡ drop n s

-- The bits behind the packets of a message are zeros.
abbrev pub ZeroPadded : ℕ → List ℕ → Reading → Type 0
ZeroPadded trip m r = AllByRecursion (λ b. b ≡ 0) (drop (length (body_of trip r.packets)) (body_bits m))

-- Octets m that are rewritten to a buffer s, with the answer r, so that it holds s': if they are read as a message, and
-- there is room for it, then it is written, with as many octets, and if its padding is zero, with the same octets.
pub record Rewritten (trip : ℕ) (m s : List ℕ) (r : Result ℕ Fault) (s' : List ℕ) : Type 0 where
  pub granted : (x : Reading) → read_message trip m ≡ Ok x → length m ≤ length s → r ≡ Ok (length m)
  pub same : (x : Reading) → read_message trip m ≡ Ok x → length m ≤ length s → ZeroPadded trip m x → s' ≡ m ++ drop (length m) s
