-- The frames that the control sends, read.
use Rattle.std.proofs.Common.{◌≡◌, ℕ, zero, suc, ◌/◌, ◌%◌, ◌<◌, cond, eqb, List, [], ◌∷◌, get_or, Ok, Err, Result, refl, arith}
use Rattle.std.specs.Int.Digits.{number_from_digits}
use Rattle.vocabulary.specs.Settings.{Agreed}
use Rattle.vocabulary.specs.declared.fault.Fault.{Fault}
use Rattle.vocabulary.specs.declared.level.Level.{Level}
use Rattle.vocabulary.specs.declared.level.Level.TheVariants.{Zero}
use Rattle.vocabulary.specs.declared.order.Order.TheVariants.{ToConfiguration}
use Rattle.vocabulary.specs.Levels.{level_number, mode_number}
use Rattle.vocabulary.specs.States.{order_number}
use Rattle.bits.specs.Bits.{field}
use Rattle.wire.specs.Messages.{Reading, read_message}
use Rattle.wire.specs.Packets.{Content, version, status, notice}
use Rattle.wire.specs.Packets as wire
use Rattle.steps.specs.Puts.{Put, reply, failure, ordered, takes, packet_of, frame_of, minor_for}
use Rattle.steps.specs.Puts as puts
use Rattle.steps.specs.declared.surroundings.Surroundings.{Surroundings}
use Rattle.laws.specs.Events.{Event, just, took, took_failure, orders_by, orders_for, orders_read, is_order}

-- a frame to the unit n that reads as one packet, with these orders in it, so many of them not Failure orders
pub record Read (trip n : ℕ) (f : List ℕ) (es : List Event) (k : ℕ) : Type 0 where
  pub packet : Content
  pub reads : read_message trip f ≡ Ok (record { sender = n; packets = packet ∷ [] })
  pub orders : orders_by packet ≡ es
  pub count : is_order packet ≡ k

-- the first packet that is read
abbrev first_of : List Content → Content
first_of [] = notice
first_of (p ∷ ps) = p

abbrev packet_in : Result Reading Fault → Content
packet_in (Ok m) = first_of m.packets
packet_in (Err f) = notice

-- a frame that reads as one packet
reads : (trip n : ℕ) (f : List ℕ) (p : Content) → read_message trip f ≡ Ok (record { sender = n; packets = p ∷ [] }) → Read trip n f (orders_by p) (is_order p)
reads trip n f p e = record { packet = p; reads = e; orders = refl; count = refl }

-- the version reply: three bits of the major share an octet with the length
abbrev version_frame : ℕ → ℕ → ℕ → ℕ → ℕ → ℕ → List ℕ
version_frame n x y z o p = n ∷ (7 ∷ (1 ∷ (1 ∷ (number_from_digits 2 (0 ∷ (0 ∷ (1 ∷ (0 ∷ (1 ∷ (x ∷ (y ∷ (z ∷ [])))))))) ∷ (o ∷ (p ∷ []))))))

version_reads : (trip n x y z o p : ℕ) → x < 2 → y < 2 → z < 2 → Read trip n (version_frame n x y z o p) [] 0
version_reads trip n zero zero zero o p a b c = reads trip n (version_frame n 0 0 0 o p) (packet_in (read_message trip (version_frame n 0 0 0 o p))) refl
version_reads trip n zero zero (suc zero) o p a b c = reads trip n (version_frame n 0 0 1 o p) (packet_in (read_message trip (version_frame n 0 0 1 o p))) refl
version_reads trip n zero (suc zero) zero o p a b c = reads trip n (version_frame n 0 1 0 o p) (packet_in (read_message trip (version_frame n 0 1 0 o p))) refl
version_reads trip n zero (suc zero) (suc zero) o p a b c = reads trip n (version_frame n 0 1 1 o p) (packet_in (read_message trip (version_frame n 0 1 1 o p))) refl
version_reads trip n (suc zero) zero zero o p a b c = reads trip n (version_frame n 1 0 0 o p) (packet_in (read_message trip (version_frame n 1 0 0 o p))) refl
version_reads trip n (suc zero) zero (suc zero) o p a b c = reads trip n (version_frame n 1 0 1 o p) (packet_in (read_message trip (version_frame n 1 0 1 o p))) refl
version_reads trip n (suc zero) (suc zero) zero o p a b c = reads trip n (version_frame n 1 1 0 o p) (packet_in (read_message trip (version_frame n 1 1 0 o p))) refl
version_reads trip n (suc zero) (suc zero) (suc zero) o p a b c = reads trip n (version_frame n 1 1 1 o p) (packet_in (read_message trip (version_frame n 1 1 1 o p))) refl
version_reads trip n x y z o p a b c = absurd (omega arith)

bit_small : (k : ℕ) → k % 2 < 2
bit_small k = grind arith

read_version : (trip n a b : ℕ) → Read trip n (frame_of trip n (version a b)) [] 0
read_version trip n a b =
    let f = frame_of trip n (version a b) in
    version_reads trip n (get_or (field 8 a) 0 0) (get_or (field 8 a) 1 0) (get_or (field 8 a) 2 0) (get_or f 5 0) (get_or f 6 0)
    (bit_small (a / 2 / 2 / 2 / 2 / 2 / 2 / 2)) (bit_small (a / 2 / 2 / 2 / 2 / 2 / 2)) (bit_small (a / 2 / 2 / 2 / 2 / 2))

-- the status: the level shares an octet with the length
read_status : (trip n : ℕ) (l : Level) (m : ℕ) → Read trip n (frame_of trip n (status (level_number l) m)) [] 0
read_status trip n Zero m = reads trip n (frame_of trip n (status 0 m)) (packet_in (read_message trip (frame_of trip n (status 0 m)))) refl
read_status trip n l m = reads trip n (frame_of trip n (status (level_number l) m)) (packet_in (read_message trip (frame_of trip n (status (level_number l) m)))) refl

-- the orders that a put is
abbrev pub put_events : Put → List Event
put_events (reply major) = []
put_events puts.status = []
put_events failure = just took_failure ∷ []
put_events (ordered o) = just (took o) ∷ []

pub read_put : (a : Agreed) (s : Surroundings) (n : ℕ) (q : Put) → Read a.trip n (frame_of a.trip n (packet_of a s q)) (put_events q) (takes q)
read_put a s n (reply major) = read_version a.trip n major (minor_for a.versions major)
read_put a s n puts.status = read_status a.trip n s.level (mode_number s.mode)
read_put a s n failure = reads a.trip n (frame_of a.trip n (wire.order 8)) (wire.order 8) refl
read_put a s n (ordered ToConfiguration) = reads a.trip n (frame_of a.trip n (wire.order 2)) (wire.order 2) refl
read_put a s n (ordered o) = reads a.trip n (frame_of a.trip n (wire.order (order_number o))) (wire.order (order_number o)) refl

pub read_orders : (trip n : ℕ) (f : List ℕ) (es : List Event) (k x : ℕ) → Read trip n f es k → orders_for x (read_message trip f) ≡ cond (eqb n x) es []
read_orders trip n f es k x r = grind arith

pub read_count : (trip n : ℕ) (f : List ℕ) (es : List Event) (k : ℕ) → Read trip n f es k → orders_read (read_message trip f) ≡ k
read_count trip n f es k r = grind arith
