-- Frames, and what a carrier answers to a put.
use Rattle.std.specs.Prelude.{ℕ, cond, List, Ok, Err, Result, ◌==◌}
use Rattle.vocabulary.specs.declared.fault.Fault.{Fault}
use Rattle.vocabulary.specs.declared.fault.Layer.TheVariants as layer
use Rattle.vocabulary.specs.declared.fault.Refusal.TheVariants as refusal
use Rattle.vocabulary.specs.declared.octets.Octets.{Octets}
use Rattle.vocabulary.specs.Octets.{in_size, octets_of}
use Rattle.vocabulary.specs.Refusals.{fault_at}

-- The most octets of a frame. It has at least one.
abbrev pub frame_size : ℕ
frame_size = 16

-- Octets that are no frame are refused by 12, and a frame for which no place is free by 11: place 0, layer carrier.
abbrev pub misfit_fault : Fault
misfit_fault = fault_at refusal.Misfit 0 layer.Carrier

abbrev pub full_fault : Fault
full_fault = fault_at refusal.Full 0 layer.Carrier

-- Octets as a frame, or their refusal.
abbrev pub to_frame : List ℕ → Result (List ℕ) Fault
to_frame xs = cond (in_size frame_size xs) (Ok xs) (Err misfit_fault)

-- What a put is answered where so many places are free: what is no frame is refused, and a frame exactly at 0 free places.
abbrev pub put_answer : List ℕ → ℕ → Result (Unit {0}) Fault
put_answer xs free = cond (in_size frame_size xs) (cond (free == 0) (Err full_fault) (Ok tt)) (Err misfit_fault)

-- An answer, with its frame by its octets.
abbrev pub by_octets : Result (Octets 16) Fault → Result (List ℕ) Fault
by_octets (Ok frame) = Ok (octets_of frame)
by_octets (Err fault) = Err fault
