-- Refusals: number, place and layer.
use Rattle.std.specs.Prelude.{ℕ, List, [], ◌∷◌, ◌++◌, codes, decimal}
use Rattle.vocabulary.specs.declared.fault.Fault.{Fault}
use Rattle.vocabulary.specs.declared.fault.Layer.{Layer}
use Rattle.vocabulary.specs.declared.fault.Layer.TheVariants as layer
use Rattle.vocabulary.specs.declared.fault.Refusal.{Refusal}
use Rattle.vocabulary.specs.declared.fault.Refusal.TheVariants as refusal

-- The number of a refusal.
abbrev pub refusal_number : Refusal → ℕ
refusal_number refusal.Settings = 1
refusal_number refusal.UnknownStm = 2
refusal_number refusal.MessageLength = 3
refusal_number refusal.PacketCut = 4
refusal_number refusal.PacketLength = 5
refusal_number refusal.Link = 6
refusal_number refusal.Barred = 7
refusal_number refusal.Greeting = 8
refusal_number refusal.Range = 9
refusal_number refusal.Log = 10
refusal_number refusal.Full = 11
refusal_number refusal.Misfit = 12

-- All refusals.
abbrev pub refusals : List Refusal
refusals = refusal.Settings ∷ (refusal.UnknownStm ∷ (refusal.MessageLength ∷ (refusal.PacketCut ∷ (refusal.PacketLength ∷ (refusal.Link ∷ (refusal.Barred ∷ (refusal.Greeting ∷ (refusal.Range ∷ (refusal.Log ∷ (refusal.Full ∷ (refusal.Misfit ∷ [])))))))))))

-- What a layer is called.
abbrev pub layer_name : Layer → List ℕ
layer_name layer.Control = codes "control"
layer_name layer.Message = codes "message"
layer_name layer.Packet = codes "packet"
layer_name layer.Carrier = codes "carrier"
layer_name layer.Log = codes "log"

-- A refusal at a place of a layer.
abbrev pub fault_at : Refusal → ℕ → Layer → Fault
fault_at cause place layer = record { cause = cause; place = place; layer = layer }

-- The number of a fault is that of its refusal.
abbrev pub fault_number : Fault → ℕ
fault_number f = refusal_number f.cause

-- A fault as text: its number, its place, and what its layer is called.
abbrev pub fault_text : Fault → List ℕ
fault_text f = decimal (fault_number f) ++ (codes " " ++ (decimal f.place ++ (codes " " ++ layer_name f.layer)))
