-- Frames by their octets.
use Rattle.std.proofs.lemmas.List.{length-map, map-set}

-- What holds of a list holds of the list of their octets: its length, and where one is written.
pub ruleset by_octets_each = (length-map, map-set)
