-- A text that is written item by item.
use Rattle.std.proofs.Common.{ℕ, ◌+◌, ◌<◌, ◌≤◌, List, [], length, get_or, take, sym, ap, ◌∙◌}
use Rattle.std.specs.List.{flat_map}
use Rattle.std.specs.Fmt.{IsPlainFormatter, HasWritten}
use Rattle.std.specs.declared.fmt.Formatter.{Formatter}
use Rattle.std.proofs.Output.{writes_in_calls_nil, has_written_append, has_written_of_eq}
use Rattle.std.proofs.lemmas.List.{take_more, take_all, flat_map_more}

module _ {W X : Type 0} (took : W → List ℕ → W → Type 0) (text : X → List ℕ) (xs : List X) where
  -- nothing is written before the first item
  pub put_none : (f : Formatter W) → IsPlainFormatter f → HasWritten took f [] f
  put_none f plain = record { wrote = writes_in_calls_nil took f.writer; plain = plain }

  -- an item behind those before it
  pub put_item : (i : ℕ) (d : X) (f g h : Formatter W) → i < length xs
      → HasWritten took f (flat_map text (take i xs)) g → HasWritten took g (text (get_or xs i d)) h → HasWritten took f (flat_map text (take (i + 1) xs)) h
  put_item i d f g h l p q =
      has_written_of_eq took f _ _ h (flat_map_more text [] (take i xs) (get_or xs i d) ∙ ap (flat_map text) (sym (take_more xs i d l))) (has_written_append took f _ g _ h p q)

  -- and at the end all of them
  pub put_all : (i : ℕ) (f g : Formatter W) → length xs ≤ i → HasWritten took f (flat_map text (take i xs)) g → HasWritten took f (flat_map text xs) g
  put_all i f g l p = has_written_of_eq took f _ _ g (ap (flat_map text) (take_all i xs l)) p
