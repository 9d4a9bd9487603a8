-- What a control is made with, and what it keeps besides its rows.
use Rattle.std.specs.Prelude.{ℕ, zero, suc, false, cond, List, [], ◌∷◌, length, replicate, None, Option, ◌==◌, slice_index, slice_index_or}
use Rattle.vocabulary.specs.Settings.{Agreed}
use Rattle.vocabulary.specs.declared.level.Level.TheVariants as level
use Rattle.vocabulary.specs.declared.mode.Mode.TheVariants as mode
use Rattle.vocabulary.specs.declared.order.Order.{Order}
use Rattle.book.specs.declared.view.View.{View}
use Rattle.steps.specs.Rows.{fresh_row}
use Rattle.steps.specs.declared.row.Row.{Row}
use Rattle.steps.specs.declared.surroundings.Surroundings.{Surroundings}

-- Settings, and a book by its answers and its limits.
pub record Setup : Type 0 where
  pub settings : Agreed
  pub answers : View → Option Order
  pub limits : Order → ℕ

-- A book's answers and limits over settings.
abbrev pub setup : {B : Type 0} → (B → View → Option Order) → (B → Order → ℕ) → Agreed → B → Setup
setup answer limit s b = record { settings = s; answers = answer b; limits = limit b }

-- The number of the unit at a place of the settings, from 0 on.
abbrev pub number_at : Agreed → ℕ → ℕ
number_at s i = slice_index s.numbers i

-- The place of a number among these; behind the last one if it is not among them.
abbrev pub place_in : List ℕ → ℕ → ℕ
place_in [] n = zero
place_in (m ∷ ms) n = cond (n == m) zero (suc (place_in ms n))

-- The row of the unit with a number. Rows stand in settings order.
abbrev pub row_of : Agreed → List Row → ℕ → Row
row_of s rows n = slice_index_or rows (place_in s.numbers n) fresh_row

-- Fresh rows, one for each number, and fresh surroundings: level 0, mode SB, no national number, no
-- announcement, invalid train data.
abbrev pub fresh_rows : Agreed → List Row
fresh_rows s = replicate (length s.numbers) fresh_row

abbrev pub fresh_surroundings : Surroundings
fresh_surroundings = record { level = level.Zero; mode = mode.StandBy; national = 0; announced = None; train_data = false }
