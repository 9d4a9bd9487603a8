-- What the book is shown of a unit.
use Rattle.std.specs.Prelude.{ℕ, zero, suc, Bool, true, false, ◌||◌, List, Some, None, Option, ◌==◌}
use Rattle.vocabulary.specs.declared.state.State.TheVariants.{HotStandby, DataAvailable}
use Rattle.book.specs.Views.{level_seen}
use Rattle.book.specs.declared.view.View.{View}
use Rattle.steps.specs.Rows.{order_in, some_at}
use Rattle.steps.specs.declared.row.Row.{Row}
use Rattle.steps.specs.declared.surroundings.Surroundings.{Surroundings}

-- Whether the level announced, if one is, is that of the unit with a number. A call announces none by 0, so none is that of 0
-- alone, which is no unit's number.
abbrev pub is_announced : Option ℕ → ℕ → Bool
is_announced None zero = true
is_announced None (suc n) = false
is_announced (Some n) number = n == number

-- The view of the unit with a number, whose row stands between others: what it holds, wants and has
-- open, and what the surroundings and the other rows are to it.
abbrev pub view_of : Surroundings → ℕ → List Row → Row → List Row → View
view_of s number before r behind = record {
  held = r.held;
  want = r.want;
  «open» = order_in r.open;
  train_data = s.train_data;
  level = level_seen s.level s.national number;
  mode = s.mode;
  announced = is_announced s.announced number;
  other_at_hs = some_at HotStandby before || some_at HotStandby behind;
  other_at_da = some_at DataAvailable before || some_at DataAvailable behind;
}
