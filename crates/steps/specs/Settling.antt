-- Settling.
use Rattle.std.specs.Prelude.{ℕ, ◌+◌, ◌-◌, cond, List, [], ◌∷◌, ◌++◌, length, take, nat_lt}
use Rattle.steps.specs.Setups.{Setup, number_at}
use Rattle.steps.specs.Views.{view_of}
use Rattle.steps.specs.Puts.{Put, wanted, took_all, takes_all, follows_all, frames_of}
use Rattle.steps.specs.declared.row.Row.{Row}
use Rattle.steps.specs.declared.surroundings.Surroundings.{Surroundings}

-- What a row would put at its turn: the rows before it are as this settling has left them.
abbrev pub wanted_at : Setup → Surroundings → List Row → Row → List Row → List Put
wanted_at c s before r behind = wanted (c.answers (view_of s (number_at c.settings (length before)) before r behind)) r

-- The rows that a settling leaves, the frames that it adds, and how many orders were taken and followed.
pub record Settled : Type 0 where
  pub rows : List Row
  pub added : List (List ℕ)
  pub taken : ℕ
  pub followed : ℕ

-- Nothing more is put.
abbrev pub ended : List Row → Settled
ended rows = record { rows = rows; added = []; taken = 0; followed = 0 }

-- The puts of the row at a place, all of them taken, and then what the rows behind it do.
abbrev pub settled_row : Setup → Surroundings → ℕ → List Put → Row → Settled → Settled
settled_row c s place ps r rest = record {
  rows = took_all ps r ∷ rest.rows;
  added = frames_of c.settings s (number_at c.settings place) ps ++ rest.added;
  taken = takes_all ps + rest.taken;
  followed = follows_all ps r + rest.followed;
}

-- Rows come in settings order, each with the places that those before it have left. The first put that
-- finds no place ends the settling, for the rows behind it too.
abbrev pub settle : Setup → Surroundings → List Row → List Row → ℕ → Settled
settle c s before [] free = ended []
settle c s before (r ∷ behind) free =
    cond (nat_lt free (length (wanted_at c s before r behind)))
    (settled_row c s (length before) (take free (wanted_at c s before r behind)) r (ended behind))
    (settled_row c s (length before) (wanted_at c s before r behind) r
    (settle c s (before ++ (took_all (wanted_at c s before r behind) r ∷ [])) behind (free - length (wanted_at c s before r behind))))
