-- The smallest steps of a call, one by one.
use Rattle.std.specs.Prelude.{ℕ, ◌-◌, Bool, true, false, cond, not, ◌&&◌, ◌||◌, List, [], ◌∷◌, map, length, replicate, None, sum_by, ◌==◌, slice_set}
use Rattle.vocabulary.specs.Levels.{level_number, mode_number}
use Rattle.vocabulary.specs.declared.cause.Cause.TheVariants as cause
use Rattle.vocabulary.specs.declared.level.Level.{Level}
use Rattle.vocabulary.specs.declared.link.Link.TheVariants as link
use Rattle.vocabulary.specs.declared.mode.Mode.{Mode}
use Rattle.steps.specs.Rows.{fresh_row, is_checked, open_count, with_link, with_due}
use Rattle.steps.specs.Failing.{failed_by, lost_by}
use Rattle.steps.specs.Packets.{heard, answered_in, lost_in}
use Rattle.steps.specs.Ticks.{ticked, lost_by_tick}
use Rattle.steps.specs.Setups.{Setup, place_in, row_of, fresh_surroundings}
use Rattle.steps.specs.Settling.{Settled, ended, settle}
use Rattle.steps.specs.Calls.{Step, connected, heard_from, lost_plainly, lost_finally, status_set, announcement_set, train_data_set, tick_passed, settled, powered_off}
use Rattle.steps.specs.declared.counts.Counts.{Counts}
use Rattle.steps.specs.declared.row.Row.{Row}
use Rattle.steps.specs.declared.surroundings.Surroundings.{Surroundings}

-- A link that is lost drops its due frames; a final loss makes it final and fails the row by 7.
abbrev pub dropped : Row → Row
dropped r = with_due None false false (with_link link.Closed r)

abbrev pub parted : Row → Row
parted r = failed_by cause.FinalDisconnection (with_due None false false (with_link link.Final r))

-- A changed level or mode makes the status due on every checked link.
abbrev pub is_changed : Surroundings → Level → Mode → Bool
is_changed s l m = not (level_number l == level_number s.level && mode_number m == mode_number s.mode)

abbrev pub marked : Bool → Row → Row
marked changed r = with_due r.reply ((changed && is_checked r.link) || r.status_due) r.failure_due r

-- The row of one unit is changed, and no other.
abbrev pub changed : Setup → ℕ → (Row → Row) → List Row → List Row
changed c n f rows = slice_set rows (place_in c.settings.numbers n) (f (row_of c.settings rows n))

-- What a step makes of the rows, before any settling.
abbrev pub acted : Setup → Surroundings → Step → List Row → List Row
acted c s (connected n) rows = changed c n (with_link link.Open) rows
acted c s (heard_from n p) rows = changed c n (heard c.settings.versions p) rows
acted c s (lost_plainly n) rows = changed c n dropped rows
acted c s (lost_finally n) rows = changed c n parted rows
acted c s (status_set l n m) rows = map (marked (is_changed s l m)) rows
acted c s (announcement_set n) rows = rows
acted c s (train_data_set valid) rows = rows
acted c s tick_passed rows = map (ticked c.limits) rows
acted c s settled rows = rows
acted c s powered_off rows = replicate (length rows) fresh_row

-- What it makes of the surroundings.
abbrev pub surroundings_by : Step → Surroundings → Surroundings
surroundings_by (connected n) s = s
surroundings_by (heard_from n p) s = s
surroundings_by (lost_plainly n) s = s
surroundings_by (lost_finally n) s = s
surroundings_by (status_set l n m) s = record { level = l; mode = m; national = n; announced = s.announced; train_data = s.train_data }
surroundings_by (announcement_set n) s = record { level = s.level; mode = s.mode; national = s.national; announced = n; train_data = s.train_data }
surroundings_by (train_data_set valid) s = record { level = s.level; mode = s.mode; national = s.national; announced = s.announced; train_data = valid }
surroundings_by tick_passed s = s
surroundings_by settled s = s
surroundings_by powered_off s = fresh_surroundings

-- How many orders it closes as answered, as failed, as voided.
abbrev pub acted_answered : Setup → Step → List Row → ℕ
acted_answered c (connected n) rows = 0
acted_answered c (heard_from n p) rows = answered_in p (row_of c.settings rows n)
acted_answered c (lost_plainly n) rows = 0
acted_answered c (lost_finally n) rows = 0
acted_answered c (status_set l n m) rows = 0
acted_answered c (announcement_set n) rows = 0
acted_answered c (train_data_set valid) rows = 0
acted_answered c tick_passed rows = 0
acted_answered c settled rows = 0
acted_answered c powered_off rows = 0

abbrev pub acted_failed : Setup → Step → List Row → ℕ
acted_failed c (connected n) rows = 0
acted_failed c (heard_from n p) rows = lost_in c.settings.versions p (row_of c.settings rows n)
acted_failed c (lost_plainly n) rows = 0
acted_failed c (lost_finally n) rows = lost_by (row_of c.settings rows n)
acted_failed c (status_set l n m) rows = 0
acted_failed c (announcement_set n) rows = 0
acted_failed c (train_data_set valid) rows = 0
acted_failed c tick_passed rows = sum_by (lost_by_tick c.limits) rows
acted_failed c settled rows = 0
acted_failed c powered_off rows = 0

abbrev pub acted_voided : Step → List Row → ℕ
acted_voided (connected n) rows = 0
acted_voided (heard_from n p) rows = 0
acted_voided (lost_plainly n) rows = 0
acted_voided (lost_finally n) rows = 0
acted_voided (status_set l n m) rows = 0
acted_voided (announcement_set n) rows = 0
acted_voided (train_data_set valid) rows = 0
acted_voided tick_passed rows = 0
acted_voided settled rows = 0
acted_voided powered_off rows = sum_by (λ (r : Row). open_count r.open) rows

-- Every step ends by settling but a packet, behind which the settling is a step of its own, and power-off.
abbrev pub ends_settling : Step → Bool
ends_settling (connected n) = true
ends_settling (heard_from n p) = false
ends_settling (lost_plainly n) = true
ends_settling (lost_finally n) = true
ends_settling (status_set l n m) = true
ends_settling (announcement_set n) = true
ends_settling (train_data_set valid) = true
ends_settling tick_passed = true
ends_settling settled = true
ends_settling powered_off = false

-- A step, the frames that it added, its counts, and the rows and surroundings behind it.
pub record Moment : Type 0 where
  pub step : Step
  pub added : List (List ℕ)
  pub counts : Counts
  pub rows : List Row
  pub surroundings : Surroundings

-- What a step with its settling leaves, from the places that are free.
abbrev pub settled_by : Setup → Surroundings → Step → List Row → ℕ → Settled
settled_by c s w rows free = cond (ends_settling w) (settle c (surroundings_by w s) [] (acted c s w rows) free) (ended (acted c s w rows))

abbrev pub moment_from : Setup → Surroundings → Step → List Row → Settled → Moment
moment_from c s w rows t = record {
  step = w;
  added = t.added;
  counts = record { taken = t.taken; answered = acted_answered c w rows; followed = t.followed; failed = acted_failed c w rows; voided = acted_voided w rows };
  rows = t.rows;
  surroundings = surroundings_by w s;
}

abbrev pub moment_of : Setup → Surroundings → Step → List Row → ℕ → Moment
moment_of c s w rows free = moment_from c s w rows (settled_by c s w rows free)

-- Steps in turn.
abbrev pub moments_of : Setup → Surroundings → List Step → List Row → ℕ → List Moment
moments_of c s [] rows free = []
moments_of c s (w ∷ ws) rows free =
    moment_of c s w rows free
    ∷ moments_of c (surroundings_by w s) ws (moment_of c s w rows free).rows (free - length (moment_of c s w rows free).added)
