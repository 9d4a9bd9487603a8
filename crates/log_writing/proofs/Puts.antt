-- One entry more, and the trailer behind the last.
use Rattle.std.proofs.Common.{◌≡◌, ℕ, zero, suc, ◌+◌, ◌*◌, ◌<◌, ◌≤◌, true, List, [], ◌∷◌, ◌++◌, map, length, get_or, take, drop, sym, ap, ◌∙◌, append_assoc, arith, length-append, length-drop, length-take, refl}
use Rattle.std.specs.List.{flat_map, list_all, slice_get}
use Rattle.std.proofs.lemmas.Grind.{common_steps}
use Rattle.std.proofs.lemmas.List.{drop_at, drop-append-le, drop-drop, drop-take, length-take-le, map_push, take_at}
use Rattle.std.proofs.lemmas.List.Recursion.{and_push}
use Rattle.std.proofs.lemmas.Bool.{and_parts, le-leb}
use Rattle.std.proofs.lemmas.Bool.Decides.{nat_tests}
use Rattle.vocabulary.specs.declared.octets.Octets.{Octets}
use Rattle.vocabulary.specs.Octets.{in_size, octets_of}
use Rattle.log_format.specs.Format.{entry_of, log_of, trailer_of}
use Rattle.log_format.specs.Reading.{entries_in, frame_in, frames_in, is_entry, read_entry}
use Rattle.log_format.proofs.Entries.{AllEntries, AllFrames, frames_sized, entry_right, frame_entry, joined_entries, length_entry, length_frames}
use Rattle.log_format.proofs.Laws.{frames_log, reads_back}
use Rattle.log_writing.specs.Overwriting.{overwritten}
use Rattle.log_writing.specs.Writing.{closing, open_frames, open_octets}
use Rattle.log_writing.specs.declared.open.OpenLog.{OpenLog}

-- The octets of a frame are 1 to 16.
pub frame_size_lem : (f : Octets 16) → in_size 16 (octets_of f) ≡ true
frame_size_lem f = let n = length-take f.octets.len f.octets.items in grind (arith, nat_tests)

-- What an open log counts, and its frame at a place.
pub open_count : (l : OpenLog) → length (open_frames l) ≡ l.count
open_count l = length_frames l.count (open_octets l)

pub open_sized : (l : OpenLog) → AllFrames (open_frames l)
open_sized l = frames_sized (entries_in l.count (open_octets l)) l.right

-- The first n of more entries, and the frame in the one at a place.
pub first_entries : (m n : ℕ) (os : List ℕ) → n ≤ m → take n (entries_in m os) ≡ entries_in n os
first_entries m zero os h = refl
first_entries zero (suc n) os h = absurd (omega arith)
first_entries (suc m) (suc n) os h = ap (λ es. take 17 os ∷ es) (first_entries m n (drop 17 os) (omega arith))

pub frame_at : (es : List (List ℕ)) (i : ℕ) (d : List ℕ) → AllEntries es → i < length es → read_entry (get_or es i d) ≡ slice_get (map frame_in es) i
frame_at [] i d h l = absurd (omega arith)
frame_at (e ∷ es) zero d h l = grind arith
frame_at (e ∷ es) (suc i) d h l = frame_at es i d (and_parts (is_entry e) (list_all is_entry es) h).1 (omega arith)

-- What is written over octets leaves those before it and those behind it, and as many as there were.
take_front : (k at : ℕ) (part os : List ℕ) → k + at ≤ length os → take k (overwritten (k + at) part os) ≡ take k os
take_front k at part os h = grind (arith, common_steps)

drop_front : (k at : ℕ) (part os : List ℕ) → k + at ≤ length os → drop k (overwritten (k + at) part os) ≡ overwritten at part (drop k os)
drop_front k at part os h =
    let l : k ≤ length (take (k + at) os) = omega (arith, length-take-le (k + at) os h) in
    let e : k + at + length part ≡ k + (at + length part) = omega arith in
    drop-append-le k (take (k + at) os) (part ++ drop (k + at + length part) os) l ∙ ap (λ xs. xs ++ (part ++ drop (k + at + length part) os)) (drop-take k at os)
    ∙ ap (λ ys. take at (drop k os) ++ (part ++ ys)) (ap (λ m. drop m os) e ∙ sym (drop-drop (at + length part) k os))

pub drop_past : (at : ℕ) (part os : List ℕ) → at + length part ≤ length os → drop (at + length part) (overwritten at part os) ≡ drop (at + length part) os
drop_past at part os h =
    let rest : List ℕ = drop (at + length part) os in
    let n : length (take at os ++ part) ≡ at + length part = length-append (take at os) part ∙ omega (arith, length-take-le at os (omega arith)) in
    ap (drop (at + length part)) (sym (append_assoc (take at os) part rest)) ∙ drop_at (take at os ++ part) rest (at + length part) n

pub length_over : (at : ℕ) (part os : List ℕ) → at + length part ≤ length os → length (overwritten at part os) ≡ length os
length_over at part os h = grind (arith, common_steps)

-- A frame's entry behind n others.
entries_put : (n : ℕ) (os f : List ℕ) → in_size 16 f ≡ true → 17 * n + 17 ≤ length os → entries_in (n + 1) (overwritten (17 * n) (entry_of f) os) ≡ entries_in n os ++ (entry_of f ∷ [])
entries_put zero os f sized room = ap (λ e. e ∷ []) (take_at (entry_of f) (drop (17 * 0 + length (entry_of f)) os) 17 (length_entry f sized))
entries_put (suc n) os f sized room =
    let e : suc n + 1 ≡ suc (n + 1) = omega arith in
    let k : 17 * suc n ≡ 17 + 17 * n = omega arith in
    let fits : 17 + 17 * n ≤ length os = omega arith in
    ap (λ m. entries_in m (overwritten (17 * suc n) (entry_of f) os)) e ∙ ap (λ at. entries_in (suc (n + 1)) (overwritten at (entry_of f) os)) k
    ∙ ap (λ x. x ∷ entries_in (n + 1) (drop 17 (overwritten (17 + 17 * n) (entry_of f) os))) (take_front 17 (17 * n) (entry_of f) os fits)
    ∙ ap (λ ys. take 17 os ∷ entries_in (n + 1) ys) (drop_front 17 (17 * n) (entry_of f) os fits)
    ∙ ap (λ es. take 17 os ∷ es) (entries_put n (drop 17 os) f sized (omega (arith, length-drop 17 os)))

module _ (n : ℕ) (os f : List ℕ) (sized : in_size 16 f ≡ true) (room : 17 * n + 17 ≤ length os) where
  pub frames_put : frames_in (n + 1) (overwritten (17 * n) (entry_of f) os) ≡ frames_in n os ++ (f ∷ [])
  frames_put = ap (map frame_in) (entries_put n os f sized room) ∙ map_push frame_in (entries_in n os) (entry_of f) ∙ ap (λ g. frames_in n os ++ (g ∷ [])) (frame_entry f)

  pub right_put : AllEntries (entries_in n os) → AllEntries (entries_in (n + 1) (overwritten (17 * n) (entry_of f) os))
  right_put h = rw (entries_put n os f sized room, and_push (list_all is_entry) is_entry refl (λ _ _. refl) (entries_in n os) (entry_of f), h) (entry_right f sized)

  pub length_put : length (overwritten (17 * n) (entry_of f) os) ≡ length os
  length_put = let e = length_entry f sized in length_over (17 * n) (entry_of f) os (omega arith)

-- The octets of log l, with the trailer behind its last entry.
module _ (l : OpenLog) (new : List ℕ) (long : 8 ≤ length (open_octets l)) (stored : new ≡ overwritten (17 * l.count) (trailer_of l.count) (open_octets l)) where
  pub written : take (17 * l.count + 8) new ≡ log_of (open_frames l)
  written =
      let front : List ℕ = take (17 * l.count) (open_octets l) in
      let tail : List ℕ = trailer_of l.count in
      let rest : List ℕ = drop (17 * l.count + 8) (open_octets l) in
      let size : length (front ++ tail) ≡ 17 * l.count + 8 = length-append front tail ∙ omega (arith, length-take-le (17 * l.count) (open_octets l) (omega (arith, l.fits))) in
      ap (take (17 * l.count + 8)) (stored ∙ sym (append_assoc front tail rest))
      ∙ take_at (front ++ tail) rest (17 * l.count + 8) size
      ∙ ap (λ x. x ++ tail) (sym (joined_entries l.count (open_octets l) l.right))
      ∙ ap (λ k. flat_map entry_of (open_frames l) ++ trailer_of k) (sym (length_frames l.count (open_octets l)))

  pub closed : new ≡ closing (length (open_frames l)) (open_octets l)
  closed = let n = length_frames l.count (open_octets l) in let t = le-leb 8 (length (open_octets l)) long in rw (n, t) stored

-- What a put rests on, and what closing does.
pub ruleset puts = (open_count, frames_put, right_put, length_put)

pub ruleset closes = (open_count, open_sized, written, closed, frames_log, reads_back)
