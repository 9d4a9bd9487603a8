-- One frame more that is put, and the log that comes of all.
use Rattle.std.proofs.Common.{◌≡◌, ℕ, zero, suc, ◌+◌, ◌*◌, ◌<◌, ◌≤◌, true, List, [], ◌∷◌, ◌++◌, length, take, drop, Ok, Err, sym, refl, ap, ◌∙◌, append_assoc, arith}
use Rattle.std.specs.List.{flat_map}
use Rattle.std.proofs.lemmas.List.{drop-drop, length_push}
use Rattle.std.proofs.lemmas.Bool.{le-leb}
use Rattle.std.proofs.lemmas.Bool.Decides.{nat_tests}
use Rattle.vocabulary.specs.Octets.{in_size}
use Rattle.carrier.specs.Frames.{full_fault}
use Rattle.log_format.specs.Closed.{closed_frames, closed_octets}
use Rattle.log_format.specs.declared.closed.ClosedLog.{ClosedLog}
use Rattle.log_format.specs.Format.{entry_of, log_of, trailer_of}
use Rattle.log_format.specs.Reading.{frames_up_to, read_log}
use Rattle.log_format.proofs.Entries.{AllFrames, frame_sized, joined_entries, length_entry, length_frames}
use Rattle.log_format.proofs.Laws.{length_log}
use Rattle.log_writing.specs.Overwriting.{overwritten}
use Rattle.log_writing.specs.Writing.{closing, open_frames, open_octets}
use Rattle.log_writing.specs.declared.open.OpenLog.{OpenLog}
use Rattle.log_writing.proofs.Puts.{drop_past, frame_size_lem, open_count, length_over}
use Rattle.log_rewriting.specs.Rewriting.{into_octets}

-- The frames that are read of any entries are frames, and a log that reads has at most 3840.
pub up_sized : (n : ℕ) (os : List ℕ) → AllFrames (frames_up_to n os)
up_sized zero os = refl
up_sized (suc n) os = grind (arith, frame_sized (take 17 os), up_sized n (drop 17 os))

pub read_few : (file : List ℕ) (fs : List (List ℕ)) → Ok fs ≡ read_log file → length fs ≤ 3840
read_few file fs h = grind (arith, nat_tests, length_frames)

-- What stands behind a frame's entry that is put.
pub behind_put : (fs : List (List ℕ)) (xs os ys : List ℕ) → in_size 16 xs ≡ true → 17 * length fs + 17 ≤ length ys → drop (17 * length fs) ys ≡ drop (17 * length fs) os
    → drop (17 * length (fs ++ (xs ∷ []))) (overwritten (17 * length fs) (entry_of xs) ys) ≡ drop (17 * length (fs ++ (xs ∷ []))) os
behind_put fs xs os ys sized room h =
    let n = length fs in
    let e = length_entry xs sized in
    let more : 17 * length (fs ++ (xs ∷ [])) ≡ 17 * n + length (entry_of xs) = ap (λ k. 17 * k) (length_push fs xs) ∙ omega arith in
    let rest : drop (17 * n + length (entry_of xs)) ys ≡ drop (17 * n + length (entry_of xs)) os = sym (drop-drop (length (entry_of xs)) (17 * n) ys) ∙ ap (drop (length (entry_of xs))) h ∙ drop-drop (length (entry_of xs)) (17 * n) os in
    rw more (drop_past (17 * n) (entry_of xs) ys (omega arith) ∙ rest)

pub size_put : (n : ℕ) (xs ys : List ℕ) → in_size 16 xs ≡ true → n + 17 ≤ length ys → length (overwritten n (entry_of xs) ys) ≡ length ys
size_put n xs ys sized room = let e = length_entry xs sized in length_over n (entry_of xs) ys (omega arith)

pub ruleset putting = (open_count, frame_size_lem, behind_put, size_put)

-- A log that was read: how long it is, and where it has no room.
pub read_size : (log : ClosedLog) → closed_octets log ≡ log_of (closed_frames log) → length (closed_octets log) ≡ 17 * length (closed_frames log) + 8
read_size log h = ap length h ∙ length_log (closed_frames log) (up_sized log.count (closed_octets log))

pub no_room : (octets : ℕ) (log : ClosedLog) → closed_octets log ≡ log_of (closed_frames log) → octets < length (closed_octets log) → into_octets octets (Ok (closed_frames log)) ≡ Err full_fault
no_room octets log h l =
    let n = read_size log h in
    grind (arith, nat_tests)

-- What closing leaves of octets os: nothing was written behind the frames of log o.
pub closed_behind : (o : OpenLog) (os : List ℕ) → 8 ≤ length (open_octets o) → drop (17 * length (open_frames o)) (open_octets o) ≡ drop (17 * length (open_frames o)) os
    → closing (length (open_frames o)) (open_octets o) ≡ log_of (open_frames o) ++ drop (17 * length (open_frames o) + 8) os
closed_behind o os long behind =
    let n = length (open_frames o) in
    let t = le-leb 8 (length (open_octets o)) long in
    let front : take (17 * n) (open_octets o) ≡ flat_map entry_of (open_frames o) = ap (λ k. take (17 * k) (open_octets o)) (open_count o) ∙ sym (joined_entries o.count (open_octets o) o.right) in
    let rest : drop (17 * n + 8) (open_octets o) ≡ drop (17 * n + 8) os = sym (drop-drop 8 (17 * n) (open_octets o)) ∙ ap (drop 8) behind ∙ drop-drop 8 (17 * n) os in
    rw (t, front, rest) (sym (append_assoc (flat_map entry_of (open_frames o)) (trailer_of n) (drop (17 * n + 8) os)))
