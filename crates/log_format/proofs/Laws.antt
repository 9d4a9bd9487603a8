-- Trailers, and the two laws of a log.
use Rattle.std.proofs.Common.{◌≡◌, ℕ, ◌+◌, ◌-◌, ◌*◌, ◌/◌, ◌<◌, ◌≤◌, true, List, [], ◌∷◌, ◌++◌, map, length, get_or, take, drop, Ok, sym, refl, ap, ◌∙◌, subst, append_assoc, arith, length-append, length-drop}
use Rattle.std.specs.List.{flat_map}
use Rattle.std.proofs.lemmas.Slice.Eq.{bytes_eq-Decides}
use Rattle.std.proofs.lemmas.Grind.{common_steps}
use Rattle.std.proofs.lemmas.List.{drop_at, drop-drop, get_or-drop, take-append-drop}
use Rattle.std.proofs.lemmas.Bool.{and_parts, le-leb}
use Rattle.std.proofs.lemmas.Bool.Decides.{nat_tests}
use Rattle.log_format.specs.Format.{entry_of, log_of, mark, trailer_of, two_octets}
use Rattle.log_format.specs.Reading.{count_in, distance_in, entries_in, frame_in, frames_in, frames_of_log, frames_up_to, is_trailer, read_entries, read_log}
use Rattle.log_format.proofs.Entries.{AllEntries, AllFrames, entries_joined, entries_right, frames_entries, frames_right, joined_entries, length_frames, length_joined, wrong_none}

-- The log of frames: how long it is, and that these are its frames.
pub length_log : (fs : List (List ℕ)) → AllFrames fs → length (log_of fs) ≡ 17 * length fs + 8
length_log fs h = length-append (flat_map entry_of fs) (trailer_of (length fs)) ∙ omega (arith, length_joined fs h)

pub frames_read : (fs : List (List ℕ)) → AllFrames fs → frames_in (length fs) (log_of fs) ≡ fs
frames_read fs h = ap (map frame_in) (entries_joined fs (trailer_of (length fs)) h) ∙ frames_entries fs

pub frames_log : (fs : List (List ℕ)) → AllFrames fs → frames_of_log (log_of fs) ≡ fs
frames_log fs h =
    let n : length (log_of fs) / 17 ≡ length fs = omega (arith, length_log fs h) in
    let all = subst AllEntries (sym (entries_joined fs (trailer_of (length fs)) h)) (entries_right fs h) in
    ap (λ k. frames_up_to k (log_of fs)) n ∙ frames_right (length fs) (log_of fs) all ∙ frames_read fs h

-- The trailer that is written is one.
pub trailer_right : (n before : ℕ) → n ≤ 3840 → 17 * n ≤ before → is_trailer (trailer_of n) before ≡ true
trailer_right n before few fits =
    let c : count_in (trailer_of n) ≡ n = omega arith in
    let d : distance_in (trailer_of n) ≡ 17 * n = omega arith in
    grind (arith, nat_tests)

-- A file that is long enough and has a trailer is read as its entries are.
pub read_steps : (file : List ℕ) (t n start : ℕ) (trailer : List ℕ) → 8 ≤ length file → length file - 8 ≡ t → drop t file ≡ trailer → is_trailer trailer t ≡ true
    → count_in trailer ≡ n → t - distance_in trailer ≡ start → read_log file ≡ read_entries n start file
read_steps file t n start trailer long e d good c s =
    let l = le-leb 8 (length file) long in
    rw (l, e, d, good, c, s)

-- What is written for frames is read as these frames, whatever stands in front.
pub reads_back : (front : List ℕ) (fs : List (List ℕ)) → AllFrames fs → length fs ≤ 3840 → read_log (front ++ log_of fs) ≡ Ok fs
reads_back front fs sized few =
    let n = length fs in
    let t = length front + 17 * n in
    let file = front ++ log_of fs in
    let size : length file ≡ t + 8 = length-append front (log_of fs) ∙ omega (arith, length_log fs sized) in
    let before : length (front ++ flat_map entry_of fs) ≡ t = length-append front (flat_map entry_of fs) ∙ omega (arith, length_joined fs sized) in
    let cut : drop t file ≡ trailer_of n = ap (drop t) (sym (append_assoc front (flat_map entry_of fs) (trailer_of n))) ∙ drop_at (front ++ flat_map entry_of fs) (trailer_of n) t before in
    let here : drop (length front) file ≡ log_of fs = drop_at front (log_of fs) (length front) refl in
    let c : count_in (trailer_of n) ≡ n = omega arith in
    let all : AllEntries (entries_in n (log_of fs)) = subst AllEntries (sym (entries_joined fs (trailer_of n) sized)) (entries_right fs sized) in
    let right = wrong_none (entries_in n (log_of fs)) (length front) all in
    read_steps file t n (length front) (trailer_of n) (omega arith) (omega arith) cut (trailer_right n t few (omega arith)) c (omega arith)
    ∙ rw (here, right) (ap Ok (frames_read fs sized))

-- A trailer is the one that is written for its count.
list_of_four : (xs : List ℕ) → length xs ≡ 4 → xs ≡ get_or xs 0 0 ∷ (get_or xs 1 0 ∷ (get_or xs 2 0 ∷ (get_or xs 3 0 ∷ [])))
list_of_four xs h = grind (arith, common_steps)

two_is : (a b n : ℕ) → b < 256 → 256 * a + b ≡ n → a ∷ (b ∷ []) ≡ two_octets n
two_is a b n h e = grind (arith)

pub trailer_is : (xs : List ℕ) (before : ℕ) → length xs ≡ 8 → ((i : ℕ) → get_or xs i 0 < 256) → is_trailer xs before ≡ true → xs ≡ trailer_of (count_in xs)
trailer_is xs before size small h =
    let p = and_parts _ _ h in
    let m : take 4 xs ≡ mark = (bytes_eq-Decides (take 4 xs) mark).0 p.0 in
    let d : distance_in xs ≡ 17 * count_in xs = grind (arith, nat_tests) in
    let l : length (drop 4 xs) ≡ 4 = length-drop 4 xs ∙ omega arith in
    let count = two_is (get_or xs 4 0) (get_or xs 5 0) (count_in xs) (small 5) refl in
    let distance = two_is (get_or xs 6 0) (get_or xs 7 0) (17 * count_in xs) (small 7) d in
    let tail : drop 4 xs ≡ two_octets (count_in xs) ++ two_octets (17 * count_in xs) =
    list_of_four (drop 4 xs) l ∙ simp get_or-drop (ap (λ p. p ++ (get_or xs 6 0 ∷ (get_or xs 7 0 ∷ []))) count ∙ ap (λ q. two_octets (count_in xs) ++ q) distance) in
    sym (take-append-drop 4 xs) ∙ rw (m, tail)

-- What is read as a log is what is written for its frames.
pub written_again : (file : List ℕ) (t n start : ℕ) → ((i : ℕ) → get_or file i 0 < 256) → length file ≡ t + 8 → is_trailer (drop t file) t ≡ true → n ≡ count_in (drop t file) → start + 17 * n ≡ t
    → AllEntries (entries_in n (drop start file)) → drop start file ≡ log_of (frames_in n (drop start file))
written_again file t n start small long good count fits right =
    let size : length (drop t file) ≡ 8 = length-drop t file ∙ omega arith in
    let bytes : (i : ℕ) → get_or (drop t file) i 0 < 256 = λ i. rw get_or-drop (small (t + i)) in
    let last = trailer_is (drop t file) t size bytes good in
    let many = length_frames n (drop start file) in
    let end : drop (17 * n) (drop start file) ≡ trailer_of (length (frames_in n (drop start file))) =
    drop-drop (17 * n) start file ∙ ap (λ k. drop k file) fits ∙ last ∙ ap trailer_of (sym count ∙ sym many) in
    sym (take-append-drop (17 * n) (drop start file)) ∙ rw (← joined_entries n (drop start file) right, end)
