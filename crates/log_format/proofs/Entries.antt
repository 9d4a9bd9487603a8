-- Entries: what is written is read, and what is read was written so.
use Rattle.std.proofs.Common.{◌≡◌, ℕ, zero, suc, ◌+◌, ◌*◌, true, not, List, [], ◌∷◌, ◌++◌, map, length, take, drop, replicate, None, sym, refl, ap, ◌∙◌, append_assoc, arith, take-add}
use Rattle.std.specs.List.{flat_map, list_all, position}
use Rattle.std.specs.Option.{option_map}
use Rattle.std.proofs.lemmas.Grind.{common_steps}
use Rattle.std.proofs.lemmas.List.{drop_at, length-map, take-append-drop, take_at}
use Rattle.std.proofs.lemmas.Bool.{and_parts}
use Rattle.std.proofs.lemmas.Bool.Decides.{nat_tests}
use Rattle.vocabulary.specs.Octets.{in_size}
use Rattle.log_format.specs.Format.{entry_of}
use Rattle.log_format.specs.Reading.{blank, entries_in, frame_in, frames_in, frames_up_to, is_entry, wrong_from}

-- Fill.
blank_fill : (n : ℕ) → blank (replicate n 0) ≡ true
blank_fill zero = refl
blank_fill (suc n) = blank_fill n

fill_blank : (xs : List ℕ) → blank xs ≡ true → xs ≡ replicate (length xs) 0
fill_blank [] h = refl
fill_blank (x ∷ xs) h = grind (arith, nat_tests, fill_blank xs)

-- What is written for a frame is an entry, and the frame is in it.
pub length_entry : (f : List ℕ) → in_size 16 f ≡ true → length (entry_of f) ≡ 17
length_entry f h = grind (arith, nat_tests, common_steps)

pub entry_right : (f : List ℕ) → in_size 16 f ≡ true → is_entry (entry_of f) ≡ true
entry_right f h = grind (arith, nat_tests, common_steps, blank_fill)

pub frame_entry : (f : List ℕ) → frame_in (entry_of f) ≡ f
frame_entry f = take_at f _ (length f) refl

-- What is an entry is the entry of the frame in it, and that is a frame.
pub frame_sized : (e : List ℕ) → is_entry e ≡ true → in_size 16 (frame_in e) ≡ true
frame_sized e h = grind (arith, nat_tests, common_steps)

pub entry_is : (e : List ℕ) → is_entry e ≡ true → e ≡ entry_of (frame_in e)
entry_is [] h = grind (arith, nat_tests)
entry_is (x ∷ xs) h = grind (arith, nat_tests, common_steps, fill_blank (drop x xs), take-append-drop x xs)

-- These are all entries, and these all frames.
abbrev pub AllEntries : List (List ℕ) → Type 0
AllEntries es = list_all is_entry es ≡ true

abbrev pub AllFrames : List (List ℕ) → Type 0
AllFrames fs = list_all (in_size 16) fs ≡ true

pub wrong_none : (es : List (List ℕ)) (p : ℕ) → AllEntries es → wrong_from es p ≡ None
wrong_none [] p h = refl
wrong_none (e ∷ es) p h = grind (arith, wrong_none es (p + 17))

pub all_right : (es : List (List ℕ)) (p : ℕ) → wrong_from es p ≡ None → AllEntries es
all_right [] p h = refl
all_right (e ∷ es) p h = grind (arith, all_right es (p + 17))

-- The first wrong entry, by its place.
pub wrong_at : (es : List (List ℕ)) (p : ℕ) → wrong_from es p ≡ option_map (λ i. p + 17 * i) (position (λ e. not (is_entry e)) es)
wrong_at [] p = refl
wrong_at (e ∷ es) p = grind (arith, nat_tests, wrong_at es (p + 17))

pub frames_sized : (es : List (List ℕ)) → AllEntries es → AllFrames (map frame_in es)
frames_sized [] h = refl
frames_sized (e ∷ es) h = grind (arith, frame_sized e, frames_sized es)

pub entries_right : (fs : List (List ℕ)) → AllFrames fs → AllEntries (map entry_of fs)
entries_right [] h = refl
entries_right (f ∷ fs) h = grind (arith, entry_right f, entries_right fs)

pub frames_entries : (fs : List (List ℕ)) → map frame_in (map entry_of fs) ≡ fs
frames_entries [] = refl
frames_entries (f ∷ fs) = rw (frame_entry f, frames_entries fs)

-- Entries that lie one behind the other.
pub length_entries : (n : ℕ) (os : List ℕ) → length (entries_in n os) ≡ n
length_entries zero os = refl
length_entries (suc n) os = ap suc (length_entries n (drop 17 os))

pub length_frames : (n : ℕ) (os : List ℕ) → length (frames_in n os) ≡ n
length_frames n os = length-map (entries_in n os) frame_in ∙ length_entries n os

-- Where no entry is wrong, all are read.
pub frames_right : (n : ℕ) (os : List ℕ) → AllEntries (entries_in n os) → frames_up_to n os ≡ frames_in n os
frames_right zero os h = refl
frames_right (suc n) os h = grind (arith, frames_right n (drop 17 os))

-- Entries that are written one behind the other are read so.
pub entries_joined : (fs : List (List ℕ)) (ys : List ℕ) → AllFrames fs → entries_in (length fs) (flat_map entry_of fs ++ ys) ≡ map entry_of fs
entries_joined [] ys h = refl
entries_joined (f ∷ fs) ys h =
    let p = and_parts (in_size 16 f) _ h in
    let n = length_entry f p.0 in
    let rest : List ℕ = flat_map entry_of fs ++ ys in
    ap (entries_in (length (f ∷ fs))) (append_assoc (entry_of f) (flat_map entry_of fs) ys)
    ∙ ap (λ e. e ∷ entries_in (length fs) (drop 17 (entry_of f ++ rest))) (take_at (entry_of f) rest 17 n)
    ∙ ap (λ os. entry_of f ∷ entries_in (length fs) os) (drop_at (entry_of f) rest 17 n)
    ∙ ap (λ es. entry_of f ∷ es) (entries_joined fs ys p.1)

pub length_joined : (fs : List (List ℕ)) → AllFrames fs → length (flat_map entry_of fs) ≡ 17 * length fs
length_joined [] h = refl
length_joined (f ∷ fs) h = grind (arith, common_steps, length_entry f, length_joined fs)

-- Entries are all of the octets that they are read from.
pub joined_entries : (n : ℕ) (os : List ℕ) → AllEntries (entries_in n os) → flat_map entry_of (frames_in n os) ≡ take (17 * n) os
joined_entries zero os h = refl
joined_entries (suc n) os h =
    let p = and_parts (is_entry (take 17 os)) _ h in
    let f : 17 + 17 * n ≡ 17 * suc n = omega arith in
    ap (λ e. e ++ flat_map entry_of (frames_in n (drop 17 os))) (sym (entry_is (take 17 os) p.0))
    ∙ ap (λ ys. take 17 os ++ ys) (joined_entries n (drop 17 os) p.1)
    ∙ sym (take-add 17 (17 * n) os) ∙ ap (λ k. take k os) f
