-- A file with a trailer in its last 8 octets.
use Rattle.std.proofs.Common.{◌≡◌, ℕ, ◌+◌, ◌-◌, ◌*◌, ◌/◌, ◌<◌, ◌≤◌, true, cond, not, List, ◌++◌, length, get_or, take, drop, Some, None, Ok, Err, Option, sym, ap, ◌∙◌, subst, arith, length-drop}
use Rattle.std.specs.List.{position}
use Rattle.std.specs.Option.{option_map}
use Rattle.std.proofs.lemmas.List.{take-append-drop}
use Rattle.std.proofs.lemmas.Bool.Decides.{nat_tests}
use Rattle.log_format.specs.Format.{log_of}
use Rattle.log_format.specs.Reading.{count_in, distance_in, entries_in, frames_in, frames_of_log, is_entry, is_trailer, no_log, or_wrong, read_log, wrong_from}
use Rattle.log_format.proofs.Entries.{AllEntries, AllFrames, all_right, frames_sized, length_frames, wrong_at}
use Rattle.log_format.proofs.Laws.{frames_log, reads_back, read_steps, written_again}

-- The place of the first that is no entry.
abbrev pub first_wrong : List (List ℕ) → Option ℕ
first_wrong = position (λ e. not (is_entry e))

-- The trailer starts at t and counts n entries.
module _ (file trailer : List ℕ) (t n : ℕ) (size : t + 8 ≡ length file) (cut : trailer ≡ drop (length file - 8) file) (counted : Some n ≡ cond (is_trailer trailer t) (Some (count_in trailer)) None) where
  here : trailer ≡ drop t file
  here = let e : length file - 8 ≡ t = omega arith in cut ∙ ap (λ k. drop k file) e

  good : is_trailer trailer t ≡ true
  good = grind arith

  count_is : n ≡ count_in trailer
  count_is = grind arith

  far : distance_in trailer ≡ 17 * n
  far = let g = good in let c = count_is in grind (arith, nat_tests)

  fits : 17 * n ≤ t
  fits = let g = good in let c = count_is in grind (arith, nat_tests)

  few : n ≤ 3840
  few = let g = good in let c = count_is in grind (arith, nat_tests)

  -- The log is what stands from the first entry on, and r is the place of the first wrong entry in it.
  module _ (log : List ℕ) (from : log ≡ drop (t - 17 * n) file) (r : Option ℕ) (first : r ≡ first_wrong (entries_in (length log / 17) log)) where
    wrong : wrong_from (entries_in n log) (t - 17 * n) ≡ option_map (λ i. t - 17 * n + 17 * i) r
    wrong =
        let e : length log / 17 ≡ n = omega (arith, ap length from, length-drop (t - 17 * n) file, fits) in
        wrong_at (entries_in n log) (t - 17 * n) ∙ ap (option_map (λ i. t - 17 * n + 17 * i)) (sym (first ∙ ap (λ k. first_wrong (entries_in k log)) e))

    pub wrong_entry : (i : ℕ) → r ≡ Some i → Err (no_log (t - 17 * n + 17 * i)) ≡ read_log file
    wrong_entry i h =
        sym (read_steps file t n (t - 17 * n) trailer (omega arith) (omega arith) (sym here) good (sym count_is) (omega (arith, far))
        ∙ ap (λ os. or_wrong (frames_in n os) (wrong_from (entries_in n os) (t - 17 * n))) (sym from)
        ∙ ap (or_wrong (frames_in n log)) (wrong ∙ ap (option_map (λ i. t - 17 * n + 17 * i)) h))

    module _ (right : r ≡ None) (small : (i : ℕ) → get_or file i 0 < 256) where
      all : AllEntries (entries_in n log)
      all = all_right (entries_in n log) (t - 17 * n) (wrong ∙ ap (option_map (λ i. t - 17 * n + 17 * i)) right)

      sized : AllFrames (frames_in n log)
      sized = frames_sized (entries_in n log) all

      whole : take (t - 17 * n) file ++ log ≡ file
      whole = ap (λ x. take (t - 17 * n) file ++ x) from ∙ take-append-drop (t - 17 * n) file

      written : log ≡ log_of (frames_in n log)
      written =
          from ∙ written_again file t n (t - 17 * n) small (omega arith) (ap (λ x. is_trailer x t) (sym here) ∙ good) (count_is ∙ ap count_in here) (omega (arith, fits)) (subst (λ os. AllEntries (entries_in n os)) from all)
          ∙ ap (λ os. log_of (frames_in n os)) (sym from)

      frames : frames_of_log log ≡ frames_in n log
      frames = ap frames_of_log written ∙ frames_log (frames_in n log) sized

      pub same : log ≡ log_of (frames_of_log log)
      same = written ∙ ap log_of (sym frames)

      pub granted : Ok (frames_of_log log) ≡ read_log file
      granted =
          let back = reads_back (take (t - 17 * n) file) (frames_in n log) sized (omega (arith, length_frames n log, few)) in
          ap Ok frames ∙ sym back ∙ ap read_log (ap (λ x. take (t - 17 * n) file ++ x) (sym written) ∙ whole)

      pub at_end : take (length file - length log) file ++ log ≡ file
      at_end =
          let k : length file - length log ≡ t - 17 * n = omega (arith, ap length from, length-drop (t - 17 * n) file, fits) in
          ap (λ m. take m file ++ log) k ∙ whole
