-- The settling, as the list of what each row put.
use Rattle.std.proofs.Common.{◌≡◌, ℕ, zero, suc, ◌+◌, ◌-◌, ◌<◌, ◌≤◌, true, false, cond, eqb, ltb, List, [], ◌∷◌, ◌++◌, length, get_or, take, Option, sym, refl, ap, ◌∙◌, append_assoc, append-nil, arith, length-append, length-take-le}
use Rattle.std.proofs.lemmas.Bool.{cond_both}
use Rattle.std.proofs.lemmas.Bool.Decides.{nat_tests}
use Rattle.std.proofs.lemmas.List.{length_push}
use Rattle.std.proofs.ByRecursion.{All-append}
use Rattle.std.specs.List.{AllByRecursion}
use Rattle.vocabulary.specs.Rules.{among}
use Rattle.vocabulary.specs.Settings.{Agreed}
use Rattle.vocabulary.specs.declared.order.Order.{Order}
use Rattle.wire.specs.Messages.{read_message}
use Rattle.steps.specs.Rows.{fresh_row, is_failure}
use Rattle.steps.specs.Setups.{Setup, number_at}
use Rattle.steps.specs.Views.{view_of}
use Rattle.steps.specs.Puts.{Put, reply, status, failure, ordered, wanted, took_all, takes, takes_all, follows_all, packet_of, frame_of, frames_of}
use Rattle.steps.specs.Puts as puts
use Rattle.steps.specs.Settling.{wanted_at, Settled, ended, settled_row, settle}
use Rattle.steps.specs.declared.row.Row.{Row}
use Rattle.steps.specs.declared.surroundings.Surroundings.{Surroundings}
use Rattle.laws.specs.Events.{Event, orders_for, orders_in, orders_put}
use Rattle.laws.specs.Lawful.{ForUnit}
use Rattle.laws.proofs.Places.{Distinct, among_at}
use Rattle.laws.proofs.Frames.{put_events, read_put, read_orders, read_count}

abbrev pub events_of : List Put → List Event
events_of [] = []
events_of (q ∷ qs) = put_events q ++ events_of qs

abbrev pub took_each : List (List Put) → List Row → List Row
took_each [] rs = rs
took_each (p ∷ ps) [] = []
took_each (p ∷ ps) (r ∷ rs) = took_all p r ∷ took_each ps rs

abbrev pub frames_from : Agreed → Surroundings → ℕ → List (List Put) → List (List ℕ)
frames_from a s k [] = []
frames_from a s k (q ∷ ps) = frames_of a s (number_at a k) q ++ frames_from a s (suc k) ps

abbrev pub takes_each : List (List Put) → ℕ
takes_each [] = 0
takes_each (p ∷ ps) = takes_all p + takes_each ps

abbrev pub follows_each : List (List Put) → List Row → ℕ
follows_each [] rs = 0
follows_each (p ∷ ps) [] = 0
follows_each (p ∷ ps) (r ∷ rs) = follows_all p r + follows_each ps rs

-- a put that its row may make: a Failure order that is due, an order to a unit that has not failed
abbrev pub Fit : Put → Row → Type 0
Fit (reply m) r = Unit {0}
Fit status r = Unit {0}
Fit failure r = r.failure_due ≡ true
Fit (ordered o) r = is_failure r.held ≡ false

abbrev pub Fits : List Put → Row → Type 0
Fits [] r = Unit {0}
Fits (q ∷ qs) r = Fit q r × Fits qs (puts.took q r)

abbrev pub FitEach : List (List Put) → List Row → Type 0
FitEach [] rs = Unit {0}
FitEach (p ∷ ps) [] = Unit {0}
FitEach (p ∷ ps) (r ∷ rs) = Fits p r × FitEach ps rs

-- what a settling is: the puts of each row
pub record Puts (a : Agreed) (s : Surroundings) (k : ℕ) (rest : List Row) (t : Settled) : Type 0 where
  pub ps : List (List Put)
  pub long : length ps ≡ length rest
  pub rows : t.rows ≡ took_each ps rest
  pub added : t.added ≡ frames_from a s k ps
  pub taken : t.taken ≡ takes_each ps
  pub followed : t.followed ≡ follows_each ps rest
  pub fits : FitEach ps rest

puts_cons : (c : Setup) (s : Surroundings) (k j : ℕ) (qs : List Put) (r : Row) (rest : List Row) (t : Settled) → j ≡ k → Fits qs r → Puts c.settings s (suc k) rest t → Puts c.settings s k (r ∷ rest) (settled_row c s j qs r t)
puts_cons c s k j qs r rest t e fit h = record {
  ps = qs ∷ h.ps;
  long = ap suc h.long;
  rows = ap (λ x. took_all qs r ∷ x) h.rows;
  added = ap (λ n. frames_of c.settings s (number_at c.settings n) qs ++ t.added) e ∙ ap (λ x. frames_of c.settings s (number_at c.settings k) qs ++ x) h.added;
  taken = omega (arith, h.taken);
  followed = omega (arith, h.followed);
  fits = (fit, h.fits);
}

pub nothing : (c : Setup) (s : Surroundings) (k : ℕ) (rest : List Row) → Puts c.settings s k rest (ended rest)
nothing c s k [] = grind arith
nothing c s k (r ∷ rest) = puts_cons c s k k [] r rest (ended rest) refl tt (nothing c s (suc k) rest)

fits_take : (n : ℕ) (qs : List Put) (r : Row) → Fits qs r → Fits (take n qs) r
fits_take zero qs r h = tt
fits_take (suc n) [] r h = tt
fits_take (suc n) (q ∷ qs) r h = (h.0, fits_take n qs (puts.took q r) h.1)

wants_fit : (answer : Option Order) (r : Row) → Fits (wanted answer r) r
wants_fit answer r = grind arith

pub settle_puts : (c : Setup) (s : Surroundings) (pre rest : List Row) (free k : ℕ) → k ≡ length pre → Puts c.settings s k rest (settle c s pre rest free)
settle_puts c s pre [] free k e = nothing c s k []
settle_puts c s pre (r ∷ rest) free k e =
    let w = wanted_at c s pre r rest in
    let fit = wants_fit (c.answers (view_of s (number_at c.settings (length pre)) pre r rest)) r in
    let after = pre ++ (took_all w r ∷ []) in
    let left = free - length w in
    let h = settle_puts c s after rest left (suc k) (omega (arith, length_push pre (took_all w r))) in
    cond_both (ltb free (length w)) (settled_row c s (length pre) (take free w) r (ended rest)) (settled_row c s (length pre) w r (settle c s after rest left)) (λ t. Puts c.settings s k (r ∷ rest) t)
    (λ _. puts_cons c s k (length pre) (take free w) r rest (ended rest) (sym e) (fits_take free w r fit) (nothing c s (suc k) rest))
    (λ _. puts_cons c s k (length pre) w r rest (settle c s after rest left) (sym e) fit h)

-- no more frames than places
frames_length : (a : Agreed) (s : Surroundings) (n : ℕ) (qs : List Put) → length (frames_of a s n qs) ≡ length qs
frames_length a s n [] = refl
frames_length a s n (q ∷ qs) = ap suc (frames_length a s n qs)

pub settle_places : (c : Setup) (s : Surroundings) (pre rest : List Row) (free : ℕ) → length (settle c s pre rest free).added ≤ free
settle_places c s pre [] free = omega arith
settle_places c s pre (r ∷ rest) free =
    let w = wanted_at c s pre r rest in
    let n = number_at c.settings (length pre) in
    let after = pre ++ (took_all w r ∷ []) in
    let left = free - length w in
    let t = settle c s after rest left in
    let ih = settle_places c s after rest left in
    cond_both (ltb free (length w)) (settled_row c s (length pre) (take free w) r (ended rest)) (settled_row c s (length pre) w r t) (λ (z : Settled). length z.added ≤ free)
    (λ e. omega (arith, length-append (frames_of c.settings s n (take free w)) [], frames_length c.settings s n (take free w), length-take-le free w (grind arith)))
    (λ e. omega (arith, length-append (frames_of c.settings s n w) t.added, frames_length c.settings s n w, (let le : length w ≤ free = grind arith in le)))

-- by place
pub each_at : (ps : List (List Put)) (rs : List Row) (i : ℕ) → length ps ≡ length rs → get_or (took_each ps rs) i fresh_row ≡ took_all (get_or ps i []) (get_or rs i fresh_row)
each_at [] rs i e = refl
each_at (p ∷ ps) [] i e = grind arith
each_at (p ∷ ps) (r ∷ rs) zero e = refl
each_at (p ∷ ps) (r ∷ rs) (suc i) e = each_at ps rs i (omega arith)

pub each_length : (ps : List (List Put)) (rs : List Row) → length ps ≡ length rs → length (took_each ps rs) ≡ length rs
each_length [] rs e = refl
each_length (p ∷ ps) [] e = refl
each_length (p ∷ ps) (r ∷ rs) e = ap suc (each_length ps rs (omega arith))

pub fit_at : (ps : List (List Put)) (rs : List Row) (i : ℕ) → length ps ≡ length rs → FitEach ps rs → Fits (get_or ps i []) (get_or rs i fresh_row)
fit_at [] rs i e h = tt
fit_at (p ∷ ps) [] i e h = grind arith
fit_at (p ∷ ps) (r ∷ rs) zero e h = h.0
fit_at (p ∷ ps) (r ∷ rs) (suc i) e h = fit_at ps rs i (omega arith) h.1

-- reading them back
reads_append : (trip x : ℕ) (fs gs : List (List ℕ)) → orders_in trip x (fs ++ gs) ≡ orders_in trip x fs ++ orders_in trip x gs
reads_append trip x [] gs = refl
reads_append trip x (f ∷ fs) gs = ap (λ y. orders_for x (read_message trip f) ++ y) (reads_append trip x fs gs) ∙ sym (append_assoc (orders_for x (read_message trip f)) (orders_in trip x fs) (orders_in trip x gs))

pub puts_append : (trip : ℕ) (fs gs : List (List ℕ)) → orders_put trip (fs ++ gs) ≡ orders_put trip fs + orders_put trip gs
puts_append trip [] gs = omega arith
puts_append trip (f ∷ fs) gs = omega (arith, puts_append trip fs gs)

module _ (a : Agreed) (s : Surroundings) where
  read1 : (n x : ℕ) (q : Put) → orders_for x (read_message a.trip (frame_of a.trip n (packet_of a s q))) ≡ cond (eqb n x) (put_events q) []
  read1 n x q = read_orders a.trip n (frame_of a.trip n (packet_of a s q)) (put_events q) (takes q) x (read_put a s n q)

  read_all : (n x : ℕ) (qs : List Put) → orders_in a.trip x (frames_of a s n qs) ≡ cond (eqb n x) (events_of qs) []
  read_all n x [] = grind arith
  read_all n x (q ∷ qs) = let r = read1 n x q in let ih = read_all n x qs in grind arith

  module _ (dist : Distinct a.numbers) where
    others : (i k : ℕ) (qs : List Put) → i < k → k < length a.numbers → orders_in a.trip (number_at a i) (frames_of a s (number_at a k) qs) ≡ []
    others i k qs h n = let d = dist k i n (omega arith) in let r = read_all (number_at a k) (number_at a i) qs in grind (arith, nat_tests)

    behind : (i k : ℕ) (ps : List (List Put)) → i < k → k + length ps ≤ length a.numbers → orders_in a.trip (number_at a i) (frames_from a s k ps) ≡ []
    behind i k [] h n = refl
    behind i k (q ∷ ps) h n =
        let r = reads_append a.trip (number_at a i) (frames_of a s (number_at a k) q) (frames_from a s (suc k) ps) in
        let f = others i k q h (omega arith) in
        let ih = behind i (suc k) ps (omega arith) (omega arith) in grind arith

    pub read_at : (k j i : ℕ) (ps : List (List Put)) → i ≡ k + j → j < length ps → k + length ps ≤ length a.numbers → orders_in a.trip (number_at a i) (frames_from a s k ps) ≡ events_of (get_or ps j [])
    read_at k j i [] e h n = refl
    read_at k zero i (q ∷ ps) e h n =
        let r = reads_append a.trip (number_at a i) (frames_of a s (number_at a k) q) (frames_from a s (suc k) ps) in
        let f = read_all (number_at a k) (number_at a i) q in
        let b = behind i (suc k) ps (omega arith) (omega arith) in grind (arith, nat_tests, append-nil {A = Event})
    read_at k (suc j) i (q ∷ ps) e h n =
        let r = reads_append a.trip (number_at a i) (frames_of a s (number_at a k) q) (frames_from a s (suc k) ps) in
        let d = dist k i (omega arith) (omega arith) in
        let f = read_all (number_at a k) (number_at a i) q in
        let ih = read_at (suc k) j i ps (omega arith) (omega arith) (omega arith) in grind (arith, nat_tests)

  frames_put : (n : ℕ) (qs : List Put) → orders_put a.trip (frames_of a s n qs) ≡ takes_all qs
  frames_put n [] = refl
  frames_put n (q ∷ qs) = omega (arith, read_count a.trip n (frame_of a.trip n (packet_of a s q)) (put_events q) (takes q) (read_put a s n q), frames_put n qs)

  pub put_each : (k : ℕ) (ps : List (List Put)) → orders_put a.trip (frames_from a s k ps) ≡ takes_each ps
  put_each k [] = refl
  put_each k (q ∷ ps) = puts_append a.trip (frames_of a s (number_at a k) q) (frames_from a s (suc k) ps) ∙ omega (arith, frames_put (number_at a k) q, put_each (suc k) ps)

  -- each is for a unit of the settings
  for_unit : (n : ℕ) (qs : List Put) → among n a.numbers ≡ true → AllByRecursion (ForUnit a) (frames_of a s n qs)
  for_unit n [] h = tt
  for_unit n (q ∷ qs) h = let r = read_put a s n q in ((record { sender = n; packets = r.packet ∷ [] }, r.reads, h), for_unit n qs h)

  pub for_units_lem : (k : ℕ) (ps : List (List Put)) → k + length ps ≤ length a.numbers → AllByRecursion (ForUnit a) (frames_from a s k ps)
  for_units_lem k [] h = tt
  for_units_lem k (q ∷ ps) h = All-append (ForUnit a) (frames_of a s (number_at a k) q) (frames_from a s (suc k) ps) (for_unit (number_at a k) q (among_at a.numbers k (omega arith))) (for_units_lem (suc k) ps (omega arith))
