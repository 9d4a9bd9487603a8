-- The open order that is counted along is the order that was taken and that nothing closed since.
use Rattle.std.proofs.Common.{◌≡◌, ℕ, ◌+◌, false, cond, ◌&&◌, ◌⊎◌, ◌↔◌, List, [], ◌∷◌, ◌++◌, Some, None, Option, sym, refl, ap, ◌∙◌, inl, inr, arith}
use Rattle.vocabulary.specs.declared.order.Order.{Order}
use Rattle.steps.specs.Rows.{is_conditional}
use Rattle.laws.specs.Events.{Event, Happening, just, took, noticed, ticked}
use Rattle.laws.specs.OpenOrders.{Open, next, open_from, open_order, closes, NoneCloses, some_notice, since_notice, ticks_in, Waits}
use Rattle.laws.proofs.Lists.{open_append}

abbrev open' : Order → ℕ → Open
open' o k = record { order = o; ticks = k }

abbrev step : Happening → Order → ℕ → ℕ
step noticed o k = cond (is_conditional o) 0 k
step ticked o k = k + 1
step w o k = k

abbrev steps : Order → ℕ → List Event → ℕ
steps o k [] = k
steps o k (e ∷ es) = steps o (step e.what o k) es

all : (o : Order) (k : ℕ) (es : List Event) → NoneCloses o es → open_from (Some (open' o k)) es ≡ Some (open' o (steps o k es))
all o k [] h = refl
all o k (e ∷ es) h = let ih = all o (step e.what o k) es h.1 in grind arith

quiet_since : (es : List Event) → some_notice es ≡ false → since_notice es ≡ es
quiet_since [] h = refl
quiet_since (e ∷ es) h = grind arith

-- the ticks that count, and those before if no notice has come for a conditional order
counting : (o : Order) (k : ℕ) (es : List Event) → steps o k es ≡ cond (is_conditional o && some_notice es) 0 k + ticks_in (cond (is_conditional o) (since_notice es) es)
counting o k [] = grind arith
counting o k (e ∷ es) = let ih = counting o (step e.what o k) es in let q = quiet_since es in grind arith

-- where an open order comes from
abbrev order_of : Option Open → Option Order
order_of None = None
order_of (Some w) = Some w.order

origin : (s : Option Open) (e : Event) (o : Order) → order_of (next s e) ≡ Some o → (e ≡ just (took o)) ⊎ ((order_of s ≡ Some o) × (closes o e ≡ false))
origin s e o h = grind arith

abbrev Begun : Option Open → List Event → Order → Type 0
Begun s es o = ((order_of s ≡ Some o) × NoneCloses o es) ⊎ ((past : List Event) × (since : List Event) × (es ≡ past ++ (just (took o) ∷ since)) × NoneCloses o since)

begun : (s : Option Open) (es : List Event) (o : Order) → order_of (open_from s es) ≡ Some o → Begun s es o
begun s [] o h = inl (h, tt)
begun s (e ∷ es) o h = at (begun (next s e) es o h)
  where
    from : NoneCloses o es → (e ≡ just (took o)) ⊎ ((order_of s ≡ Some o) × (closes o e ≡ false)) → Begun s (e ∷ es) o
    from n (inl q) = inr ([], es, ap (λ x. x ∷ es) q, n)
    from n (inr q) = inl (q.0, (q.1, n))

    at : Begun (next s e) es o → Begun s (e ∷ es) o
    at (inl t) = from t.1 (origin s e o t.0)
    at (inr t) = inr (e ∷ t.0, t.1, ap (λ x. e ∷ x) t.2, t.3)

resumed : (past since : List Event) (o : Order) → NoneCloses o since → open_order (past ++ (just (took o) ∷ since)) ≡ Some (open' o (ticks_in (cond (is_conditional o) (since_notice since) since)))
resumed past since o h = open_append None past (just (took o) ∷ since) ∙ all o 0 since h ∙ ap (λ k. Some (open' o k)) (let c = counting o 0 since in grind arith)

waits_of : (es : List Event) (w : Open) → open_order es ≡ Some w → Begun None es w.order → Waits w es
waits_of es w e (inl t) = grind arith
waits_of es w e (inr t) =
    let r = resumed t.0 t.1 w.order t.3 in
    let q = ap open_order t.2 in
    record { past = t.0; since = t.1; taken = t.2; unclosed = t.3; ticked = grind arith }

pub waits : (es : List Event) (w : Open) → open_order es ≡ Some w ↔ Waits w es
waits es w = (
  (λ e. waits_of es w e (begun None es w.order (ap order_of e))),
  (λ h. ap open_order h.taken ∙ resumed h.past h.since w.order h.unclosed ∙ ap (λ k. Some (open' w.order k)) (sym h.ticked)),
)
