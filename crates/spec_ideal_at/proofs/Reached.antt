-- The proofs of specs/Reached.
use Prim.Native.Nat.{ℕ, zero, suc, ◌+◌, ◌*◌, ◌-◌, ◌/◌, ◌≤◌, ◌<◌}
use native.Mathlib.Omega.{arith}
use Rattle.std.specs.Prelude.{◌≡◌, Bool}
use Rattle.std.proofs.Math.Path.{refl, sym, ap, ap₂, subst}
use Rattle.std.proofs.Common.{◌∙◌, ⊎_elim}
use Rattle.std.proofs.Math.Bool.{true, false}
use mathlib.Core.List.{List}
use Rattle.std.proofs.Math.Dec.{leb, eqb}
use Rattle.std.proofs.Math.IntN.{nat_abs}
use Rattle.std.proofs.Math.ListN.{length}
use borrow.Author.Tests.{leb-true, leb-false, eqb-true, eqb-false}
use Rattle.math_ring.specs.Order.{le_or_lt}
use Rattle.math_giants.proofs.Below.{halves}
use Rattle.spec_arithmetic.specs.Polynomials.{size, deg}
use Rattle.spec_definitions.specs.Ticket.{Ticket, genus}
use Rattle.spec_definitions.specs.Walk.{Ideal, next, steps}
use Rattle.spec_definitions.specs.Answers.{ops_of, root_of}
use Rattle.spec_definitions.specs.Listing.{ideal_of, entry_of}
use Rattle.spec_laws.specs.Admitted.{Admitted}
use Rattle.spec_giants.specs.Entries.{ideal, δ, Last, distance_next, steps_entry}
use Rattle.spec_giants.proofs.Entries.{q_length, q_trim, distance_zero, distance_rise, last_unique}
use Rattle.spec_giants.proofs.Landings.{lands}
use Rattle.spec_ideal_at.specs.Halving.{IdealAt, first_ideal, next_distance, single_step, single_steps, doubled, ideal_in, ideal_below, ideal_at_done}
use Rattle.spec_ideal_at.specs.Reached as defs

module _ (t : Ticket) where
  abbrev AtIndex : (i : ℕ) → (x : IdealAt) → Type 0
  AtIndex = defs.AtIndex t

  abbrev Reached : (y : ℕ) → (x : IdealAt) → Type 0
  Reached = defs.Reached t

  module _ (h : Admitted t.field (genus t.n) t.D) where
    abbrev g : ℕ
    g = genus t.n

    first_at : AtIndex 0 (first_ideal t)
    unfolding first_ideal entry_of
    first_at = record { ideal_is = refl; distance_is = sym (distance_zero t h) }

    rise : (i : ℕ) → (δ t i < δ t (suc i)) × (δ t (suc i) ≤ δ t i + suc g)
    rise i = (distance_rise t h i (suc i) (omega arith), let a = distance_next t h i in let b = q_length t h i in omega arith)

    -- ---- the next distance
    degree_is_length : (i : ℕ) → deg (ops_of t) (ideal t i).q ≡ length (ideal t i).q - 1
    unfolding deg size
    degree_is_length i = ap (λ (l : List ℕ). length l - 1) (q_trim t h i)

    pub next_at : {i : ℕ} {x : IdealAt} → AtIndex i x → next_distance t x ≡ δ t (suc i)
    unfolding next_distance
    next_at {i} {x} p =
        ap (λ (y : Ideal ℕ). x.distance + (suc g - deg (ops_of t) y.q)) p.ideal_is
        ∙ (let a = degree_is_length i in let b = distance_next t h i in let c = p.distance_is in let e = q_length t h i in omega arith)

    -- ---- a single step
    step_ideal : (i : ℕ) → ideal_of (ops_of t) (next (ops_of t) t.D (root_of t) (ideal t i)) ≡ ideal t (suc i)
    unfolding steps
    step_ideal i = steps_entry t h i 1 ∙ ap (ideal t) (let e : 1 + i ≡ suc i = omega arith in e)

    single_at : {i : ℕ} {x : IdealAt} → AtIndex i x → AtIndex (suc i) (single_step t x)
    unfolding single_step
    single_at {i} {x} p = record { ideal_is = ap (λ (y : Ideal ℕ). ideal_of (ops_of t) (next (ops_of t) t.D (root_of t) y)) p.ideal_is ∙ step_ideal i; distance_is = next_at p }

    -- ---- single steps, within k
    singles_reach : (k y l : ℕ) (x : IdealAt) → AtIndex l x → δ t l ≤ y → y ≤ δ t l + k → Reached y (single_steps t k y x)
    unfolding single_steps
    singles_reach zero y l x p low enough = record { at = l; is = p; last = record { low = low; high = let r = rise l in omega arith } }
    singles_reach (suc k) y l x p low enough = go (leb (next_distance t x) y) refl (λ b. singles_reach k y (suc l) (single_step t x) (single_at p) b (let r = rise l in omega arith))
      where
        go : (b : Bool) → leb (next_distance t x) y ≡ b → (δ t (suc l) ≤ y → Reached y (single_steps t k y (single_step t x))) → Reached y (elim b [ true ↦ single_steps t k y (single_step t x) | false ↦ x ])
        go true e more = more (let a = leb-true (next_distance t x) y e in let b = next_at p in omega arith)
        go false e more = record { at = l; is = p; last = record { low = low; high = let a = leb-false (next_distance t x) y e in let b = next_at p in omega arith } }

    abbrev Doubled : (i : ℕ) → (x : IdealAt) → Type 0
    Doubled = defs.Doubled t h

    double_entry : (i : ℕ) → Doubled i (doubled t (record { ideal = ideal t i; distance = δ t i }))
    unfolding doubled
    double_entry i =
        let l = lands t h i i in
        record { at = l.at; is = record { ideal_is = ap₂ (λ (u v : List ℕ). record { q = u; p = v }) l.q_is l.p_is; distance_is = ap nat_abs l.distance_is }; fall = l.fall; few = l.few; sum = l.sum }

    pub double_at : {i : ℕ} {x : IdealAt} → AtIndex i x → Doubled i (doubled t x)
    double_at {i} {x} p = subst (λ (x : IdealAt). Doubled i (doubled t x)) (sym whole) (double_entry i)
      where
        whole : x ≡ record { ideal = ideal t i; distance = δ t i }
        whole = ap₂ (λ (y : Ideal ℕ) (n : ℕ). record { ideal = y; distance = n }) p.ideal_is p.distance_is

    -- how far a giant step with itself may be from y: not past it, and 4g + 1 below it at most
    pub landing_near : {y i fall : ℕ} → Last t (y / 2) i → (at : ℕ) → fall ≤ g + g → δ t at + fall ≡ δ t i + δ t i → (δ t at ≤ y) × (y ≤ δ t at + (4 * g + 1))
    landing_near {y} {i} l at few sum = (omega (arith, halves y, sum, l.low), omega (arith, halves y, sum, few, l.high, rise i))

    -- ---- all halvings
    none_below : Reached 0 (first_ideal t)
    none_below = record { at = 0; is = first_at; last = record { low = let e = distance_zero t h in omega arith; high = let r = rise 0 in omega arith } }

    halved : (y : ℕ) (x : IdealAt) → Reached (y / 2) x → Reached y (single_steps t (4 * g + 1) y (doubled t x))
    halved y x r =
        let a = double_at r.is in
        let e = landing_near {y = y} r.last a.at a.few a.sum in
        singles_reach (4 * g + 1) y a.at (doubled t x) a.is e.0 e.1

    reached_in : (k y : ℕ) → y ≤ k → Reached y (ideal_in t k y)
    unfolding ideal_in
    reached_in zero y l = subst (λ (n : ℕ). Reached n (first_ideal t)) (let e : 0 ≡ y = omega arith in e) none_below
    reached_in (suc k) y l = go (eqb y 0) refl (λ s. reached_in k (y / 2) (let e = halves y in omega arith))
      where
        go : (b : Bool) → eqb y 0 ≡ b → (0 < y → Reached (y / 2) (ideal_in t k (y / 2))) → Reached y (elim b [ true ↦ first_ideal t | false ↦ single_steps t (4 * g + 1) y (doubled t (ideal_in t k (y / 2))) ])
        go true e half = subst (λ (n : ℕ). Reached n (first_ideal t)) (sym (eqb-true y 0 e)) none_below
        go false e half = halved y (ideal_in t k (y / 2)) (half (⊎_elim (λ p. p) (λ p. absurd (eqb-false y 0 e (omega arith))) (le_or_lt 1 y)))

    pub reached : (y : ℕ) → Reached y (ideal_below t y)
    unfolding ideal_below
    reached y = reached_in y y (omega arith)

    -- ---- more halvings change nothing, so that the ideal for y does come from the one for y div 2
    in_below : (k y : ℕ) → y ≤ k → ideal_in t k y ≡ ideal_below t y
    in_below k y l =
        let a = reached_in k y l in
        let b = reached y in
        let e : a.at ≡ b.at = last_unique t h a.last b.last in
        ap₂ (λ (x : Ideal ℕ) (n : ℕ). record { ideal = x; distance = n }) (a.is.ideal_is ∙ ap (ideal t) e ∙ sym b.is.ideal_is) (a.is.distance_is ∙ ap (δ t) e ∙ sym b.is.distance_is)

    in_halved : (k y : ℕ) → 0 < y → ideal_in t (suc k) y ≡ single_steps t (4 * g + 1) y (doubled t (ideal_in t k (y / 2)))
    unfolding ideal_in
    in_halved k y l = go (eqb y 0) refl
      where
        go : (b : Bool) → eqb y 0 ≡ b → (elim b [ true ↦ first_ideal t | false ↦ single_steps t (4 * g + 1) y (doubled t (ideal_in t k (y / 2))) ]) ≡ single_steps t (4 * g + 1) y (doubled t (ideal_in t k (y / 2)))
        go true e = absurd (let a : y ≡ 0 = eqb-true y 0 e in omega arith)
        go false e = refl

    pub below_halved : (y : ℕ) → 0 < y → ideal_below t y ≡ single_steps t (4 * g + 1) y (doubled t (ideal_below t (y / 2)))
    below_halved zero l = absurd (omega arith)
    below_halved (suc k) l =
        sym (in_below (suc k) (suc k) (omega arith))
        ∙ in_halved k (suc k) l
        ∙ ap (λ (x : IdealAt). single_steps t (4 * g + 1) (suc k) (doubled t x)) (in_below k (suc k / 2) (let e = halves (suc k) in omega arith))

    -- ---- what is at the last index is the answer
    pub done_at : {y i : ℕ} → Last t y i → {q p : List ℕ} → q ≡ (ideal t i).q → p ≡ (ideal t i).p → {e next : ℕ} → e ≡ δ t i → next ≡ δ t (suc i) → record { number = 0; q = q; p = p; distance = e; next = next } ≡ ideal_at_done t y
    unfolding ideal_at_done
    done_at {y} {i} l {q} {p} qs ps {e} {next} es nexts = λ k. record { number = 0; q = (qs ∙ sym (ap (λ (x : Ideal ℕ). x.q) place)) k; p = (ps ∙ sym (ap (λ (x : Ideal ℕ). x.p) place)) k; distance = (es ∙ sym (r.is.distance_is ∙ ap (δ t) at_is)) k; next = (nexts ∙ sym (next_at r.is ∙ ap (λ (j : ℕ). δ t (suc j)) at_is)) k }
      where
        r : Reached y (ideal_below t y)
        r = reached y

        at_is : r.at ≡ i
        at_is = last_unique t h r.last l

        place : (ideal_below t y).ideal ≡ ideal t i
        place = r.is.ideal_is ∙ ap (ideal t) at_is
