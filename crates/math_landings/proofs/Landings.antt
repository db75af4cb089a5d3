-- The proofs of specs/Landings.
use Rattle.std.specs.Prelude.{ℕ, zero, suc, ◌+◌ as ◌+ₙ◌, ◌-◌ as ◌-ₙ◌, ◌≤◌, ◌<◌, ◌≡◌, refl, ◌⊎◌}
use Rattle.std.proofs.Common.{zero-add, suc-add, arith, sym, ap, subst, inl, inr, ⊎_elim}
use Rattle.math_ring.specs.Order.{le_or_lt}
use Rattle.math_algebra.specs.Field.{Field}
use Rattle.math_algebra.specs.Polynomial.{Px, Deg}
use Rattle.math_surd.specs.Root.{Root}
use Rattle.math_surd.specs.Walk.{Walk}
use Rattle.math_surd.specs.Convergents as convergents
use Rattle.math_surd.specs.Distance.{distance}
use Rattle.math_surd.proofs.Distance.{distance_mono, distance_rise, distance_least, index_le, index_lt}
use Rattle.math_surd.specs.QuasiPeriod.{QuasiPeriod, NoneConstant}
use Rattle.math_surd.proofs.QuasiPeriod.{quasi_period_or_none}
use Rattle.math_surd.specs.LeastDegree.{Solution}
use Rattle.math_surd.proofs.LeastDegree.{solved, found, reached, reached_deg}
use Rattle.math_surd.proofs.Ideal.{same_sym, same_trans}
use Rattle.math_surd.specs.Same.{Same}
use Rattle.math_symmetry.proofs.Period.{same_period, distance_period}
use Rattle.math_symmetry.proofs.Distinct.{same_constant, none_twice}
use Rattle.math_landings.specs.Landings.{Reaches, reach, Stocked, ByStock, ByLanding, Found, Spent, Search}
use Rattle.math_landings.specs.Landings as defs

module _ {A : Type 0} (K : Field A) {g : ℕ} {D : Px K} {o : Root K g D} (w : Walk K o) where
  abbrev Landings : (k : ℕ) → Type 0
  Landings = defs.Landings K w

  -- ---- the proof
  -- 2 g is less than the distance of an index above g
  far : (k : ℕ) → g < k → g +ₙ g < distance K w k
  far zero h = absurd (omega arith)
  far (suc n) h = let a = distance_least K w n in omega arith

  module _ {k : ℕ} (l : Landings k) (large : Reaches g k) where
    open l use {at, drop, start, jump, few}

    reach_start : (reach K w) l 0 ≡ distance K w k
    reach_start = ap (distance K w) start

    next_rises : (j : ℕ) → (reach K w) l j < (reach K w) l (suc j)
    next_rises j = let a = far k large in let b = few j in let c = jump j in omega arith

    next_short : (j : ℕ) → (reach K w) l (suc j) ≤ (reach K w) l j +ₙ distance K w k
    next_short j = let c = jump j in omega arith

    rises_by : (n j : ℕ) → (reach K w) l j ≤ (reach K w) l (n +ₙ j)
    rises_by zero j = rw (zero-add j) (omega arith)
    rises_by (suc n) j = rw (suc-add n j) (let a = rises_by n j in let b = next_rises (n +ₙ j) in omega arith)

    rises_to : (i j : ℕ) → i ≤ j → (reach K w) l i ≤ (reach K w) l j
    rises_to i j h = subst (λ (n : ℕ). (reach K w) l i ≤ (reach K w) l n) (let e : (j -ₙ i) +ₙ i ≡ j = omega arith in e) (rises_by (j -ₙ i) i)

    -- a later landing is past the stock
    past : (j : ℕ) → k < at (suc j)
    past j = index_lt K w k (at (suc j)) (let a = rises_to 0 j (omega arith) in let b = next_rises j in let e = reach_start in omega arith)

    -- so Q is constant at its difference to a stocked index
    stocked_constant : (j i : ℕ) → (Stocked K w) l (suc j) i → w.κ (at (suc j) -ₙ i) ≡ 0
    stocked_constant j i s = same_constant K w (at (suc j)) i (let a = past j in let b = s.inside in omega arith) s.same

    -- ---- where the quasi-period is past the stock
    module _ (m : ℕ) (first : QuasiPeriod K w m) (outside : k < m) where
      abbrev R : ℕ
      R = distance K w m

      none_inside : NoneConstant K w k
      none_inside j p q = first.least j p (omega arith)

      -- a landing before R is not in the stock
      before : (j i : ℕ) → (reach K w) l (suc j) < R → (Stocked K w) l (suc j) i → ⊥
      before j i h s = let a = past j in let b = index_lt K w (at (suc j)) m h in let c = s.inside in first.least (at (suc j) -ₙ i) (omega arith) (omega arith) (stocked_constant j i s)

      -- the first landing at R or past it
      crossing : (J : ℕ) → R ≤ (reach K w) l J → (j : ℕ) × (j < J) × ((reach K w) l j < R) × (R ≤ (reach K w) l (suc j))
      crossing zero h = absurd (let a = distance_rise K w k m outside in let e = reach_start in omega arith)
      crossing (suc J) h = ⊎_elim (λ a. let r = crossing J a in (r.0, omega (arith, r.1), r.2, r.3)) (λ a. (J, omega arith, a, h)) (le_or_lt R ((reach K w) l J))

      -- is in the stock, and tells R
      crossed : (j : ℕ) → (reach K w) l j < R → R ≤ (reach K w) l (suc j) → (ByLanding K w) l j R
      crossed j a b = record {
        none = none_inside;
        place = i;
        here = record { inside = let h = index_lt K w i k (let e = raised in let c = next_short j in omega arith) in omega arith; same = subst (λ (n : ℕ). Same K w n i) at_is (same_period K w m first.constant i) };
        earlier = λ j' i' h s. before j' i' (let c = rises_to (suc j') j (omega arith) in omega arith) s;
        is = raised;
      }
        where
          i : ℕ
          i = at (suc j) -ₙ m

          at_is : i +ₙ m ≡ at (suc j)
          at_is = let h = index_le K w m (at (suc j)) b in omega arith

          raised : R +ₙ distance K w i ≡ (reach K w) l (suc j)
          raised = subst (λ (n : ℕ). R +ₙ distance K w i ≡ distance K w n) at_is (let e = distance_period K w m first.constant i in omega arith)

    whenever : (J m : ℕ) → QuasiPeriod K w m → distance K w m ≤ (reach K w) l J → (Found K w) l J (distance K w m)
    whenever J m first h = ⊎_elim (λ a. inl (record { m = m; inside = a; first = first; is = refl })) (λ a. let r = crossing m first a J h in inr (r.0, r.1, crossed m first a r.0 r.2 r.3)) (le_or_lt m k)

    -- ---- what is not-found is R
    inside_right : (J R : ℕ) → (ByStock K w) l R → (m : ℕ) × QuasiPeriod K w m × (R ≡ distance K w m) × (R ≤ (reach K w) l J)
    inside_right J R s = (s.m, s.first, s.is, let a = distance_mono K w s.m k s.inside in let b = rises_to 0 J (omega arith) in let e = reach_start in let e' = s.is in omega arith)

    landing_right : (J j R : ℕ) → j < J → (ByLanding K w) l j R → (m : ℕ) × QuasiPeriod K w m × (R ≡ distance K w m) × (R ≤ (reach K w) l J)
    landing_right J j R h s = ⊎_elim some (λ no. absurd (no n (let a = past j in let b = s.here.inside in omega arith) (omega arith) (stocked_constant j s.place s.here))) (quasi_period_or_none K w n)
      where
        n : ℕ
        n = at (suc j) -ₙ s.place

        some : (m : ℕ) × (m ≤ n) × QuasiPeriod K w m → (m : ℕ) × QuasiPeriod K w m × (R ≡ distance K w m) × (R ≤ (reach K w) l J)
        some r = (m, first, equal, let a = rises_to (suc j) J h in let e = s.is in omega arith)
          where
            m : ℕ
            m = r.0

            first : QuasiPeriod K w m
            first = r.2

            outside : k < m
            outside = ⊎_elim (λ a. absurd (s.none m first.positive a first.constant)) (λ a. a) (le_or_lt m k)

            -- the landing that crosses R is this one, and its place in the stock is this place
            equal : R ≡ distance K w m
            equal = go (crossing m first outside (suc j) (let a = distance_mono K w m (at (suc j)) (let b = r.1 in omega arith) in omega arith))
              where
                go : (j' : ℕ) × (j' < suc j) × ((reach K w) l j' < distance K w m) × (distance K w m ≤ (reach K w) l (suc j')) → R ≡ distance K w m
                go t = ⊎_elim (λ a. here (let e : t.0 ≡ j = omega (arith, t.1) in e)) (λ a. absurd (s.earlier t.0 c.place a c.here)) (le_or_lt j t.0)
                  where
                    c : (ByLanding K w) l t.0 (distance K w m)
                    c = crossed m first outside t.0 t.2 t.3

                    here : t.0 ≡ j → R ≡ distance K w m
                    here e = let a = ap (λ (i : ℕ). (reach K w) l (suc i)) e in let b = c.is in let d = ap (distance K w) place in let f = s.is in omega arith
                      where
                        place : s.place ≡ c.place
                        place = none_twice K w k s.none s.place c.place s.here.inside c.here.inside (same_trans K (same_sym K s.here.same) (subst (λ (i : ℕ). Same K w (at (suc i)) c.place) e c.here.same))

    right : (J R : ℕ) → (Found K w) l J R → (m : ℕ) × QuasiPeriod K w m × (R ≡ distance K w m) × (R ≤ (reach K w) l J)
    right J R t = ⊎_elim (inside_right J R) (λ r. landing_right J r.0 R r.1 r.2) t

    decide : (J : ℕ) → ((R : ℕ) × (Found K w) l J R) ⊎ (Spent K w) l J
    decide J = ⊎_elim (λ r. inl (distance K w r.0, inl (record { m = r.0; inside = r.1; first = r.2; is = refl }))) (λ none. ⊎_elim (λ r. inl (distance K w r.0, whenever J r.0 r.2 (let a = distance_mono K w r.0 (at J) r.1 in omega arith))) (λ none'. inr (record { none = none; no_landing = λ j i h s. none' (at (suc j) -ₙ i) (let a = past j in let b = s.inside in omega arith) (let a = index_le K w (at (suc j)) (at J) (rises_to (suc j) J h) in omega arith) (stocked_constant j i s) })) (quasi_period_or_none K w (at J))) (quasi_period_or_none K w k)

    none_solves : (J : ℕ) → (Spent K w) l J → {X Y : Px K} → Solution K D X Y → (n : ℕ) × Deg K X n × ((reach K w) l J < n)
    none_solves J empty {X} {Y} u = go (solved K w u)
      where
        go : (m : ℕ) × QuasiPeriod K w m → (n : ℕ) × Deg K X n × ((reach K w) l J < n)
        go r = let f = found K w r.0 r.1 u in (f.0, f.1, ⊎_elim (λ h. absurd (not_found (whenever J r.0 r.1 h))) (λ h. (let a = f.2 in omega arith)) (le_or_lt (distance K w r.0) ((reach K w) l J)))
          where
            not_found : {R : ℕ} → (Found K w) l J R → ⊥
            not_found t = ⊎_elim (λ s. empty.none s.m s.first.positive s.inside s.first.constant) (λ s. empty.no_landing s.0 s.2.place s.1 s.2.here) t

    solves : (J R : ℕ) → (Found K w) l J R → (X Y : Px K) × Solution K D X Y × Deg K X R
    solves J R t = let r = right J R t in (convergents.p K w (suc r.0), convergents.s K w (suc r.0), reached K w r.0 r.1, subst (Deg K (convergents.p K w (suc r.0))) (sym r.2) (reached_deg K w r.0 r.1))

    pub searches : (J : ℕ) → (Search K w) l J
    searches J = record { found_right = right J; found_whenever = whenever J; decided = decide J; found_solves = solves J; spent_above = none_solves J; rises = next_rises; short = next_short; first_reach = reach_start }
