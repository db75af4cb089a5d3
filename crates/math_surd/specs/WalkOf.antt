-- The walk from the equations that compute it: quotients and remainders of P + d and of D - P² by Q. That the
-- second remainder is 0, that no Q is 0 and that each is reduced is proved here, step by step.
use Rattle.std.specs.Prelude.{ℕ, zero, suc, ◌+◌ as ◌+ₙ◌, ◌≤◌, ◌≡◌, [], ◌∷◌}
use Rattle.std.proofs.Common.{arith, sym, ap₂, ◌∙◌}
use Rattle.std.proofs.Math.Path.{ap}
use Rattle.math_ring.specs.Ring.{CRing}
use Rattle.math_ring.specs.Identity.{ring, ring_from, times, plus, quote}
use Rattle.math_ring.specs.Series.{Series}
use Rattle.math_algebra.specs.Field.{Field}
use Rattle.math_algebra.specs.Polynomial.{F, Px, ◌≺◌ as Low, Deg, low_zero, low_path, deg_path, monic_deg, monic_one}
use Rattle.math_algebra.specs.Division.{Division, division_unique}
use Rattle.math_surd.specs.Root.{Root, NoSquare, D_low}
use Rattle.math_surd.specs.Step.{State, next_P, next_Q, exact, next, reduced}
use Rattle.math_surd.specs.Walk.{Walk, prior}

module _ {A : Type 0} (K : Field A) where
  open Series (F K) use {add as ◌+◌, mul as ◌*◌, neg as -◌, zer as 𝟘, one as 𝟙}

  infixl 6 ◌+◌ ◌-◌
  infixl 7 ◌*◌
  infix 8 -◌
  infix 4 ◌≺◌
  abbrev P[x] : Type 0
  P[x] = Px K

  abbrev R[x] : CRing P[x]
  R[x] = Series (F K)

  abbrev ◌-◌ : P[x] → P[x] → P[x]
  a - b = a + (- b)

  abbrev ◌≺◌ : P[x] → ℕ → Type 0
  ◌≺◌ = Low K

  -- What is computed. Each division is only asked for where Q has a degree n; t i is the remainder of D - P²
  -- by Q, to be shown 0.
  pub record Computed {g : ℕ} {D : P[x]} (o : Root K g D) : Type 0 where
    pub Q : ℕ → P[x]
    pub P : ℕ → P[x]
    pub a : ℕ → P[x]
    pub r : ℕ → P[x]
    pub t : ℕ → P[x]
    pub size : ℕ → ℕ
    pub Q_low : (i : ℕ) → Q i ≺ size i
    pub a_low : (i : ℕ) → a i ≺ size i
    pub Q_first : Q 0 ≡ 𝟙
    pub P_first : P 0 ≡ 𝟘
    pub divide : (i n : ℕ) → Deg K (Q i) n → P i + o.d ≡ a i * Q i + r i
    pub r_low : (i n : ℕ) → Deg K (Q i) n → r i ≺ n
    pub P_step : (i : ℕ) → P (suc i) ≡ a i * Q i - P i
    pub Q_divide : (i n : ℕ) → Deg K (Q i) n → D - P (suc i) * P (suc i) ≡ Q (suc i) * Q i + t i
    pub t_low : (i n : ℕ) → Deg K (Q i) n → t i ≺ n

  module _ {g : ℕ} {D : P[x]} {o : Root K g D} (no_square : NoSquare K D) (c : Computed o) where
    open c use {Q, P, a, r, t, size, Q_low, a_low, Q_first, P_first, divide, r_low, P_step, Q_divide, t_low}

    -- Q i has a degree, at most g, and divides D - P²
    pub record Reached (i : ℕ) : Type 0 where
      pub state : State K D (Q i) (prior K D Q i) (P i)
      pub small : state.κ ≤ g

    module _ (i : ℕ) (h : Reached i) where
      abbrev s : State K D (Q i) (prior K D Q i) (P i)
      s = h.state

      abbrev q : Division K (P i + o.d) (Q i) (size i) s.κ
      q = record { quo = a i; rem = r i; is = divide i s.κ s.deg; quo_low = a_low i; rem_low = r_low i s.κ s.deg }

      s' : State K D (next_Q K o s q) (Q i) (next_P K o s q)
      s' = next K o s q no_square

      -- the division of D - P² by Q is exact, so its quotient is the next Q
      pub Q_is : Q (suc i) ≡ next_Q K o s q
      Q_is = (division_unique K s.deg computed stepped).0
        where
          f : P[x]
          f = D - P (suc i) * P (suc i)

          computed : Division K f (Q i) (size (suc i)) s.κ
          computed = record { quo = Q (suc i); rem = t i; is = Q_divide i s.κ s.deg; quo_low = Q_low (suc i); rem_low = t_low i s.κ s.deg }

          stepped : Division K f (Q i) (suc s'.κ) s.κ
          stepped = record {
            quo = next_Q K o s q;
            rem = 𝟘;
            is = ring_from R[x] (D ∷ P (suc i) ∷ next_P K o s q ∷ next_Q K o s q ∷ Q i ∷ []) (plus R[x] (times R[x] 𝟙 (exact K o s q)) (times R[x] (- (P (suc i) + next_P K o s q)) (P_step i))) (search quote depth 40 fits 9999) tt;
            quo_low = s'.deg.low;
            rem_low = low_zero K s.κ;
          }

      pub next_small : (κ : ℕ) → Deg K (Q (suc i)) κ → (κ ≤ g) × (P (suc i) - o.d ≺ κ)
      next_small κ u = let v = reduced K o s q h.small κ (deg_path K κ Q_is u) in (v.0, low_path K κ (ap (λ f. f - o.d) (sym (P_step i))) v.1)

      reach_next : Reached (suc i)
      reach_next = record {
        state = record { κ = s'.κ; deg = deg; norm = s'.norm ∙ ap₂ (λ x y. x * x + y * Q i) (sym (P_step i)) (sym Q_is); size = s'.size; C_low = s'.C_low; P_low = low_path K s'.size (sym (P_step i)) s'.P_low };
        small = (next_small s'.κ deg).0;
      }
        where
          deg : Deg K (Q (suc i)) s'.κ
          deg = deg_path K s'.κ (sym Q_is) s'.deg

    pub reached : (i : ℕ) → Reached i
    reached zero = record {
      state = record {
        κ = 0;
        deg = deg_path K 0 (sym Q_first) (monic_deg K (monic_one K));
        norm = rw (Q_first, P_first) (ring R[x] (D ∷ []) (search quote depth 40 fits 9999) tt);
        size = suc (suc g +ₙ suc g);
        C_low = D_low K o;
        P_low = low_path K _ (sym P_first) (low_zero K _);
      };
      small = omega arith;
    }
    reached (suc i) = reach_next i (reached i)

    -- its Q, P, a and r are those computed, by `unfolding walk_of`
    unfoldable pub walk_of : Walk K o
    walk_of = record {
      Q = Q;
      P = P;
      a = a;
      r = r;
      κ = λ i. (reached i).state.κ;
      size = size;
      Q_first = Q_first;
      P_first = P_first;
      divide = λ i. divide i _ (reached i).state.deg;
      P_step = P_step;
      Q_step = λ i. Q_is i (reached i) ∙ ap (λ f. prior K D Q i + a i * (P i - f)) (sym (P_step i));
      Q_deg = λ i. (reached i).state.deg;
      reduced = λ i. (reached i).small;
      r_low = λ i. r_low i _ (reached i).state.deg;
      a_low = a_low;
      near = λ i. (next_small i (reached i) _ (reached (suc i)).state.deg).1;
    }
