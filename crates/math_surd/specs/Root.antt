-- The root d of D and what is left: D = d² + e with d monic of degree g + 1 and e of degree at most g.
use Rattle.std.specs.Prelude.{ℕ, suc, ◌+◌ as ◌+ₙ◌, ◌≡◌, [], ◌∷◌}
use Rattle.std.proofs.Common.{arith, sym, ◌∙◌}
use Rattle.math_ring.specs.Identity.{ring, quote}
use Rattle.math_ring.specs.Series.{Series, add_s}
use Rattle.math_algebra.specs.Field.{Field, no_zero_divisor}
use Rattle.math_algebra.specs.Polynomial.{F, Px, ◌≺◌ as Low, Deg, Monic, low_up, low_add, low_path, deg_mul, monic_deg}
use Rattle.math_algebra.specs.Root.{IsRoot}

module _ {A : Type 0} (K : Field A) where
  open Series (F K) use {add as ◌+◌, mul as ◌*◌, neg as -◌}

  infixl 6 ◌+◌
  infixl 7 ◌*◌
  infix 8 -◌
  infix 4 ◌≺◌
  abbrev P[x] : Type 0
  P[x] = Px K

  abbrev ◌≺◌ : P[x] → ℕ → Type 0
  ◌≺◌ = Low K

  pub record Root (g : ℕ) (D : P[x]) : Type 0 where
    pub d : P[x]
    pub e : P[x]
    pub is : D ≡ d * d + e
    pub monic : Monic K d (suc g)
    pub e_low : e ≺ suc g

  pub rest_is : (D d : P[x]) → D ≡ d * d + (D + (- (d * d)))
  rest_is D d = ring (Series (F K)) (D ∷ d ∷ []) (search quote depth 40 fits 9999) tt

  -- with e the rest D - d²
  abbrev pub root_from : {g : ℕ} {D d : P[x]} → IsRoot K D d (suc g) → Root g D
  root_from {g} {D} {d} h = record { d = d; e = D + (- (d * d)); is = rest_is D d; monic = h.monic; e_low = h.low }

  -- 2 f has the degree of f
  pub deg_twice : (f : P[x]) (n : ℕ) → Deg K f n → Deg K (f + f) n
  unfolding add_s
  deg_twice f n t = record {
    low = low_add K f f (suc n) t.low t.low;
    top = λ h. t.top (no_zero_divisor K (f n) ((F K).add (F K).one (F K).one) K.two_not_zero (ring (F K) (f n ∷ []) (search quote depth 40 fits 9999) tt ∙ h));
  }

  -- D is not a square
  abbrev pub NoSquare : P[x] → Type 0
  NoSquare D = (f : P[x]) (n : ℕ) → f ≺ n → D ≡ f * f → ⊥

  module _ {g : ℕ} {D : P[x]} (o : Root g D) where
    pub d_deg : Deg K o.d (suc g)
    d_deg = monic_deg K o.monic

    -- D has the degree 2 g + 2
    pub D_low : D ≺ suc (suc g +ₙ suc g)
    D_low = low_path K _ (sym o.is) (low_add K (o.d * o.d) o.e _ (deg_mul K o.d o.d (suc g) (suc g) d_deg d_deg).low (low_up K o.e (omega arith) o.e_low))
