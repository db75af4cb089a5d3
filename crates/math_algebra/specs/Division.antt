-- Division with remainder over a field: f = q g + r with r under the degree of g. It exists, it is one, and
-- its remainder only depends on f modulo g. Existence is division by a unit leading coefficient; uniqueness
-- is the bound of a quotient.
use Rattle.std.specs.Prelude.{ℕ, ◌+◌ as ◌+ₙ◌, ◌-◌ as ◌-ₙ◌, ◌≤◌, ◌≡◌, [], ◌∷◌}
use Rattle.std.proofs.Common.{arith, sym}
use Rattle.math_ring.specs.Ring.{CRing, eq_of_sub}
use Rattle.math_ring.specs.Identity.{ring_from, times, plus, quote}
use Rattle.math_ring.specs.Series.{Series}
use Rattle.math_ring.specs.Division.{Quotient, divide}
use Rattle.math_algebra.specs.Field.{Field}
use Rattle.math_algebra.specs.Polynomial.{F, Px, ◌≺◌ as Low, Deg, low_up, low_neg, low_sub, cancel, deg_dominant, deg_factor, deg_path}
use Rattle.math_algebra.specs.Divides.{Divides, divides_zero, divides_sub, divides_multiple, divides_path, rigid}

module _ {A : Type 0} (K : Field A) where
  open Series (F K) use {add as ◌+◌, mul as ◌*◌, neg as -◌, zer as 𝟘, one as 𝟙}

  infixl 6 ◌+◌ ◌-◌
  infixl 7 ◌*◌
  infix 8 -◌
  infix 4 ◌≺◌
  abbrev R[x] : CRing (Px K)
  R[x] = Series (F K)

  abbrev ◌-◌ : Px K → Px K → Px K
  a - b = a + (- b)

  abbrev ◌≺◌ : Px K → ℕ → Type 0
  ◌≺◌ = Low K

  abbrev pub Division : Px K → Px K → ℕ → ℕ → Type 0
  Division = Quotient (F K)

  -- ---- existence
  pub division : (n : ℕ) (f g : Px K) (d : ℕ) → f ≺ n → Deg K g d → Division f g n d
  division n f g d h t = divide (F K) n f g d (K.inv (g d)) (K.inv_mul (g d) t.top) t.low (low_up K f (omega arith) h)

  module _ {g : Px K} {d : ℕ} (t : Deg K g d) where
    -- the remainder depends on f modulo g only
    pub remainder_congruent : {f f' : Px K} {n n' : ℕ} → Divides K g (f - f') → (a : Division f g n d) (b : Division f' g n' d) → a.rem ≡ b.rem
    remainder_congruent {f} {f'} {n} {n'} c a b = rigid K d t (divides_path K same (divides_sub K c (divides_multiple K g (a.quo - b.quo) (n +ₙ n') (low_sub K a.quo b.quo _ (low_up K a.quo (omega arith) a.quo_low) (low_up K b.quo (omega arith) b.quo_low))))) (low_sub K a.rem b.rem d a.rem_low b.rem_low)
      where
        same : (f - f') - g * (a.quo - b.quo) ≡ a.rem - b.rem
        same = ring_from R[x] (f ∷ f' ∷ a.quo ∷ b.quo ∷ a.rem ∷ b.rem ∷ g ∷ []) (plus R[x] (times R[x] 𝟙 a.is) (times R[x] (- 𝟙) b.is)) (search quote depth 40 fits 9999) tt

    -- ---- uniqueness
    pub division_unique : {f : Px K} {n n' : ℕ} (a : Division f g n d) (b : Division f g n' d) → (a.quo ≡ b.quo) × (a.rem ≡ b.rem)
    division_unique {f} {n} {n'} a b = (eq_of_sub R[x] a.quo b.quo (cancel K (n +ₙ n') (a.quo - b.quo) g d t (low_sub K a.quo b.quo _ (low_up K a.quo (omega arith) a.quo_low) (low_up K b.quo (omega arith) b.quo_low)) gone), same)
      where
        same : a.rem ≡ b.rem
        same = remainder_congruent (divides_path K (sym (R[x].add_neg f)) (divides_zero K g)) a b

        gone : (a.quo - b.quo) * g ≡ 𝟘
        gone = ring_from R[x] (f ∷ a.quo ∷ b.quo ∷ a.rem ∷ b.rem ∷ g ∷ []) (plus R[x] (times R[x] (- 𝟙) a.is) (plus R[x] (times R[x] 𝟙 b.is) (times R[x] (- 𝟙) same))) (search quote depth 40 fits 9999) tt

    -- ---- the quotient's degree
    module _ {f : Px K} {m n : ℕ} (u : Deg K f m) (le : d ≤ m) (a : Division f g n d) where
      less_remainder : f - a.rem ≡ a.quo * g
      less_remainder = ring_from R[x] (f ∷ a.quo ∷ a.rem ∷ g ∷ []) (times R[x] 𝟙 a.is) (search quote depth 40 fits 9999) tt

      pub quotient_deg : Deg K a.quo (m -ₙ d)
      quotient_deg = (deg_factor K n a.quo g m d a.quo_low t (deg_path K m less_remainder (deg_dominant K f (- a.rem) m u (low_neg K a.rem m (low_up K a.rem le a.rem_low))))).1
