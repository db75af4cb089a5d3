-- The definitions' steps from any ideal, read as polynomials, are the steps over the field: every division of
-- D − P² by Q is exact and no Q is 0. The first reduced index is found within as many turns as Q has
-- coefficients, and the sum of the degrees of a is that over the field.
use Prim.Native.Nat.{ℕ, zero, suc, ◌+◌ as ◌+ₙ◌, ◌≤◌, ◌<◌}
use native.Mathlib.Omega.{arith}
use Rattle.std.specs.Prelude.{◌≡◌, List, [], ◌∷◌, leb, length}
use Rattle.std.proofs.Math.Path.{refl, sym, ap, ap₂}
use Rattle.std.proofs.Common.{◌∙◌, subst, ⊎_elim, leb-true, leb-false}
use Rattle.std.proofs.Math.Bool.{Bool, true, false}
use Rattle.math_ring.specs.Ring.{CRing}
use Rattle.math_ring.specs.Identity.{ring_from, times, quote}
use Rattle.math_ring.specs.Order.{le_or_lt}
use Rattle.math_ring.specs.Series.{Series}
use Rattle.math_algebra.specs.Field.{Field}
use Rattle.math_algebra.specs.Polynomial.{F, Px, Deg, deg_unique}
use Rattle.math_algebra.specs.Division.{Division}
use Rattle.math_surd.specs.Step.{State}
use Rattle.math_surd.specs.Step as states
use Rattle.math_surd.specs.Ideal.{Follows}
use Rattle.math_surd.proofs.Ideal.{step_follows}
use Rattle.math_ideals.specs.Reduction.{next_state}
use Rattle.math_ideals.specs.Steps.{Steps, Above, height_more, sum_of_degrees, shift_most}
use Rattle.math_ideals.proofs.Steps.{above_more, turns_less, degree_falls, partial_deg}
use Rattle.spec_arithmetic.specs.Field.{Ops}
use Rattle.spec_arithmetic.specs.Polynomials.{trim, size, deg, add, mul, quo, rem}
use Rattle.spec_definitions.specs.Walk.{Ideal, partial, next_p, next, steps}
use Rattle.spec_definitions.specs.Products.{reduced_from, turns_of, degree_sum}
use Rattle.spec_bridge.specs.Model.{Model, series}
use Rattle.spec_bridge.specs.Trim.{below_length, size_is}
use Rattle.spec_bridge.specs.Arithmetic.{series_add, series_sub, series_mul}
use Rattle.spec_bridge.specs.Division.{series_quo_rem}
use Rattle.spec_bridge.specs.Quotient.{quo_exact}
use Rattle.spec_bridge.specs.Degree.{deg_is, deg_size}
use Rattle.spec_laws.specs.Surd.{Surd}
use Rattle.spec_laws.specs.Fraction.{root, rem_low}
use Rattle.spec_laws.specs.Pairs.{norm_at, series_norm}

module _ {A B : Type 0} {o : Ops A} {K : Field B} {M : Model o (F K)} {g : ℕ} {D d : List A} (z : Surd K M g D d) where
  open Series (F K) use {add as ◌+◌, mul as ◌*◌, neg as -◌, one as 𝟙}

  infixl 6 ◌+◌ ◌-◌
  infixl 7 ◌*◌
  infix 8 -◌
  abbrev R[x] : CRing (Px K)
  R[x] = Series (F K)

  abbrev ◌-◌ : Px K → Px K → Px K
  a - b = a + (- b)

  -- ---- one step
  module _ (x : Ideal A) {C : Px K} (st : State K (series M D) (series M x.q) C (series M x.p)) where
    abbrev a : List A
    a = partial o D d x

    abbrev y : Ideal A
    y = next o D d x

    size_at : length (trim o x.q) ≡ suc st.κ
    size_at = deg_size K M x.q st.deg

    pub divide_at : series M x.p + series M d ≡ series M a * series M x.q + series M (rem o (add o x.p d) x.q)
    unfolding partial
    divide_at = sym (series_add M x.p d) ∙ series_quo_rem M (add o x.p d) x.q

    abbrev division_at : Division K (series M x.p + series M d) (series M x.q) (length a) st.κ
    division_at = record {
      quo = series M a;
      rem = series M (rem o (add o x.p d) x.q);
      is = divide_at;
      quo_low = below_length M a;
      rem_low = rem_low z (add o x.p d) x.q st.κ st.deg;
    }

    next_P_series : series M y.p ≡ states.next_P K (root z) st division_at
    unfolding next next_p
    next_P_series = series_sub M (mul o a x.q) x.p ∙ ap (λ (f : Px K). f - series M x.p) (series_mul M a x.q)

    -- the division of D − P² by Q is exact
    next_exact : (series M (quo o (norm_at o D y) x.q) ≡ states.next_Q K (root z) st division_at) × (rem o (norm_at o D y) x.q ≡ [])
    next_exact = quo_exact M z.inverts (norm_at o D y) x.q Q' _ (let e = size_at in omega arith) (states.next K (root z) st division_at z.no_square).deg.low is
      where
        Q' : Px K
        Q' = states.next_Q K (root z) st division_at

        P' : Px K
        P' = states.next_P K (root z) st division_at

        is : series M (norm_at o D y) ≡ Q' * series M x.q
        is = series_norm K M D y ∙ ap (λ (f : Px K). series M D - f * f) next_P_series ∙ ring_from R[x] (series M D ∷ P' ∷ Q' ∷ series M x.q ∷ []) (times R[x] 𝟙 (states.exact K (root z) st division_at)) (search quote depth 40 fits 9999) tt

    pub next_divides : rem o (norm_at o D y) x.q ≡ []
    next_divides = next_exact.1

    next_Q_series : series M y.q ≡ states.next_Q K (root z) st division_at
    unfolding next
    next_Q_series = next_exact.0

    pub next_follows : Follows K (root z) (series M x.q) (series M x.p) (series M y.q) (series M y.p)
    next_follows = subst (λ (f : Px K). Follows K (root z) (series M x.q) (series M x.p) f (series M y.p)) (sym next_Q_series) (subst (λ (f : Px K). Follows K (root z) (series M x.q) (series M x.p) (states.next_Q K (root z) st division_at) f) (sym next_P_series) (step_follows K (root z) st division_at z.no_square))

  -- ---- all steps from x
  module _ (x : Ideal A) {C : Px K} (st : State K (series M D) (series M x.q) C (series M x.p)) where
    abbrev pub Q : ℕ → List A
    Q j = (steps o D d x j).q

    abbrev pub P : ℕ → List A
    P j = (steps o D d x j).p

    abbrev pub a_at : ℕ → List A
    a_at j = partial o D d (steps o D d x j)

    -- Q_j is not 0 and divides D − P_j²
    pub record Stated (j : ℕ) : Type 0 where
      pub cofactor : Px K
      pub state : State K (series M D) (series M (Q j)) cofactor (series M (P j))

    pub stated : (j : ℕ) → Stated j
    unfolding steps
    stated zero = record { cofactor = C; state = st }
    stated (suc j) = record { cofactor = series M (Q j); state = next_state K (next_follows (steps o D d x j) (stated j).state) z.no_square }

    -- the degree of Q_j
    κ_is : (j : ℕ) → (stated j).state.κ ≡ deg o (Q j)
    κ_is j = let e = deg_size K M (Q j) (stated j).state.deg in let e' = deg_is K M (Q j) in omega arith

    pub Q_size : (j : ℕ) → length (trim o (Q j)) ≡ suc (deg o (Q j))
    Q_size j = let e = deg_size K M (Q j) (stated j).state.deg in let e' = κ_is j in omega arith

    pub Q_deg : (j : ℕ) → Deg K (series M (Q j)) (deg o (Q j))
    Q_deg j = subst (Deg K (series M (Q j))) (κ_is j) (stated j).state.deg

    pub follows_at : (j : ℕ) → Follows K (root z) (series M (Q j)) (series M (P j)) (series M (Q (suc j))) (series M (P (suc j)))
    unfolding steps
    follows_at j = next_follows (steps o D d x j) (stated j).state

    abbrev pub sequence : Steps K (root z)
    sequence = record {
      Q = λ j. series M (Q j);
      P = λ j. series M (P j);
      κ = λ j. deg o (Q j);
      size = λ j. length (a_at j);
      deg = Q_deg;
      follows = follows_at;
      division = λ j. record { quo = series M (a_at j); rem = series M (rem o (add o (P j) d) (Q j)); is = divide_at (steps o D d x j) (stated j).state; quo_low = below_length M (a_at j); rem_low = rem_low z (add o (P j) d) (Q j) (deg o (Q j)) (Q_deg j) };
    }

    -- ---- the degrees of a, past the first: it is not 0
    pub a_deg : (j : ℕ) → Deg K (series M (a_at (suc j))) (deg o (a_at (suc j)))
    a_deg j = let t = partial_deg K sequence j in subst (Deg K (series M (a_at (suc j)))) (let e = deg_size K M (a_at (suc j)) t in let e' = deg_is K M (a_at (suc j)) in omega arith) t

    pub a_size : (j : ℕ) → 1 < length (trim o (a_at (suc j)))
    a_size j = let e = deg_size K M (a_at (suc j)) (partial_deg K sequence j) in let h = height_more K sequence j in omega arith

    pub degree_sum_is : (k : ℕ) → degree_sum o D d g x k ≡ sum_of_degrees K sequence k
    unfolding degree_sum sum_of_degrees
    degree_sum_is zero = refl
    degree_sum_is (suc k) = ap₂ ◌+ₙ◌ (degree_sum_is k) (deg_unique K (a_deg k) (partial_deg K sequence k))

    -- ---- the first reduced index
    -- with enough turns left at the index j
    found : (k j : ℕ) → Above K sequence j → deg o (Q 0) < k +ₙ j → (deg o (Q (reduced_from o D d g k x j)) ≤ g) × Above K sequence (reduced_from o D d g k x j)
    unfolding reduced_from
    found zero j h l = absurd (let m = turns_less K sequence j h in omega arith)
    found (suc k) j h l = go (leb (size o (Q j)) (suc g)) refl (λ above. found k (suc j) above (omega arith))
      where
        r : Bool → ℕ
        r b = elim b [ true ↦ j | false ↦ reduced_from o D d g k x (suc j) ]

        go : (b : Bool) → leb (size o (Q j)) (suc g) ≡ b → (Above K sequence (suc j) → (deg o (Q (r false)) ≤ g) × Above K sequence (r false)) → (deg o (Q (r b)) ≤ g) × Above K sequence (r b)
        go true e rest = (let m = leb-true (size o (Q j)) (suc g) e in let n = size_is M (Q j) in let p = Q_size j in omega arith, h)
        go false e rest = rest (above_more K sequence j h (let m = leb-false (size o (Q j)) (suc g) e in let n = size_is M (Q j) in let p = Q_size j in omega arith))

    pub turns_first : (deg o (Q (turns_of o D d g x)) ≤ g) × Above K sequence (turns_of o D d g x)
    unfolding turns_of steps
    turns_first = found (size o x.q) 0 (λ j p. absurd (omega arith)) (let n = size_is M x.q in let p = Q_size 0 in omega arith)

    -- as a loop reads it: the size falls while it is above g + 1, and the first index where it is not is the
    -- definition's
    pub size_falls : (j : ℕ) → suc g < length (trim o (Q j)) → length (trim o (Q (suc j))) < length (trim o (Q j))
    size_falls j h = let a = Q_size j in let b = Q_size (suc j) in let c = degree_falls K sequence j (omega arith) in omega arith

    pub turns_unique : (j : ℕ) → length (trim o (Q j)) ≤ suc g → ((i : ℕ) → i < j → suc g < length (trim o (Q i))) → turns_of o D d g x ≡ j
    turns_unique j small above = ⊎_elim (λ h. ⊎_elim (λ e. omega arith) (λ e. absurd (let a = turns_first.1 j e in let b = Q_size j in omega arith)) (le_or_lt k j)) (λ h. absurd (let a = above k h in let b = Q_size k in let c = turns_first.0 in omega arith)) (le_or_lt j k)
      where
        k : ℕ
        k = turns_of o D d g x

    -- what the degrees of a and of the last Q add up to
    pub degree_sum_most : deg o (Q (turns_of o D d g x)) +ₙ degree_sum o D d g x (turns_of o D d g x) ≤ deg o x.q
    unfolding steps
    degree_sum_most = let h = shift_most K sequence (turns_of o D d g x) turns_first.1 in let e = degree_sum_is (turns_of o D d g x) in omega arith
