-- The proofs of specs/Period.
use Rattle.std.specs.Prelude.{ℕ, zero, suc, ◌+◌ as ◌+ₙ◌, ◌*◌ as ◌*ₙ◌, ◌<◌, ◌≡◌, [], ◌∷◌}
use Rattle.std.proofs.Common.{zero-add, suc-add, add-suc, suc-mul, zero-mul, add-zero, arith, sym, ap, ◌∙◌, subst}
use Rattle.math_ring.specs.Ring.{CRing}
use Rattle.math_ring.specs.Identity.{ring_from, times, quote}
use Rattle.math_ring.specs.Series.{Series}
use Rattle.math_algebra.specs.Field.{Field}
use Rattle.math_algebra.specs.Polynomial.{F, Px, ◌≺◌ as Low, Deg, low_sub, low_none}
use Rattle.math_algebra.specs.Divides.{Divides, divides_one}
use Rattle.math_algebra.specs.Associate.{Associate, associate_sym, associate_trans, associate_one, associate_path, divides_associate}
use Rattle.math_surd.specs.Root.{Root}
use Rattle.math_surd.specs.Walk.{Walk, κ_first, P_low}
use Rattle.math_surd.proofs.Ideal.{same_refl, same_trans}
use Rattle.math_surd.specs.Same.{Same}
use Rattle.math_surd.proofs.Same.{same_κ, same_add, same_next_P}
use Rattle.math_surd.specs.Convergents as convergents
use Rattle.math_surd.specs.Distance.{distance}
use Rattle.math_surd.proofs.Distance.{p_deg}
use Rattle.math_symmetry.specs.Period as defs

module _ {A : Type 0} (K : Field A) where
  open Series (F K) use {add as ◌+◌, neg as -◌, one as 𝟙}

  infixl 6 ◌+◌ ◌-◌
  infix 8 -◌
  infix 4 ◌≺◌
  abbrev P[x] : Type 0
  P[x] = Px K

  abbrev R[x] : CRing P[x]
  R[x] = Series (F K)

  abbrev ◌-◌ : P[x] → P[x] → P[x]
  a - b = a + (- b)

  abbrev ◌≺◌ : P[x] → ℕ → Type 0
  ◌≺◌ = Low K

  module _ {g : ℕ} {D : P[x]} {o : Root K g D} (w : Walk K o) where
    open w use {Q, P, κ, Q_first, Q_deg, near}

    -- p i is the convergent of index i - 2
    abbrev p : ℕ → P[x]
    p = convergents.p K w

    abbrev Repeats : (m : ℕ) → Type 0
    Repeats = defs.Repeats K w

    -- ---- the proof
    -- a constant Q divides every polynomial
    pub constant_divides : (i : ℕ) → κ i ≡ 0 → (f : P[x]) (n : ℕ) → f ≺ n → Divides K (Q i) f
    constant_divides i c f n h = divides_associate K (associate_sym K (associate_one K (subst (Deg K (Q i)) c (Q_deg i)))) (divides_one K f n h)

    -- P is d where Q is constant, from the index 1 on
    pub P_constant : (i : ℕ) → 0 < i → κ i ≡ 0 → P i ≡ o.d
    P_constant zero l c = absurd (omega arith)
    P_constant (suc i) l c = ring_from R[x] (P (suc i) ∷ o.d ∷ []) (times R[x] 𝟙 (low_none K (P (suc i) - o.d) (subst (λ (n : ℕ). P (suc i) - o.d ≺ n) c (near i)))) (search quote depth 40 fits 9999) tt

    -- Q is constant at m
    module _ (m : ℕ) (constant : κ m ≡ 0) where
      pub Q_constant : Associate K (Q m) (Q 0)
      Q_constant = associate_trans K (associate_one K (subst (Deg K (Q m)) constant (Q_deg m))) (associate_path K (sym Q_first))

      pub same_start : Same K w m 0
      same_start = record { ratio = Q_constant; congruent = constant_divides 0 (κ_first K w) (P m - P 0) _ (low_sub K (P m) (P 0) _ (P_low K w m) (P_low K w 0)) }

      -- ---- once round
      pub same_period : (i : ℕ) → Same K w (i +ₙ m) i
      same_period i = rw (add-zero i) at (same_add K w i m 0 same_start)

      pub κ_period : (i : ℕ) → κ (i +ₙ m) ≡ κ i
      κ_period i = same_κ K w (i +ₙ m) i (same_period i).ratio

      pub distance_period : (i : ℕ) → distance K w (i +ₙ m) ≡ distance K w m +ₙ distance K w i
      distance_period zero = rw (zero-add m) (omega arith)
      distance_period (suc i) = let h = distance_period i in let k = κ_period i in rw (suc-add i m) (omega arith)

      -- ---- k times round
      pub same_round : (k i : ℕ) → Same K w (k *ₙ m +ₙ i) i
      same_round zero i = subst (λ (n : ℕ). Same K w n i) (let e : i ≡ 0 *ₙ m +ₙ i = omega (arith, zero-mul m) in e) (same_refl K (Q i) (P i))
      same_round (suc k) i = subst (λ (n : ℕ). Same K w n i) (let e : (k *ₙ m +ₙ i) +ₙ m ≡ suc k *ₙ m +ₙ i = omega (arith, suc-mul k m) in e) (same_trans K (same_period (k *ₙ m +ₙ i)) (same_round k i))

      distance_round : (k i : ℕ) → distance K w (k *ₙ m +ₙ i) ≡ k *ₙ distance K w m +ₙ distance K w i
      distance_round zero i = ap (distance K w) (let e : 0 *ₙ m +ₙ i ≡ i = omega (arith, zero-mul m) in e) ∙ omega (arith, zero-mul (distance K w m))
      distance_round (suc k) i = ap (distance K w) (let e : suc k *ₙ m +ₙ i ≡ (k *ₙ m +ₙ i) +ₙ m = omega (arith, suc-mul k m) in e) ∙ (let h = distance_period (k *ₙ m +ₙ i) in let l = distance_round k i in omega (arith, suc-mul k (distance K w m)))

      pub repeats : Repeats m
      repeats = record {
        ideal = same_round;
        P_is = λ k i. ap P (add-suc (k *ₙ m) i) ∙ same_next_P K w (k *ₙ m +ₙ i) i (same_round k i);
        P_end = λ l. P_constant m l constant;
        distance_is = distance_round;
        p_degree = λ k i. subst (Deg K (p (suc (k *ₙ m +ₙ i)))) (distance_round k i) (p_deg K w (k *ₙ m +ₙ i));
      }
