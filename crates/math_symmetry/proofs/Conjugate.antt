-- The proofs of specs/Conjugate.
use Rattle.std.specs.Prelude.{ℕ, zero, suc, ◌+◌ as ◌+ₙ◌, ◌-◌ as ◌-ₙ◌, ◌≤◌, ◌≡◌, [], ◌∷◌}
use Rattle.std.proofs.Common.{arith, sym, ap, ◌∙◌}
use Rattle.math_ring.specs.Ring.{CRing}
use Rattle.math_ring.specs.Identity.{ring_from, times, quote}
use Rattle.math_ring.specs.Series.{Series}
use Rattle.math_algebra.specs.Field.{Field}
use Rattle.math_algebra.specs.Polynomial.{F, Px, low_neg, low_sub}
use Rattle.math_algebra.specs.Divides.{Divides, divides_path}
use Rattle.math_algebra.specs.Associate.{associate_refl}
use Rattle.math_surd.specs.Root.{Root}
use Rattle.math_surd.specs.Walk.{Walk, κ_first, P_low}
use Rattle.math_surd.proofs.Same.{divides_sum}
use Rattle.math_surd.specs.Distance.{distance}
use Rattle.math_surd.proofs.Distance.{distance_rise, distance_injective}
use Rattle.math_symmetry.proofs.Period.{constant_divides, same_start}
use Rattle.math_symmetry.proofs.Palindrome.{P_symmetric, Q_symmetric, symmetric}
use Rattle.math_symmetry.specs.Conjugate as defs

module _ {A : Type 0} (K : Field A) where
  open Series (F K) use {add as ◌+◌, neg as -◌, one as 𝟙}

  infixl 6 ◌+◌ ◌-◌
  infix 8 -◌
  abbrev P[x] : Type 0
  P[x] = Px K

  abbrev R[x] : CRing P[x]
  R[x] = Series (F K)

  abbrev ◌-◌ : P[x] → P[x] → P[x]
  a - b = a + (- b)

  module _ {g : ℕ} {D : P[x]} {o : Root K g D} (w : Walk K o) where
    open w use {Q, P, κ}

    abbrev Conjugate : ℕ → ℕ → Type 0
    Conjugate = defs.Conjugate K w

    abbrev conjugate_distance : ℕ → ℕ → ℕ
    conjugate_distance = defs.conjugate_distance K w

    abbrev Conjugates : (m : ℕ) → Type 0
    Conjugates = defs.Conjugates K w

    -- ---- the proof
    -- Q is constant at m
    module _ (m : ℕ) (constant : κ m ≡ 0) where
      congruent : (i j : ℕ) → i +ₙ j ≡ m → Divides K (Q j) (P i - (- P j))
      congruent zero j e = constant_divides K w j (let n : j ≡ m = omega arith in ap κ n ∙ constant) (P 0 - (- P j)) _ (low_sub K (P 0) (- P j) _ (P_low K w 0) (low_neg K (P j) _ (P_low K w j)))
      congruent (suc i) j e = divides_path K same (divides_sum K w j)
        where
          same : P j + P (suc j) ≡ P (suc i) - (- P j)
          same = ring_from R[x] (P j ∷ P (suc j) ∷ P (suc i) ∷ []) (times R[x] (- 𝟙) (P_symmetric K w m constant i j (omega arith))) (search quote depth 40 fits 9999) tt

      pub conjugate_of : (i j : ℕ) → i +ₙ j ≡ m → Conjugate i j
      conjugate_of i j e = record { ratio = Q_symmetric K w m constant i j e; congruent = congruent i j e }

      at_end : (j : ℕ) → j ≤ m → distance K w (m -ₙ j) ≡ conjugate_distance m j
      at_end = (symmetric K w m constant).distance_is

      pub conjugates : Conjugates m
      conjugates = record {
        conjugate = λ j h. conjugate_of (m -ₙ j) j (omega arith);
        distance_is = at_end;
        only = λ i j h e. distance_injective K w i (m -ₙ j) (e ∙ sym (at_end j h));
        first_distance = omega (arith, κ_first K w);
        later_distance = λ j l h. let r = distance_rise K w (m -ₙ j) m (omega arith) in let e = at_end j h in omega arith;
        round = same_start K w m constant;
        first = record { ratio = associate_refl K (Q 0); congruent = constant_divides K w 0 (κ_first K w) (P 0 - (- P 0)) _ (low_sub K (P 0) (- P 0) _ (P_low K w 0) (low_neg K (P 0) _ (P_low K w 0))) };
      }
