-- The proofs of specs/Palindrome.
use Rattle.std.specs.Prelude.{ℕ, zero, suc, ◌+◌ as ◌+ₙ◌, ◌-◌ as ◌-ₙ◌, ◌≡◌, [], ◌∷◌}
use Rattle.std.proofs.Common.{add-zero, arith, sym, ap, ◌∙◌, subst}
use Rattle.math_ring.specs.Ring.{CRing}
use Rattle.math_ring.specs.Identity.{ring_from, times, plus, quote}
use Rattle.math_ring.specs.Series.{Series}
use Rattle.math_algebra.specs.Field.{Field}
use Rattle.math_algebra.specs.Polynomial.{F, Px, low_up}
use Rattle.math_algebra.specs.Associate.{Associate, associate_sym, associate_cofactor}
use Rattle.math_surd.specs.Root.{Root}
use Rattle.math_surd.specs.Walk.{Walk, norm, κ_first}
use Rattle.math_surd.proofs.Walk.{P_one}
use Rattle.math_surd.proofs.Same.{same_κ}
use Rattle.math_surd.specs.Distance.{distance}
use Rattle.math_surd.proofs.Distance.{distance_mono}
use Rattle.math_symmetry.proofs.Period.{Q_constant, P_constant}
use Rattle.math_symmetry.specs.Reflect.{Reflect}
use Rattle.math_symmetry.proofs.Reflect.{reflect_add}
use Rattle.math_symmetry.specs.Palindrome as defs

module _ {A : Type 0} (K : Field A) where
  open Series (F K) use {add as ◌+◌, mul as ◌*◌, neg as -◌, one as 𝟙}

  infixl 6 ◌+◌
  infixl 7 ◌*◌
  infix 8 -◌
  abbrev P[x] : Type 0
  P[x] = Px K

  abbrev R[x] : CRing P[x]
  R[x] = Series (F K)

  module _ {g : ℕ} {D : P[x]} {o : Root K g D} (w : Walk K o) where
    open w use {Q, P, κ, Q_deg, reduced}

    abbrev Symmetric : (m : ℕ) → Type 0
    Symmetric = defs.Symmetric K w

    -- ---- the proof
    -- the two ends, 1 and n, before a constant Q
    reflect_constant : (n : ℕ) → κ (suc n) ≡ 0 → Reflect K w 1 n
    reflect_constant n c = record { P_is = equal; ratio = associate_cofactor K (Q n) (Q 1) (κ 0) (suc (κ n +ₙ κ 1)) (Q_constant K w (suc n) c) (Q_deg 0) (low_up K (Q n) (omega arith) (Q_deg n).low) (low_up K (Q 1) (omega arith) (Q_deg 1).low) product }
      where
        equal : P 1 ≡ P (suc n)
        equal = P_one K w ∙ sym (P_constant K w (suc n) (omega arith) c)

        product : Q (suc n) * Q n ≡ Q 0 * Q 1
        product = ring_from R[x] (Q 0 ∷ Q 1 ∷ Q n ∷ Q (suc n) ∷ P 1 ∷ P (suc n) ∷ D ∷ []) (plus R[x] (times R[x] (- 𝟙) (norm K w (suc n))) (plus R[x] (times R[x] 𝟙 (norm K w 1)) (times R[x] (P 1 + P (suc n)) equal))) (search quote depth 40 fits 9999) tt

    -- Q is constant at m
    module _ (m : ℕ) (constant : κ m ≡ 0) where
      pub reflects : (i j : ℕ) → suc (i +ₙ j) ≡ m → Reflect K w (suc i) j
      reflects i j e = subst (λ (n : ℕ). Reflect K w (suc n) j) (add-zero i) (reflect_add K w i 0 j (reflect_constant (i +ₙ j) (ap κ e ∙ constant)))

      pub P_symmetric : (i j : ℕ) → suc (i +ₙ j) ≡ m → P (suc i) ≡ P (suc j)
      P_symmetric i j e = (reflects i j e).P_is

      pub Q_symmetric : (i j : ℕ) → i +ₙ j ≡ m → Associate K (Q i) (Q j)
      Q_symmetric zero j e = subst (λ (n : ℕ). Associate K (Q 0) (Q n)) (let h : m ≡ j = omega arith in h) (associate_sym K (Q_constant K w m constant))
      Q_symmetric (suc i) j e = (reflects i j (omega arith)).ratio

      -- the distances of i and j make up that of m and deg Q j
      pub distance_symmetric : (i j : ℕ) → i +ₙ j ≡ m → distance K w i +ₙ distance K w j ≡ distance K w m +ₙ κ j
      distance_symmetric i zero e = let n : i ≡ m = omega arith in let h = ap (distance K w) n in omega (arith, κ_first K w)
      distance_symmetric i (suc j) e =
          let h = distance_symmetric (suc i) j (omega arith) in
          let k = same_κ K w i (suc j) (Q_symmetric i (suc j) e) in
          let l = reduced i in
          let n = reduced j in
          omega arith

      pub symmetric : Symmetric m
      symmetric = record {
        P_is = λ j h. P_symmetric j (m -ₙ suc j) (omega arith) ∙ ap P (omega arith);
        Q_is = λ j h. Q_symmetric (suc j) (m -ₙ suc j) (omega arith);
        distance_is = λ i h. let e = distance_symmetric (m -ₙ i) i (omega arith) in let k = distance_mono K w i m h in omega arith;
      }
