-- The proofs of specs/Distinct.
use Rattle.std.specs.Prelude.{ℕ, zero, suc, ◌+◌ as ◌+ₙ◌, ◌*◌ as ◌*ₙ◌, ◌-◌ as ◌-ₙ◌, ◌≤◌, ◌<◌, ◌≡◌}
use Rattle.std.proofs.Common.{zero-add, suc-add, add-zero, suc-mul, zero-mul, arith, sym, ap, ◌∙◌, subst, ⊎_elim}
use Rattle.math_ring.specs.Order.{le_or_lt}
use Rattle.math_algebra.specs.Field.{Field}
use Rattle.math_algebra.specs.Polynomial.{Px}
use Rattle.math_surd.specs.Root.{Root}
use Rattle.math_surd.specs.Walk.{Walk, κ_first}
use Rattle.math_surd.proofs.Ideal.{same_sym}
use Rattle.math_surd.specs.Same.{Same}
use Rattle.math_surd.proofs.Same.{same_κ, same_prior}
use Rattle.math_surd.specs.QuasiPeriod.{QuasiPeriod, NoneConstant}
use Rattle.math_symmetry.proofs.Period.{κ_period, same_round}
use Rattle.math_symmetry.specs.Distinct as defs

module _ {A : Type 0} (K : Field A) {g : ℕ} {D : Px K} {o : Root K g D} (w : Walk K o) where
  open w use {κ}

  abbrev Apart : ℕ → ℕ → ℕ → Type 0
  Apart = defs.Apart K w

  abbrev Distinct : (m : ℕ) → Type 0
  Distinct = defs.Distinct K w

  -- ---- the proof
  same_back : (i k : ℕ) → Same K w (i +ₙ k) i → Same K w k 0
  same_back zero k s = rw (zero-add k) at s
  same_back (suc i) k s = same_back i k (same_prior K w (i +ₙ k) i (rw (suc-add i k) at s))

  -- where two states have the same ideal, Q is constant at the difference of their indices
  pub same_constant : (i j : ℕ) → j ≤ i → Same K w i j → κ (i -ₙ j) ≡ 0
  same_constant i j l s = same_κ K w (i -ₙ j) 0 (same_back j (i -ₙ j) (subst (λ (n : ℕ). Same K w n j) (let e : i ≡ j +ₙ (i -ₙ j) = omega arith in e) s)).ratio ∙ κ_first K w

  -- where no Q up to k is constant, no ideal up to k comes twice
  pub none_twice : (k : ℕ) → NoneConstant K w k → (i j : ℕ) → i ≤ k → j ≤ k → Same K w i j → i ≡ j
  none_twice k none i j l l' s = ⊎_elim (λ h. ⊎_elim (λ h'. omega arith) (λ h'. absurd (none (j -ₙ i) (omega arith) (omega arith) (same_constant j i (omega arith) (same_sym K s)))) (le_or_lt j i)) (λ h. absurd (none (i -ₙ j) (omega arith) (omega arith) (same_constant i j (omega arith) s))) (le_or_lt i j)

  module _ (m : ℕ) (first : QuasiPeriod K w m) where
    -- by recursion on a bound n of i
    multiple : (n i : ℕ) → i < n → κ i ≡ 0 → (k : ℕ) × (i ≡ k *ₙ m)
    multiple zero i l c = absurd (omega arith)
    multiple (suc n) zero l c = (0, sym (zero-mul m))
    multiple (suc n) (suc i) l c =
        ⊎_elim
        (λ h. once_more h (multiple n (suc i -ₙ m) (let p = first.positive in omega arith) (sym (κ_period K w m first.constant (suc i -ₙ m)) ∙ (let e : (suc i -ₙ m) +ₙ m ≡ suc i = omega arith in ap κ e) ∙ c)))
        (λ h. absurd (first.least (suc i) (omega arith) h c))
        (le_or_lt m (suc i))
      where
        once_more : m ≤ suc i → (k : ℕ) × (suc i -ₙ m ≡ k *ₙ m) → (k : ℕ) × (suc i ≡ k *ₙ m)
        once_more h r = (suc r.0, let e = r.1 in let f = suc-mul r.0 m in omega arith)

    apart_round : (i j : ℕ) → Apart m i j → Same K w i j
    apart_round i j r = subst (λ (n : ℕ). Same K w n j) (sym r.1) (same_round K w m first.constant r.0 j)

    pub distinct : Distinct m
    distinct = record {
      same_apart = λ i j l s. let r = multiple (suc (i -ₙ j)) (i -ₙ j) (omega arith) (same_constant i j l s) in (r.0, let e = r.1 in omega arith);
      apart_same = apart_round;
      constant_apart = λ i c. let r = multiple (suc i) i (omega arith) c in (r.0, r.1 ∙ sym (add-zero (r.0 *ₙ m)));
      apart_constant = λ i r. same_κ K w i 0 (apart_round i 0 r).ratio ∙ κ_first K w;
      one_each = λ i j l l'. none_twice (m -ₙ 1) (λ k p q. first.least k p (let r = first.positive in omega arith)) i j (omega arith) (omega arith);
    }
