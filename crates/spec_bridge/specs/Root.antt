-- `root D N` is the root d of a monic D of degree 2N: each turn makes one more coefficient of D − d² vanish.
-- It is trimmed, with N + 1 coefficients that stand for themselves.
use Prim.Native.Nat.{ℕ, zero, suc, ◌+◌ as ◌+ₙ◌, ◌≤◌}
use Rattle.std.proofs.Common.{le_of_suc-le-suc, arith, sym, ◌∙◌}
use Rattle.std.specs.Prelude.{◌≡◌, List, [], ◌∷◌}
use Rattle.std.proofs.Math.Path.{refl, ap}
use Rattle.math_ring.specs.Identity.{ring_from, times, quote}
use Rattle.math_ring.specs.Series.{Series}
use Rattle.math_algebra.specs.Field.{Field}
use Rattle.math_algebra.specs.Polynomial.{F, Px, ◌≺◌, Monic, low_up, low_path, monic_mul, monic_sub, monic_dominant, monic_path}
use Rattle.math_algebra.specs.Root.{IsRoot, root_step}
use Rattle.spec_arithmetic.specs.Field.{Ops}
use Rattle.spec_arithmetic.specs.Polynomials.{at, cons, trim, add, sub, mul, monomial, root_in, root}
use Rattle.spec_bridge.specs.Model.{Model, Inverts, Oks, series}
use Rattle.spec_bridge.specs.Trim.{Trim}
use Rattle.spec_bridge.specs.One.{trim_one, oks_one}
use Rattle.spec_bridge.specs.Arithmetic.{oks_add, trim_add, series_add, series_sub, series_mul}

module _ {A B : Type 0} {o : Ops A} (K : Field B) (M : Model o K.scalars) (I : Inverts M) where
  open Series (F K) use {add as ◌+◌, mul as ◌*◌, neg as -◌}

  infixl 6 ◌+◌ ◌-◌
  infixl 7 ◌*◌
  infix 8 -◌
  abbrev ◌-◌ : Px K → Px K → Px K
  a - b = a + (- b)

  -- ---- c·x^e
  pub monomial_low : (c : A) (e : ℕ) → ◌≺◌ K (series M (monomial o c e)) (suc e)
  unfolding monomial
  monomial_low c zero zero h = absurd (omega arith)
  monomial_low c zero (suc i) h = M.φ_zer
  monomial_low c (suc e) zero h = absurd (omega arith)
  monomial_low c (suc e) (suc i) h = monomial_low c e i (le_of_suc-le-suc h)

  pub monomial_top : (c : A) (e : ℕ) → series M (monomial o c e) e ≡ M.φ c
  unfolding monomial
  monomial_top c zero = refl
  monomial_top c (suc e) = monomial_top c e

  oks_power : (e : ℕ) → Oks M (monomial o o.one e)
  unfolding monomial
  oks_power zero i = oks_one K M i
  oks_power (suc e) zero = M.ok_zer
  oks_power (suc e) (suc i) = oks_power e i

  cons_monomial : (a c : A) (e : ℕ) → cons o a (monomial o c e) ≡ a ∷ monomial o c e
  unfolding monomial
  cons_monomial a c zero = refl
  cons_monomial a c (suc e) = refl

  trim_power : (e : ℕ) → Trim M (monomial o o.one e)
  unfolding monomial trim
  trim_power zero = trim_one K M
  trim_power (suc e) = ap (cons o o.zer) (trim_power e) ∙ cons_monomial o.zer o.one e

  -- ---- half of c
  half : A
  half = o.inv (o.add o.one o.one)

  half_twice : (c : A) → (F K).add (M.φ (o.mul c half)) (M.φ (o.mul c half)) ≡ M.φ c
  unfolding half
  half_twice c = ap (λ x. (F K).add x x) (M.φ_mul c _) ∙ ring_from (F K) (M.φ c ∷ M.φ (o.inv (o.add o.one o.one)) ∷ []) (times (F K) (M.φ c) (ap ((F K).mul (M.φ (o.inv (o.add o.one o.one)))) (sym two_is) ∙ I.inv_mul (o.add o.one o.one) (λ e. K.two_not_zero (sym two_is ∙ e)))) (search quote depth 40 fits 9999) tt
    where
      two_is : M.φ (o.add o.one o.one) ≡ (F K).add (F K).one (F K).one
      two_is = M.φ_add _ _ ∙ ap (λ x. (F K).add x x) M.φ_one

  -- ---- what holds of d at each turn
  record Part (D : Px K) (n e : ℕ) (d : Px K) : Type 0 where
    monic : Monic K d n
    near : ◌≺◌ K (D - d * d) (e +ₙ n)

  part : (D : List A) (n e : ℕ) (d : List A) → e ≤ n → Part (series M D) n e (series M d) → Part (series M D) n 0 (series M (root_in o D n e d))
  unfolding root_in half
  part D n zero d h t = t
  part D n (suc e) d h t = part D n e _ (omega arith) next
    where
      c : A
      c = at o (sub o D (mul o d d)) (e +ₙ n)

      m : List A
      m = monomial o (o.mul c half) e

      gap : series M (sub o D (mul o d d)) ≡ series M D - series M d * series M d
      gap = series_sub M D (mul o d d) ∙ ap (λ f. series M D - f) (series_mul M d d)

      twice : (F K).add (series M m e) (series M m e) ≡ (series M D - series M d * series M d) (e +ₙ n)
      twice = ap (λ x. (F K).add x x) (monomial_top (o.mul c half) e) ∙ half_twice c ∙ ap (λ (f : Px K). f (e +ₙ n)) gap

      next : Part (series M D) n e (series M (add o d m))
      next = record {
        monic = monic_path K n (sym (series_add M d m)) (monic_dominant K (series M d) (series M m) n t.monic (low_up K (series M m) (omega arith) (monomial_low (o.mul c half) e)));
        near = low_path K (e +ₙ n) (ap (λ f. series M D - f * f) (sym (series_add M d m))) (root_step K (series M D) (series M d) (series M m) e n t.monic.low t.monic.top (monomial_low (o.mul c half) e) h twice (low_up K (series M D - series M d * series M d) (omega arith) t.near));
      }

  pub root_is : (D : List A) (n : ℕ) → Monic K (series M D) (n +ₙ n) → IsRoot K (series M D) (series M (root o D n)) n
  unfolding root
  root_is D n lead = record { monic = last.monic; low = low_up K _ (omega arith) last.near }
    where
      x^n : Px K
      x^n = series M (monomial o o.one n)

      first : Monic K x^n n
      first = record { low = monomial_low o.one n; top = monomial_top o.one n ∙ M.φ_one }

      last : Part (series M D) n 0 (series M (root_in o D n n (monomial o o.one n)))
      last = part D n n (monomial o o.one n) (omega arith) (record { monic = first; near = monic_sub K (series M D) (x^n * x^n) (n +ₙ n) lead (monic_mul K x^n x^n n n first first) })

  -- ---- its form
  trim_turns : (D : List A) (n e : ℕ) (d : List A) → Trim M d → Trim M (root_in o D n e d)
  unfolding root_in
  trim_turns D n zero d t = t
  trim_turns D n (suc e) d t = trim_turns D n e _ (trim_add M d _)

  pub trim_root : (D : List A) (n : ℕ) → Trim M (root o D n)
  unfolding root
  trim_root D n = trim_turns D n n (monomial o o.one n) (trim_power n)

  oks_turns : (D : List A) (n e : ℕ) (d : List A) → Oks M d → Oks M (root_in o D n e d)
  unfolding root_in
  oks_turns D n zero d t = t
  oks_turns D n (suc e) d t = oks_turns D n e _ (oks_add M d _)

  pub oks_root : (D : List A) (n : ℕ) → Oks M (root o D n)
  unfolding root
  oks_root D n = oks_turns D n n (monomial o o.one n) (oks_power n)
