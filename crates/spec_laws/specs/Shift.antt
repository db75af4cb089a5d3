-- f of the giant step of two ideals of degree at most g: it is −n for an n of at most 2g, so that −2g ≤ f ≤
-- 0; and the reduction takes at most (g + 1)/2 turns.
use Prim.Native.Nat.{ℕ, zero, suc, ◌+◌ as ◌+ₙ◌, ◌-◌ as ◌-ₙ◌, ◌≤◌}
use native.Mathlib.Omega.{arith}
use Rattle.std.specs.Prelude.{◌≡◌, refl, List, ℤ, pos, neg_ℤ, ◌+ℤ◌, ◌-ℤ◌, ◌≤ℤ◌}
use Rattle.std.proofs.Common.{sym, ap, ◌∙◌, subst, le→leb}
use Rattle.std.proofs.Math.IntN.{+ℤ_assoc, +ℤ_comm, +ℤ_idl, +ℤ_invr, neg_ℤ-+ℤ, pos-+ℤ-pos}
use Rattle.math_algebra.specs.Field.{Field}
use Rattle.math_algebra.specs.Polynomial.{F}
use Rattle.math_surd.specs.Step.{State}
use Rattle.math_ideals.specs.Steps.{turns_most}
use Rattle.spec_arithmetic.specs.Field.{Ops}
use Rattle.spec_arithmetic.specs.Polynomials.{deg}
use Rattle.spec_definitions.specs.Walk.{Ideal, steps}
use Rattle.spec_definitions.specs.Products.{Product, product_of, turns_of, degree_sum, shift_of}
use Rattle.spec_bridge.specs.Model.{Model, series}
use Rattle.spec_bridge.specs.Degree.{deg_is}
use Rattle.spec_laws.specs.Surd.{Surd}
use Rattle.spec_laws.specs.Pairs.{IsIdeal, cofactor_at, ideal_state}
use Rattle.spec_laws.specs.Product.{common_of, product_q, product_p, bezout_u, bezout_w, product_is, bezout_gives, product_ideal, common_le, σ, κ, S_size, Q_size}
use Rattle.spec_laws.specs.Reduction.{sequence, turns_first, degree_sum_most}

-- ---- differences of numbers that are not positive
sub_minus : (a b m : ℕ) → a +ₙ m ≡ b → pos a -ℤ pos b ≡ neg_ℤ (pos m)
sub_minus a b m e =
    ap (λ (k : ℤ). pos a +ℤ neg_ℤ k) (sym (pos-+ℤ-pos a m ∙ ap pos e))
    ∙ ap (λ (k : ℤ). pos a +ℤ k) (neg_ℤ-+ℤ (pos a) (pos m))
    ∙ sym (+ℤ_assoc (pos a) (neg_ℤ (pos a)) (neg_ℤ (pos m)))
    ∙ ap (λ (k : ℤ). k +ℤ neg_ℤ (pos m)) (+ℤ_invr (pos a))
    ∙ +ℤ_idl (neg_ℤ (pos m))

-- a − b + c − e for a + c + m = b
pub sum_minus : (a b c e m : ℕ) → (a +ₙ c) +ₙ m ≡ b → pos a -ℤ pos b +ℤ pos c -ℤ pos e ≡ neg_ℤ (pos (m +ₙ e))
sum_minus a b c e m h =
    ap (λ (k : ℤ). k +ℤ pos c -ℤ pos e) (sub_minus a b (c +ₙ m) (omega arith))
    ∙ ap (λ (k : ℤ). k -ℤ pos e) (+ℤ_comm (neg_ℤ (pos (c +ₙ m))) (pos c) ∙ sub_minus c (c +ₙ m) m refl)
    ∙ sym (neg_ℤ-+ℤ (pos m) (pos e))
    ∙ ap neg_ℤ (pos-+ℤ-pos m e)

pub minus_most : (n : ℕ) → neg_ℤ (pos n) ≤ℤ pos 0
minus_most zero = record { le = tt }
minus_most (suc n) = record { le = tt }

pub minus_least : (n b : ℕ) → n ≤ b → neg_ℤ (pos b) ≤ℤ neg_ℤ (pos n)
minus_least zero b h = minus_most b
minus_least (suc n) zero h = absurd (omega arith)
minus_least (suc n) (suc b) h = record { le = le→leb n b (omega arith) }

module _ {A B : Type 0} {o : Ops A} {K : Field B} {M : Model o (F K)} {g : ℕ} {D d : List A} (z : Surd K M g D d) {x y : Ideal A} (hx : IsIdeal K M D x) (hy : IsIdeal K M D y) (lx : hx.κ ≤ g) (ly : hy.κ ≤ g) where
  abbrev r : Product A
  r = record { s = common_of o x y; ideal = record { q = product_q o x y; p = product_p o D x y (bezout_u o x y) (bezout_w o x y) } }

  pub product_of_ideal : IsIdeal K M D r.ideal
  product_of_ideal = product_ideal K M z.inverts D hx hy (bezout_gives K M z.inverts D x y)

  -- the degree of the product's Q, at most 2g less twice that of S
  start_deg : deg o r.ideal.q ≡ κ K M z.inverts D hx hy
  start_deg = let e = Q_size K M z.inverts D hx hy in let e' = deg_is K M r.ideal.q in omega arith

  common_deg : deg o r.s ≡ σ K M z.inverts D hx hy
  common_deg = let e = S_size K M z.inverts D hx hy in let e' = deg_is K M r.s in omega arith

  pub start_most : deg o r.ideal.q +ₙ (deg o r.s +ₙ deg o r.s) ≤ g +ₙ g
  start_most = let l = common_le K M z.inverts D hx hy in let e = start_deg in let e' = common_deg in omega arith

  abbrev st : State K (series M D) (series M r.ideal.q) (series M (cofactor_at o D r.ideal)) (series M r.ideal.p)
  st = ideal_state K M D product_of_ideal

  abbrev k : ℕ
  k = turns_of o D d g r.ideal

  turns_at : k +ₙ k ≤ suc g
  unfolding steps
  turns_at = turns_most K (sequence z r.ideal st) k (turns_first z r.ideal st).1 (let h = start_most in omega arith)

  shift_at : (n : ℕ) × (n ≤ g +ₙ g) × (shift_of o D d g r ≡ neg_ℤ (pos n))
  unfolding steps shift_of
  shift_at = (m +ₙ deg o r.s, let h = start_most in omega arith, sum_minus (deg o (steps o D d r.ideal k).q) (deg o r.ideal.q) (degree_sum o D d g r.ideal k) (deg o r.s) m (let h = degree_sum_most z r.ideal st in omega arith))
    where
      m : ℕ
      m = deg o r.ideal.q -ₙ (deg o (steps o D d r.ideal k).q +ₙ degree_sum o D d g r.ideal k)

  -- ---- of the definitions' product
  pub turns_few : turns_of o D d g (product_of o D x y).ideal +ₙ turns_of o D d g (product_of o D x y).ideal ≤ suc g
  turns_few = subst (λ (p : Product A). turns_of o D d g p.ideal +ₙ turns_of o D d g p.ideal ≤ suc g) (sym (product_is K M z.inverts D x y)) turns_at

  pub shift_is : (n : ℕ) × (n ≤ g +ₙ g) × (shift_of o D d g (product_of o D x y) ≡ neg_ℤ (pos n))
  shift_is = subst (λ (p : Product A). (n : ℕ) × (n ≤ g +ₙ g) × (shift_of o D d g p ≡ neg_ℤ (pos n))) (sym (product_is K M z.inverts D x y)) shift_at

  pub shift_not_positive : shift_of o D d g (product_of o D x y) ≤ℤ pos 0
  shift_not_positive = subst (λ (f : ℤ). f ≤ℤ pos 0) (sym shift_is.2) (minus_most shift_is.0)

  pub shift_least : neg_ℤ (pos (g +ₙ g)) ≤ℤ shift_of o D d g (product_of o D x y)
  shift_least = subst (λ (f : ℤ). neg_ℤ (pos (g +ₙ g)) ≤ℤ f) (sym shift_is.2) (minus_least shift_is.0 (g +ₙ g) shift_is.1)
