-- The proofs of specs/GiantSteps.
use Prim.Native.Nat.{ℕ, ◌+◌ as ◌+ₙ◌, ◌-◌ as ◌-ₙ◌, ◌≤◌}
use Rattle.std.proofs.Common.{arith, sym, ◌∙◌}
use Rattle.std.specs.Prelude.{◌≡◌, List, ℤ, pos, ◌+ℤ◌}
use Rattle.std.proofs.Math.Path.{refl, ap}
use Rattle.std.proofs.Math.IntN.{neg_ℤ, +ℤ-neg_ℤ_cancel, pos-+ℤ-pos}
use Rattle.std.proofs.Math.ListN.{length}
use Rattle.math_algebra.specs.Field.{Field}
use Rattle.math_algebra.specs.Polynomial.{F}
use Rattle.math_surd.specs.Step.{State}
use Rattle.math_ideals.specs.Steps.{sum_of_degrees}
use Rattle.math_giants.specs.GiantStep.{GiantStep, giant_Q, giant_P, drop}
use Rattle.spec_arithmetic.specs.Field.{Ops}
use Rattle.spec_arithmetic.specs.Polynomials.{deg}
use Rattle.spec_definitions.specs.Walk.{Ideal, steps}
use Rattle.spec_definitions.specs.Products.{Product, degree_sum, shift_of}
use Rattle.spec_bridge.specs.Model.{Model, series}
use Rattle.spec_bridge.specs.Trim.{below_length}
use Rattle.spec_bridge.specs.Degree.{deg_is}
use Rattle.spec_laws.specs.Surd.{Surd}
use Rattle.spec_laws.specs.Fraction.{root}
use Rattle.spec_laws.specs.Pairs.{IsIdeal, cofactor_at}
use Rattle.spec_laws.specs.Product.{common_of, bezout_gives, common, Q_series, P_meets, S_size}
use Rattle.spec_laws.specs.Reduction.{sequence, turns_first, degree_sum_is, degree_sum_most}
use Rattle.spec_laws.specs.Shift.{sum_minus}
use Rattle.spec_giants.specs.GiantSteps as defs

-- a + n less n
pub plus_minus : (a n b : ℕ) → a +ₙ n ≡ b → pos b +ℤ neg_ℤ (pos n) ≡ pos a
plus_minus a n b e = ap (λ (k : ℤ). k +ℤ neg_ℤ (pos n)) (sym (pos-+ℤ-pos a n ∙ ap pos e)) ∙ +ℤ-neg_ℤ_cancel (pos a) (pos n)

module _ {A B : Type 0} {o : Ops A} {K : Field B} {M : Model o (F K)} {g : ℕ} {D d : List A} (z : Surd K M g D d) {x y : Ideal A} (hx : IsIdeal K M D x) (hy : IsIdeal K M D y) where
  abbrev listed : Product A
  listed = defs.listed z hx hy

  abbrev start : State K (series M D) (series M listed.ideal.q) (series M (cofactor_at o D listed.ideal)) (series M listed.ideal.p)
  start = defs.start z hx hy

  abbrev turns : ℕ
  turns = defs.turns z hx hy

  abbrev ended : Ideal A
  ended = defs.ended z hx hy

  pub giant : GiantStep K (root z) (series M x.q) (series M x.p) (series M y.q) (series M y.p)
  unfolding steps
  giant = record {
    S = series M (common_of o x y);
    common = common K M z.inverts D hx hy;
    steps = sequence z listed.ideal start;
    start = Q_series K M z.inverts D hx hy;
    meets = P_meets K M z.inverts D hx hy (bezout_gives K M z.inverts D x y);
    start_finite = record { size = length listed.ideal.p; low = below_length M listed.ideal.p };
    turns = turns;
    reduced = (turns_first z listed.ideal start).0;
    above = (turns_first z listed.ideal start).1;
  }

  -- ---- where it ends, and f
  pub end_Q : giant_Q K giant ≡ series M ended.q
  unfolding giant
  end_Q = refl

  pub end_P : giant_P K giant ≡ series M ended.p
  unfolding giant
  end_P = refl

  pub drop_is : shift_of o D d g listed ≡ neg_ℤ (pos (drop K giant))
  unfolding giant shift_of steps
  drop_is = sum_minus (deg o ended.q) (deg o listed.ideal.q) (degree_sum o D d g listed.ideal turns) (deg o listed.s) m (omega (arith, most)) ∙ ap (λ (n : ℕ). neg_ℤ (pos n)) whole
    where
      m : ℕ
      m = deg o listed.ideal.q -ₙ (deg o ended.q +ₙ degree_sum o D d g listed.ideal turns)

      most : deg o ended.q +ₙ degree_sum o D d g listed.ideal turns ≤ deg o listed.ideal.q
      most = degree_sum_most z listed.ideal start

      whole : m +ₙ deg o listed.s ≡ (deg o listed.ideal.q +ₙ (common K M z.inverts D hx hy).σ) -ₙ (deg o ended.q +ₙ sum_of_degrees K (sequence z listed.ideal start) turns)
      whole = let a = degree_sum_is z listed.ideal start turns in let b = S_size K M z.inverts D hx hy in let c = deg_is K M listed.s in let e = most in omega arith
