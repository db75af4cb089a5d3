-- Where b is a constant other than 0, the remainder is 0 and the next turn the last: the greatest common
-- divisor is 1, its factors 0 and 1/b.
use Prim.Native.Nat.{zero, suc}
use Rattle.std.proofs.Common.{arith, ◌∙◌}
use Rattle.std.specs.Prelude.{◌≡◌, List, [], ◌∷◌, length}
use Rattle.std.proofs.Math.Path.{ap}
use Rattle.math_ring.specs.Ring.{CRing}
use Rattle.math_ring.specs.Identity.{ring, quote}
use Rattle.math_ring.specs.Series.{Series, add_s, conv, neg_s}
use Rattle.spec_arithmetic.specs.Field.{Ops}
use Rattle.spec_arithmetic.specs.Polynomials.{Bezout, trim, lead, monic, sub, mul, quo, rem, gcd, bezout}
use Rattle.spec_bridge.specs.Model.{Model, Inverts, Oks, series, series_nil}
use Rattle.spec_bridge.specs.Trim.{trim_nil, trim_idem, oks_trim, series_ext}
use Rattle.spec_bridge.specs.Arithmetic.{trim_sub, oks_sub, series_sub, series_mul}
use Rattle.spec_bridge.specs.Division.{trim_rem, rem_less}
use Rattle.spec_bridge.specs.Gcd.{bezout_next, bezout_last, bezout_zero, bezout_rule, gcd_zero, gcd_rule}

module _ {A B : Type 0} {o : Ops A} {R : CRing B} (M : Model o R) (I : Inverts M) where
  -- nothing is taken away
  sub_nothing : (w x : List A) → trim o x ≡ x → Oks M x → sub o x (mul o w []) ≡ x
  sub_nothing w x t k =
      series_ext M _ _ (trim_sub M x (mul o w [])) t (oks_sub M x (mul o w [])) k
      (series_sub M x (mul o w []) ∙ ap (λ f. add_s R (series M x) (neg_s R f)) (series_mul M w [] ∙ ap (conv R (series M w)) (series_nil M))
      ∙ ring (Series R) (series M x ∷ series M w ∷ []) (search quote depth 40 fits 9999) tt)

  module _ (a b : List A) (one : length (trim o b) ≡ 1) where
    rem_none : trim o (rem o a b) ≡ []
    rem_none = trim_nil M (rem o a b) (let l = rem_less M I a b (omega arith) in let e = ap length (trim_rem M a b) in omega arith)

    whole : bezout o a b ≡ bezout_next o (quo o a b) (bezout_last o b)
    whole = bezout_rule M I a b (omega arith) ∙ ap (bezout_next o (quo o a b)) (bezout_zero M I b (rem o a b) rem_none)

    pub constant_gcd : gcd o a b ≡ monic o b
    constant_gcd = gcd_rule M I a b (omega arith) ∙ gcd_zero M I b (rem o a b) rem_none

    pub constant_factor_gcd : (bezout o a b).gcd ≡ monic o b
    unfolding bezout_next bezout_last
    constant_factor_gcd = ap (λ (r : Bezout A). r.gcd) whole

    pub constant_u : (bezout o a b).u ≡ []
    unfolding bezout_next bezout_last
    constant_u = ap (λ (r : Bezout A). r.u) whole

    pub constant_v : (bezout o a b).v ≡ trim o (o.inv (lead o b) ∷ [])
    unfolding bezout_next bezout_last
    constant_v = ap (λ (r : Bezout A). r.v) whole ∙ sub_nothing (quo o a b) (trim o (o.inv (lead o b) ∷ [])) (trim_idem M (o.inv (lead o b) ∷ [])) (oks_trim M (o.inv (lead o b) ∷ []) ok_inverse)
      where
        ok_inverse : Oks M (o.inv (lead o b) ∷ [])
        ok_inverse zero = I.ok_inv (lead o b)
        ok_inverse (suc i) = M.ok_zer
