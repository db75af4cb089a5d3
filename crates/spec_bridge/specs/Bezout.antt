-- Bezout's identity for the factors of `bezout`; greatest common divisor and factors are trimmed, their
-- coefficients stand for themselves, and the divisor is no longer than both.
use Prim.Native.Nat.{ℕ, zero, suc, ◌+◌, ◌≤◌, ◌<◌}
use Rattle.std.proofs.Common.{arith, sym, ◌∙◌, subst}
use Rattle.std.specs.Prelude.{◌≡◌}
use Rattle.std.proofs.Math.Path.{refl, ap, ap₂, fun_ext}
use mathlib.Core.List.{List, [], ◌∷◌}
use Rattle.std.proofs.Math.ListN.{length}
use Rattle.math_ring.specs.Ring.{CRing}
use Rattle.math_ring.specs.Identity.{ring, ring_from, times, plus, quote}
use Rattle.math_ring.specs.Series.{Series, add_s, conv, neg_s, con}
use Rattle.spec_arithmetic.specs.Field.{Ops}
use Rattle.spec_arithmetic.specs.Polynomials.{Bezout, trim, sub, mul, lead, quo, rem, gcd, bezout_in, bezout}
use Rattle.spec_bridge.specs.Model.{Model, Inverts, Oks, series, series_nil}
use Rattle.spec_bridge.specs.Trim.{Trim, trim_idem, length_trim, series_trim, oks_trim}
use Rattle.spec_bridge.specs.Arithmetic.{series_sub, series_mul, trim_sub, oks_sub, oks_nil}
use Rattle.spec_bridge.specs.Division.{trim_rem, rem_less, series_quo_rem}
use Rattle.spec_bridge.specs.Monic.{trim_monic, oks_monic, series_monic, length_monic}
use Rattle.spec_bridge.specs.Gcd.{bezout_gcd}

module _ {A B : Type 0} {o : Ops A} {R : CRing B} (M : Model o R) (I : Inverts M) where
  open M use {φ, φ_zer, φ_one, ok_zer}

  pub series_constant : (c : A) → series M (c ∷ []) ≡ con R (φ c)
  unfolding con
  series_constant c = fun_ext here
    where
      here : (n : ℕ) → series M (c ∷ []) n ≡ con R (φ c) n
      here zero = refl
      here (suc n) = φ_zer

  -- ---- gcd = u·a + v·b, after any number of turns
  abbrev Identity : List A → List A → Bezout A → Type 0
  Identity a b r = series M r.gcd ≡ add_s R (conv R (series M r.u) (series M a)) (conv R (series M r.v) (series M b))

  in_identity : (k : ℕ) (a b : List A) → Identity a b (bezout_in o k a b)
  unfolding bezout_in
  in_identity zero a b = ring (Series R) (series M a ∷ series M b ∷ []) (search quote depth 40 fits 9999) tt ∙ ap₂ (λ f g. add_s R (conv R f (series M a)) (conv R g (series M b))) (sym (series_constant o.one ∙ ap (con R) φ_one)) (sym (series_nil M))
  in_identity (suc k) a [] = series_monic M I a ∙ ring (Series R) (con R (φ (o.inv (lead o a))) ∷ series M a ∷ series M [] ∷ []) (search quote depth 40 fits 9999) tt ∙ ap₂ (λ f g. add_s R (conv R f (series M a)) (conv R g (series M []))) (sym (series_trim M (o.inv (lead o a) ∷ []) ∙ series_constant (o.inv (lead o a)))) (sym (series_nil M))
  in_identity (suc k) a (b ∷ l) = step (bezout_in o k (b ∷ l) (rem o a (b ∷ l))) (in_identity k (b ∷ l) (rem o a (b ∷ l)))
    where
      step : (r : Bezout A) → Identity (b ∷ l) (rem o a (b ∷ l)) r → Identity a (b ∷ l) (record { gcd = r.gcd; u = r.v; v = sub o r.u (mul o (quo o a (b ∷ l)) r.v) })
      step r h =
          ring_from (Series R) (series M r.gcd ∷ series M r.u ∷ series M r.v ∷ series M a ∷ series M (b ∷ l) ∷ series M (quo o a (b ∷ l)) ∷ series M (rem o a (b ∷ l)) ∷ [])
          (plus (Series R) (times (Series R) (con R R.one) h) (times (Series R) (neg_s R (series M r.v)) (series_quo_rem M a (b ∷ l))))
          (search quote depth 40 fits 9999) tt
          ∙ ap (λ f. add_s R (conv R (series M r.v) (series M a)) (conv R f (series M (b ∷ l)))) (sym (series_sub M r.u (mul o (quo o a (b ∷ l)) r.v) ∙ ap (λ f. add_s R (series M r.u) (neg_s R f)) (series_mul M (quo o a (b ∷ l)) r.v)))

  pub bezout_identity : (a b : List A) → series M (gcd o a b) ≡ add_s R (conv R (series M (bezout o a b).u) (series M a)) (conv R (series M (bezout o a b).v) (series M b))
  unfolding bezout
  bezout_identity a b =
      ap (series M) (sym (bezout_gcd M I a b)) ∙ in_identity (suc (length b)) a (trim o b)
      ∙ ap (λ f. add_s R (conv R (series M (bezout o a b).u) (series M a)) (conv R (series M (bezout o a b).v) f)) (series_trim M b)

  -- ---- the form of the results, once the turns are enough
  record Form (n : ℕ) (r : Bezout A) : Type 0 where
    gcd_trim : Trim M r.gcd
    gcd_oks : Oks M r.gcd
    gcd_short : length r.gcd ≤ n
    u_trim : Trim M r.u
    u_oks : Oks M r.u
    v_trim : Trim M r.v
    v_oks : Oks M r.v

  in_form : (k n : ℕ) (a b : List A) → Trim M b → length b < k → length (trim o a) ≤ n → length b ≤ n → Form n (bezout_in o k a b)
  unfolding bezout_in trim
  in_form zero n a b t h p q = absurd (omega arith)
  in_form (suc k) n a [] t h p q = record {
    gcd_trim = trim_monic M I a;
    gcd_oks = oks_monic M I a;
    gcd_short = let w = length_monic M I a in omega arith;
    u_trim = trim_idem M (o.inv (lead o a) ∷ []);
    u_oks = oks_trim M (o.inv (lead o a) ∷ []) ok_constant;
    v_trim = refl;
    v_oks = oks_nil M;
  }
    where
      ok_constant : Oks M (o.inv (lead o a) ∷ [])
      ok_constant zero = I.ok_inv (lead o a)
      ok_constant (suc i) = ok_zer
  in_form (suc k) n a (b ∷ l) t h p q =
      let size : length (trim o (b ∷ l)) ≡ length (b ∷ l) = ap length t in
      let less : length (rem o a (b ∷ l)) < length (trim o (b ∷ l)) = rem_less M I a (b ∷ l) (omega arith) in
      step (bezout_in o k (b ∷ l) (rem o a (b ∷ l))) (in_form k n (b ∷ l) (rem o a (b ∷ l)) (trim_rem M a (b ∷ l)) (omega arith) (omega arith) (omega arith))
    where
      step : (r : Bezout A) → Form n r → Form n (record { gcd = r.gcd; u = r.v; v = sub o r.u (mul o (quo o a (b ∷ l)) r.v) })
      step r f = record {
        gcd_trim = f.gcd_trim;
        gcd_oks = f.gcd_oks;
        gcd_short = f.gcd_short;
        u_trim = f.v_trim;
        u_oks = f.v_oks;
        v_trim = trim_sub M r.u (mul o (quo o a (b ∷ l)) r.v);
        v_oks = oks_sub M r.u (mul o (quo o a (b ∷ l)) r.v);
      }

  form : (a b : List A) (n : ℕ) → length (trim o a) ≤ n → length (trim o b) ≤ n → Form n (bezout o a b)
  unfolding bezout
  form a b n h k = let w = length_trim M b in in_form (suc (length b)) n a (trim o b) (trim_idem M b) (omega arith) h k

  any_form : (a b : List A) → Form (length (trim o a) + length (trim o b)) (bezout o a b)
  any_form a b = form a b _ (omega arith) (omega arith)

  pub trim_gcd : (a b : List A) → Trim M (gcd o a b)
  trim_gcd a b = subst (λ (l : List A). Trim M l) (bezout_gcd M I a b) (any_form a b).gcd_trim

  pub oks_gcd : (a b : List A) → Oks M (gcd o a b)
  oks_gcd a b = subst (λ (l : List A). Oks M l) (bezout_gcd M I a b) (any_form a b).gcd_oks

  pub length_gcd : (a b : List A) (n : ℕ) → length (trim o a) ≤ n → length (trim o b) ≤ n → length (gcd o a b) ≤ n
  length_gcd a b n h k = subst (λ (l : List A). length l ≤ n) (bezout_gcd M I a b) (form a b n h k).gcd_short

  pub trim_bezout_u : (a b : List A) → Trim M (bezout o a b).u
  trim_bezout_u a b = (any_form a b).u_trim

  pub oks_bezout_u : (a b : List A) → Oks M (bezout o a b).u
  oks_bezout_u a b = (any_form a b).u_oks

  pub trim_bezout_v : (a b : List A) → Trim M (bezout o a b).v
  trim_bezout_v a b = (any_form a b).v_trim

  pub oks_bezout_v : (a b : List A) → Oks M (bezout o a b).v
  oks_bezout_v a b = (any_form a b).v_oks
