-- Characteristic p: p is 0 in the ring, and the numbers from 1 to p - 1 cancel. It passes from a field to the
-- series over it. `Perfect`: a field of characteristic p with p-th roots, which only the test for square
-- factors needs.
use Prim.Native.Nat.{ℕ, zero, suc, ◌≤◌, ◌<◌}
use Rattle.std.proofs.Common.{arith, ◌∙◌}
use Rattle.std.specs.Prelude.{◌≡◌}
use Rattle.std.proofs.Math.Path.{refl, sym, ap, fun_ext}
use Rattle.math_ring.specs.Ring.{CRing}
use Rattle.math_ring.specs.Series.{S, Series, add_s, conv, zer_s, con, conv_con}
use Rattle.math_algebra.specs.Field.{Field, no_zero_divisor}
use Rattle.math_algebra.specs.Multiple.{natural, power}

pub record Characteristic {A : Type 0} (R : CRing A) (p : ℕ) : Type 0 where
  pub positive : 0 < p
  pub vanishes : natural R p ≡ R.zer
  pub cancels : (j : ℕ) → 0 < j → j < p → (x : A) → R.mul (natural R j) x ≡ R.zer → x ≡ R.zer

pub record Perfect {A : Type 0} (K : Field A) : Type 0 where
  pub char : ℕ
  pub char_two : 2 ≤ char
  pub char_zero : natural K.scalars char ≡ K.scalars.zer
  pub char_least : (j : ℕ) → 0 < j → j < char → natural K.scalars j ≡ K.scalars.zer → ⊥
  pub root : A → A
  pub root_power : (c : A) → power K.scalars (root c) char ≡ c

pub perfect_characteristic : {A : Type 0} (K : Field A) (P : Perfect K) → Characteristic K.scalars P.char
perfect_characteristic K P = record {
  positive = omega (arith, P.char_two);
  vanishes = P.char_zero;
  cancels = λ j h l x e. no_zero_divisor K x (natural K.scalars j) (P.char_least j h l) (K.scalars.mul_comm x (natural K.scalars j) ∙ e);
}

module _ {A : Type 0} (F : CRing A) where
  con_add_one : (c : A) → con F (F.add c F.one) ≡ add_s F (con F c) (con F F.one)
  con_add_one c = fun_ext at
    where
      at : (i : ℕ) → con F (F.add c F.one) i ≡ add_s F (con F c) (con F F.one) i
      at zero = unfold con add_s in refl
      at (suc i) = unfold con add_s in sym (F.add_zer F.zer)

  -- a number as a series is a constant
  pub natural_series : (n : ℕ) → natural (Series F) n ≡ con F (natural F n)
  unfolding natural
  natural_series zero = fun_ext at
    where
      at : (i : ℕ) → zer_s F i ≡ con F F.zer i
      at zero = unfold con zer_s in refl
      at (suc i) = unfold con zer_s in refl
  natural_series (suc n) = ap (λ u. add_s F u (con F F.one)) (natural_series n) ∙ sym (con_add_one (natural F n))

  pub series_characteristic : (p : ℕ) → Characteristic F p → Characteristic (Series F) p
  unfolding zer_s natural
  series_characteristic p h = record {
    positive = h.positive;
    vanishes = natural_series p ∙ ap (con F) h.vanishes ∙ sym (natural_series 0);
    cancels = λ j l m f e. fun_ext (λ i. h.cancels j l m (f i) (sym (conv_con F (natural F j) f i) ∙ ap (λ (u : S F). conv F u f i) (sym (natural_series j)) ∙ ap (λ (g : S F). g i) e));
  }
