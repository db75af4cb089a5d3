-- Monomials c x^k, and division with remainder by a polynomial whose leading coefficient has an inverse: the
-- quotient's terms are found from the top down.
use Prim.Native.Nat.{ℕ, zero, suc, ◌+◌ as ◌+ₙ◌, ◌-◌ as ◌-ₙ◌, ◌<◌, zero-le}
use Rattle.std.proofs.Common.{zero-add as zero-addₙ, suc-add as suc-addₙ, eq-or-lt_of_le, arith, sym, ap₂, ◌∙◌}
use Rattle.std.specs.Prelude.{◌≡◌, [], ◌∷◌}
use Rattle.std.proofs.Math.Path.{refl, ap, fun_ext}
use Rattle.std.proofs.Math.Logic.{⊎_elim}
use Rattle.math_ring.specs.Ring.{CRing, zer_add, mul_zer, zer_mul, neg_zer}
use Rattle.math_ring.specs.Identity.{ring, ring_from, times, plus, quote}
use Rattle.math_ring.specs.Series.{S, Series, add_s, conv, neg_s, zer_s, con, conv_con}
use Rattle.math_ring.specs.Degree.{Below, below_add, lead_conv}

module _ {A : Type 0} (F : CRing A) where
  open F use {add as ◌+◌, mul as ◌*◌, neg as -◌, zer as 𝟘, one as 𝟙, add_zer, add_neg, mul_assoc, mul_one}

  infixl 6 ◌+◌
  infixl 7 ◌*◌
  infix 8 -◌
  -- x f
  unfoldable pub up : S F → S F
  up f zero = 𝟘
  up f (suc n) = f n

  -- x^k f
  unfoldable pub shift : ℕ → S F → S F
  shift zero f = f
  shift (suc k) f = up (shift k f)

  pub shift_at : (k : ℕ) (f : S F) (i : ℕ) → shift k f (k +ₙ i) ≡ f i
  unfolding up shift
  shift_at zero f i = ap f (zero-addₙ i)
  shift_at (suc k) f i = ap (up (shift k f)) (suc-addₙ k i) ∙ shift_at k f i

  pub up_conv : (f g : S F) (n : ℕ) → conv F (up f) g n ≡ up (conv F f g) n
  unfolding up conv
  up_conv f g zero = zer_mul F (g 0)
  up_conv f g (suc n) = ap (λ u. u + conv F f g n) (zer_mul F (g (suc n))) ∙ zer_add F (conv F f g n)

  pub shift_conv : (k : ℕ) (f g : S F) → conv F (shift k f) g ≡ shift k (conv F f g)
  unfolding shift
  shift_conv zero f g = refl
  shift_conv (suc k) f g = fun_ext (up_conv (shift k f) g) ∙ ap up (shift_conv k f g)

  -- c x^k
  abbrev pub mon : A → ℕ → S F
  mon c k = shift k (con F c)

  pub mon_at : (c : A) (k : ℕ) (g : S F) (i : ℕ) → conv F (mon c k) g (k +ₙ i) ≡ c * g i
  mon_at c k g i = ap (λ (h : S F). h (k +ₙ i)) (shift_conv k (con F c) g) ∙ shift_at k (conv F (con F c) g) i ∙ conv_con F c g i

  pub below_up : (f : S F) (n : ℕ) → Below F f n → Below F (up f) (suc n)
  unfolding up
  below_up f n h zero p = refl
  below_up f n h (suc i) p = h i (omega arith)

  pub below_shift : (k : ℕ) (f : S F) (n : ℕ) → Below F f n → Below F (shift k f) (k +ₙ n)
  unfolding shift
  below_shift zero f n h i p = h i (omega arith)
  below_shift (suc k) f n h i p = below_up (shift k f) (k +ₙ n) (below_shift k f n h) i (omega arith)

  pub below_con : (c : A) → Below F (con F c) 1
  unfolding con
  below_con c zero p = absurd (omega arith)
  below_con c (suc i) p = refl

  pub below_mon : (c : A) (k : ℕ) → Below F (mon c k) (suc k)
  below_mon c k i p = below_shift k (con F c) 1 (below_con c) i (omega arith)

  -- f - c x^k g
  abbrev pub less : S F → A → ℕ → S F → S F
  less f c k g = add_s F f (neg_s F (conv F (mon c k) g))

  pub below_less : (f g : S F) (c : A) (k m : ℕ) → Below F f (suc (k +ₙ m)) → Below F g (suc m) → c * g m ≡ f (k +ₙ m) → Below F (less f c k g) (k +ₙ m)
  unfolding add_s neg_s
  below_less f g c k m h l e i p = ⊎_elim at past (eq-or-lt_of_le p)
    where
      at : k +ₙ m ≡ i → less f c k g i ≡ 𝟘
      at q = ap (less f c k g) (sym q) ∙ ap (λ u. f (k +ₙ m) + (- u)) (mon_at c k g m ∙ e) ∙ add_neg (f (k +ₙ m))

      past : k +ₙ m < i → less f c k g i ≡ 𝟘
      past q = ap₂ (λ u v. u + (- v)) (h i q) (ap (conv F (mon c k) g) (sym split) ∙ mon_at c k g (i -ₙ k) ∙ ap (λ u. c * u) (l (i -ₙ k) (omega arith)) ∙ mul_zer F c) ∙ ap (λ u. 𝟘 + u) (neg_zer F) ∙ add_zer 𝟘
        where
          split : k +ₙ (i -ₙ k) ≡ i
          split = omega arith

  -- f = quo g + rem, the quotient of degree under n and the remainder under m
  pub record Quotient (f g : S F) (n m : ℕ) : Type 0 where
    pub quo : S F
    pub rem : S F
    pub is : f ≡ add_s F (conv F quo g) rem
    pub quo_low : Below F quo n
    pub rem_low : Below F rem m

  pub divide : (n : ℕ) (f g : S F) (m : ℕ) (u : A) → u * g m ≡ 𝟙 → Below F g (suc m) → Below F f (n +ₙ m) → Quotient f g n m
  unfolding zer_s
  divide zero f g m u e l h = record {
    quo = zer_s F;
    rem = f;
    is = ring (Series F) (f ∷ g ∷ []) (search quote depth 40 fits 9999) tt;
    quo_low = λ i p. refl;
    rem_low = λ i p. h i (omega arith);
  }
  divide (suc n) f g m u e l h = go (divide n (less f c n g) g m u e l (below_less f g c n m (λ i p. h i (omega arith)) l lead))
    where
      c : A
      c = f (n +ₙ m) * u

      lead : c * g m ≡ f (n +ₙ m)
      lead = mul_assoc (f (n +ₙ m)) u (g m) ∙ ap (λ t. f (n +ₙ m) * t) e ∙ mul_one (f (n +ₙ m))

      go : Quotient (less f c n g) g n m → Quotient f g (suc n) m
      go r = record {
        quo = add_s F (mon c n) r.quo;
        rem = r.rem;
        is = ring_from (Series F) (f ∷ g ∷ mon c n ∷ r.quo ∷ r.rem ∷ []) (times (Series F) (con F 𝟙) r.is) (search quote depth 40 fits 9999) tt;
        quo_low = below_add F (mon c n) r.quo (suc n) (below_mon c n) (λ i p. r.quo_low i (omega arith));
        rem_low = r.rem_low;
      }

  -- q g of degree under m, where g has degree m, is 0: so quotients and remainders are unique
  pub no_quo : (n : ℕ) (q g : S F) (m : ℕ) (u : A) → u * g m ≡ 𝟙 → Below F g (suc m) → Below F q n → Below F (conv F q g) m → q ≡ zer_s F
  unfolding zer_s
  no_quo zero q g m u e l h k = fun_ext (λ i. h i zero-le)
  no_quo (suc n) q g m u e l h k = no_quo n q g m u e l lower k
    where
      top : q n ≡ 𝟘
      top = ring_from F (q n ∷ g m ∷ u ∷ []) (plus F (times F (- q n) e) (times F u (sym (lead_conv F n m q g h l) ∙ k (n +ₙ m) (omega arith)))) (search quote depth 40 fits 9999) tt

      lower : Below F q n
      lower i p = ⊎_elim (λ (w : n ≡ i). ap q (sym w) ∙ top) (λ (w : n < i). h i w) (eq-or-lt_of_le p)
