-- The proofs of specs/Values.
use Prim.Native.Nat.{ℕ, zero, suc, ◌*◌, ◌%◌}
use Rattle.std.proofs.Common.{arith, ap₂, ◌∙◌, subst}
use Rattle.std.specs.Prelude.{◌≡◌, ◌↔◌, length}
use Rattle.std.proofs.Math.Path.{refl, sym, ap, fun_ext}
use mathlib.Core.List.{List, [], ◌∷◌}
use Rattle.math_ring.specs.Ring.{CRing}
use Rattle.math_ring.specs.Identity.{ring, quote}
use Rattle.math_ring.specs.Series.{Series, add_s, conv, zer_s, con}
use Rattle.math_ring.specs.Division.{up, below_con, below_up}
use Rattle.math_algebra.specs.Field.{Field}
use Rattle.math_algebra.specs.Polynomial.{F, Px, ◌≺◌ as Low, Deg, low_up, low_add, low_sub, low_neg, con_mul, monic_deg, monic_dominant}
use Rattle.math_algebra.specs.Divides.{Divides as DividesIn, rigid, divides_add, divides_sub, divides_zero, divides_path, divides_multiple, divides_mul, divides_mulˡ}
use Rattle.spec_arithmetic.specs.Field.{Ops, FieldName, ops}
use Rattle.spec_arithmetic.specs.Polynomials.{sub, mul}
use Rattle.spec_bridge.specs.Model.{Model, series, series_nil}
use Rattle.spec_bridge.specs.Trim.{below_length}
use Rattle.spec_bridge.specs.Arithmetic.{X, series_cons, series_sub, series_mul}
use Rattle.spec_fields.specs.Named.{IsField, Ok, Arithmetic, arithmetic, φ_first}
use Rattle.spec_sentences.specs.Arithmetic.{Divides}
use Rattle.spec_sentences.proofs.Arithmetic.{divides_series, series_divides}
use Rattle.spec_estimate.specs.Estimate.{evaluate}
use Rattle.spec_estimate.specs.Values.{linear, Value, SquareModulo}

-- ---- the proof
-- over any field with a model
module _ {A : Type 0} (K : Field A) {o : Ops ℕ} (M : Model o (F K)) where
  open Series (F K) use {add as ◌+◌, mul as ◌·◌, neg as -◌, zer as 𝟘}
  open M use {φ, φ_zer, φ_add, φ_mul}

  infixl 6 ◌+◌ ◌-◌
  infixl 7 ◌·◌
  infix 8 -◌
  infix 4 ◌≺◌
  abbrev R[x] : CRing (Px K)
  R[x] = Series (F K)

  abbrev ◌-◌ : Px K → Px K → Px K
  a - b = a + (- b)

  abbrev ◌≺◌ : Px K → ℕ → Type 0
  ◌≺◌ = Low K

  -- the polynomial of degree 0 that a number stands for
  abbrev constant : ℕ → Px K
  constant v = con (F K) (φ v)

  -- x − e
  abbrev line : ℕ → Px K
  line e = X M - constant e

  -- the same modulo x − e
  abbrev Congruent : ℕ → Px K → Px K → Type 0
  Congruent e u v = DividesIn K (line e) (u - v)

  -- ---- constants
  constant_zero : constant o.zer ≡ 𝟘
  unfolding con zer_s
  constant_zero = fun_ext at
    where
      at : (n : ℕ) → constant o.zer n ≡ 𝟘 n
      at zero = φ_zer
      at (suc n) = refl

  series_constant : (v : ℕ) → series M (v ∷ []) ≡ constant v
  unfolding con
  series_constant v = fun_ext at
    where
      at : (n : ℕ) → series M (v ∷ []) n ≡ constant v n
      at zero = refl
      at (suc n) = φ_zer

  constant_add : (a b : ℕ) → constant (o.add a b) ≡ constant a + constant b
  unfolding con add_s
  constant_add a b = fun_ext at
    where
      at : (n : ℕ) → constant (o.add a b) n ≡ (constant a + constant b) n
      at zero = φ_add a b
      at (suc n) = sym ((F K).add_zer (F K).zer)

  constant_mul : (a b : ℕ) → constant (o.mul a b) ≡ constant a · constant b
  constant_mul a b = ap (con (F K)) (φ_mul a b) ∙ sym (con_mul K (φ a) (φ b))

  -- ---- modulo x − e
  X_low : X M ≺ 2
  X_low = below_up (F K) _ 1 (below_con (F K) _)

  line_degree : (e : ℕ) → Deg K (line e) 1
  unfolding up con
  line_degree e = monic_deg K (monic_dominant K (X M) (- constant e) 1 (record { low = X_low; top = refl }) low)
    where
      low : - constant e ≺ 1
      low = low_neg K (constant e) 1 (below_con (F K) (φ e))

  -- congruent constants are equal
  constants_equal : (e : ℕ) (a b : A) → Congruent e (con (F K) a) (con (F K) b) → a ≡ b
  unfolding con
  constants_equal e a b d = ap (λ (u : Px K). u 0) (rigid K 1 (line_degree e) d low)
    where
      low : con (F K) a - con (F K) b ≺ 1
      low = low_sub K (con (F K) a) (con (F K) b) 1 (below_con (F K) a) (below_con (F K) b)

  congruent_trans : (e : ℕ) (u v w : Px K) → Congruent e u v → Congruent e v w → Congruent e u w
  congruent_trans e u v w d c = divides_path K sum (divides_add K d c)
    where
      sum : (u - v) + (v - w) ≡ u - w
      sum = ring R[x] (u ∷ v ∷ w ∷ []) (search quote depth 40 fits 9999) tt

  -- two that the same polynomial is congruent to are congruent
  congruent_same : (e : ℕ) (u v w : Px K) → Congruent e u v → Congruent e u w → Congruent e v w
  congruent_same e u v w d c = divides_path K difference (divides_sub K c d)
    where
      difference : (u - w) - (u - v) ≡ v - w
      difference = ring R[x] (u ∷ v ∷ w ∷ []) (search quote depth 40 fits 9999) tt

  congruent_square : (e n : ℕ) (u v : Px K) → u + v ≺ n → Congruent e u v → Congruent e (u · u) (v · v)
  congruent_square e n u v low d = divides_path K product (divides_mul K (u + v) n low d)
    where
      product : (u - v) · (u + v) ≡ u · u - v · v
      product = ring R[x] (u ∷ v ∷ []) (search quote depth 40 fits 9999) tt

  -- a list's polynomial that is a number modulo x − e has the number's square for its square
  square_congruent : (z : List ℕ) (e w : ℕ) → Congruent e (series M z) (constant w)
      → Congruent e (series M z · series M z) (constant (o.mul w w))
  square_congruent z e w d = rw constant_mul (congruent_square e _ (series M z) (constant w) low d)
    where
      low : series M z + constant w ≺ suc (length z)
      low = low_add K _ _ _ (low_up K _ (omega arith) (below_length M z)) (low_up K _ (omega arith) (below_con (F K) (φ w)))

  -- less 0
  minus_zero : (u : Px K) → u - constant o.zer ≡ u
  minus_zero u = ap (λ (w : Px K). u - w) constant_zero ∙ ring R[x] (u ∷ []) (search quote depth 40 fits 9999) tt

  -- (c + x·l) − (c + e·v) = x·(l − v) + (x − e)·v
  cons_congruent : (c e v : ℕ) (l : List ℕ) → Congruent e (series M l) (constant v)
      → Congruent e (series M (c ∷ l)) (constant (o.add c (o.mul e v)))
  cons_congruent c e v l d = divides_path K (split ∙ sym (ap₂ ◌-◌ (series_cons M c l) value)) (divides_add K first second)
    where
      value : constant (o.add c (o.mul e v)) ≡ constant c + constant e · constant v
      value = constant_add c (o.mul e v) ∙ ap (λ (u : Px K). constant c + u) (constant_mul e v)

      first : DividesIn K (line e) (X M · (series M l - constant v))
      first = divides_mulˡ K (X M) 2 X_low d

      second : DividesIn K (line e) (line e · constant v)
      second = divides_multiple K (line e) (constant v) 1 (below_con (F K) (φ v))

      split : X M · (series M l - constant v) + line e · constant v
          ≡ (constant c + X M · series M l) - (constant c + constant e · constant v)
      split = ring R[x] (X M ∷ constant c ∷ constant e ∷ constant v ∷ series M l ∷ []) (search quote depth 40 fits 9999) tt

  evaluate_congruent : (l : List ℕ) (e : ℕ) → Congruent e (series M l) (constant (evaluate o l e))
  unfolding evaluate
  evaluate_congruent [] e = divides_path K (sym (minus_zero (series M []) ∙ series_nil M)) (divides_zero K (line e))
  evaluate_congruent (c ∷ l) e = cons_congruent c e (evaluate o l e) l (evaluate_congruent l e)

-- of lists over the field that is named
module _ (f : FieldName) (named : IsField f) where
  abbrev A : Arithmetic f
  A = arithmetic f named

  abbrev K : Field A.Elements
  K = A.K

  abbrev o : Ops ℕ
  o = ops f

  abbrev M : Model o (F K)
  M = A.M

  series_x : series M (0 ∷ 1 ∷ []) ≡ X M
  unfolding up con
  series_x = fun_ext at
    where
      at : (n : ℕ) → series M (0 ∷ 1 ∷ []) n ≡ X M n
      at zero = M.φ_zer
      at (suc zero) = φ_first f named
      at (suc (suc n)) = M.φ_zer

  series_linear : (e : ℕ) → series M (linear f e) ≡ line K M e
  series_linear e = series_sub M (0 ∷ 1 ∷ []) (e ∷ []) ∙ ap₂ (◌-◌ K M) series_x (series_constant K M e)

  -- x − e divides l, as lists and over the field
  divides_line : (l : List ℕ) (e : ℕ) → Divides f (linear f e) l → DividesIn K (line K M e) (series M l)
  divides_line l e d =
      subst (λ (u : Px K). DividesIn K u (series M l)) (series_linear e) (divides_series f named l (linear f e) d)

  line_divides : (l : List ℕ) (e : ℕ) → DividesIn K (line K M e) (series M l) → Divides f (linear f e) l
  line_divides l e d =
      series_divides f named l (linear f e) (subst (λ (u : Px K). DividesIn K u (series M l)) (sym (series_linear e)) d)

  difference : (l h : List ℕ) {w : Px K} → series M h ≡ w → series M (sub o l h) ≡ ◌-◌ K M (series M l) w
  difference l h s = series_sub M l h ∙ ap (◌-◌ K M (series M l)) s

  -- x − e divides l − h where l and h, whose polynomial is w, are the same modulo x − e
  divides_congruent : (l h : List ℕ) (e : ℕ) {w : Px K} → series M h ≡ w
      → Divides f (linear f e) (sub o l h) → Congruent K M e (series M l) w
  divides_congruent l h e s d = divides_path K (difference l h s) (divides_line (sub o l h) e d)

  congruent_divides : (l h : List ℕ) (e : ℕ) {w : Px K} → series M h ≡ w
      → Congruent K M e (series M l) w → Divides f (linear f e) (sub o l h)
  congruent_divides l h e s d = line_divides (sub o l h) e (divides_path K (sym (difference l h s)) d)

  -- the value is the number that the polynomial is modulo x − e
  value_congruent : {l : List ℕ} {e v : ℕ} → Value f l e v → Congruent K M e (series M l) (constant K M v)
  value_congruent {l} {e} {v} x = divides_congruent l (v ∷ []) e (series_constant K M v) x.divides

  congruent_value : (l : List ℕ) (e v : ℕ) → M.Ok v → Congruent K M e (series M l) (constant K M v) → Value f l e v
  congruent_value l e v k d = record {
    below = A.ok_is v k;
    divides = congruent_divides l (v ∷ []) e (series_constant K M v) d;
  }

  evaluate_ok : (l : List ℕ) (e : ℕ) → M.Ok (evaluate o l e)
  unfolding evaluate
  evaluate_ok [] e = M.ok_zer
  evaluate_ok (c ∷ l) e = M.ok_add _ _

  -- ---- the values
  pub value_is : (l : List ℕ) (e : ℕ) → Value f l e (evaluate (ops f) l e)
  value_is l e = congruent_value l e _ (evaluate_ok l e) (evaluate_congruent K M l e)

  pub value_unique : (l : List ℕ) (e : ℕ) {u v : ℕ} → Value f l e u → Value f l e v → u ≡ v
  value_unique l e {u} {v} x y = M.inj u v (A.ok_of u x.below) (A.ok_of v y.below) (constants_equal K M e _ _ same)
    where
      same : Congruent K M e (constant K M u) (constant K M v)
      same = congruent_same K M e (series M l) _ _ (value_congruent x) (value_congruent y)

  pub value_zero : (l : List ℕ) (e : ℕ) {v : ℕ} → Value f l e v → Divides f (linear f e) l ↔ (v ≡ 0)
  value_zero l e {v} x = (to, from)
    where
      less : ◌-◌ K M (series M l) (constant K M 0) ≡ series M l
      less = minus_zero K M (series M l)

      to : Divides f (linear f e) l → v ≡ 0
      to d = value_unique l e x (congruent_value l e 0 M.ok_zer (divides_path K (sym less) (divides_line l e d)))

      from : v ≡ 0 → Divides f (linear f e) l
      from z = line_divides l e (divides_path K less (value_congruent (subst (λ (u : ℕ). Value f l e u) z x)))

  pub value_square : (l : List ℕ) (e : ℕ) {v : ℕ} → Value f l e v → SquareModulo f l e ↔ ((z : ℕ) × ((z * z) % f.q ≡ v))
  value_square l e {v} x = (to, from)
    where
      -- the value of the square's root
      to : SquareModulo f l e → (z : ℕ) × ((z * z) % f.q ≡ v)
      to (z, d) = (w, value_unique l e (congruent_value l e (o.mul w w) (M.ok_mul w w) square) x)
        where
          w : ℕ
          w = evaluate o z e

          product : Congruent K M e (series M l) (conv (F K) (series M z) (series M z))
          product = divides_congruent l (mul o z z) e (series_mul M z z) d

          square : Congruent K M e (series M l) (constant K M (o.mul w w))
          square = congruent_trans K M e _ _ _ product (square_congruent K M z e w (evaluate_congruent K M z e))

      -- the number as a polynomial
      from : (z : ℕ) × ((z * z) % f.q ≡ v) → SquareModulo f l e
      from (z, s) = (z ∷ [], congruent_divides l (mul o (z ∷ []) (z ∷ [])) e square (value_congruent x))
        where
          square : series M (mul o (z ∷ []) (z ∷ [])) ≡ constant K M v
          square =
              series_mul M (z ∷ []) (z ∷ [])
              ∙ ap (λ (u : Px K). conv (F K) u u) (series_constant K M z)
              ∙ sym (constant_mul K M z z)
              ∙ ap (constant K M) s
