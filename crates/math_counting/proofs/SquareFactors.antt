-- The proofs of specs/SquareFactors.
use Rattle.std.specs.Prelude.{ℕ, zero, suc, ◌+◌ as ◌+ₙ◌, ◌-◌ as ◌-ₙ◌, ◌≤◌, ◌≡◌, refl, [], ◌∷◌}
use Rattle.std.proofs.Common.{suc-le-suc, eq-zero-or-pos, arith, ap, ◌∙◌, subst, ⊎_elim}
use Rattle.std.proofs.Math.Path.{sym, ap₂, fun_ext}
use Rattle.math_ring.specs.Ring.{CRing, zer_add}
use Rattle.math_ring.specs.Identity.{ring, quote}
use Rattle.math_ring.specs.Series.{Series, add_s, con, tail}
use Rattle.math_ring.specs.Division.{up}
use Rattle.math_algebra.specs.Field.{Field}
use Rattle.math_algebra.specs.Polynomial.{F, Px, Monic, deg_unique, monic_deg, monic_constant_one, monic_mul, monic_path}
use Rattle.math_algebra.specs.Characteristic.{Perfect}
use Rattle.math_algebra.specs.PowerRoot.{parts}
use Rattle.math_algebra.specs.Squarefree.{SquareFactor}
use Rattle.math_counting.specs.SquarePart.{SquarePart}
use Rattle.math_counting.proofs.SquarePart.{square_part, square_part_unique}
use Rattle.math_counting.specs.SquareFactors as defs

module _ {A : Type 0} (K : Field A) where
  open Series (F K) use {add as ◌+◌, mul as ◌*◌}

  infixl 6 ◌+◌
  infixl 7 ◌*◌
  abbrev R[x] : CRing (Px K)
  R[x] = Series (F K)

  abbrev plus_x : A → Px K → Px K
  plus_x = defs.plus_x K

  abbrev Lifts : (t D : Px K) → Type 0
  Lifts = defs.Lifts K

  abbrev SquareFactors : Type 0
  SquareFactors = defs.SquareFactors K

  -- ---- the proof
  -- ---- the coefficients of c + x·h
  plus_x_first : (c : A) (h : Px K) → plus_x c h 0 ≡ c
  unfolding add_s con up
  plus_x_first c h = (F K).add_zer c

  plus_x_next : (c : A) (h : Px K) (n : ℕ) → plus_x c h (suc n) ≡ h n
  unfolding add_s con up
  plus_x_next c h n = zer_add (F K) (h n)

  tail_plus_x : (c : A) (h : Px K) → tail (F K) (plus_x c h) ≡ h
  tail_plus_x c h = fun_ext (plus_x_next c h)

  monic_plus_x : (c : A) (h : Px K) (n : ℕ) → Monic K h n → Monic K (plus_x c h) (suc n)
  monic_plus_x c h n m = record { low = low; top = plus_x_next c h n ∙ m.top }
    where
      low : (i : ℕ) → suc (suc n) ≤ i → plus_x c h i ≡ (F K).zer
      low zero p = absurd (omega arith)
      low (suc i) p = plus_x_next c h i ∙ m.low i (omega arith)

  monic_tail : (f : Px K) (n : ℕ) → Monic K f (suc n) → Monic K (tail (F K) f) n
  monic_tail f n m = record { low = λ i p. m.low (suc i) (suc-le-suc p); top = m.top }

  -- ---- what a square part says of its polynomial
  part_monic : {f : Px K} (p : SquarePart K f) → Monic K f (p.s_size +ₙ (p.h_size +ₙ p.h_size))
  part_monic {f} p = monic_path K _ (sym p.is) (monic_mul K p.s (p.h * p.h) p.s_size (p.h_size +ₙ p.h_size) p.s_monic (monic_mul K p.h p.h p.h_size p.h_size p.h_monic p.h_monic))

  part_size : {f : Px K} {n : ℕ} (p : SquarePart K f) → Monic K f n → p.s_size +ₙ (p.h_size +ₙ p.h_size) ≡ n
  part_size p m = deg_unique K (monic_deg K (part_monic p)) (monic_deg K m)

  -- where h is not constant there is a square factor, and the other way round
  part_factor : {f : Px K} (p : SquarePart K f) → 1 ≤ p.h_size → SquareFactor K f
  part_factor {f} p l = record {
    factor = p.h;
    size = p.h_size;
    some = l;
    deg = monic_deg K p.h_monic;
    divides = record { by = p.s; size = suc p.s_size; low = p.s_monic.low; is = p.is ∙ R[x].mul_comm p.s (p.h * p.h) };
  }

  factor_part : {f : Px K} (p : SquarePart K f) → SquareFactor K f → 1 ≤ p.h_size
  factor_part {f} p t = ⊎_elim (λ z. absurd (p.squarefree (subst (SquareFactor K) (constant z) t))) (λ l. l) (eq-zero-or-pos p.h_size)
    where
      constant : p.h_size ≡ 0 → f ≡ p.s
      constant z = p.is ∙ ap (λ h. p.s * (h * h)) (monic_constant_one K p.h (subst (Monic K p.h) z p.h_monic)) ∙ ring R[x] (p.s ∷ []) (search quote depth 40 fits 9999) tt

  -- ---- from t to D
  -- the square part of D
  lifted_part : {t D : Px K} → Lifts t D → SquarePart K D
  lifted_part {t} l = record {
    s = l.part.s;
    h = plus_x (t 0) l.part.h;
    s_size = l.part.s_size;
    h_size = suc l.part.h_size;
    s_monic = l.part.s_monic;
    h_monic = monic_plus_x (t 0) l.part.h l.part.h_size l.part.h_monic;
    squarefree = l.part.squarefree;
    is = l.is;
  }

  lift : Perfect K → (n : ℕ) (t : Px K) → Monic K t (suc n) → (D : Px K) × (Monic K D (suc (suc n)) × SquareFactor K D) × Lifts t D
  unfolding lifted_part
  lift P n t m = (_, (subst (Monic K _) (omega (arith, part_size p (monic_tail t n m))) (part_monic (lifted_part l)), part_factor (lifted_part l) (omega arith)), l)
    where
      p : SquarePart K (tail (F K) t)
      p = square_part K P (tail (F K) t) n (monic_tail t n m)

      l : Lifts t (p.s * (plus_x (t 0) p.h * plus_x (t 0) p.h))
      l = record { part = p; is = refl }

  lift_single : (D E t : Px K) → Lifts t D → Lifts t E → D ≡ E
  lift_single D E t l k = let e = square_part_unique K (tail (F K) t) l.part k.part in l.is ∙ ap₂ (λ s h. s * (plus_x (t 0) h * plus_x (t 0) h)) e.0 e.1 ∙ sym k.is

  -- ---- from D to t
  -- c + x·g lifts to D where D = s·h² and g = s·h₁² with h = c + x·h₁
  lower : Perfect K → (n : ℕ) (D : Px K) → Monic K D (suc (suc n)) → SquareFactor K D → (t : Px K) × Monic K t (suc n) × Lifts t D
  lower P n D m f = (plus_x c g, monic_plus_x c g n g_monic, record { part = q; is = whole })
    where
      p : SquarePart K D
      p = square_part K P D (suc (suc n)) m

      k : ℕ
      k = p.h_size -ₙ 1

      c : A
      c = p.h 0

      h : Px K
      h = tail (F K) p.h

      h_monic : Monic K h k
      h_monic = monic_tail p.h k (subst (Monic K p.h) (omega (arith, factor_part p f)) p.h_monic)

      g : Px K
      g = p.s * (h * h)

      q : SquarePart K (tail (F K) (plus_x c g))
      q = record { s = p.s; h = h; s_size = p.s_size; h_size = k; s_monic = p.s_monic; h_monic = h_monic; squarefree = p.squarefree; is = tail_plus_x c g }

      g_monic : Monic K g n
      g_monic = subst (Monic K g) (omega (arith, factor_part p f, part_size p m)) (monic_path K _ (tail_plus_x c g) (part_monic q))

      whole : D ≡ p.s * (plus_x (plus_x c g 0) h * plus_x (plus_x c g 0) h)
      whole = p.is ∙ ap (λ u. p.s * (u * u)) (parts K p.h ∙ ap (λ d. plus_x d h) (sym (plus_x_first c g)))

  lower_single : (t u D : Px K) → Lifts t D → Lifts u D → t ≡ u
  unfolding lifted_part
  lower_single t u D l k = parts K t ∙ ap₂ plus_x c (l.part.is ∙ ap₂ (λ s h. s * (h * h)) e.0 h ∙ sym k.part.is) ∙ sym (parts K u)
    where
      e : (l.part.s ≡ k.part.s) × (plus_x (t 0) l.part.h ≡ plus_x (u 0) k.part.h)
      e = square_part_unique K D (lifted_part l) (lifted_part k)

      c : t 0 ≡ u 0
      c = sym (plus_x_first (t 0) l.part.h) ∙ ap (λ (f : Px K). f 0) e.1 ∙ plus_x_first (u 0) k.part.h

      h : l.part.h ≡ k.part.h
      h = sym (tail_plus_x (t 0) l.part.h) ∙ ap (tail (F K)) e.1 ∙ tail_plus_x (u 0) k.part.h

  pub square_factors : SquareFactors
  square_factors P n = record {
    right = record { partner = lift P n; single = λ t u D a b c l k. lower_single t u D l k };
    left = record { partner = λ D m. lower P n D m.0 m.1; single = λ D E t a b c l k. lift_single D E t l k };
  }
