-- The proofs of specs/SquarePart.
use Rattle.std.specs.Prelude.{ℕ, zero, suc, ◌+◌ as ◌+ₙ◌, ◌-◌ as ◌-ₙ◌, ◌≤◌, ◌<◌, ◌≡◌, ◌⊎◌, [], ◌∷◌}
use Rattle.std.proofs.Common.{arith, sym, ap, ◌∙◌, inl, inr, ⊎_elim}
use Rattle.math_ring.specs.Ring.{CRing}
use Rattle.math_ring.specs.Identity.{ring, ring_from, times, plus, quote}
use Rattle.math_ring.specs.Series.{Series, con}
use Rattle.math_ring.specs.Order.{le_or_lt}
use Rattle.math_algebra.specs.Field.{Field}
use Rattle.math_algebra.specs.Polynomial.{F, Px, Deg, Monic, con_inv, deg_con, deg_not_zero, deg_unique, monic_deg, monic_of, monic_one, monic_constant_one, monic_mul, monic_path, monic_factor}
use Rattle.math_algebra.specs.Divides.{Divides, divides_deg}
use Rattle.math_algebra.specs.Finite.{Finite, finite_add, finite_mul, finite_deg, finite_monic, finite_by, cancel_left}
use Rattle.math_algebra.specs.Gcd.{IsGcd, gcd_exists, gcd_monic, gcd_zero, gcd_low}
use Rattle.math_algebra.specs.Derivative.{derivative, derivative_low}
use Rattle.math_algebra.specs.Characteristic.{Perfect}
use Rattle.math_algebra.specs.Squarefree.{SquareFactor, square_gcd, gcd_square}
use Rattle.math_counting.specs.SquarePart as defs

module _ {A : Type 0} (K : Field A) where
  open Series (F K) use {add as ◌+◌, mul as ◌*◌, neg as -◌, one as 𝟙}

  infixl 6 ◌+◌
  infixl 7 ◌*◌
  infix 8 -◌
  abbrev R[x] : CRing (Px K)
  R[x] = Series (F K)

  abbrev Squarefree : Px K → Type 0
  Squarefree = defs.Squarefree K

  abbrev SquarePart : (f : Px K) → Type 0
  SquarePart = defs.SquarePart K

  abbrev SquarePartExists : Type 0
  SquarePartExists = defs.SquarePartExists K

  abbrev SquarePartUnique : Type 0
  SquarePartUnique = defs.SquarePartUnique K

  -- ---- the proof: there is one
  square_factor? : Perfect K → (f : Px K) (n : ℕ) → Deg K f n → SquareFactor K f ⊎ Squarefree f
  square_factor? P f n d = ⊎_elim (λ l. inl (gcd_square K P g.1 l r.2)) (λ l. inr (λ s. let t = square_gcd K d g.1 s in omega (arith, t.1, deg_unique K t.2 r.2))) (le_or_lt 1 r.0)
    where
      g : (g : Px K) × IsGcd K f (derivative (F K) f) g
      g = gcd_exists K f (derivative (F K) f) (suc n) n d.low (derivative_low (F K) f n d.low)

      r : (m : ℕ) × (m ≤ n) × Deg K g.0 m
      r = divides_deg K (gcd_low K g.1).0 n (gcd_low K g.1).1 g.1.left d

  abbrev Taken : (f : Px K) → (n : ℕ) → Type 0
  Taken = defs.Taken K

  take_out : (f : Px K) (n : ℕ) → Monic K f n → SquareFactor K f → Taken f n
  take_out f n m t = record {
    factor = k;
    rest = e;
    size = t.size;
    some = t.some;
    factor_monic = k_monic;
    twice = w.0;
    rest_monic = w.1;
    is = whole;
  }
    where
      -- the leading coefficient of the factor and its inverse
      c : Px K
      c = con (F K) (t.factor t.size)

      i : Px K
      i = con (F K) (K.inv (t.factor t.size))

      k : Px K
      k = i * t.factor

      k_monic : Monic K k t.size
      k_monic = monic_of K t.factor t.size t.deg

      e : Px K
      e = (c * c) * t.divides.by

      c_finite : Finite K c
      c_finite = finite_deg K (deg_con K (t.factor t.size) t.deg.top)

      e_finite : Finite K e
      e_finite = finite_mul K (finite_mul K c_finite c_finite) (finite_by K t.divides)

      whole : f ≡ e * (k * k)
      whole = ring_from R[x] (f ∷ t.factor ∷ c ∷ i ∷ t.divides.by ∷ []) (plus R[x] (times R[x] 𝟙 t.divides.is) (times R[x] (- (t.factor * t.factor * t.divides.by * (i * c + 𝟙))) (con_inv K (t.factor t.size) t.deg.top))) (search quote depth 40 fits 9999) tt

      w : (t.size +ₙ t.size ≤ n) × Monic K e (n -ₙ (t.size +ₙ t.size))
      w = monic_factor K e_finite.size e (k * k) n (t.size +ₙ t.size) e_finite.low (monic_mul K k k t.size t.size k_monic k_monic) (monic_path K n whole m)

  -- b bounds the degree
  square_part_below : Perfect K → (b : ℕ) (f : Px K) (n : ℕ) → n < b → Monic K f n → SquarePart f
  square_part_below P zero f n l m = absurd (omega arith)
  square_part_below P (suc b) f n l m = ⊎_elim (λ s. more (take_out f n m s) (square_part_below P b)) none (square_factor? P f n (monic_deg K m))
    where
      none : Squarefree f → SquarePart f
      none h = record { s = f; h = 𝟙; s_size = n; h_size = 0; s_monic = m; h_monic = monic_one K; squarefree = h; is = ring R[x] (f ∷ []) (search quote depth 40 fits 9999) tt }

      more : Taken f n → ((f : Px K) (n : ℕ) → n < b → Monic K f n → SquarePart f) → SquarePart f
      more t rec = record {
        s = r.s;
        h = t.factor * r.h;
        s_size = r.s_size;
        h_size = t.size +ₙ r.h_size;
        s_monic = r.s_monic;
        h_monic = monic_mul K t.factor r.h t.size r.h_size t.factor_monic r.h_monic;
        squarefree = r.squarefree;
        is = ring_from R[x] (f ∷ t.factor ∷ t.rest ∷ r.s ∷ r.h ∷ []) (plus R[x] (times R[x] 𝟙 t.is) (times R[x] (t.factor * t.factor) r.is)) (search quote depth 40 fits 9999) tt;
      }
        where
          r : SquarePart t.rest
          r = rec t.rest (n -ₙ (t.size +ₙ t.size)) (omega (arith, t.some, t.twice)) t.rest_monic

  pub square_part : SquarePartExists
  square_part P f n m = square_part_below P (suc n) f n (omega arith) m

  -- ---- there is only one
  -- what a² is multiplied by in (u·a + v·b)³; what b² is multiplied by is that of b, v, a, u
  abbrev part : Px K → Px K → Px K → Px K → Px K
  part u a v b = u * u * (u * a + (v * b + v * b + v * b))

  part_finite : {u a v b : Px K} → Finite K u → Finite K a → Finite K v → Finite K b → Finite K (part u a v b)
  part_finite {v = v} {b} fu fa fv fb = finite_mul K (finite_mul K fu fu) (finite_add K (finite_mul K fu fa) (finite_add K (finite_add K vb vb) vb))
    where
      vb : Finite K (v * b)
      vb = finite_mul K fv fb

  -- where a and b are coprime and s·a² = t·b², a² divides t: (u·a + v·b)³ = 1
  coprime_square : {a b s t u v : Px K} → Finite K a → Finite K b → Finite K s → Finite K t → Finite K u → Finite K v → u * a + v * b ≡ 𝟙 → s * (a * a) ≡ t * (b * b) → Divides K (a * a) t
  coprime_square {a} {b} {s} {t} {u} {v} fa fb fs ft fu fv one same = record {
    by = part u a v b * t + part v b u a * s;
    size = _;
    low = (finite_add K (finite_mul K (part_finite fu fa fv fb) ft) (finite_mul K (part_finite fv fb fu fa) fs)).low;
    is = ring_from R[x] (a ∷ b ∷ s ∷ t ∷ u ∷ v ∷ []) (plus R[x] (times R[x] (- (t * (𝟙 + (u * a + v * b) + (u * a + v * b) * (u * a + v * b)))) one) (times R[x] (- part v b u a) same)) (search quote depth 40 fits 9999) tt;
  }

  -- a monic polynomial whose square divides a squarefree one is 1
  squarefree_one : (a t : Px K) (n : ℕ) → Monic K a n → Squarefree t → Divides K (a * a) t → a ≡ 𝟙
  squarefree_one a t zero m h d = monic_constant_one K a m
  squarefree_one a t (suc n) m h d = absurd (h (record { factor = a; size = suc n; some = omega arith; deg = monic_deg K m; divides = d }))

  pub square_part_unique : SquarePartUnique
  square_part_unique f p r = (s_same, h_same)
    where
      g : (e : Px K) × IsGcd K p.h r.h e
      g = gcd_exists K p.h r.h (suc p.h_size) (suc r.h_size) p.h_monic.low r.h_monic.low

      e : Px K
      e = g.0

      i : IsGcd K p.h r.h e
      i = g.1

      m : (n : ℕ) × Monic K e n
      m = gcd_monic K i (λ z. deg_not_zero K (monic_deg K p.h_monic) (gcd_zero K i z).0)

      a : Px K
      a = i.left.by

      b : Px K
      b = i.right.by

      fa : Finite K a
      fa = finite_by K i.left

      fb : Finite K b
      fb = finite_by K i.right

      fu : Finite K i.u
      fu = record { size = i.size; low = i.u_low }

      fv : Finite K i.v
      fv = record { size = i.size; low = i.v_low }

      fp : Finite K p.s
      fp = finite_monic K p.s_monic

      fr : Finite K r.s
      fr = finite_monic K r.s_monic

      one : i.u * a + i.v * b ≡ 𝟙
      one = cancel_left K (monic_deg K m.1) (finite_add K (finite_mul K fu fa) (finite_mul K fv fb)) (finite_monic K (monic_one K))
          (ring_from R[x] (e ∷ p.h ∷ r.h ∷ a ∷ b ∷ i.u ∷ i.v ∷ []) (plus R[x] (times R[x] (- 𝟙) i.bezout) (plus R[x] (times R[x] (- i.u) i.left.is) (times R[x] (- i.v) i.right.is))) (search quote depth 40 fits 9999) tt)

      same : p.s * (a * a) ≡ r.s * (b * b)
      same = cancel_left K (monic_deg K (monic_mul K e e m.0 m.0 m.1 m.1)) (finite_mul K fp (finite_mul K fa fa)) (finite_mul K fr (finite_mul K fb fb))
          (ring_from R[x] (e ∷ p.h ∷ r.h ∷ a ∷ b ∷ p.s ∷ r.s ∷ []) (plus R[x] (times R[x] 𝟙 (sym p.is ∙ r.is)) (plus R[x] (times R[x] (- (p.s * (p.h + e * a))) i.left.is) (times R[x] (r.s * (r.h + e * b)) i.right.is))) (search quote depth 40 fits 9999) tt)

      -- a factor of a monic polynomial beside e is monic
      cofactor : {h : Px K} {n : ℕ} (d : Divides K e h) → Monic K h n → Monic K d.by (n -ₙ m.0)
      cofactor {h} {n} d k = (monic_factor K d.size d.by e n m.0 d.low m.1 (monic_path K n (d.is ∙ R[x].mul_comm e d.by) k)).1

      a_one : a ≡ 𝟙
      a_one = squarefree_one a r.s _ (cofactor i.left p.h_monic) r.squarefree (coprime_square fa fb fp fr fu fv one same)

      b_one : b ≡ 𝟙
      b_one = squarefree_one b p.s _ (cofactor i.right r.h_monic) p.squarefree (coprime_square fb fa fr fp fv fu (R[x].add_comm (i.v * b) (i.u * a) ∙ one) (sym same))

      h_same : p.h ≡ r.h
      h_same = i.left.is ∙ ap (λ c. e * c) (a_one ∙ sym b_one) ∙ sym i.right.is

      s_same : p.s ≡ r.s
      s_same = cancel_left K (monic_deg K (monic_mul K p.h p.h p.h_size p.h_size p.h_monic p.h_monic)) fp fr
          (R[x].mul_comm (p.h * p.h) p.s ∙ sym p.is ∙ r.is ∙ ap (λ c. r.s * (c * c)) (sym h_same) ∙ R[x].mul_comm r.s (p.h * p.h))
