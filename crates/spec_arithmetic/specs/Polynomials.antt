-- Polynomials as lists of coefficients, constant term first, over any coefficients. Every sum, difference,
-- product, quotient, remainder, gcd, derivative and d has no zero at its end, so that the degree is the
-- length less 1; an argument may have zeros there: it means the same polynomial without them.
use Rattle.std.specs.Prelude.{ℕ, zero, suc, ◌+◌, ◌-◌, Bool, true, false, List, [], ◌∷◌, map, length, get_or}
use Rattle.spec_arithmetic.specs.Field.{Ops}

-- a quotient and a remainder
pub record Split (A : Type 0) : Type 0 where
  pub quo : List A
  pub rem : List A

-- S with the factors of S = u·a + v·b
pub record Bezout (A : Type 0) : Type 0 where
  pub gcd : List A
  pub u : List A
  pub v : List A

module _ {A : Type 0} (o : Ops A) where
  -- the coefficient at i, 0 past the end
  abbrev pub at : List A → ℕ → A
  at l i = get_or l i o.zer

  abbrev pub keep : Bool → A → List A
  keep true a = []
  keep false a = a ∷ []

  -- a in front of a list with no zero at its end
  abbrev pub cons : A → List A → List A
  cons a [] = keep (o.zer? a) a
  cons a (b ∷ l) = a ∷ (b ∷ l)

  -- the same polynomial with no zero at its end
  unfoldable pub trim : List A → List A
  trim [] = []
  trim (a ∷ l) = cons a (trim l)

  -- the first k coefficients, zeros above the degree
  unfoldable pub pad : ℕ → List A → List A
  pad zero l = []
  pad (suc k) [] = o.zer ∷ pad k []
  pad (suc k) (a ∷ l) = a ∷ pad k l

  -- degree and 1; "The zero polynomial has a degree below every number": its size is 0
  unfoldable pub size : List A → ℕ
  size p = length (trim p)

  -- the degree of a polynomial that is not 0
  unfoldable pub deg : List A → ℕ
  deg p = size p - 1

  -- place by place, with 0 for what is missing
  unfoldable pub zip : (A → A → A) → List A → List A → List A
  zip f [] q = map (f o.zer) q
  zip f (a ∷ p) [] = f a o.zer ∷ map (λ x. f x o.zer) p
  zip f (a ∷ p) (b ∷ q) = f a b ∷ zip f p q

  unfoldable pub add : List A → List A → List A
  add p q = trim (zip o.add p q)

  unfoldable pub sub : List A → List A → List A
  sub p q = trim (zip o.sub p q)

  unfoldable pub scale : A → List A → List A
  scale c p = trim (map (o.mul c) p)

  unfoldable pub mul : List A → List A → List A
  mul [] q = []
  mul (a ∷ p) q = add (scale a q) (o.zer ∷ mul p q)

  -- the leading coefficient, 0 for the zero polynomial
  unfoldable pub lead : List A → A
  lead p = at p (size p - 1)

  -- one more coefficient a below those divided already: t = a + x·rem, less c·b for the c that clears its top
  unfoldable pub put : A → List A → A → Split A → Split A
  put u b a s =
      let t : List A = a ∷ s.rem in
      let c : A = o.mul (at t (length b - 1)) u in
      record { quo = c ∷ s.quo; rem = sub t (scale c b) }

  -- from the top coefficient down, by b with no zero at its end, whose leading coefficient has the inverse u
  unfoldable pub divide : A → List A → List A → Split A
  divide u b [] = record { quo = []; rem = [] }
  divide u b (a ∷ p) = put u b a (divide u b p)

  -- "Div and mod are division with remainder." By the zero polynomial the quotient is 0 and the remainder is
  -- the dividend.
  unfoldable pub quo : List A → List A → List A
  quo a b = trim (divide (o.inv (lead b)) (trim b) a).quo

  unfoldable pub rem : List A → List A → List A
  rem a b = (divide (o.inv (lead b)) (trim b) a).rem

  unfoldable pub monic : List A → List A
  monic a = scale (o.inv (lead a)) a

  -- "The greatest common divisor of A and B is that of B and the remainder of A by B; it is A made monic
  -- where B is zero, and zero where both are." The remainder is shorter each time, so that as many turns as B
  -- has coefficients, and one, are enough.
  unfoldable pub gcd_in : ℕ → List A → List A → List A
  gcd_in zero a b = a
  gcd_in (suc k) a [] = monic a
  gcd_in (suc k) a (b ∷ l) = gcd_in k (b ∷ l) (rem a (b ∷ l))

  unfoldable pub gcd : List A → List A → List A
  gcd a b = gcd_in (suc (length b)) a (trim b)

  -- the same, with factors u and v
  unfoldable pub bezout_in : ℕ → List A → List A → Bezout A
  bezout_in zero a b = record { gcd = a; u = o.one ∷ []; v = [] }
  bezout_in (suc k) a [] = record { gcd = monic a; u = trim (o.inv (lead a) ∷ []); v = [] }
  bezout_in (suc k) a (b ∷ l) =
      let r : Bezout A = bezout_in k (b ∷ l) (rem a (b ∷ l)) in
      record { gcd = r.gcd; u = r.v; v = sub r.u (mul (quo a (b ∷ l)) r.v) }

  unfoldable pub bezout : List A → List A → Bezout A
  bezout a b = bezout_in (suc (length b)) a (trim b)

  -- a + .. + a, k times
  unfoldable pub times : ℕ → A → A
  times zero a = o.zer
  times (suc k) a = o.add a (times k a)

  -- the coefficients of k·a_k x^(k−1) + (k+1)·a_(k+1) x^k + ..
  unfoldable pub times_from : ℕ → List A → List A
  times_from k [] = []
  times_from k (a ∷ p) = times k a ∷ times_from (suc k) p

  unfoldable pub derivative : List A → List A
  derivative [] = []
  derivative (a ∷ p) = trim (times_from 1 p)

  -- c·x^e
  unfoldable pub monomial : A → ℕ → List A
  monomial c zero = c ∷ []
  monomial c (suc e) = o.zer ∷ monomial c e

  -- d so far, whose coefficients below x^e are still to come: the next one makes the coefficient of x^(e−1+N)
  -- in D − d² vanish
  unfoldable pub root_in : List A → ℕ → ℕ → List A → List A
  root_in D N zero d = d
  root_in D N (suc e) d = root_in D N e (add d (monomial (o.mul (at (sub D (mul d d)) (e + N)) (o.inv (o.add o.one o.one))) e))

  -- "d is the monic polynomial of degree g+1 with deg(D − d²) at most g": here N is g+1
  unfoldable pub root : List A → ℕ → List A
  root D N = root_in D N N (monomial o.one N)
