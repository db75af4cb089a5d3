-- The calls `product` and `giant_step`: the ideal product, its reduction, f and the signed distance.
use Rattle.std.specs.Prelude.{ℕ, zero, suc, ◌+◌, Bool, true, false, not, ◌&&◌, ◌||◌, List, [], leb, ltb, eqb, ℤ, pos, ◌+ℤ◌, ◌-ℤ◌, length}
use Rattle.spec_arithmetic.specs.Field.{Ops, fits}
use Rattle.spec_arithmetic.specs.Polynomials.{add, sub, mul, quo, rem, size, deg, lead, Bezout, bezout}
use Rattle.spec_arithmetic.specs.Words.{some_not}
use Rattle.spec_definitions.specs.Ticket.{Ticket, genus, ticket_of, refusal_of}
use Rattle.spec_definitions.specs.Walk.{Ideal, partial, steps}
use Rattle.spec_definitions.specs.Answers.{ops_of, root_of}
use Rattle.spec_definitions.specs.Listing.{ideal_of}

-- S, and the pair (Q, P)
pub record Product (A : Type 0) : Type 0 where
  pub s : List A
  pub ideal : Ideal A

module _ {A : Type 0} (o : Ops A) (D : List A) where
  -- "S = gcd(Q_1, Q_2, P_1 + P_2), with U, V, W such that S = U·Q_1 + V·Q_2 + W·(P_1 + P_2)": by two greatest
  -- common divisors "Q = Q_1·Q_2 / S²"; "P = (P_1 + (Q_1/S)·(U·(P_2 − P_1) + W·(D − P_1²)/Q_1)) mod Q"
  unfoldable pub product_of : Ideal A → Ideal A → Product A
  product_of x y =
      let b : Bezout A = bezout o x.q y.q in
      let c : Bezout A = bezout o b.gcd (add o x.p y.p) in
      let S : List A = c.gcd in
      let U : List A = mul o c.u b.u in
      let W : List A = c.v in
      let Q : List A = quo o (mul o x.q y.q) (mul o S S) in
      let inner : List A = add o (mul o U (sub o y.p x.p)) (mul o W (quo o (sub o D (mul o x.p x.p)) x.q)) in
      record { s = S; ideal = record { q = Q; p = rem o (add o x.p (mul o (quo o x.q S) inner)) Q } }

module _ {A : Type 0} (o : Ops A) (D d : List A) (g : ℕ) where
  -- "until the first k from 0 up with deg Q_k at most g": from j up, within as many turns as the first number
  -- says
  unfoldable pub reduced_from : ℕ → Ideal A → ℕ → ℕ
  reduced_from zero s j = j
  reduced_from (suc k) s j = elim (leb (size o (steps o D d s j).q) (suc g)) [ true ↦ j | false ↦ reduced_from k s (suc j) ]

  -- the degree of Q falls with each step until it is at most g, so that as many turns as Q has coefficients
  -- are enough
  unfoldable pub turns_of : Ideal A → ℕ
  turns_of s = reduced_from (size o s.q) s 0

  -- "sum of deg a_j, j from 1 to k"
  unfoldable pub degree_sum : Ideal A → ℕ → ℕ
  degree_sum s zero = 0
  degree_sum s (suc k) = degree_sum s k + deg o (partial o D d (steps o D d s (suc k)))

  -- "f = deg Q_k − deg Q + (sum of deg a_j, j from 1 to k) − deg S"; source 000, theorem 3.7, calls it the
  -- "error" of the two distances' sum
  unfoldable pub shift_of : Product A → ℤ
  shift_of r =
      let k : ℕ = turns_of r.ideal in
      pos (deg o (steps o D d r.ideal k).q) -ℤ pos (deg o r.ideal.q) +ℤ pos (degree_sum r.ideal k) -ℤ pos (deg o r.s)

pub record ProductAnswer : Type 0 where
  pub number : ℕ
  pub s : List ℕ
  pub q : List ℕ
  pub p : List ℕ

pub record GiantStepAnswer : Type 0 where
  pub number : ℕ
  pub q : List ℕ
  pub p : List ℕ
  pub f : ℤ
  pub distance : ℤ

-- 2^40, the largest distance that a giant step takes
abbrev pub farthest : ℕ
farthest = 1099511627776

-- "10 (giant step only): a distance is above 2^40"
unfoldable pub wrong_distance : ℕ → ℕ → Bool
wrong_distance d e = ltb farthest d || ltb farthest e

module _ (t : Ticket) where
  -- "A pair is g+1 and g coefficients below q, Q monic, deg P < deg Q, Q dividing D − P²."
  unfoldable pub is_pair : Ideal ℕ → Bool
  is_pair x =
      eqb (length x.q) (suc (genus t.n)) && eqb (length x.p) (genus t.n) && not (some_not (fits t.field) x.q) && not (some_not (fits t.field) x.p)
      && eqb (lead (ops_of t) x.q) 1 && ltb (size (ops_of t) x.p) (size (ops_of t) x.q)
      && eqb (size (ops_of t) (rem (ops_of t) (sub (ops_of t) t.D (mul (ops_of t) x.p x.p)) x.q)) 0

  -- "9 (product and giant step): a pair has the wrong number of coefficients or isn't an ideal as described
  -- below"
  unfoldable pub wrong_pair : Ideal ℕ → Ideal ℕ → Bool
  wrong_pair x y = not (is_pair x) || not (is_pair y)

  -- "The product answers S, Q and P."
  unfoldable pub product_done : Ideal ℕ → Ideal ℕ → ProductAnswer
  product_done x y = let r = product_of (ops_of t) t.D x y in record { number = 0; s = r.s; q = r.ideal.q; p = r.ideal.p }

  -- "The answer is that ideal, Q_k monic, P_k mod it, with f and the two distances' sum plus f, a signed
  -- number."
  unfoldable pub giant_done : Ideal ℕ → ℕ → Ideal ℕ → ℕ → GiantStepAnswer
  giant_done x d y e =
      let r = product_of (ops_of t) t.D x y in
      let i = ideal_of (ops_of t) (steps (ops_of t) t.D (root_of t) r.ideal (turns_of (ops_of t) t.D (root_of t) (genus t.n) r.ideal)) in
      let f = shift_of (ops_of t) t.D (root_of t) (genus t.n) r in
      record { number = 0; q = i.q; p = i.p; f = f; distance = pos (d + e) +ℤ f }

-- "A refusal returns its number ..; polynomials, f and distances in the same answer are then zero."
unfoldable pub product_refused : ℕ → ProductAnswer
product_refused k = record { number = k; s = []; q = []; p = [] }

unfoldable pub giant_refused : ℕ → GiantStepAnswer
giant_refused k = record { number = k; q = []; p = []; f = pos 0; distance = pos 0 }

-- the call `product`
unfoldable pub product_answer : List ℕ → Ideal ℕ → Ideal ℕ → ProductAnswer
product_answer w x y =
    elim (refusal_of w) [
      | zero ↦ elim (wrong_pair (ticket_of w) x y) [ true ↦ product_refused 9 | false ↦ product_done (ticket_of w) x y ]
      | suc k ↦ product_refused (suc k)
    ]

-- the call `giant_step`
unfoldable pub giant_answer : List ℕ → Ideal ℕ → ℕ → Ideal ℕ → ℕ → GiantStepAnswer
giant_answer w x d y e =
    elim (refusal_of w) [
      | zero ↦ elim (wrong_pair (ticket_of w) x y) [
        | true ↦ giant_refused 9
        | false ↦ elim (wrong_distance d e) [ true ↦ giant_refused 10 | false ↦ giant_done (ticket_of w) x d y e ]
      ]
      | suc k ↦ giant_refused (suc k)
    ]
