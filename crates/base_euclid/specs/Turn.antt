-- One turn of the recursion: from the arrays of quotient and remainder and of the factors of b and the
-- remainder to the factors of a and b.
use Rattle.std.specs.Prelude.{ℕ, ◌+◌, ◌<◌, ◌≤◌, ◌≡◌, List, [], ◌∷◌, length}
use Rattle.std.proofs.Common.{arith, sym, ap, ap₂, ◌∙◌, subst}
use Rattle.spec_arithmetic.specs.Field.{modulo, prime}
use Rattle.spec_arithmetic.specs.Polynomials.{trim, lead, monic, sub, mul, quo, rem, gcd}
use Rattle.spec_bridge.specs.Prime.{Prime}
use Rattle.spec_bridge.specs.Residues.{model, inverts}
use Rattle.base_places.specs.Record.{poly, Held, Is}
use Rattle.base_places.specs.Held.{held_positive}
use Rattle.base_polynomial.specs.Result.{Result, held_size, result_quo, size_quo, result_rem}
use Rattle.base_polynomial.specs.Gcd.{gcd_none, gcd_some}
use Rattle.base_polynomial.specs.Bezout.{factors, result_u, result_v, size_v, none_gcd, none_u, none_v, some_gcd, some_u, some_v}
use Rattle.base_euclid.specs.Constant.{constant_gcd, constant_factor_gcd, constant_u, constant_v}

-- the last turn, where b is 0
module _ (q : ℕ) (p : Prime q) {a : List ℕ} {m : ℕ} (held_a : Held (prime q) a m) {b : List ℕ} {n : ℕ} (held_b : Held (prime q) b n) (none : n ≡ 0) (c : List ℕ) (k : ℕ) where
  pub gcd_last : Is (prime q) c k (monic (modulo q) (poly a m)) → Is (prime q) c k (gcd (modulo q) (poly a m) (poly b n))
  gcd_last = subst (λ (x : List ℕ). Is (prime q) c k x) (sym (gcd_none q p a m b n held_b none))

  pub last_gcd : Is (prime q) c k (monic (modulo q) (poly a m)) → Is (prime q) c k (factors q a m b n).gcd
  last_gcd = subst (λ (x : List ℕ). Is (prime q) c k x) (sym (none_gcd q p a m held_a b n held_b none))

  pub last_u : Is (prime q) c k (trim (modulo q) ((modulo q).inv (lead (modulo q) (poly a m)) ∷ [])) → Is (prime q) c k (factors q a m b n).u
  last_u = subst (λ (x : List ℕ). Is (prime q) c k x) (sym (none_u q p a m held_a b n held_b none))

  pub last_v : Is (prime q) c k [] → Is (prime q) c k (factors q a m b n).v
  last_v = subst (λ (x : List ℕ). Is (prime q) c k x) (sym (none_v q p a m held_a b n held_b none))

-- the turn before it, where b is constant
module _ (q : ℕ) (p : Prime q) {a : List ℕ} {m : ℕ} (held_a : Held (prime q) a m) {b : List ℕ} {n : ℕ} (held_b : Held (prime q) b n) (one : n ≡ 1) (c : List ℕ) (k : ℕ) where
  pos : 0 < q
  pos = held_positive q b n held_b

  size_b : length (trim (modulo q) (poly b n)) ≡ 1
  size_b = held_size q b n held_b ∙ one

  pub gcd_one : Is (prime q) c k (monic (modulo q) (poly b n)) → Is (prime q) c k (gcd (modulo q) (poly a m) (poly b n))
  gcd_one = subst (λ (x : List ℕ). Is (prime q) c k x) (sym (constant_gcd (model q pos) (inverts q pos p) (poly a m) (poly b n) size_b))

  pub one_gcd : Is (prime q) c k (monic (modulo q) (poly b n)) → Is (prime q) c k (factors q a m b n).gcd
  one_gcd = subst (λ (x : List ℕ). Is (prime q) c k x) (sym (constant_factor_gcd (model q pos) (inverts q pos p) (poly a m) (poly b n) size_b))

  pub one_u : Is (prime q) c k [] → Is (prime q) c k (factors q a m b n).u
  one_u = subst (λ (x : List ℕ). Is (prime q) c k x) (sym (constant_u (model q pos) (inverts q pos p) (poly a m) (poly b n) size_b))

  pub one_v : Is (prime q) c k (trim (modulo q) ((modulo q).inv (lead (modulo q) (poly b n)) ∷ [])) → Is (prime q) c k (factors q a m b n).v
  one_v = subst (λ (x : List ℕ). Is (prime q) c k x) (sym (constant_v (model q pos) (inverts q pos p) (poly a m) (poly b n) size_b))

module _ (q : ℕ) (p : Prime q) {a : List ℕ} {m : ℕ} (held_a : Held (prime q) a m) {b : List ℕ} {n : ℕ} (held_b : Held (prime q) b n) (some : 0 < n) where
  module _ {r : List ℕ} {r_size : ℕ} (r_is : Is (prime q) r r_size (rem (modulo q) (poly a m) (poly b n))) where
    remainder : Result q r r_size (rem (modulo q) (poly a m) (poly b n))
    remainder = result_rem q a m held_a b n held_b r r_size p r_is

    pub turn_held : Held (prime q) r r_size
    turn_held = remainder.held

    pub gcd_turn : (c : List ℕ) (k : ℕ) → Is (prime q) c k (gcd (modulo q) (poly b n) (poly r r_size)) → Is (prime q) c k (gcd (modulo q) (poly a m) (poly b n))
    gcd_turn c k = subst (λ (x : List ℕ). Is (prime q) c k x) (ap (gcd (modulo q) (poly b n)) remainder.is ∙ sym (gcd_some q p a m b n held_b some))

    pub turn_gcd : (c : List ℕ) (k : ℕ) → Is (prime q) c k (factors q b n r r_size).gcd → Is (prime q) c k (factors q a m b n).gcd
    turn_gcd c k = subst (λ (x : List ℕ). Is (prime q) c k x) (sym (some_gcd q p a m held_a b n held_b some (poly r r_size) remainder.is))

    pub turn_u : (c : List ℕ) (k : ℕ) → Is (prime q) c k (factors q b n r r_size).v → Is (prime q) c k (factors q a m b n).u
    turn_u c k = subst (λ (x : List ℕ). Is (prime q) c k x) (sym (some_u q p a m held_a b n held_b some (poly r r_size) remainder.is))

    -- the factors of b and the remainder, which u and v hold after the exchange
    module _ {v : List ℕ} {v_size : ℕ} (v_is : Is (prime q) v v_size (factors q b n r r_size).u) {u : List ℕ} {u_size : ℕ} (u_is : Is (prime q) u u_size (factors q b n r r_size).v) where
      held_v : Result q v v_size (factors q b n r r_size).u
      held_v = result_u q p b n held_b r r_size turn_held v v_size v_is

      held_u : Result q u u_size (factors q b n r r_size).v
      held_u = result_v q p b n held_b r r_size turn_held u u_size u_is

      pub turn_v_held : Held (prime q) v v_size
      turn_v_held = held_v.held

      pub turn_u_held : Held (prime q) u u_size
      turn_u_held = held_u.held

      -- the quotient, in w
      module _ {w : List ℕ} {w_size : ℕ} (w_is : Is (prime q) w w_size (quo (modulo q) (poly a m) (poly b n))) where
        held_w : Result q w w_size (quo (modulo q) (poly a m) (poly b n))
        held_w = result_quo q a m held_a b n held_b w w_size some w_is

        pub turn_w_held : Held (prime q) w w_size
        turn_w_held = held_w.held

        pub turn_fits : w_size + u_size ≤ 130
        turn_fits =
            let x = size_v q p b n held_b r r_size turn_held u u_size some u_is in
            let y = size_quo q a m held_a b n held_b w w_size w_is in
            let s = held_a.short in
            let t = held_b.short in
            omega arith

        pub turn_v : (c : List ℕ) (k : ℕ) → Is (prime q) c k (sub (modulo q) (poly v v_size) (mul (modulo q) (poly w w_size) (poly u u_size))) → Is (prime q) c k (factors q a m b n).v
        turn_v c k =
            subst (λ (x : List ℕ). Is (prime q) c k x)
            (ap₂ (sub (modulo q)) held_v.is (ap₂ (mul (modulo q)) held_w.is held_u.is) ∙ sym (some_v q p a m held_a b n held_b some (poly r r_size) remainder.is))
