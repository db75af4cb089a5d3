-- Bezout's factors as records: they fit, by their lengths, and each turn of the recursion is a rule of the
-- definition.
use Rattle.std.specs.Prelude.{◌≡◌, List, [], ◌∷◌, ℕ, ◌<◌, ◌≤◌, length}
use Rattle.std.proofs.Common.{sym, ◌∙◌, subst, ⊎_elim, arith}
use Rattle.std.proofs.Math.Path.{ap}
use Rattle.math_ring.specs.Order.{le_or_lt}
use Rattle.spec_arithmetic.specs.Field.{modulo, prime}
use Rattle.spec_arithmetic.specs.Polynomials.{Bezout, trim, sub, mul, lead, quo, rem, monic, gcd, bezout}
use Rattle.spec_bridge.specs.Model.{Inverts}
use Rattle.spec_bridge.specs.Trim.{trim_nil}
use Rattle.spec_bridge.specs.Gcd.{bezout_next, bezout_last, bezout_zero, bezout_rule, bezout_gcd}
use Rattle.spec_bridge.specs.Bezout.{trim_bezout_u, oks_bezout_u, trim_bezout_v, oks_bezout_v}
use Rattle.spec_bridge.specs.BezoutLength.{bezout_u_length, bezout_u_constant, bezout_v_length}
use Rattle.spec_bridge.specs.Prime.{Prime}
use Rattle.spec_bridge.specs.Residues.{model, inverts}
use Rattle.base_polynomial.specs.Record.{poly, Held, Is}
use Rattle.base_polynomial.specs.Held.{held_positive}
use Rattle.base_polynomial.specs.Result.{Result, result, held_size, result_gcd}

-- the definition's, of two records
abbrev pub factors : ℕ → List ℕ → ℕ → List ℕ → ℕ → Bezout ℕ
factors q a m b n = bezout (modulo q) (poly a m) (poly b n)

module _ (q : ℕ) (p : Prime q) (a : List ℕ) (m : ℕ) (held_a : Held (prime q) a m) (b : List ℕ) (n : ℕ) (held_b : Held (prime q) b n) where
  pos : 0 < q
  pos = held_positive q a m held_a

  I : Inverts (model q pos)
  I = inverts q pos p

  size_a : length (trim (modulo q) (poly a m)) ≡ m
  size_a = held_size q a m held_a

  size_b : length (trim (modulo q) (poly b n)) ≡ n
  size_b = held_size q b n held_b

  -- ---- the factors are held
  u_short : length (factors q a m b n).u ≤ 129
  u_short = ⊎_elim (λ h. let y = size_b in let t = held_b.short in let l = bezout_u_length (model q pos) I (poly a m) (poly b n) (omega arith) in omega arith) (λ h. let y = size_b in let l = bezout_u_constant (model q pos) I (poly a m) (poly b n) (trim_nil (model q pos) (poly b n) (omega arith)) in omega arith) (le_or_lt 1 n)

  v_short : length (factors q a m b n).v ≤ 129
  v_short = let x = size_a in let s = held_a.short in bezout_v_length (model q pos) I (poly a m) (poly b n) 129 (omega arith) (omega arith)

  module _ (c : List ℕ) (size : ℕ) where
    pub result_u : Is (prime q) c size (factors q a m b n).u → Result q c size (factors q a m b n).u
    result_u r = result q c size _ r u_short (trim_bezout_u (model q pos) I (poly a m) (poly b n)) (oks_bezout_u (model q pos) I (poly a m) (poly b n))

    pub result_v : Is (prime q) c size (factors q a m b n).v → Result q c size (factors q a m b n).v
    result_v r = result q c size _ r v_short (trim_bezout_v (model q pos) I (poly a m) (poly b n)) (oks_bezout_v (model q pos) I (poly a m) (poly b n))

    pub result_factor_gcd : Is (prime q) c size (factors q a m b n).gcd → Result q c size (gcd (modulo q) (poly a m) (poly b n))
    result_factor_gcd r = result_gcd q a m held_a b n held_b c size p (subst (λ (l : List ℕ). Is (prime q) c size l) (bezout_gcd (model q pos) I (poly a m) (poly b n)) r)

    pub size_v : 0 < m → Is (prime q) c size (factors q a m b n).v → size ≤ m
    size_v h r =
        let x = size_a in
        let e = r.size_is in
        let l = bezout_v_length (model q pos) I (poly a m) (poly b n) m (omega arith) (omega arith) in
        omega arith

  -- ---- the two rules
  module _ (none : n ≡ 0) where
    last : factors q a m b n ≡ bezout_last (modulo q) (poly a m)
    last = bezout_zero (model q pos) I (poly a m) (poly b n) (trim_nil (model q pos) (poly b n) (size_b ∙ none))

    pub none_gcd : (factors q a m b n).gcd ≡ monic (modulo q) (poly a m)
    unfolding bezout_last
    none_gcd = ap (λ (e : Bezout ℕ). e.gcd) last

    pub none_u : (factors q a m b n).u ≡ trim (modulo q) ((modulo q).inv (lead (modulo q) (poly a m)) ∷ [])
    unfolding bezout_last
    none_u = ap (λ (e : Bezout ℕ). e.u) last

    pub none_v : (factors q a m b n).v ≡ []
    unfolding bezout_last
    none_v = ap (λ (e : Bezout ℕ). e.v) last

  module _ (some : 0 < n) (r : List ℕ) (r_is : r ≡ rem (modulo q) (poly a m) (poly b n)) where
    abbrev below : Bezout ℕ
    below = bezout (modulo q) (poly b n) r

    next : factors q a m b n ≡ bezout_next (modulo q) (quo (modulo q) (poly a m) (poly b n)) below
    next = let y = size_b in bezout_rule (model q pos) I (poly a m) (poly b n) (omega arith) ∙ ap (λ (l : List ℕ). bezout_next (modulo q) (quo (modulo q) (poly a m) (poly b n)) (bezout (modulo q) (poly b n) l)) (sym r_is)

    pub some_gcd : (factors q a m b n).gcd ≡ below.gcd
    unfolding bezout_next
    some_gcd = ap (λ (e : Bezout ℕ). e.gcd) next

    pub some_u : (factors q a m b n).u ≡ below.v
    unfolding bezout_next
    some_u = ap (λ (e : Bezout ℕ). e.u) next

    pub some_v : (factors q a m b n).v ≡ sub (modulo q) below.u (mul (modulo q) (quo (modulo q) (poly a m) (poly b n)) below.v)
    unfolding bezout_next
    some_v = ap (λ (e : Bezout ℕ). e.v) next
