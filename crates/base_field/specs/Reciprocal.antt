-- The quotient of x by q from c, the quotient of 2³² − 1 by q: k, the upper half of x·c, is x div q or one
-- less. For 2³²·(x − k·q) is q·(lower half) + x·(1 + remainder of 2³² − 1), below 2³²·2q.
use Rattle.std.specs.Prelude.{ℕ, ◌+◌, ◌*◌, ◌-◌, ◌/◌, ◌%◌, ◌≤◌, ◌<◌, suc, ◌≡◌}
use Rattle.std.proofs.Common.{mod-lt, mod-eq_of_lt, mul-add, mul_comm, mul_left_comm, mul-le-mul_left, mul-le-mul_right, arith, sym, ap, ◌∙◌}
use Rattle.std.proofs.Math.Nat.{div-add-mod, mul-add-mod_self_left}
use Rattle.base_field.specs.Numbers.{largest, range}

module _ (q c x : ℕ) (pos : 0 < q) (is : c ≡ largest / q) (fits : x < range) where
  abbrev k : ℕ
  k = x * c / range

  -- 2³²·(k·q) + q·(lower half) + x·(remainder) is (2³² − 1)·x
  whole : range * (k * q) + q * ((x * c) % range) + x * (largest % q) ≡ largest * x
  whole =
      let f : ℕ = (x * c) % range in
      let e : ℕ = largest % q in
      let halves : range * k + f ≡ x * c = div-add-mod (x * c) range in
      let parts : q * c + e ≡ largest = ap (λ n. q * n + e) is ∙ div-add-mod largest q in
      let scaled : q * (range * k) + q * f ≡ q * (x * c) = sym (mul-add q (range * k) f) ∙ ap (λ n. q * n) halves in
      let moved : q * (range * k) ≡ range * (k * q) = mul_left_comm q range k ∙ ap (λ n. range * n) (mul_comm q k) in
      let turned : q * (x * c) ≡ x * (q * c) = mul_left_comm q x c in
      let times : x * (q * c) + x * e ≡ x * largest = sym (mul-add x (q * c) e) ∙ ap (λ n. x * n) parts in
      let last : x * largest ≡ largest * x = mul_comm x largest in
      omega arith

  pub quotient_le : k * q ≤ x
  quotient_le = let w = whole in omega arith

  pub rest_less : x - k * q < 2 * q
  rest_less =
      let w = whole in
      let f : ℕ = (x * c) % range in
      let e : ℕ = largest % q in
      let low : f < range = mod-lt _ (omega arith) in
      let small : e < q = mod-lt _ pos in
      let a : q * f ≤ q * largest = mul-le-mul_left q (omega arith) in
      let b : x * suc e ≤ x * q = mul-le-mul_left x small in
      let d : x * q ≤ largest * q = mul-le-mul_right q (omega arith) in
      let s : x * suc e ≡ x * e + x = omega arith in
      let t : q * largest ≡ largest * q = mul_comm q largest in
      omega arith

  -- what is left is the remainder, or q more
  pub rest_mod : (r : ℕ) → r + k * q ≡ x → r < q → r ≡ x % q
  rest_mod r e h = sym (ap (λ n. n % q) (let w : x ≡ q * k + r = (let v : k * q ≡ q * k = mul_comm k q in omega arith) in w) ∙ mul-add-mod_self_left q k r ∙ mod-eq_of_lt h)

  pub rest_mod_more : (r : ℕ) → r + q + k * q ≡ x → r < q → r ≡ x % q
  rest_mod_more r e h = sym (ap (λ n. n % q) (let w : x ≡ q * suc k + r = (let v : q * suc k ≡ q * k + q = omega arith in let u : k * q ≡ q * k = mul_comm k q in omega arith) in w) ∙ mul-add-mod_self_left q (suc k) r ∙ mod-eq_of_lt h)
