-- What a caller keeps of a result: it is held, and its polynomial is the definition's. By the laws of trimmed
-- lists and their lengths.
use Rattle.std.specs.Prelude.{ℕ, ◌+◌, ◌-◌, ◌<◌, ◌≤◌, ◌≡◌, List, length, get_or}
use Rattle.std.proofs.Common.{arith, sym, ap, ◌∙◌}
use Rattle.spec_arithmetic.specs.Field.{modulo, prime}
use Rattle.spec_arithmetic.specs.Polynomials.{trim, add, sub, scale, monic, mul, quo, rem, gcd}
use Rattle.spec_bridge.specs.Model.{Inverts}
use Rattle.spec_bridge.specs.Trim.{trim_idem, length_trim, at_trim, oks_trim}
use Rattle.spec_bridge.specs.Arithmetic.{trim_add, trim_sub, trim_scale, trim_mul, oks_add, oks_sub, oks_scale, oks_mul}
use Rattle.spec_bridge.specs.Lengths.{length_add, length_sub, length_scale, length_mul}
use Rattle.spec_bridge.specs.Division.{trim_quo, oks_quo, trim_rem, oks_rem, rem_less}
use Rattle.spec_bridge.specs.Quotient.{quo_length, rem_length}
use Rattle.spec_bridge.specs.Bezout.{trim_gcd, oks_gcd, length_gcd}
use Rattle.spec_bridge.specs.Prime.{Prime}
use Rattle.spec_bridge.specs.Residues.{model, inverts}
use Rattle.base_polynomial.specs.Record.{poly, Held, Is}
use Rattle.base_polynomial.specs.Held.{held_positive, length_poly, is_poly, is_held}
use Rattle.base_places.specs.Places.{Top}
use Rattle.base_polynomial.specs.Linear.{is_result}

pub record Result (q : ℕ) (c : List ℕ) (size : ℕ) (l : List ℕ) : Type 0 where
  pub held : Held (prime q) c size
  pub is : poly c size ≡ l

pub result : (q : ℕ) (c : List ℕ) (size : ℕ) (l : List ℕ) → Is (prime q) c size l → length l ≤ 129 → trim (modulo q) l ≡ l → ((i : ℕ) → get_or l i 0 < q) → Result q c size l
result q c size l h s t r = record { held = is_held q c size l h s t r; is = is_poly q c size l h s }

-- the size is that of the polynomial
pub held_size : (q : ℕ) (a : List ℕ) (n : ℕ) → Held (prime q) a n → length (trim (modulo q) (poly a n)) ≡ n
held_size q a n h = ap length h.trimmed ∙ length_poly q a n h

pub length_held : (q : ℕ) (a : List ℕ) (n : ℕ) → Held (prime q) a n → length (trim (modulo q) (poly a n)) ≤ 129
length_held q a n h = let e : length (trim (modulo q) (poly a n)) ≡ n = held_size q a n h in let s : n ≤ 129 = h.short in omega arith

module _ (q : ℕ) (a : List ℕ) (m : ℕ) (held_a : Held (prime q) a m) (c : List ℕ) (size : ℕ) where
  pos : 0 < q
  pos = held_positive q a m held_a

  module _ (b : List ℕ) (n : ℕ) (held_b : Held (prime q) b n) where
    pub result_add : Is (prime q) c size (add (modulo q) (poly a m) (poly b n)) → Result q c size (add (modulo q) (poly a m) (poly b n))
    result_add h = result q c size _ h (length_add (model q pos) _ _ 129 (length_held q a m held_a) (length_held q b n held_b)) (trim_add (model q pos) _ _) (oks_add (model q pos) _ _)

    pub result_sub : Is (prime q) c size (sub (modulo q) (poly a m) (poly b n)) → Result q c size (sub (modulo q) (poly a m) (poly b n))
    result_sub h = result q c size _ h (length_sub (model q pos) _ _ 129 (length_held q a m held_a) (length_held q b n held_b)) (trim_sub (model q pos) _ _) (oks_sub (model q pos) _ _)

  pub result_scale : (k : ℕ) → Is (prime q) c size (scale (modulo q) k (poly a m)) → Result q c size (scale (modulo q) k (poly a m))
  result_scale k h =
      let s = length_scale (model q pos) k (poly a m) in
      let w = length_held q a m held_a in
      result q c size _ h (omega arith) (trim_scale (model q pos) k (poly a m)) (oks_scale (model q pos) k (poly a m))

  pub result_monic : Is (prime q) c size (monic (modulo q) (poly a m)) → Result q c size (monic (modulo q) (poly a m))
  unfolding monic
  result_monic h = result_scale _ h

-- 129 reduced places with their size are a record
pub held_top : (q : ℕ) (c : List ℕ) (size : ℕ) → length c ≡ 129 → ((i : ℕ) → get_or c i 0 < q) → Top c size → Held (prime q) c size
held_top q c size e r t = is_held q c size (trim (modulo q) c) is_trim (let l = length_trim (model q pos) c in omega arith) (trim_idem (model q pos) c) (oks_trim (model q pos) c r)
  where
    pos : 0 < q
    pos = let w : get_or c 0 0 < q = r 0 in omega arith

    is_trim : Is (prime q) c size (trim (modulo q) c)
    is_trim = is_result q pos c size (trim (modulo q) c) (trim_idem (model q pos) c) (record { long = e; at = λ i. sym (at_trim (model q pos) c r i) }) t

module _ (q : ℕ) (a : List ℕ) (m : ℕ) (held_a : Held (prime q) a m) (b : List ℕ) (n : ℕ) (held_b : Held (prime q) b n) (c : List ℕ) (size : ℕ) where
  positive : 0 < q
  positive = held_positive q a m held_a

  size_a : length (trim (modulo q) (poly a m)) ≡ m
  size_a = held_size q a m held_a

  size_b : length (trim (modulo q) (poly b n)) ≡ n
  size_b = held_size q b n held_b

  pub result_mul : m + n ≤ 130 → Is (prime q) c size (mul (modulo q) (poly a m) (poly b n)) → Result q c size (mul (modulo q) (poly a m) (poly b n))
  result_mul h r =
      let x = size_a in
      let y = size_b in
      result q c size _ r (length_mul (model q positive) _ _ 129 (omega arith)) (trim_mul (model q positive) _ _) (oks_mul (model q positive) _ _)

  -- by a polynomial that is not 0
  pub result_quo : 0 < n → Is (prime q) c size (quo (modulo q) (poly a m) (poly b n)) → Result q c size (quo (modulo q) (poly a m) (poly b n))
  result_quo h r =
      let x = size_a in
      let y = size_b in
      let s = held_a.short in
      let l = quo_length (model q positive) (poly a m) (poly b n) in
      result q c size _ r (omega arith) (trim_quo (model q positive) _ _) (oks_quo (model q positive) _ _)

  pub size_quo : Is (prime q) c size (quo (modulo q) (poly a m) (poly b n)) → size ≤ m + 1 - n
  size_quo r =
      let x = size_a in
      let y = size_b in
      let l = quo_length (model q positive) (poly a m) (poly b n) in
      let e = r.size_is in
      omega arith

  module _ (p : Prime q) where
    I : Inverts (model q positive)
    I = inverts q positive p

    pub result_rem : Is (prime q) c size (rem (modulo q) (poly a m) (poly b n)) → Result q c size (rem (modulo q) (poly a m) (poly b n))
    result_rem r =
        let x = size_a in
        let s = held_a.short in
        let l = rem_length (model q positive) I (poly a m) (poly b n) in
        result q c size _ r (omega arith) (trim_rem (model q positive) _ _) (oks_rem (model q positive) _ _)

    pub size_rem : 0 < n → Is (prime q) c size (rem (modulo q) (poly a m) (poly b n)) → size < n
    size_rem h r =
        let y = size_b in
        let l = rem_less (model q positive) I (poly a m) (poly b n) (omega arith) in
        let e = r.size_is in
        omega arith

    pub result_gcd : Is (prime q) c size (gcd (modulo q) (poly a m) (poly b n)) → Result q c size (gcd (modulo q) (poly a m) (poly b n))
    result_gcd r = result q c size _ r (length_gcd (model q positive) I _ _ 129 (length_held q a m held_a) (length_held q b n held_b)) (trim_gcd (model q positive) I _ _) (oks_gcd (model q positive) I _ _)
