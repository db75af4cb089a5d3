-- The quotient and the remainder of two records: the quotient's size, its coefficients from the top one down in
-- an array, and the records of both.
use Rattle.std.specs.Prelude.{ℕ, ◌+◌, ◌-◌, ◌<◌, ◌≤◌, ◌≡◌, refl, List, [], ◌∷◌, length, get_or}
use Rattle.std.proofs.Common.{arith, sym, ap, ap₂, ◌∙◌, subst}
use Rattle.std.proofs.Math.Path.{fun_ext}
use Rattle.math_ring.specs.Residues.{Fq, FqRing}
use Rattle.math_ring.specs.Degree.{Below, below_add, below_conv}
use Rattle.spec_arithmetic.specs.Field.{FieldName, modulo, prime, ops}
use Rattle.spec_arithmetic.specs.Polynomials.{trim, sub, mul, quo, rem}
use Rattle.spec_bridge.specs.Model.{series}
use Rattle.spec_bridge.specs.Arithmetic.{mul_cong}
use Rattle.spec_bridge.specs.Trim.{series_ext, size_le, below_size, below_length}
use Rattle.spec_bridge.specs.Division.{trim_rem, oks_rem, series_quo_rem, rem_below}
use Rattle.spec_bridge.specs.Quotient.{quo_length, rem_low}
use Rattle.spec_bridge.specs.Prime.{Prime}
use Rattle.spec_bridge.specs.Residues.{model, inverts}
use Rattle.base_places.specs.Places.{Within, Filled}
use Rattle.base_places.specs.Record.{poly, Held, Is}
use Rattle.base_places.specs.Pad.{length_pad, at_pad}
use Rattle.base_places.specs.Held.{held_positive, length_poly, at_poly, is_of}
use Rattle.base_places.specs.Down.{Down, down_none, down_all}
use Rattle.base_places.specs.Quotient as quotients
use Rattle.base_polynomial.specs.Result.{held_size}

-- the zero polynomial's places, before the first is filled
pub zero_filled : {f : FieldName} {z : List ℕ} {size : ℕ} → Is f z size [] → (g : ℕ → ℕ) → Filled z g 0
zero_filled {f} z_is g =
    record {
      long = ap length z_is.places ∙ length_pad (ops f) 129 [];
      done = λ i h. absurd (omega arith);
      rest = λ i h. ap (λ (c : List ℕ). get_or c i 0) z_is.places ∙ at_pad (ops f) 129 [] (omega arith) i;
    }

module _ (q : ℕ) {a : List ℕ} {m : ℕ} (held_a : Held (prime q) a m) {b : List ℕ} {n : ℕ} (held_b : Held (prime q) b n) where
  pos : 0 < q
  pos = held_positive q a m held_a

  abbrev quotient : List ℕ
  quotient = quo (modulo q) (poly a m) (poly b n)

  size_a : length (trim (modulo q) (poly a m)) ≡ m
  size_a = held_size q a m held_a

  size_b : length (trim (modulo q) (poly b n)) ≡ n
  size_b = held_size q b n held_b

  short_a : length (trim (modulo q) (poly a m)) ≤ m
  short_a = let e = size_a in omega arith

  quo_past : (i : ℕ) → m + 1 - n ≤ i → get_or quotient i 0 ≡ 0
  quo_past = quotients.quo_past q pos (poly a m) (poly b n) short_a size_b

  -- no shorter, since quotient times divisor reaches the dividend's leading coefficient
  quo_size : Prime q → 0 < n → length quotient ≡ m + 1 - n
  quo_size p some =
      let M = model q pos in
      let x = size_a in
      let y = size_b in
      let l = quo_length M (poly a m) (poly b n) in
      let k : m ≤ length quotient + (n - 1) = subst (λ (s : ℕ). s ≤ length quotient + (n - 1)) size_a (size_le M (poly a m) _ reached) in
      omega arith
    where
      reached : Below (FqRing q pos) (series (model q pos) (poly a m)) (length quotient + (n - 1))
      reached i h =
          let M = model q pos in
          let y = size_b in
          ap (λ (f : ℕ → Fq q). f i) (series_quo_rem M (poly a m) (poly b n))
          ∙ below_add (FqRing q pos) _ _ (length quotient + (n - 1)) (λ j l. below_conv (FqRing q pos) (length quotient) n _ _ (below_length M quotient) (λ t s. below_size M (poly b n) t (omega arith)) j (omega arith)) (λ j l. rem_below M (inverts q pos p) (poly a m) (poly b n) (omega arith) j (omega arith)) i h

  -- the next coefficient, from an array that has those above it
  pub quo_next : Prime q → 0 < n → (z : List ℕ) (k place from : ℕ) → place ≡ k + (n - 1) → from ≡ k + 1 → Down z (λ i. get_or quotient i 0) from
      → (modulo q).mul ((modulo q).sub (get_or a place 0) (get_or (mul (modulo q) z b) place 0)) ((modulo q).inv (get_or b (n - 1) 0)) ≡ get_or quotient k 0
  quo_next p some z k place from e h d =
      ap₂ (modulo q).mul (ap₂ (modulo q).sub (sym (at_poly q a m held_a place)) (ap (λ (l : List ℕ). get_or l place 0) product)) (ap (modulo q).inv (sym (at_poly q b n held_b (n - 1))))
      ∙ quotients.quo_next q pos (poly a m) (poly b n) short_a size_b z p some k place e (λ i l. d.done i (omega arith)) (d.rest k (omega arith))
    where
      product : mul (modulo q) z b ≡ mul (modulo q) z (poly b n)
      product = mul_cong (model q pos) _ _ _ _ refl (fun_ext (λ i. ap (model q pos).φ (sym (at_poly q b n held_b i))))

  module _ {z : List ℕ} {size : ℕ} where
    -- none of the coefficients is found in the zero polynomial
    pub quo_none_found : Is (prime q) z size [] → (k : ℕ) → k ≡ m + 1 - n → Down z (λ i. get_or quotient i 0) k
    quo_none_found z_is k e =
        let none = zero_filled z_is (λ i. 0) in
        down_none _ z k none.long none.rest (λ i h. quo_past i (omega arith))

    module _ (size_is : size ≡ m + 1 - n) where
      -- the coefficients that are found so far
      pub quo_within : (k : ℕ) → k ≤ size → Down z (λ i. get_or quotient i 0) k → Within (prime q) z size
      quo_within k h d = subst (Within (prime q) z) (sym size_is) (quotients.quo_within_down q pos (poly a m) (poly b n) short_a size_b z k (omega arith) d)

      -- all of them
      pub is_quotient : Prime q → 0 < n → (k : ℕ) → k ≡ 0 → Down z (λ i. get_or quotient i 0) k → Is (prime q) z size quotient
      is_quotient p some k none d =
          let e = quo_size p some in
          let s = held_a.short in
          let all = down_all _ z k d none in
          is_of q z size quotient all.long (omega arith) (omega arith) all.at

  module _ (z : List ℕ) (size : ℕ) where
    pub is_remainder : poly z size ≡ quotient → (c : List ℕ) (r : ℕ) → Is (prime q) c r (sub (modulo q) (poly a m) (mul (modulo q) (poly z size) (poly b n))) → Is (prime q) c r (rem (modulo q) (poly a m) (poly b n))
    is_remainder z_is c r = subst (λ (l : List ℕ). Is (prime q) c r l) (ap (λ (w : List ℕ). sub (modulo q) (poly a m) (mul (modulo q) w (poly b n))) z_is ∙ quotients.rem_difference (model q pos) (poly a m) (poly b n))

  -- a dividend with fewer places than the divisor: the quotient is 0 and the remainder the dividend
  module _ (less : m < n) where
    reduced_a : (i : ℕ) → get_or (poly a m) i 0 < q
    reduced_a i = subst (λ (x : ℕ). x < q) (sym (at_poly q a m held_a i)) (held_a.reduced i)

    rem_same : rem (modulo q) (poly a m) (poly b n) ≡ poly a m
    rem_same =
        let x = size_a in
        let y = size_b in
        series_ext (model q pos) _ _ (trim_rem (model q pos) (poly a m) (poly b n)) held_a.trimmed (oks_rem (model q pos) (poly a m) (poly b n)) reduced_a (rem_low (model q pos) (poly a m) (poly b n) (omega arith))

    pub is_rem_same : Is (prime q) a m (rem (modulo q) (poly a m) (poly b n))
    is_rem_same = subst (λ (x : List ℕ). Is (prime q) a m x) (sym rem_same) (record { places = held_a.places; size_is = sym (length_poly q a m held_a) })

    pub quo_zero : Prime q → [] ≡ quotient
    quo_zero p = sym (nothing quotient (let e = quo_size p (omega arith) in omega arith))
      where
        nothing : (l : List ℕ) → length l ≡ 0 → l ≡ []
        nothing [] h = refl
        nothing (x ∷ l) h = absurd (omega arith)
