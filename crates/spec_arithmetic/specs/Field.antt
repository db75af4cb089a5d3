-- The operations of a field on coefficients, and the field of q elements on the values of words.
use Rattle.std.specs.Prelude.{ℕ, zero, suc, ◌+◌, ◌*◌, ◌-◌, ◌/◌, ◌%◌, Bool, true, false, ltb, leb, eqb}

-- The operations on coefficients of kind A; `zer?` tells whether a coefficient is 0.
pub record Ops (A : Type 0) : Type 0 where
  pub zer : A
  pub one : A
  pub add : A → A → A
  pub sub : A → A → A
  pub mul : A → A → A
  pub inv : A → A
  pub zer? : A → Bool

-- The inverse of a modulo q, for a below q: 1/a is −(q div a) times 1/(q mod a), and 0 for 0. The first
-- number bounds the turns.
unfoldable pub inverse_in : ℕ → ℕ → ℕ → ℕ
inverse_in zero q a = 0
inverse_in (suc k) q a = elim (leb a 1) [ true ↦ a | false ↦ ((q - q / a) * inverse_in k q (q % a)) % q ]

unfoldable pub inverse : ℕ → ℕ → ℕ
inverse q a = inverse_in (suc (a % q)) q (a % q)

-- "Fields of q elements": every operation reduces modulo q, so each is defined for all numbers.
abbrev pub modulo : ℕ → Ops ℕ
modulo q = record {
  zer = 0;
  one = 1 % q;
  add = λ x y. (x + y) % q;
  sub = λ x y. (x + (q - y % q)) % q;
  mul = λ x y. (x * y) % q;
  inv = inverse q;
  zer? = λ x. eqb (x % q) 0;
}

-- Which field.
pub record FieldName : Type 0 where
  pub q : ℕ

-- "Fields of q elements"
abbrev pub prime : ℕ → FieldName
prime q = record { q = q }

abbrev pub ops : FieldName → Ops ℕ
ops f = modulo f.q

-- "Coefficients are 0 to q−1."
unfoldable pub fits : FieldName → ℕ → Bool
fits f x = ltb x f.q

-- the coefficient that a number stands for
unfoldable pub reading : FieldName → ℕ → ℕ
reading f x = x % f.q
