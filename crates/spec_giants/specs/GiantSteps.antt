-- The definitions' giant step of two ideals is the giant step over the field, and its f is minus what that
-- drops.
use Prim.Native.Nat.{ℕ}
use Rattle.std.specs.Prelude.{List}
use Rattle.math_algebra.specs.Field.{Field}
use Rattle.math_algebra.specs.Polynomial.{F}
use Rattle.math_surd.specs.Step.{State}
use Rattle.spec_arithmetic.specs.Field.{Ops}
use Rattle.spec_definitions.specs.Walk.{Ideal, steps}
use Rattle.spec_definitions.specs.Products.{Product, turns_of}
use Rattle.spec_bridge.specs.Model.{Model, series}
use Rattle.spec_laws.specs.Surd.{Surd}
use Rattle.spec_laws.specs.Pairs.{IsIdeal, cofactor_at, ideal_state}
use Rattle.spec_laws.specs.Product.{common_of, product_q, product_p, bezout_u, bezout_w, bezout_gives, product_ideal}

module _ {A B : Type 0} {o : Ops A} {K : Field B} {M : Model o (F K)} {g : ℕ} {D d : List A} (z : Surd K M g D d) {x y : Ideal A} (hx : IsIdeal K M D x) (hy : IsIdeal K M D y) where
  -- the definitions' product, as its lists are named
  abbrev pub listed : Product A
  listed = record { s = common_of o x y; ideal = record { q = product_q o x y; p = product_p o D x y (bezout_u o x y) (bezout_w o x y) } }

  abbrev pub start : State K (series M D) (series M listed.ideal.q) (series M (cofactor_at o D listed.ideal)) (series M listed.ideal.p)
  start = ideal_state K M D (product_ideal K M z.inverts D hx hy (bezout_gives K M z.inverts D x y))

  abbrev pub turns : ℕ
  turns = turns_of o D d g listed.ideal

  -- the ideal that the steps from the product end at
  abbrev pub ended : Ideal A
  ended = steps o D d listed.ideal turns
