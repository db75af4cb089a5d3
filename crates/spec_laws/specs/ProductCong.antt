-- The product depends on the polynomials of the two pairs alone: zeros at the end of their lists change
-- nothing. So does being an ideal.
use Rattle.std.specs.Prelude.{◌≡◌, refl, List}
use Rattle.std.proofs.Common.{sym, ap, ap₂, ◌∙◌}
use Rattle.math_algebra.specs.Field.{Field}
use Rattle.math_algebra.specs.Polynomial.{F, low_path, monic_path}
use Rattle.spec_arithmetic.specs.Field.{Ops}
use Rattle.spec_arithmetic.specs.Polynomials.{trim, add, mul, quo, rem, gcd, Bezout, bezout}
use Rattle.spec_definitions.specs.Walk.{Ideal}
use Rattle.spec_definitions.specs.Products.{product_of}
use Rattle.spec_definitions.specs.Products as lists
use Rattle.spec_bridge.specs.Model.{Model, Inverts, series}
use Rattle.spec_bridge.specs.Trim.{series_trim}
use Rattle.spec_bridge.specs.Arithmetic.{add_cong, sub_cong, mul_cong}
use Rattle.spec_bridge.specs.Quotient.{quo_cong, rem_cong}
use Rattle.spec_bridge.specs.Gcd.{gcd_cong, bezout_cong}
use Rattle.spec_laws.specs.Pairs.{IsIdeal, norm_at, cofactor_at}
use Rattle.spec_laws.specs.Product.{common_of, product_q, bracket, product_p, bezout_u, bezout_w, product_is}

module _ {A B : Type 0} {o : Ops A} (K : Field B) (M : Model o (F K)) (I : Inverts M) (D : List A) where
  -- the same pair of polynomials
  pub record SamePair (x x' : Ideal A) : Type 0 where
    pub q : series M x.q ≡ series M x'.q
    pub p : series M x.p ≡ series M x'.p

  abbrev pub trimmed : Ideal A → Ideal A
  trimmed x = record { q = trim o x.q; p = trim o x.p }

  pub trimmed_same : (x : Ideal A) → SamePair (trimmed x) x
  trimmed_same x = record { q = series_trim M x.q; p = series_trim M x.p }

  norm_cong : {x x' : Ideal A} → SamePair x x' → norm_at o D x ≡ norm_at o D x'
  norm_cong {x} {x'} h = sub_cong M D D _ _ refl (ap (series M) (mul_cong M x.p x'.p x.p x'.p h.p h.p))

  cofactor_cong : {x x' : Ideal A} → SamePair x x' → cofactor_at o D x ≡ cofactor_at o D x'
  cofactor_cong {x} {x'} h = quo_cong M I (norm_at o D x) (norm_at o D x') x.q x'.q (ap (series M) (norm_cong h)) h.q

  pub ideal_cong : {x x' : Ideal A} → SamePair x x' → IsIdeal K M D x → IsIdeal K M D x'
  ideal_cong {x} {x'} h i = record {
    κ = i.κ;
    monic = monic_path K i.κ h.q i.monic;
    low = low_path K i.κ h.p i.low;
    divides = sym (rem_cong M I (norm_at o D x) (norm_at o D x') x.q x'.q (ap (series M) (norm_cong h)) h.q) ∙ i.divides;
  }

  module _ {x x' y y' : Ideal A} (h : SamePair x x') (k : SamePair y y') where
    factors : bezout o x.q y.q ≡ bezout o x'.q y'.q
    factors = bezout_cong M I x.q x'.q y.q y'.q h.q k.q

    sums : add o x.p y.p ≡ add o x'.p y'.p
    sums = add_cong M x.p x'.p y.p y'.p h.p k.p

    gcds : gcd o x.q y.q ≡ gcd o x'.q y'.q
    gcds = gcd_cong M I x.q x'.q y.q y'.q h.q k.q

    commons : common_of o x y ≡ common_of o x' y'
    commons = ap₂ (gcd o) gcds sums

    us : bezout_u o x y ≡ bezout_u o x' y'
    us = ap₂ (λ (b c : Bezout A). mul o c.u b.u) factors (ap₂ (bezout o) gcds sums)

    ws : bezout_w o x y ≡ bezout_w o x' y'
    ws = ap₂ (λ (G T : List A). (bezout o G T).v) gcds sums

    qs : product_q o x y ≡ product_q o x' y'
    qs = ap₂ (λ (n S : List A). quo o n (mul o S S)) (mul_cong M x.q x'.q y.q y'.q h.q k.q) commons

    firsts : quo o x.q (common_of o x y) ≡ quo o x'.q (common_of o x' y')
    firsts = quo_cong M I x.q x'.q (common_of o x y) (common_of o x' y') h.q (ap (series M) commons)

    brackets : bracket o D x y (bezout_u o x y) (bezout_w o x y) ≡ bracket o D x' y' (bezout_u o x' y') (bezout_w o x' y')
    brackets = ap₂ (add o) (ap₂ (mul o) us (sub_cong M y.p y'.p x.p x'.p k.p h.p)) (ap₂ (mul o) ws (cofactor_cong h))

    ps : product_p o D x y (bezout_u o x y) (bezout_w o x y) ≡ product_p o D x' y' (bezout_u o x' y') (bezout_w o x' y')
    ps = ap₂ (rem o) (add_cong M x.p x'.p _ _ h.p (ap (series M) (ap₂ (mul o) firsts brackets))) qs

    pub product_cong : product_of o D x y ≡ product_of o D x' y'
    product_cong = product_is K M I D x y ∙ both ∙ sym (product_is K M I D x' y')
      where
        form : List A → List A → List A → lists.Product A
        form S Q P = record { s = S; ideal = record { q = Q; p = P } }

        both : form (common_of o x y) (product_q o x y) (product_p o D x y (bezout_u o x y) (bezout_w o x y)) ≡ form (common_of o x' y') (product_q o x' y') (product_p o D x' y' (bezout_u o x' y') (bezout_w o x' y'))
        both = ap₂ (λ (f : List A → lists.Product A) (P : List A). f P) (ap₂ form commons qs) ps
