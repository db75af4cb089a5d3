-- What the test of refusal 9 says of a pair that passes: its lists have g + 1 and g coefficients below q, and
-- it is an ideal of degree at most g.
use Rattle.std.specs.Prelude.{ℕ, suc, ◌-◌ as ◌-ₙ◌, ◌≤◌, ◌<◌, ◌≡◌, refl, Bool, true, false, not, ◌||◌, List, length, get_or}
use native.Mathlib.Omega.{arith}
use Rattle.std.proofs.Common.{sym, ap, ◌∙◌, true≢false, eqb-true, ltb-true}
use Rattle.std.proofs.lemmas.Bool.{not-true, not-false, and_parts}
use Rattle.math_algebra.specs.Field.{Field}
use Rattle.math_algebra.specs.Polynomial.{F}
use Rattle.spec_arithmetic.specs.Field.{FieldName, ops, fits}
use Rattle.spec_arithmetic.specs.Polynomials.{trim, size, lead, rem}
use Rattle.spec_arithmetic.specs.Words.{some_not}
use Rattle.spec_definitions.specs.Ticket.{Ticket, genus}
use Rattle.spec_definitions.specs.Walk.{Ideal}
use Rattle.spec_definitions.specs.Products.{is_pair, wrong_pair}
use Rattle.spec_bridge.specs.Model.{Model}
use Rattle.spec_bridge.specs.Trim.{size_is, lead_is, length_trim, below_size, trim_nil}
use Rattle.spec_bridge.specs.Division.{trim_rem}
use Rattle.spec_fields.specs.Named.{Ok, arithmetic, ok_zero, φ_first}
use Rattle.spec_laws.specs.Admitted.{Admitted, is_field, below_of}
use Rattle.spec_laws.specs.Pairs.{IsIdeal, norm_at}

pub record Passes (f : FieldName) (g : ℕ) (D : List ℕ) (x : Ideal ℕ) : Type 0 where
  pub q_length : length x.q ≡ suc g
  pub p_length : length x.p ≡ g
  pub q_below : some_not (fits f) x.q ≡ false
  pub p_below : some_not (fits f) x.p ≡ false
  pub lead_one : lead (ops f) x.q ≡ 1
  pub less : size (ops f) x.p < size (ops f) x.q
  pub divides : size (ops f) (rem (ops f) (norm_at (ops f) D x) x.q) ≡ 0

pub pair_passes : (t : Ticket) (x : Ideal ℕ) → is_pair t x ≡ true → Passes t.field (genus t.n) t.D x
unfolding is_pair
pair_passes t x e =
    let a = and_parts _ _ e in
    let b = and_parts _ _ a.0 in
    let c = and_parts _ _ b.0 in
    let d = and_parts _ _ c.0 in
    let f = and_parts _ _ d.0 in
    let g = and_parts _ _ f.0 in
    record {
      q_length = eqb-true _ _ g.0;
      p_length = eqb-true _ _ g.1;
      q_below = not-true _ f.1;
      p_below = not-true _ d.1;
      lead_one = eqb-true _ _ c.1;
      less = ltb-true _ _ b.1;
      divides = eqb-true _ _ a.1;
    }

-- refusal 9 does not apply: both pairs pass
pub pairs_pass : (t : Ticket) (x y : Ideal ℕ) → wrong_pair t x y ≡ false → (is_pair t x ≡ true) × (is_pair t y ≡ true)
unfolding wrong_pair
pairs_pass t x y e = go (is_pair t x) (is_pair t y) e
  where
    go : (a b : Bool) → (not a || not b) ≡ false → (a ≡ true) × (b ≡ true)
    go true b e = (refl, not-false b e)
    go false b e = absurd (true≢false e)

module _ {f : FieldName} {g : ℕ} {D : List ℕ} (h : Admitted f g D) where
  abbrev K : Field (arithmetic f (is_field h)).Elements
  K = (arithmetic f (is_field h)).K

  abbrev M : Model (ops f) (F K)
  M = (arithmetic f (is_field h)).M

  module _ {x : Ideal ℕ} (t : Passes f g D x) where
    pub pair_q_below : (i : ℕ) → Ok f (get_or x.q i 0)
    pair_q_below = below_of f (ok_zero f (is_field h)) x.q t.q_below

    pub pair_p_below : (i : ℕ) → Ok f (get_or x.p i 0)
    pair_p_below = below_of f (ok_zero f (is_field h)) x.p t.p_below

    pub pair_ideal : IsIdeal K M D x
    pair_ideal = record {
      κ = length (trim (ops f) x.q) -ₙ 1;
      monic = record { low = λ i l. below_size M x.q i (let a = t.less in let b = size_is M x.q in omega arith); top = ap M.φ (sym (lead_is M x.q) ∙ t.lead_one) ∙ φ_first f (is_field h) };
      low = λ i l. below_size M x.p i (let a = t.less in let b = size_is M x.q in let c = size_is M x.p in omega arith);
      divides = sym (trim_rem M (norm_at (ops f) D x) x.q) ∙ trim_nil M (rem (ops f) (norm_at (ops f) D x) x.q) (sym (size_is M (rem (ops f) (norm_at (ops f) D x) x.q)) ∙ t.divides);
    }

    pub pair_degree : pair_ideal.κ ≤ g
    unfolding pair_ideal
    pair_degree = let a = length_trim M x.q in let b = t.q_length in omega arith
