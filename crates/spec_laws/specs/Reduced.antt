-- A pair with Q made monic and P modulo it, as a record and the giant step's answer have it, is the same
-- ideal, and an ideal again.
use Rattle.std.specs.Prelude.{suc, ◌≡◌, List, [], ◌∷◌, length}
use Rattle.std.proofs.Common.{arith, sym, ap, ◌∙◌}
use Rattle.math_ring.specs.Ring.{CRing}
use Rattle.math_ring.specs.Identity.{ring_from, times, quote}
use Rattle.math_ring.specs.Series.{Series}
use Rattle.math_algebra.specs.Field.{Field, some_inv}
use Rattle.math_algebra.specs.Polynomial.{F, Px, Monic, low_neg}
use Rattle.math_algebra.specs.Divides.{Divides, divides_path, divides_add, divides_neg, divides_mul}
use Rattle.math_algebra.specs.Associate.{Associate, associate_sym, associate_divides}
use Rattle.math_surd.specs.Step.{State}
use Rattle.math_algebra.specs.Finite.{Finite, finite_add}
use Rattle.spec_arithmetic.specs.Field.{Ops}
use Rattle.spec_arithmetic.specs.Polynomials.{trim, lead, quo, rem, monic}
use Rattle.spec_definitions.specs.Walk.{Ideal}
use Rattle.spec_bridge.specs.Model.{Model, Inverts, series}
use Rattle.spec_bridge.specs.Trim.{below_length, lead_some}
use Rattle.spec_bridge.specs.Division.{series_quo_rem, rem_below}
use Rattle.spec_bridge.specs.Monic.{series_monic, monic_top, length_monic}
use Rattle.spec_bridge.specs.Degree.{deg_size, monic_size}
use Rattle.spec_bridge.specs.Euclid.{φ_inv, divides_rem_none}
use Rattle.spec_laws.specs.Pairs.{IsIdeal, norm_at, series_norm}

module _ {A B : Type 0} {o : Ops A} (K : Field B) (M : Model o (F K)) (I : Inverts M) (D : List A) (x : Ideal A) {C : Px K} (st : State K (series M D) (series M x.q) C (series M x.p)) where
  open Series (F K) use {add as ◌+◌, mul as ◌*◌, neg as -◌, one as 𝟙}

  infixl 6 ◌+◌ ◌-◌
  infixl 7 ◌*◌
  infix 8 -◌
  abbrev R[x] : CRing (Px K)
  R[x] = Series (F K)

  abbrev ◌-◌ : Px K → Px K → Px K
  a - b = a + (- b)

  abbrev Q : List A
  Q = monic o x.q

  abbrev P : List A
  P = rem o x.p Q

  size_is : length (trim o x.q) ≡ suc st.κ
  size_is = deg_size K M x.q st.deg

  Q_monic : Monic K (series M Q) st.κ
  Q_monic = record { low = λ i l. below_length M Q i (let e = length_monic M I x.q in let e' = size_is in omega arith); top = ap (series M Q) (let e' = size_is in omega arith) ∙ monic_top M I x.q (let e' = size_is in omega arith) }

  pub reduced_ratio : Associate K (series M Q) (series M x.q)
  reduced_ratio = record {
    factor = M.φ (o.inv (lead o x.q));
    some = λ e. some_inv K (M.φ (lead o x.q)) lead_not (sym (φ_inv K M I (lead o x.q) lead_not) ∙ e);
    is = series_monic M I x.q;
  }
    where
      lead_not : M.φ (lead o x.q) ≡ (F K).zer → ⊥
      lead_not = lead_some M x.q (let e' = size_is in omega arith)

  -- P is congruent to the pair's
  pub reduced_gap : Divides K (series M Q) (series M P - series M x.p)
  reduced_gap = record {
    by = - series M (quo o x.p Q);
    size = length (quo o x.p Q);
    low = low_neg K (series M (quo o x.p Q)) _ (below_length M (quo o x.p Q));
    is = ring_from R[x] (series M x.p ∷ series M P ∷ series M Q ∷ series M (quo o x.p Q) ∷ []) (times R[x] (- 𝟙) (series_quo_rem M x.p Q)) (search quote depth 40 fits 9999) tt;
  }

  pub reduced_ideal : IsIdeal K M D (record { q = Q; p = P })
  reduced_ideal = record {
    κ = st.κ;
    monic = Q_monic;
    low = λ i l. let e = monic_size K M Q Q_monic in rem_below M I x.p Q (omega arith) i (omega arith);
    divides = divides_rem_none K M I (norm_at o D (record { q = Q; p = P })) Q (divides_path K (sym same) (divides_add K whole (divides_neg K (divides_mul K (series M P + series M x.p) f.size f.low reduced_gap))));
  }
    where
      f : Finite K (series M P + series M x.p)
      f = finite_add K (record { size = length P; low = below_length M P }) (record { size = st.size; low = st.P_low })

      -- Q divides D − P² of the pair
      whole : Divides K (series M Q) (series M x.q * C)
      whole = divides_mul K C st.size st.C_low (associate_divides K (associate_sym K reduced_ratio))

      same : series M (norm_at o D (record { q = Q; p = P })) ≡ series M x.q * C - (series M P - series M x.p) * (series M P + series M x.p)
      same = series_norm K M D (record { q = Q; p = P }) ∙ ring_from R[x] (series M D ∷ series M x.q ∷ C ∷ series M P ∷ series M x.p ∷ []) (times R[x] 𝟙 st.norm) (search quote depth 40 fits 9999) tt
