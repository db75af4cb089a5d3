-- The test of refusal 9 in two parts: the words alone, and their polynomials, which may be trimmed. What a
-- pair that was tested says.
use Rattle.std.specs.Prelude.{ℕ, suc, ◌+◌, ◌-◌, ◌≤◌, ◌<◌, ◌≡◌, refl, Bool, true, false, not, ◌&&◌, List, [], ◌∷◌, ◌++◌, ◌↔◌, IsTrue, length, get_or, drop, All, eqb}
use Rattle.std.proofs.Common.{arith, ◌∙◌, sym, ap, ap₂, ⊎_elim, true≢false, lt-ltb, eq-eqb, eqb-true, length-append, length-drop}
use Rattle.std.proofs.Math.ListN.{get_or-append, get_or-eq_default}
use Rattle.std.proofs.lemmas.List.{get_or-append_right, get_or-drop, get_or_default}
use Rattle.math_ring.specs.Order.{le_or_lt}
use Rattle.spec_arithmetic.specs.Field.{FieldName, ops, fits}
use Rattle.spec_arithmetic.specs.Polynomials.{at, trim, lead, rem}
use Rattle.spec_arithmetic.specs.Words.{some_not}
use Rattle.spec_definitions.specs.Ticket.{Ticket}
use Rattle.spec_definitions.specs.Walk.{Ideal as Pair}
use Rattle.spec_definitions.specs.Products.{is_pair}
use Rattle.spec_bridge.specs.Model.{series}
use Rattle.spec_bridge.specs.Trim.{trim_idem, at_trim, trim_nil, series_trim, size_is, lead_is, length_trim, oks_trim}
use Rattle.spec_bridge.specs.Arithmetic.{sub_cong, mul_cong}
use Rattle.spec_bridge.specs.Quotient.{rem_cong}
use Rattle.spec_bridge.specs.Division.{trim_rem}
use Rattle.spec_fields.specs.Named.{Ok, ok_zero}
use Rattle.spec_laws.specs.Admitted.{is_field, below_of}
use Rattle.spec_laws.specs.Coefficients.{some_none}
use Rattle.spec_laws.specs.Pairs.{norm_at}
use Rattle.spec_laws.specs.PairTest.{Passes, pair_passes}
use Rattle.base_places.specs.Places.{Places, zeros, length_zeros, at_zeros}
use Rattle.base_polynomial.specs.Over.{poly, Is, Result, result}
use Rattle.base_surd.specs.declared.Surd.{Surd}
use Rattle.base_surd.specs.Surd.{name, ops as ops_of, g, D, ticket_with}
use Rattle.base_ideal.specs.declared.Ideal.{Ideal}
use Rattle.ideal_operand.specs.Operand.{held_pair, M, I}
use Rattle.ideal_operand.specs.Ideal.{Operand}
use Rattle.ideal_pair.specs.declared.Pair.{Pair as Words}

-- a pair as it is handed in
abbrev pub pair_of : List ℕ → List ℕ → Pair ℕ
pair_of u v = record { q = u; p = v }

abbrev pub words_of : Words → Pair ℕ
words_of x = pair_of x.q.now x.p.now

-- the number of refusal 9 where the test is not passed, else 0
unfoldable pub pair_refusal : Ticket → Pair ℕ → ℕ
pair_refusal t x = elim (is_pair t x) [ true ↦ 0 | false ↦ 9 ]

-- ---- the two parts
-- g + 1 words and g words, each below q
abbrev pub AreWords : FieldName → ℕ → List ℕ → List ℕ → Type 0
AreWords f g u v = (length u ≡ suc g) × (length v ≡ g) × All (λ w. w < f.q) u × All (λ w. w < f.q) v

-- Q is monic, P has a smaller degree, and Q divides D − P²
abbrev pub IsIdealOf : FieldName → List ℕ → Ideal → Type 0
IsIdealOf f l x = (lead (ops f) (poly x.q) ≡ 1) × (x.p.size < x.q.size) × (rem (ops f) (norm_at (ops f) l (held_pair x)) (poly x.q) ≡ [])

-- the words in their places, with zeros behind them
pub words_places : {c w : List ℕ} → c ≡ w → length w ≤ 129 → Places (c ++ drop (length w) zeros) (λ i. get_or w i 0)
words_places {c} {w} e h =
    let n : length c ≡ length w = ap length e in
    record {
      long = simp (length-append, length-drop) (let z = length_zeros in omega arith);
      at = λ i. ⊎_elim
          (λ k. get_or-append_right c _ (length w) i 0 n k ∙ get_or-drop (length w) zeros (i - length w) 0 ∙ at_zeros (length w + (i - length w)) ∙ sym (get_or-eq_default w 0 {n = i} k))
          (λ k. get_or-append c _ 0 i (omega arith) ∙ ap (λ (l : List ℕ). get_or l i 0) e) (le_or_lt (length w) i);
    }

-- a size of 0 is that of the empty list
pub none_left : {n : ℕ} {l : List ℕ} → n ≡ length l → IsTrue (eqb n 0) ↔ (l ≡ [])
none_left {l = []} e = (λ _. refl, λ _. eq-eqb _ 0 e)
none_left {n = n} {l = x ∷ l} e = (λ t. absurd (let z = eqb-true n 0 t in omega arith), λ f. absurd (let z = ap length f in omega arith))

-- x is the ideal of the words u and v, which pass the test
pub record Paired (s : Surd) (u v : List ℕ) (x : Ideal) : Type 0 where
  pub passes : (b : ℕ) → is_pair (ticket_with s b) (pair_of u v) ≡ true
  pub q_is : Is (name s) x.q (trim (ops_of s) u)
  pub p_is : Is (name s) x.p (trim (ops_of s) v)

-- ---- the test and its parts
pub below_none : (f : FieldName) (l : List ℕ) → All (λ w. w < f.q) l → some_not (fits f) l ≡ false
below_none f l h = some_none f l (λ i k. h i 0 k)

none_below : (f : FieldName) → Ok f 0 → (l : List ℕ) → some_not (fits f) l ≡ false → All (λ w. w < f.q) l
none_below f z l e k d h =
    let a : get_or l k 0 < f.q = below_of f z l e k in
    let b = get_or_default l k d 0 h in
    omega arith

module _ (s : Surd) (u v : List ℕ) where
  refusal_is : (t : Bool) (b : ℕ) → is_pair (ticket_with s b) (pair_of u v) ≡ t → elim t [ true ↦ 0 | false ↦ 9 ] ≡ pair_refusal (ticket_with s b) (pair_of u v)
  unfolding pair_refusal
  refusal_is t b e = ap (λ (r : Bool). elim r [ true ↦ 0 | false ↦ 9 ]) (sym e)

  -- the test is not passed
  refused : (Passes (name s) (g s) (D s) (pair_of u v) → ⊥) → (b : ℕ) → 9 ≡ pair_refusal (ticket_with s b) (pair_of u v)
  refused h b = go (is_pair (ticket_with s b) (pair_of u v)) refl
    where
      go : (t : Bool) → is_pair (ticket_with s b) (pair_of u v) ≡ t → 9 ≡ pair_refusal (ticket_with s b) (pair_of u v)
      go true e = absurd (h (pair_passes (ticket_with s b) (pair_of u v) e))
      go false e = refusal_is false b e

  are_words : Passes (name s) (g s) (D s) (pair_of u v) → AreWords (name s) (g s) u v
  are_words t = (t.q_length, t.p_length, none_below (name s) (ok_zero (name s) (is_field s.admitted)) u t.q_below, none_below (name s) (ok_zero (name s) (is_field s.admitted)) v t.p_below)

  pub refused_words : {r : Bool} → (AreWords (name s) (g s) u v → IsTrue r) → r ≡ false → (b : ℕ) → 9 ≡ pair_refusal (ticket_with s b) (pair_of u v)
  refused_words h e = refused (λ t. true≢false (sym (h (are_words t)) ∙ e))

  module _ (w : AreWords (name s) (g s) u v) where
    u_oks : (i : ℕ) → Ok (name s) (at (ops_of s) u i)
    u_oks = below_of (name s) (ok_zero (name s) (is_field s.admitted)) u (below_none (name s) u w.2)

    v_oks : (i : ℕ) → Ok (name s) (at (ops_of s) v i)
    v_oks = below_of (name s) (ok_zero (name s) (is_field s.admitted)) v (below_none (name s) v w.3)

    lead_trim : lead (ops_of s) (trim (ops_of s) u) ≡ lead (ops_of s) u
    lead_trim = lead_is (M s.admitted) (trim (ops_of s) u) ∙ ap (λ (l : List ℕ). at (ops_of s) (trim (ops_of s) u) (length l - 1)) (trim_idem (M s.admitted) u) ∙ at_trim (M s.admitted) u u_oks _ ∙ sym (lead_is (M s.admitted) u)

    rem_trim : rem (ops_of s) (norm_at (ops_of s) (D s) (pair_of (trim (ops_of s) u) (trim (ops_of s) v))) (trim (ops_of s) u) ≡ rem (ops_of s) (norm_at (ops_of s) (D s) (pair_of u v)) u
    rem_trim =
        let m = M s.admitted in
        rem_cong m (I s.admitted) _ _ _ _ (ap (series m) (sub_cong m (D s) (D s) _ _ refl (ap (series m) (mul_cong m _ v _ v (series_trim m v) (series_trim m v))))) (series_trim m u)

    module _ {x : Ideal} (q_is : Is (name s) x.q (trim (ops_of s) u)) (p_is : Is (name s) x.p (trim (ops_of s) v)) where
      pub q_result : Result (name s) x.q (trim (ops_of s) u)
      q_result = result {a = x.q} q_is (let a = length_trim (M s.admitted) u in let l = w.0 in let k = s.admitted.genus_most in omega arith) (trim_idem (M s.admitted) u) (oks_trim (M s.admitted) u u_oks)

      pub p_result : Result (name s) x.p (trim (ops_of s) v)
      p_result = result {a = x.p} p_is (let a = length_trim (M s.admitted) v in let l = w.1 in let k = s.admitted.genus_most in omega arith) (trim_idem (M s.admitted) v) (oks_trim (M s.admitted) v v_oks)

      pub p_size : x.p.size ≤ 65
      p_size = let a = length_trim (M s.admitted) v in let l = w.1 in let z = p_is.size_is in let k = s.admitted.genus_most in omega arith

      lead_same : lead (ops_of s) (poly x.q) ≡ lead (ops_of s) u
      lead_same = ap (lead (ops_of s)) q_result.is ∙ lead_trim

      rem_same : rem (ops_of s) (norm_at (ops_of s) (D s) (held_pair x)) (poly x.q) ≡ rem (ops_of s) (norm_at (ops_of s) (D s) (pair_of u v)) u
      rem_same = ap₂ (λ (a b : List ℕ). rem (ops_of s) (norm_at (ops_of s) (D s) (pair_of a b)) a) q_result.is p_result.is ∙ rem_trim

      ideal_of : Passes (name s) (g s) (D s) (pair_of u v) → IsIdealOf (name s) (D s) x
      ideal_of t =
          let m = M s.admitted in
          let r = rem (ops_of s) (norm_at (ops_of s) (D s) (pair_of u v)) u in
          let a = size_is m u in
          let b = size_is m v in
          let c = q_is.size_is in
          let d = p_is.size_is in
          let e = t.less in
          (lead_same ∙ t.lead_one, omega arith, rem_same ∙ sym (trim_rem m _ _) ∙ trim_nil m r (sym (size_is m r) ∙ t.divides))

      pub refused_ideal : {r : Bool} → (IsIdealOf (name s) (D s) x → IsTrue r) → r ≡ false → (b : ℕ) → 9 ≡ pair_refusal (ticket_with s b) (pair_of u v)
      refused_ideal h e = refused (λ t. true≢false (sym (h (ideal_of t)) ∙ e))

      module _ (t : IsIdealOf (name s) (D s) x) where
        passed : (b : ℕ) → is_pair (ticket_with s b) (pair_of u v) ≡ true
        unfolding is_pair
        passed b =
            let m = M s.admitted in
            let n = size_is m u in
            let o = size_is m v in
            let k = q_is.size_is in
            let l = p_is.size_is in
            let i = t.1 in
            ap₂ ◌&&◌
            (ap₂ ◌&&◌
            (ap₂ ◌&&◌
            (ap₂ ◌&&◌
            (ap₂ ◌&&◌ (ap₂ ◌&&◌ (eq-eqb _ _ w.0) (eq-eqb _ _ w.1)) (ap not (below_none (name s) u w.2)))
            (ap not (below_none (name s) v w.3)))
            (eq-eqb _ 1 (sym lead_same ∙ t.0)))
            (lt-ltb _ _ (omega arith)))
            (eq-eqb _ 0 (size_is m _ ∙ ap length (trim_rem m _ _ ∙ sym rem_same ∙ t.2)))

        pub accepted : (b : ℕ) → 0 ≡ pair_refusal (ticket_with s b) (pair_of u v)
        accepted b = refusal_is true b (passed b)

        pub accepted_pair : Paired s u v x
        accepted_pair = record { passes = passed; q_is = q_is; p_is = p_is }

-- it is an operand of the product
unfoldable pub paired_operand : {s : Surd} {u v : List ℕ} {x : Ideal} → Paired s u v x → Operand s x
paired_operand {s} {u} {v} t = record {
  pair = pair_of u v;
  passes = pair_passes (ticket_with s 0) (pair_of u v) (t.passes 0);
  q_is = t.q_is;
  p_is = t.p_is;
}
