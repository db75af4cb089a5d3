-- The proofs of specs/Stands.
use Prim.Native.Nat.{ℕ, zero, suc, ◌+◌, ◌-◌, ◌≤◌, ◌<◌}
use native.Mathlib.Omega.{arith}
use Rattle.std.specs.Prelude.{◌≡◌, List, get_or}
use Rattle.std.proofs.Math.Path.{sym, ap}
use Rattle.std.proofs.Common.{◌∙◌, subst}
use Rattle.std.proofs.Math.ListN.{length, get_or-eq_default}
use Rattle.math_surd.specs.Step.{State}
use Rattle.spec_arithmetic.specs.Field.{FieldName, ops}
use Rattle.spec_arithmetic.specs.Polynomials.{trim, pad, size, deg, add, sub, quo}
use Rattle.spec_definitions.specs.Walk.{Ideal, steps}
use Rattle.spec_bridge.specs.Model.{series}
use Rattle.spec_bridge.specs.Trim.{length_trim}
use Rattle.spec_bridge.specs.Arithmetic.{add_cong, sub_cong, mul_cong, oks_add}
use Rattle.spec_bridge.specs.Lengths.{length_add, length_sub}
use Rattle.spec_bridge.specs.Division.{rem_less}
use Rattle.spec_bridge.specs.Quotient.{quo_length, quo_cong, rem_cong}
use Rattle.spec_bridge.specs.Residues.{pos}
use Rattle.spec_laws.specs.Admitted.{Admitted, surd_of, D_most}
use Rattle.spec_laws.specs.Pairs.{norm_at, cofactor_at, ideal_state}
use Rattle.spec_laws.specs.Walk.{d_length}
use Rattle.spec_laws.specs.Reduction.{Q_size, Q_deg}
use Rattle.spec_laws.specs.ReductionSizes.{Q_trim, Q_oks, Q_most, norm_most}
use Rattle.base_polynomial.specs.Result.{Result, result}
use Rattle.base_polynomial.specs.Pad.{at_pad}
use Rattle.base_places.specs.Places.{Within}
use Rattle.walk_step.specs.Step.{step_quo, next_rem, next_q, Ready, Stepped}
use Rattle.walk_state.specs.State.{root_d, pad_within, pad_series}
use Rattle.ideal_operand.specs.Operand.{K, M, I}
use Rattle.ideal_descend.specs.Recurrence.{before, left}
use Rattle.ideal_descend.proofs.Recurrence.{left_oks, before_oks, P_left, left_next, Q_step}
use Rattle.ideal_descend.specs.Stands.{Stands, Begun}

module _ {f : FieldName} {g : ℕ} {D : List ℕ} {h : Admitted f g D} {x : Ideal ℕ} (b : Begun h x) where
  abbrev d : List ℕ
  d = root_d f g D

  abbrev twice : List ℕ
  twice = add (ops f) d d

  abbrev pair : ℕ → Ideal ℕ
  pair = steps (ops f) D d x

  abbrev l : ℕ → List ℕ
  l = left (ops f) D d x

  abbrev st : State (K h) (series (M h) D) (series (M h) x.q) (series (M h) (cofactor_at (ops f) D x)) (series (M h) x.p)
  st = ideal_state (K h) (M h) D b.ideal

  abbrev positive : 0 < f.q
  positive = pos f.q h.prime

  -- ---- lengths
  pub start_q : deg (ops f) x.q ≤ g + g
  unfolding deg size
  start_q = let e : length (trim (ops f) x.q) ≡ length x.q = ap length b.q_trim in let w = b.q_most in omega arith

  pub start_p : length (trim (ops f) x.p) ≤ g + g
  start_p = let e : length (trim (ops f) x.p) ≡ length x.p = ap length b.p_trim in let w = b.p_most in omega arith

  pub q_same : (j : ℕ) → length (trim (ops f) (pair j).q) ≡ length (pair j).q
  q_same j = ap length (Q_trim (surd_of h) x st b.q_trim j)

  q_length : (j : ℕ) → (0 < length (pair j).q) × (length (pair j).q ≤ suc (g + g))
  q_length j = let e = q_same j in let w = Q_most (surd_of h) x st start_q start_p (D_most h) j in (omega arith, omega arith)

  pub root_length : length (trim (ops f) d) ≡ suc (suc g)
  root_length = ap length (surd_of h).trimmed ∙ d_length (surd_of h)

  twice_length : length twice ≤ suc (suc g)
  twice_length = let e = root_length in length_add (M h) d d (suc (suc g)) (omega arith) (omega arith)

  left_length : (j : ℕ) → length (l j) ≤ 2 + (g + g)
  unfolding left
  left_length zero = let e = root_length in let w = start_p in length_sub (M h) d x.p (2 + (g + g)) (omega arith) (omega arith)
  left_length (suc j) = let e = q_same j in let w = q_length j in let v = rem_less (M h) (I h) (add (ops f) (pair j).p d) (pair j).q (omega arith) in omega arith

  -- past the start, less than Q
  pub left_less : (j : ℕ) → length (l (suc j)) < length (pair j).q
  unfolding left
  left_less j = let e = q_same j in let w = q_length j in let v = rem_less (M h) (I h) (add (ops f) (pair j).p d) (pair j).q (omega arith) in omega arith

  before_length : (j : ℕ) → length (before (ops f) D d x j) ≤ 127
  unfolding before steps
  before_length zero =
      let e = norm_most (surd_of h) x st start_q start_p (D_most h) 0 in
      let w = length_trim (M h) (norm_at (ops f) D x) in
      let v = quo_length (M h) (norm_at (ops f) D x) x.q in
      let u = q_length 0 in
      let t = q_same 0 in
      let k = h.genus_most in
      omega arith
  before_length (suc j) = let w = q_length j in let k = h.genus_most in omega arith

  -- ---- an array with the coefficients of its list
  pub padded_series : (c k : List ℕ) → c ≡ pad (ops f) 129 k → length k ≤ 129 → series (M h) c ≡ series (M h) k
  padded_series c k e w = ap (series (M h)) e ∙ pad_series f.q positive k w

  pub padded_at : (c k : List ℕ) → c ≡ pad (ops f) 129 k → length k ≤ 129 → (i : ℕ) → get_or c i 0 ≡ get_or k i 0
  padded_at c k e w i = ap (λ (v : List ℕ). get_or v i 0) e ∙ at_pad (ops f) 129 k w i

  -- ---- 2d in its array
  module _ {s : List ℕ} (twice_is : s ≡ pad (ops f) 129 twice) where
    pub twice_within : (n : ℕ) → suc (suc g) ≤ n → n ≤ 129 → Within f s n
    twice_within n e w = subst (λ (v : List ℕ). Within f v n) (sym twice_is) (pad_within f.q twice n (let u = twice_length in omega arith) w (oks_add (M h) d d))

    pub twice_series : series (M h) s ≡ series (M h) twice
    twice_series = padded_series s twice twice_is (let w = twice_length in let e = h.genus_most in omega arith)

  -- ---- at an index
  module _ {j : ℕ} {c k r : List ℕ} {m : ℕ} (t : Stands f g D x j c k r m) where
    pub q_some : 0 < m
    q_some = let w = q_length j in let e = t.size_is in omega arith

    q_short : length (pair j).q ≤ 129
    q_short = let w = q_length j in let e = h.genus_most in omega arith

    pub left_short : length (l j) ≤ 129
    left_short = let w = left_length j in let e = h.genus_most in omega arith

    pub rest_reduced : (i : ℕ) → get_or r i 0 < f.q
    rest_reduced i = subst (λ (v : ℕ). v < f.q) (sym (padded_at r (l j) t.left_is left_short i)) (left_oks (surd_of h) x st j i)

    pub q_reduced : (i : ℕ) → get_or k i 0 < f.q
    q_reduced i = subst (λ (v : ℕ). v < f.q) (sym (padded_at k (pair j).q t.q_is q_short i)) (Q_oks (surd_of h) x st b.q_oks j i)

    lead_some : get_or k (m - 1) 0 ≡ 0 → ⊥
    lead_some e =
        let w : deg (ops f) (pair j).q ≡ m - 1 = let a = Q_size (surd_of h) x st j in let q = q_same j in let s = t.size_is in omega arith in
        (Q_deg (surd_of h) x st j).top (ap (M h).φ (ap (λ (i : ℕ). get_or (pair j).q i 0) w ∙ sym (padded_at k (pair j).q t.q_is q_short (m - 1)) ∙ e) ∙ (M h).φ_zer)

    -- ---- the step
    module _ {s : List ℕ} (twice_is : s ≡ pad (ops f) 129 twice) where
      dividends : series (M h) (sub (ops f) s r) ≡ series (M h) (sub (ops f) twice (l j))
      dividends = ap (series (M h)) (sub_cong (M h) s twice r (l j) (twice_series twice_is) (padded_series r (l j) t.left_is left_short))

      rem_next : next_rem f s k r ≡ l (suc j)
      unfolding next_rem
      rem_next = rem_cong (M h) (I h) _ _ k _ dividends (padded_series k _ t.q_is q_short) ∙ sym (left_next (surd_of h) x st j)

      quo_next : step_quo f s k r ≡ quo (ops f) (sub (ops f) twice (l j)) (pair j).q
      unfolding step_quo
      quo_next = quo_cong (M h) (I h) _ _ k _ dividends (padded_series k _ t.q_is q_short)

      q_next : next_q f s c k r ≡ (pair (suc j)).q
      unfolding next_q
      q_next =
          add_cong (M h) c _ _ _ (padded_series c _ t.before_is (let w = before_length j in omega arith)) (ap (series (M h)) (mul_cong (M h) _ _ _ _ (ap (series (M h)) quo_next) (ap (series (M h)) (sub_cong (M h) _ _ r _ (ap (series (M h)) (rem_next ∙ left_next (surd_of h) x st j)) (padded_series r (l j) t.left_is left_short)))))
          ∙ sym (Q_step (surd_of h) x st j)

      -- what a step asks for, where no array has more places than `top`
      pub ready : {top : ℕ} → suc (suc g) ≤ top → top ≤ 128 → Within f r top → length (pair (suc j)).q ≤ top → Ready f top m s c k r
      ready {top} least most rest_within next_short = record {
        twice_within = twice_within twice_is top least (omega arith);
        rest_within = rest_within;
        current_within = record { reduced = q_reduced; past = λ i p. padded_at k (pair j).q t.q_is q_short i ∙ get_or-eq_default (pair j).q 0 {n = i} (let e = t.size_is in omega arith) };
        lead_some = lead_some;
        before_reduced = λ i. subst (λ (v : ℕ). v < f.q) (sym (padded_at c _ t.before_is (let w = before_length j in omega arith) i)) (before_oks (surd_of h) x st b.q_oks j i);
        short = subst (λ (v : List ℕ). length v ≤ top) (sym q_next) next_short;
      }

      -- what it leaves
      pub stands_next : {z w : List ℕ} {m' : ℕ} → Stepped f s c k r z w m' → Stands f g D x (suc j) k w z m'
      unfolding before
      stands_next u = record {
        before_is = t.q_is;
        q_is = u.q_is ∙ ap (pad (ops f) 129) q_next;
        left_is = u.rem_is ∙ ap (pad (ops f) 129) rem_next;
        size_is = u.size_is ∙ ap length q_next;
      }

    pub q_held : Result f.q k m (pair j).q
    q_held = result f.q k m (pair j).q (record { places = t.q_is; size_is = t.size_is }) q_short (Q_trim (surd_of h) x st b.q_trim j) (Q_oks (surd_of h) x st b.q_oks j)

    -- P_j, from d in its array
    pub difference_is : {e : List ℕ} → e ≡ pad (ops f) 129 d → sub (ops f) e r ≡ (pair j).p
    unfolding steps
    difference_is {e} root_is = sub_cong (M h) e d r (l j) (padded_series e d root_is (let w = d_length (surd_of h) in let v = h.genus_most in omega arith)) (padded_series r (l j) t.left_is left_short) ∙ sym (P_left (surd_of h) x st b.p_trim b.p_oks j)
