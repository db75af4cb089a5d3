-- What the reduction asks for: an ideal of degree at most 2g. Where its steps start, and where there is none.
use Rattle.std.specs.Prelude.{ℕ, suc, ◌+◌, ◌-◌, ◌≤◌, ◌<◌, ◌≡◌, refl, List, get_or}
use Rattle.std.proofs.Common.{arith, ap₂, ◌∙◌, ext_get_or}
use Rattle.std.proofs.Math.Path.{sym, ap, subst}
use Rattle.std.proofs.Math.ListN.{length, get_or-eq_default}
use Rattle.spec_arithmetic.specs.Field.{FieldName, ops}
use Rattle.spec_arithmetic.specs.Polynomials.{trim, pad, size, deg, monic, sub, mul, rem}
use Rattle.spec_definitions.specs.Walk.{Ideal as Pair, steps}
use Rattle.spec_definitions.specs.Products.{turns_of, degree_sum}
use Rattle.spec_bridge.specs.Trim.{size_le, length_trim}
use Rattle.spec_bridge.specs.Arithmetic.{at_sub}
use Rattle.spec_bridge.specs.Lengths.{length_sub, length_mul}
use Rattle.spec_bridge.specs.Quotient.{quo_length}
use Rattle.spec_bridge.specs.Degree.{monic_size}
use Rattle.spec_bridge.specs.Monic.{length_monic}
use Rattle.spec_bridge.specs.Residues.{pos}
use Rattle.spec_fields.specs.Named.{Ok}
use Rattle.spec_laws.specs.Admitted.{surd_of}
use Rattle.spec_laws.specs.Pairs.{IsIdeal, norm_at, cofactor_at, ideal_state}
use Rattle.spec_laws.specs.Walk.{d_length}
use Rattle.spec_laws.specs.Reduction.{turns_unique}
use Rattle.base_places.specs.Places.{Places, Within}
use Rattle.base_polynomial.specs.Over.{poly, Held, Is, length_poly, at_poly, held_size}
use Rattle.base_polynomial.specs.Linear.{held_within, sub_zeros}
use Rattle.base_polynomial.specs.Pad.{length_pad, at_pad}
use Rattle.base_surd.specs.declared.Surd.{Surd}
use Rattle.base_surd.specs.Surd as surds
use Rattle.walk_state.specs.State.{root_d}
use Rattle.base_ideal.specs.declared.Ideal.{Ideal}
use Rattle.ideal_operand.specs.Operand.{held_pair, K, M, I}
use Rattle.walk_state.specs.declared.root.Root.{Root}
use Rattle.ideal_descend.specs.Recurrence.{before, left}
use Rattle.ideal_descend.specs.Stands.{Stands, Begun}
use Rattle.ideal_descend.specs.Turn.{At, Going, Reduces}

-- what the reduction asks of an ideal
pub record Start (s : Surd) (a : Ideal) : Type 0 where
  pub held_q : Held (surds.name s) a.q
  pub held_p : Held (surds.name s) a.p
  pub ideal : IsIdeal (K s.admitted) (M s.admitted) (surds.D s) (held_pair a)
  pub q_most : a.q.size ≤ suc (surds.g s + surds.g s)
  pub p_most : a.p.size ≤ surds.g s + surds.g s

module _ (r : Root) {a : Ideal} (s : Start r.surd a) where
  abbrev f : FieldName
  f = surds.name r.surd

  abbrev g : ℕ
  g = surds.g r.surd

  abbrev D : List ℕ
  D = surds.D r.surd

  -- Q and P, and their sizes
  abbrev q : List ℕ
  q = a.q.c

  abbrev m : ℕ
  m = a.q.size

  abbrev p : List ℕ
  p = a.p.c

  abbrev k : ℕ
  k = a.p.size

  abbrev pub x : Pair ℕ
  x = held_pair a

  abbrev pub root : List ℕ
  root = root_d f g D

  pub begun : Begun r.surd.admitted x
  begun = record {
    ideal = s.ideal;
    q_trim = s.held_q.trimmed;
    p_trim = s.held_p.trimmed;
    q_oks = λ i. subst (Ok f) (sym (at_poly {a = a.q} s.held_q i)) (s.held_q.reduced i);
    p_oks = λ i. subst (Ok f) (sym (at_poly {a = a.p} s.held_p i)) (s.held_p.reduced i);
    q_most = let e = length_poly {a = a.q} s.held_q in let w = s.q_most in omega arith;
    p_most = let e = length_poly {a = a.p} s.held_p in let w = s.p_most in omega arith;
  }

  -- deg P < deg Q
  pub p_less : k < m
  p_less =
      let y₀ = size_le (M r.surd.admitted) (poly a.p) s.ideal.κ s.ideal.low in
      let b = monic_size (K r.surd.admitted) (M r.surd.admitted) (poly a.q) s.ideal.monic in
      let c = held_size {a = a.p} s.held_p in
      let e = held_size {a = a.q} s.held_q in
      omega arith

  pub q_some : 0 < m
  q_some = let w = p_less in omega arith

  -- what (D − P²)/Q asks for
  pub cofactor_sizes : (0 < a.q.size) × (a.q.size ≤ r.surd.radicand.size) × (r.surd.radicand.size ≤ 128) × (a.p.size ≤ 64)
  cofactor_sizes =
      let w = s.p_most in
      let y = r.surd.admitted.genus_most in
      let e = s.q_most in
      let o = length_poly {a = r.surd.radicand} r.surd.held in
      let b = r.surd.admitted.size_D in
      (q_some, omega arith, omega arith, omega arith)

  pub cofactor_short : length (cofactor_at (ops f) D x) ≤ 129
  cofactor_short =
      let y₀ = held_size {a = r.surd.radicand} r.surd.held in
      let b = held_size {a = a.p} s.held_p in
      let u = r.surd.held.short in
      let y = r.surd.admitted.genus_most in
      let o = s.p_most in
      let v = length_mul (M r.surd.admitted) (poly a.p) (poly a.p) 129 (omega arith) in
      let w = length_trim (M r.surd.admitted) (mul (ops f) (poly a.p) (poly a.p)) in
      let t = length_sub (M r.surd.admitted) D (mul (ops f) (poly a.p) (poly a.p)) 129 (omega arith) (omega arith) in
      let e = length_trim (M r.surd.admitted) (norm_at (ops f) D x) in
      let z = quo_length (M r.surd.admitted) (norm_at (ops f) D x) (poly a.q) in
      let i = held_size {a = a.q} s.held_q in
      let n = p_less in
      omega arith

  difference_short : length (sub (ops f) root (poly a.p)) ≤ 129
  difference_short =
      let y₀ = d_length (surd_of r.surd.admitted) in
      let o = length_trim (M r.surd.admitted) root in
      let v = held_size {a = a.p} s.held_p in
      let w = s.held_p.short in
      let y = r.surd.admitted.genus_most in
      length_sub (M r.surd.admitted) root (poly a.p) 129 (omega arith) (omega arith)

  pub p_within : Within f p m
  p_within = held_within f.q p k m s.held_p (let w = p_less in omega arith)

  -- ---- the first step, with d − P in its array
  pub rest_is : {e : List ℕ} → Places e (λ i. (ops f).sub (get_or r.d i 0) (get_or p i 0)) → e ≡ pad (ops f) 129 (sub (ops f) root (poly a.p))
  rest_is {e} places = ext_get_or 0 e _ (places.long ∙ sym (length_pad (ops f) 129 _)) (λ i _. places.at i ∙ ap₂ (ops f).sub (root_at i) (sym (at_poly {a = a.p} s.held_p i)) ∙ sym (at_pad (ops f) 129 _ short i ∙ at_sub (M r.surd.admitted) root (poly a.p) i))
    where
      root_at : (i : ℕ) → get_or r.d i 0 ≡ get_or root i 0
      root_at i = ap (λ (c : List ℕ). get_or c i 0) r.d_is ∙ at_pad (ops f) 129 root (let y₀ = d_length (surd_of r.surd.admitted) in let g = r.surd.admitted.genus_most in omega arith) i

      short : length (sub (ops f) root (poly a.p)) ≤ 129
      short = difference_short

  -- where the steps stand before the first
  pub stands_first : {e : List ℕ} → e ≡ pad (ops f) 129 (sub (ops f) root (poly a.p)) → {c : List ℕ} → c ≡ pad (ops f) 129 (cofactor_at (ops f) D x) → Stands f g D x 0 c q e m
  unfolding before left steps
  stands_first rest_path cofactor_path = record { before_is = cofactor_path; q_is = s.held_q.places; left_is = rest_path; size_is = sym (length_poly {a = a.q} s.held_q) }

  module _ (high : suc g < m) {e : List ℕ} (rest_path : e ≡ pad (ops f) 129 (sub (ops f) root (poly a.p))) {c : List ℕ} (cofactor_path : c ≡ pad (ops f) 129 (cofactor_at (ops f) D x)) where
    -- no more places than Q has
    past : (i : ℕ) → m ≤ i → suc (suc g) ≤ i → get_or e i 0 ≡ 0
    past i w v =
        ap (λ (c : List ℕ). get_or c i 0) rest_path ∙ at_pad (ops f) 129 _ difference_short i ∙ at_sub (M r.surd.admitted) root (poly a.p) i
        ∙ sub_zeros f.q (pos f.q r.surd.admitted.prime) (get_or-eq_default root 0 {n = i} (let y₀ = d_length (surd_of r.surd.admitted) in omega arith)) (at_poly {a = a.p} s.held_p i ∙ p_within.past i w)

    pub at_first : At f g D x c q e m m 0
    unfolding degree_sum
    at_first = record {
      index = 0;
      stands = stands_first rest_path cofactor_path;
      sum_is = refl;
      above = λ i w. absurd (omega arith);
      top_most = let w = s.q_most in let v = r.surd.admitted.genus_most in omega arith;
      top_least = omega arith;
      rest_past = past;
    }

    unfoldable pub starts : {size : ℕ} → Going r (record { c = c; size = size }) a.q e (record { top = m; sum = 0 })
    starts = record { x = x; begun = begun; stands = at_first }

  -- ---- a pair that is reduced already
  pub reduces_none : m ≤ suc g → {z : Ideal} → Is f z.q (monic (ops f) (poly a.q)) → Is f z.p (rem (ops f) (poly a.p) (monic (ops f) (poly a.q))) → Reduces r.surd x z 0
  unfolding steps degree_sum deg size
  reduces_none low {z} q_is p_is =
      let turns : turns_of (ops f) D root g x ≡ 0 = turns_unique (surd_of r.surd.admitted) x (ideal_state (K r.surd.admitted) (M r.surd.admitted) D s.ideal) 0 (let w = held_size {a = a.q} s.held_q in omega arith) (λ i w. absurd (omega arith)) in
      let size_is : z.q.size ≡ m = q_is.size_is ∙ length_monic (M r.surd.admitted) (I r.surd.admitted) (poly a.q) ∙ held_size {a = a.q} s.held_q in
      record {
        q_is = subst (λ (n : ℕ). Is f z.q (monic (ops f) (steps (ops f) D root x n).q)) (sym turns) q_is;
        p_is = subst (λ (n : ℕ). Is f z.p (rem (ops f) (steps (ops f) D root x n).p (monic (ops f) (steps (ops f) D root x n).q))) (sym turns) p_is;
        sum_is = ap (degree_sum (ops f) D root g x) (sym turns);
        degree_is = ap (λ (n : ℕ). length (trim (ops f) (steps (ops f) D root x n).q) - 1) turns ∙ (let w = held_size {a = a.q} s.held_q in omega arith);
        some = let w = q_some in omega arith;
        most = let v = length_poly {a = a.q} s.held_q in omega arith;
      }
