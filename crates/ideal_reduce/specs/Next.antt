-- Where the degree of Q is above that of d, the first quotient a_0 is 0: the next Q is (D − P²)/Q, and the remainder
-- P + d. So the steps start at index 1.
use Prim.Native.Nat.{ℕ, suc, ◌-◌ as ◌-ₙ◌, ◌≤◌, ◌<◌}
use Rattle.std.proofs.Common.{zero-add, arith, sym, ap₂, ◌∙◌, subst, ext_get_or}
use Rattle.std.specs.Prelude.{◌≡◌, get_or}
use Rattle.std.proofs.Math.Path.{refl, ap, fun_ext}
use mathlib.Core.List.{List, [], ◌∷◌}
use Rattle.std.proofs.Math.ListN.{length}
use Rattle.math_ring.specs.Ring.{CRing}
use Rattle.math_ring.specs.Identity.{ring, quote}
use Rattle.math_ring.specs.Series.{Series}
use Rattle.math_algebra.specs.Polynomial.{F, Px}
use Rattle.spec_arithmetic.specs.Field.{FieldName, ops}
use Rattle.spec_arithmetic.specs.Polynomials.{trim, pad, add, sub, mul, quo, rem}
use Rattle.spec_bridge.specs.Model.{series, series_nil}
use Rattle.spec_bridge.specs.Trim.{length_trim, size_series, series_ext}
use Rattle.spec_bridge.specs.Arithmetic.{at_add, trim_add, oks_add, trim_sub, oks_sub, series_add, series_sub, series_mul}
use Rattle.spec_bridge.specs.Lengths.{length_add, length_sub}
use Rattle.spec_bridge.specs.Division.{trim_quo, oks_quo, trim_rem, oks_rem}
use Rattle.spec_bridge.specs.Quotient.{quo_length, rem_low}
use Rattle.spec_bridge.specs.Residues.{pos}
use Rattle.spec_laws.specs.Admitted.{surd_of}
use Rattle.spec_laws.specs.Pairs.{cofactor_at}
use Rattle.spec_laws.specs.Walk.{d_length}
use Rattle.base_places.specs.Places.{Places}
use Rattle.base_polynomial.specs.declared.Poly.{Poly}
use Rattle.base_polynomial.specs.Over.{poly, Is, at_poly, held_size}
use Rattle.base_polynomial.specs.Pad.{length_pad, at_pad}
use Rattle.base_surd.specs.Surd as surds
use Rattle.walk_step.specs.Step.{step_quo, next_rem, next_q, Stepped}
use Rattle.walk_state.specs.State.{pad_series}
use Rattle.base_ideal.specs.declared.Ideal.{Ideal}
use Rattle.ideal_operand.specs.Operand.{K, M, held_pair}
use Rattle.walk_state.specs.declared.root.Root.{Root}
use Rattle.ideal_descend.specs.Height.{Height}
use Rattle.ideal_descend.specs.Turn.{At, Going}
use Rattle.ideal_descend.proofs.Turn.{even_past, quotient_some, at_next}
use Rattle.ideal_reduce.specs.Start.{Start, x, root, begun, p_less, cofactor_short, at_first}

module _ (r : Root) {a : Ideal} (s : Start r.surd a) (above : suc (suc (surds.g r.surd)) < a.q.size)
    {rest : List ℕ} (places : Places rest (λ i. (surds.ops r.surd).add (get_or r.d i 0) (get_or a.p.c i 0))) {next : Poly} (next_path : Is (surds.name r.surd) next (cofactor_at (surds.ops r.surd) (surds.D r.surd) (held_pair a))) where
  abbrev f : FieldName
  f = surds.name r.surd

  abbrev g : ℕ
  g = surds.g r.surd

  abbrev D : List ℕ
  D = surds.D r.surd

  abbrev twice : List ℕ
  twice = r.twice

  -- Q and its size
  abbrev q : List ℕ
  q = a.q.c

  abbrev m : ℕ
  m = a.q.size

  open Series (F (K r.surd.admitted)) use {add as ◌+◌, mul as ◌*◌, neg as -◌, zer as 𝟘, one as 𝟙}

  infixl 6 ◌+◌ ◌-◌
  infixl 7 ◌*◌
  infix 8 -◌
  abbrev R[x] : CRing (Px (K r.surd.admitted))
  R[x] = Series (F (K r.surd.admitted))

  abbrev ◌-◌ : Px (K r.surd.admitted) → Px (K r.surd.admitted) → Px (K r.surd.admitted)
  a - b = a + (- b)

  abbrev ⟦◌⟧ : List ℕ → Px (K r.surd.admitted)
  ⟦ a ⟧ = series (M r.surd.admitted) a

  abbrev positive : 0 < f.q
  positive = pos f.q r.surd.admitted.prime

  -- d − P, d + P and (D − P²)/Q
  abbrev first_rest : List ℕ
  first_rest = pad (ops f) 129 (sub (ops f) (root r s) (poly a.p))

  abbrev sum : List ℕ
  sum = add (ops f) (root r s) (poly a.p)

  abbrev cofactor : List ℕ
  cofactor = cofactor_at (ops f) D (x r s)

  root_length : length (root r s) ≡ suc (suc g)
  root_length = d_length (surd_of r.surd.admitted)

  lengths : (length (trim (ops f) (root r s)) ≤ m -ₙ 1) × (length (trim (ops f) (poly a.p)) ≤ m -ₙ 1) × (m ≤ 63)
  lengths =
      let y₀ = root_length in
      let b = length_trim (M r.surd.admitted) (root r s) in
      let e = held_size {a = a.p} s.held_p in
      let w = p_less r s in
      let v = s.q_most in
      let y = r.surd.admitted.genus_most in
      (omega arith, omega arith, omega arith)

  sum_length : length sum ≤ m -ₙ 1
  sum_length = length_add (M r.surd.admitted) (root r s) (poly a.p) (m -ₙ 1) lengths.0 lengths.1

  -- ---- the dividend
  dividend_series : ⟦ sub (ops f) twice first_rest ⟧ ≡ ⟦ sum ⟧
  dividend_series =
      series_sub (M r.surd.admitted) twice first_rest
      ∙ ap₂ ◌-◌ (ap ⟦◌⟧ r.twice_is ∙ pad_series f.q positive (add (ops f) (root r s) (root r s)) (let y₀ = length_add (M r.surd.admitted) (root r s) (root r s) (m -ₙ 1) lengths.0 lengths.0 in let b = lengths in omega arith) ∙ series_add (M r.surd.admitted) (root r s) (root r s)) (pad_series f.q positive (sub (ops f) (root r s) (poly a.p)) (let y₀ = length_sub (M r.surd.admitted) (root r s) (poly a.p) (m -ₙ 1) lengths.0 lengths.1 in let b = lengths in omega arith) ∙ series_sub (M r.surd.admitted) (root r s) (poly a.p))
      ∙ ring R[x] (⟦ root r s ⟧ ∷ ⟦ poly a.p ⟧ ∷ []) (search quote depth 40 fits 9999) tt
      ∙ sym (series_add (M r.surd.admitted) (root r s) (poly a.p))

  dividend_is : sub (ops f) twice first_rest ≡ sum
  dividend_is = series_ext (M r.surd.admitted) _ _ (trim_sub (M r.surd.admitted) _ _) (trim_add (M r.surd.admitted) _ _) (oks_sub (M r.surd.admitted) _ _) (oks_add (M r.surd.admitted) _ _) dividend_series

  divisor_size : length (trim (ops f) q) ≡ m
  divisor_size = size_series (M r.surd.admitted) q (poly a.q) (fun_ext (λ i. ap (M r.surd.admitted).φ (sym (at_poly {a = a.q} s.held_q i)))) ∙ held_size {a = a.q} s.held_q

  -- ---- the step
  quotient_none : step_quo f twice q first_rest ≡ []
  unfolding step_quo
  quotient_none =
      ap (λ (a : List ℕ). quo (ops f) a q) dividend_is
      ∙ none (quo (ops f) sum q) (let y₀ = quo_length (M r.surd.admitted) sum q in let b = divisor_size in let e = sum_length in let v = length_trim (M r.surd.admitted) sum in omega arith)
    where
      none : (a : List ℕ) → length a ≤ 0 → a ≡ []
      none [] h = refl
      none (b ∷ a) h = absurd (omega arith)

  remainder_is : next_rem f twice q first_rest ≡ sum
  unfolding next_rem
  remainder_is =
      ap (λ (a : List ℕ). rem (ops f) a q) dividend_is
      ∙ series_ext (M r.surd.admitted) _ _ (trim_rem (M r.surd.admitted) _ _) (trim_add (M r.surd.admitted) _ _) (oks_rem (M r.surd.admitted) _ _) (oks_add (M r.surd.admitted) _ _) (rem_low (M r.surd.admitted) sum q (let b = divisor_size in let e = sum_length in let v = length_trim (M r.surd.admitted) sum in omega arith))

  next_is : next_q f twice next.c q first_rest ≡ cofactor
  unfolding next_q
  next_is =
      ap (λ (a : List ℕ). add (ops f) next.c (mul (ops f) a (sub (ops f) (next_rem f twice q first_rest) first_rest))) quotient_none
      ∙ series_ext (M r.surd.admitted) _ _ (trim_add (M r.surd.admitted) _ _) (trim_quo (M r.surd.admitted) _ _) (oks_add (M r.surd.admitted) _ _) (oks_quo (M r.surd.admitted) _ _) same
    where
      change : List ℕ
      change = sub (ops f) (next_rem f twice q first_rest) first_rest

      same : ⟦ add (ops f) next.c (mul (ops f) [] change) ⟧ ≡ ⟦ cofactor ⟧
      same = series_add (M r.surd.admitted) next.c (mul (ops f) [] change) ∙ ap₂ ◌+◌ (ap ⟦◌⟧ next_path.places ∙ pad_series f.q positive cofactor (let e = cofactor_short r s in omega arith)) (series_mul (M r.surd.admitted) [] change ∙ ap (λ (a : Px (K r.surd.admitted)). a * ⟦ change ⟧) (series_nil (M r.surd.admitted))) ∙ ring R[x] (⟦ cofactor ⟧ ∷ ⟦ change ⟧ ∷ []) (search quote depth 40 fits 9999) tt

  rest_is : rest ≡ pad (ops f) 129 sum
  rest_is =
      let b = lengths in
      let n : length sum ≤ 129 = (let y₀ = sum_length in omega arith) in
      ext_get_or 0 rest _ (places.long ∙ sym (length_pad (ops f) 129 _)) (λ i _. places.at i ∙ ap₂ (ops f).add (ap (λ (c : List ℕ). get_or c i 0) r.d_is ∙ at_pad (ops f) 129 (root r s) (let y₀ = root_length in omega arith) i) (sym (at_poly {a = a.p} s.held_p i)) ∙ sym (at_pad (ops f) 129 _ n i ∙ at_add (M r.surd.admitted) (root r s) (poly a.p) i))

  stepped : Stepped f twice next.c q first_rest rest next.c next.size
  stepped = record { rem_is = rest_is ∙ ap (pad (ops f) 129) (sym remainder_is); q_is = next_path.places ∙ ap (pad (ops f) 129) (sym next_is); size_is = next_path.size_is ∙ ap length (sym next_is) }

  high : suc g < m
  high = omega arith

  pub next_even : (i : ℕ) → m ≤ i → get_or twice i 0 ≡ get_or rest i 0
  next_even = even_past (begun r s) (at_first r s high refl next_path.places) r.twice_is high stepped

  module _ {top : ℕ} (h : Height twice rest top) where
    pub next_some : next.size < top
    next_some = quotient_some (begun r s) (at_first r s high refl next_path.places) r.twice_is high stepped h

    pub at_second : At f g D (x r s) q next.c rest next.size top (top -ₙ next.size)
    at_second = subst (At f g D (x r s) q next.c rest next.size top) (zero-add (top -ₙ next.size)) (at_next (begun r s) (at_first r s high refl next_path.places) r.twice_is high stepped h)

    unfoldable pub starts_next : Going r a.q next rest (record { top = top; sum = top -ₙ next.size })
    starts_next = record { x = x r s; begun = begun r s; stands = at_second }
