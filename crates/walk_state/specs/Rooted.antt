-- The root of D in 129 places, from the top coefficient down: what holds when the places from e on stand.
-- Each coefficient is half of that of D − d² at its place plus h, and to set it is to add its monomial.
use Prim.Native.Nat.{ℕ, zero, suc, ◌+◌, ◌%◌, ◌≤◌, ◌<◌}
use Rattle.std.proofs.Common.{mod-lt, zero-add, ap₂, ◌∙◌, ⊎_elim, get_or-set_same, get_or-set_other, get_or-take, length-take-le, ext_get_or}
use Rattle.std.proofs.Math.Nat.{mod-eq_of_lt}
use Rattle.std.proofs.Math.Decide.{ℕ_discrete}
use native.Mathlib.Omega.{arith}
use Rattle.std.specs.Prelude.{◌≡◌, List, get_or, take, set}
use Rattle.std.proofs.Math.Path.{refl, sym, ap, fun_ext, subst}
use Rattle.std.proofs.Math.ListN.{length, length-set, get_or-eq_default}
use Rattle.math_ring.specs.Order.{le_or_lt}
use Rattle.spec_arithmetic.specs.Field.{prime, modulo}
use Rattle.spec_arithmetic.specs.Polynomials.{pad, add, sub, mul, monomial, root_in, root}
use Rattle.spec_bridge.specs.Model.{series, add_zer_right}
use Rattle.spec_bridge.specs.Trim.{length_trim}
use Rattle.spec_bridge.specs.Arithmetic.{at_add, at_sub, mul_cong}
use Rattle.spec_bridge.specs.Lengths.{length_add}
use Rattle.spec_bridge.specs.Residues.{model}
use Rattle.base_places.specs.Pad.{pad_take}
use Rattle.base_places.specs.Places.{Within, zeros, length_zeros, at_zeros}
use Rattle.base_places.specs.Row.{at_take}

-- ---- c·x^e
monomial_at : (q c e : ℕ) → get_or (monomial (modulo q) c e) e 0 ≡ c
unfolding monomial
monomial_at q c zero = refl
monomial_at q c (suc e) = monomial_at q c e

monomial_length : (q c e : ℕ) → length (monomial (modulo q) c e) ≡ suc e
unfolding monomial
monomial_length q c zero = refl
monomial_length q c (suc e) = ap suc (monomial_length q c e)

monomial_other : (q c e i : ℕ) → (i ≡ e → ⊥) → get_or (monomial (modulo q) c e) i 0 ≡ 0
unfolding monomial
monomial_other q c zero zero n = absurd (n refl)
monomial_other q c zero (suc i) n = refl
monomial_other q c (suc e) zero n = refl
monomial_other q c (suc e) (suc i) n = monomial_other q c e i (λ s. n (ap suc s))

-- ---- the root depends on D by its coefficients only
module _ (q : ℕ) (pos : 0 < q) where
  half : ℕ
  half = (modulo q).inv ((modulo q).add (modulo q).one (modulo q).one)

  half_is : 2 < q → half ≡ (modulo q).inv 2
  unfolding half
  half_is h = ap (modulo q).inv (ap (λ (x : ℕ). (x + x) % q) (mod-eq_of_lt (let w : 1 < q = omega arith in w)) ∙ mod-eq_of_lt h)

  -- the coefficient of x^e
  next : List ℕ → ℕ → ℕ → List ℕ → ℕ
  next D h e d = (modulo q).mul (get_or (sub (modulo q) D (mul (modulo q) d d)) (e + h) 0) half

  in_suc : (D : List ℕ) (h e : ℕ) (d : List ℕ) → root_in (modulo q) D h (suc e) d ≡ root_in (modulo q) D h e (add (modulo q) d (monomial (modulo q) (next D h e d) e))
  unfolding root_in next half
  in_suc D h e d = refl

  next_at : (D : List ℕ) (h e : ℕ) (d : List ℕ) → next D h e d ≡ (modulo q).mul ((modulo q).sub (get_or D (e + h) 0) (get_or (mul (modulo q) d d) (e + h) 0)) half
  unfolding next
  next_at D h e d = ap (λ (x : ℕ). (modulo q).mul x half) (at_sub (model q pos) D (mul (modulo q) d d) (e + h))

  module _ (D E : List ℕ) (same : (i : ℕ) → get_or D i 0 ≡ get_or E i 0) where
    next_cong : (h e : ℕ) (d : List ℕ) → next D h e d ≡ next E h e d
    next_cong h e d = next_at D h e d ∙ ap (λ (x : ℕ). (modulo q).mul ((modulo q).sub x (get_or (mul (modulo q) d d) (e + h) 0)) half) (same (e + h)) ∙ sym (next_at E h e d)

    in_cong : (h e : ℕ) (d : List ℕ) → root_in (modulo q) D h e d ≡ root_in (modulo q) E h e d
    unfolding root_in
    in_cong h zero d = refl
    in_cong h (suc e) d = in_suc D h e d ∙ in_cong h e _ ∙ ap (λ (c : ℕ). root_in (modulo q) E h e (add (modulo q) d (monomial (modulo q) c e))) (next_cong h e d) ∙ sym (in_suc E h e d)

    pub root_cong : (h : ℕ) → root (modulo q) D h ≡ root (modulo q) E h
    unfolding root
    root_cong h = in_cong h h _

-- ---- d so far: the coefficients of x^e to x^h stand in z
pub record Rooted (q : ℕ) (D : List ℕ) (h e : ℕ) (z : List ℕ) : Type 0 where
  pub long : length z ≡ 129
  pub within : Within (prime q) z (h + 1)
  pub lead : get_or z h 0 ≡ 1
  pub low : (i : ℕ) → i < e → get_or z i 0 ≡ 0
  pub turns : root_in (modulo q) D h e (take (h + 1) z) ≡ root (modulo q) D h

module _ (q : ℕ) (odd : 2 < q) (D : List ℕ) (h : ℕ) (fits : h ≤ 64) where
  pos : 0 < q
  pos = omega arith

  -- h + 1 places with 1 at the last are told by their coefficients
  take_is : (z l : List ℕ) → length z ≡ 129 → length l ≤ h + 1 → get_or l h 0 ≡ 1 → ((i : ℕ) → i < h + 1 → get_or l i 0 ≡ get_or z i 0) → l ≡ take (h + 1) z
  take_is z l long short lead same =
      let full : h < length l = ⊎_elim (λ k. absurd (let w : get_or l h 0 ≡ 0 = get_or-eq_default l 0 k in omega arith)) (λ k. k) (le_or_lt (length l) h) in
      let m : length (take (h + 1) z) ≡ h + 1 = length-take-le (h + 1) z (omega arith) in
      ext_get_or 0 l (take (h + 1) z) (omega arith) (λ i k. same i (omega arith) ∙ sym (get_or-take (h + 1) z i 0 (omega arith)))

  -- what is set at i leaves the other places
  set_other : (z : List ℕ) (i j v x : ℕ) → (j ≡ i → ⊥) → get_or z j 0 ≡ x → get_or (set z i v) j 0 ≡ x
  set_other z i j v x n e = get_or-set_other z i j v 0 n ∙ e

  set_below : (z : List ℕ) (i v : ℕ) → length z ≡ 129 → i ≤ 64 → v < q → ((j : ℕ) → get_or z j 0 < q) → (j : ℕ) → get_or (set z i v) j 0 < q
  set_below z i v long k l b j =
      elim (ℕ_discrete j i) [
        | yes e ↦ subst (λ (x : ℕ). x < q) (sym (ap (λ (m : ℕ). get_or (set z i v) m 0) e ∙ get_or-set_same z i v 0 (omega arith))) l
        | no e ↦ subst (λ (x : ℕ). x < q) (sym (set_other z i j v _ e refl)) (b j)
      ]

  -- x^h
  pub rooted_first : Rooted q D h h (set zeros h 1)
  unfolding root
  rooted_first =
      record {
        long = long;
        within = record { reduced = set_below zeros h 1 length_zeros fits (omega arith) (λ j. subst (λ (x : ℕ). x < q) (sym (at_zeros j)) pos); past = λ i k. set_other zeros h i 1 0 (λ e. omega arith) (at_zeros i) };
        lead = lead;
        low = λ i k. set_other zeros h i 1 0 (λ e. omega arith) (at_zeros i);
        turns = ap (root_in (modulo q) D h h) (sym (take_is (set zeros h 1) (monomial (modulo q) (1 % q) h) long (let e = monomial_length q (1 % q) h in omega arith) (monomial_at q (1 % q) h ∙ one) same));
      }
    where
      long : length (set zeros h 1) ≡ 129
      long = length-set zeros h 1 ∙ length_zeros

      one : 1 % q ≡ 1
      one = mod-eq_of_lt (omega arith)

      lead : get_or (set zeros h 1) h 0 ≡ 1
      lead = get_or-set_same zeros h 1 0 (let e : length zeros ≡ 129 = length_zeros in omega arith)

      same : (i : ℕ) → i < h + 1 → get_or (monomial (modulo q) (1 % q) h) i 0 ≡ get_or (set zeros h 1) i 0
      same i k =
          elim (ℕ_discrete i h) [
            | yes e ↦ ap (λ (m : ℕ). get_or (monomial (modulo q) (1 % q) h) m 0) e ∙ monomial_at q (1 % q) h ∙ one ∙ sym (ap (λ (m : ℕ). get_or (set zeros h 1) m 0) e ∙ lead)
            | no e ↦ monomial_other q (1 % q) h i e ∙ sym (set_other zeros h i 1 0 e (at_zeros i))
          ]

  -- one coefficient more
  pub rooted_more : (e : ℕ) (z : List ℕ) (v : ℕ) → Rooted q D h (suc e) z → e < h → v ≡ (modulo q).mul ((modulo q).sub (get_or D (e + h) 0) (get_or (mul (modulo q) z z) (e + h) 0)) ((modulo q).inv 2) → Rooted q D h e (set z e v)
  rooted_more e z v r k is =
      record {
        long = length-set z e v ∙ r.long;
        within = record { reduced = set_below z e v r.long (omega arith) below r.within.reduced; past = λ i l. set_other z e i v 0 (λ s. omega arith) (r.within.past i l) };
        lead = set_other z e h v 1 (λ s. omega arith) r.lead;
        low = λ i l. set_other z e i v 0 (λ s. omega arith) (r.low i (omega arith));
        turns = ap (root_in (modulo q) D h e) (sym sum) ∙ sym (in_suc q pos D h e d) ∙ r.turns;
      }
    where
      d : List ℕ
      d = take (h + 1) z

      same : (i : ℕ) → get_or (take (h + 1) z) i 0 ≡ get_or z i 0
      same = at_take z (h + 1) r.within.past

      below : v < q
      below = subst (λ (x : ℕ). x < q) (sym is) (mod-lt _ pos)

      v_is : next q pos D h e (take (h + 1) z) ≡ v
      v_is =
          let s : series (model q pos) (take (h + 1) z) ≡ series (model q pos) z = fun_ext (λ i. ap (model q pos).φ (same i)) in
          next_at q pos D h e (take (h + 1) z) ∙ ap₂ (λ (l : List ℕ) (x : ℕ). (modulo q).mul ((modulo q).sub (get_or D (e + h) 0) (get_or l (e + h) 0)) x) (mul_cong (model q pos) _ z _ z s s) (half_is q pos odd) ∙ sym is

      m : List ℕ
      m = monomial (modulo q) (next q pos D h e (take (h + 1) z)) e

      place : (i : ℕ) → get_or (add (modulo q) (take (h + 1) z) (monomial (modulo q) (next q pos D h e (take (h + 1) z)) e)) i 0 ≡ get_or (set z e v) i 0
      place i =
          at_add (model q pos) (take (h + 1) z) m i
          ∙ elim (ℕ_discrete i e) [
            | yes s ↦ ap₂ (modulo q).add (same i ∙ r.low i (omega arith)) (ap (λ (j : ℕ). get_or m j 0) s ∙ monomial_at q _ e ∙ v_is) ∙ ap (λ (x : ℕ). x % q) (zero-add v) ∙ mod-eq_of_lt below
                ∙ sym (ap (λ (j : ℕ). get_or (set z e v) j 0) s ∙ get_or-set_same z e v 0 (let l = r.long in omega arith))
            | no s ↦ ap₂ (modulo q).add (same i) (monomial_other q _ e i s) ∙ add_zer_right (model q pos) (get_or z i 0) (r.within.reduced i) ∙ sym (set_other z e i v _ s refl)
          ]

      sum : add (modulo q) (take (h + 1) z) (monomial (modulo q) (next q pos D h e (take (h + 1) z)) e) ≡ take (h + 1) (set z e v)
      sum =
          let l : length (take (h + 1) z) ≡ h + 1 = length-take-le (h + 1) z (let l = r.long in omega arith) in
          let a = length_trim (model q pos) (take (h + 1) z) in
          let b = length_trim (model q pos) m in
          let c : length m ≡ suc e = monomial_length q _ e in
          take_is (set z e v) _ (length-set z e v ∙ r.long) (length_add (model q pos) (take (h + 1) z) m (h + 1) (omega arith) (omega arith)) (place h ∙ set_other z e h v 1 (λ s. omega arith) r.lead) (λ i _. place i)

  pub rooted_all : (z : List ℕ) → Rooted q D h 0 z → z ≡ pad (modulo q) 129 (root (modulo q) D h)
  unfolding root_in
  rooted_all z r = pad_take (modulo q) 129 (h + 1) z r.long r.within.past ∙ ap (pad (modulo q) 129) r.turns
