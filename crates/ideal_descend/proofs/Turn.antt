-- The proofs of specs/Turn.
use Rattle.std.specs.Prelude.{ℕ, suc, ◌+◌, ◌-◌, ◌≤◌, ◌<◌, ◌≡◌, get_or}
use native.Mathlib.Omega.{arith}
use Rattle.std.proofs.Common.{sym, ap₂, ◌∙◌, ⊎_elim}
use Rattle.std.proofs.Math.Path.{ap, subst}
use mathlib.Core.List.{List}
use Rattle.std.proofs.Math.ListN.{length, get_or-eq_default}
use Rattle.math_ring.specs.Order.{le_or_lt}
use Rattle.math_surd.specs.Step.{State}
use Rattle.math_ideals.specs.Steps.{shift_most, height_more, sum_of_degrees}
use Rattle.spec_arithmetic.specs.Field.{FieldName, ops}
use Rattle.spec_arithmetic.specs.Polynomials.{trim, pad, size, deg, monic, add, sub, rem}
use Rattle.spec_definitions.specs.Walk.{Ideal as Pair, steps}
use Rattle.spec_definitions.specs.Products.{turns_of, degree_sum}
use Rattle.spec_bridge.specs.Model.{series}
use Rattle.spec_bridge.specs.Arithmetic.{sub_cong}
use Rattle.spec_bridge.specs.Monic.{length_monic}
use Rattle.spec_bridge.specs.Residues.{pos}
use Rattle.spec_laws.specs.Admitted.{Admitted, surd_of, D_most}
use Rattle.spec_laws.specs.Pairs.{cofactor_at, ideal_state}
use Rattle.spec_laws.specs.Walk.{d_length}
use Rattle.spec_laws.specs.Reduction.{Q_size, degree_sum_is, sequence, size_falls, turns_unique}
use Rattle.spec_laws.specs.ReductionSizes.{sum_most}
use Rattle.base_places.specs.Places.{Within}
use Rattle.base_polynomial.specs.declared.Poly.{Poly}
use Rattle.base_polynomial.specs.Over.{poly, Held, Is}
use Rattle.walk_step.specs.Step.{Ready, Stepped}
use Rattle.walk_state.specs.State.{root_d, pad_within}
use Rattle.base_ideal.specs.declared.Ideal.{Ideal}
use Rattle.ideal_operand.specs.Operand.{K, M, I}
use Rattle.walk_state.specs.declared.root.Root.{Root}
use Rattle.ideal_descend.specs.declared.Stage.{Stage}
use Rattle.ideal_descend.specs.Height.{Height}
use Rattle.ideal_descend.proofs.HeightLaws.{height_length}
use Rattle.ideal_descend.specs.Recurrence.{left}
use Rattle.ideal_descend.proofs.Recurrence.{dividend, height_size}
use Rattle.walk_state.specs.Root.{name, g, D, root, top}
use Rattle.ideal_descend.specs.Stands.{Stands, Begun}
use Rattle.ideal_descend.proofs.Stands.{start_q, start_p, q_same, left_less, padded_series, padded_at, twice_within, twice_series, q_some, left_short, rest_reduced, ready, stands_next, q_held, difference_is}
use Rattle.ideal_descend.specs.Turn.{At, Going, Taken, Reduces}

module _ {f : FieldName} {g : ℕ} {D : List ℕ} {h : Admitted f g D} {x : Pair ℕ} (b : Begun h x) where
  abbrev d : List ℕ
  d = root_d f g D

  abbrev twice : List ℕ
  twice = add (ops f) d d

  abbrev pair : ℕ → Pair ℕ
  pair = steps (ops f) D d x

  abbrev l : ℕ → List ℕ
  l = left (ops f) D d x

  abbrev st : State (K h) (series (M h) D) (series (M h) x.q) (series (M h) (cofactor_at (ops f) D x)) (series (M h) x.p)
  st = ideal_state (K h) (M h) D b.ideal

  -- ---- at an index
  module _ {c k r : List ℕ} {m top sum : ℕ} (t : At f g D x c k r m top sum) where
    abbrev j : ℕ
    j = t.index

    -- the degrees of a and of Q_j add up to at most that of Q_0
    sum_at_most : m + sum ≤ length x.q
    unfolding steps
    sum_at_most =
        let w = shift_most (K h) (sequence (surd_of h) x st) j (λ i v. let u = t.above i v in let z = Q_size (surd_of h) x st i in omega arith) in
        let v = degree_sum_is (surd_of h) x st j in
        let z = t.sum_is in
        let y = Q_size (surd_of h) x st j in
        let e = q_same b j in
        let u = t.stands.size_is in
        let y₀ = Q_size (surd_of h) x st 0 in
        let e₀ = q_same b 0 in
        omega arith

    pub sum_bound : m + sum ≤ 63
    sum_bound = let w = sum_at_most in let e = b.q_most in let v = h.genus_most in omega arith

    pub rest_within : (n : ℕ) → top ≤ n → suc (suc g) ≤ n → Within f r n
    rest_within n e w = record { reduced = rest_reduced b t.stands; past = λ i p. t.rest_past i (omega arith) (omega arith) }

    -- ---- the step, with 2d in its array
    module _ {s : List ℕ} (twice_is : s ≡ pad (ops f) 129 twice) (high : suc g < m) where
      above_next : (i : ℕ) → i < suc j → suc g < length (trim (ops f) (pair i).q)
      above_next i e = ⊎_elim (λ p. subst (λ (w : ℕ). suc g < length (trim (ops f) (pair w).q)) (let w : j ≡ i = omega arith in w) (let w = q_same b j in let z = t.stands.size_is in omega arith)) (λ p. t.above i p) (le_or_lt j i)

      falls : length (pair (suc j)).q < m
      falls = let w = size_falls (surd_of h) x st j (above_next j (omega arith)) in let a = q_same b j in let e = q_same b (suc j) in let v = t.stands.size_is in omega arith

      -- what a step asks for
      pub at_ready : Ready f top m s c k r
      at_ready = let w = t.top_least in let e = falls in ready b t.stands twice_is (omega arith) t.top_most (rest_within top (omega arith) (omega arith)) (omega arith)

      -- what it leaves
      module _ {z w : List ℕ} {m' : ℕ} (u : Stepped f s c k r z w m') where
        abbrev next : Stands f g D x (suc j) k w z m'
        next = stands_next b t.stands twice_is u

        pub size_less : m' < m
        size_less = let a = next.size_is in let e = falls in omega arith

        -- 2d and the remainder have no places from the size of Q on
        pub even_past : (i : ℕ) → m ≤ i → get_or s i 0 ≡ get_or z i 0
        even_past i p =
            let a = left_less b j in
            let e = t.stands.size_is in
            let v = h.genus_most in
            let y = t.top_least in
            let o = t.top_most in
            (twice_within b twice_is m (omega arith) (omega arith)).past i p ∙ sym (padded_at b z (l (suc j)) next.left_is (left_short b next) i ∙ get_or-eq_default (l (suc j)) 0 {n = i} (omega arith))

        module _ {top' : ℕ} (e : Height s z top') where
          top_is : top' ≡ length (add (ops f) (pair (suc j)).p d)
          top_is =
              sym (height_length f.q (pos f.q h.prime) (twice_within b twice_is 129 (let v = h.genus_most in omega arith) (omega arith)).reduced (rest_reduced b next) e)
              ∙ ap length (sub_cong (M h) s twice z (l (suc j)) (twice_series b twice_is) (padded_series b z (l (suc j)) next.left_is (left_short b next)) ∙ dividend (surd_of h) x st (suc j))

          -- a is not constant
          pub quotient_some : m' < top'
          quotient_some =
              let a = top_is in
              let v = height_size (surd_of h) x st j in
              let y = height_more (K h) (sequence (surd_of h) x st) j in
              let o = Q_size (surd_of h) x st (suc j) in
              let q = q_same b (suc j) in
              let n = next.size_is in
              omega arith

          sum_next : sum + (top' - m') ≡ degree_sum (ops f) D d g x (suc j)
          unfolding sum_of_degrees
          sum_next =
              let a = top_is in
              let v = height_size (surd_of h) x st j in
              let o = Q_size (surd_of h) x st (suc j) in
              let q = q_same b (suc j) in
              let n = next.size_is in
              let y = degree_sum_is (surd_of h) x st (suc j) in
              let p = degree_sum_is (surd_of h) x st j in
              let w = t.sum_is in
              omega arith

          pub at_next : At f g D x k w z m' top' (sum + (top' - m'))
          at_next = record {
            index = suc j;
            stands = next;
            sum_is = sum_next;
            above = above_next;
            top_most = let a = top_is in let v = sum_most (surd_of h) x st (start_q b) (start_p b) (D_most h) (suc j) in let y = h.genus_most in omega arith;
            top_least = let a = quotient_some in omega arith;
            rest_past = λ i p y. sym (e.past i p) ∙ (twice_within b twice_is (suc (suc g)) (omega arith) (let v = h.genus_most in omega arith)).past i y;
          }

-- d in its array
pub root_within : (r : Root) (n : ℕ) → top r ≤ n → n ≤ 129 → Within (name r) r.d n
root_within r n e w = subst (λ (c : List ℕ). Within (name r) c n) (sym r.d_is) (pad_within r.surd.field.q _ n (let a = d_length (surd_of r.surd.admitted) in omega arith) w (surd_of r.surd.admitted).reduced)

-- ---- where the reduction stands
module _ {r : Root} {before_poly current : Poly} {rest : List ℕ} {at : Stage} (t : Going r before_poly current rest at) where
  abbrev f' : FieldName
  f' = name r

  abbrev h' : Admitted f' (g r) (D r)
  h' = r.surd.admitted

  abbrev j' : ℕ
  j' = t.stands.index

  pub going_held : Held f' current
  going_held = (q_held t.begun t.stands.stands).held

  pub going_some : 0 < current.size
  going_some = q_some t.begun t.stands.stands

  -- ---- the degree is at most g, with P_k = d − rest
  module _ (low : current.size < top r) where
    turns_are : turns_of (ops f') (D r) (root r) (g r) t.x ≡ j'
    turns_are = turns_unique (surd_of h') t.x (st t.begun) j' (let w = q_same t.begun j' in let z = t.stands.stands.size_is in omega arith) t.stands.above

    monic_length : length (monic (ops f') (pair t.begun j').q) ≡ current.size
    monic_length = let w = length_monic (M h') (I h') (pair t.begun j').q in let v = q_same t.begun j' in let z = t.stands.stands.size_is in omega arith

    pub reduces : {z : Ideal} → Is f' z.q (monic (ops f') (poly current)) → Is f' z.p (rem (ops f') (sub (ops f') r.d rest) (monic (ops f') (poly current))) → {sum : ℕ} → sum ≡ at.sum → Reduces r.surd t.x z sum
    unfolding deg size
    reduces {z} q_is p_is sum_is =
        let is = (q_held t.begun t.stands.stands).is in
        let size_is : z.q.size ≡ current.size = q_is.size_is ∙ ap (λ (v : List ℕ). length (monic (ops f') v)) is ∙ monic_length in
        record {
          q_is = subst (λ (n : ℕ). Is f' z.q (monic (ops f') (pair t.begun n).q)) (sym turns_are) (subst (Is f' z.q) (ap (monic (ops f')) is) q_is);
          p_is = subst (λ (n : ℕ). Is f' z.p (rem (ops f') (pair t.begun n).p (monic (ops f') (pair t.begun n).q))) (sym turns_are) (subst (Is f' z.p) (ap₂ (rem (ops f')) (difference_is t.begun t.stands.stands r.d_is) (ap (monic (ops f')) is)) p_is);
          sum_is = sum_is ∙ t.stands.sum_is ∙ ap (degree_sum (ops f') (D r) (root r) (g r) t.x) (sym turns_are);
          degree_is = ap (λ (n : ℕ). length (trim (ops f') (pair t.begun n).q) - 1) turns_are ∙ (let w = q_same t.begun j' in let z = t.stands.stands.size_is in omega arith);
          some = let w = going_some in omega arith;
          most = let w = sum_at_most t.begun t.stands in omega arith;
        }

  -- ---- a step
  module _ (high : top r ≤ current.size) where
    pub above : suc (g r) < current.size
    above = omega arith

    module _ {remains : List ℕ} {after : Poly} {to : Stage} (u : Taken r before_poly current rest remains after at to) where
      pub going_less : after.size < current.size
      going_less = size_less t.begun t.stands r.twice_is above u.stepped

      pub taken_next : At f' (g r) (D r) t.x current.c after.c remains after.size to.top to.sum
      taken_next = subst (λ (n : ℕ). At f' (g r) (D r) t.x current.c after.c remains after.size to.top n) (sym u.sum_is) (at_next t.begun t.stands r.twice_is above u.stepped u.height)

      -- the reduction of the same ideal, at the next index
      unfoldable pub going_next : Going r current after remains to
      going_next = record { x = t.x; begun = t.begun; stands = taken_next }
