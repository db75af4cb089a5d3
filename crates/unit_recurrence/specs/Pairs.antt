-- The two pairs of lists at index i on the way to m: p_{i−1} with p_{i−2} and s_{i−1} with s_{i−2}, in as many
-- places as p_{m−1} has coefficients. One step of the walk takes them to the next index.
use Rattle.std.specs.Prelude.{ℕ, suc, ◌+◌, ◌-◌, ◌%◌, ◌≤◌, ◌<◌, ◌≡◌, List, [], ◌∷◌, ◌++◌, length, get_or, take, drop}
use Rattle.std.proofs.Common.{mod-eq_of_lt, eq-or-lt_of_le, add-one, arith, sym, ap, ◌∙◌, subst, subst₂, ⊎_elim, length-append, length-drop}
use Rattle.spec_definitions.specs.Ticket.{budgets}
use Rattle.spec_definitions.specs.Walk.{p_before, s_before, degree_before, a}
use Rattle.spec_bridge.specs.Residues.{pos}
use Rattle.spec_laws.specs.Admitted.{surd_of}
use Rattle.spec_laws.specs.Convergents.{p_zero, s_zero, p_oks, s_oks, p_length, degree_rise}
use Rattle.spec_laws.specs.State.{a_next}
use Rattle.base_places.specs.Places.{Places, Within}
use Rattle.base_places.specs.Row.{Bounded}
use Rattle.base_polynomial.specs.declared.Poly.{Poly}
use Rattle.walk_step.specs.Step.{step_quo, division}
use Rattle.walk_step.specs.Sizes.{quo_within}
use Rattle.walk_state.specs.declared.Walk.{Walk}
use Rattle.walk_state.specs.Walk.{name, ops, g, D, root, top}
use Rattle.walk_state.specs.State.{quo_next}
use Rattle.walk_stride.specs.declared.Progress.{Progress}
use Rattle.walk_stride.specs.Walked.{Walked, size_most, degree_next, going}
use Rattle.unit_room.specs.Room.{Room}
use Rattle.unit_combine.specs.Pair.{Pair, Folded, bounded_take, pair_bounded, pair_back, pair_next}
use Rattle.unit_recurrence.specs.Recurrence.{p_older, s_older, p_older_zero, s_older_zero, p_older_suc, s_older_suc, p_next, s_next, p_older_oks, s_older_oks, s_short, p_older_short, s_older_short}

-- each list has k places and no more
pub record Long (k : ℕ) (p s x y : List ℕ) : Type 0 where
  pub p_long : length p ≡ k
  pub s_long : length s ≡ k
  pub x_long : length x ≡ k
  pub y_long : length y ≡ k

module _ (w : Walk) (m i : ℕ) where
  pub record Pairs (p s x y : List ℕ) : Type 0 where
    pub p_pair : Pair (m - i) (p_before (ops w) (D w) (root w) i) (p_older (ops w) (D w) (root w) i) p x
    pub s_pair : Pair (m - i) (s_before (ops w) (D w) (root w) i) (s_older (ops w) (D w) (root w) i) s y
    pub long : Long (suc (degree_before (ops w) (D w) (root w) m)) p s x y

one : (q : ℕ) → 2 < q → 1 ∷ [] ≡ 1 % q ∷ []
one q l = ap (λ (n : ℕ). n ∷ []) (sym (mod-eq_of_lt (let w : 1 < q = omega arith in w)))

module _ (w : Walk) (m : ℕ) {p s x y : List ℕ} where
  -- p_{−1} = 1 and s_{−1} = 0, with those before them
  pub pairs_first : Pair m (1 ∷ []) [] p x → Pair (m + 1) (1 ∷ []) [] s y → Long (suc (degree_before (ops w) (D w) (root w) m)) p s x y → Pairs w m 0 p s x y
  pairs_first u v long =
      let h = surd_of w.root.surd.admitted in
      let o = one w.root.surd.field.q w.root.surd.admitted.odd in
      let t : m ≡ m - 0 = omega arith in
      record {
        p_pair = subst (λ (n : ℕ). Pair n (p_before (ops w) (D w) (root w) 0) (p_older (ops w) (D w) (root w) 0) p x) t (subst₂ (λ (l n : List ℕ). Pair m l n p x) (o ∙ sym (p_zero h)) (sym (p_older_zero h)) u);
        s_pair = subst (λ (n : ℕ). Pair n (s_before (ops w) (D w) (root w) 0) (s_older (ops w) (D w) (root w) 0) s y) t (subst₂ (λ (l n : List ℕ). Pair m l n s y) (sym (s_zero h)) (o ∙ sym (s_older_zero h)) (pair_back (subst (λ (n : ℕ). Pair n (1 ∷ []) [] s y) (add-one m) v)));
        long = long;
      }

  -- the lists have admissible coefficients, and so have their first places
  pub pairs_bounded : {i : ℕ} → Pairs w m i p s x y → (Bounded w.root.surd.field.q p × Bounded w.root.surd.field.q x) × (Bounded w.root.surd.field.q s × Bounded w.root.surd.field.q y)
  pairs_bounded {i} t =
      let h = surd_of w.root.surd.admitted in
      let l = pos w.root.surd.field.q w.root.surd.admitted.prime in
      (pair_bounded w.root.surd.field.q l t.p_pair (p_oks h i) (p_older_oks h i), pair_bounded w.root.surd.field.q l t.s_pair (s_oks h i) (s_older_oks h i))

  pub first_bounded : {i : ℕ} → Pairs w m i p s x y → (n : ℕ) → (Bounded w.root.surd.field.q (take n p) × Bounded w.root.surd.field.q (take n x)) × (Bounded w.root.surd.field.q (take n s) × Bounded w.root.surd.field.q (take n y))
  first_bounded t n =
      let b = pairs_bounded t in
      let l = pos w.root.surd.field.q w.root.surd.admitted.prime in
      ((bounded_take w.root.surd.field.q l p n b.0.0, bounded_take w.root.surd.field.q l x n b.0.1), (bounded_take w.root.surd.field.q l s n b.1.0, bounded_take w.root.surd.field.q l y n b.1.1))

-- ---- one step of the walk, whose quotient has so many places
module _ (w : Walk) {before current : Poly} {rest : List ℕ} {at : Progress} (walk : Walked w before current rest at) (size : ℕ) (is : size ≡ top w + 1 - current.size) where
  degree_suc : at.degree.0 + size ≡ suc (degree_before (ops w) (D w) (root w) (suc at.index.0))
  degree_suc = let e = degree_next w walk in let l = size_most w walk in omega arith

  quotient_is : step_quo (name w) w.root.twice current.c rest ≡ a (ops w) (D w) (root w) at.index.0
  quotient_is = quo_next w.root.surd.field.q (g w) (D w) w.root.surd.admitted w.root.twice w.root.twice_is at.index.0 before.c current.c rest current.size walk.state ∙ sym (a_next (surd_of w.root.surd.admitted) at.index.0)

  module _ (m : ℕ) (less : at.index.0 < m) (few : m < budgets) where
    -- c holds the quotient
    pub quotient_fits : (c : List ℕ) → Places c (λ i. get_or (step_quo (name w) w.root.twice current.c rest) i 0) → Within (name w) c size × (size ≤ 129)
    quotient_fits c p =
        let t = going w walk (omega arith) in
        let r = w.root.surd.admitted.genus_most in
        (subst (Within (name w) c) (sym is) (quo_within w.root.surd.admitted.prime (division t.ready) p), omega arith)

  module _ (m : ℕ) (less : at.index.0 < m) where
    places : at.degree.0 + size ≤ suc (degree_before (ops w) (D w) (root w) m)
    places =
        let s = degree_suc in
        ⊎_elim (λ (v : suc at.index.0 ≡ m). let u : degree_before (ops w) (D w) (root w) (suc at.index.0) ≡ degree_before (ops w) (D w) (root w) m = ap (degree_before (ops w) (D w) (root w)) v in omega arith)
        (λ (v : suc at.index.0 < m). let u = degree_rise (surd_of w.root.surd.admitted) (suc at.index.0) m v in omega arith) (eq-or-lt_of_le less)

    -- the next convergents have room
    pub next_room : {p s x y : List ℕ} → Long (suc (degree_before (ops w) (D w) (root w) m)) p s x y → Room (at.degree.0 + size) p s x y
    next_room l = let r = places in record { p_room = omega arith; s_room = omega arith; x_room = omega arith; y_room = omega arith }

    long : (list new : List ℕ) → length list ≡ suc (degree_before (ops w) (D w) (root w) m) → length new ≡ at.degree.0 + size → length (new ++ drop (at.degree.0 + size) list) ≡ suc (degree_before (ops w) (D w) (root w) m)
    long list new e f =
        let r = places in
        let b = length-append new (drop (at.degree.0 + size) list) in
        let d = length-drop (at.degree.0 + size) list in
        omega arith

    -- each pair in its first places, where c has the coefficients of the quotient
    pub pairs_next : {p s x y c new_p new_s new_x new_y : List ℕ} → Pairs w m at.index.0 p s x y → ((j : ℕ) → get_or c j 0 ≡ get_or (step_quo (name w) w.root.twice current.c rest) j 0) → Folded (name w) (m - at.index.0) c (take (at.degree.0 + size) p) (take (at.degree.0 + size) x) new_p new_x → Folded (name w) (m - at.index.0) c (take (at.degree.0 + size) s) (take (at.degree.0 + size) y) new_s new_y → Long (at.degree.0 + size) new_p new_s new_x new_y → Pairs w m (at.index.0 + 1) (new_p ++ drop (at.degree.0 + size) p) (new_s ++ drop (at.degree.0 + size) s) (new_x ++ drop (at.degree.0 + size) x) (new_y ++ drop (at.degree.0 + size) y)
    pairs_next {p} {s} {x} {y} {c} {new_p} {new_s} {new_x} {new_y} u same fp fs l =
        let i = at.index.0 in
        let n = at.degree.0 + size in
        let h = surd_of w.root.surd.admitted in
        let q = w.root.surd.field.q in
        let k = suc (degree_before (ops w) (D w) (root w) m) in
        let e = degree_suc in
        let r = degree_rise h i (suc i) (omega arith) in
        let more : m - i ≡ suc (m - suc i) = omega arith in
        subst (λ (j : ℕ). Pairs w m j (new_p ++ drop n p) (new_s ++ drop n s) (new_x ++ drop n x) (new_y ++ drop n y)) (sym (add-one i))
        (record {
          p_pair = subst₂ (λ (v z : List ℕ). Pair (m - suc i) v z (new_p ++ drop n p) (new_x ++ drop n x)) (sym (p_next h i)) (sym (p_older_suc h i))
              (pair_next q (pos q w.root.surd.admitted.prime) c _ coefficients k n places u.long.p_long u.long.x_long (let o = p_older_short h i in omega arith) (subst (λ (v : List ℕ). length v ≤ n) (p_next h i) (let o = p_length h (suc i) in omega arith)) new_p new_x l.p_long l.x_long
              (subst (λ (t : ℕ). Pair t (p_before (ops w) (D w) (root w) i) (p_older (ops w) (D w) (root w) i) p x) more u.p_pair) (subst (λ (t : ℕ). Folded (name w) t c (take n p) (take n x) new_p new_x) more fp));
          s_pair = subst₂ (λ (v z : List ℕ). Pair (m - suc i) v z (new_s ++ drop n s) (new_y ++ drop n y)) (sym (s_next h i)) (sym (s_older_suc h i))
              (pair_next q (pos q w.root.surd.admitted.prime) c _ coefficients k n places u.long.s_long u.long.y_long (let o = s_older_short h i in omega arith) (subst (λ (v : List ℕ). length v ≤ n) (s_next h i) (let o = s_short h (suc i) in omega arith)) new_s new_y l.s_long l.y_long
              (subst (λ (t : ℕ). Pair t (s_before (ops w) (D w) (root w) i) (s_older (ops w) (D w) (root w) i) s y) more u.s_pair) (subst (λ (t : ℕ). Folded (name w) t c (take n s) (take n y) new_s new_y) more fs));
          long = record { p_long = long p new_p u.long.p_long l.p_long; s_long = long s new_s u.long.s_long l.s_long; x_long = long x new_x u.long.x_long l.x_long; y_long = long y new_y u.long.y_long l.y_long };
        })
      where
        coefficients : (j : ℕ) → get_or c j 0 ≡ get_or (a (ops w) (D w) (root w) at.index.0) j 0
        coefficients j = same j ∙ ap (λ (v : List ℕ). get_or v j 0) quotient_is
