-- Single steps from the ideal of an index i of the endless walk: after j of them the arrays are those of the steps
-- from that ideal, and the ideal and the distance are those of index i + j. What a step asks for and what it
-- leaves; where the steps start, and the ideal that they end in.
use Prim.Native.Nat.{ℕ, zero, suc, ◌+◌, ◌-◌, ◌≤◌, ◌<◌}
use Rattle.std.proofs.Common.{zero-add, suc-add, sym, ◌∙◌, subst}
use native.Mathlib.Omega.{arith}
use Rattle.std.specs.Prelude.{◌≡◌, List, get_or}
use Rattle.std.proofs.Math.Path.{ap, ap₂}
use Rattle.std.proofs.Math.ListN.{length, get_or-eq_default}
use Rattle.spec_arithmetic.specs.Field.{FieldName, ops}
use Rattle.spec_arithmetic.specs.Polynomials.{trim, monic, sub, rem}
use Rattle.spec_definitions.specs.Ticket.{Ticket, genus, ticket}
use Rattle.spec_definitions.specs.Walk.{Ideal as Pair, steps}
use Rattle.spec_definitions.specs.Answers.{root_of}
use Rattle.spec_definitions.specs.Listing.{ideal_of}
use Rattle.spec_bridge.specs.Lengths.{length_sub}
use Rattle.spec_laws.specs.Admitted.{Admitted}
use Rattle.spec_laws.specs.Pairs.{cofactor_at}
use Rattle.spec_giants.specs.Entries.{ideal, δ, entry_ideal, distance_next, steps_entry}
use Rattle.spec_giants.proofs.Entries.{q_length, p_length, q_trim, p_trim, q_oks, p_oks, steps_length}
use Rattle.base_counters.specs.declared.Distance.{Distance}
use Rattle.base_places.specs.Places.{Places, Within}
use Rattle.base_polynomial.specs.declared.Poly.{Poly}
use Rattle.base_polynomial.specs.Over.{poly, Held, Is}
use Rattle.base_surd.specs.declared.Surd.{Surd}
use Rattle.base_surd.specs.Surd as surds
use Rattle.base_surd.specs.Surd.{ticket_with}
use Rattle.walk_step.specs.Step.{Ready, Stepped}
use Rattle.walk_state.specs.State.{root_d}
use Rattle.base_ideal.specs.declared.Ideal.{Ideal}
use Rattle.ideal_operand.specs.Operand.{held_pair, M, operand_q, operand_p, operand_ideal, operand_q_size, operand_p_size}
use Rattle.walk_state.specs.declared.root.Root.{Root}
use Rattle.walk_state.specs.Root as roots
use Rattle.ideal_descend.specs.Recurrence.{left}
use Rattle.ideal_descend.specs.Stands.{Stands, Begun}
use Rattle.ideal_descend.proofs.Stands.{root_length, left_less, padded_at, rest_reduced, ready, stands_next, q_held, difference_is}
use Rattle.ideal_reduce.specs.Start.{Start, rest_is, stands_first}
use Rattle.ideal_climb.specs.Located.{IsAt, IsLast, on_walk_operand, on_walk_pair}

-- a step was made in place, and the distance has risen by g + 2 less the size of Q
pub record Turned (r : Root) (before_poly current : Poly) (rest : List ℕ) (before' current' : Poly) (rest' : List ℕ) (at to : Distance) : Type 0 where
  pub moved : before' ≡ current
  pub stepped : Stepped (roots.name r) r.twice before_poly.c current.c rest rest' current'.c current'.size
  pub distance_is : to.0 ≡ at.0 + (roots.top r - current.size)

-- the steps stand so many `turns` past the index `from`, with the distance reached
pub record Climbs (r : Root) (before_poly current : Poly) (rest : List ℕ) (at : Distance) : Type 0 where
  pub from : ℕ
  pub turns : ℕ
  pub stands : Stands (roots.name r) (roots.g r) (roots.D r) (ideal (ticket_with r.surd 0) from) turns before_poly.c current.c rest current.size
  pub distance_is : at.0 ≡ δ (ticket_with r.surd 0) (turns + from)

-- ---- the ideal of an index as one that steps start from
module _ {f : FieldName} (n : ℕ) {D : List ℕ} (h : Admitted f (genus n) D) (i : ℕ) where
  abbrev T : Ticket
  T = ticket f n D 0

  pub entry_begun : Begun h (ideal T i)
  entry_begun =
      let a = q_length T h i in
      let b = p_length T h i in
      record { ideal = entry_ideal T h i; q_trim = q_trim T h i; p_trim = p_trim T h i; q_oks = q_oks T h i; p_oks = p_oks T h i; q_most = omega arith; p_most = omega arith }

  -- Q after j steps
  pub turned_length : (j : ℕ) → length (steps (ops f) D (root_d f (genus n) D) (ideal T i) j).q ≡ length (ideal T (j + i)).q
  unfolding root_of
  turned_length j = steps_length T h i j

  -- the remainder has no more places than d
  pub left_most : (j : ℕ) → length (left (ops f) D (root_d f (genus n) D) (ideal T i) j) ≤ suc (suc (genus n))
  unfolding left
  left_most zero =
      let e = root_length entry_begun in
      let a = q_length T h i in
      let b = p_length T h i in
      let c : length (trim (ops f) (ideal T i).p) ≡ length (ideal T i).p = ap length (p_trim T h i) in
      length_sub (M h) (root_d f (genus n) D) (ideal T i).p (suc (suc (genus n))) (omega arith) (omega arith)
  left_most (suc j) = let e = left_less entry_begun j in let a = turned_length j in let b = q_length T h (j + i) in omega arith

-- ---- after some steps
module _ {r : Root} {before_poly current : Poly} {rest : List ℕ} {at : Distance} (t : Climbs r before_poly current rest at) where
  abbrev n : ℕ
  n = r.surd.n

  abbrev top : ℕ
  top = roots.top r

  abbrev f : FieldName
  f = roots.name r

  abbrev D : List ℕ
  D = roots.D r

  abbrev h : Admitted f (genus n) D
  h = r.surd.admitted

  abbrev T' : Ticket
  T' = ticket_with r.surd 0

  abbrev i : ℕ
  i = t.from

  abbrev j : ℕ
  j = t.turns

  abbrev begun : Begun h (ideal T' i)
  begun = entry_begun n h i

  size_is : current.size ≡ length (ideal T' (j + i)).q
  size_is = t.stands.size_is ∙ turned_length n h i j

  pub climbs_sizes : (0 < current.size) × (current.size < top) × (top ≤ 33)
  climbs_sizes = let e = size_is in let a = q_length T' h (j + i) in let g = h.genus_most in (omega arith, omega arith, omega arith)

  pub rest_within : {k : ℕ} → top ≤ k → Within f rest k
  rest_within {k} above =
      let g = h.genus_most in
      let e = left_most n h i j in
      record { reduced = rest_reduced begun t.stands; past = λ m l. padded_at begun rest _ t.stands.left_is (omega arith) m ∙ get_or-eq_default (left (ops f) D (root_d f (genus n) D) (ideal T' i) j) 0 {n = m} (omega arith) }

  -- what a step asks for
  pub climbs_ready : Ready f top current.size r.twice before_poly.c current.c rest
  climbs_ready =
      let g = h.genus_most in
      let e = turned_length n h i (suc j) in
      let a = q_length T' h (suc j + i) in
      ready begun t.stands r.twice_is (omega arith) (omega arith) (rest_within (omega arith)) (omega arith)

  -- ---- the next distance
  next_is : δ T' (suc (j + i)) ≡ at.0 + (top - current.size)
  next_is = let a = distance_next T' h (j + i) in let e = size_is in let c = t.distance_is in omega arith

  -- what it leaves
  pub climbs_next : {before' current' : Poly} {rest' : List ℕ} {to : Distance} → Turned r before_poly current rest before' current' rest' at to → Climbs r before' current' rest' to
  climbs_next {current' = c} {rest' = e} {to = to} u = record {
    from = i;
    turns = suc j;
    stands = subst (λ (v : Poly). Stands f (genus n) D (ideal T' i) (suc j) v.c c.c e c.size) (sym u.moved) (stands_next begun t.stands r.twice_is u.stepped);
    distance_is = u.distance_is ∙ sym next_is ∙ ap (δ T') (sym (suc-add j i));
  }

  -- ---- the ideal that the steps end in, with P = d − rest
  pub climbs_held : Held f current
  climbs_held = (q_held begun t.stands).held

  ended_q : monic (ops f) (poly current) ≡ (ideal T' (j + i)).q
  unfolding ideal_of root_of
  ended_q = ap (monic (ops f)) (q_held begun t.stands).is ∙ ap (λ (x : Pair ℕ). x.q) (steps_entry T' h i j)

  ended_p : rem (ops f) (sub (ops f) r.d rest) (monic (ops f) (poly current)) ≡ (ideal T' (j + i)).p
  unfolding ideal_of root_of
  ended_p = ap₂ (rem (ops f)) (difference_is begun t.stands r.d_is) (ap (monic (ops f)) (q_held begun t.stands).is) ∙ ap (λ (x : Pair ℕ). x.p) (steps_entry T' h i j)

  pub climbs_last : {y : ℕ} → at.0 ≤ y → y < at.0 + (top - current.size) → {z : Ideal} → Is f z.q (monic (ops f) (poly current)) → Is f z.p (rem (ops f) (sub (ops f) r.d rest) (monic (ops f) (poly current))) → IsLast r.surd y z at
  climbs_last {y} low high {z} q_is p_is = record {
    at = j + i;
    is = record { q_is = subst (Is f z.q) ended_q q_is; p_is = subst (Is f z.p) ended_p p_is; distance_is = t.distance_is };
    last = record { low = let e = t.distance_is in omega arith; high = let e = next_is in omega arith };
  }

-- ---- where the steps start
module _ {s : Surd} {i : ℕ} {z : Ideal} {at : Distance} (t : IsAt s i z at) where
  -- no step is made
  pub stays_last : {y : ℕ} → at.0 ≤ y → y < at.0 + (suc (suc (surds.g s)) - z.q.size) → IsLast s y z at
  stays_last low high =
      let e = t.distance_is in
      let a = distance_next (ticket_with s 0) s.admitted i in
      let b = t.q_is.size_is in
      record { at = i; is = t; last = record { low = omega arith; high = omega arith } }

  pub start : Start s z
  start =
      let o = on_walk_operand t in
      let a = operand_q_size s.admitted o in
      let b = operand_p_size s.admitted o in
      record { held_q = operand_q s.admitted o; held_p = operand_p s.admitted o; ideal = operand_ideal s.admitted o; q_most = omega arith; p_most = omega arith }

module _ (r : Root) {i : ℕ} {z : Ideal} {at : Distance} (t : IsAt r.surd i z at) {before_poly : Poly} {e : List ℕ} (cofactor_is : Is (roots.name r) before_poly (cofactor_at (roots.ops r) (roots.D r) (held_pair z))) (places : Places e (λ m. (roots.ops r).sub (get_or r.d m 0) (get_or z.p.c m 0))) where
  first : Stands (roots.name r) (roots.g r) (roots.D r) (ideal (ticket_with r.surd 0) i) 0 before_poly.c z.q.c e z.q.size
  first = subst (λ (x : Pair ℕ). Stands (roots.name r) (roots.g r) (roots.D r) x 0 before_poly.c z.q.c e z.q.size) (on_walk_pair t) (stands_first r (start t) (rest_is r (start t) places) cofactor_is.places)

  pub climbs_first : Climbs r before_poly z.q e at
  climbs_first = record { from = i; turns = 0; stands = first; distance_is = t.distance_is ∙ ap (δ (ticket_with r.surd 0)) (sym (zero-add i)) }
