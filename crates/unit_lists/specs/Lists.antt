-- The four lists at the end, as the definitions give them: p and s hold the unit's coefficients, the other
-- two zeros, each in its places 0 to R, and all later places are as they were.
use Rattle.std.specs.Prelude.{ℕ, suc, ◌+◌, ◌-◌, ◌≡◌, List, [], ◌++◌, length, get_or, drop, replicate}
use Rattle.std.proofs.Common.{arith, sym, ap, ap₂, ◌∙◌, subst}
use Rattle.std.proofs.lemmas.List.{length-replicate}
use Rattle.spec_arithmetic.specs.Polynomials.{pad, deg, scale, lead}
use Rattle.spec_definitions.specs.Walk.{p_before, s_before, degree_before, over_lead, unit_of}
use Rattle.spec_definitions.specs.Answers.{root_of}
use Rattle.spec_definitions.specs.Units.{written, unit_lists}
use Rattle.spec_bridge.specs.Residues.{pos}
use Rattle.base_surd.specs.Surd.{ticket_with}
use Rattle.walk_state.specs.declared.Walk.{Walk}
use Rattle.walk_state.specs.Walk.{ops, D, root}
use Rattle.unit_room.specs.Room.{lists}
use Rattle.unit_combine.specs.Written.{Written, written_zeros, written_is}
use Rattle.unit_combine.specs.Pair.{pair_last}
use Rattle.unit_recurrence.specs.Pairs.{Pairs}
use Rattle.unit_monic.specs.Multiple.{written_scale}

lists_path : {a b c d a' b' c' d' : List ℕ} → a ≡ a' → b ≡ b' → c ≡ c' → d ≡ d' → lists a b c d ≡ lists a' b' c' d'
lists_path {a} {b} {c} {d} {a'} {b'} {c'} {d'} p s x y = ap₂ (λ (k l : List ℕ). lists k l c d) p s ∙ ap₂ (λ (k l : List ℕ). lists a' b' k l) x y

-- ---- after the last step: p and s are divided by λ, the leading coefficient of p_{m−1}
module _ (w : Walk) {m : ℕ} {p s x y : List ℕ} (e : Pairs w m m p s x y) where
  p_is : Written (p_before (ops w) (D w) (root w) m) p
  p_is = pair_last e.p_pair (omega arith)

  s_is : Written (s_before (ops w) (D w) (root w) m) s
  s_is = pair_last e.s_pair (omega arith)

  -- λ stands at the last place of p
  lead_last : (ops w).inv (get_or p (length p - 1) 0) ≡ over_lead (ops w) (D w) (root w) m
  unfolding over_lead lead degree_before deg
  lead_last =
      let n = e.long.p_long in
      let l : length p - 1 ≡ degree_before (ops w) (D w) (root w) m = omega arith in
      ap (ops w).inv (p_is.at (length p - 1) (omega arith) ∙ ap (λ (i : ℕ). get_or (p_before (ops w) (D w) (root w) m) i 0) l)

  module _ (R k : ℕ) (is : R ≡ degree_before (ops w) (D w) (root w) m) (count : k ≡ R + 1) where
    front : (l old new : List ℕ) → Written l new → length new ≡ suc (degree_before (ops w) (D w) (root w) m) → new ++ drop k old ≡ pad (ops w) (suc R) l ++ drop (suc R) old
    front l old new h n = let f : k ≡ suc R = omega arith in ap₂ ◌++◌ (written_is w.root.surd.field.q (suc R) l new h (omega arith)) (ap (λ (i : ℕ). drop i old) f)

    divided : (l old list new : List ℕ) → length list ≡ suc (degree_before (ops w) (D w) (root w) m) → length new ≡ length list → Written l list → Written (scale (ops w) ((ops w).inv (get_or p (length p - 1) 0)) list) new → new ++ drop k old ≡ pad (ops w) (suc R) (scale (ops w) (over_lead (ops w) (D w) (root w) m) l) ++ drop (suc R) old
    divided l old list new n z h d = front _ old new (subst (λ (i : ℕ). Written (scale (ops w) i l) new) lead_last (written_scale w.root.surd.field.q (pos w.root.surd.field.q w.root.surd.admitted.prime) _ l list new z h d)) (z ∙ n)

    cleared : (old list new : List ℕ) → length list ≡ suc (degree_before (ops w) (D w) (root w) m) → new ≡ replicate (length list) 0 → new ++ drop k old ≡ pad (ops w) (suc R) [] ++ drop (suc R) old
    cleared old list new n z = front [] old new (subst (Written []) (sym z) (written_zeros (length list))) (ap length z ∙ length-replicate {A = ℕ} (length list) 0 ∙ n)

    -- p and s hold the unit, and the work lists are cleared
    pub unit_written : {monic_p monic_s clear_x clear_y : List ℕ} (old_p old_s old_x old_y : List ℕ) → length monic_p ≡ length p → length monic_s ≡ length s → Written (scale (ops w) ((ops w).inv (get_or p (length p - 1) 0)) p) monic_p → Written (scale (ops w) ((ops w).inv (get_or p (length p - 1) 0)) s) monic_s → clear_x ≡ replicate (length x) 0 → clear_y ≡ replicate (length y) 0 → (b : ℕ) → lists (monic_p ++ drop k old_p) (monic_s ++ drop k old_s) (clear_x ++ drop k old_x) (clear_y ++ drop k old_y) ≡ unit_lists (ticket_with w.root.surd b) R m (lists old_p old_s old_x old_y)
    unfolding unit_lists written unit_of root_of
    unit_written {monic_p} {monic_s} {clear_x} {clear_y} old_p old_s old_x old_y a c u v f g b =
        lists_path (divided (p_before (ops w) (D w) (root w) m) old_p p monic_p e.long.p_long a p_is u)
        (divided (s_before (ops w) (D w) (root w) m) old_s s monic_s e.long.s_long c s_is v)
        (cleared old_x x clear_x e.long.x_long f)
        (cleared old_y y clear_y e.long.y_long g)
