-- Where the walk of √D stands: the state at its index and the degree of p_{i−1}. Whether a constant Q was met
-- is told by the sizes.
use Rattle.std.specs.Prelude.{ℕ, suc, ◌+◌, ◌*◌, ◌-◌, ◌≤◌, ◌<◌, ◌≡◌, List}
use Rattle.std.proofs.Common.{mul-le-mul, arith, sym, ap, ap₂, ◌∙◌, subst₂}
use Rattle.spec_definitions.specs.Walk.{degree_before}
use Rattle.spec_definitions.specs.Ticket.{budgets, degrees}
use Rattle.spec_laws.specs.Admitted.{surd_of}
use Rattle.spec_laws.specs.Convergents.{degree_zero, degree_suc, degree_most}
use Rattle.spec_laws.specs.Fraction.{Q_some, Q_length}
use Rattle.spec_laws.specs.QuasiPeriod.{NoQuasi}
use Rattle.base_polynomial.specs.declared.Poly.{Poly}
use Rattle.walk_state.specs.declared.Walk.{Walk}
use Rattle.walk_state.specs.State.{State, state_first, state_ready}
use Rattle.walk_state.specs.Start.{one_is}
use Rattle.walk_state.specs.Walk.{name, ops, g, D, root, top}
use Rattle.walk_stride.specs.declared.Progress.{Progress}
use Rattle.walk_stride.specs.Progress.{Begun, Going}

pub record Walked (w : Walk) (before current : Poly) (rest : List ℕ) (at : Progress) : Type 0 where
  pub state : State (name w) (g w) (D w) at.index.0 before.c current.c rest current.size
  pub degree_is : at.degree.0 ≡ degree_before (ops w) (D w) (root w) at.index.0

-- no Q of an index from 1 to that of the walk is constant
abbrev pub NoneTo : Walk → Progress → Type 0
NoneTo w at = NoQuasi (ops w) (D w) (root w) at.index.0

module _ (w : Walk) {before current : Poly} {rest : List ℕ} {at : Progress} (b : Begun w before current rest at) where
  -- D, 1 and d in their places
  pub walked_first : Walked w before current rest at
  walked_first =
      let h = w.root.surd.admitted in
      let t = state_first w.root.surd.field.q (g w) (D w) h in
      record {
        state =
            subst₂ (λ (i j : ℕ). State (name w) (g w) (D w) i before.c current.c rest j) (sym b.index_is) (sym b.size_is)
            (record {
              before_is = ap (λ (p : Poly). p.c) b.before_is ∙ w.root.surd.held.places ∙ t.before_is;
              q_is = b.current_is ∙ one_is w.root.surd.field.q h.prime.two ∙ t.q_is;
              left_is = b.rest_is ∙ w.root.d_is ∙ t.left_is;
              size_is = t.size_is;
            });
        degree_is = b.degree_is ∙ sym (degree_zero (surd_of h)) ∙ ap (degree_before (ops w) (D w) (root w)) (sym b.index_is);
      }

  pub none_first : NoneTo w at
  none_first j k l = let e = b.index_is in absurd (omega arith)

module _ (w : Walk) {before current : Poly} {rest : List ℕ} {at : Progress} (t : Walked w before current rest at) where
  pub size_some : 0 < current.size
  size_some = let k = t.state.size_is in let m = Q_some (surd_of w.root.surd.admitted) at.index.0 in omega arith

  pub size_most : current.size ≤ top w
  size_most = let k = t.state.size_is in let m = Q_length (surd_of w.root.surd.admitted) at.index.0 in omega arith

  -- the degree after one step more, and that it fits
  pub degree_next : at.degree.0 + (top w - current.size) ≡ degree_before (ops w) (D w) (root w) (suc at.index.0)
  degree_next = sym (degree_suc (surd_of w.root.surd.admitted) at.index.0 ∙ ap₂ (λ (i k : ℕ). i + (top w - k)) (sym t.degree_is) (sym t.state.size_is))

  degree_fits : at.index.0 < budgets → at.degree.0 ≤ degrees
  degree_fits k =
      let m = degree_most (surd_of w.root.surd.admitted) at.index.0 in
      let i = t.degree_is in
      let x : at.index.0 ≤ budgets = omega arith in
      let y : suc (g w) ≤ 32 = (let l = w.root.surd.admitted.genus_most in omega arith) in
      let p : at.index.0 * suc (g w) ≤ budgets * 32 = mul-le-mul x y in
      omega arith

  -- what a step asks for
  pub going : at.index.0 < budgets → Going w before current rest at
  going l =
      record {
        some = size_some;
        most = size_most;
        ready = state_ready w.root.surd.field.q (g w) (D w) w.root.surd.admitted w.root.twice w.root.twice_is at.index.0 before.c current.c rest current.size t.state;
        few = l;
        degree_fits = degree_fits l;
      }
