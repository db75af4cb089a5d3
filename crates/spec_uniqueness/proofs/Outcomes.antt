-- The proofs of specs/Outcomes.
use Rattle.std.specs.Prelude.{ℕ, zero, suc, ◌-◌, ◌%◌, ◌≤◌, ◌≡◌, Bool, eqb, length, get_or}
use native.Mathlib.Omega.{arith}
use Rattle.std.proofs.Math.Path.{refl, sym, ap, ap₂}
use Rattle.std.proofs.Common.{◌∙◌}
use Rattle.std.proofs.Math.Bool.{true, false}
use mathlib.Core.List.{List, [], ◌∷◌}
use Rattle.math_algebra.specs.Field.{Field}
use Rattle.math_algebra.specs.Polynomial.{F}
use Rattle.spec_arithmetic.specs.Field.{reading}
use Rattle.spec_arithmetic.specs.Polynomials.{size, deg, lead, sub, root}
use Rattle.spec_definitions.specs.Ticket.{Ticket, genus, ticket_of}
use Rattle.spec_definitions.specs.Walk.{quasi_period, degree_before, signed_q}
use Rattle.spec_definitions.specs.Walk as walk
use Rattle.spec_definitions.specs.Answers.{Outcome, found, spent, refused, ops_of, root_of, outcome_of, words_outcome}
use Rattle.spec_bridge.specs.Model.{Model, series}
use Rattle.spec_bridge.specs.Trim.{size_is, size_series, lead_is}
use Rattle.spec_bridge.specs.Arithmetic.{sub_cong}
use Rattle.spec_fields.specs.Named.{arithmetic, reading_ok}
use Rattle.spec_laws.specs.Surd.{Q_trim, Q_oks}
use Rattle.spec_laws.specs.Signs.{oks_signed}
use Rattle.spec_laws.specs.Signs as signs
use Rattle.spec_laws.specs.Norms as norms
use Rattle.spec_laws.specs.QuasiPeriod.{Quasi, some_quasi, none_quasi}
use Rattle.spec_laws.specs.Admitted.{Admitted, is_field, surd_of, admitted}
use Rattle.spec_sentences.specs.Sentences.{Same}
use Rattle.spec_sentences.proofs.Arithmetic.{same_series}
use Rattle.spec_demands.specs.Continued.{signed, Ends}
use Rattle.spec_demands.proofs.Continued.{constant_told, t2}
use Rattle.spec_uniqueness.proofs.Division.{deg_series}
use Rattle.spec_uniqueness.specs.Walk.{SameWalk}
use Rattle.spec_uniqueness.proofs.Walk.{one_walk}
use Rattle.spec_uniqueness.specs.Outcomes.{EndsAs, OneOutcome, OutcomeIs, OneOutcomeOfEnds, outcome_from}
use Rattle.spec_uniqueness.specs.Outcomes as defs

-- ---- the proof, for a ticket whose D is admitted
module _ (t : Ticket) (h : Admitted t.field (genus t.n) t.D) where
  abbrev d : List ℕ
  d = root (ops_of t) t.D (suc (genus t.n))

  abbrev K : Field (arithmetic t.field (is_field h)).Elements
  K = (arithmetic t.field (is_field h)).K

  abbrev M : Model (ops_of t) (F K)
  M = (arithmetic t.field (is_field h)).M

  size_Q : (i : ℕ) → length (walk.Q (ops_of t) t.D d i) ≡ size (ops_of t) (walk.Q (ops_of t) t.D d i)
  size_Q i = sym (size_is M _ ∙ ap length (Q_trim (surd_of h) i))

  ends_only : (x : Outcome) → Ends t.field t.D d t.b x → x ≡ (outcome_from t h) (quasi_period (ops_of t) t.D d t.b)
  unfolding outcome_from degree_before signed signs.signed
  ends_only (found R m c) e = ap₂ (λ (R c : ℕ). found R m c) e.regulator (constant_told h e.positive e.constant e.value) ∙ ap (outcome_from t h) (sym (some_quasi (surd_of h) t.b m first))
    where
      first : Quasi (ops_of t) t.D d t.b m
      first = record { positive = e.positive; within = e.within; constant = size_Q m ∙ e.constant; least = λ j l u z. e.least j l u (sym (size_Q j) ∙ z) }
  ends_only (spent k n) e = ap₂ spent e.all e.reached ∙ ap (outcome_from t h) (sym (none_quasi (surd_of h) t.b (λ j l u z. e.none_constant j l u (sym (size_Q j) ∙ z))))
  ends_only (refused j) e = absurd e

  ends_are : (x : Outcome) → Ends t.field t.D d t.b x → EndsAs t.field t.b (walk.Q (ops_of t) t.D d) (walk.p_before (ops_of t) t.D d) t.b x
  unfolding signed signs.signed
  ends_are (found R m c) e = record {
    walked = e.within;
    positive = e.positive;
    within = e.within;
    constant = e.constant;
    least = λ j l u. e.least j l (omega arith);
    regulator = e.regulator;
    below = e.value.below;
    value = λ i. ap (λ (l : List ℕ). reading t.field (get_or l i 0)) e.value.square;
  }
  ends_are (spent k n) e = record { walked = let z : t.b ≤ t.b = omega arith in z; all = e.all; none_constant = λ j l u. e.none_constant j l (omega arith); reached = e.reached }
  ends_are (refused j) e = e

  -- ---- from any walk to the definitions'
  module _ {n : ℕ} {Q P a p s : ℕ → List ℕ} (same : SameWalk t.field t.D d n Q P a p s) where
    up : (f l : List ℕ) → Same t.field f l → series M f ≡ series M l
    up = same_series t.field (is_field h)

    size_same : (j : ℕ) → j ≤ n → size (ops_of t) (walk.Q (ops_of t) t.D d j) ≡ size (ops_of t) (Q j)
    size_same j k = let l : List ℕ = walk.Q (ops_of t) t.D d j in size_is M l ∙ sym (size_is M (Q j) ∙ size_series M (Q j) l (up (Q j) l (same.Q_same j k)))

    deg_same : (j : ℕ) → j ≤ n → deg (ops_of t) (p j) ≡ deg (ops_of t) (walk.p_before (ops_of t) t.D d j)
    deg_same j k = let l : List ℕ = walk.p_before (ops_of t) t.D d j in deg_series t.field (is_field h) (p j) l (up (p j) l (same.p_same j k))

    -- the leading coefficient
    lead_same : (j : ℕ) → j ≤ n → M.φ (lead (ops_of t) (p j)) ≡ M.φ (lead (ops_of t) (walk.p_before (ops_of t) t.D d j))
    lead_same j k =
        let l : List ℕ = walk.p_before (ops_of t) t.D d j in
        let e : series M (p j) ≡ series M l = up (p j) l (same.p_same j k) in
        ap M.φ (lead_is M (p j)) ∙ ap₂ (λ (f : ℕ → (arithmetic t.field (is_field h)).Elements) (m : ℕ). f (m - 1)) e (size_series M (p j) l e) ∙ sym (ap M.φ (lead_is M l))

    -- c·λ²
    square_same : (c j : ℕ) → j ≤ n → (ops_of t).mul c ((ops_of t).mul (lead (ops_of t) (walk.p_before (ops_of t) t.D d j)) (lead (ops_of t) (walk.p_before (ops_of t) t.D d j))) ≡ reading t.field ((ops_of t).mul c ((ops_of t).mul (lead (ops_of t) (p j)) (lead (ops_of t) (p j))))
    square_same c j k =
        M.inj _ _ (M.ok_mul _ _) ((arithmetic t.field (is_field h)).ok_reading _)
        (sym ((arithmetic t.field (is_field h)).φ_reading _ ∙ M.φ_mul _ _ ∙ ap ((F K).mul (M.φ c)) (M.φ_mul _ _ ∙ ap (λ (x : (arithmetic t.field (is_field h)).Elements). (F K).mul x x) (lead_same j k)) ∙ sym (M.φ_mul _ _ ∙ ap ((F K).mul (M.φ c)) (M.φ_mul _ _))))

    -- the constant's sign
    signed_at : (m : ℕ) → m ≤ n → reading t.field (get_or (signed (ops_of t) m (Q m)) 0 0) ≡ reading t.field (get_or (signed (ops_of t) m (walk.Q (ops_of t) t.D d m)) 0 0)
    unfolding signed
    signed_at m k = go (eqb (m % 2) 0)
      where
        go : (b : Bool) → reading t.field (get_or (elim b [ true ↦ Q m | false ↦ sub (ops_of t) [] (Q m) ]) 0 0) ≡ reading t.field (get_or (elim b [ true ↦ walk.Q (ops_of t) t.D d m | false ↦ sub (ops_of t) [] (walk.Q (ops_of t) t.D d m) ]) 0 0)
        go true = same.Q_same m k 0
        go false = ap (λ (l : List ℕ). reading t.field (get_or l 0 0)) (sub_cong M [] [] (Q m) (walk.Q (ops_of t) t.D d m) refl (up (Q m) (walk.Q (ops_of t) t.D d m) (same.Q_same m k)))

    ends_as : (x : Outcome) → EndsAs t.field n Q p t.b x → Ends t.field t.D d t.b x
    unfolding signed signs.signed
    ends_as (found R m c) e = record {
      positive = e.positive;
      within = e.within;
      constant = size_same m e.walked ∙ e.constant;
      least = λ j l u z. e.least j l u (sym (size_same j (let k = e.walked in omega arith)) ∙ z);
      regulator = e.regulator ∙ deg_same m e.walked;
      value = record { below = e.below; square = ap (λ (n : ℕ). n ∷ []) (square_same c m e.walked ∙ e.value 0 ∙ signed_at m e.walked ∙ reading_ok t.field (is_field h) _ ((arithmetic t.field (is_field h)).ok_is _ (oks_signed K M m _ (Q_oks (surd_of h) m) 0))) ∙ sym one_coefficient };
    }
      where
        is : signed (ops_of t) m (walk.Q (ops_of t) t.D d m) ≡ signed_q (ops_of t) t.D d m ∷ []
        is = norms.signed_q_is (surd_of h) m (size_Q m ∙ size_same m e.walked ∙ e.constant)

        one_coefficient : signed (ops_of t) m (walk.Q (ops_of t) t.D d m) ≡ get_or (signed (ops_of t) m (walk.Q (ops_of t) t.D d m)) 0 0 ∷ []
        one_coefficient = is ∙ sym (ap (λ (l : List ℕ). get_or l 0 0 ∷ []) is)
    ends_as (spent k n) e = record { all = e.all; none_constant = λ j l u z. e.none_constant j l u (sym (size_same j (let k = e.walked in omega arith)) ∙ z); reached = e.reached ∙ deg_same t.b e.walked }
    ends_as (refused j) e = e

pub one_outcome_of_ends : OneOutcomeOfEnds
unfolding words_outcome outcome_of root_of outcome_from
one_outcome_of_ends w z x e = ends_only (ticket_of w) (admitted w z) x e ∙ sym (ap (λ (k : ℕ). elim k [ zero ↦ outcome_of (ticket_of w) | suc k ↦ refused (suc k) ]) z)

pub one_outcome : OneOutcome
unfolding root_of
one_outcome w z d n Q P a p s k x e = one_outcome_of_ends w z x (ends_as (ticket_of w) (admitted w z) (one_walk w z d n Q P a p s k) x e)

pub outcome_is : OutcomeIs
unfolding root_of
outcome_is w z = ends_are (ticket_of w) (admitted w z) (words_outcome w) (t2 w z).ends
