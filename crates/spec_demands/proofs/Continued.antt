-- The proofs of specs/Continued.
use Prim.Native.Nat.{ℕ, zero, suc, ◌+◌, ◌<◌}
use native.Mathlib.Omega.{arith}
use Rattle.std.specs.Prelude.{◌≡◌}
use Rattle.std.proofs.Math.Path.{refl, sym, ap, ap₂}
use Rattle.std.proofs.Common.{◌∙◌, subst}
use mathlib.Core.List.{List, [], ◌∷◌}
use Rattle.std.proofs.Math.Option.{Option, none, some}
use Rattle.std.proofs.Math.ListN.{length, get_or}
use Rattle.math_algebra.specs.Field.{Field}
use Rattle.math_algebra.specs.Polynomial.{F, Px, low_path}
use Rattle.math_algebra.specs.Root.{IsRoot, root_unique}
use Rattle.math_ring.specs.Identity.{ring_from, times, quote}
use Rattle.math_ring.specs.Series.{Series, add_s, neg_s, conv}
use Rattle.spec_arithmetic.specs.Field.{FieldName, ops}
use Rattle.spec_arithmetic.specs.Polynomials.{size, deg, add, sub, mul, root}
use Rattle.spec_definitions.specs.Ticket.{Ticket, genus, ticket_of}
use Rattle.spec_definitions.specs.Walk.{quasi_period, degree_before, constant_of}
use Rattle.spec_definitions.specs.Walk as walk
use Rattle.spec_definitions.specs.Answers.{found, spent, refused, ops_of, root_of, outcome_of, words_outcome}
use Rattle.spec_bridge.specs.Model.{Model, series}
use Rattle.spec_bridge.specs.Trim.{below_size, size_le, size_is, size_series}
use Rattle.spec_bridge.specs.Arithmetic.{series_add, series_sub, series_mul}
use Rattle.spec_fields.specs.Named.{arithmetic, same_reading, reading_same, φ_first, one_first, reading_first}
use Rattle.spec_bridge.specs.Degree.{monic_size}
use Rattle.spec_laws.specs.Surd.{Surd, Q_zero, Q_trim, r_trim, r as remainder}
use Rattle.spec_laws.specs.Fraction.{Q_some, Q_length, divide}
use Rattle.spec_laws.specs.Walk.{deg_Q, deg_a, r_length}
use Rattle.spec_laws.specs.Convergents.{degree_zero, degree_suc}
use Rattle.spec_laws.specs.Signs.{norm_of}
use Rattle.spec_laws.specs.Signs as signs
use Rattle.spec_laws.specs.Norms as norms
use Rattle.spec_laws.specs.Leads.{constant_lead, constant_only}
use Rattle.spec_laws.specs.Monic.{constant_ok}
use Rattle.spec_laws.specs.QuasiPeriod.{Quasi, NoQuasi, Says, quasi_says, some_quasi}
use Rattle.spec_laws.specs.Admitted.{Admitted, is_field, surd_of, admitted}
use Rattle.spec_sentences.specs.Sentences.{Same}
use Rattle.spec_demands.specs.Continued.{sum_to, signed, RootOf, Continued, ConstantAt, StopsAt, Spends, Ends, Walks, T2, T2Linear}
use Rattle.spec_demands.specs.Continued as defs

-- ---- the proof, for a D that is admitted
module _ {f : FieldName} {g : ℕ} {D : List ℕ} (h : Admitted f g D) where
  abbrev K : Field (arithmetic f (is_field h)).Elements
  K = (arithmetic f (is_field h)).K

  abbrev M : Model (ops f) (F K)
  M = (arithmetic f (is_field h)).M

  abbrev d : List ℕ
  d = root (ops f) D (suc g)

  abbrev z : Surd K M g D d
  z = surd_of h

  -- ---- roots as lists and over the field
  gap : (l : List ℕ) → series M (sub (ops f) D (mul (ops f) l l)) ≡ add_s (F K) (series M D) (neg_s (F K) (conv (F K) (series M l) (series M l)))
  gap l = series_sub M D (mul (ops f) l l) ∙ ap (λ (u : Px K). add_s (F K) (series M D) (neg_s (F K) u)) (series_mul M l l)

  is_root : (a : List ℕ) → RootOf f g D a → IsRoot K (series M D) (series M a) (suc g)
  is_root a r = record {
    monic = record { low = λ i l. below_size M a i (let e = size_is M a in let k = r.degree in omega arith); top = reading_same f (is_field h) _ 1 (r.monic ∙ sym (reading_first f (is_field h))) ∙ φ_first f (is_field h) };
    low = low_path K (suc g) (gap a) (λ i l. below_size M (sub (ops f) D (mul (ops f) a a)) i (let e = size_is M (sub (ops f) D (mul (ops f) a a)) in let k = r.near in omega arith));
  }

  root_holds : RootOf f g D d
  root_holds = record {
    degree = size_is M d ∙ monic_size K M d z.is_root.monic;
    monic = same_reading f (is_field h) _ 1 (z.is_root.monic.top ∙ sym (φ_first f (is_field h))) ∙ reading_first f (is_field h);
    near = let e = size_is M (sub (ops f) D (mul (ops f) d d)) in let k = size_le M (sub (ops f) D (mul (ops f) d d)) (suc g) (low_path K (suc g) (sym (gap d)) z.is_root.low) in omega arith;
  }

  only : (l : List ℕ) → RootOf f g D l → Same f l d
  only l r i = same_reading f (is_field h) _ _ (ap (λ (u : Px K). u i) (root_unique K (is_root l r) z.is_root))

  -- ---- sizes of Q, degrees of a
  size_Q : (i : ℕ) → size (ops f) (walk.Q (ops f) D d i) ≡ length (walk.Q (ops f) D d i)
  size_Q i = size_is M _ ∙ ap length (Q_trim z i)

  abbrev rest : ℕ → List ℕ
  rest = defs.rest h

  rest_series : (i : ℕ) → series M (rest i) ≡ series M (remainder z i)
  unfolding defs.rest
  rest_series i =
      let P : List ℕ = walk.P (ops f) D d i in
      let a : List ℕ = walk.a (ops f) D d i in
      let Q : List ℕ = walk.Q (ops f) D d i in
      series_sub M (add (ops f) P d) (mul (ops f) a Q) ∙ ap₂ (λ (u v : Px K). add_s (F K) u (neg_s (F K) v)) (series_add M P d) (series_mul M a Q)
      ∙ ring_from (Series (F K)) (series M P ∷ series M d ∷ series M a ∷ series M Q ∷ series M (remainder z i) ∷ []) (times (Series (F K)) (Series (F K)).one (divide z i)) (search quote depth 40 fits 9999) tt

  rest_less : (i : ℕ) → size (ops f) (rest i) < size (ops f) (walk.Q (ops f) D d i)
  rest_less i = let e = size_series M (rest i) (remainder z i) (rest_series i) in let k = size_is M (rest i) in let t = ap length (r_trim z i) in let l = r_length z i in let u = size_Q i in omega arith

  degrees : (i : ℕ) → degree_before (ops f) D d (suc i) ≡ suc g + sum_to (λ j. deg (ops f) (walk.a (ops f) D d j)) i
  unfolding sum_to
  degrees zero = let e = degree_suc z 0 in let k = degree_zero z in let l : length (walk.Q (ops f) D d 0) ≡ 1 = ap length (Q_zero z) in omega arith
  degrees (suc i) =
      let e = degrees i in
      let k = degree_suc z (suc i) in
      let l = deg_a z (suc i) in
      omega arith

  continued : Continued f D d g
  unfolding signed signs.signed norm_of degree_before defs.rest
  continued = record {
    root = root_holds;
    root_only = only;
    Q_not_zero = λ i e. let k = Q_some z i in let l = size_Q i in omega arith;
    Q_most = λ i. let e = deg_Q z i in let l = Q_length z i in omega arith;
    a_least = λ i. let e = deg_a z i in let l = Q_length z i in omega arith;
    a_degree = λ i. let e = deg_a z i in let l = deg_Q z i in omega arith;
    product = norms.Q_product z;
    sum = norms.P_product z;
    quotient = rest_less;
    norm = norms.norm_is z;
    determinant = λ i. norms.determinant_is z i ∙ ap (λ (c : ℕ). signed (ops f) (suc i) (c ∷ [])) (one_first f (is_field h));
    degree = degrees;
  }

  -- ---- the outcomes
  stops : (b m : ℕ) → Quasi (ops f) D d b m → StopsAt f D d b (degree_before (ops f) D d m) m (constant_of (ops f) D d m)
  unfolding signed signs.signed degree_before
  stops b zero a = absurd (let l = a.positive in omega arith)
  stops b (suc i) a = record {
    positive = a.positive;
    within = a.within;
    constant = size_Q (suc i) ∙ a.constant;
    least = λ j l u e. a.least j l u (sym (size_Q j) ∙ e);
    regulator = refl;
    value = record { below = (arithmetic f (is_field h)).ok_is _ (constant_ok z i); square = ap (λ (c : ℕ). c ∷ []) (constant_lead z i) ∙ sym (norms.signed_q_is z (suc i) a.constant) };
  }

  -- no other c has this product with λ²
  pub constant_told : {m c : ℕ} → 0 < m → size (ops f) (walk.Q (ops f) D d m) ≡ 1 → ConstantAt f D d m c → c ≡ constant_of (ops f) D d m
  unfolding signed signs.signed
  constant_told {m = zero} l e k = absurd (omega arith)
  constant_told {m = suc i} {c = c} l e k = constant_only z i c ((arithmetic f (is_field h)).ok_of c k.below) (ap (λ (l : List ℕ). get_or l 0 0) (k.square ∙ norms.signed_q_is z (suc i) (sym (size_Q (suc i)) ∙ e)))

  spends : (b : ℕ) → NoQuasi (ops f) D d b → Spends f D d b b (degree_before (ops f) D d b)
  unfolding degree_before
  spends b a = record { all = refl; none_constant = λ j l u e. a j l u (sym (size_Q j) ∙ e); reached = refl }

walks : (t : Ticket) → Admitted t.field (genus t.n) t.D → Walks t (outcome_of t)
unfolding outcome_of root_of
walks t h = record { continued = continued h; ends = go (quasi_period (ops_of t) t.D d' t.b) (quasi_says (surd_of h) t.b) }
  where
    d' : List ℕ
    d' = root (ops_of t) t.D (suc (genus t.n))

    go : (x : Option ℕ) → Says (surd_of h) t.b x → Ends t.field t.D d' t.b (elim x [ none ↦ spent t.b (degree_before (ops_of t) t.D d' t.b) | some m ↦ found (degree_before (ops_of t) t.D d' m) m (constant_of (ops_of t) t.D d' m) ])
    go none f = spends h t.b f
    go (some m) f = stops h t.b m f

pub t2 : T2
unfolding words_outcome
t2 w e = subst (λ (k : ℕ). Walks (ticket_of w) (elim k [ zero ↦ outcome_of (ticket_of w) | suc k ↦ refused (suc k) ])) (sym e) (walks (ticket_of w) (admitted w e))

linear : (t : Ticket) → Admitted t.field (genus t.n) t.D → t.n ≡ 2 → 0 < t.b → (c : ℕ) × (outcome_of t ≡ found 1 1 c)
unfolding outcome_of root_of
linear t h two paid = (constant_of (ops_of t) t.D d' 1, ap (λ (x : Option ℕ). elim x [ none ↦ spent t.b (degree_before (ops_of t) t.D d' t.b) | some m ↦ found (degree_before (ops_of t) t.D d' m) m (constant_of (ops_of t) t.D d' m) ]) (some_quasi (surd_of h) t.b 1 quasi) ∙ ap (λ (R : ℕ). found R 1 (constant_of (ops_of t) t.D d' 1)) degree)
  where
    d' : List ℕ
    d' = root (ops_of t) t.D (suc (genus t.n))

    none_left : genus t.n ≡ 0
    none_left = ap genus two ∙ (unfold genus in refl)

    quasi : Quasi (ops_of t) t.D d' t.b 1
    quasi = record { positive = omega arith; within = paid; constant = let e = Q_length (surd_of h) 1 in let k = Q_some (surd_of h) 1 in omega (arith, none_left); least = λ j l u. absurd (omega arith) }

    degree : degree_before (ops_of t) t.D d' 1 ≡ 1
    degree = let e = degree_suc (surd_of h) 0 in let k = degree_zero (surd_of h) in let l : length (walk.Q (ops_of t) t.D d' 0) ≡ 1 = ap length (Q_zero (surd_of h)) in omega (arith, none_left)

pub t2_linear : T2Linear
unfolding words_outcome
t2_linear w e two paid = let r = linear (ticket_of w) (admitted w e) two paid in (r.0, ap (λ (k : ℕ). elim k [ zero ↦ outcome_of (ticket_of w) | suc k ↦ refused (suc k) ]) e ∙ r.1)
