-- The proofs of specs/Walk.
use Prim.Native.Nat.{ℕ, zero, suc, ◌≤◌, ◌<◌}
use Rattle.std.proofs.Common.{arith, sym, ◌∙◌}
use Rattle.std.specs.Prelude.{◌≡◌, refl, length, get_or}
use Rattle.std.proofs.Math.Path.{ap}
use mathlib.Core.List.{List, [], ◌∷◌}
use Rattle.math_ring.specs.Identity.{ring, quote}
use Rattle.math_ring.specs.Series.{Series, add_s, conv}
use Rattle.math_algebra.specs.Field.{Field}
use Rattle.math_algebra.specs.Polynomial.{F}
use Rattle.spec_arithmetic.specs.Field.{FieldName, ops, reading}
use Rattle.spec_arithmetic.specs.Polynomials.{trim, add, sub, mul, root}
use Rattle.spec_definitions.specs.Ticket.{genus, ticket_of}
use Rattle.spec_definitions.specs.Walk.{Ideal, partial, next_p, next, steps}
use Rattle.spec_definitions.specs.Walk as walk
use Rattle.spec_definitions.specs.Answers.{root_of}
use Rattle.spec_bridge.specs.Model.{Model, Inverts, series}
use Rattle.spec_bridge.specs.Trim.{below_length}
use Rattle.spec_bridge.specs.Arithmetic.{series_add, series_sub, series_mul, add_cong, sub_cong, mul_cong}
use Rattle.spec_bridge.specs.Quotient.{quo_cong, quo_exact}
use Rattle.spec_fields.specs.Named.{IsField, arithmetic, one_first}
use Rattle.spec_laws.specs.Surd.{Q_trim}
use Rattle.spec_laws.specs.Fraction.{Q_some}
use Rattle.spec_laws.specs.Admitted.{Admitted, is_field, surd_of, admitted}
use Rattle.spec_sentences.specs.Sentences.{Same}
use Rattle.spec_sentences.proofs.Arithmetic.{series_same, same_series}
use Rattle.spec_demands.specs.Continued.{Continued}
use Rattle.spec_demands.proofs.Continued.{t2}
use Rattle.spec_uniqueness.proofs.Division.{division_only}
use Rattle.spec_uniqueness.specs.Walk.{Stepping, Converging, IsWalk, SameWalk, OneRoot, OneWalk, WalkIs}

-- ---- the proof
pub one_root : OneRoot
one_root w e d r = (t2 w e).continued.root_only d r

-- the list of 1
one_list : (f : FieldName) → IsField f → Same f ((ops f).one ∷ []) (1 ∷ [])
one_list f named zero = ap (reading f) (one_first f named)
one_list f named (suc i) = refl

module _ {f : FieldName} {g : ℕ} {D : List ℕ} (h : Admitted f g D) where
  abbrev K : Field (arithmetic f (is_field h)).Elements
  K = (arithmetic f (is_field h)).K

  abbrev M : Model (ops f) (F K)
  M = (arithmetic f (is_field h)).M

  abbrev I : Inverts M
  I = (arithmetic f (is_field h)).I

  up : (a l : List ℕ) → Same f a l → series M a ≡ series M l
  up = same_series f (is_field h)

  down : (a l : List ℕ) → series M a ≡ series M l → Same f a l
  down = series_same f (is_field h)

  one_same : series M (1 ∷ []) ≡ series M ((ops f).one ∷ [])
  one_same = up (1 ∷ []) ((ops f).one ∷ []) (λ i. sym (one_list f (is_field h) i))

  -- ---- the steps from s, with d for d₀, where no Q of the definitions is 0
  module _ (d d₀ : List ℕ) (d_same : series M d ≡ series M d₀) (s : Ideal ℕ) (some : (j : ℕ) → 0 < length (trim (ops f) (steps (ops f) D d₀ s j).q))
      (n : ℕ) (Q P a : ℕ → List ℕ) (Q_first : series M (Q 0) ≡ series M s.q) (P_first : series M (P 0) ≡ series M s.p) (st : Stepping f D d n Q P a) where
    abbrev at : ℕ → Ideal ℕ
    at j = steps (ops f) D d₀ s j

    abbrev SameAt : ℕ → Type 0
    SameAt j = (series M (Q j) ≡ series M (at j).q) × (series M (P j) ≡ series M (at j).p)

    a_only : (j : ℕ) → j < n → SameAt j → series M (a j) ≡ series M (partial (ops f) D d₀ (at j))
    unfolding partial
    a_only j l e = (division_only f (is_field h) x (Q j) (a j) r (down x (add (ops f) y r) split) (st.quotient j l)).0 ∙ ap (series M) (quo_cong M I x (add (ops f) (at j).p d₀) (Q j) (at j).q (ap (series M) (add_cong M (P j) (at j).p d d₀ e.1 d_same)) e.0)
      where
        x : List ℕ
        x = add (ops f) (P j) d

        y : List ℕ
        y = mul (ops f) (a j) (Q j)

        r : List ℕ
        r = sub (ops f) x y

        split : series M x ≡ series M (add (ops f) y r)
        split = ring (Series (F K)) (series M x ∷ series M y ∷ []) (search quote depth 40 fits 9999) tt ∙ sym (series_add M y r ∙ ap (add_s (F K) (series M y)) (series_sub M x y))

    step_only : (j : ℕ) → j < n → SameAt j → SameAt (suc j)
    unfolding steps next next_p
    step_only j l e = (Q_is, P_is)
      where
        b : List ℕ
        b = partial (ops f) D d₀ (at j)

        y : List ℕ
        y = (at (suc j)).p

        z : List ℕ
        z = P (suc j)

        P_is : series M (P (suc j)) ≡ series M (at (suc j)).p
        P_is = up (P (suc j)) (sub (ops f) (mul (ops f) (a j) (Q j)) (P j)) (st.P_next j l) ∙ ap (series M) (sub_cong M (mul (ops f) (a j) (Q j)) (mul (ops f) b (at j).q) (P j) (at j).p (ap (series M) (mul_cong M (a j) b (Q j) (at j).q (a_only j l e) e.0)) e.1)

        exact : series M (sub (ops f) D (mul (ops f) y y)) ≡ conv (F K) (series M (Q (suc j))) (series M (at j).q)
        exact = ap (series M) (sub_cong M D D (mul (ops f) y y) (mul (ops f) z z) refl (ap (series M) (mul_cong M y z y z (sym P_is) (sym P_is)))) ∙ sym (up (mul (ops f) (Q j) (Q (suc j))) (sub (ops f) D (mul (ops f) z z)) (st.Q_next j l)) ∙ series_mul M (Q j) (Q (suc j)) ∙ (Series (F K)).mul_comm (series M (Q j)) (series M (Q (suc j))) ∙ ap (conv (F K) (series M (Q (suc j)))) e.0

        Q_is : series M (Q (suc j)) ≡ series M (at (suc j)).q
        Q_is = sym (quo_exact M I (sub (ops f) D (mul (ops f) y y)) (at j).q (series M (Q (suc j))) (length (Q (suc j))) (some j) (below_length M (Q (suc j))) exact).0

    pub steps_only : (j : ℕ) → j ≤ n → SameAt j
    unfolding steps
    steps_only zero l = (Q_first, P_first)
    steps_only (suc j) l = step_only j l (steps_only j (omega arith))

    pub partial_only : (j : ℕ) → j < n → series M (a j) ≡ series M (partial (ops f) D d₀ (at j))
    partial_only j l = a_only j l (steps_only j (omega arith))

  -- ---- the convergents
  module _ (d d₀ : List ℕ) (d_same : series M d ≡ series M d₀) (n : ℕ) (a p s : ℕ → List ℕ) (a_same : (i : ℕ) → i < n → series M (a i) ≡ series M (walk.a (ops f) D d₀ i)) (c : Converging f D d n a p s) where
    -- a_{i+1}·u + u'
    next_same : (u l u' l' : List ℕ) (i : ℕ) → suc i < n → series M u ≡ series M l → series M u' ≡ series M l' → series M (add (ops f) (mul (ops f) (a (suc i)) u) u') ≡ series M (add (ops f) (mul (ops f) (walk.a (ops f) D d₀ (suc i)) l) l')
    next_same u l u' l' i k e e' = ap (series M) (add_cong M (mul (ops f) (a (suc i)) u) (mul (ops f) (walk.a (ops f) D d₀ (suc i)) l) u' l' (ap (series M) (mul_cong M (a (suc i)) (walk.a (ops f) D d₀ (suc i)) u l (a_same (suc i) k) e)) e')

    p_only : (i : ℕ) → i ≤ n → series M (p i) ≡ series M (walk.p_before (ops f) D d₀ i)
    unfolding walk.p_before
    p_only zero l = up (p 0) (1 ∷ []) c.p_before_first ∙ one_same
    p_only (suc zero) l = up (p 1) d c.p_first ∙ d_same
    p_only (suc (suc i)) l = up (p (suc (suc i))) (add (ops f) (mul (ops f) (a (suc i)) (p (suc i))) (p i)) (c.p_next i l) ∙ next_same (p (suc i)) (walk.p_before (ops f) D d₀ (suc i)) (p i) (walk.p_before (ops f) D d₀ i) i l (p_only (suc i) (omega arith)) (p_only i (omega arith))

    s_only : (i : ℕ) → i ≤ n → series M (s i) ≡ series M (walk.s_before (ops f) D d₀ i)
    unfolding walk.s_before
    s_only zero l = up (s 0) [] c.s_before_first
    s_only (suc zero) l = up (s 1) (1 ∷ []) c.s_first ∙ one_same
    s_only (suc (suc i)) l = up (s (suc (suc i))) (add (ops f) (mul (ops f) (a (suc i)) (s (suc i))) (s i)) (c.s_next i l) ∙ next_same (s (suc i)) (walk.s_before (ops f) D d₀ (suc i)) (s i) (walk.s_before (ops f) D d₀ i) i l (s_only (suc i) (omega arith)) (s_only i (omega arith))

  -- ---- together
  walk_only : (d : List ℕ) (n : ℕ) (Q P a p s : ℕ → List ℕ) → IsWalk f D d g n Q P a p s → series M d ≡ series M (root (ops f) D (suc g)) → SameWalk f D (root (ops f) D (suc g)) n Q P a p s
  unfolding walk.walk
  walk_only d n Q P a p s k same = record {
    Q_same = λ i l. down (Q i) (walk.Q (ops f) D d₀ i) (from i l).0;
    P_same = λ i l. down (P i) (walk.P (ops f) D d₀ i) (from i l).1;
    a_same = λ i l. down (a i) (walk.a (ops f) D d₀ i) (quotients i l);
    p_same = λ i l. down (p i) (walk.p_before (ops f) D d₀ i) (p_only d d₀ same n a p s quotients k.converging i l);
    s_same = λ i l. down (s i) (walk.s_before (ops f) D d₀ i) (s_only d d₀ same n a p s quotients k.converging i l);
  }
    where
      d₀ : List ℕ
      d₀ = root (ops f) D (suc g)

      start : Ideal ℕ
      start = record { q = (ops f).one ∷ []; p = [] }

      some : (j : ℕ) → 0 < length (trim (ops f) (steps (ops f) D d₀ start j).q)
      some j = let e = ap length (Q_trim (surd_of h) j) in let l = Q_some (surd_of h) j in omega arith

      from : (j : ℕ) → j ≤ n → (series M (Q j) ≡ series M (steps (ops f) D d₀ start j).q) × (series M (P j) ≡ series M (steps (ops f) D d₀ start j).p)
      from = steps_only d d₀ same start some n Q P a (up (Q 0) (1 ∷ []) k.Q_first ∙ one_same) (up (P 0) [] k.P_first) k.stepping

      quotients : (j : ℕ) → j < n → series M (a j) ≡ series M (walk.a (ops f) D d₀ j)
      quotients = partial_only d d₀ same start some n Q P a (up (Q 0) (1 ∷ []) k.Q_first ∙ one_same) (up (P 0) [] k.P_first) k.stepping

pub one_walk : OneWalk
unfolding root_of
one_walk w e d n Q P a p s k = walk_only (admitted w e) d n Q P a p s k (up (admitted w e) d (root_of (ticket_of w)) (one_root w e d k.is_root))

pub walk_is : WalkIs
unfolding walk.walk steps next next_p walk.p_before walk.s_before
walk_is w e n = record {
  is_root = c.root;
  Q_first = one_list f named;
  P_first = λ i. refl;
  stepping = record { quotient = λ i l. c.quotient i; P_next = λ i l j. refl; Q_next = λ i l j. ap (λ (a : List ℕ). reading f (get_or a j 0)) (c.product i) };
  converging = record { p_before_first = one_list f named; p_first = λ i. refl; p_next = λ i l j. refl; s_before_first = λ i. refl; s_first = one_list f named; s_next = λ i l j. refl };
}
  where
    f : FieldName
    f = (ticket_of w).field

    named : IsField f
    named = is_field (admitted w e)

    c : Continued f (ticket_of w).D (root_of (ticket_of w)) (genus (ticket_of w).n)
    c = (t2 w e).continued
