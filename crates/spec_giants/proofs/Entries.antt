-- The proofs of specs/Entries.
use Rattle.std.specs.Prelude.{ℕ, suc, ◌+◌, ◌≤◌, ◌<◌, ◌≡◌, get_or}
use native.Mathlib.Omega.{arith}
use Rattle.std.proofs.Math.Path.{sym, ap, fun_ext, subst}
use Rattle.std.proofs.Common.{◌∙◌}
use Rattle.std.proofs.Math.ListN.{length}
use Rattle.math_algebra.specs.Field.{Field}
use Rattle.math_algebra.specs.Polynomial.{F}
use Rattle.math_surd.specs.Step.{State}
use Rattle.math_surd.specs.Ideal.{SameIdeal}
use Rattle.math_surd.specs.Same.{Same}
use Rattle.math_surd.specs.Walk.{prior}
use Rattle.math_surd.specs.Distance.{distance}
use Rattle.math_surd.proofs.Distance.{index_lt}
use Rattle.spec_arithmetic.specs.Polynomials.{trim, size, root}
use Rattle.spec_definitions.specs.Ticket.{Ticket, genus}
use Rattle.spec_definitions.specs.Walk.{Ideal, walk, steps}
use Rattle.spec_definitions.specs.Answers.{ops_of, root_of}
use Rattle.spec_definitions.specs.Listing.{ideal_of, entry_of}
use Rattle.spec_lists.specs.Pad.{length_pad, at_pad}
use Rattle.spec_bridge.specs.Model.{Model, Inverts, series}
use Rattle.spec_bridge.specs.Trim.{trim_ext, size_is, size_le}
use Rattle.spec_bridge.specs.Division.{trim_rem, oks_rem, rem_less}
use Rattle.spec_bridge.specs.Monic.{trim_monic, oks_monic, length_monic}
use Rattle.spec_bridge.specs.Degree.{monic_size}
use Rattle.spec_fields.specs.Named.{Ok, arithmetic}
use Rattle.spec_laws.specs.Surd.{Surd}
use Rattle.spec_laws.specs.Fraction.{fraction, Q_some, Q_length}
use Rattle.spec_laws.specs.Convergents.{degree_distance, degree_zero, degree_rise}
use Rattle.spec_laws.specs.Admitted.{Admitted, is_field, surd_of}
use Rattle.spec_laws.specs.Coefficients.{some_none}
use Rattle.spec_laws.specs.Pairs.{IsIdeal, cofactor_at}
use Rattle.spec_laws.specs.PairTest.{Passes}
use Rattle.spec_laws.specs.ProductCong.{SamePair, ideal_cong}
use Rattle.spec_laws.specs.ReductionSizes as sizes
use Rattle.spec_sentences.proofs.Arithmetic.{lead_is_one}
use Rattle.spec_giants.specs.Normal.{normal_equal}
use Rattle.spec_giants.specs.Entries.{padded}
use Rattle.spec_giants.specs.Entries as defs

module _ (t : Ticket) where
  abbrev ideal : ℕ → Ideal ℕ
  ideal = defs.ideal t

  abbrev δ : ℕ → ℕ
  δ = defs.δ t

  abbrev g : ℕ
  g = genus t.n

  abbrev Last : (y i : ℕ) → Type 0
  Last = defs.Last t

  module _ (h : Admitted t.field (genus t.n) t.D) where
    abbrev K : Field (arithmetic t.field (is_field h)).Elements
    K = (arithmetic t.field (is_field h)).K

    abbrev M : Model (ops_of t) (F K)
    M = (arithmetic t.field (is_field h)).M

    abbrev z : Surd K M (genus t.n) t.D (root (ops_of t) t.D (suc (genus t.n)))
    z = surd_of h

    abbrev I : Inverts M
    I = (arithmetic t.field (is_field h)).I

    -- the pair of the walk at an index, and the ideal that it is over the field
    abbrev pair : ℕ → Ideal ℕ
    pair i = walk (ops_of t) t.D (root_of t) i

    abbrev pair_state : (i : ℕ) → State K (series M t.D) (series M (pair i).q) (prior K (series M t.D) (λ j. series M (pair j).q) i) (series M (pair i).p)
    pair_state = defs.pair_state t h

    abbrev q_as_long : (i : ℕ) → length (ideal i).q ≡ length (pair i).q
    q_as_long = defs.q_as_long t h

    pub q_length : (i : ℕ) → (0 < length (ideal i).q) × (length (ideal i).q ≤ suc g)
    unfolding root_of
    q_length i = let a = q_as_long i in let b = Q_some z i in let c = Q_length z i in (omega arith, omega arith)

    pub q_trim : (i : ℕ) → trim (ops_of t) (ideal i).q ≡ (ideal i).q
    unfolding entry_of ideal_of
    q_trim i = trim_monic M I (pair i).q

    pub p_trim : (i : ℕ) → trim (ops_of t) (ideal i).p ≡ (ideal i).p
    unfolding entry_of ideal_of
    p_trim i = trim_rem M (pair i).p (ideal i).q

    pub p_length : (i : ℕ) → length (ideal i).p < length (ideal i).q
    unfolding entry_of ideal_of
    p_length i = let a = ap length (q_trim i) in let b = (q_length i).0 in let c = rem_less M I (pair i).p (ideal i).q (omega arith) in omega arith

    pub q_oks : (i j : ℕ) → Ok t.field (get_or (ideal i).q j 0)
    unfolding entry_of ideal_of
    q_oks i j = oks_monic M I (pair i).q j

    pub p_oks : (i j : ℕ) → Ok t.field (get_or (ideal i).p j 0)
    unfolding entry_of ideal_of
    p_oks i j = oks_rem M (pair i).p (ideal i).q j

    abbrev entry_ideal : (i : ℕ) → IsIdeal K M t.D (ideal i)
    entry_ideal = defs.entry_ideal t h

    abbrev entry_same : (i : ℕ) → SameIdeal K (series M (ideal i).q) (series M (ideal i).p) (series M (walk (ops_of t) t.D (root_of t) i).q) (series M (walk (ops_of t) t.D (root_of t) i).p)
    entry_same = defs.entry_same t h

    -- indices with the same ideal have the same lists
    pub entries_equal : (i j : ℕ) → Same K (fraction z) i j → ideal i ≡ ideal j
    unfolding entry_of root_of
    entries_equal i j s = normal_equal K M I t.D (pair i) (pair j) (pair_state i) (pair_state j) s

    -- ---- as a call takes them: zeros above the degrees change no coefficient
    q_padded_at : (i j : ℕ) → get_or (padded t (ideal i)).q j 0 ≡ get_or (ideal i).q j 0
    unfolding padded
    q_padded_at i j = at_pad (ops_of t) (suc g) (ideal i).q (q_length i).1 j

    p_padded_at : (i j : ℕ) → get_or (padded t (ideal i)).p j 0 ≡ get_or (ideal i).p j 0
    unfolding padded
    p_padded_at i j = at_pad (ops_of t) g (ideal i).p (let a = (q_length i).1 in let b = p_length i in omega arith) j

    padded_same : (i : ℕ) → SamePair K M I t.D (ideal i) (padded t (ideal i))
    padded_same i = record { q = sym (fun_ext (λ j. ap M.φ (q_padded_at i j))); p = sym (fun_ext (λ j. ap M.φ (p_padded_at i j))) }

    padded_ideal : (i : ℕ) → IsIdeal K M t.D (padded t (ideal i))
    padded_ideal i = ideal_cong K M I t.D (padded_same i) (entry_ideal i)

    q_padded_oks : (i j : ℕ) → Ok t.field (get_or (padded t (ideal i)).q j 0)
    q_padded_oks i j = subst (Ok t.field) (sym (q_padded_at i j)) (q_oks i j)

    pub padded_passes : (i : ℕ) → Passes t.field g t.D (padded t (ideal i))
    unfolding padded size trim
    padded_passes i = record {
      q_length = length_pad (ops_of t) (suc g) (ideal i).q;
      p_length = length_pad (ops_of t) g (ideal i).p;
      q_below = some_none t.field (padded t (ideal i)).q (λ j l. q_padded_oks i j);
      p_below = some_none t.field (padded t (ideal i)).p (λ j l. subst (Ok t.field) (sym (p_padded_at i j)) (p_oks i j));
      lead_one = lead_is_one t.field (is_field h) (padded t (ideal i)).q (q_padded_oks i) (padded_ideal i).monic;
      less =
          let a = monic_size K M (padded t (ideal i)).q (padded_ideal i).monic in
          let b = size_le M (padded t (ideal i)).p (padded_ideal i).κ (padded_ideal i).low in
          let c = size_is M (padded t (ideal i)).q in
          let e = size_is M (padded t (ideal i)).p in
          omega arith;
      divides = ap (size (ops_of t)) (padded_ideal i).divides;
    }

    pub padded_trim : (i : ℕ) → (trim (ops_of t) (padded t (ideal i)).q ≡ (ideal i).q) × (trim (ops_of t) (padded t (ideal i)).p ≡ (ideal i).p)
    padded_trim i = (trim_ext M _ _ (q_padded_at i) ∙ q_trim i, trim_ext M _ _ (p_padded_at i) ∙ p_trim i)

    -- ---- distances
    pub distance_is : (i : ℕ) → δ i ≡ distance K (fraction z) i
    unfolding entry_of root_of
    distance_is i = degree_distance z i

    pub distance_zero : δ 0 ≡ 0
    unfolding entry_of root_of
    distance_zero = degree_zero z

    pub distance_rise : (i j : ℕ) → i < j → δ i < δ j
    unfolding entry_of root_of
    distance_rise i j l = degree_rise z i j l

    -- ---- the last distance of at most y
    pub last_most : {y i : ℕ} → Last y i → (j : ℕ) → δ j ≤ y → j ≤ i
    last_most {y} {i} l j le = let a = l.high in let b = distance_is j in let c = distance_is (suc i) in let e = index_lt K (fraction z) j (suc i) (omega arith) in omega arith

    pub last_unique : {y i j : ℕ} → Last y i → Last y j → i ≡ j
    last_unique {y} {i} {j} l k = let a = last_most l j k.low in let b = last_most k i l.low in omega arith

    abbrev entry_state : (i : ℕ) → State K (series M t.D) (series M (ideal i).q) (series M (cofactor_at (ops_of t) t.D (ideal i))) (series M (ideal i).p)
    entry_state = defs.entry_state t h

    abbrev steps_entry : (i j : ℕ) → ideal_of (ops_of t) (steps (ops_of t) t.D (root_of t) (ideal i) j) ≡ ideal (j + i)
    steps_entry = defs.steps_entry t h

    pub steps_length : (i j : ℕ) → length (steps (ops_of t) t.D (root_of t) (ideal i) j).q ≡ length (ideal (j + i)).q
    unfolding ideal_of root_of
    steps_length i j = ap length (sym (sizes.Q_trim z (ideal i) (entry_state i) (q_trim i) j)) ∙ sym (length_monic M I (steps (ops_of t) t.D (root_of t) (ideal i) j).q) ∙ ap (λ (x : Ideal ℕ). length x.q) (steps_entry i j)
