-- The ideals of the endless walk, as a record of a listing holds them: Q made monic and P modulo it, with the
-- distance, at every index, past the quasi-period too (`entry_of`). What their lists are; that they are pairs as
-- refusal 9 wants them; how the distance rises; the steps of the walk from one of them.
use Rattle.std.specs.Prelude.{ℕ, suc, ◌+◌, ◌-◌, ◌≤◌, ◌<◌, ◌≡◌}
use Rattle.std.proofs.Math.Path.{sym, ap}
use Rattle.std.proofs.Common.{◌∙◌}
use Rattle.std.proofs.Math.ListN.{length}
use Rattle.math_algebra.specs.Field.{Field}
use Rattle.math_algebra.specs.Polynomial.{F}
use Rattle.math_surd.specs.Step.{State}
use Rattle.math_surd.specs.Ideal.{SameIdeal}
use Rattle.math_surd.specs.Walk.{prior, walk_state}
use Rattle.math_surd.specs.Distance.{distance}
use Rattle.spec_arithmetic.specs.Polynomials.{pad, root}
use Rattle.spec_definitions.specs.Ticket.{Ticket, genus}
use Rattle.spec_definitions.specs.Walk.{Ideal, walk, steps}
use Rattle.spec_definitions.specs.Answers.{ops_of, root_of}
use Rattle.spec_definitions.specs.Listing.{ideal_of, entry_of}
use Rattle.spec_bridge.specs.Model.{Model, Inverts, series}
use Rattle.spec_bridge.specs.Monic.{length_monic}
use Rattle.spec_fields.specs.Named.{arithmetic}
use Rattle.spec_laws.specs.Surd.{Surd}
use Rattle.spec_laws.specs.Surd as surd
use Rattle.spec_laws.specs.Fraction.{fraction}
use Rattle.spec_laws.specs.Convergents.{degree_suc}
use Rattle.spec_laws.specs.Admitted.{Admitted, is_field, surd_of}
use Rattle.spec_laws.specs.Pairs.{IsIdeal, cofactor_at, ideal_state}
use Rattle.spec_laws.specs.Reduction.{stated}
use Rattle.spec_giants.specs.Normal.{normal_ideal, normal_same, normal_equal}
use Rattle.spec_giants.specs.Steps.{steps_same}

-- the pair with g + 1 and g coefficients, as a call takes it
unfoldable pub padded : Ticket → Ideal ℕ → Ideal ℕ
padded t x = record { q = pad (ops_of t) (suc (genus t.n)) x.q; p = pad (ops_of t) (genus t.n) x.p }

module _ (t : Ticket) where
  -- the ideal of index i and its distance, those of record i + 1
  abbrev pub ideal : ℕ → Ideal ℕ
  ideal i = (entry_of t i).ideal

  abbrev pub δ : ℕ → ℕ
  δ i = (entry_of t i).distance

  abbrev g : ℕ
  g = genus t.n

  -- the index i has the last distance of at most y
  pub record Last (y i : ℕ) : Type 0 where
    pub low : δ i ≤ y
    pub high : y < δ (suc i)

  module _ (h : Admitted t.field (genus t.n) t.D) where
    abbrev K : Field (arithmetic t.field (is_field h)).Elements
    K = (arithmetic t.field (is_field h)).K

    abbrev M : Model (ops_of t) (F K)
    M = (arithmetic t.field (is_field h)).M

    abbrev z : Surd K M (genus t.n) t.D (root (ops_of t) t.D (suc (genus t.n)))
    z = surd_of h

    abbrev I : Inverts M
    I = (arithmetic t.field (is_field h)).I

    -- the pair of the walk at an index, and the ideal that it is over the field
    abbrev pair : ℕ → Ideal ℕ
    pair i = walk (ops_of t) t.D (root_of t) i

    pub pair_state : (i : ℕ) → State K (series M t.D) (series M (pair i).q) (prior K (series M t.D) (λ j. series M (pair j).q) i) (series M (pair i).p)
    unfolding root_of
    pair_state i = walk_state K (fraction z) i

    -- ---- the lists of an index
    -- Q made monic is as long as Q
    pub q_as_long : (i : ℕ) → length (ideal i).q ≡ length (pair i).q
    unfolding entry_of ideal_of root_of
    q_as_long i = length_monic M I (pair i).q ∙ ap length (surd.Q_trim z i)

    -- ---- they stand for the ideal of the index
    pub entry_ideal : (i : ℕ) → IsIdeal K M t.D (ideal i)
    unfolding entry_of
    entry_ideal i = normal_ideal K M I t.D (pair i) (pair_state i)

    pub entry_same : (i : ℕ) → SameIdeal K (series M (ideal i).q) (series M (ideal i).p) (series M (walk (ops_of t) t.D (root_of t) i).q) (series M (walk (ops_of t) t.D (root_of t) i).p)
    unfolding entry_of
    entry_same i = normal_same K M I t.D (pair i) (pair_state i)

    distance_step : (i : ℕ) → δ (suc i) ≡ δ i + (suc (suc g) - length (pair i).q)
    unfolding entry_of root_of
    distance_step i = degree_suc z i

    -- g + 1 less the degree of Q, as sizes
    pub distance_next : (i : ℕ) → δ (suc i) ≡ δ i + (suc (suc g) - length (ideal i).q)
    distance_next i = distance_step i ∙ ap (λ (n : ℕ). δ i + (suc (suc g) - n)) (sym (q_as_long i))

    -- ---- j steps of the walk from the ideal of index i
    pub entry_state : (i : ℕ) → State K (series M t.D) (series M (ideal i).q) (series M (cofactor_at (ops_of t) t.D (ideal i))) (series M (ideal i).p)
    entry_state i = ideal_state K M t.D (entry_ideal i)

    pub steps_entry : (i j : ℕ) → ideal_of (ops_of t) (steps (ops_of t) t.D (root_of t) (ideal i) j) ≡ ideal (j + i)
    unfolding entry_of root_of
    steps_entry i j = normal_equal K M I t.D (steps (ops_of t) t.D (root_of t) (ideal i) j) (pair (j + i)) (stated z (ideal i) (entry_state i) j).state (pair_state (j + i)) (steps_same z (ideal i) (entry_state i) i (entry_same i) j)
