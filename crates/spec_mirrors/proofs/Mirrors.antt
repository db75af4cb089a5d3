-- The proofs of specs/Mirrors.
use Rattle.std.specs.Prelude.{ℕ, suc, ◌+◌, ◌*◌, ◌≤◌, ◌<◌, ◌≡◌, refl, ◌↔◌, List, [], ◌∷◌, length, get_or, take}
use Rattle.std.proofs.Common.{eq-zero-or-pos, arith, sym, ap, ap₂, ◌∙◌, subst, ⊎_elim, ext_get_or}
use Rattle.std.proofs.Math.Path.{fun_ext}
use Rattle.math_ring.specs.Ring.{CRing}
use Rattle.math_ring.specs.Identity.{ring_from, times, plus, quote}
use Rattle.math_ring.specs.Order.{le_or_lt}
use Rattle.math_ring.specs.Series.{Series, add_s, neg_s}
use Rattle.math_algebra.specs.Field.{Field}
use Rattle.math_algebra.specs.Polynomial.{F, Px}
use Rattle.math_algebra.specs.Divides.{divides_path, divides_neg}
use Rattle.math_algebra.specs.Divides as fields
use Rattle.math_symmetry.specs.Conjugate.{Conjugate}
use Rattle.spec_arithmetic.specs.Polynomials.{size, deg, add, sub, rem, pad}
use Rattle.spec_definitions.specs.Ticket.{Ticket, genus, ticket_of}
use Rattle.spec_definitions.specs.Answers.{ops_of}
use Rattle.spec_definitions.specs.Listing.{record_of, listing_of, listing_answer}
use Rattle.spec_definitions.specs.Lookup.{record_at, distance_at, lookup_of, place_of}
use Rattle.spec_lists.specs.Pad.{length_pad, at_pad}
use Rattle.spec_bridge.specs.Model.{Model, series, series_nil}
use Rattle.spec_bridge.specs.Trim.{size_is, length_trim}
use Rattle.spec_bridge.specs.Arithmetic.{series_add, series_sub}
use Rattle.spec_bridge.specs.Division.{trim_rem, oks_rem, rem_less}
use Rattle.spec_fields.specs.Named.{arithmetic}
use Rattle.spec_laws.specs.Fraction.{fraction}
use Rattle.spec_laws.specs.Admitted.{Admitted, is_field, surd_of, admitted, passed, allowed_degree}
use Rattle.spec_sentences.specs.Arithmetic.{Divides}
use Rattle.spec_sentences.proofs.Arithmetic.{series_divides}
use Rattle.spec_refusals.proofs.LentLists.{t1_lists, found_passes}
use Rattle.spec_refusals.specs.Lookups.{LooksUp}
use Rattle.spec_refusals.proofs.Lookups.{t2_lookups}
use Rattle.spec_demands.specs.Listings.{RecordHolds, ReadBack}
use Rattle.spec_demands.proofs.Listings.{t2_listings}
use Rattle.spec_expansion.specs.QuasiPeriod.{IsQuasiPeriod}
use Rattle.spec_answers.specs.Outcomes.{degree_at}
use Rattle.spec_answers.proofs.Outcomes.{found_period}
use Rattle.spec_answers.proofs.Refusals.{listing_found}
use Rattle.spec_answers.specs.Records.{distance_read, mirror_read, QRead, PRead, RecordRead}
use Rattle.spec_answers.proofs.Records.{rem_congruent, Q_is, P_is, Q_read, P_read, distance_read_is, mirror_read_is, record_read, record_stands}
use Rattle.spec_uniqueness.proofs.Records.{below_unique, rest_unique}
use Rattle.spec_giants.specs.Entries.{ideal, δ}
use Rattle.spec_giants.proofs.Entries.{distance_rise}
use Rattle.spec_mirrors.specs.Conjugates.{μ, at}
use Rattle.spec_mirrors.proofs.Conjugates.{conjugate_Q, conjugate_sum, at_less, at_conjugate, mirror_first, mirror_later, at_distance, at_only, one_each}
use Rattle.spec_mirrors.specs.Mirrors.{ConjugateRead, MirrorHolds, T2Mirrors}

-- ---- the proof
module _ (t : Ticket) (h : Admitted t.field (genus t.n) t.D) (even : suc (genus t.n) + suc (genus t.n) ≡ t.n) (R m : ℕ) (quasi : IsQuasiPeriod t m) (is : R ≡ degree_at t m) (holds : (j : ℕ) → j < m → RecordHolds t R j) (l : List ℕ) (stands : (j : ℕ) → j < m → record_at l t.n j ≡ record_of t R j) where
  abbrev K : Field (arithmetic t.field (is_field h)).Elements
  K = (arithmetic t.field (is_field h)).K

  abbrev M : Model (ops_of t) (F K)
  M = (arithmetic t.field (is_field h)).M

  abbrev R[x] : CRing (Px K)
  R[x] = Series (F K)

  abbrev -𝟙 : Px K
  -𝟙 = R[x].neg R[x].one

  abbrev Qr : ℕ → List ℕ
  Qr j = QRead t.n j l

  abbrev Pr : ℕ → List ℕ
  Pr j = PRead t.n j l

  -- ---- what is read, and the ideals of the walk
  reads : (j : ℕ) → j < m → RecordRead t R j l
  reads j k = record_read t h even R j (holds j k) l (stands j k)

  Q_series : (j : ℕ) → j < m → series M (Qr j) ≡ series M (ideal t j).q
  Q_series j k = fun_ext (λ i. ap M.φ (Q_read t h even R j (holds j k) l (stands j k) i))

  P_series : (j : ℕ) → j < m → series M (Pr j) ≡ series M (ideal t j).p
  P_series j k = fun_ext (λ i. ap M.φ (P_read t h even R j (holds j k) l (stands j k) i))

  distance_read_at : (j : ℕ) → j < m → distance_read t.n j l ≡ δ t j
  distance_read_at j k = distance_read_is t h even R j (holds j k) l (stands j k)

  mirror_at : (j : ℕ) → j < m → mirror_read t.n j l ≡ μ t R j
  mirror_at j k = mirror_read_is t h even R j (holds j k) l (stands j k)

  -- ---- conjugates
  module _ (i j : ℕ) (u : i < m) (v : j < m) (c : Conjugate K (fraction (surd_of h)) i j) where
    same_Q : Qr i ≡ Qr j
    same_Q = Q_is t h even R i (holds i u) l (stands i u) ∙ ap (pad (ops_of t) (suc (genus t.n))) (conjugate_Q t h i j c) ∙ sym (Q_is t h even R j (holds j v) l (stands j v))

    sum_series : fields.Divides K (series M (Qr j)) (add_s (F K) (series M (Pr i)) (series M (Pr j)))
    sum_series = subst (λ (q : Px K). fields.Divides K q (add_s (F K) (series M (Pr i)) (series M (Pr j)))) (sym (Q_series j v)) (divides_path K (ap₂ (add_s (F K)) (sym (P_series i u)) (sym (P_series j v))) (conjugate_sum t h i j c))

    sum : Divides t.field (Qr j) (add (ops_of t) (Pr i) (Pr j))
    sum = series_divides t.field (is_field h) (add (ops_of t) (Pr i) (Pr j)) (Qr j) (divides_path K (sym (series_add M (Pr i) (Pr j))) sum_series)

    -- −P and its remainder
    abbrev minus : List ℕ
    minus = sub (ops_of t) [] (Pr j)

    abbrev rest : List ℕ
    rest = rem (ops_of t) minus (Qr j)

    minus_congruent : Divides t.field (Qr j) (sub (ops_of t) minus (Pr i))
    minus_congruent = series_divides t.field (is_field h) (sub (ops_of t) minus (Pr i)) (Qr j) (divides_path K same (divides_neg K sum_series))
      where
        same : neg_s (F K) (add_s (F K) (series M (Pr i)) (series M (Pr j))) ≡ series M (sub (ops_of t) minus (Pr i))
        same = ring_from R[x] (series M (Pr i) ∷ series M (Pr j) ∷ series M minus ∷ series M (sub (ops_of t) minus (Pr i)) ∷ series M [] ∷ [])
            (plus R[x] (times R[x] -𝟙 (series_sub M minus (Pr i))) (plus R[x] (times R[x] -𝟙 (series_sub M [] (Pr j))) (times R[x] -𝟙 (series_nil M))))
            (search quote depth 40 fits 9999) tt

    -- sizes: the Q read has one at least and g + 1 at most, and the remainder has less
    Q_size : (0 < size (ops_of t) (Qr j)) × (size (ops_of t) (Qr j) ≤ suc (genus t.n))
    Q_size = (let a = (reads j v).P_less in omega arith, let a = size_is M (Qr j) in let b = length_trim M (Qr j) in let c = ap length (Q_is t h even R j (holds j v) l (stands j v)) ∙ length_pad (ops_of t) (suc (genus t.n)) (ideal t j).q in omega arith)

    rest_less : length rest < size (ops_of t) (Qr j)
    rest_less = let a = size_is M (Qr j) in let b = Q_size.0 in let c = rem_less M (arithmetic t.field (is_field h)).I minus (Qr j) (omega arith) in omega arith

    P_is_rest : (k : ℕ) → get_or (Pr i) k 0 ≡ get_or rest k 0
    P_is_rest = below_unique h (Pr i) rest (reads i u).P_below (oks_rem M minus (Qr j)) (sym (rest_unique h minus (Qr j) (Qr j) (Pr i) rest (reads j v).Q_monic refl minus_congruent (rem_congruent h minus (Qr j) (Qr j) rest (λ k. refl) (λ k. refl)) P_small rest_small))
      where
        P_small : size (ops_of t) (Pr i) < size (ops_of t) (Qr j)
        P_small = subst (λ (q : List ℕ). size (ops_of t) (Pr i) < size (ops_of t) q) same_Q (reads i u).P_less

        rest_small : size (ops_of t) rest < size (ops_of t) (Qr j)
        rest_small = let a = size_is M rest in let b = ap length (trim_rem M minus (Qr j)) in let c = rest_less in omega arith

    minus_P : Pr i ≡ pad (ops_of t) (genus t.n) rest
    minus_P = ext_get_or 0 (Pr i) (pad (ops_of t) (genus t.n) rest)
        (ap length (P_is t h even R i (holds i u) l (stands i u)) ∙ length_pad (ops_of t) (genus t.n) (ideal t i).p ∙ sym (length_pad (ops_of t) (genus t.n) rest))
        (λ k _. P_is_rest k ∙ sym (at_pad (ops_of t) (genus t.n) rest (let a = rest_less in let b = Q_size.1 in omega arith) k))

    conjugate_read : ConjugateRead t l i j
    conjugate_read = record { same_Q = same_Q; minus_P = minus_P; sum = sum }

  -- ---- the place of the conjugate
  module _ (j : ℕ) (v : j < m) where
    abbrev to : ℕ
    to = at t h R m quasi is j

    to_less : to < m
    to_less = at_less t h R m quasi is j v

    conjugate : ConjugateRead t l to j
    conjugate = conjugate_read to j to_less v (at_conjugate t h R m quasi is j v)

    below_R : mirror_read t.n j l < R → μ t R j < R
    below_R = subst (λ (x : ℕ). x < R) (mirror_at j v)

    distance : mirror_read t.n j l < R → distance_read t.n to l ≡ mirror_read t.n j l
    distance less = distance_read_at to to_less ∙ at_distance t h R m quasi is j v (below_R less) ∙ sym (mirror_at j v)

    back : mirror_read t.n j l < R → mirror_read t.n to l ≡ distance_read t.n j l
    back less = let a = (reads j v).mirror in let b = (reads to to_less).mirror in let c = ap (deg (ops_of t)) conjugate.same_Q in let e = distance less in omega arith

    whole : (mirror_read t.n j l ≡ R) ↔ (j ≡ 0)
    whole = (λ e. ⊎_elim (λ z. z) (λ some. absurd (let a = mirror_at j v in let b = mirror_later t h R m quasi is j some v in omega arith)) (eq-zero-or-pos j), λ e. mirror_at j v ∙ ap (μ t R) e ∙ mirror_first t h R m quasi is)

    most : mirror_read t.n j l ≤ R
    most = ⊎_elim (λ e. let a = whole.1 e in omega arith) (λ some. let a = mirror_at j v in let b = mirror_later t h R m quasi is j some v in omega arith) (eq-zero-or-pos j)

    first : mirror_read t.n j l ≡ R → to ≡ 0
    first e = ap (at t h R m quasi is) (whole.0 e)

    only_there : (i : ℕ) → i < m → distance_read t.n i l ≡ mirror_read t.n j l → i ≡ to
    only_there i u e = at_only t h R m quasi is i j u v (sym (distance_read_at i u) ∙ e ∙ mirror_at j v)

    only_conjugate : (i : ℕ) → i < m → ConjugateRead t l i j → i ≡ to
    only_conjugate i u c =
        one_each t h R m quasi is i to u to_less
        (sym (Q_series i u) ∙ ap (series M) (c.same_Q ∙ sym conjugate.same_Q) ∙ Q_series to to_less)
        (sym (P_series i u) ∙ ap (series M) (c.minus_P ∙ sym conjugate.minus_P) ∙ P_series to to_less)

    -- ---- lookup, in the first m records
    module _ (L : List ℕ) (read : ReadBack t R m L) (less : mirror_read t.n j l < R) where
      up : LooksUp L t.n (mirror_read t.n j l) (lookup_of L t.n (mirror_read t.n j l)) (place_of L t.n (mirror_read t.n j l))
      up = t2_lookups L t.n (mirror_read t.n j l) read.accepted

      up_less : up.k < m
      up_less = let a = up.below in let b = read.count in omega arith

      there : distance_at L t.n to ≡ mirror_read t.n j l
      there = read.distances to to_less ∙ sym (distance_read_at to to_less) ∙ distance less

      -- a record before it is not the last, and one after it is too far
      up_is : up.k ≡ to
      up_is = ⊎_elim (λ a. ⊎_elim (λ b. omega arith) (λ b. absurd (let c = distance_rise t h to up.k b in let d = read.distances to to_less in let e = read.distances up.k up_less in let f = up.within in omega (arith, there))) (le_or_lt up.k to)) (λ a. absurd (let c = up.last to a (let d = read.count in omega (arith, to_less)) in omega (arith, there))) (le_or_lt to up.k)

      looked_up : lookup_of L t.n (mirror_read t.n j l) ≡ record_at l t.n to
      looked_up = up.part_is ∙ ap (record_at L t.n) up_is ∙ read.records to to_less ∙ sym (stands to to_less)

      placed : place_of L t.n (mirror_read t.n j l) ≡ to * (t.n + 4)
      placed = up.place_is ∙ ap (λ (k : ℕ). k * (t.n + 4)) up_is

    mirror_holds : (L : List ℕ) → take (m * (t.n + 4)) l ≡ L → ReadBack t R m L → MirrorHolds t R m j l
    mirror_holds L e read = record {
      at = to;
      listed = to_less;
      most = most;
      distance = distance;
      first = first;
      conjugate = conjugate;
      only_there = only_there;
      only_conjugate = only_conjugate;
      back = back;
      whole = whole;
      looked_up = λ less. ap (λ (x : List ℕ). lookup_of x t.n (mirror_read t.n j l)) e ∙ looked_up L read less;
      placed = λ less. ap (λ (x : List ℕ). place_of x t.n (mirror_read t.n j l)) e ∙ placed L read less;
    }

pub t2_mirrors : T2Mirrors
t2_mirrors w old R m c e j v =
    let f = listing_found w old R m c e in
    let z = found_passes w R m c f in
    let even = (allowed_degree (ticket_of w).n (passed w z).degree).0 in
    let p = found_period w R m c f in
    let s = t2_listings w z R m c f in
    let l : List ℕ = (listing_answer w old).list in
    let r = (t1_lists.1 w old).records R m c e in
    mirror_holds (ticket_of w) (admitted w z) even R m p.0 p.1 s.0 l (record_stands (ticket_of w) R m l even r) j v (listing_of (ticket_of w) R m) r s.1
