-- The proofs of specs/Listings.
use Rattle.std.specs.Prelude.{ℕ, suc, ◌+◌, ◌*◌, ◌-◌, ◌/◌, ◌%◌, ◌≤◌, ◌<◌, ◌≡◌, false, List, map, length}
use Rattle.std.proofs.Common.{mul-le-mul, sym, ◌∙◌, subst, eq-eqb, ne_eqb}
use Rattle.std.proofs.Math.Nat.{div-add-mod}
use native.Mathlib.Omega.{arith}
use Rattle.std.proofs.Math.Path.{ap}
use Rattle.std.proofs.Math.Bool.{true, false≢true}
use Rattle.math_algebra.specs.Field.{Field}
use Rattle.math_algebra.specs.Polynomial.{F}
use Rattle.math_surd.specs.Walk.{walk_state}
use Rattle.spec_arithmetic.specs.Field.{FieldName, ops}
use Rattle.spec_arithmetic.specs.Polynomials.{trim, deg, monic, rem, root}
use Rattle.spec_arithmetic.specs.Words.{kind, high, values, pairs}
use Rattle.spec_definitions.specs.Ticket.{Ticket, genus, ticket_of, wrong_degree, budgets, degrees}
use Rattle.spec_definitions.specs.Walk.{degree_before}
use Rattle.spec_definitions.specs.Walk as walk
use Rattle.spec_definitions.specs.Answers.{ops_of, root_of}
use Rattle.spec_definitions.specs.Listing.{ideal_of, entry_of, mirror_of, record_of, listing_of}
use Rattle.spec_definitions.specs.Lookup.{record_kinds, distance_at, record_count, right_kinds, rising, wrong_listing}
use Rattle.spec_bridge.specs.Model.{Model, Inverts}
use Rattle.spec_bridge.specs.Division.{rem_less, oks_rem}
use Rattle.spec_bridge.specs.Monic.{trim_monic, oks_monic, length_monic, deg_monic}
use Rattle.spec_fields.specs.Named.{arithmetic, ok_small}
use Rattle.spec_laws.specs.Surd.{Surd, Q_trim}
use Rattle.spec_laws.specs.Fraction.{fraction, Q_some, Q_length}
use Rattle.spec_laws.specs.Walk.{deg_Q}
use Rattle.spec_laws.specs.Convergents.{degree_zero, degree_rise, degree_most}
use Rattle.spec_laws.specs.Reduced.{reduced_ideal}
use Rattle.spec_laws.specs.Admitted.{Admitted, is_field, surd_of, admitted, passed, allowed_degree, budget_less}
use Rattle.spec_refusals.proofs.Lookups.{tests_listing}
use Rattle.spec_refusals.specs.Pairs.{IsPair}
use Rattle.spec_refusals.proofs.Pairs.{ideal_is_pair}
use Rattle.spec_refusals.proofs.Records.{kinds_record, count_listing, length_listing, whole_listing, record_listing, distance_listing, kinds_listing, rising_listing}
use Rattle.spec_demands.specs.Continued.{StopsAt, Walks}
use Rattle.spec_demands.proofs.Continued.{t2}
use Rattle.spec_demands.specs.Listings.{RecordHolds, ReadBack, T2Listings}

-- ---- the ideals of the walk, for a D that is admitted
module _ {f : FieldName} {g : ℕ} {D : List ℕ} (h : Admitted f g D) where
  abbrev K : Field (arithmetic f (is_field h)).Elements
  K = (arithmetic f (is_field h)).K

  abbrev M : Model (ops f) (F K)
  M = (arithmetic f (is_field h)).M

  abbrev I : Inverts M
  I = (arithmetic f (is_field h)).I

  abbrev d : List ℕ
  d = root (ops f) D (suc g)

  abbrev z : Surd K M g D d
  z = surd_of h

  abbrev Q : ℕ → List ℕ
  Q = walk.Q (ops f) D d

  abbrev P : ℕ → List ℕ
  P = walk.P (ops f) D d

  monic_length : (i : ℕ) → length (monic (ops f) (Q i)) ≡ length (Q i)
  monic_length i = length_monic M I (Q i) ∙ ap length (Q_trim z i)

  monic_degree : (i : ℕ) → deg (ops f) (monic (ops f) (Q i)) ≤ g
  monic_degree i = let e = deg_monic M I (Q i) in let l = deg_Q z i in let k = Q_length z i in omega arith

  rem_length : (i : ℕ) → length (rem (ops f) (P i) (monic (ops f) (Q i))) < length (Q i)
  rem_length i =
      let m : List ℕ = monic (ops f) (Q i) in
      let t : length (trim (ops f) m) ≡ length m = ap length (trim_monic M I (Q i)) in
      let e = monic_length i in
      let k = Q_some z i in
      let l = rem_less M I (P i) m (omega arith) in
      omega arith

  walk_pair : (i : ℕ) → let x = ideal_of (ops f) (walk.walk (ops f) D d i) in IsPair f D x.q x.p
  unfolding ideal_of
  walk_pair i = ideal_is_pair h (oks_monic M I (Q i)) (reduced_ideal K M I D (walk.walk (ops f) D d i) (walk_state K (fraction z) i))

  -- 2²⁸·32 is far below 2⁵⁶
  degree_fits : (i : ℕ) → i ≤ budgets → degree_before (ops f) D d i ≤ degrees
  degree_fits i l =
      let k = degree_most z i in
      let y : suc g ≤ 32 = (let e = h.genus_most in omega arith) in
      let w : i * suc g ≤ budgets * 32 = mul-le-mul l y in
      omega arith

high_fits : (x : ℕ) → x < pairs → high x < values
unfolding high
high_fits x l = let e : values * (x / values) + x % values ≡ x = div-add-mod x values in omega arith

-- ---- the records
module _ (t : Ticket) (h : Admitted t.field (genus t.n) t.D) (R m : ℕ) (most : m < budgets) (is : R ≡ degree_before (ops_of t) t.D (root_of t) m) where
  holds : (j : ℕ) → j < m → RecordHolds t R j
  unfolding entry_of ideal_of mirror_of root_of
  holds j l = record {
    index_fits = omega arith;
    distance_fits = high_fits _ (let k = degree_fits h j (omega arith) in omega arith);
    mirror_fits = high_fits _ (let e = is in let k = degree_fits h m (omega arith) in let y = monic_degree h j in let w = h.genus_most in omega arith);
    mirror_is = let e = is in let k = degree_rise (surd_of h) j m l in omega arith;
    Q_whole = let e = monic_length h j in let k = Q_length (surd_of h) j in omega arith;
    P_whole = let e = rem_length h j in let k = Q_length (surd_of h) j in omega arith;
    Q_below = λ i. (arithmetic t.field (is_field h)).ok_is _ (oks_monic (M h) (I h) (Q h j) i);
    P_below = λ i. (arithmetic t.field (is_field h)).ok_is _ (oks_rem (M h) (P h j) (monic (ops_of t) (Q h j)) i);
    ideal = walk_pair h j;
  }

  -- ---- their words, read back
  module _ (positive : 0 < m) (degree : wrong_degree t.n ≡ false) where
    abbrev l : List ℕ
    l = listing_of t R m

    even : suc (genus t.n) + suc (genus t.n) ≡ t.n
    even = (allowed_degree t.n degree).0

    distances : (j : ℕ) → j < m → distance_at l t.n j ≡ (entry_of t j).distance
    distances j k = distance_listing t R even m j k (holds j k).distance_fits

    fits : (j : ℕ) → j < m → map kind (record_of t R j) ≡ record_kinds t.n
    unfolding record_of
    fits j k =
        let r = holds j k in
        kinds_record t.field t.n _ (entry_of t j) r.index_fits r.distance_fits r.mirror_fits (λ i. let b = ok_small t.field (is_field h) _ (r.Q_below i) in omega arith) (λ i. let b = ok_small t.field (is_field h) _ (r.P_below i) in omega arith)

    first : distance_at l t.n 0 ≡ 0
    unfolding entry_of root_of
    first = distances 0 positive ∙ degree_zero (surd_of h)

    rise : (j : ℕ) → suc j < m → distance_at l t.n j < distance_at l t.n (suc j)
    unfolding entry_of root_of
    rise j k = let a = distances j (omega arith) in let b = distances (suc j) k in let c = degree_rise (surd_of h) j (suc j) (omega arith) in omega arith

    some : length l ≡ 0 → ⊥
    some e = let a = length_listing t R even m in let b : 1 * (t.n + 4) ≤ m * (t.n + 4) = mul-le-mul positive (let c : t.n + 4 ≤ t.n + 4 = omega arith in c) in omega arith

    read_back : ReadBack t R m l
    unfolding wrong_listing
    read_back = record {
      count = count_listing t R even m;
      records = record_listing t R even m;
      distances = distances;
      accepted = λ w. false≢true (sym passes ∙ (tests_listing l t.n).1 w);
    }
      where
        kinds : right_kinds l t.n (record_count l t.n) ≡ true
        kinds = ap (right_kinds l t.n) (count_listing t R even m) ∙ kinds_listing t R even m fits m (omega arith)

        rises : rising l t.n (record_count l t.n - 1) ≡ true
        rises = ap (λ (k : ℕ). rising l t.n (k - 1)) (count_listing t R even m) ∙ rising_listing t R even m rise (m - 1) (omega arith)

        passes : wrong_listing l t.n ≡ false
        passes = simp (wrong_listing, degree, ne_eqb (length l) 0 some, eq-eqb (length l % (t.n + 4)) 0 (whole_listing t R even m), kinds, eq-eqb (distance_at l t.n 0) 0 first, rises)

pub t2_listings : T2Listings
unfolding degree_before
t2_listings w e R m c f = (holds (ticket_of w) h R m most s.regulator, read_back (ticket_of w) h R m most s.regulator s.positive (passed w e).degree)
  where
    h : Admitted (ticket_of w).field (genus (ticket_of w).n) (ticket_of w).D
    h = admitted w e

    s : StopsAt (ticket_of w).field (ticket_of w).D (root_of (ticket_of w)) (ticket_of w).b R m c
    s = (subst (Walks (ticket_of w)) f (t2 w e)).ends

    most : m < budgets
    most = let a = s.within in let b = budget_less w in omega arith
