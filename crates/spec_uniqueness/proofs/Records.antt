-- The proofs of specs/Records.
use Rattle.std.specs.Prelude.{ℕ, zero, suc, ◌+◌, ◌*◌, ◌-◌, ◌/◌, ◌%◌, ◌≤◌, ◌<◌, ◌≡◌, List, [], ◌∷◌, ◌++◌, length, get_or, take, drop, replicate}
use Rattle.std.proofs.Common.{mod-lt, div-add-mod', div-lt_iff_lt-mul, arith, sym, ap₂, ◌∙◌, subst, ⊎_elim, length-drop, length-take-le, get_or-take, get_or-append-add, ext_get_or}
use Rattle.std.proofs.Math.Path.{ap}
use Rattle.std.proofs.lemmas.List.{length-replicate, get_or-replicate}
use Rattle.std.proofs.Math.ListN.{get_or-map, get_or-append, get_or-eq_default}
use Rattle.std.proofs.Math.Seq.{get_or-drop}
use Rattle.math_ring.specs.Order.{le_or_lt}
use Rattle.math_ring.specs.Identity.{ring, quote}
use Rattle.math_ring.specs.Series.{Series, add_s, neg_s}
use Rattle.math_algebra.specs.Field.{Field}
use Rattle.math_algebra.specs.Polynomial.{F, Px, Monic, low_sub, monic_deg}
use Rattle.math_algebra.specs.Divides.{Divides as DividesK, divides_sub, divides_path, rigid}
use Rattle.math_algebra.specs.Associate.{Associate, associate_sym, associate_trans, associate_monic_equal}
use Rattle.spec_arithmetic.specs.Field.{FieldName, ops}
use Rattle.spec_arithmetic.specs.Polynomials.{trim, size, deg, lead, sub, scale}
use Rattle.spec_arithmetic.specs.Words.{kind, value, joined, values}
use Rattle.spec_definitions.specs.Ticket.{Ticket, genus, ticket_of, refusal_of}
use Rattle.spec_definitions.specs.Walk as walk
use Rattle.spec_definitions.specs.Answers.{ops_of, root_of}
use Rattle.spec_definitions.specs.Listing.{record_of, listing_of, listing_answer}
use Rattle.spec_definitions.specs.Lookup.{record_kinds, record_at}
use Rattle.spec_lists.specs.Words.{word_unique, value_less}
use Rattle.spec_bridge.specs.Model.{Model, series}
use Rattle.spec_bridge.specs.Trim.{below_size, size_is, size_series, lead_is}
use Rattle.spec_bridge.specs.Arithmetic.{series_sub, series_scale}
use Rattle.spec_bridge.specs.Degree.{series_monic_of}
use Rattle.spec_fields.specs.Named.{Ok, arithmetic, same_reading, reading_ok, reading_zero, φ_first}
use Rattle.spec_laws.specs.Admitted.{Admitted, is_field, admitted, passed, allowed_degree}
use Rattle.spec_sentences.specs.Sentences.{Same}
use Rattle.spec_sentences.specs.Arithmetic.{Divides}
use Rattle.spec_sentences.proofs.Arithmetic.{same_series, divides_series}
use Rattle.spec_refusals.proofs.Records.{record_listing}
use Rattle.spec_refusals.specs.LentLists.{KeepsFrom}
use Rattle.spec_refusals.proofs.LentLists.{t1_lists, found_passes}
use Rattle.spec_demands.proofs.Listings.{t2_listings}
use Rattle.spec_answers.proofs.Refusals.{listing_found}
use Rattle.spec_answers.specs.Records.{word_at, QRead, PRead, RecordRead}
use Rattle.spec_answers.proofs.Records.{size_same, record_read, t2_records}
use Rattle.spec_uniqueness.proofs.Units.{later_at}
use Rattle.spec_uniqueness.specs.Records.{RecordOnly, ListingOnly}

-- ---- the proof
joined_parts : (a b c d : ℕ) → b < values → d < values → joined a b ≡ joined c d → (a ≡ c) × (b ≡ d)
unfolding joined
joined_parts a b c d h k e = (omega arith, omega arith)

-- ---- Q and P, for a D that is admitted
module _ {f : FieldName} {g : ℕ} {D : List ℕ} (h : Admitted f g D) where
  abbrev K : Field (arithmetic f (is_field h)).Elements
  K = (arithmetic f (is_field h)).K

  abbrev M : Model (ops f) (F K)
  M = (arithmetic f (is_field h)).M

  lead_monic : (l : List ℕ) → lead (ops f) l ≡ 1 → Monic K (series M l) (length (trim (ops f) l) - 1)
  lead_monic l e = series_monic_of K M l _ (omega arith) (ap M.φ (sym (lead_is M l) ∙ e) ∙ φ_first f (is_field h))

  multiple_associate : (k : ℕ) (l u : List ℕ) → 0 < k → Ok f k → Same f l (scale (ops f) k u) → Associate K (series M l) (series M u)
  multiple_associate k l u low high e = record {
    factor = M.φ k;
    some = λ z. absurd (let y : k ≡ 0 = sym (reading_ok f (is_field h) k high) ∙ same_reading f (is_field h) k 0 (z ∙ sym M.φ_zer) ∙ reading_zero f in omega arith);
    is = same_series f (is_field h) l (scale (ops f) k u) e ∙ series_scale M k u;
  }

  -- lists of admissible coefficients with the same polynomial
  pub below_unique : (l u : List ℕ) → ((i : ℕ) → Ok f (get_or l i 0)) → ((i : ℕ) → Ok f (get_or u i 0)) → series M l ≡ series M u → (i : ℕ) → get_or l i 0 ≡ get_or u i 0
  below_unique l u low low' e i = M.inj (get_or l i 0) (get_or u i 0) ((arithmetic f (is_field h)).ok_of _ (low i)) ((arithmetic f (is_field h)).ok_of _ (low' i)) (ap (λ (s : Px K). s i) e)

  -- a monic multiple is one
  pub monic_unique : (u x y : List ℕ) → lead (ops f) x ≡ 1 → lead (ops f) y ≡ 1 → ((k : ℕ) × (0 < k) × Ok f k × Same f x (scale (ops f) k u)) → ((k : ℕ) × (0 < k) × Ok f k × Same f y (scale (ops f) k u)) → series M x ≡ series M y
  monic_unique u x y lx ly rx ry = associate_monic_equal K (lead_monic x lx) (lead_monic y ly) (associate_trans K (multiple_associate rx.0 x u rx.1 rx.2 rx.3) (associate_sym K (multiple_associate ry.0 y u ry.1 ry.2 ry.3)))

  -- what is congruent to u modulo a monic x and has a lower degree is one
  pub rest_unique : (u x y a b : List ℕ) → lead (ops f) x ≡ 1 → series M x ≡ series M y → Divides f x (sub (ops f) u a) → Divides f y (sub (ops f) u b) → size (ops f) a < size (ops f) x → size (ops f) b < size (ops f) y → series M b ≡ series M a
  rest_unique u x y a b lx same da db la lb = rigid K (length (trim (ops f) x) - 1) (monic_deg K (lead_monic x lx)) gap (low_sub K (series M b) (series M a) _ (λ i p. below_size M b i (omega (arith, size_is M b, size_is M x, size_is M y, sizes))) (λ i p. below_size M a i (omega (arith, size_is M a, size_is M x))))
    where
      sizes : length (trim (ops f) x) ≡ length (trim (ops f) y)
      sizes = size_series M x y same

      gap : DividesK K (series M x) (add_s (F K) (series M b) (neg_s (F K) (series M a)))
      gap = divides_path K
          (ap₂ (λ (s t : Px K). add_s (F K) s (neg_s (F K) t)) (series_sub M u a) (series_sub M u b) ∙ ring (Series (F K)) (series M u ∷ series M a ∷ series M b ∷ []) (search quote depth 40 fits 9999) tt)
          (divides_sub K (divides_series f (is_field h) (sub (ops f) u a) x da) (subst (λ (s : Px K). DividesK K s (series M (sub (ops f) u b))) (sym same) (divides_series f (is_field h) (sub (ops f) u b) y db)))

-- ---- the words of the coefficients
module _ (n j : ℕ) (l : List ℕ) where
  value_Q : (i : ℕ) → i < suc (genus n) → get_or (QRead n j l) i 0 ≡ value (get_or l (j * (n + 4) + 5 + i) 0)
  unfolding value
  value_Q i h = get_or-map value (take (suc (genus n)) (drop (j * (n + 4) + 5) l)) i 0 ∙ ap value (get_or-take (suc (genus n)) (drop (j * (n + 4) + 5) l) i 0 h ∙ get_or-drop (j * (n + 4) + 5) l i 0)

  value_P : (i : ℕ) → i < genus n → get_or (PRead n j l) i 0 ≡ value (get_or l (j * (n + 4) + (genus n + 6) + i) 0)
  unfolding value
  value_P i h = get_or-map value (take (genus n) (drop (j * (n + 4) + (genus n + 6)) l)) i 0 ∙ ap value (get_or-take (genus n) (drop (j * (n + 4) + (genus n + 6)) l) i 0 h ∙ get_or-drop (j * (n + 4) + (genus n + 6)) l i 0)

-- ---- two lists that are read as one record
module _ (t : Ticket) (h : Admitted t.field (genus t.n) t.D) (even : suc (genus t.n) + suc (genus t.n) ≡ t.n) (R j : ℕ) (a b : List ℕ) (x : RecordRead t R j a) (y : RecordRead t R j b) where
  abbrev Qj : List ℕ
  Qj = walk.Q (ops_of t) t.D (root_of t) j

  abbrev Pj : List ℕ
  Pj = walk.P (ops_of t) t.D (root_of t) j

  Q_series : series (M h) (QRead t.n j a) ≡ series (M h) (QRead t.n j b)
  Q_series = monic_unique h Qj (QRead t.n j a) (QRead t.n j b) x.Q_monic y.Q_monic x.Q_ratio y.Q_ratio

  Q_same : (i : ℕ) → get_or (QRead t.n j a) i 0 ≡ get_or (QRead t.n j b) i 0
  Q_same = below_unique h (QRead t.n j a) (QRead t.n j b) x.Q_below y.Q_below Q_series

  P_same : (i : ℕ) → get_or (PRead t.n j a) i 0 ≡ get_or (PRead t.n j b) i 0
  P_same = below_unique h (PRead t.n j a) (PRead t.n j b) x.P_below y.P_below (sym (rest_unique h Pj (QRead t.n j a) (QRead t.n j b) (PRead t.n j a) (PRead t.n j b) x.Q_monic Q_series x.P_congruent y.P_congruent x.P_less y.P_less))

  distance_parts : (value (word_at t.n j a 1) ≡ value (word_at t.n j b 1)) × (value (word_at t.n j a 2) ≡ value (word_at t.n j b 2))
  distance_parts = joined_parts _ _ _ _ (value_less (word_at t.n j a 2)) (value_less (word_at t.n j b 2)) (x.distance ∙ sym y.distance)

  mirror_parts : (value (word_at t.n j a 3) ≡ value (word_at t.n j b 3)) × (value (word_at t.n j a 4) ≡ value (word_at t.n j b 4))
  unfolding deg
  mirror_parts = joined_parts _ _ _ _ (value_less (word_at t.n j a 4)) (value_less (word_at t.n j b 4)) (let e = x.mirror in let f = y.mirror in let k = x.distance in let l = y.distance in let s = size_same t.field (is_field h) (QRead t.n j a) (QRead t.n j b) Q_same in omega arith)

  value_same : (i : ℕ) → i < t.n + 4 → value (word_at t.n j a i) ≡ value (word_at t.n j b i)
  value_same zero low = x.index ∙ sym y.index
  value_same (suc zero) low = distance_parts.0
  value_same (suc (suc zero)) low = distance_parts.1
  value_same (suc (suc (suc zero))) low = mirror_parts.0
  value_same (suc (suc (suc (suc zero)))) low = mirror_parts.1
  value_same (suc (suc (suc (suc (suc i))))) low = ⊎_elim in_P in_Q (le_or_lt (suc (genus t.n)) i)
    where
      in_Q : i < suc (genus t.n) → value (word_at t.n j a (suc (suc (suc (suc (suc i)))))) ≡ value (word_at t.n j b (suc (suc (suc (suc (suc i))))))
      in_Q k = ap (λ (s : ℕ). value (get_or a s 0)) place ∙ sym (value_Q t.n j a i k) ∙ Q_same i ∙ value_Q t.n j b i k ∙ ap (λ (s : ℕ). value (get_or b s 0)) (sym place)
        where
          place : j * (t.n + 4) + suc (suc (suc (suc (suc i)))) ≡ j * (t.n + 4) + 5 + i
          place = omega arith

      in_P : suc (genus t.n) ≤ i → value (word_at t.n j a (suc (suc (suc (suc (suc i)))))) ≡ value (word_at t.n j b (suc (suc (suc (suc (suc i))))))
      in_P k = ap (λ (s : ℕ). value (get_or a s 0)) place ∙ sym (value_P t.n j a u low') ∙ P_same u ∙ value_P t.n j b u low' ∙ ap (λ (s : ℕ). value (get_or b s 0)) (sym place)
        where
          u : ℕ
          u = i - suc (genus t.n)

          low' : u < genus t.n
          low' = let e = even in omega arith

          place : j * (t.n + 4) + suc (suc (suc (suc (suc i)))) ≡ j * (t.n + 4) + (genus t.n + 6) + u
          place = omega arith

  words_same : (i : ℕ) → i < t.n + 4 → word_at t.n j a i ≡ word_at t.n j b i
  words_same i low = word_unique _ _ (x.kinds i low ∙ sym (y.kinds i low)) (value_same i low)

-- ---- the words are there: no kind of a record is 0
kinds_some : (n : ℕ) → suc (genus n) + suc (genus n) ≡ n → (i : ℕ) → i < n + 4 → 0 < get_or (record_kinds n) i 0
unfolding record_kinds
kinds_some n even zero h = omega arith
kinds_some n even (suc zero) h = omega arith
kinds_some n even (suc (suc zero)) h = omega arith
kinds_some n even (suc (suc (suc zero))) h = omega arith
kinds_some n even (suc (suc (suc (suc zero)))) h = omega arith
kinds_some n even (suc (suc (suc (suc (suc i))))) h = ⊎_elim in_P in_Q (le_or_lt (suc (genus n)) i)
  where
    Qs : List ℕ
    Qs = replicate (suc (genus n)) 8

    Ps : List ℕ
    Ps = replicate (genus n) 9

    long : length Qs ≡ suc (genus n)
    long = length-replicate (suc (genus n)) 8

    in_Q : i < suc (genus n) → 0 < get_or (Qs ++ Ps) i 0
    in_Q k = let e = get_or-append Qs Ps 0 i (omega (arith, long)) in let f = get_or-replicate {A = ℕ} (suc (genus n)) i 8 0 k in omega arith

    in_P : suc (genus n) ≤ i → 0 < get_or (Qs ++ Ps) i 0
    in_P k =
        let s : length Qs + (i - suc (genus n)) ≡ i = omega (arith, long) in
        let e = get_or-append-add Qs Ps (i - suc (genus n)) 0 in
        let f = get_or-replicate {A = ℕ} (genus n) (i - suc (genus n)) 9 0 (omega arith) in
        subst (λ (p : ℕ). 0 < get_or (Qs ++ Ps) p 0) s (omega arith)

record_long : (t : Ticket) → suc (genus t.n) + suc (genus t.n) ≡ t.n → (R j : ℕ) (l : List ℕ) → RecordRead t R j l → j * (t.n + 4) + (t.n + 4) ≤ length l
unfolding kind
record_long t even R j l r = ⊎_elim (λ past. absurd (none past)) (λ low. omega arith) (le_or_lt (length l) (j * (t.n + 4) + (t.n + 3)))
  where
    none : length l ≤ j * (t.n + 4) + (t.n + 3) → ⊥
    none past =
        let s = kinds_some t.n even (t.n + 3) (omega arith) in
        let e : kind (get_or l (j * (t.n + 4) + (t.n + 3)) 0) ≡ 0 = ap kind (get_or-eq_default l 0 past) in
        let k = r.kinds (t.n + 3) (omega arith) in
        omega arith

length_at : (n j : ℕ) (l : List ℕ) → j * (n + 4) + (n + 4) ≤ length l → length (take (n + 4) (drop (j * (n + 4)) l)) ≡ n + 4
length_at n j l h = length-take-le (n + 4) (drop (j * (n + 4)) l) (let e = length-drop (j * (n + 4)) l in omega arith)

word_in_record : (n j : ℕ) (l : List ℕ) (i : ℕ) → i < n + 4 → get_or (take (n + 4) (drop (j * (n + 4)) l)) i 0 ≡ word_at n j l i
word_in_record n j l i h = get_or-take (n + 4) (drop (j * (n + 4)) l) i 0 h ∙ get_or-drop (j * (n + 4)) l i 0

pub record_only : RecordOnly
unfolding record_at
record_only w z R m c f j k l x =
    ext_get_or 0 _ _ (length_at n j l (record_long t even R j l x) ∙ sym (length_at n j b (record_long t even R j b y))) (λ i low. let s : i < n + 4 = omega (arith, length_at n j l (record_long t even R j l x)) in word_in_record n j l i s ∙ words_same t (admitted w z) even R j l b x y i s ∙ sym (word_in_record n j b i s))
    ∙ stands
  where
    t : Ticket
    t = ticket_of w

    n : ℕ
    n = (ticket_of w).n

    even : suc (genus n) + suc (genus n) ≡ n
    even = (allowed_degree n (passed w z).degree).0

    b : List ℕ
    b = listing_of t R m

    stands : record_at b n j ≡ record_of t R j
    stands = record_listing t R even m j k

    y : RecordRead t R j b
    y = record_read t (admitted w z) even R j ((t2_listings w z R m c f).0 j k) b stands

pub listing_only : ListingOnly
listing_only w old R m c e l reads keeps = ext_get_or 0 l exit (keeps.long ∙ sym kept.long) (λ i low. ⊎_elim (λ past. later_at keeps i past ∙ sym (later_at kept i past)) (inside i) (le_or_lt (m * (n + 4)) i))
  where
    t : Ticket
    t = ticket_of w

    n : ℕ
    n = (ticket_of w).n

    exit : List ℕ
    exit = (listing_answer w old).list

    z : refusal_of w ≡ 0
    z = found_passes w R m c (listing_found w old R m c e)

    kept : KeepsFrom (m * (n + 4)) old exit
    kept = (t1_lists.1 w old).later R m c e

    inside : (i : ℕ) → i < m * (n + 4) → get_or l i 0 ≡ get_or exit i 0
    inside i low =
        let s : i / (n + 4) * (n + 4) + i % (n + 4) ≡ i = div-add-mod' i (n + 4) in
        let k : i / (n + 4) < m = (div-lt_iff_lt-mul {k = n + 4} {x = i} {y = m} (omega arith)).1 low in
        subst (λ (p : ℕ). get_or l p 0 ≡ get_or exit p 0) s (words_same t (admitted w z) (allowed_degree n (passed w z).degree).0 R (i / (n + 4)) l exit (reads (i / (n + 4)) k) (t2_records w old R m c e (i / (n + 4)) k) (i % (n + 4)) (mod-lt i (omega arith)))
