-- The proofs of specs/Records.
use Prim.Native.Nat.{ℕ, suc, ◌+◌, ◌*◌, ◌-◌, ◌≤◌, ◌<◌}
use Rattle.std.proofs.Common.{suc-mul, mul-le-mul_right, eq-zero-or-pos, arith, ◌∙◌, ⊎_elim, length-drop, take-append-drop, take_at, drop_at, drop-drop, get_or-take}
use Rattle.std.specs.Prelude.{◌≡◌, length, take, drop}
use Rattle.std.proofs.Math.Path.{refl, sym, ap, ap₂, fun_ext, subst}
use mathlib.Core.List.{List, [], ◌∷◌, ◌++◌, map, append_assoc}
use Rattle.std.proofs.Math.ListN.{get_or, get_or-map}
use Rattle.std.proofs.lemmas.List.{length-map, take-append-le, drop-append-le}
use Rattle.std.proofs.Math.Seq.{get_or-drop}
use Rattle.math_ring.specs.Ring.{zer_mul}
use Rattle.math_ring.specs.Identity.{ring_from, times, quote}
use Rattle.math_ring.specs.Series.{Series, add_s, neg_s, conv, con}
use Rattle.math_algebra.specs.Field.{Field}
use Rattle.math_algebra.specs.Polynomial.{F, Px}
use Rattle.spec_arithmetic.specs.Field.{FieldName, ops, reading}
use Rattle.spec_arithmetic.specs.Polynomials.{size, deg, lead, pad, sub, scale, mul, quo, rem, monic, root}
use Rattle.spec_arithmetic.specs.Words.{kind, value, word, high, low, joined, values}
use Rattle.spec_definitions.specs.Ticket.{Ticket, genus, ticket_of}
use Rattle.spec_definitions.specs.Walk.{degree_before}
use Rattle.spec_definitions.specs.Walk as walk
use Rattle.spec_definitions.specs.Answers.{ops_of, root_of}
use Rattle.spec_definitions.specs.Listing.{ideal_of, entry_of, mirror_of, record_words, record_of, listing_of, listing_answer}
use Rattle.spec_definitions.specs.Lookup.{record_kinds, record_at}
use Rattle.spec_lists.specs.Words.{value_word, low_less, joined_back}
use Rattle.spec_lists.specs.Pad.{length_pad, at_pad}
use Rattle.spec_bridge.specs.Model.{Model, Inverts, series}
use Rattle.spec_bridge.specs.Trim.{size_is, trim_ext, lead_some}
use Rattle.spec_bridge.specs.Arithmetic.{series_sub, series_mul}
use Rattle.spec_bridge.specs.Division.{series_quo_rem}
use Rattle.spec_fields.specs.Named.{IsField, Ok, Arithmetic, arithmetic, ok_small}
use Rattle.spec_laws.specs.Surd.{Surd, Q_trim}
use Rattle.spec_laws.specs.Fraction.{Q_some}
use Rattle.spec_laws.specs.Admitted.{Admitted, is_field, surd_of, admitted, passed, allowed_degree}
use Rattle.spec_sentences.specs.Arithmetic.{Divides}
use Rattle.spec_sentences.proofs.Arithmetic.{series_same}
use Rattle.spec_refusals.proofs.Records.{length_listing, record_listing, kinds_record}
use Rattle.spec_refusals.proofs.LentLists.{t1_lists, found_passes}
use Rattle.spec_demands.specs.Listings.{RecordHolds}
use Rattle.spec_demands.proofs.Listings.{t2_listings}
use Rattle.spec_answers.proofs.Refusals.{listing_found}
use Rattle.spec_answers.specs.Records.{word_at, distance_read, mirror_read, QRead, PRead, RecordRead, T2Records}

-- ---- the proof
-- lists with the same coefficients, one of which may have zeros at its end
module _ (f : FieldName) (named : IsField f) (l h : List ℕ) (e : (i : ℕ) → get_or l i 0 ≡ get_or h i 0) where
  pub size_same : size (ops f) l ≡ size (ops f) h
  size_same = size_is (arithmetic f named).M l ∙ ap length (trim_ext (arithmetic f named).M l h e) ∙ sym (size_is (arithmetic f named).M h)

  pub lead_same : lead (ops f) l ≡ lead (ops f) h
  unfolding lead
  lead_same = e (size (ops f) l - 1) ∙ ap (λ (k : ℕ). get_or h (k - 1) 0) size_same

-- the values of words of one kind
values_words : (c : ℕ) (l : List ℕ) → ((i : ℕ) → get_or l i 0 < values) → map value (map (word c) l) ≡ l
values_words c [] h = refl
values_words c (x ∷ l) h = ap₂ (λ (a : ℕ) (t : List ℕ). a ∷ t) (value_word c x (h 0)) (values_words c l (λ i. h (suc i)))

-- ---- the ideal of index i of the walk, for a D that is admitted
module _ {f : FieldName} {g : ℕ} {D : List ℕ} (h : Admitted f g D) where
  abbrev A : Arithmetic f
  A = arithmetic f (is_field h)

  abbrev K : Field A.Elements
  K = A.K

  abbrev M : Model (ops f) (F K)
  M = A.M

  abbrev I : Inverts M
  I = A.I

  abbrev d : List ℕ
  d = root (ops f) D (suc g)

  abbrev z : Surd K M g D d
  z = surd_of h

  abbrev Q : ℕ → List ℕ
  Q = walk.Q (ops f) D d

  abbrev P : ℕ → List ℕ
  P = walk.P (ops f) D d

  -- the constant that makes Q monic is not 0
  pub lead_inverse : (i : ℕ) → 0 < (ops f).inv (lead (ops f) (Q i))
  lead_inverse i = ⊎_elim (λ e. absurd (K.one_not_zero (sym (I.inv_mul (lead (ops f) (Q i)) not_zero) ∙ ap (λ (c : ℕ). (F K).mul (M.φ c) (M.φ (lead (ops f) (Q i)))) e ∙ zer_mul (F K) (M.φ (lead (ops f) (Q i)))))) (λ l. l) (eq-zero-or-pos ((ops f).inv (lead (ops f) (Q i))))
    where
      not_zero : M.φ (lead (ops f) (Q i)) ≡ (F K).zer → ⊥
      not_zero = lead_some M (Q i) (let e = ap length (Q_trim z i) in let k = Q_some z i in omega arith)

  pub monic_is : (i : ℕ) → monic (ops f) (Q i) ≡ scale (ops f) ((ops f).inv (lead (ops f) (Q i))) (Q i)
  unfolding monic
  monic_is i = refl

  -- P less its remainder is a multiple of the divisor, whatever zeros stand at the end
  pub rem_congruent : (a b l r : List ℕ) → ((i : ℕ) → get_or l i 0 ≡ get_or b i 0) → ((i : ℕ) → get_or r i 0 ≡ get_or (rem (ops f) a b) i 0) → Divides f l (sub (ops f) a r)
  rem_congruent a b l r e k = (c, series_same f (is_field h) (sub (ops f) a r) (mul (ops f) l c) (series_sub M a r ∙ ap (λ (u : Px K). add_s (F K) (series M a) (neg_s (F K) u)) r_is ∙ whole ∙ ap (λ (u : Px K). conv (F K) u (series M c)) (sym f_is) ∙ sym (series_mul M l c)))
    where
      c : List ℕ
      c = quo (ops f) a b

      f_is : series M l ≡ series M b
      f_is = fun_ext (λ i. ap M.φ (e i))

      r_is : series M r ≡ series M (rem (ops f) a b)
      r_is = fun_ext (λ i. ap M.φ (k i))

      whole : add_s (F K) (series M a) (neg_s (F K) (series M (rem (ops f) a b))) ≡ conv (F K) (series M b) (series M c)
      whole = ring_from (Series (F K)) (series M a ∷ series M b ∷ series M c ∷ series M (rem (ops f) a b) ∷ []) (times (Series (F K)) (con (F K) (F K).one) (series_quo_rem M a b)) (search quote depth 40 fits 9999) tt

-- ---- a list in which record j + 1 stands at its place
module _ (t : Ticket) (h : Admitted t.field (genus t.n) t.D) (even : suc (genus t.n) + suc (genus t.n) ≡ t.n) (R j : ℕ) (r : RecordHolds t R j) (l : List ℕ) (stands : record_at l t.n j ≡ record_of t R j) where
  word_is : (i : ℕ) → i < t.n + 4 → word_at t.n j l i ≡ get_or (record_of t R j) i 0
  unfolding record_at
  word_is i low = sym (get_or-take (t.n + 4) (drop (j * (t.n + 4)) l) i 0 low ∙ get_or-drop (j * (t.n + 4)) l i 0) ∙ ap (λ (x : List ℕ). get_or x i 0) stands

  -- the words after it
  abbrev rest : List ℕ
  rest = drop (t.n + 4) (drop (j * (t.n + 4)) l)

  from_is : drop (j * (t.n + 4)) l ≡ record_of t R j ++ rest
  unfolding record_at
  from_is = sym (take-append-drop (t.n + 4) (drop (j * (t.n + 4)) l)) ∙ ap (λ (x : List ℕ). x ++ rest) stands

  abbrev Qs : List ℕ
  Qs = pad (ops_of t) (suc (genus t.n)) (entry_of t j).ideal.q

  abbrev Ps : List ℕ
  Ps = pad (ops_of t) (genus t.n) (entry_of t j).ideal.p

  -- the coefficients' words, and those after
  after_is : drop (j * (t.n + 4) + 5) l ≡ map (word 8) Qs ++ (map (word 9) Ps ++ rest)
  unfolding record_of record_words
  after_is = sym (drop-drop 5 (j * (t.n + 4)) l) ∙ ap (drop 5) from_is ∙ append_assoc (map (word 8) Qs) (map (word 9) Ps) rest

  length_Q : length (map (word 8) Qs) ≡ suc (genus t.n)
  length_Q = length-map Qs (word 8) ∙ length_pad (ops_of t) (suc (genus t.n)) (entry_of t j).ideal.q

  length_P : length (map (word 9) Ps) ≡ genus t.n
  length_P = length-map Ps (word 9) ∙ length_pad (ops_of t) (genus t.n) (entry_of t j).ideal.p

  Q_same : (i : ℕ) → get_or Qs i 0 ≡ get_or (entry_of t j).ideal.q i 0
  Q_same = at_pad (ops_of t) (suc (genus t.n)) (entry_of t j).ideal.q r.Q_whole

  P_same : (i : ℕ) → get_or Ps i 0 ≡ get_or (entry_of t j).ideal.p i 0
  P_same = at_pad (ops_of t) (genus t.n) (entry_of t j).ideal.p r.P_whole

  pub Q_is : QRead t.n j l ≡ Qs
  Q_is =
      ap (λ (x : List ℕ). map value (take (suc (genus t.n)) x)) after_is
      ∙ ap (map value) (take_at (map (word 8) Qs) (map (word 9) Ps ++ rest) (suc (genus t.n)) length_Q)
      ∙ values_words 8 Qs (λ i. let e = Q_same i in let k = ok_small t.field (is_field h) _ (r.Q_below i) in omega arith)

  pub P_is : PRead t.n j l ≡ Ps
  P_is =
      ap (λ (x : List ℕ). map value (take (genus t.n) x)) (ap (λ (k : ℕ). drop k l) (let e : j * (t.n + 4) + (genus t.n + 6) ≡ j * (t.n + 4) + 5 + suc (genus t.n) = omega arith in e) ∙ sym (drop-drop (suc (genus t.n)) (j * (t.n + 4) + 5) l) ∙ ap (drop (suc (genus t.n))) after_is ∙ drop_at (map (word 8) Qs) (map (word 9) Ps ++ rest) (suc (genus t.n)) length_Q)
      ∙ ap (map value) (take_at (map (word 9) Ps) rest (genus t.n) length_P)
      ∙ values_words 9 Ps (λ i. let e = P_same i in let k = ok_small t.field (is_field h) _ (r.P_below i) in omega arith)

  pub Q_read : (i : ℕ) → get_or (QRead t.n j l) i 0 ≡ get_or (entry_of t j).ideal.q i 0
  Q_read i = ap (λ (x : List ℕ). get_or x i 0) Q_is ∙ Q_same i

  pub P_read : (i : ℕ) → get_or (PRead t.n j l) i 0 ≡ get_or (entry_of t j).ideal.p i 0
  P_read i = ap (λ (x : List ℕ). get_or x i 0) P_is ∙ P_same i

  kind_read : (i : ℕ) → i < t.n + 4 → kind (word_at t.n j l i) ≡ get_or (record_kinds t.n) i 0
  unfolding record_of kind
  kind_read i low =
      ap kind (word_is i low)
      ∙ sym (get_or-map kind (record_of t R j) i 0)
      ∙ ap (λ (x : List ℕ). get_or x i 0) (kinds_record t.field t.n (mirror_of (ops_of t) R (entry_of t j)) (entry_of t j) r.index_fits r.distance_fits r.mirror_fits (λ i. ok_small t.field (is_field h) _ (r.Q_below i)) (λ i. ok_small t.field (is_field h) _ (r.P_below i)))

  -- the value of a word of the record that is known
  value_read : (i c v : ℕ) → i < t.n + 4 → get_or (record_of t R j) i 0 ≡ word c v → v < values → value (word_at t.n j l i) ≡ v
  value_read i c v low e f = ap value (word_is i low ∙ e) ∙ value_word c v f

  index_read : value (word_at t.n j l 0) ≡ suc j
  unfolding record_of record_words entry_of
  index_read = value_read 0 5 (suc j) (omega arith) refl r.index_fits

  pub distance_read_is : distance_read t.n j l ≡ (entry_of t j).distance
  unfolding record_of record_words
  distance_read_is = ap₂ joined (value_read 1 6 (high (entry_of t j).distance) (omega arith) refl r.distance_fits) (value_read 2 7 (low (entry_of t j).distance) (omega arith) refl (low_less (entry_of t j).distance)) ∙ joined_back (entry_of t j).distance

  abbrev μ : ℕ
  μ = mirror_of (ops_of t) R (entry_of t j)

  pub mirror_read_is : mirror_read t.n j l ≡ mirror_of (ops_of t) R (entry_of t j)
  unfolding record_of record_words
  mirror_read_is = ap₂ joined (value_read 3 10 (high μ) (omega arith) refl r.mirror_fits) (value_read 4 11 (low μ) (omega arith) refl (low_less μ)) ∙ joined_back μ

  pub record_read : RecordRead t R j l
  unfolding deg entry_of ideal_of root_of degree_before
  record_read = record {
    kinds = kind_read;
    index = index_read;
    distance = distance_read_is;
    mirror = ap₂ ◌+◌ mirror_read_is distance_read_is ∙ r.mirror_is ∙ ap (λ (k : ℕ). R + (k - 1)) (sym (size_same t.field (is_field h) _ _ Q_read));
    Q_monic = lead_same t.field (is_field h) _ _ Q_read ∙ r.ideal.monic;
    Q_ratio = ((ops_of t).inv (lead (ops_of t) (Q h j)), lead_inverse h j, (A h).ok_is _ ((I h).ok_inv (lead (ops_of t) (Q h j))), λ i. ap (reading t.field) (Q_read i ∙ ap (λ (x : List ℕ). get_or x i 0) (monic_is h j)));
    P_congruent = rem_congruent h (P h j) (monic (ops_of t) (Q h j)) (QRead t.n j l) (PRead t.n j l) Q_read P_read;
    P_less = let a = size_same t.field (is_field h) (PRead t.n j l) (entry_of t j).ideal.p P_read in let b = size_same t.field (is_field h) (QRead t.n j l) (entry_of t j).ideal.q Q_read in let c = r.ideal.less in omega arith;
    Q_below = λ i. subst (Ok t.field) (sym (Q_read i)) (r.Q_below i);
    P_below = λ i. subst (Ok t.field) (sym (P_read i)) (r.P_below i);
  }

-- ---- the list at exit: its first m·(n + 4) words are the records, one after the other
pub record_stands : (t : Ticket) (R m : ℕ) (l : List ℕ) → suc (genus t.n) + suc (genus t.n) ≡ t.n → take (m * (t.n + 4)) l ≡ listing_of t R m → (j : ℕ) → j < m → record_at l t.n j ≡ record_of t R j
unfolding record_at
record_stands t R m l even e j k =
    ap (λ (x : List ℕ). take (t.n + 4) (drop (j * (t.n + 4)) x)) (sym (take-append-drop (m * (t.n + 4)) l) ∙ ap (λ (x : List ℕ). x ++ drop (m * (t.n + 4)) l) e)
    ∙ ap (take (t.n + 4)) (drop-append-le (j * (t.n + 4)) (listing_of t R m) (drop (m * (t.n + 4)) l) (omega (arith, long, fits)))
    ∙ take-append-le (t.n + 4) (drop (j * (t.n + 4)) (listing_of t R m)) (drop (m * (t.n + 4)) l) (omega (arith, long, fits, length-drop (j * (t.n + 4)) (listing_of t R m)))
    ∙ record_listing t R even m j k
  where
    long : length (listing_of t R m) ≡ m * (t.n + 4)
    long = length_listing t R even m

    fits : j * (t.n + 4) + (t.n + 4) ≤ m * (t.n + 4)
    fits = subst (λ (x : ℕ). x ≤ m * (t.n + 4)) (suc-mul j (t.n + 4)) (mul-le-mul_right (t.n + 4) k)

pub t2_records : T2Records
t2_records w old R m c e j k =
    let f = listing_found w old R m c e in
    let z = found_passes w R m c f in
    let even = (allowed_degree (ticket_of w).n (passed w z).degree).0 in
    record_read (ticket_of w) (admitted w z) even R j ((t2_listings w z R m c f).0 j k) (listing_answer w old).list (record_stands (ticket_of w) R m (listing_answer w old).list even ((t1_lists.1 w old).records R m c e) j k)
