-- The proofs of specs/Lookups.
use Prim.Native.Nat.{ℕ, zero, suc, ◌+◌, ◌*◌, ◌-◌, ◌/◌, ◌%◌, ◌≤◌, ◌<◌}
use Rattle.std.proofs.Common.{div-add-mod', mul-div_cancel, zero-mul, eq-or-lt_of_le, eq-zero-or-pos, sym, ◌∙◌, inl, inr, get_or-take}
use Rattle.std.proofs.Math.Nat.{suc-mul, mul-mod_left, mul-le-mul_right}
use native.Mathlib.Omega.{arith}
use Rattle.std.specs.Prelude.{◌≡◌, ◌≢◌, ◌⊎◌, Bool, not, ◌||◌, List, ◌++◌, map, eqb, get_or, take, drop}
use Rattle.std.proofs.Math.Path.{refl, ap, subst}
use Rattle.std.proofs.Math.Logic.{⊎_elim}
use Rattle.std.proofs.Math.Logic.Iff
use Rattle.std.proofs.Math.Bool.{true, false}
use Rattle.std.proofs.lemmas.Bool.{false≢true}
use Rattle.std.proofs.Math.Dec.{leb, ltb}
use Rattle.std.proofs.Math.ListN.{length, replicate, length-append, length-map, length-drop, length-replicate, get_or-map}
use Rattle.std.proofs.Math.Seq.{length-take-le, get_or-drop}
use borrow.Author.Tests.{ltb-true, ltb-false, leb-true, leb-false}
use Rattle.spec_arithmetic.specs.Words.{kind, same}
use Rattle.spec_definitions.specs.Ticket.{genus, wrong_degree}
use Rattle.spec_definitions.specs.Lookup.{record_kinds, record_at, distance_at, record_count, right_kinds, rising, wrong_listing, last_within, lookup_of, place_of}
use Rattle.spec_laws.specs.Admitted.{allowed_degree}
use Rattle.spec_sentences.specs.Tests.{Tests}
use Rattle.spec_sentences.proofs.Tests.{tests_lt, tests_eq, tests_not, tests_none, tests_stable, tests_or, tests_differ}
use Rattle.spec_sentences.proofs.Readings.{tests_degree_of}
use Rattle.spec_refusals.specs.Lookups.{WholeRecords, WrongKind, NotRising, WrongListing, T1Lookups, T2Lookups, Last}
use Rattle.spec_refusals.specs.Lookups as defs

-- ---- tests one after the other
tests_then : (a b c : Bool) {r : Bool} {P Q S : Type 0} → Tests a P → Tests (b || c) Q → (¬ P → ¬ Q → Tests r S) → Tests (elim (a || b || c) [ true ↦ true | false ↦ r ]) (P ⊎ Q ⊎ S)
tests_then true b c s t u = (λ e. inl (s.0 refl), λ h. refl)
tests_then false true c s t u = (λ e. inr (inl (t.0 refl)), λ h. refl)
tests_then false false true s t u = (λ e. inr (inl (t.0 refl)), λ h. refl)
tests_then false false false {P = P} {Q = Q} s t u = (λ e. inr (inr ((u p q).0 e)), ⊎_elim (λ x. absurd (p x)) (⊎_elim (λ x. absurd (q x)) (u p q).1))
  where
    p : ¬ P
    p x = absurd (false≢true (s.1 x))

    q : ¬ Q
    q x = absurd (false≢true (t.1 x))

module _ (l : List ℕ) (n : ℕ) where
  -- ---- whole records
  split : length l / (n + 4) * (n + 4) + length l % (n + 4) ≡ length l
  split = div-add-mod' (length l) (n + 4)

  whole_of : length l ≢ 0 → length l % (n + 4) ≡ 0 → WholeRecords l n
  whole_of some e = (length l / (n + 4), ⊎_elim (λ f. absurd (some (let g : length l / (n + 4) * (n + 4) ≡ 0 = ap (λ (k : ℕ). k * (n + 4)) f ∙ zero-mul (n + 4) in omega (arith, split)))) (λ g. g) (eq-zero-or-pos (length l / (n + 4))), let e' = e in omega (arith, split))

  tests_whole : Tests (eqb (length l) 0 || not (eqb (length l % (n + 4)) 0)) (¬ WholeRecords l n)
  tests_whole = go (eqb (length l) 0) (eqb (length l % (n + 4)) 0) (tests_eq (length l) 0) (tests_eq (length l % (n + 4)) 0)
    where
      go : (a b : Bool) → Tests a (length l ≡ 0) → Tests b (length l % (n + 4) ≡ 0) → Tests (a || not b) (¬ WholeRecords l n)
      go true b s t = (λ e w. let z = s.0 refl in let k : 1 * (n + 4) ≤ w.0 * (n + 4) = mul-le-mul_right (n + 4) w.1 in let f = w.2 in omega arith, λ h. refl)
      go false true s t = (λ e. absurd (false≢true e), λ h. absurd (h (whole_of (λ z. absurd (false≢true (s.1 z))) (t.0 refl))))
      go false false s t = (λ e w. absurd (false≢true (t.1 (ap (λ (k : ℕ). k % (n + 4)) w.2 ∙ mul-mod_left w.0 (n + 4)))), λ h. refl)

  module _ (allowed : wrong_degree n ≡ false) (whole : length l % (n + 4) ≡ 0) where
    -- ---- kinds
    length_kinds : length (record_kinds n) ≡ n + 4
    unfolding record_kinds
    length_kinds =
        let e = (allowed_degree n allowed).0 in
        let a : length (replicate {A = ℕ} (suc (genus n)) 8 ++ replicate (genus n) 9) ≡ length (replicate {A = ℕ} (suc (genus n)) 8) + length (replicate {A = ℕ} (genus n) 9) = length-append (replicate (suc (genus n)) 8) (replicate (genus n) 9) in
        let b : length (replicate {A = ℕ} (suc (genus n)) 8) ≡ suc (genus n) = length-replicate {A = ℕ} (suc (genus n)) 8 in
        let c : length (replicate {A = ℕ} (genus n) 9) ≡ genus n = length-replicate {A = ℕ} (genus n) 9 in
        omega arith

    length_at : (k : ℕ) → k < record_count l n → length (map kind (record_at l n k)) ≡ n + 4
    unfolding record_at record_count
    length_at k h =
        length-map (take (n + 4) (drop (k * (n + 4)) l)) kind
        ∙ length-take-le (n + 4) (drop (k * (n + 4)) l) (let d : length (drop (k * (n + 4)) l) ≡ length l - k * (n + 4) = length-drop (k * (n + 4)) l in let e : suc k * (n + 4) ≡ k * (n + 4) + (n + 4) = suc-mul k (n + 4) in let f : suc k * (n + 4) ≤ length l / (n + 4) * (n + 4) = mul-le-mul_right (n + 4) h in let g = whole in omega (arith, split))

    kind_in_record : (k i : ℕ) → i < n + 4 → get_or (map kind (record_at l n k)) i 0 ≡ kind (get_or l (k * (n + 4) + i) 0)
    unfolding record_at kind
    kind_in_record k i h = get_or-map kind (take (n + 4) (drop (k * (n + 4)) l)) i 0 ∙ ap kind (get_or-take (n + 4) (drop (k * (n + 4)) l) i 0 h ∙ get_or-drop (k * (n + 4)) l i 0)

    tests_record : (k : ℕ) → k < record_count l n → Tests (not (same (map kind (record_at l n k)) (record_kinds n))) (WrongKind l n k)
    tests_record k h = Iff.trans (tests_differ (map kind (record_at l n k)) (record_kinds n) (length_at k h ∙ sym length_kinds)) (λ s. let b : s.0 < n + 4 = subst (λ (m : ℕ). s.0 < m) (length_at k h) s.1 in (s.0, b, λ e. s.2 (kind_in_record k s.0 b ∙ e)), λ s. (s.0, subst (λ (m : ℕ). s.0 < m) (sym (length_at k h)) s.1, λ e. s.2 (sym (kind_in_record k s.0 s.1) ∙ e)))

    tests_kinds : (m : ℕ) → m ≤ record_count l n → Tests (not (right_kinds l n m)) ((k : ℕ) × (k < m) × WrongKind l n k)
    unfolding right_kinds
    tests_kinds zero h = (λ e. absurd (false≢true e), λ s. absurd (let b = s.1 in omega arith))
    tests_kinds (suc m) h = go (right_kinds l n m) (tests_kinds m (omega arith)) (tests_record m h)
      where
        go : (b : Bool) → Tests (not b) ((k : ℕ) × (k < m) × WrongKind l n k) → Tests (not (same (map kind (record_at l n m)) (record_kinds n))) (WrongKind l n m) → Tests (not (elim b [ true ↦ same (map kind (record_at l n m)) (record_kinds n) | false ↦ false ])) ((k : ℕ) × (k < suc m) × WrongKind l n k)
        go true s t = (λ e. (m, omega arith, t.0 e), λ w. ⊎_elim (λ (f : suc w.0 ≡ suc m). t.1 (subst (WrongKind l n) (omega arith) w.2)) (λ (f : suc w.0 < suc m). absurd (false≢true (s.1 (w.0, omega arith, w.2)))) (eq-or-lt_of_le w.1))
        go false s t = (λ e. let w = s.0 refl in let b = w.1 in (w.0, omega arith, w.2), λ w. refl)

  -- ---- distances
  tests_next : (k : ℕ) → Tests (not (ltb (distance_at l n k) (distance_at l n (suc k)))) (distance_at l n (suc k) ≤ distance_at l n k)
  tests_next k = go (ltb (distance_at l n k) (distance_at l n (suc k))) refl
    where
      go : (b : Bool) → ltb (distance_at l n k) (distance_at l n (suc k)) ≡ b → Tests (not b) (distance_at l n (suc k) ≤ distance_at l n k)
      go true e = (λ f. absurd (false≢true f), λ h. absurd (let a = ltb-true (distance_at l n k) (distance_at l n (suc k)) e in omega arith))
      go false e = (λ f. ltb-false (distance_at l n k) (distance_at l n (suc k)) e, λ h. refl)

  tests_rising : (m : ℕ) → Tests (not (rising l n m)) ((k : ℕ) × (k < m) × (distance_at l n (suc k) ≤ distance_at l n k))
  unfolding rising
  tests_rising zero = (λ e. absurd (false≢true e), λ s. absurd (let b = s.1 in omega arith))
  tests_rising (suc m) = go (rising l n m) (tests_rising m) (tests_next m)
    where
      go : (b : Bool) → Tests (not b) ((k : ℕ) × (k < m) × (distance_at l n (suc k) ≤ distance_at l n k)) → Tests (not (ltb (distance_at l n m) (distance_at l n (suc m)))) (distance_at l n (suc m) ≤ distance_at l n m) → Tests (not (elim b [ true ↦ ltb (distance_at l n m) (distance_at l n (suc m)) | false ↦ false ])) ((k : ℕ) × (k < suc m) × (distance_at l n (suc k) ≤ distance_at l n k))
      go true s t = (λ e. (m, omega arith, t.0 e), λ w. ⊎_elim (λ (f : suc w.0 ≡ suc m). t.1 (subst (λ (k : ℕ). distance_at l n (suc k) ≤ distance_at l n k) (omega arith) w.2)) (λ (f : suc w.0 < suc m). absurd (false≢true (s.1 (w.0, omega arith, w.2)))) (eq-or-lt_of_le w.1))
      go false s t = (λ e. let w = s.0 refl in let b = w.1 in (w.0, omega arith, w.2), λ w. refl)

  rising_all : Tests (not (rising l n (record_count l n - 1))) (NotRising l n)
  rising_all = Iff.trans (tests_rising (record_count l n - 1)) (λ s. let b = s.1 in (s.0, omega arith, s.2), λ s. let b = s.1 in (s.0, omega arith, s.2))

  pub tests_listing : Tests (wrong_listing l n) (WrongListing l n)
  unfolding wrong_listing
  tests_listing = tests_then (wrong_degree n) (eqb (length l) 0) (not (eqb (length l % (n + 4)) 0)) (tests_degree_of n) tests_whole (λ a b. tests_or (tests_kinds (tests_none (tests_degree_of n) a) (rest b) (record_count l n) (omega arith)) (λ _. tests_not (tests_eq (distance_at l n 0) 0)) rising_all)
    where
      rest : ¬ ¬ WholeRecords l n → length l % (n + 4) ≡ 0
      rest b = go (eqb (length l % (n + 4)) 0) (tests_eq (length l % (n + 4)) 0)
        where
          go : (t : Bool) → Tests t (length l % (n + 4) ≡ 0) → length l % (n + 4) ≡ 0
          go true t = t.0 refl
          go false t = absurd (b (λ w. absurd (false≢true (t.1 (ap (λ (k : ℕ). k % (n + 4)) w.2 ∙ mul-mod_left w.0 (n + 4))))))

pub t1_lookups : T1Lookups
unfolding lookup_of place_of
t1_lookups l n y h = let e = (tests_listing l n).1 h in (simp (lookup_of, e), simp (place_of, e))

-- ---- lookup
module _ (l : List ℕ) (n y : ℕ) where
  last_is : distance_at l n 0 ≤ y → (k : ℕ) → (Last l n y) k (last_within l n y k)
  unfolding last_within
  last_is h zero = record { most = omega arith; within = h; last = λ i a b. absurd (omega arith) }
  last_is h (suc k) = go (leb (distance_at l n (suc k)) y) refl (last_is h k)
    where
      go : (b : Bool) → leb (distance_at l n (suc k)) y ≡ b → (Last l n y) k (last_within l n y k) → (Last l n y) (suc k) (elim b [ true ↦ suc k | false ↦ last_within l n y k ])
      go true e s = record { most = omega arith; within = leb-true _ _ e; last = λ i a b. absurd (omega arith) }
      go false e s = record {
        most = let a = s.most in omega arith;
        within = s.within;
        last = λ i a b. ⊎_elim (λ (f : i ≡ suc k). subst (λ (j : ℕ). y < distance_at l n j) (sym f) (leb-false _ _ e)) (λ (f : i < suc k). s.last i a (omega arith)) (eq-or-lt_of_le b);
      }

pub t2_lookups : T2Lookups
unfolding lookup_of place_of record_count
t2_lookups l n y h =
    record {
      k = last_within l n y (record_count l n - 1);
      below = let b = s.most in omega (arith, some);
      part_is = simp (lookup_of, e);
      place_is = simp (place_of, e);
      within = s.within;
      last = λ i b c. s.last i b (omega (arith, some));
    }
  where
    e : wrong_listing l n ≡ false
    e = tests_none (tests_listing l n) h

    some : 0 < record_count l n
    some = tests_stable (tests_lt 0 (record_count l n)) (λ f. h (inr (inl (λ w. f (subst (λ (k : ℕ). 0 < k) (sym (ap (λ (m : ℕ). m / (n + 4)) w.2 ∙ mul-div_cancel w.0 (omega arith))) w.1)))))

    first : distance_at l n 0 ≡ 0
    first = tests_stable (tests_eq (distance_at l n 0) 0) (λ f. h (inr (inr (inr (inl f)))))

    s : Last l n y (record_count l n - 1) (last_within l n y (record_count l n - 1))
    s = last_is l n y (omega (arith, first)) (record_count l n - 1)
