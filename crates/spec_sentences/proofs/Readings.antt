-- The tests of a ticket, 1 to 6: each is true exactly where its sentence applies, 5 where the words are laid
-- out as 4 asks.
use Rattle.std.specs.Prelude.{ℕ, suc, ◌+◌, ◌-◌, ◌%◌, ◌≤◌, ◌<◌, ◌≡◌, refl, ◌↔◌, ◌≢◌, ◌⊎◌, false, not, List, [], ◌∷◌, map, length, get_or, take, drop, eqb}
use Rattle.std.proofs.Common.{mod-lt, eq-or-lt_of_le, arith, sym, ◌∙◌, inl, inr, ⊎_elim, length-take, length-drop, get_or-take, ltb-false}
use Rattle.std.proofs.Math.Path.{ap, subst}
use Rattle.std.proofs.Math.Logic.Iff
use Rattle.std.proofs.lemmas.List.{length-map}
use Rattle.std.proofs.Math.ListN.{get_or-map}
use Rattle.std.proofs.Math.Seq.{get_or-drop}
use Rattle.math_ring.specs.Order.{le_or_lt}
use Rattle.spec_arithmetic.specs.Field.{FieldName, fits}
use Rattle.spec_arithmetic.specs.Words.{kind, value, same}
use Rattle.spec_definitions.specs.Ticket.{wrong_head, wrong_prime, wrong_degree, later_kinds, wrong_layout, wrong_coefficient, wrong_lead}
use Rattle.spec_lists.specs.Same.{one_of_one}
use Rattle.spec_laws.specs.Layout.{length_later, later_coefficient, later_budget, later_end}
use Rattle.spec_bridge.specs.Prime.{OddPrime, odd_prime_true, prime_odd_prime, odd_prime_more, prime_divisor, prime_of_divisors}
use Rattle.spec_fields.specs.Named.{IsField}
use Rattle.spec_sentences.specs.Sentences.{kind_at, value_at, q, field, n, TooLarge, coefficient, D, AllowedPrime, AllowedField, DegreeNotAllowed, WrongHead, WrongPrime, WrongDegree, WrongKind, WrongLayout, WrongCoefficient, WrongLead}
use Rattle.spec_sentences.specs.Tests.{Tests}
use Rattle.spec_sentences.proofs.Tests.{tests_lt, tests_eq, tests_not, tests_none, tests_stable, tests_or, tests_some, tests_differ}

pub prime_allowed : (p : ℕ) → OddPrime p ↔ AllowedPrime p
prime_allowed p = (λ r. record { odd = r.odd; below = r.small; more = r.prime.two; divisors = prime_divisor p r.prime }, λ r. record { prime = prime_of_divisors p r.more r.divisors; odd = r.odd; small = r.below })

pub named_field : (f : FieldName) → AllowedField f → IsField f
named_field f h = let r = (prime_allowed f.q).1 h in record { prime = r.prime; odd = odd_prime_more f.q r; small = r.small }

pub tests_odd : (m : ℕ) → (m % 2 ≢ 0) ↔ (m % 2 ≡ 1)
tests_odd m = let low : m % 2 < 2 = mod-lt m (omega arith) in (λ h. ⊎_elim (λ l. omega arith) (λ l. absurd (h (omega arith))) (le_or_lt 1 (m % 2)), λ e z. omega arith)

-- a coefficient is not admitted exactly where it is too large
pub fits_large : (f : FieldName) (x : ℕ) → (fits f x ≡ false) ↔ TooLarge f x
unfolding fits
fits_large f x = (ltb-false x f.q, λ h. tests_none (tests_lt x f.q) (λ l. omega arith))

pub tests_degree_of : (m : ℕ) → Tests (wrong_degree m) (DegreeNotAllowed m)
unfolding wrong_degree
tests_degree_of m = tests_or (Iff.trans (tests_not (tests_eq (m % 2) 0)) (tests_odd m)) (λ _. tests_lt m 2) (tests_lt 64 m)

module _ (w : List ℕ) where
  pub tests_head : Tests (wrong_head (1 ∷ []) w) (WrongHead w)
  unfolding wrong_head
  tests_head = tests_or (tests_lt (length w) 7) (λ _. tests_not (subst (λ b. Tests b (kind_at w 0 ≡ 1)) (sym (one_of_one (kind_at w 0) 1)) (tests_eq (kind_at w 0) 1))) (tests_not (tests_eq (kind_at w 1) 2))

  pub tests_prime : Tests (wrong_prime (q w)) (WrongPrime w)
  unfolding wrong_prime
  tests_prime = tests_not (Iff.trans (odd_prime_true (q w), prime_odd_prime (q w)) (prime_allowed (q w)))

  pub tests_degree : Tests (wrong_degree (n w)) (WrongDegree w)
  tests_degree = tests_degree_of (n w)

  -- ---- the words after the first two
  kind_at_drop : (i : ℕ) → get_or (map kind (drop 2 w)) i 0 ≡ kind_at w (i + 2)
  unfolding kind
  kind_at_drop i = get_or-map kind (drop 2 w) i 0 ∙ ap kind (get_or-drop 2 w i 0) ∙ ap (λ j. kind_at w j) (omega arith)

  -- the coefficients of D are the words' values
  pub coefficient_at : (i : ℕ) → i ≤ n w → get_or (D w) i 0 ≡ coefficient w i
  unfolding value
  coefficient_at i h = get_or-map value (take (n w + 1) (drop 2 w)) i 0 ∙ ap value (get_or-take (n w + 1) (drop 2 w) i 0 (omega arith) ∙ get_or-drop 2 w i 0) ∙ ap (λ j. value_at w j) (omega arith)

  pub length_D : length w ≡ n w + 5 → length (D w) ≡ n w + 1
  length_D e = simp (length-map, length-take, length-drop) (omega arith)

module _ (w : List ℕ) where
  -- a place of the words after the first two where the kind is another
  abbrev Differs : Type 0
  Differs = (i : ℕ) × (i < length (map kind (drop 2 w))) × (get_or (map kind (drop 2 w)) i 0 ≢ get_or (later_kinds (n w)) i 0)

  length_kinds : length w ≡ n w + 5 → length (map kind (drop 2 w)) ≡ n w + 3
  length_kinds e = simp (length-map, length-drop) (omega arith)

  -- word j has the kind k that it is to have exactly where the two lists agree at i, two places before
  agree : (i j k : ℕ) → i + 2 ≡ j → get_or (later_kinds (n w)) i 0 ≡ k → (kind_at w j ≡ k) ↔ (get_or (map kind (drop 2 w)) i 0 ≡ get_or (later_kinds (n w)) i 0)
  agree i j k e l = (λ h. at ∙ h ∙ sym l, λ h. sym at ∙ h ∙ l)
    where
      at : get_or (map kind (drop 2 w)) i 0 ≡ kind_at w j
      at = kind_at_drop w i ∙ ap (λ m. kind_at w m) e

  budget_at : (i : ℕ) → n w + 1 ≡ i → (kind_at w (n w + 3) ≡ 4) ↔ (get_or (map kind (drop 2 w)) i 0 ≡ get_or (later_kinds (n w)) i 0)
  budget_at i e = agree i (n w + 3) 4 (omega arith) (later_budget (n w) i (omega arith))

  end_at : (i : ℕ) → n w + 2 ≡ i → (kind_at w (n w + 4) ≡ 15) ↔ (get_or (map kind (drop 2 w)) i 0 ≡ get_or (later_kinds (n w)) i 0)
  end_at i e = agree i (n w + 4) 15 (omega arith) (later_end (n w) i (omega arith))

  differs_kind : length w ≡ n w + 5 → Differs → WrongKind w
  differs_kind e (i, high, h) = ⊎_elim (λ l. inl (i + 2, omega arith, omega arith, λ k. h ((agree i (i + 2) 3 refl (later_coefficient (n w) i (omega arith))).0 k))) (λ l. inr (ending l)) (le_or_lt i (n w))
    where
      ending : n w < i → (kind_at w (n w + 3) ≢ 4) ⊎ (kind_at w (n w + 4) ≢ 15)
      ending l = ⊎_elim (λ (m : suc (n w) ≡ i). inl (λ k. h ((budget_at i (omega arith)).0 k))) (λ (m : suc (n w) < i). inr (λ k. h ((end_at i (omega (arith, length_kinds e))).0 k))) (eq-or-lt_of_le l)

  kind_differs : length w ≡ n w + 5 → WrongKind w → Differs
  kind_differs e (inl (i, low, high, h)) = (i - 2, omega (arith, length_kinds e), λ k. h ((agree (i - 2) i 3 (omega arith) (later_coefficient (n w) (i - 2) (omega arith))).1 k))
  kind_differs e (inr (inl h)) = (n w + 1, omega (arith, length_kinds e), λ k. h ((budget_at (n w + 1) refl).1 k))
  kind_differs e (inr (inr h)) = (n w + 2, omega (arith, length_kinds e), λ k. h ((end_at (n w + 2) refl).1 k))

  tests_kind : length w ≡ n w + 5 → Tests (not (same (map kind (drop 2 w)) (later_kinds (n w)))) (WrongKind w)
  tests_kind e = Iff.trans (tests_differ _ _ (length_kinds e ∙ sym (length_later (n w)))) (differs_kind e, kind_differs e)

  pub tests_layout : Tests (wrong_layout (n w) w) (WrongLayout w)
  unfolding wrong_layout
  tests_layout = tests_or (tests_not (tests_eq (length w) (n w + 5))) (λ h. tests_kind (tests_stable (tests_eq (length w) (n w + 5)) h)) (tests_not (tests_eq (value_at w (n w + 4)) (n w + 4)))

  pub tests_coefficient : length w ≡ n w + 5 → Tests (wrong_coefficient (field w) (D w)) (WrongCoefficient w)
  unfolding wrong_coefficient
  tests_coefficient e = Iff.trans (tests_some (fits (field w)) (D w)) (λ r. let l : r.0 ≤ n w = omega (arith, length_D w e) in (r.0, l, (fits_large (field w) _).0 (subst (λ c. fits (field w) c ≡ false) (coefficient_at w r.0 l) r.2)), λ r. (r.0, omega (arith, length_D w e), subst (λ c. fits (field w) c ≡ false) (sym (coefficient_at w r.0 r.1)) ((fits_large (field w) _).1 r.2)))

  pub tests_lead : Tests (wrong_lead (n w) (D w)) (WrongLead w)
  unfolding wrong_lead
  tests_lead = tests_not (subst (λ c. Tests (eqb (get_or (D w) (n w) 0) 1) (c ≡ 1)) (coefficient_at w (n w) (omega arith)) (tests_eq (get_or (D w) (n w) 0) 1))
