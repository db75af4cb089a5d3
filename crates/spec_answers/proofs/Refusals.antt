-- The proofs of specs/Refusals.
use Prim.Native.Nat.{ℕ, zero, suc, ◌+◌, ◌*◌, ◌-◌, ◌/◌, ◌≤◌, ◌<◌}
use Rattle.std.proofs.Common.{suc-mul, mul-le-mul_right, div-mul-le_self, eq-or-lt_of_le, arith, sym, ◌∙◌, subst, inl, inr, ⊎_elim, length-drop, length-take-le}
use Rattle.std.specs.Prelude.{◌≡◌, refl, ◌↔◌, ◌≢◌, ◌⊎◌, Bool, true, false, List, [], length, take, drop}
use Rattle.std.proofs.Math.Path.{ap}
use Rattle.std.proofs.lemmas.Bool.{false≢true}
use Rattle.math_ring.specs.Order.{le_or_lt}
use Rattle.spec_arithmetic.specs.Field.{FieldName, ops}
use Rattle.spec_arithmetic.specs.Polynomials.{root}
use Rattle.spec_definitions.specs.Ticket.{ticket_of, refusal_of}
use Rattle.spec_definitions.specs.Walk.{Ideal}
use Rattle.spec_definitions.specs.Answers.{Outcome, found, spent, refused, Said, said, said_injective, root_of, outcome_of, words_outcome, regulator_of}
use Rattle.spec_definitions.specs.Units.{Lists, unit_answer}
use Rattle.spec_definitions.specs.Listing.{listing_answer}
use Rattle.spec_definitions.specs.Lookup.{record_at, record_count, lookup_of}
use Rattle.spec_definitions.specs.Products.{wrong_pair, product_answer, giant_answer}
use Rattle.spec_laws.specs.Admitted.{Admitted, admitted}
use Rattle.spec_laws.specs.Cases.{spent_not_found, refused_not_found, refused_not_spent}
use Rattle.spec_sentences.specs.Sentences.{Applies}
use Rattle.spec_sentences.specs.Tests.{NoneBelow}
use Rattle.spec_sentences.proofs.Tests.{tests_lt, tests_either, tests_stable, none_more}
use Rattle.spec_sentences.proofs.FirstRefusal.{t1}
use Rattle.spec_refusals.specs.Pairs.{WrongPair, WrongDistance, PairRefusals}
use Rattle.spec_refusals.proofs.Pairs.{t1_pairs, tests_pairs, tests_distances}
use Rattle.spec_refusals.specs.Lookups.{WrongListing}
use Rattle.spec_refusals.proofs.Lookups.{t1_lookups, t2_lookups, tests_listing}
use Rattle.spec_refusals.specs.LentLists.{Short}
use Rattle.spec_refusals.proofs.LentLists.{at_least, found_passes, t1_lists}
use Rattle.spec_demands.specs.Continued.{StopsAt, Spends, Ends, Walks}
use Rattle.spec_demands.proofs.Continued.{constant_told, t2}
use Rattle.spec_answers.specs.Refusals.{First, None, Stops, Spent, T1Answers, Lends}

-- ---- the proof
-- a number that tells the first statement from 1 to 7 that holds, and is 0 exactly where none holds, is at
-- most 7
module _ (P : ℕ → Type 0) (r : ℕ) (refused : (k : ℕ) → 1 ≤ k → k ≤ 7 → (r ≡ k) ↔ (P k × NoneBelow P k)) (accepted : (r ≡ 0) ↔ ((j : ℕ) → 1 ≤ j → j ≤ 7 → ¬ P j)) where
  -- past 7, none from 1 to k holds
  none_to : 7 < r → (k : ℕ) → k ≤ 7 → NoneBelow P (suc k)
  none_to past zero h = λ j low high. absurd (omega arith)
  none_to past (suc k) h = let below = none_to past k (omega arith) in none_more P below (λ p. let e = (refused (suc k) (omega arith) h).1 (p, below) in omega arith)

  pub number_most : r ≤ 7
  number_most = ⊎_elim (λ h. h) (λ past. absurd (let e = accepted.1 (λ j low high. none_to past 7 (omega arith) j low (omega arith)) in omega arith)) (le_or_lt r 7)

module _ (w : List ℕ) where
  pub passes : None w → refusal_of w ≡ 0
  passes none = (t1 w).accepted.1 none

  pub none_applies : refusal_of w ≡ 0 → None w
  none_applies e = (t1 w).accepted.0 e

  pub first_number : {k : ℕ} → First k w → refusal_of w ≡ k
  first_number {k} f = ((t1 w).refused k f.0 f.1).1 (f.2, f.3)

  pub number_first : (k : ℕ) → k ≢ 0 → refusal_of w ≡ k → First k w
  number_first k some e =
      let most = number_most (λ j. Applies j w) (refusal_of w) (t1 w).refused (t1 w).accepted in
      let low : 1 ≤ k = ⊎_elim (λ h. h) (λ h. absurd (some (omega arith))) (le_or_lt 1 k) in
      let high : k ≤ 7 = omega arith in
      let f = ((t1 w).refused k low high).0 e in
      (low, high, f.0, f.1)

  -- ---- the outcome of the words
  outcome_by_refusal : (k : ℕ) → refusal_of w ≡ k → words_outcome w ≡ (elim k as (λ _. Outcome) [ zero ↦ outcome_of (ticket_of w) | suc j ↦ refused (suc j) ])
  unfolding words_outcome
  outcome_by_refusal k e = ap (λ (k : ℕ). elim k as (λ _. Outcome) [ zero ↦ outcome_of (ticket_of w) | suc j ↦ refused (suc j) ]) e

  refused_outcome : {k : ℕ} → First k w → words_outcome w ≡ refused k
  refused_outcome {k} f = go k (first_number f) f.0
    where
      go : (k : ℕ) → refusal_of w ≡ k → 1 ≤ k → words_outcome w ≡ refused k
      go zero e low = absurd (omega arith)
      go (suc k) e low = outcome_by_refusal (suc k) e

  outcome_refused : (k : ℕ) → words_outcome w ≡ refused k → First k w
  outcome_refused k e = go (refusal_of w) refl
    where
      go : (n : ℕ) → refusal_of w ≡ n → First k w
      go zero z = absurd (subst (Walks (ticket_of w)) e (t2 w z)).ends
      go (suc n) z = let f : refused (suc n) ≡ refused k = sym (outcome_by_refusal (suc n) z) ∙ e in let g : suc n ≡ k = cc in number_first k (λ h. omega arith) (z ∙ g)

-- ---- an outcome is told by the walk
module _ {f : FieldName} {g : ℕ} {D : List ℕ} (h : Admitted f g D) (b : ℕ) where
  abbrev d : List ℕ
  d = root (ops f) D (suc g)

  stops_unique : {R m c R' m' c' : ℕ} → StopsAt f D d b R m c → StopsAt f D d b R' m' c' → found R m c ≡ found R' m' c'
  stops_unique {R} {m} {c} {R'} {m'} {c'} s u = ⊎_elim (λ k. ⊎_elim (λ e. same (sym e)) (λ l. absurd (s.least m' u.positive l u.constant)) (eq-or-lt_of_le k)) (λ l. absurd (u.least m s.positive l s.constant)) (le_or_lt m' m)
    where
      same : m ≡ m' → found R m c ≡ found R' m' c'
      same e =
          let t : StopsAt f D d b R m' c = subst (λ (i : ℕ). StopsAt f D d b R i c) e s in
          let x : R ≡ R' = t.regulator ∙ sym u.regulator in
          let y : c ≡ c' = constant_told h t.positive t.constant t.value ∙ sym (constant_told h u.positive u.constant u.value) in
          cc

  stops_only : (x : Outcome) → Ends f D d b x → (R m c : ℕ) → StopsAt f D d b R m c → x ≡ found R m c
  stops_only (found R' m' c') e R m c s = stops_unique e s
  stops_only (spent k n) e R m c s = absurd (e.none_constant m s.positive s.within s.constant)
  stops_only (refused j) e R m c s = absurd e

spends_only : (f : FieldName) (D d : List ℕ) (b : ℕ) (x : Outcome) → Ends f D d b x → (k e : ℕ) → Spends f D d b k e → x ≡ spent k e
spends_only f D d b (found R m c) h k e s = absurd (s.none_constant m h.positive h.within h.constant)
spends_only f D d b (spent k' e') h k e s = let x : k' ≡ k = h.all ∙ sym s.all in let y : e' ≡ e = h.reached ∙ sym s.reached in cc
spends_only f D d b (refused j) h k e s = absurd h

module _ (w : List ℕ) where
  ends_of : refusal_of w ≡ 0 → Ends (ticket_of w).field (ticket_of w).D (root_of (ticket_of w)) (ticket_of w).b (words_outcome w)
  ends_of z = (t2 w z).ends

  stops_outcome : None w → (R m c : ℕ) → Stops w R m c → words_outcome w ≡ found R m c
  unfolding root_of
  stops_outcome none R m c s = stops_only (admitted w (passes w none)) (ticket_of w).b (words_outcome w) (ends_of (passes w none)) R m c s

  spent_outcome : None w → (k e : ℕ) → Spent w k e → words_outcome w ≡ spent k e
  spent_outcome none k e s = spends_only (ticket_of w).field (ticket_of w).D (root_of (ticket_of w)) (ticket_of w).b (words_outcome w) (ends_of (passes w none)) k e s

  -- what is spent is past the refusals
  outcome_spent : (k e : ℕ) → words_outcome w ≡ spent k e → None w × Spent w k e
  outcome_spent k e f = go (refusal_of w) refl
    where
      go : (n : ℕ) → refusal_of w ≡ n → None w × Spent w k e
      go zero z = (none_applies w z, (subst (Walks (ticket_of w)) f (t2 w z)).ends)
      go (suc n) z = absurd (refused_not_spent (suc n) k e (sym (outcome_by_refusal w (suc n) z) ∙ f))

module _ {w : List ℕ} {says : Said} {number : ℕ} {Lacks : ℕ → ℕ → Type 0} (a : Lends w says number Lacks) where
  abbrev TooShort : Type 0
  TooShort = (R : ℕ) × (m : ℕ) × (c : ℕ) × Stops w R m c × Lacks R m

  -- an outcome other than found is said as it is
  said_other : (x : Outcome) → words_outcome w ≡ x → ((R m c : ℕ) → x ≡ found R m c → ⊥) → says ≡ said x
  said_other x e never = a.other (λ R m c f. never R m c (sym e ∙ f)) ∙ ap said e

  refused_is : (k : ℕ) → (says ≡ said (refused k)) ↔ (First k w ⊎ ((k ≡ number) × None w × TooShort))
  refused_is k = (λ e. go (words_outcome w) refl e, ⊎_elim (λ f. said_other (refused k) (refused_outcome w f) (refused_not_found k)) back)
    where
      go : (x : Outcome) → words_outcome w ≡ x → says ≡ said (refused k) → First k w ⊎ ((k ≡ number) × None w × TooShort)
      go (found R m c) f e = inr (same, none_applies w z, (R, m, c, (subst (Walks (ticket_of w)) f (t2 w z)).ends, lacks))
        where
          z : refusal_of w ≡ 0
          z = found_passes w R m c f

          lacks : Lacks R m
          lacks = a.stable R m (λ never. refused_not_found k R m c (said_injective _ _ (sym e ∙ a.enough R m c f never)))

          same : k ≡ number
          same = let g : refused k ≡ refused number = said_injective _ _ (sym e ∙ a.short R m c f lacks) in cc
      go (spent j d) f e = absurd (refused_not_spent k j d (sym (said_injective _ _ (sym (said_other (spent j d) f (spent_not_found j d)) ∙ e))))
      go (refused j) f e = inl (outcome_refused w k (f ∙ said_injective _ _ (sym (said_other (refused j) f (refused_not_found j)) ∙ e)))

      back : (k ≡ number) × None w × TooShort → says ≡ said (refused k)
      back (e, none, (R, m, c, s, lacks)) = a.short R m c (stops_outcome w none R m c s) lacks ∙ ap (λ (i : ℕ). said (refused i)) (sym e)

  spent_is : (k e : ℕ) → (says ≡ said (spent k e)) ↔ (None w × Spent w k e)
  spent_is k e = (λ h. go (words_outcome w) refl h, λ s. said_other (spent k e) (spent_outcome w s.0 k e s.1) (spent_not_found k e))
    where
      go : (x : Outcome) → words_outcome w ≡ x → says ≡ said (spent k e) → None w × Spent w k e
      go (found R m c) f h = absurd (spent_not_found k e R m c (said_injective _ _ (sym h ∙ a.enough R m c f never)))
        where
          never : ¬ Lacks R m
          never lacks = refused_not_spent number k e (sym (said_injective _ _ (sym h ∙ a.short R m c f lacks)))
      go (spent j d) f h = outcome_spent w k e (f ∙ said_injective _ _ (sym (said_other (spent j d) f (spent_not_found j d)) ∙ h))
      go (refused j) f h = absurd (refused_not_spent j k e (said_injective _ _ (sym (said_other (refused j) f (refused_not_found j)) ∙ h)))

  -- what is said to be found is the words' outcome
  found_outcome : (R m c : ℕ) → says ≡ said (found R m c) → words_outcome w ≡ found R m c
  found_outcome R m c e = go (words_outcome w) refl
    where
      go : (x : Outcome) → words_outcome w ≡ x → words_outcome w ≡ found R m c
      go (found R' m' c') f = f ∙ said_injective _ _ (sym (a.enough R' m' c' f (λ lacks. refused_not_found number R m c (said_injective _ _ (sym (a.short R' m' c' f lacks) ∙ e)))) ∙ e)
      go (spent j d) f = f ∙ said_injective _ _ (sym (said_other (spent j d) f (spent_not_found j d)) ∙ e)
      go (refused j) f = f ∙ said_injective _ _ (sym (said_other (refused j) f (refused_not_found j)) ∙ e)

-- ---- the calls
regulator_is : (w : List ℕ) (k : ℕ) → (regulator_of w ≡ said (refused k)) ↔ First k w
unfolding regulator_of
regulator_is w k = (λ e. outcome_refused w k (said_injective _ _ e), λ f. ap said (refused_outcome w f))

regulator_spent_is : (w : List ℕ) (k e : ℕ) → (regulator_of w ≡ said (spent k e)) ↔ (None w × Spent w k e)
unfolding regulator_of
regulator_spent_is w k e = (λ h. outcome_spent w k e (said_injective _ _ h), λ s. ap said (spent_outcome w s.0 k e s.1))

unit_lends : (w : List ℕ) (l : Lists) → Lends w (unit_answer w l).says 12 (λ R m. Short (suc R) l)
unit_lends w l = record {
  stable = λ R m. tests_stable (tests_either (tests_lt (length l.first) (suc R)) (tests_either (tests_lt (length l.second) (suc R)) (tests_either (tests_lt (length l.third) (suc R)) (tests_lt (length l.fourth) (suc R)))));
  short = (t1_lists.0 w l).short;
  enough = (t1_lists.0 w l).enough;
  other = (t1_lists.0 w l).other;
}

pub unit_found : (w : List ℕ) (l : Lists) (R m c : ℕ) → (unit_answer w l).says ≡ said (found R m c) → words_outcome w ≡ found R m c
unit_found w l = found_outcome (unit_lends w l)

listing_lends : (w l : List ℕ) → Lends w (listing_answer w l).says 13 (λ R m. length l < m * ((ticket_of w).n + 4))
listing_lends w l = record {
  stable = λ R m. tests_stable (tests_lt (length l) (m * ((ticket_of w).n + 4)));
  short = (t1_lists.1 w l).short;
  enough = λ R m c f never. (t1_lists.1 w l).enough R m c f (at_least (m * ((ticket_of w).n + 4)) (length l) never (λ s. s));
  other = (t1_lists.1 w l).other;
}

pub listing_found : (w l : List ℕ) (R m c : ℕ) → (listing_answer w l).says ≡ said (found R m c) → words_outcome w ≡ found R m c
listing_found w l = found_outcome (listing_lends w l)

product_is : (w : List ℕ) (x y : Ideal ℕ) (k : ℕ) → k ≢ 0 → ((product_answer w x y).number ≡ k) ↔ (First k w ⊎ ((k ≡ 9) × None w × WrongPair (ticket_of w) x y))
product_is w x y k some = (λ e. go (refusal_of w) refl e, ⊎_elim (λ f. let n = first_number w f in (t.words (λ z. some (sym n ∙ z))).0 ∙ n) (λ f. (t.pairs (passes w f.1) f.2).0 ∙ sym f.0))
  where
    -- the distances do not matter here
    t : PairRefusals w x 0 y 0
    t = t1_pairs w x 0 y 0

    go : (n : ℕ) → refusal_of w ≡ n → (product_answer w x y).number ≡ k → First k w ⊎ ((k ≡ 9) × None w × WrongPair (ticket_of w) x y)
    go zero z e = inr (sym e ∙ (t.pairs z wrong).0, none_applies w z, wrong)
      where
        wrong : WrongPair (ticket_of w) x y
        wrong = tests_stable (tests_pairs (ticket_of w) (admitted w z) x y) (λ right. some (sym e ∙ t.product_not_refused z right))
    go (suc n) z e = inl (number_first w k some (sym (t.words (λ h. absurd (omega arith))).0 ∙ e))

giant_is : (w : List ℕ) (x : Ideal ℕ) (d : ℕ) (y : Ideal ℕ) (e k : ℕ) → k ≢ 0 → ((giant_answer w x d y e).number ≡ k) ↔ (First k w ⊎ ((k ≡ 9) × None w × WrongPair (ticket_of w) x y) ⊎ ((k ≡ 10) × None w × (¬ WrongPair (ticket_of w) x y) × WrongDistance d e))
giant_is w x d y e k some = (λ h. go (refusal_of w) refl h, ⊎_elim (λ f. let n = first_number w f in (t.words (λ z. some (sym n ∙ z))).1 ∙ n) (⊎_elim (λ f. (t.pairs (passes w f.1) f.2).1 ∙ sym f.0) (λ f. t.distances (passes w f.1) f.2 f.3 ∙ sym f.0)))
  where
    t : PairRefusals w x d y e
    t = t1_pairs w x d y e

    go : (n : ℕ) → refusal_of w ≡ n → (giant_answer w x d y e).number ≡ k → First k w ⊎ ((k ≡ 9) × None w × WrongPair (ticket_of w) x y) ⊎ ((k ≡ 10) × None w × (¬ WrongPair (ticket_of w) x y) × WrongDistance d e)
    go zero z h = pair (wrong_pair (ticket_of w) x y) refl
      where
        pair : (b : Bool) → wrong_pair (ticket_of w) x y ≡ b → First k w ⊎ ((k ≡ 9) × None w × WrongPair (ticket_of w) x y) ⊎ ((k ≡ 10) × None w × (¬ WrongPair (ticket_of w) x y) × WrongDistance d e)
        pair true u = let wrong = (tests_pairs (ticket_of w) (admitted w z) x y).0 u in inr (inl (sym h ∙ (t.pairs z wrong).1, none_applies w z, wrong))
        pair false u = inr (inr (sym h ∙ t.distances z right far, none_applies w z, right, far))
          where
            right : ¬ WrongPair (ticket_of w) x y
            right wrong = false≢true (sym u ∙ (tests_pairs (ticket_of w) (admitted w z) x y).1 wrong)

            far : WrongDistance d e
            far = tests_stable (tests_distances d e) (λ near. some (sym h ∙ t.giant_not_refused z right near))
    go (suc n) z h = inl (number_first w k some (sym (t.words (λ j. absurd (omega arith))).1 ∙ h))

-- a record that is handed back has words
record_some : (l : List ℕ) (n k : ℕ) → k < record_count l n → record_at l n k ≡ [] → ⊥
unfolding record_at record_count
record_some l n k h e =
    let a : suc k * (n + 4) ≡ k * (n + 4) + (n + 4) = suc-mul k (n + 4) in
    let b : suc k * (n + 4) ≤ length l / (n + 4) * (n + 4) = mul-le-mul_right (n + 4) h in
    let c : length l / (n + 4) * (n + 4) ≤ length l = div-mul-le_self (length l) (n + 4) in
    let f : length (drop (k * (n + 4)) l) ≡ length l - k * (n + 4) = length-drop (k * (n + 4)) l in
    let g : length (take (n + 4) (drop (k * (n + 4)) l)) ≡ n + 4 = length-take-le (n + 4) (drop (k * (n + 4)) l) (omega arith) in
    let i : length (take (n + 4) (drop (k * (n + 4)) l)) ≡ 0 = ap length e in
    omega arith

lookup_is : (l : List ℕ) (n y : ℕ) → (lookup_of l n y ≡ []) ↔ WrongListing l n
lookup_is l n y = (λ e. tests_stable (tests_listing l n) (λ right. let r = t2_lookups l n y right in record_some l n r.k r.below (sym r.part_is ∙ e)), λ wrong. (t1_lookups l n y wrong).0)

pub t1_answers : T1Answers
t1_answers = record {
  regulator = regulator_is;
  unit = λ w l. refused_is (unit_lends w l);
  listing = λ w l. refused_is (listing_lends w l);
  regulator_spent = regulator_spent_is;
  unit_spent = λ w l. spent_is (unit_lends w l);
  listing_spent = λ w l. spent_is (listing_lends w l);
  product = product_is;
  giant_step = giant_is;
  lookup = lookup_is;
  lookup_start = λ l n y wrong. (t1_lookups l n y wrong).1;
}
