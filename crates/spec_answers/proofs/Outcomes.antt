-- The proofs of specs/Outcomes.
use Rattle.std.specs.Prelude.{ℕ, ◌≤◌, ◌<◌, ◌≡◌, ◌≢◌, ◌⊎◌, List}
use Rattle.std.proofs.Common.{arith, sym, ap, ◌∙◌, subst, inl, inr, ⊎_elim}
use Rattle.math_ring.specs.Order.{le_or_lt}
use Rattle.spec_definitions.specs.Ticket.{Ticket, ticket_of, refusal_of}
use Rattle.spec_definitions.specs.Walk as walk
use Rattle.spec_definitions.specs.Answers.{Outcome, found, spent, refused, Said, said, said_injective, ops_of, root_of, words_outcome, regulator_of}
use Rattle.spec_definitions.specs.Units.{Lists, unit_answer}
use Rattle.spec_definitions.specs.Listing.{listing_answer}
use Rattle.spec_laws.specs.Admitted.{admitted}
use Rattle.spec_laws.specs.Cases.{spent_not_found, refused_not_found, refused_not_spent, found_numbers, spent_numbers}
use Rattle.spec_refusals.proofs.LentLists.{t1_lists, found_passes}
use Rattle.spec_demands.specs.Continued.{ConstantAt, StopsAt, Walks}
use Rattle.spec_demands.proofs.Continued.{constant_told, t2}
use Rattle.spec_expansion.specs.QuasiPeriod.{IsQuasiPeriod}
use Rattle.spec_expansion.proofs.QuasiPeriod.{quasi_period_unique, t2_exists}
use Rattle.spec_answers.specs.Outcomes.{degree_at, FoundAt, SpentAll, FoundOrSpent, UnitFits, ListingFits, T2Regulator, T2Unit, T2Listing, T2OutcomeUnique}

-- ---- the proof
module _ (t : Ticket) (m : ℕ) where
  found_not_spent : (says : Said) → FoundAt t m says → SpentAll t says → ⊥
  found_not_spent says (c, _, e) f = spent_not_found _ _ _ _ _ (said_injective _ _ (sym f ∙ e))

  -- what is said by the two cases
  by_cases : (says : Said) → (m ≤ t.b → FoundAt t m says) → (t.b < m → SpentAll t says) → FoundOrSpent t m says
  by_cases says found_within spent_beyond = record {
    within = (found_within, λ f. ⊎_elim (λ l. l) (λ l. absurd (found_not_spent says f (spent_beyond l))) (le_or_lt m t.b));
    beyond = (spent_beyond, λ s. ⊎_elim (λ l. absurd (found_not_spent says (found_within l) s)) (λ l. l) (le_or_lt m t.b));
    either = either;
    found_only = λ R k c e. ⊎_elim (λ f. let n = found_numbers (said_injective _ _ (sym e ∙ f.2)) in (n.0, n.1, subst (ConstantAt t.field t.D (root_of t) m) (sym n.2) f.1)) (λ s. absurd (spent_not_found _ _ _ _ _ (said_injective _ _ (sym s ∙ e)))) either;
    spent_only = λ k d e. ⊎_elim (λ f. absurd (spent_not_found _ _ _ _ _ (said_injective _ _ (sym e ∙ f.2)))) (λ s. spent_numbers (said_injective _ _ (sym e ∙ s))) either;
    never_refused = λ j e. ⊎_elim (λ f. refused_not_found _ _ _ _ (said_injective _ _ (sym e ∙ f.2))) (λ s. refused_not_spent _ _ _ (said_injective _ _ (sym e ∙ s))) either;
  }
    where
      either : FoundAt t m says ⊎ SpentAll t says
      either = ⊎_elim (λ l. inl (found_within l)) (λ l. inr (spent_beyond l)) (le_or_lt m t.b)

  -- two answers of which it holds are the same, as two constants are
  said_unique : ((a b : ℕ) → ConstantAt t.field t.D (root_of t) m a → ConstantAt t.field t.D (root_of t) m b → a ≡ b) → (x y : Said) → FoundOrSpent t m x → FoundOrSpent t m y → x ≡ y
  said_unique one x y h k = ⊎_elim (λ l. found_same (h.within.0 l) (k.within.0 l)) (λ l. h.beyond.0 l ∙ sym (k.beyond.0 l)) (le_or_lt m t.b)
    where
      found_same : FoundAt t m x → FoundAt t m y → x ≡ y
      found_same (a, u, e) (b, v, f) = e ∙ ap (λ (c : ℕ). said (found (degree_at t m) m c)) (one a b u v) ∙ sym f

-- ---- the outcome of the words
stops_period : (t : Ticket) (R m c : ℕ) → StopsAt t.field t.D (root_of t) t.b R m c → IsQuasiPeriod t m
stops_period t R m c s = record { positive = s.positive; constant = s.constant; least = s.least }

module _ (w : List ℕ) (past : refusal_of w ≡ 0) (m : ℕ) (h : IsQuasiPeriod (ticket_of w) m) where
  abbrev t : Ticket
  t = ticket_of w

  within_found : m ≤ t.b → (c : ℕ) × ConstantAt t.field t.D (root_of t) m c × (words_outcome w ≡ found (degree_at t m) m c)
  within_found l = go (words_outcome w) (t2 w past)
    where
      go : (x : Outcome) → Walks t x → (c : ℕ) × ConstantAt t.field t.D (root_of t) m c × (x ≡ found (degree_at t m) m c)
      go (found R n c) k =
          let e : n ≡ m = quasi_period_unique t n m (stops_period t R n c k.ends) h in
          (c, subst (λ (i : ℕ). ConstantAt t.field t.D (root_of t) i c) e k.ends.value, ap (λ (r : ℕ). found r n c) k.ends.regulator ∙ ap (λ (i : ℕ). found (degree_at t i) i c) e)
      go (spent k e) x = absurd (x.ends.none_constant m h.positive l h.constant)
      go (refused j) x = absurd x.ends

  beyond_spent : t.b < m → words_outcome w ≡ spent t.b (degree_at t t.b)
  beyond_spent l = go (words_outcome w) (t2 w past)
    where
      go : (x : Outcome) → Walks t x → x ≡ spent t.b (degree_at t t.b)
      go (found R n c) k = absurd (h.least n k.ends.positive (let a = k.ends.within in omega arith) k.ends.constant)
      go (spent k e) x = ap (λ (i : ℕ). spent i e) x.ends.all ∙ ap (spent t.b) x.ends.reached
      go (refused j) x = absurd x.ends

  not_found : t.b < m → (R k c : ℕ) → words_outcome w ≢ found R k c
  not_found l R k c e = spent_not_found _ _ R k c (sym (beyond_spent l) ∙ e)

  words_said : FoundOrSpent t m (said (words_outcome w))
  words_said = by_cases t m _ (λ l. let f = within_found l in (f.0, f.1, ap said f.2)) (λ l. ap said (beyond_spent l))

  unit_said : (l : Lists) → UnitFits t m l → FoundOrSpent t m (unit_answer w l).says
  unit_said l fits = by_cases t m _ (λ u. let f = within_found u in (f.0, f.1, (t1_lists.0 w l).enough _ m f.0 f.2 (fits u))) (λ u. (t1_lists.0 w l).other (not_found u) ∙ ap said (beyond_spent u))

  listing_said : (l : List ℕ) → ListingFits t m l → FoundOrSpent t m (listing_answer w l).says
  listing_said l fits = by_cases t m _ (λ u. let f = within_found u in (f.0, f.1, (t1_lists.1 w l).enough _ m f.0 f.2 (fits u))) (λ u. (t1_lists.1 w l).other (not_found u) ∙ ap said (beyond_spent u))

-- the m of a found outcome is the ticket's quasi-period, and R is deg p_{m−1}
pub found_period : (w : List ℕ) (R m c : ℕ) → words_outcome w ≡ found R m c → IsQuasiPeriod (ticket_of w) m × (R ≡ degree_at (ticket_of w) m)
found_period w R m c f =
    let s = (subst (Walks (ticket_of w)) f (t2 w (found_passes w R m c f))).ends in
    (stops_period (ticket_of w) R m c s, s.regulator)

pub t2_regulator : T2Regulator
unfolding regulator_of
t2_regulator w past = let (m, h) = t2_exists w past in (m, h, words_said w past m h)

pub t2_unit : T2Unit
t2_unit w l past = let (m, h) = t2_exists w past in (m, h, unit_said w past m h l)

pub t2_listing : T2Listing
t2_listing w l past = let (m, h) = t2_exists w past in (m, h, listing_said w past m h l)

pub t2_outcome_unique : T2OutcomeUnique
unfolding root_of
t2_outcome_unique w past m h x f = said_injective x (words_outcome w) (said_unique (ticket_of w) m (λ a b u v. told u ∙ sym (told v)) _ _ f (words_said w past m h))
  where
    told : {c : ℕ} → ConstantAt (ticket_of w).field (ticket_of w).D (root_of (ticket_of w)) m c → c ≡ walk.constant_of (ops_of (ticket_of w)) (ticket_of w).D (root_of (ticket_of w)) m
    told = constant_told (admitted w past) h.positive h.constant
