-- The proofs of specs/Numbered.
use Rattle.std.specs.Prelude.{ℕ, zero, suc, ◌+◌, ◌*◌, ◌≡◌, ◌⊎◌, Bool, true, false, List, [], ◌∷◌, ◌++◌, leb, length, drop}
use Rattle.std.proofs.Common.{arith, sym, subst, inl, inr, ⊎_elim}
use Rattle.std.proofs.Math.Option.{Option, none, some}
use Rattle.spec_definitions.specs.Ticket.{Ticket, ticket_of, refusal_of, first_of, tests_of}
use Rattle.spec_definitions.specs.Walk.{quasi_period, degree_before, constant_of}
use Rattle.spec_definitions.specs.Answers.{Outcome, found, spent, refused, said, said_injective, ops_of, root_of, outcome_of, words_outcome, regulator_of}
use Rattle.spec_definitions.specs.Units.{Lists, UnitAnswer, long_enough, unit_lists, unit_from, unit_answer}
use Rattle.spec_definitions.specs.Listing.{ListingAnswer, listing_of, listing_from, listing_answer}
use Rattle.spec_laws.specs.Cases.{refused_not_found, refused_not_spent, refused_number}
use Rattle.spec_demands.specs.Numbered.{Numbered, T1Numbers}

-- ---- the proof: the outcome of the words
first_other : (k : ℕ) (t : Bool) (l : List (ℕ × Bool)) → (k ≡ 11 → ⊥) → (first_of l ≡ 11 → ⊥) → first_of ((k, t) ∷ l) ≡ 11 → ⊥
unfolding first_of
first_other k true l h rest e = h e
first_other k false l h rest e = rest e

none_other : first_of [] ≡ 11 → ⊥
unfolding first_of
none_other e = omega arith

refusal_other : (w : List ℕ) → refusal_of w ≡ 11 → ⊥
unfolding refusal_of tests_of
refusal_other w =
    first_other 1 _ _ (λ e. omega arith) (first_other 2 _ _ (λ e. omega arith) (first_other 3 _ _ (λ e. omega arith) (first_other 4 _ _ (λ e. omega arith)
    (first_other 5 _ _ (λ e. omega arith) (first_other 6 _ _ (λ e. omega arith) (first_other 7 _ _ (λ e. omega arith) none_other))))))

pub numbered : (j : ℕ) → (j ≡ 0 → ⊥) → (j ≡ 11 → ⊥) → Numbered (refused j)
numbered j z e = record { not_zero = λ h. z (refused_number h); not_eleven = λ h. e (refused_number h) }

pub numbered_found : (R m c : ℕ) → Numbered (found R m c)
numbered_found R m c = record { not_zero = λ h. refused_not_found 0 R m c (sym h); not_eleven = λ h. refused_not_found 11 R m c (sym h) }

pub numbered_spent : (k e : ℕ) → Numbered (spent k e)
numbered_spent k e = record { not_zero = λ h. refused_not_spent 0 k e (sym h); not_eleven = λ h. refused_not_spent 11 k e (sym h) }

numbered_ticket : (t : Ticket) → Numbered (outcome_of t)
unfolding outcome_of
numbered_ticket t = go (quasi_period (ops_of t) t.D (root_of t) t.b)
  where
    go : (x : Option ℕ) → Numbered (elim x [ none ↦ spent t.b (degree_before (ops_of t) t.D (root_of t) t.b) | some m ↦ found (degree_before (ops_of t) t.D (root_of t) m) m (constant_of (ops_of t) t.D (root_of t) m) ])
    go none = numbered_spent _ _
    go (some m) = numbered_found _ _ _

numbered_words : (w : List ℕ) → Numbered (words_outcome w)
unfolding words_outcome
numbered_words w = go (refusal_of w) (refusal_other w)
  where
    go : (r : ℕ) → (r ≡ 11 → ⊥) → Numbered (elim r [ zero ↦ outcome_of (ticket_of w) | suc k ↦ refused (suc k) ])
    go zero h = numbered_ticket (ticket_of w)
    go (suc k) h = numbered (suc k) (λ e. omega arith) h

-- ---- what a call says is the outcome of the words or a refusal of its own
pub unit_says : (t : Ticket) (l : Lists) (x y : Outcome) → (unit_from t y l).says ≡ said x → (y ≡ x) ⊎ (x ≡ refused 12)
unfolding unit_from
unit_says t l x (found R m c) e = go (long_enough (suc R) l) e
  where
    go : (b : Bool) → (elim b as (λ _. UnitAnswer) [ true ↦ record { says = said (found R m c); lists = unit_lists t R m l } | false ↦ record { says = said (refused 12); lists = l } ]).says ≡ said x → (found R m c ≡ x) ⊎ (x ≡ refused 12)
    go true k = inl (said_injective (found R m c) x k)
    go false k = inr (sym (said_injective (refused 12) x k))
unit_says t l x (spent k d) e = inl (said_injective (spent k d) x e)
unit_says t l x (refused j) e = inl (said_injective (refused j) x e)

pub listing_says : (t : Ticket) (l : List ℕ) (x y : Outcome) → (listing_from t y l).says ≡ said x → (y ≡ x) ⊎ (x ≡ refused 13)
unfolding listing_from
listing_says t l x (found R m c) e = go (leb (m * (t.n + 4)) (length l)) e
  where
    go : (b : Bool) → (elim b as (λ _. ListingAnswer) [ true ↦ record { says = said (found R m c); list = listing_of t R m ++ drop (m * (t.n + 4)) l } | false ↦ record { says = said (refused 13); list = l } ]).says ≡ said x → (found R m c ≡ x) ⊎ (x ≡ refused 13)
    go true k = inl (said_injective (found R m c) x k)
    go false k = inr (sym (said_injective (refused 13) x k))
listing_says t l x (spent k d) e = inl (said_injective (spent k d) x e)
listing_says t l x (refused j) e = inl (said_injective (refused j) x e)

-- ---- the three calls
numbered_or : (w : List ℕ) (j : ℕ) (x : Outcome) → Numbered (refused j) → (words_outcome w ≡ x) ⊎ (x ≡ refused j) → Numbered x
numbered_or w j x h c = ⊎_elim (λ e. subst Numbered e (numbered_words w)) (λ e. subst Numbered (sym e) h) c

numbered_regulator : (w : List ℕ) (x : Outcome) → regulator_of w ≡ said x → Numbered x
unfolding regulator_of
numbered_regulator w x e = subst Numbered (said_injective (words_outcome w) x e) (numbered_words w)

numbered_unit : (w : List ℕ) (l : Lists) (x : Outcome) → (unit_answer w l).says ≡ said x → Numbered x
unfolding unit_answer
numbered_unit w l x e = numbered_or w 12 x (numbered 12 (λ z. omega arith) (λ z. omega arith)) (unit_says (ticket_of w) l x (words_outcome w) e)

numbered_listing : (w l : List ℕ) (x : Outcome) → (listing_answer w l).says ≡ said x → Numbered x
unfolding listing_answer
numbered_listing w l x e = numbered_or w 13 x (numbered 13 (λ z. omega arith) (λ z. omega arith)) (listing_says (ticket_of w) l x (words_outcome w) e)

pub t1_numbers : T1Numbers
t1_numbers = (numbered_regulator, numbered_unit, numbered_listing)
