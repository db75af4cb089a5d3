-- The demands for a ticket with several primes, of any words and any length. T1: it is refused by 14 exactly
-- where its shape is wrong, by 3 exactly where the shape is right and n is not allowed, and that is then its
-- only outcome; else there are as many outcomes as primes, in the ticket's order, and a prime is refused by 2,
-- 6 or 7 alone. T2 and T3: each outcome is that of the single job at its prime, with all that is demanded of
-- such a job. No other list of outcomes satisfies T1 and T2.
use Rattle.std.specs.Prelude.{ℕ, ◌+◌, ◌≤◌, ◌<◌, ◌≡◌, ◌↔◌, ◌≢◌, ◌⊎◌, List, [], ◌∷◌, length, get_or}
use Rattle.spec_arithmetic.specs.Field.{prime}
use Rattle.spec_definitions.specs.Ticket.{ticket_of, refusal_of}
use Rattle.spec_definitions.specs.Answers.{Outcome, refused, said, words_outcome}
use Rattle.spec_sentences.specs.Sentences.{value_at, coefficient, D, AllowedPrime, SquareDivides, DegreeNotAllowed, Applies}
use Rattle.spec_demands.specs.Continued.{Walks}
use Rattle.spec_demands.specs.LeastDegree.{Least}
use Rattle.spec_demands.specs.Numbered.{Numbered}
use Rattle.spec_expansion.specs.QuasiPeriod.{IsQuasiPeriod}
use Rattle.spec_answers.specs.Outcomes.{FoundOrSpent}
use Rattle.spec_several.specs.Several.{several_of, SeveralAnswer, several_answer}
use Rattle.spec_several.specs.Shape.{RightShape}
use Rattle.spec_several.specs.Single.{SingleJob}

-- the ticket is not refused: its shape is right, with k primes, and n is allowed
pub record Admits (w : List ℕ) (k : ℕ) : Type 0 where
  pub shape : RightShape w k
  pub degree : ¬ DegreeNotAllowed (value_at w 0)

-- the prime at place i of the ticket's primes, and its outcome
abbrev pub prime_at : List ℕ → ℕ → ℕ
prime_at w i = value_at w (value_at w 0 + 3 + i)

abbrev pub outcome_in : List Outcome → ℕ → Outcome
outcome_in l i = get_or l i (refused 0)

-- "What holds for a single job is shown for the list, whatever its length.": what holds of the outcome at each
-- prime, with any single job there; there is one
abbrev pub AtEach : List ℕ → List Outcome → (ℕ → List ℕ → Outcome → Type 0) → Type 0
AtEach w l P =
    (k : ℕ) → Admits w k → (i : ℕ) → i < k →
    (v : List ℕ) → SingleJob w (prime_at w i) v → P (prime_at w i) v (outcome_in l i)

abbrev pub JobExists : Type 0
JobExists = (w : List ℕ) (k : ℕ) → Admits w k → (i : ℕ) → i < k → (v : List ℕ) × SingleJob w (prime_at w i) v

-- ---- T1
-- "2 and 5 to 7 then belong to a prime": 2, 6 and 7 exactly where their sentence is the first to apply at q,
-- and no other number; a residue is never q or more. "A prime at which D has a square factor is refused by 7"
pub record PrimeRefused (q : ℕ) (v : List ℕ) (n : ℕ) (x : Outcome) : Type 0 where
  pub two : (x ≡ refused 2) ↔ (¬ AllowedPrime q)
  pub six : (x ≡ refused 6) ↔ (AllowedPrime q × (coefficient v n ≢ 1))
  pub seven : (x ≡ refused 7) ↔ (AllowedPrime q × (coefficient v n ≡ 1) × SquareDivides (prime q) (D v))
  pub no_other : (j : ℕ) → x ≡ refused j → (j ≡ 2) ⊎ (j ≡ 6) ⊎ (j ≡ 7)

-- "14, the ticket's shape is wrong, tested first; .. 3 to the ticket" "A refusal of the ticket is its only
-- outcome."
abbrev pub Fourteen : List ℕ → List Outcome → Type 0
Fourteen w l = (l ≡ refused 14 ∷ []) ↔ ((k : ℕ) → ¬ RightShape w k)

abbrev pub Three : List ℕ → List Outcome → Type 0
Three w l = (l ≡ refused 3 ∷ []) ↔ ((k : ℕ) × RightShape w k × DegreeNotAllowed (value_at w 0))

pub record SeveralRefused (w : List ℕ) (l : List Outcome) : Type 0 where
  pub fourteen : Fourteen w l
  pub three : Three w l
  -- "one to sixteen"
  pub some : 1 ≤ length l
  pub most : length l ≤ 16
  -- "Each prime gets its own outcome, in the ticket's order"
  pub count : (k : ℕ) → Admits w k → length l ≡ k
  pub each : AtEach w l (λ q v. PrimeRefused q v (value_at w 0))

abbrev pub T1Several : Type 0
T1Several = (w : List ℕ) → SeveralRefused w (several_of w)

-- ---- T2
-- "the one that a single regulator job with the reduced coefficients would get": past its refusals it is found
-- where the quasi-period is within the budget, and spent where it is not
abbrev pub Ends : List ℕ → Outcome → Type 0
Ends v x = refusal_of v ≡ 0 → (m : ℕ) × IsQuasiPeriod (ticket_of v) m × FoundOrSpent (ticket_of v) m (said x)

pub record SameAsSingle (v : List ℕ) (x : Outcome) : Type 0 where
  pub single : x ≡ words_outcome v
  pub walks : refusal_of v ≡ 0 → Walks (ticket_of v) x
  pub ends : Ends v x

abbrev pub T2Several : Type 0
T2Several = (w : List ℕ) → AtEach w (several_of w) (λ q. SameAsSingle)

-- ---- T3
abbrev pub T3Several : Type 0
T3Several = (w : List ℕ) → AtEach w (several_of w) (λ q. Least)

-- ---- 0 and 11 say found and spent: no outcome is refused by either of them
abbrev pub SeveralNumbered : Type 0
SeveralNumbered = (w : List ℕ) (i : ℕ) → i < length (several_of w) → Numbered (outcome_in (several_of w) i)

-- ---- no other list of outcomes is refused so and ends so
abbrev pub SeveralOnly : Type 0
SeveralOnly = (w : List ℕ) (l : List Outcome) → SeveralRefused w l → AtEach w l (λ q. Ends) → l ≡ several_of w

-- ---- the answer: how many words and outcomes there are, and what sixteen places say: the outcomes, then the
-- refusal 0
pub record Answered (w : List ℕ) (a : SeveralAnswer) : Type 0 where
  pub words : a.words ≡ length w
  pub count : a.count ≡ length (several_of w)
  pub sixteen : length a.says ≡ 16
  pub first : (i : ℕ) → i < a.count → get_or a.says i (said (refused 0)) ≡ said (outcome_in (several_of w) i)
  pub past : (i : ℕ) → a.count ≤ i → get_or a.says i (said (refused 0)) ≡ said (refused 0)

abbrev pub Places : Type 0
Places = (w : List ℕ) → Answered w (several_answer w)

-- of a job whose n is allowed
module _ (w : List ℕ) (degree : ¬ DegreeNotAllowed (value_at w 0)) (q : ℕ) (v : List ℕ) (s : SingleJob w q v) where
  abbrev P : ℕ → Type 0
  P j = Applies j v

-- ---- the outcome at a prime
module _ (w : List ℕ) {k : ℕ} (a : Admits w k) where
  module _ (i : ℕ) (h : i < k) where
    abbrev q : ℕ
    q = prime_at w i
