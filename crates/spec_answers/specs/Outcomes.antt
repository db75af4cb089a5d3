-- T2 in its own words: "Past the input refusals and with lists long enough, a ticket is found whenever the
-- quasi-period is within the budget, spent whenever it is not, and nothing else." For the calls regulator,
-- unit and listing. The quasi-period m is the ticket's own, whatever the budget: it exists for every ticket
-- past its refusals.
use Rattle.std.specs.Prelude.{ℕ, suc, ◌+◌, ◌*◌, ◌≤◌, ◌<◌, ◌≡◌, ◌≢◌, ◌↔◌, ◌⊎◌, List, length}
use Rattle.spec_arithmetic.specs.Polynomials.{deg}
use Rattle.spec_definitions.specs.Ticket.{Ticket, ticket_of, refusal_of}
use Rattle.spec_definitions.specs.Walk as walk
use Rattle.spec_definitions.specs.Answers.{Outcome, found, spent, refused, Said, said, ops_of, root_of, words_outcome, regulator_of}
use Rattle.spec_definitions.specs.Units.{Lists, unit_answer}
use Rattle.spec_definitions.specs.Listing.{listing_answer}
use Rattle.spec_refusals.specs.LentLists.{Short}
use Rattle.spec_demands.specs.Continued.{ConstantAt}
use Rattle.spec_expansion.specs.QuasiPeriod.{IsQuasiPeriod}

module _ (t : Ticket) where
  -- deg p_{i−1}
  abbrev pub degree_at : ℕ → ℕ
  degree_at i = deg (ops_of t) (walk.p_before (ops_of t) t.D (root_of t) i)

  -- "found with R, m, c": R = deg p_{m−1} and c = (−1)^m·Q_m over the square of the leading coefficient of p_{m−1}
  abbrev pub FoundAt : ℕ → Said → Type 0
  FoundAt m says = (c : ℕ) × ConstantAt t.field t.D (root_of t) m c × (says ≡ said (found (degree_at m) m c))

  -- "spent .. Carries the steps made, b, and the degree reached", which is deg p_{b−1}
  abbrev pub SpentAll : Said → Type 0
  SpentAll says = says ≡ said (spent t.b (degree_at t.b))

  -- what is said of a ticket with the quasi-period m
  pub record FoundOrSpent (m : ℕ) (says : Said) : Type 0 where
    -- "found whenever the quasi-period is within the budget, spent whenever it is not", and only then
    pub within : (m ≤ t.b) ↔ FoundAt m says
    pub beyond : (t.b < m) ↔ SpentAll says
    -- "and nothing else": one of the two is said; a found answer has these numbers and no others, and so has
    -- a spent one; no refusal is said
    pub either : FoundAt m says ⊎ SpentAll says
    pub found_only : (R k c : ℕ) → says ≡ said (found R k c) → (R ≡ degree_at m) × (k ≡ m) × ConstantAt t.field t.D (root_of t) m c
    pub spent_only : (k e : ℕ) → says ≡ said (spent k e) → (k ≡ t.b) × (e ≡ degree_at t.b)
    pub never_refused : (j : ℕ) → says ≢ said (refused j)

  -- "with lists long enough": where the ticket is found, none of the four lists has fewer than R+1 places
  abbrev pub UnitFits : ℕ → Lists → Type 0
  UnitFits m l = m ≤ t.b → ¬ Short (suc (degree_at m)) l

  -- the same of the listing: where the ticket is found, the list has m·(n+4) words or more
  abbrev pub ListingFits : ℕ → List ℕ → Type 0
  ListingFits m l = m ≤ t.b → m * (t.n + 4) ≤ length l

-- the call regulator
abbrev pub T2Regulator : Type 0
T2Regulator = (w : List ℕ) → refusal_of w ≡ 0 → (m : ℕ) × IsQuasiPeriod (ticket_of w) m × FoundOrSpent (ticket_of w) m (regulator_of w)

-- the call unit
abbrev pub T2Unit : Type 0
T2Unit = (w : List ℕ) (l : Lists) → refusal_of w ≡ 0 → (m : ℕ) × IsQuasiPeriod (ticket_of w) m × (UnitFits (ticket_of w) m l → FoundOrSpent (ticket_of w) m (unit_answer w l).says)

-- the call listing
abbrev pub T2Listing : Type 0
T2Listing = (w l : List ℕ) → refusal_of w ≡ 0 → (m : ℕ) × IsQuasiPeriod (ticket_of w) m × (ListingFits (ticket_of w) m l → FoundOrSpent (ticket_of w) m (listing_answer w l).says)

-- this leaves one outcome only, that of the words
abbrev pub T2OutcomeUnique : Type 0
T2OutcomeUnique = (w : List ℕ) → refusal_of w ≡ 0 → (m : ℕ) → IsQuasiPeriod (ticket_of w) m → (x : Outcome) → FoundOrSpent (ticket_of w) m (said x) → x ≡ words_outcome w

module _ (w : List ℕ) (past : refusal_of w ≡ 0) (m : ℕ) (h : IsQuasiPeriod (ticket_of w) m) where
  abbrev t : Ticket
  t = ticket_of w
