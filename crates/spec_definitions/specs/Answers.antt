-- An answer's outcome and the paper's number and values for each of its cases; the answer for a ticket past
-- refusals 1 to 7.
use Rattle.std.specs.Prelude.{ℕ, zero, suc, ◌≡◌, List, [], ◌∷◌}
use Rattle.std.proofs.Common.{ap}
use Rattle.std.proofs.Math.Option.{none, some}
use Rattle.spec_arithmetic.specs.Field.{Ops, ops}
use Rattle.spec_arithmetic.specs.Polynomials.{root}
use Rattle.spec_definitions.specs.Ticket.{Ticket, genus, ticket_of, refusal_of}
use Rattle.spec_definitions.specs.Walk.{quasi_period, degree_before, constant_of}

-- "one of three outcomes: found with R, m, c; spent with its counts; refused with its number"
-- spent says that the step budget is used up before the quasi-period
pub data Outcome : Type 0 where
  found : ℕ → ℕ → ℕ → Outcome
  spent : ℕ → ℕ → Outcome
  refused : ℕ → Outcome

-- "a definition gives this paper's number and values for each of its cases": 0 for found, 11 for spent
pub record Said : Type 0 where
  pub number : ℕ
  pub values : List ℕ

unfoldable pub said : Outcome → Said
said (found R m c) = record { number = 0; values = R ∷ m ∷ c ∷ [] }
said (spent k e) = record { number = 11; values = k ∷ e ∷ [] }
said (refused j) = record { number = j; values = [] }

-- `said` is one to one: an equation of what is said fixes the case and every number in it
pub said_injective : (x y : Outcome) → said x ≡ said y → x ≡ y
unfolding said
said_injective (found R m c) (found R' m' c') h = let v : ◌≡◌ {A = List ℕ} (R ∷ m ∷ c ∷ []) (R' ∷ m' ∷ c' ∷ []) = ap (λ (s : Said). s.values) h in cc
said_injective (found R m c) (spent k e) h = let v : ◌≡◌ {A = List ℕ} (R ∷ m ∷ c ∷ []) (k ∷ e ∷ []) = ap (λ (s : Said). s.values) h in cc
said_injective (found R m c) (refused j) h = let v : ◌≡◌ {A = List ℕ} (R ∷ m ∷ c ∷ []) [] = ap (λ (s : Said). s.values) h in cc
said_injective (spent k e) (found R m c) h = let v : ◌≡◌ {A = List ℕ} (k ∷ e ∷ []) (R ∷ m ∷ c ∷ []) = ap (λ (s : Said). s.values) h in cc
said_injective (spent k e) (spent k' e') h = let v : ◌≡◌ {A = List ℕ} (k ∷ e ∷ []) (k' ∷ e' ∷ []) = ap (λ (s : Said). s.values) h in cc
said_injective (spent k e) (refused j) h = let v : ◌≡◌ {A = List ℕ} (k ∷ e ∷ []) [] = ap (λ (s : Said). s.values) h in cc
said_injective (refused j) (found R m c) h = let v : ◌≡◌ {A = List ℕ} [] (R ∷ m ∷ c ∷ []) = ap (λ (s : Said). s.values) h in cc
said_injective (refused j) (spent k e) h = let v : ◌≡◌ {A = List ℕ} [] (k ∷ e ∷ []) = ap (λ (s : Said). s.values) h in cc
said_injective (refused j) (refused j') h = ap (λ (s : Said). refused s.number) h

-- the field's operations and d of a ticket
abbrev pub ops_of : Ticket → Ops ℕ
ops_of t = ops t.field

unfoldable pub root_of : Ticket → List ℕ
root_of t = root (ops_of t) t.D (suc (genus t.n))

-- "11 (regulator, unit and listing): spent; the quasi-period m is above b. Carries the steps made, b, and the
-- degree reached.": no Q of index 1 to b is constant
unfoldable pub outcome_of : Ticket → Outcome
outcome_of t =
    elim (quasi_period (ops_of t) t.D (root_of t) t.b) [
      | none ↦ spent t.b (degree_before (ops_of t) t.D (root_of t) t.b)
      | some m ↦ found (degree_before (ops_of t) t.D (root_of t) m) m (constant_of (ops_of t) t.D (root_of t) m)
    ]

-- the refusal of the words, or the outcome of their ticket
unfoldable pub words_outcome : List ℕ → Outcome
words_outcome w = elim (refusal_of w) [ zero ↦ outcome_of (ticket_of w) | suc k ↦ refused (suc k) ]

-- the call `regulator`
unfoldable pub regulator_of : List ℕ → Said
regulator_of w = said (words_outcome w)
