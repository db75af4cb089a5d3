-- What so many steps of a walk reach, and of the walk of a ticket's words: the degree, and the product of 2/lc Q_j.
use Rattle.std.specs.Prelude.{ℕ, zero, suc, ◌≤◌, ◌<◌, ◌≡◌, refl, Bool, true, false, List, ltb}
use Rattle.std.proofs.Common.{arith, sym, ap, ◌∙◌, lt-ltb, le-ltb, ⊎_elim}
use Rattle.math_ring.specs.Order.{le_or_lt}
use Rattle.spec_arithmetic.specs.Field.{ops as ops_of}
use Rattle.spec_definitions.specs.Ticket.{Ticket, ticket_of, refusal_of, budgets}
use Rattle.spec_definitions.specs.Walk.{degree_before}
use Rattle.spec_definitions.specs.Answers.{root_of}
use Rattle.spec_laws.specs.Leads.{leads_to}
use Rattle.base_surd.specs.declared.Surd.{Surd}
use Rattle.base_surd.specs.Surd.{name, ops, g, D, ticket_with}
use Rattle.walk_state.specs.State.{root_d}

-- the degree of p_{steps − 1}
abbrev pub degree_at : Surd → ℕ → ℕ
degree_at s steps = degree_before (ops s) (D s) (root_d (name s) (g s) (D s)) steps

-- the product for all j below `steps`
abbrev pub product_at : Surd → ℕ → ℕ
product_at s steps = leads_to (ops s) (D s) (root_d (name s) (g s) (D s)) steps

-- the value for the ticket that the words say, 0 where they are refused or too many steps are asked for
unfoldable pub value_after : (Ticket → ℕ) → List ℕ → ℕ → ℕ
value_after value w steps = elim (ltb steps budgets) [ true ↦ elim (refusal_of w) [ zero ↦ value (ticket_of w) | suc k ↦ 0 ] | false ↦ 0 ]

abbrev pub degree_after : List ℕ → ℕ → ℕ
degree_after w steps = value_after (λ (t : Ticket). degree_before (ops_of t.field) t.D (root_of t) steps) w steps

abbrev pub product_after : List ℕ → ℕ → ℕ
product_after w steps = value_after (λ (t : Ticket). leads_to (ops_of t.field) t.D (root_of t) steps) w steps

-- the words say √D, and the steps are few
pub record Asked (w : List ℕ) (steps : ℕ) (s : Surd) : Type 0 where
  pub few : steps < budgets
  pub passes : refusal_of w ≡ 0
  pub budget : ℕ
  pub ticket_is : ticket_of w ≡ ticket_with s budget

-- the words are refused, or the steps are not few
abbrev pub NotAsked : List ℕ → ℕ → Type 0
NotAsked w steps = steps < budgets → 0 < refusal_of w

module _ (value : Ticket → ℕ) (w : List ℕ) (steps : ℕ) where
  abbrev after : ℕ → ℕ
  after r = elim r [ zero ↦ value (ticket_of w) | suc k ↦ 0 ]

  abbrev of_few : Bool → ℕ
  of_few b = elim b [ true ↦ after (refusal_of w) | false ↦ 0 ]

  is_after : steps < budgets → value_after value w steps ≡ after (refusal_of w)
  unfolding value_after
  is_after h = ap of_few (lt-ltb steps budgets h)

  many : budgets ≤ steps → value_after value w steps ≡ 0
  unfolding value_after
  many h = ap of_few (le-ltb steps budgets h)

  -- no value
  not_asked : NotAsked w steps → 0 ≡ value_after value w steps
  not_asked n = ⊎_elim (λ h. sym (many h)) (λ h. sym (is_after h ∙ go (refusal_of w) (n h))) (le_or_lt budgets steps)
    where
      go : (r : ℕ) → 0 < r → after r ≡ 0
      go zero z = absurd (omega arith)
      go (suc j) z = refl

  -- that of the ticket
  asked : {s : Surd} (a : Asked w steps s) → value_after value w steps ≡ value (ticket_with s a.budget)
  asked a = is_after a.few ∙ ap after a.passes ∙ ap value a.ticket_is

module _ (w : List ℕ) (steps : ℕ) where
  pub not_asked_degree : NotAsked w steps → 0 ≡ degree_after w steps
  not_asked_degree = not_asked _ w steps

  pub not_asked_product : NotAsked w steps → 0 ≡ product_after w steps
  not_asked_product = not_asked _ w steps

module _ {w : List ℕ} {steps : ℕ} {s : Surd} (a : Asked w steps s) where
  pub asked_degree : degree_at s steps ≡ degree_after w steps
  unfolding root_of
  asked_degree = sym (asked _ w steps a)

  pub asked_product : product_at s steps ≡ product_after w steps
  unfolding root_of
  asked_product = sym (asked _ w steps a)
