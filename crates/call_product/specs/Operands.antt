-- A ticket and two pairs: the number of what refuses them first, and what is read of them where nothing does.
use Rattle.std.specs.Prelude.{ℕ, zero, suc, ◌<◌, ◌≡◌, refl, Bool, true, false, List, Result, Ok, Err, IfOk, ⊤}
use Rattle.std.proofs.Common.{arith, sym, ap, ap₂, ◌∙◌}
use Rattle.std.specs.Result.{IsErrAnd}
use Rattle.spec_definitions.specs.Ticket.{Ticket, ticket_of, refusal_of}
use Rattle.spec_definitions.specs.Walk.{Ideal as Pair}
use Rattle.spec_definitions.specs.Products.{wrong_pair}
use Rattle.base_refusals.specs.declared.Refusal.{Refusal}
use Rattle.base_refusals.specs.Number.{number_of, refused_by, number_some}
use Rattle.base_surd.specs.declared.Surd.{Surd}
use Rattle.base_surd.specs.Surd.{ticket_with}
use Rattle.base_ideal.specs.declared.Ideal.{Ideal}
use Rattle.ideal_operand.specs.Ideal.{Operand}
use Rattle.ideal_pair.specs.Pair.{pair_refusal, Paired, paired_operand}
use Rattle.ideal_pair.specs.Words.{first_wrong, second_wrong, pairs_right}
use Rattle.call_product.specs.declared.operands.Operands.{Operands}

abbrev refusal_by : ℕ → Bool → ℕ
refusal_by n wrong = elim n [ zero ↦ elim wrong [ true ↦ 9 | false ↦ 0 ] | suc k ↦ suc k ]

-- the number of the first of the refusals 1 to 9 that applies, else 0
unfoldable pub operands_refusal : List ℕ → Pair ℕ → Pair ℕ → ℕ
operands_refusal w x y = refusal_by (refusal_of w) (wrong_pair (ticket_of w) x y)

-- 9 where one of two pairs is wrong, else 0
abbrev pub pairs_refusal : Ticket → Pair ℕ → Pair ℕ → ℕ
pairs_refusal t x y = refusal_by 0 (wrong_pair t x y)

abbrev pub operands_of : Surd → Ideal → Ideal → Operands
operands_of s x y = record { surd = s; x = x; y = y }

-- what was read of a ticket's words and of two pairs, none of which is refused
pub record AreRead (w : List ℕ) (x y : Pair ℕ) (o : Operands) : Type 0 where
  pub budget : ℕ
  pub passes : refusal_of w ≡ 0
  pub is : ticket_of w ≡ ticket_with o.surd budget
  pub first : Paired o.surd x.q x.p o.x
  pub second : Paired o.surd y.q y.p o.y

-- ---- by the test of the pairs alone
module _ (t : Ticket) (x y : Pair ℕ) where
  wrong_refused : {k : ℕ} → (wrong_pair t x y ≡ true) × (k ≡ 9) → k ≡ pairs_refusal t x y
  wrong_refused h = h.1 ∙ ap (refusal_by 0) (sym h.0)

  right_passes : wrong_pair t x y ≡ false → 0 ≡ pairs_refusal t x y
  right_passes h = ap (refusal_by 0) (sym h)

-- ---- by the ticket's number and the test of the pairs
module _ (w : List ℕ) (x y : Pair ℕ) where
  -- in a refusal either the ticket's number is the refusal's, or the ticket is right and a pair is wrong
  pub answer_refused : (A : Type 0) (refused : ℕ → A) (done : A) → 0 < operands_refusal w x y
      → elim (refusal_of w) as (λ _. A) [ zero ↦ elim (wrong_pair (ticket_of w) x y) as (λ _. A) [ true ↦ refused 9 | false ↦ done ] | suc k ↦ refused (suc k) ] ≡ refused (operands_refusal w x y)
  unfolding operands_refusal
  answer_refused A refused done h = go (refusal_of w) (wrong_pair (ticket_of w) x y) h
    where
      go : (n : ℕ) (t : Bool) → 0 < refusal_by n t
          → elim n as (λ _. A) [ zero ↦ elim t as (λ _. A) [ true ↦ refused 9 | false ↦ done ] | suc k ↦ refused (suc k) ] ≡ refused (refusal_by n t)
      go zero true h = refl
      go zero false h = absurd (omega arith)
      go (suc k) t h = refl

  pub ticket_wrong : {k : ℕ} → 0 < k → k ≡ refusal_of w → k ≡ operands_refusal w x y
  unfolding operands_refusal
  ticket_wrong some e = go (refusal_of w) some e
    where
      go : {k : ℕ} (n : ℕ) → 0 < k → k ≡ n → k ≡ refusal_by n (wrong_pair (ticket_of w) x y)
      go zero h z = absurd (omega arith)
      go (suc n) h z = z

  module _ {t : Ticket} (passes : 0 ≡ refusal_of w) (is : ticket_of w ≡ t) where
    -- past a ticket that is right, what the test of the pairs says
    by_pairs : operands_refusal w x y ≡ pairs_refusal t x y
    unfolding operands_refusal
    by_pairs = ap₂ (λ (n : ℕ) (t : Ticket). refusal_by n (wrong_pair t x y)) (sym passes) is

    pub pair_wrong : {k : ℕ} → (wrong_pair t x y ≡ true) × (k ≡ 9) → k ≡ operands_refusal w x y
    pair_wrong h = wrong_refused t x y h ∙ sym by_pairs

    pub pair_right : wrong_pair t x y ≡ false → 0 ≡ operands_refusal w x y
    pair_right h = right_passes t x y h ∙ sym by_pairs

-- a refusal that is passed on
pub passed_on : {A : Type 0} (r : Result A Refusal) (e : Refusal) {k : ℕ} → IsErrAnd r (λ i. i ≡ e) → number_of e ≡ k → refused_by r ≡ k
passed_on (Ok o) e h s = absurd h
passed_on (Err i) e h s = ap number_of h ∙ s

-- ---- what the tests of two pairs find, one after the other
module _ (s : Surd) (x y : Pair ℕ) (b : ℕ) where
  pub first_decides : (r : Refusal) → number_of r ≡ pair_refusal (ticket_with s b) x → number_of r ≡ pairs_refusal (ticket_with s b) x y
  first_decides r e = wrong_refused (ticket_with s b) x y (first_wrong (ticket_with s b) x y (number_some r) e)

  module _ {z : Ideal} (first : Paired s x.q x.p z) (z' : Ideal) where
    -- the test of the second pair decides
    pub second_decides : (r : Result ⊤ Refusal) → refused_by r ≡ pair_refusal (ticket_with s b) y → IfOk r (λ _. Paired s y.q y.p z') → refused_by r ≡ pairs_refusal (ticket_with s b) x y
    second_decides (Ok i) e second = right_passes (ticket_with s b) x y (pairs_right first second b)
    second_decides (Err r) e second = wrong_refused (ticket_with s b) x y (second_wrong (ticket_with s b) x y (number_some r) (first.passes b) e)

-- ---- what those of a ticket and of two pairs find
module _ (w : List ℕ) (x y : Pair ℕ) where
  pub ticket_refused : (r : Refusal) → number_of r ≡ refusal_of w → number_of r ≡ operands_refusal w x y
  ticket_refused r = ticket_wrong w x y (number_some r)

  module _ (s : Surd) {b : ℕ} (passes : 0 ≡ refusal_of w) (is : ticket_of w ≡ ticket_with s b) where
    pub pairs_refused : (r : Refusal) → ((k : ℕ) → number_of r ≡ pairs_refusal (ticket_with s k) x y) → number_of r ≡ operands_refusal w x y
    pairs_refused r e = e b ∙ sym (by_pairs w x y passes is)

    pub first_refused : (r : Refusal) → ((k : ℕ) → number_of r ≡ pair_refusal (ticket_with s k) x) → number_of r ≡ operands_refusal w x y
    first_refused r e = pair_wrong w x y passes is (first_wrong (ticket_with s b) x y (number_some r) (e b))

    module _ {z : Ideal} (first : Paired s x.q x.p z) where
      pub second_refused : (r : Refusal) → ((k : ℕ) → number_of r ≡ pair_refusal (ticket_with s k) y) → number_of r ≡ operands_refusal w x y
      second_refused r e = pair_wrong w x y passes is (second_wrong (ticket_with s b) x y (number_some r) (first.passes b) (e b))

      pub none_refused : {z' : Ideal} → Paired s y.q y.p z' → 0 ≡ operands_refusal w x y
      none_refused second = pair_right w x y passes is (pairs_right first second b)

    module _ {u v : Ideal} (h : Paired s x.q x.p u × Paired s y.q y.p v) where
      pub are_read : AreRead w x y (operands_of s u v)
      are_read = record { budget = b; passes = sym passes; is = is; first = h.0; second = h.1 }

-- what is read are operands of the product
pub are_operands : {w : List ℕ} {x y : Pair ℕ} {o : Operands} → AreRead w x y o → Operand o.surd o.x × Operand o.surd o.y
are_operands t = (paired_operand t.first, paired_operand t.second)
