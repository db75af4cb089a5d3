-- The proofs of specs/Units.
use Rattle.std.specs.Prelude.{ℕ, ◌+◌, ◌-◌, ◌≤◌, ◌≡◌, List, get_or}
use Rattle.std.proofs.Common.{arith, sym, ap, ◌∙◌, ⊎_elim, get_or-drop, ext_get_or}
use Rattle.math_ring.specs.Order.{le_or_lt}
use Rattle.math_algebra.specs.Field.{Field, mul_cancel}
use Rattle.math_algebra.specs.Polynomial.{F}
use Rattle.spec_arithmetic.specs.Field.{FieldName, ops}
use Rattle.spec_definitions.specs.Ticket.{genus, ticket_of}
use Rattle.spec_definitions.specs.Answers.{root_of}
use Rattle.spec_definitions.specs.Units.{unit_answer}
use Rattle.spec_bridge.specs.Model.{Model}
use Rattle.spec_fields.specs.Named.{IsField, arithmetic}
use Rattle.spec_laws.specs.Leads.{some_lead}
use Rattle.spec_laws.specs.Admitted.{Admitted, is_field, surd_of, admitted}
use Rattle.spec_refusals.specs.LentLists.{KeepsFrom}
use Rattle.spec_refusals.proofs.LentLists.{found_passes}
use Rattle.spec_answers.proofs.Refusals.{unit_found}
use Rattle.spec_answers.specs.Units.{Holds, HoldsOver, UnitWritten}
use Rattle.spec_answers.proofs.Units.{t2_unit_lists}
use Rattle.spec_uniqueness.specs.Units.{UnitOnly}

-- ---- the proof
-- a place from k on of a list that keeps these
pub later_at : {k : ℕ} {old new : List ℕ} → KeepsFrom k old new → (i : ℕ) → k ≤ i → get_or new i 0 ≡ get_or old i 0
later_at {k} {old} {new} h i p =
    let e : k + (i - k) ≡ i = omega arith in
    ap (λ (n : ℕ). get_or new n 0) (sym e) ∙ sym (get_or-drop k new (i - k) 0) ∙ ap (λ (l : List ℕ). get_or l (i - k) 0) h.later ∙ get_or-drop k old (i - k) 0 ∙ ap (λ (n : ℕ). get_or old n 0) e

holds_unique : {R : ℕ} {f old x y : List ℕ} → Holds R f old x → Holds R f old y → x ≡ y
holds_unique {R} {x = x} {y = y} a b = ext_get_or 0 x y (a.later.long ∙ sym b.later.long) (λ i h. ⊎_elim (λ low. a.places i low ∙ sym (b.places i low)) (λ past. later_at a.later i past ∙ sym (later_at b.later i past)) (le_or_lt i R))

-- a coefficient is told by its product with k
over_unique : (f : FieldName) (h : IsField f) {R k : ℕ} {l old x y : List ℕ} → ((arithmetic f h).M.φ k ≡ (F (arithmetic f h).K).zer → ⊥) → HoldsOver f R k l old x → HoldsOver f R k l old y → x ≡ y
over_unique f h {R} {k} {x = x} {y = y} some a b = ext_get_or 0 x y (a.later.long ∙ sym b.later.long) (λ i p. ⊎_elim (λ low. same i low) (λ past. later_at a.later i past ∙ sym (later_at b.later i past)) (le_or_lt i R))
  where
    K : Field (arithmetic f h).Elements
    K = (arithmetic f h).K

    M : Model (ops f) (F K)
    M = (arithmetic f h).M

    same : (i : ℕ) → i ≤ R → get_or x i 0 ≡ get_or y i 0
    same i low = M.inj _ _ ((arithmetic f h).ok_of _ (a.below i low)) ((arithmetic f h).ok_of _ (b.below i low)) (mul_cancel K (M.φ k) (M.φ (get_or x i 0)) (M.φ (get_or y i 0)) some (sym (M.φ_mul _ _) ∙ ap M.φ (a.places i low ∙ sym (b.places i low)) ∙ M.φ_mul _ _))

pub unit_only : UnitOnly
unfolding root_of
unit_only w l R m c e new a = λ i. record { first = one i; second = two i; third = three i; fourth = four i }
  where
    b : UnitWritten (ticket_of w) R m l (unit_answer w l).lists
    b = t2_unit_lists w l R m c e

    h : Admitted (ticket_of w).field (genus (ticket_of w).n) (ticket_of w).D
    h = admitted w (found_passes w R m c (unit_found w l R m c e))

    one : new.first ≡ (unit_answer w l).lists.first
    one = over_unique (ticket_of w).field (is_field h) (some_lead (surd_of h) m) a.p_written b.p_written

    two : new.second ≡ (unit_answer w l).lists.second
    two = over_unique (ticket_of w).field (is_field h) (some_lead (surd_of h) m) a.s_written b.s_written

    three : new.third ≡ (unit_answer w l).lists.third
    three = holds_unique a.third_zero b.third_zero

    four : new.fourth ≡ (unit_answer w l).lists.fourth
    four = holds_unique a.fourth_zero b.fourth_zero
