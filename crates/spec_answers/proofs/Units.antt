-- The proofs of specs/Units.
use Rattle.std.specs.Prelude.{ℕ, suc, ◌≤◌, ◌<◌, ◌≡◌, refl, Bool, true, false, drop}
use Rattle.std.proofs.Common.{arith, sym, ◌∙◌, subst}
use Rattle.std.proofs.Math.Path.{ap}
use mathlib.Core.List.{List, []}
use Rattle.std.proofs.Math.ListN.{get_or, get_or-append}
use Rattle.spec_arithmetic.specs.Field.{FieldName, ops}
use Rattle.spec_arithmetic.specs.Polynomials.{size, deg, pad, scale}
use Rattle.spec_definitions.specs.Ticket.{Ticket, genus, ticket_of}
use Rattle.spec_definitions.specs.Walk.{unit_of, p_before, s_before, degree_before}
use Rattle.spec_definitions.specs.Answers.{Outcome, found, refused, said, said_injective, ops_of, root_of, words_outcome}
use Rattle.spec_definitions.specs.Units.{Lists, UnitAnswer, long_enough, written, unit_lists, unit_from, unit_answer}
use Rattle.spec_lists.specs.Pad.{length_pad, pad_at}
use Rattle.spec_bridge.specs.Trim.{size_is, length_trim}
use Rattle.spec_bridge.specs.Arithmetic.{at_scale, oks_scale}
use Rattle.spec_fields.specs.Named.{IsField, Ok, arithmetic}
use Rattle.spec_laws.specs.Admitted.{Admitted, is_field, admitted}
use Rattle.spec_laws.specs.Cases.{refused_not_found}
use Rattle.spec_refusals.specs.LentLists.{KeepsFrom}
use Rattle.spec_refusals.proofs.LentLists.{t1_lists, found_passes}
use Rattle.spec_demands.specs.Continued.{StopsAt, Walks}
use Rattle.spec_demands.proofs.Continued.{t2}
use Rattle.spec_demands.specs.MonicUnits.{MonicIn}
use Rattle.spec_demands.proofs.MonicUnits.{t3_monic}
use Rattle.spec_demands.proofs.Written.{s_fits}
use Rattle.spec_answers.proofs.Refusals.{unit_found}
use Rattle.spec_answers.specs.Units.{HoldsOver, T2UnitLists}

-- ---- the proof
written_at : (t : Ticket) (k : ℕ) (f old : List ℕ) (i : ℕ) → i < k → get_or (written t k f old) i 0 ≡ get_or f i 0
unfolding written
written_at t k f old i h = get_or-append (pad (ops_of t) k f) (drop k old) 0 i (let e = length_pad (ops_of t) k f in omega arith) ∙ pad_at (ops_of t) k f i h

-- what is written where the answer is found
lists_written : (t : Ticket) (x : Outcome) (l : Lists) (R m c : ℕ) → x ≡ found R m c → (unit_from t x l).says ≡ said (found R m c) → (unit_from t x l).lists ≡ unit_lists t R m l
unfolding unit_from
lists_written t x l R m c f e = ap (λ (y : Outcome). (unit_from t y l).lists) f ∙ go (long_enough (suc R) l) (ap (λ (y : Outcome). (unit_from t y l).says) (sym f) ∙ e)
  where
    by : Bool → UnitAnswer
    by b = elim b as (λ _. UnitAnswer) [ true ↦ record { says = said (found R m c); lists = unit_lists t R m l } | false ↦ record { says = said (refused 12); lists = l } ]

    go : (b : Bool) → (by b).says ≡ said (found R m c) → (by b).lists ≡ unit_lists t R m l
    go true k = refl
    go false k = absurd (refused_not_found 12 R m c (said_injective _ _ k))

s_most : (t : Ticket) → Admitted t.field (genus t.n) t.D → (R m : ℕ) → R ≡ deg (ops_of t) (p_before (ops_of t) t.D (root_of t) m) → size (ops_of t) (s_before (ops_of t) t.D (root_of t) m) ≤ suc R
unfolding root_of degree_before
s_most t h R m is =
    let a = s_fits h m in
    let b = length_trim (arithmetic t.field (is_field h)).M (s_before (ops_of t) t.D (root_of t) m) in
    let c = size_is (arithmetic t.field (is_field h)).M (s_before (ops_of t) t.D (root_of t) m) in
    omega arith

module _ (t : Ticket) (R m : ℕ) (old new : Lists) (at_exit : new ≡ unit_lists t R m old) where
  first_at : (i : ℕ) → i ≤ R → get_or new.first i 0 ≡ get_or (unit_of (ops_of t) t.D (root_of t) m).p i 0
  unfolding unit_lists
  first_at i k = ap (λ (x : Lists). get_or x.first i 0) at_exit ∙ written_at t (suc R) (unit_of (ops_of t) t.D (root_of t) m).p old.first i (omega arith)

  second_at : (i : ℕ) → i ≤ R → get_or new.second i 0 ≡ get_or (unit_of (ops_of t) t.D (root_of t) m).s i 0
  unfolding unit_lists
  second_at i k = ap (λ (x : Lists). get_or x.second i 0) at_exit ∙ written_at t (suc R) (unit_of (ops_of t) t.D (root_of t) m).s old.second i (omega arith)

  third_at : (i : ℕ) → i ≤ R → get_or new.third i 0 ≡ 0
  unfolding unit_lists
  third_at i k = ap (λ (x : Lists). get_or x.third i 0) at_exit ∙ written_at t (suc R) [] old.third i (omega arith)

  fourth_at : (i : ℕ) → i ≤ R → get_or new.fourth i 0 ≡ 0
  unfolding unit_lists
  fourth_at i k = ap (λ (x : Lists). get_or x.fourth i 0) at_exit ∙ written_at t (suc R) [] old.fourth i (omega arith)

-- a polynomial u with k·u = l, in places 0 to R
holds_over : (f : FieldName) → IsField f → {R k : ℕ} (u l : List ℕ) {old new : List ℕ} → scale (ops f) k u ≡ l → ((i : ℕ) → Ok f (get_or u i 0)) → ((i : ℕ) → i ≤ R → get_or new i 0 ≡ get_or u i 0) → KeepsFrom (suc R) old new → HoldsOver f R k l old new
holds_over f h {R} {k} u l is below at later = record {
  places = λ i p. ap ((ops f).mul k) (at i p) ∙ sym (at_scale (arithmetic f h).M k u i) ∙ ap (λ (x : List ℕ). get_or x i 0) is;
  below = λ i p. subst (Ok f) (sym (at i p)) (below i);
  later = later;
}

unit_below : (f : FieldName) → IsField f → (D d : List ℕ) (m : ℕ) → ((i : ℕ) → Ok f (get_or (unit_of (ops f) D d m).p i 0)) × ((i : ℕ) → Ok f (get_or (unit_of (ops f) D d m).s i 0))
unfolding unit_of
unit_below f h D d m = ((λ i. (arithmetic f h).ok_is _ (oks_scale (arithmetic f h).M _ _ i)), (λ i. (arithmetic f h).ok_is _ (oks_scale (arithmetic f h).M _ _ i)))

pub t2_unit_lists : T2UnitLists
unfolding unit_answer
t2_unit_lists w l R m c e =
    let f = unit_found w l R m c e in
    let z = found_passes w R m c f in
    let s : StopsAt (ticket_of w).field (ticket_of w).D (root_of (ticket_of w)) (ticket_of w).b R m c = (subst (Walks (ticket_of w)) f (t2 w z)).ends in
    let new = (unit_answer w l).lists in
    let at_exit : (unit_answer w l).lists ≡ unit_lists (ticket_of w) R m l = lists_written (ticket_of w) (words_outcome w) l R m c f e in
    let kept = (t1_lists.0 w l).later R m c e in
    let u = subst (MonicIn (ticket_of w).field (genus (ticket_of w).n) (ticket_of w).D (root_of (ticket_of w))) f (t3_monic w) in
    let b = unit_below (ticket_of w).field (is_field (admitted w z)) (ticket_of w).D (root_of (ticket_of w)) m in
    record {
      regulator = s.regulator;
      s_whole = s_most (ticket_of w) (admitted w z) R m s.regulator;
      monic = first_at (ticket_of w) R m l new at_exit R (omega arith) ∙ u.p_monic;
      p_written = holds_over (ticket_of w).field (is_field (admitted w z)) _ _ u.p_divided b.0 (first_at (ticket_of w) R m l new at_exit) kept.0;
      s_written = holds_over (ticket_of w).field (is_field (admitted w z)) _ _ u.s_divided b.1 (second_at (ticket_of w) R m l new at_exit) kept.1;
      third_zero = record { places = third_at (ticket_of w) R m l new at_exit; later = kept.2 };
      fourth_zero = record { places = fourth_at (ticket_of w) R m l new at_exit; later = kept.3 };
    }
