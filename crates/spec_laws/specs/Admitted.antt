-- What a ticket past refusals 1 to 7 gives: a field f, the genus g and a monic D of degree 2g + 2 with
-- admissible coefficients that is not a square, so that √D has its continued fraction over the field.
use Rattle.std.specs.Prelude.{ℕ, zero, suc, ◌+◌, ◌*◌, ◌/◌, ◌%◌, ◌≤◌, ◌<◌, ◌≡◌, refl, Bool, true, false, not, List, [], ◌∷◌, eqb, length, get_or, take, drop}
use Rattle.std.proofs.Common.{mod-lt, add-one, arith, sym, ap, ◌∙◌, true≢false, length-drop, length-take-le, eqb-true}
use Rattle.std.proofs.Math.Nat.{div-add-mod}
use Rattle.std.proofs.lemmas.List.{length-map}
use Rattle.std.proofs.lemmas.Bool.{not-false, or_parts}
use Rattle.math_algebra.specs.Polynomial.{Monic}
use Rattle.math_surd.specs.Root.{NoSquare}
use Rattle.spec_arithmetic.specs.Field.{FieldName, ops, fits}
use Rattle.spec_arithmetic.specs.Polynomials.{trim, root}
use Rattle.spec_arithmetic.specs.Primes.{odd_prime}
use Rattle.spec_arithmetic.specs.Words.{value, some_not}
use Rattle.spec_definitions.specs.Ticket.{Ticket, genus, ticket_of, wrong_head, wrong_prime, wrong_degree, wrong_layout, wrong_coefficient, wrong_lead, not_squarefree, first_of, tests_of, refusal_of, budgets}
use Rattle.spec_bridge.specs.Model.{series}
use Rattle.spec_bridge.specs.Trim.{below_length, length_trim}
use Rattle.spec_bridge.specs.Prime.{Prime, OddPrime, odd_prime_true, odd_prime_more}
use Rattle.spec_bridge.specs.Root.{root_is, trim_root, oks_root}
use Rattle.spec_fields.specs.Named.{IsField, Ok, arithmetic, fits_ok, ok_zero, φ_first}
use Rattle.spec_laws.specs.Surd.{Surd}
use Rattle.spec_laws.specs.NoSquare as squarefree
use Rattle.spec_laws.specs.FirstTest.{first_none}
use Rattle.spec_laws.specs.Degrees.{Allowed, allowed}

abbrev pub field_from : {f : FieldName} → Prime f.q → 2 < f.q → f.q < 4096 → IsField f
field_from p l u = record { prime = p; odd = l; small = u }

pub record Admitted (f : FieldName) (g : ℕ) (D : List ℕ) : Type 0 where
  pub prime : Prime f.q
  pub odd : 2 < f.q
  pub small : f.q < 4096
  pub genus_most : g ≤ 31
  pub size_D : length D ≡ suc (suc g + suc g)
  pub below : (i : ℕ) → Ok f (get_or D i 0)
  pub lead_one : get_or D (suc g + suc g) 0 ≡ 1
  pub no_square : NoSquare (arithmetic f (field_from prime odd small)).K (series (arithmetic f (field_from prime odd small)).M D)

-- f is a field
abbrev pub is_field : {f : FieldName} {g : ℕ} {D : List ℕ} → Admitted f g D → IsField f
is_field h = field_from h.prime h.odd h.small

pub monic_D : (f : FieldName) (h : IsField f) (g : ℕ) (D : List ℕ) → length D ≡ suc (suc g + suc g) → get_or D (suc g + suc g) 0 ≡ 1 → Monic (arithmetic f h).K (series (arithmetic f h).M D) (suc g + suc g)
monic_D f h g D l e = record { low = λ i k. below_length (arithmetic f h).M D i (omega arith); top = ap (arithmetic f h).M.φ e ∙ φ_first f h }

pub D_most : {f : FieldName} {g : ℕ} {D : List ℕ} → Admitted f g D → length (trim (ops f) D) ≤ suc (suc g + suc g)
D_most {f} {g} {D} h = let e = length_trim (arithmetic f (is_field h)).M D in let w = h.size_D in omega arith

-- √D with its root: what the laws of the walk ask for
abbrev pub surd_of : {f : FieldName} {g : ℕ} {D : List ℕ} (h : Admitted f g D) → Surd (arithmetic f (is_field h)).K (arithmetic f (is_field h)).M g D (root (ops f) D (suc g))
surd_of {f} {g} {D} h = record {
  inverts = (arithmetic f (is_field h)).I;
  is_root = root_is (arithmetic f (is_field h)).K (arithmetic f (is_field h)).M (arithmetic f (is_field h)).I D (suc g) (monic_D f (is_field h) g D h.size_D h.lead_one);
  trimmed = trim_root (arithmetic f (is_field h)).K (arithmetic f (is_field h)).M (arithmetic f (is_field h)).I D (suc g);
  reduced = oks_root (arithmetic f (is_field h)).K (arithmetic f (is_field h)).M (arithmetic f (is_field h)).I D (suc g);
  no_square = h.no_square;
}

-- ---- none of the tests applies
pub record Passed (w : List ℕ) (t : Ticket) : Type 0 where
  pub head : wrong_head (1 ∷ []) w ≡ false
  pub prime : wrong_prime t.field.q ≡ false
  pub degree : wrong_degree t.n ≡ false
  pub layout : wrong_layout t.n w ≡ false
  pub coefficient : wrong_coefficient t.field t.D ≡ false
  pub lead : wrong_lead t.n t.D ≡ false
  pub squarefree : not_squarefree t.field t.D ≡ false

pub passed : (w : List ℕ) → refusal_of w ≡ 0 → Passed w (ticket_of w)
unfolding refusal_of tests_of
passed w e = go (ticket_of w) e
  where
    go : (t : Ticket) → first_of (tests_of t w) ≡ 0 → Passed w t
    go t e =
        let a = first_none 0 _ _ e in
        let b = first_none 1 _ _ a.1 in
        let c = first_none 2 _ _ b.1 in
        let d = first_none 3 _ _ c.1 in
        let f = first_none 4 _ _ d.1 in
        let g = first_none 5 _ _ f.1 in
        let h = first_none 6 _ _ g.1 in
        record { head = a.0; prime = b.0; degree = c.0; layout = d.0; coefficient = f.0; lead = g.0; squarefree = h.0 }

-- ---- what each says
pub prime_of : (q : ℕ) → wrong_prime q ≡ false → OddPrime q
unfolding wrong_prime
prime_of q e = odd_prime_true q (not-false (odd_prime q) e)

-- n = 2g + 2
pub allowed_degree : (n : ℕ) → wrong_degree n ≡ false → (suc (genus n) + suc (genus n) ≡ n) × (genus n ≤ 31)
unfolding genus
allowed_degree n e =
    let a : Allowed n = allowed n e in
    let whole : 2 * (n / 2) + n % 2 ≡ n = div-add-mod n 2 in
    (omega arith, omega arith)

pub below_of : (f : FieldName) → Ok f 0 → (D : List ℕ) → some_not (fits f) D ≡ false → (i : ℕ) → Ok f (get_or D i 0)
unfolding some_not
below_of f z [] e i = z
below_of f z (x ∷ l) e i = go (fits f x) refl e i (below_of f z l)
  where
    go : (t : Bool) → fits f x ≡ t → (elim t [ true ↦ some_not (fits f) l | false ↦ true ]) ≡ false → (i : ℕ) → (some_not (fits f) l ≡ false → (i : ℕ) → Ok f (get_or l i 0)) → Ok f (get_or (x ∷ l) i 0)
    go false h k i rest = absurd (true≢false k)
    go true h k zero rest = fits_ok f x h
    go true h k (suc i) rest = rest k i

pub layout_length : (n : ℕ) (w : List ℕ) → wrong_layout n w ≡ false → length w ≡ n + 5
unfolding wrong_layout
layout_length n w e = eqb-true (length w) (n + 5) (not-false (eqb (length w) (n + 5)) (or_parts (not (eqb (length w) (n + 5))) _ (or_parts _ (not (eqb (value (get_or w (n + 4) 0)) (n + 4))) e).0).0)

-- n + 5 words hold n + 1 coefficients
pub length_of : (w : List ℕ) → wrong_layout (ticket_of w).n w ≡ false → length (ticket_of w).D ≡ suc (ticket_of w).n
unfolding ticket_of
length_of w e = length-map (take (n + 1) (drop 2 w)) value ∙ length-take-le (n + 1) (drop 2 w) (omega (arith, length-drop 2 w, layout_length n w e)) ∙ add-one n
  where
    n : ℕ
    n = value (get_or w 1 0)

pub lead_of : (n : ℕ) (D : List ℕ) → wrong_lead n D ≡ false → get_or D n 0 ≡ 1
unfolding wrong_lead
lead_of n D e = eqb-true (get_or D n 0) 1 (not-false (eqb (get_or D n 0) 1) e)

-- the field of a q that passes
pub field_of : (f : FieldName) → wrong_prime f.q ≡ false → IsField f
field_of f e = let r = prime_of f.q e in record { prime = r.prime; odd = odd_prime_more f.q r; small = r.small }

-- ---- together
from_tests : (w : List ℕ) (t : Ticket) → IsField t.field → Passed w t → length t.D ≡ suc t.n → Admitted t.field (genus t.n) t.D
unfolding wrong_coefficient not_squarefree
from_tests w t k h len = record {
  prime = k.prime;
  odd = k.odd;
  small = k.small;
  genus_most = n_is.1;
  size_D = size_D;
  below = below_of t.field (ok_zero t.field k) t.D h.coefficient;
  lead_one = lead_one;
  no_square = squarefree.no_square (arithmetic t.field k).K (arithmetic t.field k).M (arithmetic t.field k).I t.D (genus t.n) (monic_D t.field k (genus t.n) t.D size_D lead_one) (eqb-true _ 1 (not-false _ h.squarefree));
}
  where
    n_is : (suc (genus t.n) + suc (genus t.n) ≡ t.n) × (genus t.n ≤ 31)
    n_is = allowed_degree t.n h.degree

    size_D : length t.D ≡ suc (suc (genus t.n) + suc (genus t.n))
    size_D = len ∙ ap suc (sym n_is.0)

    lead_one : get_or t.D (suc (genus t.n) + suc (genus t.n)) 0 ≡ 1
    lead_one = ap (λ (n : ℕ). get_or t.D n 0) n_is.0 ∙ lead_of t.n t.D h.lead

pub admitted : (w : List ℕ) → refusal_of w ≡ 0 → Admitted (ticket_of w).field (genus (ticket_of w).n) (ticket_of w).D
admitted w e = from_tests w (ticket_of w) (field_of (ticket_of w).field (passed w e).prime) (passed w e) (length_of w (passed w e).layout)

-- the budget of any ticket
pub budget_less : (w : List ℕ) → (ticket_of w).b < budgets
unfolding ticket_of value
budget_less w = mod-lt (get_or w (value (get_or w 1 0) + 3) 0) (omega arith)
