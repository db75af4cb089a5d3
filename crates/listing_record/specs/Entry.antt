-- One record as words, also from where the walk stands: Q and P in 129 places give the same words.
use Rattle.std.specs.Prelude.{ℕ, suc, ◌+◌, ◌-◌, ◌/◌, ◌≤◌, ◌≡◌, List, ◌∷◌, ◌++◌, map}
use Rattle.std.proofs.Common.{arith, sym, ap, ap₂, ◌∙◌}
use Rattle.spec_arithmetic.specs.Field.{Ops, FieldName, ops as ops_of}
use Rattle.spec_arithmetic.specs.Polynomials.{deg, pad, sub, rem, monic}
use Rattle.spec_arithmetic.specs.Words.{word, high, low}
use Rattle.spec_definitions.specs.Ticket.{genus}
use Rattle.spec_definitions.specs.Listing.{Entry, ideal_of, mirror_of, record_words}
use Rattle.base_polynomial.specs.declared.Poly.{Poly}
use Rattle.base_polynomial.specs.Over.{poly, Is}
use Rattle.base_polynomial.specs.Pad.{pad_pad}
use Rattle.base_ideal.specs.declared.Ideal.{Ideal}
use Rattle.walk_state.specs.declared.Walk.{Walk}
use Rattle.walk_state.specs.Walk.{name}
use Rattle.walk_stride.specs.declared.Progress.{Progress}
use Rattle.listing_words.specs.Stored.{stored}

-- the entry of an index and a distance: of Q, which is `current`, and P = d − rest
unfoldable pub entry_with : FieldName → ℕ → ℕ → List ℕ → List ℕ → Poly → Entry
entry_with f index distance d rest current = record { index = index; distance = distance; ideal = ideal_of (ops_of f) (record { q = poly current; p = sub (ops_of f) d rest }) }

-- its words, where R is the regulator
unfoldable pub record_with : FieldName → ℕ → ℕ → ℕ → ℕ → List ℕ → List ℕ → Poly → List ℕ
record_with f n R index distance d rest current = let e = entry_with f index distance d rest current in record_words (ops_of f) n (mirror_of (ops_of f) R e) e

-- the entry of the index i + 1, where the walk stands at i
unfoldable pub entry_from : Walk → Poly → List ℕ → Progress → Entry
entry_from w current rest at = entry_with (name w) (at.index.0 + 1) at.degree.0 w.root.d rest current

-- its words, where R is the regulator
unfoldable pub record_from : Walk → ℕ → Poly → List ℕ → Progress → List ℕ
record_from w R current rest at = record_with (name w) w.root.surd.n R (at.index.0 + 1) at.degree.0 w.root.d rest current

-- Q and P in 129 places give the same words
record_pad : (o : Ops ℕ) (n mirror : ℕ) (e : Entry) (x y : List ℕ) → n ≤ 64 → x ≡ pad o 129 e.ideal.q → y ≡ pad o 129 e.ideal.p → record_words o n mirror (record { index = e.index; distance = e.distance; ideal = record { q = x; p = y } }) ≡ record_words o n mirror e
unfolding record_words genus
record_pad o n mirror e x y h ex ey =
    ap₂ (λ (u v : List ℕ). word 5 e.index ∷ word 6 (high e.distance) ∷ word 7 (low e.distance) ∷ word 10 (high mirror) ∷ word 11 (low mirror) ∷ (map (word 8) u ++ map (word 9) v))
    (ap (pad o (suc (n / 2 - 1))) ex ∙ pad_pad o (suc (n / 2 - 1)) 129 e.ideal.q (omega arith)) (ap (pad o (n / 2 - 1)) ey ∙ pad_pad o (n / 2 - 1) 129 e.ideal.p (omega arith))

-- z is the ideal of Q, which is `current`, and P = d − rest; Q made monic has the degree of Q
pub record IsIdeal (f : FieldName) (d rest : List ℕ) (current : Poly) (z : Ideal) : Type 0 where
  pub q : Is f z.q (monic (ops_of f) (poly current))
  pub p : Is f z.p (rem (ops_of f) (sub (ops_of f) d rest) (monic (ops_of f) (poly current)))
  pub degree : deg (ops_of f) (monic (ops_of f) (poly current)) ≡ current.size - 1

pub record_written : (f : FieldName) (n R index distance : ℕ) (d rest : List ℕ) (current : Poly) (z : Ideal) (l out : List ℕ) → n ≤ 64 → IsIdeal f d rest current z
    → l ≡ stored out 0 (record_words (ops_of f) n (R - distance + (current.size - 1)) (record { index = index; distance = distance; ideal = record { q = z.q.c; p = z.p.c } })) → l ≡ stored out 0 (record_with f n R index distance d rest current)
unfolding entry_with record_with ideal_of mirror_of
record_written f n R index distance d rest current z l out h is e =
    e
    ∙ ap (λ (k : ℕ). stored out 0 (record_words (ops_of f) n (R - distance + k) (record { index = index; distance = distance; ideal = record { q = z.q.c; p = z.p.c } }))) (sym is.degree)
    ∙ ap (stored out 0) (record_pad (ops_of f) n _ (entry_with f index distance d rest current) z.q.c z.p.c h is.q.places is.p.places)
