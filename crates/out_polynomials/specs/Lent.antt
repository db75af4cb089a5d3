-- What is in lent arrays: a polynomial in an array with its size, and what a refusal leaves there.
use Rattle.std.specs.Prelude.{List, ℕ, ◌≡◌, [], Result, Ok, Err, IfErr}
use Rattle.std.proofs.Common.{sym, subst}
use Rattle.base_polynomial.specs.declared.Poly.{Poly}
use Rattle.base_polynomial.specs.Over.{Holds}

abbrev pub poly_in : List ℕ → ℕ → Poly
poly_in c size = record { c = c; size = size }

-- what was put there of 0
pub zero_put : {x z : Poly} → x ≡ z → Holds z [] → Holds x []
zero_put e h = subst (λ (y : Poly). Holds y []) (sym e) h

-- what holds of every refusal
pub in_refusal : {A E : Type 0} (r : Result A E) {P : E → Type 0} → ((e : E) → P e) → IfErr r P
in_refusal (Ok _) h = tt
in_refusal (Err e) h = h e
