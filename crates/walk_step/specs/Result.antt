-- From the places that a step fills to its results: the arrays are the lists padded with zeros, and the size
-- found is the length, as no list has a zero at its end.
use Rattle.std.specs.Prelude.{ℕ, ◌<◌, ◌≤◌, ◌≡◌, refl, List, length}
use Rattle.std.proofs.Common.{arith}
use Rattle.spec_arithmetic.specs.Field.{prime, modulo}
use Rattle.spec_arithmetic.specs.Polynomials.{trim}
use Rattle.spec_bridge.specs.Prime.{Prime}
use Rattle.spec_bridge.specs.Arithmetic.{trim_add}
use Rattle.spec_bridge.specs.Residues.{model}
use Rattle.base_places.specs.Record.{Is}
use Rattle.base_places.specs.Held.{is_of}
use Rattle.base_places.specs.Places.{Top}
use Rattle.base_polynomial.specs.Linear.{is_result}
use Rattle.walk_short.specs.Sizes.{positive, rem_short}
use Rattle.walk_step.specs.Step.{next_rem, next_q, Ready, Moved, Stepped}
pub use Rattle.walk_step.specs.Step.{division}

module _ {q m n : ℕ} {s before b r : List ℕ} (p : Prime q) (g : Ready (prime q) m n s before b r) where
  pos : 0 < q
  pos = positive p (division g)

  next_trim : trim (modulo q) (next_q (prime q) s before b r) ≡ next_q (prime q) s before b r
  unfolding next_q
  next_trim = trim_add (model q pos) before _

  module _ {z w : List ℕ} (n_fits : n ≤ 129) (h : Moved (prime q) s before b r z w) where
    next_result : (k : ℕ) → Top w k → Is (prime q) w k (next_q (prime q) s before b r)
    next_result k t = is_result q pos w k (next_q (prime q) s before b r) next_trim h.q_places t

    rem_result : Is (prime q) z (length (next_rem (prime q) s b r)) (next_rem (prime q) s b r)
    rem_result = is_of q z (length (next_rem (prime q) s b r)) (next_rem (prime q) s b r) h.rem_places.long refl (let l = rem_short p (division g) in omega arith) h.rem_places.at

    pub stepped : {k : ℕ} → Top w k → Stepped (prime q) s before b r z w k
    stepped {k} t = record { rem_is = rem_result.places; q_is = (next_result k t).places; size_is = (next_result k t).size_is }
