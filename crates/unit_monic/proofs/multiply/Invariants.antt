-- The places before k are u times what they were, and the others as they were.
use Rattle.std.proofs.Common.{ℕ, ◌<◌, ◌≤◌, ◌≡◌, get_or}
use Rattle.spec_arithmetic.specs.Polynomials.{scale}
use Rattle.base_field.specs.Named.{ops}
use Rattle.unit_monic.proofs.multiply.Given as goal

abbrev pub invariant-loop-k : goal.invariant-loop-k
invariant-loop-k l =
    record {
      done : (i : ℕ) → i < l.k → get_or l.list i 0 ≡ get_or (scale (ops l.f) l.u l.initial.list) i 0;
      rest : (i : ℕ) → l.k ≤ i → get_or l.list i 0 ≡ get_or l.initial.list i 0;
    }
