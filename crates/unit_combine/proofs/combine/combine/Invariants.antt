-- The places before k are those of a·from + into, each by one reduction, and the others as they were.
use Rattle.std.proofs.Common.{ℕ, ◌<◌, ◌≤◌, ◌≡◌, get_or}
use Rattle.spec_arithmetic.specs.Polynomials.{add, mul}
use Rattle.base_field.specs.Named.{ops}
use Rattle.unit_combine.proofs.combine.combine.Given as goal

abbrev pub invariant-loop-k : goal.invariant-loop-k
invariant-loop-k l =
    record {
      done : (i : ℕ) → i < l.k → get_or l.into i 0 ≡ get_or (add (ops l.f) (mul (ops l.f) l.a.c l.from) l.initial.into) i 0;
      rest : (i : ℕ) → l.k ≤ i → get_or l.into i 0 ≡ get_or l.initial.into i 0;
    }
