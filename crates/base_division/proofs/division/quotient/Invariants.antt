-- The invariant: the coefficients from k on are the quotient's, zeros stand below.
use Rattle.std.proofs.Common.{◌≡◌, ◌+◌, ◌-◌, get_or, take}
use Rattle.spec_arithmetic.specs.Polynomials.{quo}
use Rattle.base_places.specs.Down.{Down}
use Rattle.base_field.specs.Named.{ops}
use Rattle.base_division.proofs.division.quotient.Given as goal

abbrev pub invariant-loop-k : goal.invariant-loop-k
invariant-loop-k l = record {
  size : l.z.size ≡ l.a.size + 1 - l.b.size;
  found : Down l.z.c (λ i. get_or (quo (ops l.f) (take l.a.size l.a.c) (take l.b.size l.b.c)) i 0) l.k;
}
