-- The allowed degrees, as facts about numbers.
use Rattle.std.specs.Prelude.{ℕ, ◌%◌, ◌≤◌, ◌≡◌, false}
use Rattle.std.proofs.Common.{eqb-true, ltb-false}
use Rattle.std.proofs.lemmas.Bool.{not-false, or_parts}
use Rattle.spec_definitions.specs.Ticket.{wrong_degree}

pub record Allowed (n : ℕ) : Type 0 where
  pub even : n % 2 ≡ 0
  pub least : 2 ≤ n
  pub most : n ≤ 64

pub allowed : (n : ℕ) → wrong_degree n ≡ false → Allowed n
unfolding wrong_degree
allowed n h =
    let a = or_parts _ _ h in
    let b = or_parts _ _ a.0 in
    record { even = eqb-true (n % 2) 0 (not-false _ b.0); least = ltb-false n 2 b.1; most = ltb-false 64 n a.1 }
