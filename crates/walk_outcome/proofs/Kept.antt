-- An outcome whose variant is not `Found` means spent or refused.
use Rattle.std.proofs.Common.{ℕ, ◌≡◌, refl}
use Rattle.spec_definitions.specs.Answers.{found}
use Rattle.base_counters.specs.declared.Distance.{Distance}
use Rattle.base_counters.specs.declared.Index.{Index}
use Rattle.walk_outcome.specs.Outcome.{meaning}
use Rattle.walk_outcome.specs.declared.Outcome.{Outcome}
use Rattle.walk_outcome.specs.declared.Outcome.TheVariants.{Found, Spent, Refused}

pub not_found : (x : Outcome) → ((r : Distance) (m : Index) (c : ℕ) → x ≡ Found r m c → ⊥) → (R m c : ℕ) → meaning x ≡ found R m c → ⊥
not_found (Found r m c) f R n k h = f r m c refl
not_found (Spent i e) f R n k h = cc
not_found (Refused j) f R n k h = cc
