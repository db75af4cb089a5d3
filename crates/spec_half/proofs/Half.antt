-- The proofs of specs/Half.
use Rattle.std.specs.Prelude.{ℕ, ◌≡◌, List, [], ◌∷◌}
use Rattle.std.proofs.Common.{arith, ap}
use Rattle.spec_definitions.specs.Answers.{Said}
use Rattle.spec_half.specs.Half.{HalfOutcome, half_found, half_spent, half_refused, half_said}

-- `half_said` is one to one: what is said fixes the case and every number in it
pub half_said_injective : (x y : HalfOutcome) → half_said x ≡ half_said y → x ≡ y
unfolding half_said
half_said_injective (half_found R m) (half_found R' m') h = let v : ◌≡◌ {A = List ℕ} (R ∷ m ∷ []) (R' ∷ m' ∷ []) = ap (λ (s : Said). s.values) h in cc
half_said_injective (half_found R m) (half_spent k e) h = let v : ◌≡◌ {A = ℕ} 0 11 = ap (λ (s : Said). s.number) h in absurd (omega arith)
half_said_injective (half_found R m) (half_refused j) h = let v : ◌≡◌ {A = List ℕ} (R ∷ m ∷ []) [] = ap (λ (s : Said). s.values) h in cc
half_said_injective (half_spent k e) (half_found R m) h = let v : ◌≡◌ {A = ℕ} 11 0 = ap (λ (s : Said). s.number) h in absurd (omega arith)
half_said_injective (half_spent k e) (half_spent k' e') h = let v : ◌≡◌ {A = List ℕ} (k ∷ e ∷ []) (k' ∷ e' ∷ []) = ap (λ (s : Said). s.values) h in cc
half_said_injective (half_spent k e) (half_refused j) h = let v : ◌≡◌ {A = List ℕ} (k ∷ e ∷ []) [] = ap (λ (s : Said). s.values) h in cc
half_said_injective (half_refused j) (half_found R m) h = let v : ◌≡◌ {A = List ℕ} [] (R ∷ m ∷ []) = ap (λ (s : Said). s.values) h in cc
half_said_injective (half_refused j) (half_spent k e) h = let v : ◌≡◌ {A = List ℕ} [] (k ∷ e ∷ []) = ap (λ (s : Said). s.values) h in cc
half_said_injective (half_refused j) (half_refused j') h = ap (λ (s : Said). half_refused s.number) h
