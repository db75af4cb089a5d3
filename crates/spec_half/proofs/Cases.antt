-- The three cases of an outcome of half the walk differ, and an outcome fixes the numbers of its case.
use Rattle.std.specs.Prelude.{ℕ, ◌≡◌, ◌≢◌}
use Rattle.std.proofs.Common.{arith}
use Rattle.spec_half.specs.Half.{half_found, half_spent, half_refused}

pub spent_not_found : {k e R m : ℕ} → half_spent k e ≢ half_found R m
spent_not_found h = let z : ◌≡◌ {A = ℕ} 0 1 = cc in omega arith

pub refused_not_found : {j R m : ℕ} → half_refused j ≢ half_found R m
refused_not_found h = let z : ◌≡◌ {A = ℕ} 0 1 = cc in omega arith

pub refused_not_spent : {j k e : ℕ} → half_refused j ≢ half_spent k e
refused_not_spent h = let z : ◌≡◌ {A = ℕ} 0 1 = cc in omega arith

pub found_numbers : {R m R' m' : ℕ} → half_found R m ≡ half_found R' m' → (R ≡ R') × (m ≡ m')
found_numbers e = (cc, cc)

pub spent_numbers : {k e k' e' : ℕ} → half_spent k e ≡ half_spent k' e' → (k ≡ k') × (e ≡ e')
spent_numbers h = (cc, cc)

pub refused_number : {i j : ℕ} → half_refused i ≡ half_refused j → i ≡ j
refused_number e = cc
