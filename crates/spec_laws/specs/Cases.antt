-- The three cases of an outcome differ, and an outcome fixes the numbers of its case.
use Rattle.std.specs.Prelude.{ℕ, ◌≡◌, ◌≢◌}
use Rattle.std.proofs.Common.{arith}
use Rattle.spec_definitions.specs.Answers.{found, spent, refused}

pub spent_not_found : (k e R m c : ℕ) → spent k e ≢ found R m c
spent_not_found k e R m c h = let z : ◌≡◌ {A = ℕ} 0 1 = cc in omega arith

pub refused_not_found : (j R m c : ℕ) → refused j ≢ found R m c
refused_not_found j R m c h = let z : ◌≡◌ {A = ℕ} 0 1 = cc in omega arith

pub refused_not_spent : (j k e : ℕ) → refused j ≢ spent k e
refused_not_spent j k e h = let z : ◌≡◌ {A = ℕ} 0 1 = cc in omega arith

pub found_numbers : {R m c R' m' c' : ℕ} → found R m c ≡ found R' m' c' → (R ≡ R') × (m ≡ m') × (c ≡ c')
found_numbers e = (cc, cc, cc)

pub spent_numbers : {k e k' e' : ℕ} → spent k e ≡ spent k' e' → (k ≡ k') × (e ≡ e')
spent_numbers h = (cc, cc)

pub refused_number : {i j : ℕ} → refused i ≡ refused j → i ≡ j
refused_number e = cc
