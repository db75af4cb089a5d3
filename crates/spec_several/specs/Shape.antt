-- The ticket's shape, by places: the test of 14 is true exactly where the words do not have the shape.
use Prim.Native.Nat.{ℕ, ◌+◌, ◌≤◌, ◌<◌}
use Rattle.std.specs.Prelude.{◌≡◌, List}
use Rattle.std.proofs.Math.ListN.{length}
use Rattle.spec_sentences.specs.Sentences.{kind_at, value_at}
use Rattle.spec_sentences.specs.Tests.{Tests}
use Rattle.spec_several.specs.Several.{wrong_shape}

-- "A new ticket has kind 2, then n+1 words of kind 12 (28-bit two's complement, constant term first), kind 4,
-- one to sixteen words of kind 1, then kind 15 with the number of words before it.", with k words of kind 1; n
-- is the value of word 0
pub record RightShape (w : List ℕ) (k : ℕ) : Type 0 where
  pub some : 1 ≤ k
  pub most : k ≤ 16
  pub words : length w ≡ value_at w 0 + 4 + k
  pub first : kind_at w 0 ≡ 2
  pub coefficients : (i : ℕ) → 1 ≤ i → i ≤ value_at w 0 + 1 → kind_at w i ≡ 12
  pub budget : kind_at w (value_at w 0 + 2) ≡ 4
  pub prime_words : (i : ℕ) → value_at w 0 + 3 ≤ i → i < value_at w 0 + 3 + k → kind_at w i ≡ 1
  pub end_kind : kind_at w (value_at w 0 + 3 + k) ≡ 15
  pub end_count : value_at w (value_at w 0 + 3 + k) ≡ value_at w 0 + 3 + k

-- "14, the ticket's shape is wrong"
abbrev pub Shape : Type 0
Shape = (w : List ℕ) → Tests (wrong_shape w) ((k : ℕ) → ¬ RightShape w k)
