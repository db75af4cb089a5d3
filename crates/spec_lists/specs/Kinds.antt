-- The test of words' kinds against a list of kinds, place by place: two lists of one length are the same
-- exactly where they have the same numbers.
use Rattle.std.specs.Prelude.{ℕ, ◌<◌, ◌≡◌, true, false, List, map, length, get_or}
use Rattle.std.proofs.Common.{arith, sym, ap, ◌∙◌, ext_get_or}
use Rattle.std.proofs.lemmas.List.{length-map}
use Rattle.std.proofs.Math.ListN.{get_or-map}
use Rattle.spec_arithmetic.specs.Words.{kind, same}
use Rattle.spec_lists.specs.Same.{same_refl, same_equal, same_not}

module _ (w kinds : List ℕ) where
  kinds_at : (i : ℕ) → get_or (map kind w) i 0 ≡ kind (get_or w i 0)
  unfolding kind
  kinds_at i = get_or-map kind w i 0

  pub kinds_same : same (map kind w) kinds ≡ true → (i : ℕ) → kind (get_or w i 0) ≡ get_or kinds i 0
  kinds_same e i = sym (kinds_at i) ∙ ap (λ (l : List ℕ). get_or l i 0) (same_equal _ _ e)

  pub kinds_right : length w ≡ length kinds → ((i : ℕ) → i < length w → kind (get_or w i 0) ≡ get_or kinds i 0) → same (map kind w) kinds ≡ true
  kinds_right all h =
      ap (λ (l : List ℕ). same l kinds) (ext_get_or 0 _ _ (length-map w kind ∙ all) (λ i k. kinds_at i ∙ h i (let e = length-map w kind in omega arith)))
      ∙ same_refl kinds

  pub kinds_wrong : (i : ℕ) → (kind (get_or w i 0) ≡ get_or kinds i 0 → ⊥) → same (map kind w) kinds ≡ false
  kinds_wrong i h = same_not _ _ (λ e. h (sym (kinds_at i) ∙ ap (λ (l : List ℕ). get_or l i 0) e))
