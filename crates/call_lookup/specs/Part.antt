-- The part of the list that a lookup finds, or the empty part at its start where the list is refused.
use Rattle.std.specs.Prelude.{ℕ, ◌+◌, ◌*◌, ◌-◌, ◌≤◌, ◌≡◌, true, false, List, [], length, take, drop, slice_range}
use Rattle.std.proofs.Common.{arith, sym, ap, ◌∙◌, length-drop}
use Rattle.std.proofs.Math.Seq.{length-take-le}
use Rattle.spec_definitions.specs.Lookup.{wrong_listing, record_count, record_at, last_within, lookup_of, place_of}

-- refusal 8: no word, and none before it
pub record IsRefused (l : List ℕ) (n y : ℕ) : Type 0 where
  pub wrong : wrong_listing l n ≡ true
  pub place : place_of l n y ≡ 0
  pub words : lookup_of l n y ≡ []

-- the words of the record stand from `start` up to `end`
pub record IsFound (l : List ℕ) (n y start end : ℕ) : Type 0 where
  pub right : wrong_listing l n ≡ false
  pub place : start ≡ place_of l n y
  pub long : end ≡ start + length (lookup_of l n y)
  pub within : end ≤ length l
  pub words : slice_range l start end ≡ lookup_of l n y

module _ (l : List ℕ) (n y : ℕ) where
  pub refused : wrong_listing l n ≡ true → IsRefused l n y
  unfolding place_of lookup_of
  refused h = record { wrong = h; place = simp (place_of, h); words = simp (lookup_of, h) }

  module _ (k : ℕ) (h : wrong_listing l n ≡ false) (e : k ≡ last_within l n y (record_count l n - 1)) (fits : k * (n + 4) + (n + 4) ≤ length l) where
    record_words : take (n + 4) (drop (k * (n + 4)) l) ≡ lookup_of l n y
    unfolding lookup_of record_at
    record_words = simp (lookup_of, h, e)

    pub found : IsFound l n y (k * (n + 4)) (k * (n + 4) + (n + 4))
    unfolding place_of
    found =
        let size : k * (n + 4) + (n + 4) - k * (n + 4) ≡ n + 4 = omega arith in
        let some : length (take (n + 4) (drop (k * (n + 4)) l)) ≡ n + 4 = length-take-le (n + 4) (drop (k * (n + 4)) l) (let d = length-drop (k * (n + 4)) l in omega arith) in
        let long : length (lookup_of l n y) ≡ n + 4 = ap length (sym record_words) ∙ some in
        record {
          right = h;
          place = simp (place_of, h) (ap (λ (i : ℕ). i * (n + 4)) e);
          long = omega arith;
          within = fits;
          words = ap (λ (i : ℕ). take i (drop (k * (n + 4)) l)) size ∙ record_words;
        }
