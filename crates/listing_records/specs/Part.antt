-- A part of a list that is written on its own is stored in the list.
use Rattle.std.specs.Prelude.{ℕ, ◌+◌, ◌≤◌, ◌≡◌, List, ◌++◌, length, take}
use Rattle.std.proofs.Common.{arith, ap, ◌∙◌}
use borrow.Rule.Slice.PartMut.{put_mid, mid_of, post_of}
use Rattle.listing_words.specs.Stored.{stored, stored_part}

pub put_stored : (out words : List ℕ) (a k : ℕ) {new : List ℕ} → length words ≡ k → a + k ≤ length out → new ≡ stored (mid_of a k out) 0 words → put_mid a k out new ≡ stored out a words
put_stored out words a k e fits s = ap (λ (l : List ℕ). take a out ++ (l ++ post_of a k out)) s ∙ stored_part words out a k (omega arith) fits
