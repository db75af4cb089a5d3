-- Where a giant step lands: the definitions' giant step of the ideals of two indices of the endless walk is the
-- ideal of an index, and the two distances and f add up to its distance; f is at most 0 and at least −2g.
use Rattle.std.specs.Prelude.{ℕ, ◌+◌, ◌≤◌, ◌≡◌, neg_ℤ, ◌+ℤ◌}
use Rattle.std.proofs.Math.IntN.{pos}
use Rattle.math_surd.specs.Distance.{distance}
use Rattle.spec_definitions.specs.Ticket.{Ticket, genus}
use Rattle.spec_definitions.specs.Walk.{steps}
use Rattle.spec_definitions.specs.Answers.{ops_of, root_of}
use Rattle.spec_definitions.specs.Listing.{ideal_of}
use Rattle.spec_definitions.specs.Products.{Product, turns_of, shift_of, GiantStepAnswer}
use Rattle.spec_giants.specs.Entries.{ideal, δ}

module _ (t : Ticket) where
  -- a is the ideal of the index `at` with its distance, and f = −fall
  pub record Lands (i j : ℕ) (a : GiantStepAnswer) : Type 0 where
    pub at : ℕ
    pub q_is : a.q ≡ (ideal t at).q
    pub p_is : a.p ≡ (ideal t at).p
    pub fall : ℕ
    pub few : fall ≤ genus t.n + genus t.n
    pub f_is : a.f ≡ neg_ℤ (pos fall)
    pub sum : δ t at + fall ≡ δ t i + δ t j
    pub distance_is : a.distance ≡ pos (δ t at)

  -- the definitions' answer from a product of two ideals whose distances add up to e
  unfoldable pub answer_from : ℕ → Product ℕ → GiantStepAnswer
  answer_from e r =
      let i = ideal_of (ops_of t) (steps (ops_of t) t.D (root_of t) r.ideal (turns_of (ops_of t) t.D (root_of t) (genus t.n) r.ideal)) in
      let f = shift_of (ops_of t) t.D (root_of t) (genus t.n) r in
      record { number = 0; q = i.q; p = i.p; f = f; distance = pos e +ℤ f }
