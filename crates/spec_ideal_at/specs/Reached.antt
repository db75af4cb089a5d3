-- Where the halving ends: the ideal for y is that of the last index of the endless walk with a distance of at
-- most y. The giant step of the ideal for y div 2 with itself does not pass y, since f ≤ 0, and is at most 4g
-- + 1 below it; each single step goes on by 1 or more. So whatever holds the ideal and the distance of that
-- index holds the answer.
use Prim.Native.Nat.{ℕ, ◌+◌, ◌≤◌}
use Rattle.std.specs.Prelude.{◌≡◌}
use Rattle.spec_definitions.specs.Ticket.{Ticket, genus}
use Rattle.spec_laws.specs.Admitted.{Admitted}
use Rattle.spec_giants.specs.Entries.{ideal, δ, Last}
use Rattle.spec_ideal_at.specs.Halving.{IdealAt}

module _ (t : Ticket) where
  -- x is the ideal of index i with its distance
  pub record AtIndex (i : ℕ) (x : IdealAt) : Type 0 where
    pub ideal_is : x.ideal ≡ ideal t i
    pub distance_is : x.distance ≡ δ t i

  -- and that index is the last with a distance of at most y
  pub record Reached (y : ℕ) (x : IdealAt) : Type 0 where
    pub at : ℕ
    pub is : AtIndex at x
    pub last : Last t y at

  module _ (h : Admitted t.field (genus t.n) t.D) where
    abbrev g : ℕ
    g = genus t.n

    -- ---- a giant step with itself
    pub record Doubled (i : ℕ) (x : IdealAt) : Type 0 where
      pub at : ℕ
      pub is : AtIndex at x
      pub fall : ℕ
      pub few : fall ≤ g + g
      pub sum : δ t at + fall ≡ δ t i + δ t i
