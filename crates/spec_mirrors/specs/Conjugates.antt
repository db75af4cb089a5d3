-- The conjugate of the ideal of an index, on the definitions' lists: for a ticket with the quasi-period m and
-- R = deg p_{m−1}, the conjugate of the ideal of index j is that of index m − j, or of 0 where j is 0. Where j is not
-- 0 its distance is the mirror of j; the mirror of 0 is R. Carried by the symmetry of the walk.
use Rattle.std.specs.Prelude.{ℕ, zero, suc, ◌-◌, ◌≡◌}
use Rattle.spec_definitions.specs.Ticket.{Ticket, genus}
use Rattle.spec_definitions.specs.Answers.{ops_of}
use Rattle.spec_definitions.specs.Listing.{entry_of, mirror_of}
use Rattle.spec_laws.specs.Admitted.{Admitted}
use Rattle.spec_expansion.specs.QuasiPeriod.{IsQuasiPeriod}
use Rattle.spec_answers.specs.Outcomes.{degree_at}

module _ (t : Ticket) where
  -- the mirror of the record of index j
  abbrev pub μ : ℕ → ℕ → ℕ
  μ R j = mirror_of (ops_of t) R (entry_of t j)

  module _ (h : Admitted t.field (genus t.n) t.D) where
    -- ---- their indices and distances
    module _ (R m : ℕ) (quasi : IsQuasiPeriod t m) (is : R ≡ degree_at t m) where
      -- the index of the conjugate
      abbrev pub at : ℕ → ℕ
      at zero = 0
      at (suc j) = m - suc j
