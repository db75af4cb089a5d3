-- Such steps, each with the tests of half the walk, which stop at most once for each.
use Rattle.std.specs.Prelude.{ℕ, ◌+◌, ◌≤◌, ◌<◌, ◌≡◌, List}
use Rattle.std.proofs.Common.{arith}
use Rattle.spec_definitions.specs.Ticket.{budgets}
use Rattle.base_polynomial.specs.declared.Poly.{Poly}
use Rattle.walk_state.specs.declared.Walk.{Walk}
use Rattle.walk_stride.specs.declared.Progress.{Progress}
use Rattle.walk_stride.specs.Progress.{Begun, Going, Taken}
use Rattle.walk_middle.specs.Middle.{Tested}
use Rattle.walk_middle.specs.Strided.{Earlier, earlier_first, earlier_next, strided_tested}
use Rattle.bench_walk.specs.Steps.{degree_at}
use Rattle.bench_walk.specs.Advance.{Advancing, advancing_first, advancing_going, advancing_next, advanced}

-- the tests stopped so often
pub record Trying (w : Walk) (steps : ℕ) (before current : Poly) (rest : List ℕ) (counted : ℕ) (at : Progress) : Type 0 where
  pub advancing : Advancing w steps before current rest at
  pub earlier_is : Earlier w before at
  pub few : counted ≤ at.index.0

module _ (w : Walk) where
  pub trying_first : {before current : Poly} {rest : List ℕ} {at : Progress} (steps : ℕ) → Begun w before current rest at → Trying w steps before current rest 0 at
  trying_first steps b = record { advancing = advancing_first w steps b; earlier_is = earlier_first w b; few = omega arith }

  module _ {steps counted : ℕ} {before current : Poly} {rest : List ℕ} {at : Progress} (t : Trying w steps before current rest counted at) where
    pub tried : at.index.0 ≡ steps → at.degree.0 ≡ degree_at w.root.surd steps
    tried = advanced w t.advancing

    module _ (left : at.index.0 ≡ steps → ⊥) where
      pub trying_going : steps < budgets → Going w before current rest at
      trying_going = advancing_going w t.advancing left

      module _ {remains : List ℕ} {after : Poly} {to : Progress} (u : Taken w before current rest remains after at to) where
        -- what the tests ask for
        pub trying_tested : Tested w before current rest remains
        trying_tested = strided_tested w t.advancing.walked t.earlier_is (advancing_next w t.advancing left u).walked

        pub trying_next : {stopped : ℕ} → stopped ≤ 1 → Trying w steps current after remains (counted + stopped) to
        trying_next h = record {
          advancing = advancing_next w t.advancing left u;
          earlier_is = earlier_next w t.advancing.walked u;
          few = (let i = u.index_is in let k = t.few in omega arith);
        }
