-- The places of d and of 2d are those of the definitions' lists.
use Rattle.std.proofs.Common.{suc, ◌+◌, ◌/◌, ◌≤◌, arith, ◌≡◌}
use Rattle.spec_definitions.specs.Ticket.{genus}
use Rattle.base_field.specs.Named.{name}
use Rattle.base_places.specs.Places.{Within}
use Rattle.walk_state.specs.Start.{top_is, root_within, twice_places}
use Rattle.walk_state.proofs.root.Root.new.Goals as goal

pub add_places-requires : goal.add_places-requires
add_places-requires c =
    let s = c.args.s.now in
    let t : s.n / 2 + 1 ≡ suc (suc (genus s.n)) = top_is s.n s.degree_two in
    let g : genus s.n ≤ 31 = s.admitted.genus_most in
    let d = c.root_of.new.d in
    let w : Within (name s.field) d (s.n / 2 + 1) = rw t (root_within s.field.q s.n s.radicand.c s.radicand.size s.admitted s.held s.degree_two d c.root_of.ensures) in
    record { n_bound = omega arith; within = (w, w) }

pub invariant_of-result : goal.invariant_of-result
invariant_of-result c =
    let s = c.args.s.now in
    record {
      d_is = c.root_of.ensures;
      twice_is = twice_places s.field.q s.n s.radicand.c s.radicand.size s.admitted s.held s.degree_two _ _ c.root_of.ensures c.add_places.ensures;
    }
