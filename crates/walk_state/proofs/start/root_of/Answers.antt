-- The places of `radicand` are the coefficients of D, so that their root is D's.
use Rattle.std.proofs.Common.{suc, ◌/◌, ◌≤◌, arith, ◌≡◌}
use Rattle.spec_definitions.specs.Ticket.{genus}
use Rattle.walk_state.specs.Start.{half_degree, root_places}
use Rattle.walk_state.proofs.start.root_of.Goals as goal

pub root-requires : goal.root-requires
root-requires c =
    let s = c.args.s.now in
    let h : s.n / 2 ≡ suc (genus s.n) = half_degree s.n s.degree_two in
    let g : genus s.n ≤ 31 = s.admitted.genus_most in
    record { h_bound = omega arith; by_index = s.held.reduced }

pub returns : goal.returns
returns c =
    let s = c.args.s.now in
    root_places s.field.q s.n s.radicand.c s.radicand.size s.admitted s.held s.degree_two _ c.root.ensures
