-- An inverse is below q.
use Rattle.std.proofs.Common.{◌<◌}
use Rattle.spec_bridge.specs.Residues.{pos, inverse_lt}
use Rattle.walk_ends.proofs.inverse_of_lead.Goals as goal

pub add-requires : goal.add-requires
add-requires c =
    let k : c.inverse-inverse.result < c.args.f.q = rw c.inverse-inverse.ensures (inverse_lt c.args.f.q (pos _ c.args.f.is_field.0) c.args.twice_lead) in
    (k, k)
