-- The remainders agree before g + 2, and both are 0 from there on.
use Rattle.std.proofs.Common.{◌≡◌, take, rules, sym, ◌∙◌}
use Rattle.walk_middle.specs.Compared.{same_places}
use Rattle.walk_middle.proofs.stops.Goals as goal

pub returns-then-eq : goal.returns-then-eq
returns-then-eq c =
    let t = c.requires in
    let e : take c.top-top.result c.args.rest.now ≡ take c.top-top.result c.args.remains.now = search rules in
    (search rules, same_places _ _ c.top-top.result (t.rest_long ∙ sym t.remains_long) (rw c.top-top.ensures t.rest_within.past) (rw c.top-top.ensures t.remains_within.past) e)
