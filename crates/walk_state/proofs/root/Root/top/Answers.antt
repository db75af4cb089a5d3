use Rattle.walk_state.specs.Start.{top_is}
use Rattle.walk_state.proofs.root.Root.top.Goals as goal

pub returns : goal.returns
returns c = let s = c.args.self.now.surd in top_is s.n s.degree_two
