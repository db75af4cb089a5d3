-- The first 280 bytes, or all of them.
use Rattle.std.proofs.Common.{ℕ, ap, ◌∙◌, take}
use Rattle.std.proofs.Math.Nat.{min_comm}
use Rattle.std.proofs.lemmas.List.{take_min}
use Rattle.spec_definitions.specs.Program.{read_bytes}
use Rattle.out_reading.proofs.read_bytes.Goals as goal

pub returns : goal.returns
unfolding read_bytes
returns c = ap (λ (k : ℕ). take k c.args.bytes.now) (c.min.ensures ∙ min_comm _ 280) ∙ take_min 280 c.args.bytes.now
