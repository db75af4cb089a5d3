-- What is left of x is below 2·q, by the laws of the reciprocal.
use Rattle.std.proofs.Common.{arith}
use Rattle.base_field.specs.Reciprocal.{quotient_le, rest_less, rest_mod, rest_mod_more}
use Rattle.base_field.proofs.Field.reduce.Goals as goal

pub overflow_sub-r : goal.overflow_sub-r
overflow_sub-r c =
    quotient_le c.args.self.q c.args.self.reciprocal c.args.x (omega arith) c.args.self.is_field.3 (omega arith)

pub returns-then-r-self : goal.returns-then-r-self
returns-then-r-self c =
    let l = quotient_le c.args.self.q c.args.self.reciprocal c.args.x (omega arith) c.args.self.is_field.3 (omega arith) in
    rest_mod c.args.self.q c.args.self.reciprocal c.args.x (omega arith) c.args.self.is_field.3 (omega arith) _ (omega arith) c.if-r-self.true

pub returns-else-r-self : goal.returns-else-r-self
returns-else-r-self c =
    let l = quotient_le c.args.self.q c.args.self.reciprocal c.args.x (omega arith) c.args.self.is_field.3 (omega arith) in
    let w = rest_less c.args.self.q c.args.self.reciprocal c.args.x (omega arith) c.args.self.is_field.3 (omega arith) in
    rest_mod_more c.args.self.q c.args.self.reciprocal c.args.x (omega arith) c.args.self.is_field.3 (omega arith) _ (omega arith) (omega arith)
