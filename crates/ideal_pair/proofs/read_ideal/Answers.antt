-- The words' test first, so that they can be read; then the test of their polynomials, which are those of the
-- words without zeros at the end.
use Rattle.std.proofs.Common.{arith}
use Rattle.spec_fields.specs.Named.{ok_zero}
use Rattle.spec_laws.specs.Admitted.{is_field}
use Rattle.ideal_pair.specs.Pair.{below_none, q_result, p_result, p_size, refused_words, refused_ideal, accepted, accepted_pair}
use Rattle.ideal_pair.proofs.read_ideal.Goals as goal

pub returns-then-not-words_fit-clause-refused : goal.returns-then-not-words_fit-clause-refused
returns-then-not-words_fit-clause-refused c = refused_words c.args.s.now _ _ c.words_fit.ensures.1 c.if-not-words_fit.true

pub read-requires : goal.read-requires
read-requires c =
    let w = c.words_fit.ensures.0 c.if-not-words_fit.false in
    let n = c.args.s.now.admitted.genus_most in
    omega (arith, w.0)

pub read-requires-2 : goal.read-requires-2
read-requires-2 c =
    let w = c.words_fit.ensures.0 c.if-not-words_fit.false in
    let n = c.args.s.now.admitted.genus_most in
    omega (arith, w.1)

pub is_ideal-requires : goal.is_ideal-requires
is_ideal-requires c =
    let s = c.args.s.now in
    let w = c.words_fit.ensures.0 c.if-not-words_fit.false in
    let z = ok_zero _ (is_field s.admitted) in
    let q = c.read.ensures _ z (below_none _ _ w.2) in
    let p = c.read-2.ensures _ z (below_none _ _ w.3) in
    record { size = p_size s _ _ w q p; held = (s.held, (q_result s _ _ w q p).held, (p_result s _ _ w q p).held) }

pub returns-then-is_ideal : goal.returns-then-is_ideal
returns-then-is_ideal c =
    let s = c.args.s.now in
    let w = c.words_fit.ensures.0 c.if-not-words_fit.false in
    let z = ok_zero _ (is_field s.admitted) in
    let q = c.read.ensures _ z (below_none _ _ w.2) in
    let p = c.read-2.ensures _ z (below_none _ _ w.3) in
    let i = c.is_ideal.ensures.0 c.if-is_ideal.true in
    record { refused = accepted s _ _ w q p i; ideal = accepted_pair s _ _ w q p i }

pub returns-else-is_ideal-clause-refused : goal.returns-else-is_ideal-clause-refused
returns-else-is_ideal-clause-refused c =
    let s = c.args.s.now in
    let w = c.words_fit.ensures.0 c.if-not-words_fit.false in
    let z = ok_zero _ (is_field s.admitted) in
    let q = c.read.ensures _ z (below_none _ _ w.2) in
    let p = c.read-2.ensures _ z (below_none _ _ w.3) in
    refused_ideal s _ _ w q p c.is_ideal.ensures.1 c.if-is_ideal.false
