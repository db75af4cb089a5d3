use Rattle.std.proofs.Common.{ℕ, ◌≡◌, ◌≤◌, ◌<◌, ◌*◌, ◌+◌, mul-le-mul, arith, sym, subst}
use Rattle.spec_bridge.specs.Prime.{odd_prime_more, not_odd_prime}
use Rattle.base_primes.specs.Divisors.{UndividedBelow, undivided_below_three, undivided_below_next}
use Rattle.base_primes.specs.Divisors.{divided_not_odd_prime, undivided_odd_prime}
use Rattle.base_primes.proofs.is_odd_prime.Goals as goal

pub returns-then-not-contains : goal.returns-then-not-contains
returns-then-not-contains c =
    sym (not_odd_prime _ (λ r. let w = odd_prime_more _ r in let v = r.small in grind (arith, c.if-not-contains.true, c.contains.ensures.cases)))

pub returns-then-q-eq0 : goal.returns-then-q-eq0
returns-then-q-eq0 c = sym (not_odd_prime _ (λ r. let w = r.odd in omega arith))

pub loop-k-init : goal.loop-k-init
loop-k-init c = undivided_below_three _ c.if-q-eq0.false

pub returns-then-d-q : goal.returns-then-d-q
returns-then-d-q c =
    let more : 2 < c.args.q = grind (arith, c.if-not-contains.false, c.contains.ensures.cases) in
    let small : c.args.q < 4096 = grind (arith, c.if-not-contains.false, c.contains.ensures.cases) in
    sym (undivided_odd_prime _ _ more small c.if-q-eq0.false c.if-d-q.true c.loop-k.invariant)

pub returns-then-q-d-eq0 : goal.returns-then-q-d-eq0
returns-then-q-d-eq0 c = sym (divided_not_odd_prime _ _ (omega arith) (omega arith) c.if-q-d-eq0.true)

pub loop-k-preserved : goal.loop-k-preserved
loop-k-preserved c =
    let k = c.loop-k.k in
    let next = undivided_below_next _ _ c.if-q-eq0.false (omega arith) c.if-q-d-eq0.false c.loop-k.invariant in
    subst (λ (d : ℕ). UndividedBelow c.args.q d) (let e : 2 * k + 1 + 2 ≡ 2 * (k + 1) + 1 = omega arith in e) next

pub returns : goal.returns
returns c =
    let more : 2 < c.args.q = grind (arith, c.if-not-contains.false, c.contains.ensures.cases) in
    let small : c.args.q < 4096 = grind (arith, c.if-not-contains.false, c.contains.ensures.cases) in
    let from : 64 ≤ 2 * c.loop-k.k + 1 = omega arith in
    let w = mul-le-mul from from in
    sym (undivided_odd_prime _ _ more small c.if-q-eq0.false (omega arith) c.loop-k.invariant)
