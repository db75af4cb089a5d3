use Rattle.std.proofs.Common.{ℕ, ◌<◌, ◌+◌, arith, refl, sym, ap, ◌∙◌, subst, length, rules}
use Rattle.spec_arithmetic.specs.Words.{values, value}
use Rattle.spec_several.specs.Several.{several_of, sixteen_places}
use Rattle.spec_lists.specs.Words.{value_less}
use Rattle.call_regulators.proofs.Filled.{filled_all, count_most, words_are, count_primes, prime_at, filled_more}
use Rattle.call_regulators.proofs.at_primes.Goals as goal

pub bounds-ticket-0 : goal.bounds-ticket-0
bounds-ticket-0 c = omega (arith, words_are _ c.requires)

pub overflow_sub-primes : goal.overflow_sub-primes
overflow_sub-primes c = omega (arith, words_are _ c.requires)

pub slice_bounds-primes-count : goal.slice_bounds-primes-count
slice_bounds-primes-count c = omega (arith, words_are _ c.requires, c.value.ensures)

pub slice_bounds-primes-start : goal.slice_bounds-primes-start
slice_bounds-primes-start c = let h = words_are _ c.requires in let v = c.value.ensures in search rules

pub loop-i-init : goal.loop-i-init
unfolding sixteen_places
loop-i-init c = refl

pub read_job-requires : goal.read_job-requires
read_job-requires c = (subst (λ (q : ℕ). q < values) (sym c.value-in-loop-i.ensures) (value_less _), c.requires)

-- fewer than sixteen have their outcome
more : (c : goal.After-outcome_of) → c.loop-i.i < 16
more c = omega (arith, c.loop-i-test.true, count_primes _ c.requires _ (ap (λ n. n + 3) c.value.ensures), count_most _ c.requires)

pub offset_bounds-places-i : goal.offset_bounds-places-i
offset_bounds-places-i c = let m = more c in search rules

pub bounds-places-i : goal.bounds-places-i
bounds-places-i c = more c

pub loop-i-preserved : goal.loop-i-preserved
loop-i-preserved c =
    let l = c.loop-i in
    let first = ap (λ n. n + 3) c.value.ensures in
    let within : l.i < length (several_of c.args.ticket.now) = omega (arith, c.loop-i-test.true, count_primes _ c.requires _ first) in
    filled_more _ c.requires l.places _ l.i within c.value.ensures
    (c.value-in-loop-i.ensures ∙ ap value (prime_at _ c.requires _ l.i first within))
    (c.outcome_of.ensures _ (record { refused = c.read_job.ensures.refused; read = c.read_job.ensures.read })) l.invariant

pub returns : goal.returns
returns c =
    let l = c.loop-i in
    let count = count_primes _ c.requires _ (ap (λ n. n + 3) c.value.ensures) in
    record { words = refl; count = count; places = filled_all _ l.places l.i (omega (arith, count, c.loop-i-test.false, l.auto.i-end)) l.invariant }
