-- After some turns the room is what the last left in it.
use Rattle.std.proofs.Common.{◌≡◌, ◌<◌}
use Rattle.bench_ideals.proofs.turns.repeat.Given as goal

abbrev pub invariant-loop : goal.invariant-loop
invariant-loop g l =
    goal.F-IsAlwaysCallable g l.turn
    × (l.counter ≡ 0 → l.room ≡ l.fn.room)
    × (0 < l.counter → (before : _) × (after : _) × goal.F-post g l.turn before tt after × (after.now ≡ l.room))
