-- Re-exports of walk_short: what one step starts from and what it gives.
unfoldable pub use Rattle.walk_short.specs.Step.{step_quo, next_rem, next_q}
pub use Rattle.walk_short.specs.Step.{Inverses, Division, Ready, Moved, Stepped, division, next_past}
