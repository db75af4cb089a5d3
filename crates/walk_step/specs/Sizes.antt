-- Re-exports of walk_short: an array that holds the quotient.
pub use Rattle.walk_short.specs.Sizes.{quo_within}
