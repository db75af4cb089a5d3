-- Re-exports of base_places: coefficients that are not reduced.
pub use Rattle.base_places.specs.Row.{Bounded, Ends, at_take}
