-- Re-exports of base_places: records of 129 places.
pub use Rattle.base_places.specs.Record.{poly, Held, Is}
