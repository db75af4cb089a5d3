-- Re-exports of base_places: the laws of records.
pub use Rattle.base_places.specs.Held.{held_length, held_positive, length_poly, at_poly, is_poly, is_held, is_of}
