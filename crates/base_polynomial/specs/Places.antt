-- Re-exports of base_places: arrays by their values.
pub use Rattle.base_places.specs.Places.{Places, Filled, Within, Top, zeros, length_zeros, at_zeros, filled_none, filled_more, filled_all}
