-- Re-exports of base_places: the laws of `pad`.
pub use Rattle.base_places.specs.Pad.{length_pad, at_pad, take_pad, pad_suc, pad_pad, pad_take}
