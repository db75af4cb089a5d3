-- Re-exports of spec_lists: the laws of `pad`.
pub use Rattle.spec_lists.specs.Pad.{length_pad, at_pad, take_pad, pad_suc, pad_pad, pad_take}
