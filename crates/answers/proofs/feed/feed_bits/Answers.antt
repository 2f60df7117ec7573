use mathlib.Core.Path.{◌∙◌, ap}
use Rattle.answers.proofs.feed.Bits.{times, all_bytes, packed_eight, bits, bits_of_bytes}
use Rattle.answers.proofs.feed.feed_bits.Goals as goal

pub returns : goal.returns
unfolding times
returns c =
    let s = c.args.eight.now in
    let size = c.told-eight in
    ap (bits 8) (c.from_le_bytes-differs.ensures ∙ packed_eight s size) ∙ rw size at (bits_of_bytes s (all_bytes s c.fits-eight))
