use Rattle.answers.proofs.feed.Bits.{none_first, some_first}
use Rattle.answers.proofs.feed.first_feed.Goals as goal

pub returns-then-first-second-eq0 : goal.returns-then-first-second-eq0
returns-then-first-second-eq0 c =
    none_first _ c.told-bytes c.as_chunks.ensures.front c.feed_bits-first.ensures c.feed_bits-second.ensures c.feed_bits-third.ensures
    c.if-first-second-eq0.true

pub returns : goal.returns
returns c =
    some_first _ c.told-bytes c.as_chunks.ensures.front c.feed_bits-first.ensures c.feed_bits-second.ensures c.feed_bits-third.ensures
    c.zero_bytes.ensures c.zero_bytes-2.ensures c.before_feed-later.ensures c.zero_bytes-3.ensures c.before_feed.ensures c.if-first-second-eq0.false
