use Rattle.std.proofs.Common.{◌<◌, ◌≤◌, ◌-◌, length, map, take, string_bytes}
use Rattle.smk_words_reading.specs.Asks.{AreUnread}
use Rattle.smk.proofs.unread.first_unread.Given as goal

abbrev pub invariant-loop-bad : goal.invariant-loop-bad
invariant-loop-bad l = (l.good < l.bad) × (l.bad ≤ length l.words) × AreUnread (map string_bytes (take l.bad l.words))

abbrev pub decreases-loop-bad : goal.decreases-loop-bad
decreases-loop-bad l = l.bad - l.good
