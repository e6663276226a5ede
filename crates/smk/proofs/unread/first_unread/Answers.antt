use Rattle.std.proofs.Common.{◌≡◌, ◌<◌, ◌≤◌, ◌+◌, ◌-◌, ℕ, length, map, take, string_bytes, sym, subst, arith}
use Rattle.std.proofs.lemmas.List.{take_all}
use Rattle.smk_words_reading.specs.Asks.{AreUnread}
use Rattle.smk.proofs.unread.first_unread.Goals as goal

-- all of the words can't go on
pub loop-bad-init : goal.loop-bad-init
loop-bad-init c =
    let some : 0 < length c.args.words.now = grind (arith, c.is_empty.ensures, c.if-is_empty.false) in
    let least : length c.args.words.now ≤ length c.args.words.now = omega arith in
    let all : c.args.words.now ≡ take (length c.args.words.now) c.args.words.now = sym (take_all (length c.args.words.now) c.args.words.now least) in
    (some, least, subst (λ words. AreUnread (map string_bytes words)) all (c.in_ok-can.ensures c.if-can.false))

pub returns-clause-unread : goal.returns-clause-unread
returns-clause-unread c =
    let some : 0 < c.loop-bad.bad = omega (arith, c.loop-bad.invariant.0) in
    let same : c.loop-bad.bad ≡ c.loop-bad.bad - 1 + 1 = omega (arith, some) in
    λ within. subst (λ (n : ℕ). AreUnread (map string_bytes (take n c.args.words.now))) same c.loop-bad.invariant.2
