use Rattle.std.proofs.Common.{◌≡◌, ℕ, ◌≤◌, length, arith, false, nat_lt}
use Rattle.std.proofs.lemmas.Bool.Decides.{nat_tests}
use Rattle.std.proofs.lemmas.List.{length-map}
use Rattle.smk_pattern.specs.Pieces.{parts_of, part_of}
use Rattle.smk_pattern.proofs.Behind.{stands_not}
use Rattle.smk_pattern.proofs.search.may_stand.Goals as goal

not_less : (a b : ℕ) → nat_lt a b ≡ false → b ≤ a
not_less a b e = grind (arith, nat_tests)

pub returns-in-Some : goal.returns-in-Some
returns-in-Some c = λ e.
    let count = c.in-Some.ensures.lookup.3.1 0 in
    let least = not_less c.in-Some.count.now (length c.args.later.now) e in
    stands_not c.args.behind.now c.args.number (parts_of c.args.later.now) c.requires (omega (arith, count, least, length-map c.args.later.now part_of))
