use Rattle.std.proofs.Common.{◌≡◌, ◌||◌, ℕ, List, drop}
use Rattle.std.specs.BTreeSet.{contains_text}
use Rattle.std.specs.List.{list_any}
use Rattle.smk_drive_pick.specs.Spending.{is_named_member}
use Rattle.smk_drive_pick.proofs.standing.names_of.Given as goal

abbrev pub invariant-loop-member : goal.invariant-loop-member
invariant-loop-member l = (q : List ℕ) →
    (contains_text l.names q || list_any (is_named_member l.folder q) (drop l.member-index l.members)) ≡ list_any (is_named_member l.folder q) l.members
