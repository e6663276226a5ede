use Rattle.std.proofs.Common.{◌≡◌, drop}
use Rattle.std.specs.BTreeSet.{contains_text}
use Rattle.std.specs.List.{list_all}
use Rattle.smk_drive_pick.specs.Spending.{is_listed_in}
use Rattle.smk_drive_pick.proofs.standing.are_in.Given as goal

abbrev pub invariant-loop-member : goal.invariant-loop-member
invariant-loop-member l =
    list_all (is_listed_in (λ q. contains_text l.folders q) (λ q. contains_text l.files q)) l.members
    ≡ list_all (is_listed_in (λ q. contains_text l.folders q) (λ q. contains_text l.files q)) (drop l.member-index l.members)
