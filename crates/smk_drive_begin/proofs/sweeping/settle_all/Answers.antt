use Rattle.std.proofs.Common.{length, List, ◌≤◌, ℕ, subst}
use Rattle.smk_drive_begin.proofs.Answering.{settled_carried}
use Rattle.smk_drive_begin.proofs.sweeping.settle_all.Goals as goal

pub returns-in-len1-up : goal.returns-in-len1-up
returns-in-len1-up g c =
    settled_carried g.W.Files.act c.args.removed.now _ _ c.settle.result (subst (λ (xs : List (List ℕ)). 1 ≤ length xs) c.as_slice.ensures c.in-len1-up.len_at_least) c.settle.ensures
