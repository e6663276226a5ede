use Rattle.std.proofs.Common.{◌≡◌, ℕ, ◌<◌, take, get_or, true}
use Rattle.smk_record.specs.Records.{is_member_folder}
use Rattle.smk_record.proofs.valid.has_folders_above.Given as goal

abbrev pub invariant-loop-i : goal.invariant-loop-i
invariant-loop-i l = (k : ℕ) → k < l.i → get_or l.name k 0 ≡ 47 → is_member_folder l.members (take k l.name) ≡ true
