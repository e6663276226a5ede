use Rattle.std.proofs.Common.{◌≡◌, ◌&&◌, take, true}
use Rattle.std.specs.List.{list_all}
use Rattle.smk_base.specs.Path.{is_path}
use Rattle.smk_world.specs.Calls.{in_folder}
use Rattle.smk_world.specs.World.{folders_above}
use Rattle.smk_world.specs.Trees.{is_path_text}
use Rattle.smk_record.specs.Records.{is_member_folder}
use Rattle.smk_record.proofs.valid.are_valid_members.Given as goal

abbrev pub invariant-loop-member : goal.invariant-loop-member
invariant-loop-member l = record {
  fit : list_all (λ m. is_path_text m.name && is_path (in_folder l.fn.path m.name)) (take l.member-index l.members) ≡ true;
  above : list_all (λ m. list_all (is_member_folder l.members) (folders_above m.name)) (take l.member-index l.members) ≡ true;
}
