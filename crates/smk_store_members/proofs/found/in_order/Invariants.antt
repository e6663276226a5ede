use Rattle.std.proofs.Common.{◌≡◌, ◌++◌}
use Rattle.smk_world.specs.Trees.{Each}
use Rattle.smk_record.specs.Records.{is_member_folder}
use Rattle.smk_store.specs.Walking.{texts_of}
use Rattle.smk_store_members.specs.Steps.{names_of}
use Rattle.smk_store_members.proofs.found.in_order.Given as goal

abbrev pub invariant-loop-text : goal.invariant-loop-text
invariant-loop-text l = record {
  whole : names_of l.members ++ texts_of l.text-iterator ≡ texts_of l.walk.names.keys;
  kinds : Each (λ m. m.folder ≡ is_member_folder l.walk.found m.name) l.members;
}
