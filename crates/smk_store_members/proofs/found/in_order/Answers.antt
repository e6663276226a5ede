use Rattle.std.proofs.Common.{◌≡◌, ◌++◌, ap, sym, subst, ◌∙◌}
use Rattle.std.specs.BTreeSet.{contains_text}
use Rattle.smk_world.specs.Trees.{Each}
use Rattle.smk_record.specs.Records.{is_member_folder}
use Rattle.smk_store.specs.Walking.{texts_of}
use Rattle.smk_store_members.specs.Steps.{names_of}
use Rattle.smk_store_members.proofs.Sets.{text_path, order_next, kinds_next, ordered}
use Rattle.smk_store_members.proofs.found.in_order.Goals as goal

pub loop-text-init : goal.loop-text-init
loop-text-init c = record {
  whole = ap (λ ms. names_of ms ++ texts_of c.into_iter-text-iterator.result) c.new-members.ensures ∙ ap texts_of c.into_iter-text-iterator.ensures.into_iter_gives.0;
  kinds = subst (Each (λ m. m.folder ≡ is_member_folder c.args.walk.now.found m.name)) (sym c.new-members.ensures) tt;
}

pub path_of-requires : goal.path_of-requires
path_of-requires c = record {
  path = text_path c.args.walk.now.found c.args.walk.now.names c.args.walk.now.folders (names_of c.loop-text.members) c.loop-text.text-iterator _ c.in-Some.text.now c.as_str.result.now c.requires.kept c.loop-text.invariant.whole c.in-Some.ensures.steps c.as_str.ensures.value;
}

pub loop-text-preserved : goal.loop-text-preserved
loop-text-preserved c = record {
  whole = order_next c.loop-text.members c.push.new.self _ (texts_of c.args.walk.now.names.keys) c.loop-text.text-iterator c.next.new.self c.in-Some.text.now c.loop-text.invariant.whole c.in-Some.ensures.steps (c.in_ok-name.ensures ∙ c.as_str.ensures.value) c.in_ok-push.ensures.ok;
  kinds = kinds_next c.args.walk.now.found c.loop-text.members c.push.new.self c.args.walk.now.names c.args.walk.now.folders _ c.as_str.result.now c.requires.kept c.loop-text.invariant.kinds c.in_ok-name.ensures
      (c.contains-folder.ensures ∙ ap (contains_text c.args.walk.now.folders) (c.as_str-in-loop-text.ensures.value ∙ sym c.as_str.ensures.value)) c.in_ok-push.ensures.ok;
}

pub returns : goal.returns
returns c =
    ordered c.args.walk.now.found c.loop-text.members c.args.walk.now.names c.args.walk.now.folders c.loop-text.text-iterator c.requires.kept c.into_iter-text-iterator.ensures.into_iter_gives.4 c.in-None.ensures.steps.0 c.loop-text.invariant.whole c.loop-text.invariant.kinds
