use Rattle.std.proofs.Common.{rules, ◌≡◌, ◌||◌, ◌++◌, ◌∷◌, [], ◌+◌, map, take, ap, sym, ◌∙◌, string_bytes}
use Rattle.std.specs.Option.{option_map}
use Rattle.std.proofs.lemmas.List.{take_more}
use Rattle.smk_world_nodes.specs.Nodes.{node_at, name_under, is_folder_there}
use Rattle.smk_world_nodes.proofs.Lists.{keys_more, names_step, strange_step}
use Rattle.smk_world_nodes.proofs.listing.list_keys.Goals as goal

pub loop-key-preserved : goal.loop-key-preserved
loop-key-preserved c =
    let keys = c.args.keys.now in
    let i = c.loop-key.key-index in
    let k = c.key-item.result in
    let more = keys_more (take i keys) (take (i + 1) keys) k (take_more keys i k c.loop-key-test.true ∙ ap (λ x. take i keys ++ x ∷ []) (sym c.key-item.is)) in
    let folder : c.is_folder-folder.result ≡ is_folder_there (node_at c.args.nodes.now (string_bytes k)) = search rules in
    let name : option_map (λ n. n.now) c.name_in-name.result ≡ name_under (string_bytes k) c.args.p.now = search rules in
    let either : c.if-strange.strange ≡ (c.loop-key.strange || c.in_ok-other.other) = search rules in (
      names_step c.args.nodes.now c.args.p.now (map string_bytes (take i keys)) (map string_bytes (take (i + 1) keys)) (string_bytes k) c.is_folder-folder.result (option_map (λ n. n.now) c.name_in-name.result) c.loop-key.names c.push_entry.new.names
          more folder name c.loop-key.invariant.0 c.in_ok-other.ensures.names,
      strange_step c.args.p.now (map string_bytes (take i keys)) (map string_bytes (take (i + 1) keys)) (string_bytes k) (option_map (λ n. n.now) c.name_in-name.result) c.loop-key.strange c.in_ok-other.other c.if-strange.strange
          more name c.loop-key.invariant.1 c.in_ok-other.ensures.strange either,
    )
