use Rattle.std.proofs.Common.{rules, ◌≡◌, ◌||◌, ap, ◌∙◌, None, bytes_eq}
use Rattle.std.specs.Prelude.{if◌then◌else◌}
use Rattle.smk_base.proofs.Places.{same_place}
use Rattle.smk_world_nodes.specs.Nodes.{node_at, or_folder, is_listed}
use Rattle.smk_world_nodes.proofs.Undone.{listed_more, back_made, back_kept, set_folder}
use Rattle.smk_world_nodes.proofs.folders.make_folder.Goals as goal

pub returns-in_err-set-clause-back : goal.returns-in_err-set-clause-back
returns-in_err-set-clause-back c = λ q.
    let nothing : node_at c.args.nodes.now c.args.p.now ≡ None = search rules in
    let old = node_at c.args.nodes.now q in
    let new = node_at c.set.new.self q in
    ap (λ keys. if is_listed q keys then None else new) c.in_ok-push.ensures.items
    ∙ ap (λ b. if b then None else new) (listed_more q c.args.made.now.items c.in_ok-from_str.field-0 ∙ ap (λ t. is_listed q c.args.made.now.items || bytes_eq q t) c.in_ok-from_str.ensures.ok)
    ∙ back_kept (is_listed q c.args.made.now.items) (bytes_eq q c.args.p.now) old new (λ e. ap (node_at c.args.nodes.now) (same_place q c.args.p.now e) ∙ nothing) (c.in_err-set.ensures.err q)

pub returns-in_ok-set-clause-back : goal.returns-in_ok-set-clause-back
returns-in_ok-set-clause-back c = λ q.
    let nothing : node_at c.args.nodes.now c.args.p.now ≡ None = search rules in
    let old = node_at c.args.nodes.now q in
    let new = node_at c.set.new.self q in
    let set : new ≡ (if bytes_eq q c.args.p.now then or_folder old else old) = set_folder (bytes_eq q c.args.p.now) old new (λ e. ap (node_at c.args.nodes.now) (same_place q c.args.p.now e) ∙ nothing) (c.in_ok-set.ensures.ok q) in
    ap (λ keys. if is_listed q keys then None else new) c.in_ok-push.ensures.items
    ∙ ap (λ b. if b then None else new) (listed_more q c.args.made.now.items c.in_ok-from_str.field-0 ∙ ap (λ t. is_listed q c.args.made.now.items || bytes_eq q t) c.in_ok-from_str.ensures.ok)
    ∙ back_made (is_listed q c.args.made.now.items) (bytes_eq q c.args.p.now) old new (λ e. ap (node_at c.args.nodes.now) (same_place q c.args.p.now e) ∙ nothing) set
