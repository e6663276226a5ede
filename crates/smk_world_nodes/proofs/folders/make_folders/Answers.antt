use Rattle.std.proofs.Common.{None, ◌≡◌, ap, subst, ◌∙◌, length, arith, ◌<◌, ◌-◌, get_or, take}
use Rattle.std.specs.Prelude.{if◌then◌else◌}
use Rattle.std.specs.declared.alloc.Global.{Global}
use Rattle.std.specs.Prelude.{Vec, String}
use Rattle.smk_base.specs.Path.{is_under}
use Rattle.smk_world_nodes.specs.Nodes.{node_at, or_folder, is_listed}
use Rattle.smk_world_nodes.proofs.Above.{folder_made, folder_kept, all_short, is_short_above}
use Rattle.smk_world_nodes.proofs.folders.make_folders.Goals as goal
use Rattle.smk_world_nodes.proofs.folders.make_folders.Goals.{then-b-eq47+in_ok-make_folder, else-b-eq47}

pub loop-i-preserved : goal.loop-i-preserved
loop-i-preserved c =
    let text = c.as_str-text.result.now in
    let same : c.as_bytes-b-items.result.now ≡ text = c.as_bytes-b-items.ensures.value in
    let lt : c.loop-i.i < length text = subst (λ s. c.loop-i.i < length s) same c.loop-i-test.true in
    let less_none : c.loop-i.i - 0 ≡ c.loop-i.i = omega arith in
    elim c.if-b-eq47.branch [
      | then-b-eq47+in_ok-make_folder w ↦ record {
        made = λ q.
            folder_made text c.loop-i.i q w.range.result.now (node_at c.args.nodes.now q) (node_at c.loop-i.nodes q) (node_at c.if-b-eq47.nodes q) lt
            (subst (λ s. get_or s c.loop-i.i 0 ≡ 47) same w.if-b-eq47.true) (w.range.ensures.value ∙ ap (λ n. take n text) less_none) (c.loop-i.invariant.made q)
            (ap (λ n. node_at n q) w.nodes-is ∙ w.in_ok-make_folder.ensures.ok q);
        back = λ q.
            ap (λ n. if is_listed q c.if-b-eq47.made.items then None else node_at n q) w.nodes-is
            ∙ ap (λ (m : Vec (String Global) Global). if is_listed q m.items then None else node_at w.make_folder.new.nodes q) w.made-is
            ∙ w.in_ok-make_folder.ensures.back q ∙ c.loop-i.invariant.back q;
      }
      | else-b-eq47 w ↦ record {
        made = λ q.
            folder_kept text c.loop-i.i q (node_at c.args.nodes.now q) (node_at c.if-b-eq47.nodes q) lt
            (λ e. w.if-b-eq47.false (ap (λ s. get_or s c.loop-i.i 0) same ∙ e)) (ap (λ n. node_at n q) w.nodes-is ∙ c.loop-i.invariant.made q);
        back = λ q.
            ap (λ n. if is_listed q c.if-b-eq47.made.items then None else node_at n q) w.nodes-is
            ∙ ap (λ (m : Vec (String Global) Global). if is_listed q m.items then None else node_at c.loop-i.nodes q) w.made-is
            ∙ c.loop-i.invariant.back q;
      }
    ]

pub returns-clause-ok : goal.returns-clause-ok
returns-clause-ok c = λ q.
    let text = c.as_str-text.result.now in
    let end : c.loop-i.i ≡ length text = omega (arith, ap length c.as_bytes-b-items.ensures.value) in
    c.loop-i.invariant.made q
    ∙ ap (λ v. if v then or_folder (node_at c.args.nodes.now q) else node_at c.args.nodes.now q)
    (ap (λ n. is_short_above text n q) end ∙ all_short text q ∙ ap (λ t. is_under t q) c.as_str-text.ensures)
