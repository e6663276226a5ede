use Rattle.std.proofs.Common.{◌≡◌, ◌<◌, ◌-◌, ◌||◌, length, take, get_or, arith, ap, subst, ◌∙◌}
use Rattle.smk_world.specs.World.{is_named}
use Rattle.smk_world_nodes.proofs.Above.{is_short_above, all_short}
use Rattle.smk_world_crash.proofs.Gathered.{folder_named, none_named}
use Rattle.smk_world_crash.proofs.reaches.add_folders.Goals as goal
use Rattle.smk_world_crash.proofs.reaches.add_folders.Goals.{then-b-eq47+in_ok-add_name, else-b-eq47}

pub loop-i-preserved : goal.loop-i-preserved
loop-i-preserved c =
    let text = c.args.text.now in
    let same : c.as_bytes-b-items.result.now ≡ text = c.as_bytes-b-items.ensures.value in
    let lt : c.loop-i.i < length text = subst (λ s. c.loop-i.i < length s) same c.loop-i-test.true in
    let less_none : c.loop-i.i - 0 ≡ c.loop-i.i = omega arith in
    elim c.if-b-eq47.branch [
      | then-b-eq47+in_ok-add_name w ↦ λ q.
          folder_named text c.loop-i.i q w.range.result.now (is_named q c.args.names.now) (is_named q c.loop-i.names) (is_named q c.if-b-eq47.names) lt
          (subst (λ s. get_or s c.loop-i.i 0 ≡ 47) same w.if-b-eq47.true) (w.range.ensures.value ∙ ap (λ n. take n text) less_none) (c.loop-i.invariant q)
          (ap (is_named q) w.names-is ∙ w.in_ok-add_name.ensures q)
      | else-b-eq47 w ↦ λ q.
          none_named text c.loop-i.i q (is_named q c.args.names.now) (is_named q c.if-b-eq47.names) lt (λ e. w.if-b-eq47.false (ap (λ s. get_or s c.loop-i.i 0) same ∙ e))
          (ap (is_named q) w.names-is ∙ c.loop-i.invariant q)
    ]

pub returns : goal.returns
returns c = λ q.
    let text = c.args.text.now in
    let end : c.loop-i.i ≡ length text = omega (arith, ap length c.as_bytes-b-items.ensures.value) in
    c.loop-i.invariant q ∙ ap (λ v. is_named q c.args.names.now || v) (ap (λ n. is_short_above text n q) end ∙ all_short text q)
