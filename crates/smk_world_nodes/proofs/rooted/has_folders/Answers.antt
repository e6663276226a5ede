use Rattle.std.proofs.Common.{◌≡◌, ◌<◌, ◌-◌, length, take, get_or, arith, ap, sym, subst, ◌∙◌, true}
use Rattle.smk_world_nodes.proofs.Above.{is_short_above, all_short}
use Rattle.smk_world_nodes.proofs.Stood.{at_slash, no_slash}
use Rattle.smk_world_nodes.proofs.rooted.has_folders.Goals as goal
use Rattle.smk_world_nodes.proofs.rooted.has_folders.Goals.{then-b-eq47+else-not-is_folder, else-b-eq47}

pub loop-i-preserved : goal.loop-i-preserved
loop-i-preserved c = λ f h.
    let text = c.args.p.now in
    let same : c.as_bytes-b-items.result.now ≡ text = c.as_bytes-b-items.ensures.value in
    let lt : c.loop-i.i < length text = subst (λ s. c.loop-i.i < length s) same c.loop-i-test.true in
    let less_none : c.loop-i.i - 0 ≡ c.loop-i.i = omega arith in
    elim c.if-b-eq47.branch [
      | then-b-eq47+else-not-is_folder w ↦ at_slash c.args.nodes.now text c.loop-i.i lt c.loop-i.invariant f h w.range.result.now (w.range.ensures.value ∙ ap (λ n. take n text) less_none) (sym w.is_folder.ensures ∙ w.if-not-is_folder.false)
      | else-b-eq47 w ↦ no_slash c.args.nodes.now text c.loop-i.i lt c.loop-i.invariant f h (λ e. w.if-b-eq47.false (ap (λ s. get_or s c.loop-i.i 0) same ∙ e))
    ]

pub returns : goal.returns
returns c = λ is f under.
    let text = c.args.p.now in
    let end : c.loop-i.i ≡ length text = omega (arith, c.loop-i.auto.i-end, c.loop-i-test.false, ap length c.as_bytes-b-items.ensures.value) in
    c.loop-i.invariant f (ap (λ n. is_short_above text n f) end ∙ all_short text f ∙ under)
