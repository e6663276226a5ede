use Rattle.std.proofs.Common.{◌∙◌, ◌+◌, ◌++◌, List, drop, zip, sym, ap}
use Rattle.std.proofs.lemmas.List.{append_assoc}
use Rattle.smk_world.specs.Trees.{Path}
use Rattle.smk_plan_states.specs.declared.lines.Temp.{Temp}
use Rattle.smk_drive_pick.specs.Spending.{ripe_of, ripe_paths}
use Rattle.smk_drive_pick.proofs.Zips.{zip_more}
use Rattle.smk_drive_pick.proofs.spending.push_paths.Goals as goal

pub loop-i-preserved : goal.loop-i-preserved
loop-i-preserved c =
    let live = c.args.live.now in
    let needed = c.args.needed.now in
    let paths = c.args.paths.now in
    let temps = c.args.temps.now in
    let i = c.loop-i.i in
    let path = c.index-paths-i.result in
    let temp = c.in-Some.temp.now in
    let old = c.loop-i.found in
    let rest = ripe_paths live needed (zip (drop (i + 1) paths) (drop (i + 1) temps)) in
    ap (λ (ps : List Path). ps ++ rest) c.in_ok-push.ensures
    ∙ append_assoc old (ripe_of live needed (path, temp)) rest
    ∙ sym (ap (λ (es : List (Path × Temp)). old ++ ripe_paths live needed es)
    (zip_more paths temps i path temp c.loop-i-test.true c.index-paths-i.is c.in-Some.ensures.lookup.0 c.in-Some.ensures.lookup.1))
    ∙ c.loop-i.invariant
