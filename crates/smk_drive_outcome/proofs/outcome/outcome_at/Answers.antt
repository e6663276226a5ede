use Rattle.std.proofs.Common.{[], ◌∷◌, ◌++◌, map, sym, ap, subst, ◌∙◌}
use Rattle.std.proofs.lemmas.List.{take_all}
use Rattle.smk_world.specs.Trees.{Each}
use Rattle.smk_world.proofs.Devices.{looked_on, looked_then, next, still}
use Rattle.smk_store.specs.Loading.{store_folder}
use Rattle.smk_store.specs.Unowned.{IsUnownedUnder}
use Rattle.smk_plan_look.proofs.Found.{path_pushed}
use Rattle.smk_drive_outcome.specs.Outcomes.{TellsUnowned, entry_by}
use Rattle.smk_drive_outcome.proofs.Telling.{as_long, entry_pushed, longer, outcomes_are, text_at}
use Rattle.smk_drive_outcome.proofs.outcome.outcome_at.Goals as goal

pub push_output-requires : goal.push_output-requires
push_output-requires g c = record { text = text_at c.args.paths.now c.loop-path.path-index c.path-item.result c.loop-path-test.true c.path-item.is c.see_paths.ensures }

pub returns-in_err-push_output-clause-looked : goal.returns-in_err-push_output-clause-looked
returns-in_err-push_output-clause-looked g c =
    looked_then c.loop-path.invariant.looked (looked_on _ c.in_err-push_output.was c.from_residual.ensures.1 c.push_output.ensures.looked)

pub loop-path-preserved : goal.loop-path-preserved
loop-path-preserved g c =
    let v = c.loop-path.invariant in
    let added = c.in_ok-push_output.ensures.added in
    let taken = next c.args.paths.now c.loop-path.path-index c.path-item.result c.loop-path-test.true c.path-item.is in
    record {
      looked = looked_then v.looked c.in_ok-push_output.ensures.looked;
      paths = path_pushed c.loop-path.found.sights _ added.sight c.path-item.result added.sights added.path ∙ ap (λ ps. ps ++ c.path-item.result ∷ []) v.paths ∙ sym taken;
      each = longer _ _ _ _ added.entry added.sight added.entries added.sights v.each;
      entries = λ w at own read reads.
          let u = still w v.looked at in
          entry_pushed read u.0.nodes w.nodes c.args.paths.now c.loop-path.path-index c.path-item.result c.loop-path.found.entries _ taken u.2
          (c.in_ok-push_output.ensures.entry u.0 u.1 (subst (λ n. IsUnownedUnder n store_folder) (sym u.2) own) read reads) (v.entries w at own read reads);
      sights = λ w at.
          let u = still w v.looked at in
          subst (λ n. Each (TellsUnowned n) c.push_output.new.found.sights) u.2
          (c.in_ok-push_output.ensures.sight u.0 u.1 (subst (λ n. Each (TellsUnowned n) c.loop-path.found.sights) (sym u.2) (v.sights w at)));
    }

pub returns-clause-each : goal.returns-clause-each
returns-clause-each g c =
    let v = c.loop-path.invariant in
    let paths = v.paths ∙ take_all c.loop-path.path-index c.args.paths.now c.loop-path-test.false in
    record { entries = v.each ∙ as_long c.loop-path.found.sights c.args.paths.now paths; sights = paths }

pub returns-clause-told : goal.returns-clause-told
returns-clause-told g c = λ w at unowned read reads.
    let v = c.loop-path.invariant in
    let all = take_all c.loop-path.path-index c.args.paths.now c.loop-path-test.false in
    outcomes_are read w ((g.met.W.Files.sound c.args.work.now).formed w at) ((g.met.W.Files.sound c.args.work.now).tree w at) c.args.paths.now c.loop-path.found
    c.see_paths.ensures unowned.outputs (v.paths ∙ all) (v.entries w at unowned.own read reads ∙ ap (map (entry_by read w.nodes)) all) (v.sights w at)
