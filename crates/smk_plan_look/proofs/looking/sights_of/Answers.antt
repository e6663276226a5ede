use Rattle.std.proofs.Common.{◌≡◌, Some, sym, ap, ◌++◌, ◌∙◌, string_bytes}
use Rattle.std.specs.List.{filter}
use Rattle.smk_world.specs.Trees.{is_path_text}
use Rattle.smk_store.specs.Walking.{texts_of, path_in}
use Rattle.smk_world.proofs.Devices.{looked_on, looked_memory, looked_then, still}
use Rattle.smk_store.proofs.Loads.{one_more, all_found, paths_rise, is_text_path}
use Rattle.smk_record.specs.Records.{are_rising}
use Rattle.smk_plan_look.proofs.Found.{path_pushed, sight_pushed}
use Rattle.smk_plan_look.proofs.looking.sights_of.Goals as goal

pub returns-in_err-path-clause-looked : goal.returns-in_err-path-clause-looked
returns-in_err-path-clause-looked g c = looked_memory _ c.from_residual.ensures.1 c.loop-text.invariant.looked

pub returns-in_err-sight-clause-looked : goal.returns-in_err-sight-clause-looked
returns-in_err-sight-clause-looked g c =
    looked_then c.loop-text.invariant.looked (looked_on _ c.in_err-sight.was c.from_residual-in_err-sight.ensures.1 c.sight_at.ensures.looked)

pub returns-in_err-push-clause-looked : goal.returns-in_err-push-clause-looked
returns-in_err-push-clause-looked g c =
    looked_memory _ c.from_residual-in_err-push.ensures.1 (looked_then c.loop-text.invariant.looked c.in_ok-sight.ensures.looked)

pub loop-text-preserved : goal.loop-text-preserved
loop-text-preserved g c =
    let v = c.loop-text.invariant in
    let text = string_bytes c.in-Some.text.now in
    let path = c.in-Some-2.path in
    let is : Some path ≡ path_in text = sym c.in-Some-2.is ∙ c.in_ok-path.ensures ∙ ap path_in c.as_str.ensures.value in
    record {
      looked = looked_then v.looked c.in_ok-sight.ensures.looked;
      found = ap (λ l. l ++ filter is_path_text (texts_of c.next.new.self)) (path_pushed c.loop-text.sights _ c.in_ok-sight.sight path c.in_ok-push.ensures.ok c.in_ok-sight.ensures.path)
          ∙ one_more _ text (texts_of c.next.new.self) (texts_of c.loop-text.text-iterator) _ path is (ap texts_of c.in-Some.ensures.steps) v.found;
      told = λ w at.
          let u = still w v.looked at in
          sight_pushed u.0.nodes w.nodes c.loop-text.sights _ c.in_ok-sight.sight path c.in_ok-push.ensures.ok c.in_ok-sight.ensures.path u.2
          (λ free. c.in_ok-sight.ensures.told u.0 u.1 free (is_text_path text path is)) (v.told w at);
    }

pub returns-clause-rising : goal.returns-clause-rising
returns-clause-rising g c =
    let v = c.loop-text.invariant in
    let gives = c.into_iter-text-iterator.ensures.into_iter_gives in
    ap are_rising (all_found _ (texts_of c.loop-text.text-iterator) _ (ap texts_of c.in-None.ensures.steps.0) v.found ∙ ap (λ ks. filter is_path_text (texts_of ks)) gives.0)
    ∙ paths_rise c.args.paths.now.keys gives.4

pub returns-clause-paths : goal.returns-clause-paths
returns-clause-paths g c =
    let v = c.loop-text.invariant in
    let gives = c.into_iter-text-iterator.ensures.into_iter_gives in
    all_found _ (texts_of c.loop-text.text-iterator) _ (ap texts_of c.in-None.ensures.steps.0) v.found ∙ ap (λ ks. filter is_path_text (texts_of ks)) gives.0
