use Rattle.std.proofs.Common.{◌≡◌, Some, sym, ap, ◌++◌, ◌∙◌, string_bytes}
use Rattle.std.specs.List.{filter}
use Rattle.smk_world.specs.Trees.{is_path_text}
use Rattle.smk_store.specs.Images.{seen}
use Rattle.smk_store.specs.Walking.{texts_of, path_in}
use Rattle.smk_world.proofs.Devices.{looked_on, looked_memory, looked_then, still}
use Rattle.smk_store.specs.Loading.{store_folder}
use Rattle.smk_store.proofs.Looks.{unowned_still}
use Rattle.smk_store.proofs.Loads.{one_more, all_found, are_kept, store_known, entry_still, signs_still, entry_pushed, lengths_pushed, is_text_path}
use Rattle.smk_store.proofs.loading.store_of.Goals as goal

pub returns-in_err-path-clause-looked : goal.returns-in_err-path-clause-looked
returns-in_err-path-clause-looked g c = looked_memory _ c.from_residual.ensures.1 c.loop-text.invariant.looked

pub returns-in_err-entry-clause-looked : goal.returns-in_err-entry-clause-looked
returns-in_err-entry-clause-looked g c =
    looked_then c.loop-text.invariant.looked (looked_on _ c.in_err-entry.was c.from_residual-in_err-entry.ensures.1 c.entry_of.ensures.looked)

pub returns-in_err-push-clause-looked : goal.returns-in_err-push-clause-looked
returns-in_err-push-clause-looked g c = looked_memory _ c.from_residual-in_err-push.ensures.1 (looked_then c.loop-text.invariant.looked c.in_ok-entry.ensures.looked)

pub returns-in_err-push-2-clause-looked : goal.returns-in_err-push-2-clause-looked
returns-in_err-push-2-clause-looked g c = looked_memory _ c.from_residual-in_err-push-2.ensures.1 (looked_then c.loop-text.invariant.looked c.in_ok-entry.ensures.looked)

pub loop-text-preserved : goal.loop-text-preserved
loop-text-preserved g c =
    let v = c.loop-text.invariant in
    let text = string_bytes c.in-Some.text.now in
    let path = c.in-Some-2.path in
    let is : Some path ≡ path_in text = sym c.in-Some-2.is ∙ c.in_ok-path.ensures ∙ ap path_in c.as_str.ensures.value in
    record {
      looked = looked_then v.looked c.in_ok-entry.ensures.looked;
      found = ap (λ l. l ++ filter is_path_text (texts_of c.next.new.self)) c.in_ok-push.ensures.ok
          ∙ one_more c.loop-text.paths text (texts_of c.next.new.self) (texts_of c.loop-text.text-iterator) _ path is (ap texts_of c.in-Some.ensures.steps) v.found;
      each = lengths_pushed c.loop-text.paths c.push.new.self path c.loop-text.entries c.push-in-loop-text.new.self c.in_ok-entry.entry c.in_ok-push.ensures.ok c.in_ok-push-2.ensures.ok v.each;
      told = λ w at free signs read reads.
          let u = still w v.looked at in
          entry_pushed (seen read w) c.loop-text.paths c.push.new.self path c.loop-text.entries c.push-in-loop-text.new.self c.in_ok-entry.entry c.in_ok-push.ensures.ok c.in_ok-push-2.ensures.ok (v.told w at free signs read reads)
          (c.in_ok-entry.ensures.told u.0 u.1 (unowned_still w.nodes u.0.nodes store_folder u.2 free) (signs_still w u.0 _ _ _ u.2 signs) (is_text_path text path is) read reads ∙ entry_still read w u.0 path u.2);
    }

pub of-requires : goal.of-requires
of-requires g c =
    let v = c.loop-text.invariant in
    let gives = c.into_iter-text-iterator.ensures.into_iter_gives in
    are_kept c.loop-text.paths c.loop-text.entries c.args.all.now.keys gives.4
    (all_found c.loop-text.paths (texts_of c.loop-text.text-iterator) _ (ap texts_of c.in-None.ensures.steps.0) v.found ∙ ap (λ ks. filter is_path_text (texts_of ks)) gives.0) v.each

pub returns-clause-told : goal.returns-clause-told
returns-clause-told g c = λ w at free signs read reads.
    let v = c.loop-text.invariant in
    let gives = c.into_iter-text-iterator.ensures.into_iter_gives in
    store_known (seen read w) c.of.result c.loop-text.paths c.loop-text.entries _ c.of.ensures (v.told w at free signs read reads)
    (all_found c.loop-text.paths (texts_of c.loop-text.text-iterator) _ (ap texts_of c.in-None.ensures.steps.0) v.found ∙ ap (λ ks. filter is_path_text (texts_of ks)) gives.0)
