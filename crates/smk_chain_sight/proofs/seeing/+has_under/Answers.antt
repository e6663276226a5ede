use Rattle.std.proofs.Common.{arith, ◌≡◌, ap, subst, ◌∙◌, sym, true}
use Rattle.smk_world.specs.Calls.{in_folder}
use Rattle.smk_world.specs.Trees.{Path, is_path_text}
use Rattle.smk_world.proofs.Devices.{looked_list, looked_then, looked_on, still, listing_told}
use Rattle.smk_store.specs.Walking.{path_in}
use Rattle.smk_chain_sight.proofs.Eyes.{viewed_still}
use Rattle.smk_chain_sight.proofs.Noted.{one_further}
use Rattle.smk_chain_sight.proofs.Stand.{NoneAt, ListedIn}
use Rattle.smk_chain_sight.proofs.Under.{folder_listed, no_path_at, covered_at, folder_at, some_at, deeper_at, no_names, path_at, grows_at, found_there, none_there}
use Rattle.smk_chain_sight.proofs.seeing.+has_under.Goals as goal

pub returns-in_err-listing-clause-looked : goal.returns-in_err-listing-clause-looked
returns-in_err-listing-clause-looked g t c =
    looked_on _ c.in_err-listing.was c.from_residual-in_err-listing.ensures.1 (looked_list c.list.ensures)

pub loop-name-init : goal.loop-name-init
loop-name-init g t c =
    record {
      looked = looked_list c.in_ok-listing.ensures;
      told = λ w at image v path. no_names image c.args.folder.now c.as_slice-name-items.result.now;
    }

pub loop-name-preserved-in_default : goal.loop-name-preserved-in_default
loop-name-preserved-in_default g t c =
    let names = c.as_slice-name-items.result.now in
    let folder = c.args.folder.now in
    let i = c.loop-name.name-index in
    let n = c.name-item.result in
    record {
      looked = c.loop-name.invariant.looked;
      told = λ w at image v path.
          let l : ListedIn w.nodes c.args.store.now folder names = folder_listed w c.args.store.now image folder c.in_ok-place.place c.in_ok-listing.listing names v path c.in_ok-place.ensures c.as_slice-name-items.ensures
          (listing_told w c.list.ensures c.in_ok-listing.was at) in
          one_further (NoneAt image folder) names i n c.loop-name-test.true c.name-item.is (c.loop-name.invariant.told w at image v path)
          (no_path_at w.nodes c.args.store.now image v folder names l i n c.loop-name-test.true c.name-item.is
          (sym c.in_default.is ∙ c.in_ok-path.ensures ∙ ap (λ (p : Path). path_in (in_folder p c.as_str.result.now)) c.in_ok-place.ensures ∙ ap (λ (p : Path). path_in (in_folder folder p)) c.as_str.ensures));
    }

pub loop-name-preserved-then-covered : goal.loop-name-preserved-then-covered
loop-name-preserved-then-covered g t c =
    let names = c.as_slice-name-items.result.now in
    let folder = c.args.folder.now in
    let i = c.loop-name.name-index in
    let n = c.name-item.result in
    let is = sym c.in-Some.is ∙ c.in_ok-path.ensures ∙ ap (λ (p : Path). path_in (in_folder p c.as_str.result.now)) c.in_ok-place.ensures ∙ ap (λ (p : Path). path_in (in_folder folder p)) c.as_str.ensures in
    record {
      looked = c.loop-name.invariant.looked;
      told = λ w at image v path.
          let l : ListedIn w.nodes c.args.store.now folder names = folder_listed w c.args.store.now image folder c.in_ok-place.place c.in_ok-listing.listing names v path c.in_ok-place.ensures c.as_slice-name-items.ensures
          (listing_told w c.list.ensures c.in_ok-listing.was at) in
          one_further (NoneAt image folder) names i n c.loop-name-test.true c.name-item.is (c.loop-name.invariant.told w at image v path)
          (covered_at w.nodes c.args.store.now image v folder names l i n c.loop-name-test.true c.name-item.is c.in-Some.path is (sym c.covered.ensures ∙ c.if-covered.true));
    }

pub returns-then-not-name-clause-told : goal.returns-then-not-name-clause-told
returns-then-not-name-clause-told g t c = λ w at image v path.
    let names = c.as_slice-name-items.result.now in
    let folder = c.args.folder.now in
    let i = c.loop-name.name-index in
    let n = c.name-item.result in
    let is = sym c.in-Some.is ∙ c.in_ok-path.ensures ∙ ap (λ (p : Path). path_in (in_folder p c.as_str.result.now)) c.in_ok-place.ensures ∙ ap (λ (p : Path). path_in (in_folder folder p)) c.as_str.ensures in
    let l : ListedIn w.nodes c.args.store.now folder names = folder_listed w c.args.store.now image folder c.in_ok-place.place c.in_ok-listing.listing names v path c.in_ok-place.ensures c.as_slice-name-items.ensures
    (listing_told w c.list.ensures c.in_ok-listing.was at) in
    found_there image folder (some_at w.nodes c.args.store.now image v folder names l i n c.loop-name-test.true c.name-item.is c.in-Some.path is c.if-not-name.true (sym c.covered.ensures ∙ c.if-covered.false))

pub returns-in_err-inner-clause-looked : goal.returns-in_err-inner-clause-looked
returns-in_err-inner-clause-looked g t c =
    looked_then c.loop-name.invariant.looked (looked_on _ c.in_err-inner.was c.from_residual-in_err-inner.ensures.1 c.has_under.ensures.looked)

pub returns-then-inner-clause-looked : goal.returns-then-inner-clause-looked
returns-then-inner-clause-looked g t c =
    looked_then c.loop-name.invariant.looked c.in_ok-inner.ensures.looked

pub returns-then-inner-clause-told : goal.returns-then-inner-clause-told
returns-then-inner-clause-told g t c = λ w at image v path.
    let names = c.as_slice-name-items.result.now in
    let folder = c.args.folder.now in
    let i = c.loop-name.name-index in
    let n = c.name-item.result in
    let is = sym c.in-Some.is ∙ c.in_ok-path.ensures ∙ ap (λ (p : Path). path_in (in_folder p c.as_str.result.now)) c.in_ok-place.ensures ∙ ap (λ (p : Path). path_in (in_folder folder p)) c.as_str.ensures in
    let l : ListedIn w.nodes c.args.store.now folder names = folder_listed w c.args.store.now image folder c.in_ok-place.place c.in_ok-listing.listing names v path c.in_ok-place.ensures c.as_slice-name-items.ensures
    (listing_told w c.list.ensures c.in_ok-listing.was at) in
    let p = path_at (in_folder folder n.name) c.in-Some.path is in
    let u = still w c.loop-name.invariant.looked at in
    let inner = c.in_ok-inner.ensures.told u.0 u.1 image (viewed_still w.nodes u.0.nodes c.args.store.now image u.2 v) (subst (λ q. is_path_text q ≡ true) (sym p.1) p.0) in
    found_there image folder (deeper_at w.nodes c.args.store.now image v folder names l i n c.loop-name-test.true c.name-item.is c.in-Some.path is (inner.some c.if-inner.true))

pub loop-name-preserved : goal.loop-name-preserved
loop-name-preserved g t c =
    let names = c.as_slice-name-items.result.now in
    let folder = c.args.folder.now in
    let i = c.loop-name.name-index in
    let n = c.name-item.result in
    let is = sym c.in-Some.is ∙ c.in_ok-path.ensures ∙ ap (λ (p : Path). path_in (in_folder p c.as_str.result.now)) c.in_ok-place.ensures ∙ ap (λ (p : Path). path_in (in_folder folder p)) c.as_str.ensures in
    record {
      looked = looked_then c.loop-name.invariant.looked c.in_ok-inner.ensures.looked;
      told = λ w at image v path.
          let l : ListedIn w.nodes c.args.store.now folder names = folder_listed w c.args.store.now image folder c.in_ok-place.place c.in_ok-listing.listing names v path c.in_ok-place.ensures c.as_slice-name-items.ensures
          (listing_told w c.list.ensures c.in_ok-listing.was at) in
          let p = path_at (in_folder folder n.name) c.in-Some.path is in
          let u = still w c.loop-name.invariant.looked at in
          let inner = c.in_ok-inner.ensures.told u.0 u.1 image (viewed_still w.nodes u.0.nodes c.args.store.now image u.2 v) (subst (λ q. is_path_text q ≡ true) (sym p.1) p.0) in
          one_further (NoneAt image folder) names i n c.loop-name-test.true c.name-item.is (c.loop-name.invariant.told w at image v path)
          (folder_at w.nodes c.args.store.now image v folder names l i n c.loop-name-test.true c.name-item.is c.in-Some.path is c.if-not-name.false (sym c.covered.ensures ∙ c.if-covered.false) (inner.none c.if-inner.false));
    }

pub returns-clause-told : goal.returns-clause-told
returns-clause-told g t c = λ w at image v path.
    let names = c.as_slice-name-items.result.now in
    let folder = c.args.folder.now in
    let l : ListedIn w.nodes c.args.store.now folder names = folder_listed w c.args.store.now image folder c.in_ok-place.place c.in_ok-listing.listing names v path c.in_ok-place.ensures c.as_slice-name-items.ensures
    (listing_told w c.list.ensures c.in_ok-listing.was at) in
    none_there w.nodes c.args.store.now image v folder names l c.loop-name.name-index c.loop-name-test.false (c.loop-name.invariant.told w at image v path)

pub has_under-requires : goal.has_under-requires
has_under-requires g t c κs within =
    let is = sym c.in-Some.is ∙ c.in_ok-path.ensures ∙ ap (λ (p : Path). path_in (in_folder p c.as_str.result.now)) c.in_ok-place.ensures ∙ ap (λ (p : Path). path_in (in_folder c.args.folder.now p)) c.as_str.ensures in
    let grows = grows_at c.args.folder.now c.name-item.result.name c.in-Some.path is in
    (omega (arith, grows.0, grows.1), within)
