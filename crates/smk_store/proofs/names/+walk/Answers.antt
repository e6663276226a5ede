use Rattle.std.proofs.Common.{arith, ◌≡◌, ap, subst, ◌∙◌, sym, true, Some, None, length, take, option_map, string_bytes}
use Rattle.std.specs.Str.{IsUtf8}
use Rattle.smk_base.specs.Path.{is_under}
use Rattle.smk_world.specs.Calls.{in_folder}
use Rattle.smk_store.specs.Loading.{store_folder}
use Rattle.smk_store.specs.Walking.{Walked, front_below}
use Rattle.smk_world.proofs.Devices.{looked_list, looked_on, looked_memory, looked_then, still, listing_told}
use Rattle.smk_store.proofs.Looks.{unowned_still}
use Rattle.smk_store.proofs.Finding.{SoFar, Listed, begun, passed, walked_in, finished, stood_at, taken_next, all_taken, front_grows, under_store, walked_at, listed}
use Rattle.smk_store.proofs.names.+walk.Goals as goal

pub returns-in_err-listing-clause-looked : goal.returns-in_err-listing-clause-looked
returns-in_err-listing-clause-looked g t c = looked_on _ c.in_err-listing.was c.from_residual.ensures.1 (looked_list c.list.ensures)

pub returns-in_err-add_all-clause-looked : goal.returns-in_err-add_all-clause-looked
returns-in_err-add_all-clause-looked g t c = looked_memory _ c.from_residual-in_err-add_all.ensures.1 (looked_list c.in_ok-listing.ensures)

pub loop-name-init : goal.loop-name-init
loop-name-init g t c =
    let own : is_under c.args.folder.now store_folder ≡ true = assumption c.requires in
    let utf8 : IsUtf8 c.args.front.now = assumption c.requires in
    record {
      looked = looked_list c.in_ok-listing.ensures;
      told = λ w at free.
          let l : Listed w.nodes c.args.folder.now c.as_slice-names.result.now =
          subst (Listed w.nodes c.args.folder.now) (sym c.as_slice-names.ensures)
          (listed w c.args.folder.now c.in_ok-listing.listing ((g.met.W.Files.sound c.args.work.now).tree w at) free own (listing_told w c.list.ensures c.in_ok-listing.was at)) in
          begun w.nodes c.args.folder.now c.args.front.now c.as_slice-names.result.now l utf8 _ _ c.in_ok-add_all.ensures;
    }

pub loop-name-preserved-in_default : goal.loop-name-preserved-in_default
loop-name-preserved-in_default g t c =
    let own : is_under c.args.folder.now store_folder ≡ true = assumption c.requires in
    let utf8 : IsUtf8 c.args.front.now = assumption c.requires in
    let names = c.as_slice-names.result.now in
    let i = c.loop-name.name-index in
    let n = c.name-item.result in
    let v = c.loop-name.invariant in
    let none : front_below c.args.front.now n ≡ None = sym c.in_ok-below.ensures ∙ ap (option_map string_bytes) c.in_default.is in
    record {
      looked = v.looked;
      told = λ w at free.
          let l : Listed w.nodes c.args.folder.now names =
          subst (Listed w.nodes c.args.folder.now) (sym c.as_slice-names.ensures)
          (listed w c.args.folder.now c.in_ok-listing.listing ((g.met.W.Files.sound c.args.work.now).tree w at) free own (listing_told w c.list.ensures c.in_ok-listing.was at)) in
          subst (SoFar w.nodes c.args.folder.now c.args.front.now _ _) (taken_next names i n c.loop-name-test.true c.name-item.is)
          (passed w.nodes c.args.folder.now c.args.front.now names l utf8 _ _ (take i names) n (v.told w at free) (stood_at w.nodes c.args.folder.now names i n l c.loop-name-test.true c.name-item.is) none);
    }

pub walk-requires : goal.walk-requires
walk-requires g t c κs within =
    let own : is_under c.args.folder.now store_folder ≡ true = assumption c.requires in
    let utf8 : IsUtf8 c.args.front.now = assumption c.requires in
    let grows = front_grows c.args.front.now c.name-item.result (string_bytes c.in-Some.below) (sym c.in_ok-below.ensures ∙ ap (option_map string_bytes) c.in-Some.is) in
    let inner : is_under c.in_ok-inner.inner store_folder ≡ true = subst (λ q. is_under q store_folder ≡ true) (sym (c.in_ok-inner.ensures ∙ ap (in_folder c.args.folder.now) c.as_str.ensures)) (under_store c.args.folder.now c.name-item.result.name own) in
    let len = ap length c.as_str-in-loop-name.ensures.value in (
      omega (arith, grows.0, grows.1, len),
      (within, (inner, c.as_str-in-loop-name.utf8)),
    )

pub returns-in_err-walk-clause-looked : goal.returns-in_err-walk-clause-looked
returns-in_err-walk-clause-looked g t c =
    looked_then c.loop-name.invariant.looked (looked_on _ c.in_err-walk.was c.from_residual-in_err-walk.ensures.1 c.walk.ensures.looked)

pub loop-name-preserved : goal.loop-name-preserved
loop-name-preserved g t c =
    let own : is_under c.args.folder.now store_folder ≡ true = assumption c.requires in
    let utf8 : IsUtf8 c.args.front.now = assumption c.requires in
    let names = c.as_slice-names.result.now in
    let folder = c.args.folder.now in
    let front = c.args.front.now in
    let i = c.loop-name.name-index in
    let n = c.name-item.result in
    let v = c.loop-name.invariant in
    let below = string_bytes c.in-Some.below in
    let some : front_below front n ≡ Some below = sym c.in_ok-below.ensures ∙ ap (option_map string_bytes) c.in-Some.is in
    record {
      looked = looked_then v.looked c.in_ok-walk.ensures.looked;
      told = λ w at free.
          let l : Listed w.nodes folder names =
          subst (Listed w.nodes folder) (sym c.as_slice-names.ensures)
          (listed w folder c.in_ok-listing.listing ((g.met.W.Files.sound c.args.work.now).tree w at) free own (listing_told w c.list.ensures c.in_ok-listing.was at)) in
          let u = still w v.looked at in
          let inner : Walked w.nodes (in_folder folder n.name) below _ _ =
          walked_at w.nodes u.0.nodes (in_folder folder n.name) c.in_ok-inner.inner below c.as_str-in-loop-name.result.now _ _ u.2 (c.in_ok-inner.ensures ∙ ap (in_folder folder) c.as_str.ensures) c.as_str-in-loop-name.ensures.value
          (c.in_ok-walk.ensures.told u.0 u.1 (unowned_still w.nodes u.0.nodes store_folder u.2 free)) in
          subst (SoFar w.nodes folder front _ _) (taken_next names i n c.loop-name-test.true c.name-item.is)
          (walked_in w.nodes folder front names l utf8 _ _ _ (take i names) n below (v.told w at free) (stood_at w.nodes folder names i n l c.loop-name-test.true c.name-item.is) some inner);
    }

pub returns-clause-told : goal.returns-clause-told
returns-clause-told g t c = λ w at free.
    let own : is_under c.args.folder.now store_folder ≡ true = assumption c.requires in
    let utf8 : IsUtf8 c.args.front.now = assumption c.requires in
    let names = c.as_slice-names.result.now in
    let folder = c.args.folder.now in
    let front = c.args.front.now in
    let l : Listed w.nodes folder names =
    subst (Listed w.nodes folder) (sym c.as_slice-names.ensures)
    (listed w folder c.in_ok-listing.listing ((g.met.W.Files.sound c.args.work.now).tree w at) free own (listing_told w c.list.ensures c.in_ok-listing.was at)) in
    finished w.nodes folder front names l utf8 _ _ (subst (SoFar w.nodes folder front _ _) (all_taken names c.loop-name.name-index c.loop-name-test.false) (c.loop-name.invariant.told w at free))
