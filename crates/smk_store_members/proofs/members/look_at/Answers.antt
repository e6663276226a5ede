use Rattle.std.proofs.Common.{◌≡◌, true, get_or, subst, sym, ap, ◌++◌, ◌∷◌, [], ◌∙◌}
use Rattle.smk_base.specs.Path.{is_at_or_under}
use Rattle.smk_world.specs.Calls.{in_folder}
use Rattle.smk_store.proofs.Looks.{if_ok}
use Rattle.smk_store_members.proofs.Listings.{in_it}
use Rattle.smk_store_members.proofs.Going.{passed, entered}
use Rattle.smk_store_members.proofs.members.look_at.Goals as goal

pub returns-then-not-member-clause-told : goal.returns-then-not-member-clause-told
returns-then-not-member-clause-told g c = λ w at is_open walk.
    let m = c.index-as_slice-at.result in
    passed w.nodes c.args.path.now c.args.walk.now.found c.args.at m c.requires.within (c.index-as_slice-at.is ∙ ap (λ l. get_or l c.args.at m) c.as_slice.ensures) c.if-not-member.true walk

pub look_in-requires-clause-inside : goal.look_in-requires-clause-inside
look_in-requires-clause-inside g c =
    subst (λ q. is_at_or_under q c.args.path.now ≡ true) (sym (c.in_ok-folder.ensures ∙ ap (λ p. p ++ 47 ∷ c.as_str-2.result.now) c.in_ok-user.ensures)) (in_it c.args.path.now c.as_str-2.result.now)

pub returns-clause-told : goal.returns-clause-told
returns-clause-told g c =
    let m = c.index-as_slice-at.result in
    if_ok c.look_in.result _ _
    (λ good h w at is_open walk.
    entered w.nodes c.args.path.now c.args.walk.now.found c.args.at m c.requires.within (c.index-as_slice-at.is ∙ ap (λ l. get_or l c.args.at m) c.as_slice.ensures)
    c.look_in.new.walk.found c.as_str-3.result.now c.in_ok-folder.folder good c.if-not-member.false
    (c.as_str-3.ensures.value ∙ c.in_ok-front.ensures ∙ ap (λ t. t ++ 47 ∷ []) c.as_str.ensures.text)
    (c.in_ok-folder.ensures ∙ ap (λ p. p ++ 47 ∷ c.as_str-2.result.now) c.in_ok-user.ensures ∙ ap (in_folder c.args.path.now) c.as_str-2.ensures.text)
    (h w at is_open) walk)
    c.look_in.ensures.told
