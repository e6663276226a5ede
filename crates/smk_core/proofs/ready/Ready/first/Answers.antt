use Rattle.std.proofs.Common.{List, ℕ, None, map, ap, ◌∙◌, subst}
use Rattle.smk_pick.specs.declared.room.Ask.{Ask}
use Rattle.smk_core.specs.Lines.{Line, least, best_of, IsBest}
use Rattle.smk_core.proofs.Heads.{heads_best}
use Rattle.smk_core.proofs.ready.Ready.first.Goals as goal

pub returns : goal.returns
returns c =
    let asks = c.self.inside.asks in
    let lines = c.self.inside.lines.items in
    let room = c.args.room.now in
    subst (λ (l : Line). IsBest l room c.best_of.result) c.self.view_is
    (heads_best asks c.self.inside.places.items lines c.self.invariant room c.best_of.result
    (c.best_of.ensures
    ∙ ap (λ (xs : List Ask). best_of xs room None (map least c.as_slice-2.result.now)) c.as_slice.ensures
    ∙ ap (λ (ls : List (List ℕ)). best_of asks room None (map least ls)) c.as_slice-2.ensures.value))
