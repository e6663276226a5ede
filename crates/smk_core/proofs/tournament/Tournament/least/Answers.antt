use Rattle.std.proofs.Common.{◌≡◌, ◌<◌, ◌≤◌, ap, ◌∙◌, subst, arith, ℕ}
use Rattle.std.specs.Prelude.{slice_index}
use Rattle.std.proofs.lemmas.List.{get_or_read}
use Rattle.smk_core.specs.declared.place.TheConstants.{NONE}
use Rattle.smk_core.specs.Lines.{least}
use Rattle.smk_core.proofs.Trees.{top_least}
use Rattle.smk_core.proofs.tournament.Tournament.least.Goals as goal

pub returns-else-self-eq0 : goal.returns-else-self-eq0
returns-else-self-eq0 c =
    let nodes = c.self.inside.nodes.items in
    let places = c.self.inside.places in
    let some : 0 < places = omega arith in
    let is : c.index.result.now ≡ slice_index nodes 1 = get_or_read nodes 1 c.index.result.now (omega arith) c.index.ensures 0 in
    let few : c.index.result.now ≤ NONE = omega arith in
    is ∙ top_least places nodes c.self.invariant some (subst (λ (n : ℕ). n ≤ NONE) is few) ∙ ap least c.self.view_is
