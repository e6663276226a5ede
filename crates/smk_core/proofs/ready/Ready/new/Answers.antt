use Rattle.std.proofs.Common.{◌≡◌, ◌≤◌, ℕ, List, length, map, sym, ap, ◌∙◌, subst, arith}
use Rattle.smk_pick.specs.declared.room.Ask.{Ask}
use Rattle.smk_core.specs.declared.place.Kind.{Kind}
use Rattle.smk_core.specs.declared.place.TheConstants.{NONE}
use Rattle.smk_core.specs.Lines.{IsInLine, present_in}
use Rattle.smk_core.proofs.Placing.{empty_line, empty_in_line, empty_absent}
use Rattle.smk_core.proofs.ready.Ready.new.Goals as goal

pub invariant_of-result : goal.invariant_of-result
invariant_of-result c =
    let kinds = c.in_ok-kinds.kinds.items in
    let places = c.in_ok-kinds.places.items in
    let asks = c.args.asks.now in
    let lines : c.in_ok-lines.lines.items ≡ map empty_line kinds = c.in_ok-lines.ensures ∙ ap (λ (ks : List Kind). map empty_line ks) c.as_slice.ensures.value in
    let few : length asks ≤ NONE = omega arith in
    subst (λ (xs : List Ask). IsInLine xs places c.in_ok-lines.lines.items) (sym c.in_ok-asks.ensures)
    (subst (λ (ls : List (List ℕ)). IsInLine asks places ls) (sym lines) (empty_in_line asks kinds places c.in_ok-kinds.ensures.placed few c.in_ok-kinds.ensures.each))

pub returns-clause-none : goal.returns-clause-none
returns-clause-none c =
    let kinds = c.in_ok-kinds.kinds.items in
    let places = c.in_ok-kinds.places.items in
    let asks = c.args.asks.now in
    let lines : c.in_ok-lines.lines.items ≡ map empty_line kinds = c.in_ok-lines.ensures ∙ ap (λ (ks : List Kind). map empty_line ks) c.as_slice.ensures.value in
    ap (λ (ls : List (List ℕ)). present_in places ls) lines ∙ empty_absent asks kinds places c.in_ok-kinds.ensures.placed (length asks) c.in_ok-kinds.ensures.each
