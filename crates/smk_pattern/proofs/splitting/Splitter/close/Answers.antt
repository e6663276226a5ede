use Rattle.std.proofs.Common.{◌-◌, ◌++◌, ◌∷◌, [], refl, ap, arith, ◌∙◌}
use Rattle.std.proofs.lemmas.List.{map_push}
use Rattle.smk_pattern.specs.Grammar.{Piece}
use Rattle.smk_pattern.specs.Reading.{hole_of}
use Rattle.smk_pattern.specs.Splitting.{written_of, all_written}
use Rattle.smk_pattern.proofs.Split.{goes_on, closes, takes_less}
use Rattle.smk_pattern.proofs.splitting.Splitter.close.Goals as goal

pub returns-then-self-gt1-clause-step : goal.returns-then-self-gt1-clause-step
returns-then-self-gt1-clause-step c =
    let s = c.args.self.now in
    let r = c.requires.read in
    let deep = r.open_braces in
    goes_on s c.args.at 125 (s.depth - 1) r c.requires.within c.requires.byte (takes_less s.depth _ _ (omega arith)) (omega arith)

pub returns-clause-step : goal.returns-clause-step
returns-clause-step c =
    let s = c.args.self.now in
    let made = ap all_written c.in_ok-push.ensures.items
    ∙ map_push written_of s.made.items _
    ∙ ap (λ (p : Piece). all_written s.made.items ++ p ∷ []) (c.hole.ensures ∙ ap hole_of c.cut.ensures.value) in
    closes s _ c.args.at c.requires.read c.requires.within c.requires.byte (omega arith) refl refl refl made
