use Rattle.std.proofs.Common.{◌<◌, ◌++◌, ◌∷◌, [], ℕ, List, length, sym, ap, arith, ◌∙◌}
use Rattle.std.proofs.lemmas.List.{map_push}
use Rattle.smk_pattern.specs.Grammar.{Piece, plain}
use Rattle.smk_pattern.specs.Splitting.{written_of, all_written, between}
use Rattle.smk_pattern.proofs.Split.{plain_of_all, length_between}
use Rattle.smk_pattern.proofs.splitting.Splitter.end_text.Goals as goal

pub returns-in_ok-push-clause-made : goal.returns-in_ok-push-clause-made
returns-in_ok-push-clause-made c =
    let s = c.args.self.now in
    let slice = between s.start c.args.at s.text.now in
    let within = c.requires.to.0 in
    let lt : 0 < length slice = omega (arith, length_between s.start c.args.at s.text.now c.requires.order within) in
    ap all_written c.in_ok-push.ensures.items
    ∙ map_push written_of s.made.items _
    ∙ ap (λ (t : List ℕ). all_written s.made.items ++ plain t ∷ []) c.cut.ensures.value
    ∙ ap (λ (ps : List Piece). all_written s.made.items ++ ps) (sym (plain_of_all slice lt))
