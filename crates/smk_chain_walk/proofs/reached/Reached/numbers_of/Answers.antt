use Rattle.std.proofs.Common.{◌≡◌, ◌∙◌, ◌+◌, [], ℕ, suc, List, Option, take, arith, sym, ap}
use Rattle.std.specs.Prelude.{option_to_list}
use Rattle.std.specs.List.{filter_map}
use Rattle.smk_choose_wants.specs.declared.wanted.Want.{Want}
use Rattle.smk_chain_walk.specs.Once.{all_once}
use Rattle.smk_chain_walk.specs.Stepping.{text_in}
use Rattle.smk_chain_walk.specs.Steps.{number_done}
use Rattle.smk_chain_walk.proofs.Numbers.{once_append, filter_push}
use Rattle.smk_chain_walk.proofs.Targets.{take_of}
use Rattle.smk_chain_walk.proofs.reached.Reached.numbers_of.Goals as goal

pub loop-want-preserved : goal.loop-want-preserved
loop-want-preserved c =
    let ws = c.args.wants.now in
    let i = c.loop-want.want-index in
    let w = c.want-item.result in
    let inv = c.loop-want.invariant in
    let k = c.in_ok-add.ensures inv.0 in
    let f : Want → Option ℕ = λ x. number_done c.args.self.now (text_in x) in
    let more : i + 1 ≡ suc i = omega arith in (
      k.0,
      k.1
          ∙ ap (λ (ns : List ℕ). all_once ns (option_to_list c.number_of.result)) inv.1
          ∙ ap (λ (o : Option ℕ). all_once (all_once [] (filter_map f (take i ws))) (option_to_list o)) c.number_of.ensures
          ∙ sym (once_append [] (filter_map f (take i ws)) (option_to_list (f w)))
          ∙ ap (all_once []) (sym (filter_push f (take i ws) w))
          ∙ ap (λ (xs : List Want). all_once [] (filter_map f xs)) (take_of ws i w c.loop-want-test.true c.want-item.is)
          ∙ ap (λ n. all_once [] (filter_map f (take n ws))) (sym more),
    )
