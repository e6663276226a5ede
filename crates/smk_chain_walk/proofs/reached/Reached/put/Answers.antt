use Rattle.std.proofs.Common.{◌≡◌, ◌∙◌, ◌++◌, ◌∷◌, [], List, ℕ, Some, None, subst, sym, ap, string_bytes}
use Rattle.std.specs.List.{filter_map}
use Rattle.smk_flow.specs.declared.job.Job.{Job}
use Rattle.smk_chain.specs.Derive.{wants}
use Rattle.smk_choose.specs.Told.{making}
use Rattle.smk_choose_wants.specs.declared.wanted.Want.{Want}
use Rattle.smk_chain_walk.specs.Numbers.{key, IsSmall}
use Rattle.smk_chain_walk.specs.Once.{all_once}
use Rattle.smk_chain_walk.specs.Stepping.{text_in}
use Rattle.smk_chain_walk.specs.Steps.{number_done, number_at}
use Rattle.smk_chain_walk.proofs.Numbers.{numbers_once}
use Rattle.smk_chain_walk.proofs.Taken.{filter_wanted}
use Rattle.smk_chain_walk.proofs.Keeping.{holds_there, holds_push, on_push, on_number}
use Rattle.smk_chain_walk.proofs.reached.Reached.put.Goals as goal

pub returns-in-Some-clause-put : goal.returns-in-Some-clause-put
returns-in-Some-clause-put c = λ sources p d cs served h.
    let old = c.args.self.now in
    let got : number_at old (key (making d)) ≡ Some c.in-Some.place =
    ap (number_at old) (sym (c.as_str.ensures.value ∙ c.in_ok-key.ensures.is ∙ ap key served.is)) ∙ sym c.in-Some.ensures.index in
    on_number c.as_number.result _ _ c.in-Some.place c.as_number.ensures
    (holds_there c.args.query.now.flow.now sources c.args.query.now.lists.now old cs d c.in-Some.place (subst IsSmall served.is c.in_ok-key.ensures.small) got h)

pub push-requires : goal.push-requires
push-requires c = ap (number_at c.args.self.now) (sym c.as_str.ensures.value) ∙ sym c.in_default.ensures.index

pub returns-clause-put : goal.returns-clause-put
returns-clause-put c = λ sources p d cs served h.
    let old = c.args.self.now in
    let text : string_bytes c.in_ok-key.key ≡ key (making d) = c.in_ok-key.ensures.is ∙ ap key served.is in
    let got : number_at old (key (making d)) ≡ None = ap (number_at old) (sym (c.as_str.ensures.value ∙ text)) ∙ sym c.in_default.ensures.index in
    on_push c.push.result _ _ _ _ _ _ c.push.ensures.number c.push.ensures.jobs c.push.ensures.befores c.push.ensures.texts
    (λ jobs befores texts. holds_push c.args.query.now.flow.now sources c.args.query.now.lists.now old c.push.new.self cs d c.in_ok-key.key
    (subst IsSmall served.is c.in_ok-key.ensures.small) text got
    (jobs ∙ ap (λ (j : Job). old.jobs ++ j ∷ []) (c.in_ok-job.ensures sources p d served.chosen served.is served.paths))
    served.done
    (befores ∙ ap (λ (ns : List ℕ). old.befores ++ ns ∷ [])
    (c.in_ok-befores.ensures ∙ ap (λ (ws : List Want). all_once [] (filter_map (λ w. number_done old (text_in w)) ws)) served.wanted
    ∙ ap (all_once []) (filter_wanted (number_done old) (wants c.args.query.now.flow.now c.args.query.now.lists.now d)) ∙ numbers_once (filter_map (number_done old) (wants c.args.query.now.flow.now c.args.query.now.lists.now d))))
    texts
    c.push.ensures.done h)
