use Rattle.std.proofs.Common.{[], ap, sym, ◌∙◌}
use Rattle.std.specs.List.{flat_map}
use Rattle.smk_world.specs.Trees.{first}
use Rattle.smk_record.specs.Records.{are_rising}
use Rattle.smk_chain.specs.Derive.{spots}
use Rattle.smk_chain_derive.specs.Clashes.{clashes_in}
use Rattle.smk_chain_derive.proofs.Stored.{clashes_same, listed_same}
use Rattle.smk_chain_derive.proofs.clash.first_clash.Goals as goal

pub returns-clause-first : goal.returns-clause-first
returns-clause-first c = λ image s l.
    let store = c.args.store.now in
    let known = listed_same image store s l (ap are_rising (sym c.paths-paths.ensures.value) ∙ c.paths-paths.ensures.rising) in
    c.in_ok-found.ensures ∙ ap (λ jobs. first (clashes_in store [] (flat_map spots jobs))) c.as_slice-2.ensures
    ∙ ap first (clashes_same image store s known [] (flat_map spots c.args.jobs.now))

pub returns-clause-by_store : goal.returns-clause-by_store
returns-clause-by_store c = c.in_ok-found.ensures ∙ ap (λ jobs. first (clashes_in c.args.store.now [] (flat_map spots jobs))) c.as_slice-2.ensures
