use Rattle.std.proofs.Common.{◌≡◌, Some, ap, sym, ◌∙◌, option_map, string_bytes, bytes_eq}
use Rattle.std.specs.Prelude.{if◌then◌else◌}
use Rattle.std.proofs.lemmas.Map.Text.{hash_map_updates_text}
use Rattle.indexmap.specs.IndexMap.{get_by_text}
use Rattle.smk_chain.specs.declared.jobs.Maker.{Maker}
use Rattle.smk_chain_walk.specs.Steps.{done_at}
use Rattle.smk_chain_walk.proofs.Links.{told_more, job_over}
use Rattle.smk_chain_walk.proofs.reached.Reached.note.Goals as goal

pub returns-clause-done : goal.returns-clause-done
returns-clause-done c = λ q.
    let old = c.args.self.now in
    let key = string_bytes c.in_ok-key.key in
    let maker : Maker = record { path = c.in_ok-path.path; job = c.args.number } in
    ap (option_map (λ (m : Maker). m.job)) (hash_map_updates_text key old.done c.insert.new.self (Some maker) c.in_ok-insert.ensures.updates q)
    ∙ job_over (bytes_eq key q) maker (get_by_text old.done q)
    ∙ ap (λ p. if bytes_eq p q then Some c.args.number else done_at old q) (c.in_ok-key.ensures.ok ∙ c.as_str.ensures.text)

pub returns-clause-told : goal.returns-clause-told
returns-clause-told c =
    let maker : Maker = record { path = c.in_ok-path.path; job = c.args.number } in
    let own : c.in_ok-path.path ≡ string_bytes c.in_ok-key.key = c.in_ok-path.ensures ∙ sym (c.in_ok-key.ensures.ok ∙ c.as_str.ensures.text) in
    told_more c.args.self.now.done.entries c.insert.new.self.entries c.in_ok-key.key maker c.in_ok-insert.ensures.entries own c.in_ok-insert.ensures.unique
