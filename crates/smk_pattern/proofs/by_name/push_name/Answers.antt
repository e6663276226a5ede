use Rattle.std.proofs.Common.{◌≡◌, Bor, List, ℕ, length, sym, ap, ◌∙◌}
use Rattle.std.proofs.lemmas.List.{length-map}
use Rattle.std.proofs.lemmas.Map.Text.{btree_map_updates_str}
use Rattle.smk_pattern.specs.declared.by_name.Names.{Names}
use Rattle.smk_pattern.proofs.Kept.{names_more}
use Rattle.smk_pattern.proofs.by_name.push_name.Goals as goal

pub returns : goal.returns
returns c = λ known h free.
    let old = c.args.names.now in
    let new : Names = record { list = c.push.new.self; places = c.insert.new.self } in
    let count : c.len.result ≡ length known = c.len.ensures ∙ old.list.ok.0 ∙ sym (length-map old.list.items (λ (b : Bor (List ℕ)). b.now)) ∙ ap length h.list in
    names_more old new c.args.name c.len.result known h count free c.in_ok-push.ensures.items
    (λ q. btree_map_updates_str c.args.name.now old.places c.insert.new.self _ c.in_ok-insert.ensures.updates q)
