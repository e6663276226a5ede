use Rattle.std.proofs.Common.{◌≡◌, ◌∙◌, List, ℕ, false, is_some, sym, subst}
use Rattle.std.specs.Prelude.{string_bytes}
use Rattle.std.proofs.lemmas.Map.Text.{btree_map_updates_text}
use Rattle.smk_eval.specs.Kept.{kept_text}
use Rattle.smk_eval.proofs.Placed.{place_added}
use Rattle.smk_eval.proofs.above.with_place.Goals as goal

pub returns : goal.returns
returns c = λ q.
    place_added c.args.places c.insert.new.self (string_bytes c.args.name) c.args.place q
    (subst (λ (t : List ℕ). is_some (kept_text c.args.places t) ≡ false) c.as_str.ensures.value (sym c.contains_key.ensures ∙ c.if-contains_key.false))
    (btree_map_updates_text (string_bytes c.args.name) c.args.places c.insert.new.self _ c.in_ok-insert.ensures.updates q)
