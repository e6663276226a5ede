use Rattle.std.proofs.Common.{Bool, true, false, cond, ◌||◌, ◌≡◌, refl, ap, ◌∙◌, string_bytes, bytes_eq}
use Rattle.std.specs.BTreeSet.{contains_text}
use Rattle.std.proofs.lemmas.Map.Text.{btree_set_updates_text}
use Rattle.smk_chain_walk.proofs.folders.add.Goals as goal

or_is : (a b : Bool) → cond a true b ≡ a || b
or_is true b = refl
or_is false b = refl

pub returns : goal.returns
returns c = λ q.
    btree_set_updates_text (string_bytes c.in_ok-path.path) c.args.found.now c.insert.new.self true c.in_ok-insert.ensures.updates q
    ∙ or_is (bytes_eq (string_bytes c.in_ok-path.path) q) (contains_text c.args.found.now q)
    ∙ ap (λ p. bytes_eq p q || contains_text c.args.found.now q) c.in_ok-path.ensures
