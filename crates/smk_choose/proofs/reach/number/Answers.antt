use Rattle.std.proofs.Common.{◌≡◌, ◌∙◌, List, ℕ, Some, None, cond, bytes_eq, refl, sym, ap, string_bytes}
use Rattle.std.specs.Option.{option_copied}
use Rattle.std.specs.BTreeMap.{get_by_text}
use Rattle.std.proofs.lemmas.Map.Text.{btree_map_updates_text}
use Rattle.smk_choose.proofs.Growing.{numbered_new, grows_new}
use Rattle.smk_choose.proofs.reach.number.Goals as goal
use Rattle.smk_choose.proofs.reach.number.Goals.{In_ok-insert-in-None}

pub returns-in-Some-clause-is : goal.returns-in-Some-clause-is
returns-in-Some-clause-is c =
    c.requires.at c.args.path c.in-Some.number.now
    (ap (λ (p : List ℕ). get_by_text c.args.reach.now.numbers p) (sym c.as_str.ensures.text) ∙ sym c.get.ensures.value ∙ ap option_copied c.in-Some.is)

put : (c : In_ok-insert-in-None) (q : List ℕ) →
    get_by_text c.insert.new.self q ≡ cond (bytes_eq c.args.path q) (Some c.len-number.result) (get_by_text c.args.reach.now.numbers q)
put c q =
    btree_map_updates_text (string_bytes c.in_ok-key-in-None.key) c.args.reach.now.numbers c.insert.new.self (Some c.len-number.result) c.in_ok-insert-in-None.ensures.updates q
    ∙ ap (λ (p : List ℕ). cond (bytes_eq p q) (Some c.len-number.result) (get_by_text c.args.reach.now.numbers q))
    (c.in_ok-key-in-None.ensures.ok ∙ c.as_str-in-None.ensures.text)

fresh : (c : In_ok-insert-in-None) → get_by_text c.args.reach.now.numbers c.args.path ≡ None
fresh c = ap (λ (p : List ℕ). get_by_text c.args.reach.now.numbers p) (sym c.as_str.ensures.text) ∙ sym c.get.ensures.value ∙ ap option_copied c.in-None.is

pub returns-in_ok-insert-in-None-clause-numbered : goal.returns-in_ok-insert-in-None-clause-numbered
returns-in_ok-insert-in-None-clause-numbered c =
    numbered_new c.args.reach.now _ c.args.path c.len-number.result c.requires c.as_str.ensures.is_path (c.len-number.ensures ∙ c.args.reach.now.paths.ok.0)
    c.in_ok-push-in-None.ensures.items (put c) (fresh c)

pub returns-in_ok-insert-in-None-clause-grows : goal.returns-in_ok-insert-in-None-clause-grows
returns-in_ok-insert-in-None-clause-grows c =
    grows_new c.args.reach.now _ c.args.path c.len-number.result c.requires c.as_str.ensures.is_path (c.len-number.ensures ∙ c.args.reach.now.paths.ok.0)
    c.in_ok-push-in-None.ensures.items (put c) (fresh c) refl
