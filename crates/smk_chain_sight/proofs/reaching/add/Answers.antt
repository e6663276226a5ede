use Rattle.std.proofs.Common.{sym, ◌∙◌}
use Rattle.smk_chain_sight.proofs.Distinct.{there_already}
use Rattle.smk_chain_sight.proofs.Keys.{named_more, each_once, put_last}
use Rattle.smk_chain_sight.proofs.reaching.add.Goals as goal

pub returns-then-is_there-clause-added : goal.returns-then-is_there-clause-added
returns-then-is_there-clause-added c =
    there_already c.args.found.now.paths.items c.args.path c.requires.each (sym (c.requires.is c.args.path) ∙ sym c.is_there.ensures ∙ c.if-is_there.true)

pub returns-clause-kept : goal.returns-clause-kept
returns-clause-kept c =
    let old = c.args.found.now.paths.items in
    let none = sym (c.requires.is c.args.path) ∙ sym c.is_there.ensures ∙ c.if-is_there.false in
    record {
      is = λ q. named_more c.args.path q old _ _ _ (c.in_ok-note_text.ensures q) (c.requires.is q) c.in_ok-push.ensures.items;
      each = each_once c.args.path old _ c.requires.each none c.in_ok-push.ensures.items;
    }

pub returns-clause-added : goal.returns-clause-added
returns-clause-added c =
    let none = sym (c.requires.is c.args.path) ∙ sym c.is_there.ensures ∙ c.if-is_there.false in
    put_last c.args.path c.args.found.now.paths.items _ c.requires.each none c.in_ok-push.ensures.items
