use Rattle.std.proofs.Common.{ap, sym, ◌∙◌, ◌||◌, string_bytes}
use Rattle.std.specs.BTreeSet.{contains_text}
use Rattle.smk_world.specs.World.{is_named}
use Rattle.smk_store.specs.Walking.{texts_of}
use Rattle.smk_store.proofs.Loads.{text_added, text_moved, texts_done, contains_named}
use Rattle.smk_store.proofs.loading.add_texts.Goals as goal

pub loop-text-preserved : goal.loop-text-preserved
loop-text-preserved c = λ q.
    text_moved (contains_text c.loop-text.all q) _ _ q (string_bytes c.in-Some.text.now) (texts_of c.loop-text.text-iterator) (texts_of c.next.new.self)
    (text_added c.loop-text.all c.insert.new.self _ (string_bytes c.in-Some.text.now) (c.in_ok-copy.ensures.ok ∙ c.as_str.ensures.value) c.in_ok-insert.ensures.updates q)
    (ap texts_of c.in-Some.ensures.steps) (c.loop-text.invariant q)

pub returns : goal.returns
returns c = λ q.
    texts_done (contains_text c.loop-text.all q) _ q (texts_of c.loop-text.text-iterator) (ap texts_of c.in-None.ensures.steps.0) (c.loop-text.invariant q)
    ∙ ap (λ b. contains_text c.args.all.now q || b) (ap (λ ks. is_named q (texts_of ks)) c.into_iter-text-iterator.ensures.into_iter_gives.0 ∙ sym (contains_named q c.args.more.now.keys))
