use Rattle.std.proofs.Common.{◌≡◌, ◌∷◌, ◌+◌, ◌<◌, List, ℕ, length, get_or, drop, ap, sym, ◌∙◌}
use Rattle.std.proofs.lemmas.List.{at_drop_more}
use Rattle.smk_world.proofs.Devices.{looked_then, still}
use Rattle.smk_config.specs.Settings.{members}
use Rattle.smk_eval_files.specs.Looks.{Nodes}
use Rattle.smk_eval.specs.Faults.{and_then}
use Rattle.smk_eval.specs.Loading.{with_config, configs}
use Rattle.smk_eval.proofs.configs.configs.Goals as goal

next_text : (texts : List (List ℕ)) (i : ℕ) (text : List ℕ) → i < length texts → text ≡ get_or texts i text → drop i texts ≡ text ∷ drop (i + 1) texts
next_text texts i text lt is = at_drop_more (λ (xs : List (List ℕ)). xs) texts i text lt ∙ ap (λ (t : List ℕ). t ∷ drop (i + 1) texts) (sym is)

pub returns-in-Err-clause-looked : goal.returns-in-Err-clause-looked
returns-in-Err-clause-looked g c = looked_then c.loop-text.invariant.looked c.in-Err.ensures.looked

pub returns-in-Err-clause-told : goal.returns-in-Err-clause-told
returns-in-Err-clause-told g c = λ w here told.
    let texts = c.args.texts.now in
    let i = c.loop-text.text-index in
    let text = c.text-item.result in
    let was = members c.loop-text.config in
    let u = still w c.loop-text.invariant.looked here in
    let fault = ap (λ (nodes : Nodes). with_config nodes was text) (sym u.2) ∙ c.in-Err.ensures.told u.0 u.1 told in
    sym (c.loop-text.invariant.told w here)
    ∙ ap (λ ts. configs w.nodes was ts) (next_text texts i text c.loop-text-test.true c.text-item.is)
    ∙ ap (λ r. and_then r (λ now. configs w.nodes now (drop (i + 1) texts))) fault

pub loop-text-preserved : goal.loop-text-preserved
loop-text-preserved g c =
    let inv = c.loop-text.invariant in
    record {
      looked = looked_then inv.looked c.in-Ok.ensures.looked;
      told = λ w here.
          let texts = c.args.texts.now in
          let i = c.loop-text.text-index in
          let text = c.text-item.result in
          let was = members c.loop-text.config in
          let u = still w inv.looked here in
          let more = ap (λ (nodes : Nodes). with_config nodes was text) (sym u.2) ∙ c.in-Ok.ensures.told u.0 u.1 in
          ap (λ r. and_then r (λ now. configs w.nodes now (drop (i + 1) texts))) (sym more)
          ∙ ap (λ ts. configs w.nodes was ts) (sym (next_text texts i text c.loop-text-test.true c.text-item.is))
          ∙ inv.told w here;
    }
