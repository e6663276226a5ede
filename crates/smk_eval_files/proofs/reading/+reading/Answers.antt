use Rattle.std.proofs.Common.{◌≡◌, ◌∷◌, ◌+◌, ◌-◌, ◌∙◌, ◌<◌, length, get_or, List, ℕ, Ok, drop, ap, sym, subst}
use Rattle.std.proofs.lemmas.List.{at_drop_more}
use Rattle.smk_world.proofs.Devices.{looked_nothing, looked_as, looked_then, still}
use Rattle.smk_eval_files.specs.Looks.{Nodes}
use Rattle.smk_eval_files.specs.Reading.{Files, Answers, and_then, onto, included, files_from}
use Rattle.smk_eval_files.specs.Opening.{opened_as, include_from}
use Rattle.smk_eval_files.proofs.Looking.{told_then}
use Rattle.smk_eval_files.proofs.Opening.{later, file_steps, include_steps, later_is}
use Rattle.smk_eval_files.proofs.reading.+reading.Goals as goal

pub with_file-returns-in-Err-clause-told : goal.with_file-returns-in-Err-clause-told
with_file-returns-in-Err-clause-told g t c = λ w here told.
    let file = c.args.file in
    let depth = c.args.depth in
    file_steps depth w.nodes c.args.files file ∙ ap (λ r. and_then r (λ source. and_then (opened_as depth c.args.files file source) (later depth w.nodes))) (c.in-Err.ensures.told w here told)

pub with_file-returns-in-Err-open_file-clause-looked : goal.with_file-returns-in-Err-open_file-clause-looked
with_file-returns-in-Err-open_file-clause-looked g t c = looked_as (sym c.in-Err-open_file.ensures.no_device) c.in-Ok.ensures.looked

pub with_file-returns-in-Err-open_file-clause-told : goal.with_file-returns-in-Err-open_file-clause-told
with_file-returns-in-Err-open_file-clause-told g t c = λ w here told.
    let file = c.args.file in
    let depth = c.args.depth in
    file_steps depth w.nodes c.args.files file
    ∙ ap (λ r. and_then r (λ source. and_then (opened_as depth c.args.files file source) (later depth w.nodes))) (c.in-Ok.ensures.told w here ∙ ap Ok (sym c.as_slice.ensures))
    ∙ ap (λ r. and_then r (later depth w.nodes)) (c.in-Err-open_file.ensures.is told)

pub with_file-returns-clause-looked : goal.with_file-returns-clause-looked
with_file-returns-clause-looked g t c = looked_then c.in-Ok.ensures.looked c.with_includes.ensures.looked

pub with_file-returns-clause-told : goal.with_file-returns-clause-told
with_file-returns-clause-told g t c = λ w here.
    let file = c.args.file in
    let depth = c.args.depth in
    let o = c.in-Ok-open_file.opened in
    let rest : Nodes → Files = λ nodes. onto o.files (included (files_from nodes (depth - 1)) o.file c.as_slice-in-Ok-open_file.result.now) in
    let steps : onto c.args.files (files_from w.nodes depth file) ≡ rest w.nodes =
    file_steps depth w.nodes c.args.files file
    ∙ ap (λ r. and_then r (λ source. and_then (opened_as depth c.args.files file source) (later depth w.nodes))) (c.in-Ok.ensures.told w here ∙ ap Ok (sym c.as_slice.ensures))
    ∙ ap (λ r. and_then r (later depth w.nodes)) c.in-Ok-open_file.ensures.is
    ∙ later_is depth w.nodes o c.if-depth-eq0.false
    ∙ ap (λ ts. onto o.files (included (files_from w.nodes (depth - 1)) o.file ts)) (sym c.as_slice-in-Ok-open_file.ensures) in
    subst (λ m. Answers m c.with_includes.result) (sym steps) (told_then (λ nodes. Answers (rest nodes) c.with_includes.result) c.in-Ok.ensures.looked c.with_includes.ensures.told w here)

pub with_include-returns-in-Err-clause-looked : goal.with_include-returns-in-Err-clause-looked
with_include-returns-in-Err-clause-looked g t c = looked_as (sym c.in-Err.ensures.no_device) (looked_nothing g.W.Files.act (g.W.Files.device c.args.work.now))

pub with_include-returns-in-Err-clause-told : goal.with_include-returns-in-Err-clause-told
with_include-returns-in-Err-clause-told g t c = λ w here told.
    ap (λ r. onto c.args.files (and_then r (files_from w.nodes c.args.depth))) (c.in-Err.ensures.is told)

next_text : (texts : List (List ℕ)) (i : ℕ) (text : List ℕ) → i < length texts → text ≡ get_or texts i text → drop i texts ≡ text ∷ drop (i + 1) texts
next_text texts i text lt is = at_drop_more (λ (xs : List (List ℕ)). xs) texts i text lt ∙ ap (λ (t : List ℕ). t ∷ drop (i + 1) texts) (sym is)

pub with_includes-returns-in-Err-clause-looked : goal.with_includes-returns-in-Err-clause-looked
with_includes-returns-in-Err-clause-looked g t c = looked_then c.loop-text.invariant.looked c.in-Err.ensures.looked

pub with_includes-returns-in-Err-clause-told : goal.with_includes-returns-in-Err-clause-told
with_includes-returns-in-Err-clause-told g t c = λ w here told.
    let file = c.args.file.now in
    let texts = c.args.texts.now in
    let i = c.loop-text.text-index in
    let text = c.text-item.result in
    let all = c.loop-text.all in
    let read = files_from w.nodes c.args.depth in
    let u = still w c.loop-text.invariant.looked here in
    let fault = ap (λ (nodes : Nodes). onto all (include_from (files_from nodes c.args.depth) file text)) (sym u.2) ∙ c.in-Err.ensures.told u.0 u.1 told in
    sym (c.loop-text.invariant.told w here)
    ∙ ap (λ ts. onto all (included read file ts)) (next_text texts i text c.loop-text-test.true c.text-item.is)
    ∙ include_steps read all file text (drop (i + 1) texts)
    ∙ ap (λ r. and_then r (λ made. onto made (included read file (drop (i + 1) texts)))) fault

pub with_includes-loop-text-preserved : goal.with_includes-loop-text-preserved
with_includes-loop-text-preserved g t c =
    let inv = c.loop-text.invariant in
    record {
      looked = looked_then inv.looked c.in-Ok.ensures.looked;
      told = λ w here.
          let file = c.args.file.now in
          let texts = c.args.texts.now in
          let i = c.loop-text.text-index in
          let text = c.text-item.result in
          let all = c.loop-text.all in
          let read = files_from w.nodes c.args.depth in
          let u = still w inv.looked here in
          let more = ap (λ (nodes : Nodes). onto all (include_from (files_from nodes c.args.depth) file text)) (sym u.2) ∙ c.in-Ok.ensures.told u.0 u.1 in
          ap (λ r. and_then r (λ made. onto made (included read file (drop (i + 1) texts)))) (sym more)
          ∙ sym (include_steps read all file text (drop (i + 1) texts))
          ∙ ap (λ ts. onto all (included read file ts)) (sym (next_text texts i text c.loop-text-test.true c.text-item.is))
          ∙ inv.told w here;
    }
