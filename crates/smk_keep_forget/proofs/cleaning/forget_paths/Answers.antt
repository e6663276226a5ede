use Rattle.std.proofs.Common.{[], subst, sym, ◌∙◌, true≢false}
use Rattle.smk_world.specs.Devices.{HasActed, WhereTold}
use Rattle.smk_keep_lock.specs.Putting.{IsWholeFor, Put}
use Rattle.smk_keep_forget.specs.Answers.{forget_status, is_device}
use Rattle.smk_keep_forget.specs.Cleaning.{HasCleaned}
use Rattle.smk_keep_forget.specs.Seen.{forgotten_lines, seen}
use Rattle.smk_keep_forget.proofs.Around.{cleaned_stood, cleaned_taken, cleaned_unheeded, cleaned_unmade, cleaned_untaken, lines_put, told_taken}
use Rattle.smk_keep_forget.proofs.cleaning.forget_paths.Goals as goal

pub returns-then-nolock-clause-acted : goal.returns-then-nolock-clause-acted
returns-then-nolock-clause-acted g c =
    let act = g.W.Files.act in
    let old = g.W.Files.device c.args.work.now in
    let new = g.W.Files.device c.forget_all.new.work in
    let r = c.forget_all.result in
    subst (λ ps. HasActed act (HasCleaned ps c.args.nolock r) old new (is_device r)) c.as_slice-all.ensures
    (cleaned_unheeded act c.as_slice-all.result.now c.args.nolock old new r c.if-nolock.true c.forget_all.ensures.acted)

pub returns-then-nolock-clause-told : goal.returns-then-nolock-clause-told
returns-then-nolock-clause-told g c =
    let first = g.O.Sink.sunk c.args.out.now in
    let last = g.O.Sink.sunk c.forget_all.new.out in
    subst (λ ps. WhereTold (g.W.Files.device c.args.work.now) (λ w. Put first last (IsWholeFor (forget_status c.forget_all.result) (forgotten_lines (seen w) [] ps)))) c.as_slice-all.ensures
    c.forget_all.ensures.told

pub returns-then-nolock-clause-put : goal.returns-then-nolock-clause-put
returns-then-nolock-clause-put g c = lines_put _ _ (g.O.Sink.sunk c.args.out.now) (g.O.Sink.sunk c.forget_all.new.out) c.forget_all.ensures.put

pub returns-then-nolock-clause-nothing : goal.returns-then-nolock-clause-nothing
returns-then-nolock-clause-nothing g c = λ off. absurd (true≢false (sym c.if-nolock.true ∙ off))

pub returns-in_default-clause-acted : goal.returns-in_default-clause-acted
returns-in_default-clause-acted g c = cleaned_unmade g.W.Files.act c.args.paths.now c.args.nolock (g.W.Files.device c.args.work.now) c.if-nolock.false

pub returns-then-not-taken-clause-acted : goal.returns-then-not-taken-clause-acted
returns-then-not-taken-clause-acted g c =
    cleaned_stood g.W.Files.act c.args.paths.now c.args.nolock (g.W.Files.device c.args.work.now) (g.W.Files.device c.take.new.work) c.in-Ok-take.taken c.if-nolock.false c.if-not-taken.true c.in-Ok-take.ensures

pub returns-in-Ok-take-clause-acted : goal.returns-in-Ok-take-clause-acted
returns-in-Ok-take-clause-acted g c =
    let act = g.W.Files.act in
    let old = g.W.Files.device c.args.work.now in
    let mid = g.W.Files.device c.take.new.work in
    let new = g.W.Files.device c.forget_locked.new.work in
    let r = c.forget_locked.result in
    subst (λ ps. HasActed act (HasCleaned ps c.args.nolock r) old new (is_device r)) c.as_slice-all.ensures
    (cleaned_taken act c.as_slice-all.result.now c.args.nolock old mid new c.in-Ok-take.taken r c.if-nolock.false c.if-not-taken.false c.in-Ok-take.ensures c.forget_locked.ensures.acted)

pub returns-in-Ok-take-clause-told : goal.returns-in-Ok-take-clause-told
returns-in-Ok-take-clause-told g c =
    let old = g.W.Files.device c.args.work.now in
    let mid = g.W.Files.device c.take.new.work in
    let first = g.O.Sink.sunk c.args.out.now in
    let last = g.O.Sink.sunk c.forget_locked.new.out in
    let r = c.forget_locked.result in
    subst (λ ps. WhereTold old (λ w. Put first last (IsWholeFor (forget_status r) (forgotten_lines (seen w) [] ps)))) c.as_slice-all.ensures
    (told_taken g.W.Files.act c.as_slice-all.result.now old mid first last c.in-Ok-take.taken r c.in-Ok-take.ensures c.forget_locked.ensures.told)

pub returns-clause-acted : goal.returns-clause-acted
returns-clause-acted g c =
    cleaned_untaken g.W.Files.act c.args.paths.now c.args.nolock (g.W.Files.device c.args.work.now) (g.W.Files.device c.take.new.work) c.in-Err.field-0 c.if-nolock.false c.in-Err.ensures
