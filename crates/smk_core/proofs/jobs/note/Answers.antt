use Rattle.std.proofs.Common.{◌<◌, ℕ, List, [], ◌∷◌, length, set, refl, sym, subst, arith}
use Rattle.std.proofs.lemmas.Option.{slice_get_read}
use Rattle.smk_core.specs.Lines.{IsNoted}
use Rattle.smk_core.proofs.Behind.{noted_one}
use Rattle.smk_core.proofs.jobs.note.Goals as goal

pub returns : goal.returns
returns c =
    let lists = c.args.behind.now.items in
    let list = c.index_mut-list.result.now in
    let before = c.args.before in
    let inside : before < length lists = first_of (omega arith, omega (arith, c.len.ensures, c.args.behind.now.ok.0)) in
    subst (λ (l : List ℕ). IsNoted (before ∷ []) c.args.job lists (set lists before l)) (sym c.in_ok-push.ensures.ok)
    (noted_one before c.args.job list lists (slice_get_read lists (length lists) before list refl inside c.index_mut-list.ensures.value))
