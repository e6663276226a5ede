use Rattle.std.proofs.Common.{ℕ, List, drop, sym, ap, subst, ◌∙◌, arith}
use Rattle.std.specs.BTreeMap.{get_by_text}
use Rattle.std.specs.List.{list_any, slice_get}
use Rattle.std.proofs.lemmas.List.{drop_all}
use Rattle.smk_world.specs.declared.recipe.Item.{Item}
use Rattle.smk_flow.specs.declared.job.Job.{Job}
use Rattle.smk_plan_live.specs.Readers.{reading, stands_over}
use Rattle.smk_plan_live.proofs.Users.{AreBelow, AreLeft, left_step, left_first, below_first, readers_done}
use Rattle.smk_plan_live.proofs.readers.readers_of.Goals as goal

pub loop-number-init : goal.loop-number-init
loop-number-init c =
    let sites = get_by_text c.args.base.now.sites in
    let jobs = c.as_slice-jobs.result.now in
    subst (λ (rows : List (List ℕ)). AreLeft sites 0 (drop 0 jobs) rows jobs × AreBelow 0 rows) (sym c.in_ok-readers.ensures)
    (left_first sites jobs, below_first jobs 0)

pub loop-number-preserved : goal.loop-number-preserved
loop-number-preserved c =
    let sites = get_by_text c.args.base.now.sites in
    left_step sites c.as_slice-jobs.result.now c.loop-number.number c.index-jobs-number.result c.loop-number.readers.items c.push_items.new.readers.items
    c.loop-number-test.true c.index-jobs-number.is
    (λ m.
    c.in_ok-push_items.ensures m
    ∙ ap (λ (items : List Item). reading (list_any (λ (item : Item). list_any (stands_over sites m) item.paths) items) c.loop-number.number (slice_get c.loop-number.readers.items m))
    c.as_slice-inputs.ensures)
    c.loop-number.invariant

pub returns : goal.returns
returns c = λ sound apart.
    let sites = get_by_text c.args.base.now.sites in
    let jobs = c.as_slice-jobs.result.now in
    let rest = drop c.loop-number.number jobs in
    readers_done c.args.base.now sound apart c.loop-number.readers.items rest c.loop-number.number
    (drop_all c.loop-number.number jobs (omega (arith, c.loop-number-test.false)))
    (subst (λ (js : List Job). AreLeft sites c.loop-number.number rest c.loop-number.readers.items js) c.as_slice-jobs.ensures c.loop-number.invariant.0)
