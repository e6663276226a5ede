use Rattle.std.proofs.Common.{◌≡◌, ◌∙◌, ℕ, suc, ◌+◌, ◌-◌, max, List, ◌∷◌, map, filter, drop, Option, None, option_map, ap, sym, subst, arith}
use Rattle.std.specs.List.{fold}
use Rattle.std.proofs.lemmas.List.{at_drop_more}
use Rattle.smk_base.specs.Path.{is_path}
use Rattle.smk_world.specs.Trees.{Path}
use Rattle.smk_flow.specs.Flows.{first_wants}
use Rattle.smk_choose.specs.Told.{told_by}
use Rattle.smk_chain.specs.Derive.{height, wanted_paths, gathered_files}
use Rattle.smk_choose.proofs.Picked.{chosen_placed}
use Rattle.smk_chain_walk.specs.Heights.{AreCovered, Tells, TellsMost}
use Rattle.smk_chain_walk.proofs.Tops.{no_more, is_none}
use Rattle.smk_chain_walk.proofs.Covering.{all_less, made_here, covered_here}
use Rattle.smk_chain_walk.proofs.Climbed.{Reaches, tells_below, made, made_deep, both_tell, front_tells, one_deep, one_more, wanted_are, kept_more}
use Rattle.smk_chain_walk.proofs.climbing.+climb.Goals as goal

-- ---- a path

pub climb-returns-in-Some-clause-tells : goal.climb-returns-in-Some-clause-tells
climb-returns-in-Some-clause-tells _ c =
    let flow = c.args.query.now.flow.now in
    let sources = told_by c.args.query.now.sources.now in
    let L = c.args.query.now.lists.now in
    let p = c.args.path.now in
    subst (λ (o : Option ℕ). Tells flow sources L c.args.left p o) (sym c.below.ensures)
    (tells_below flow sources L c.args.left p c.in-Some.height (c.requires.known p c.in-Some.height (sym c.of.ensures ∙ c.in-Some.is)))

pub climb-climb_job-requires : goal.climb-climb_job-requires
climb-climb_job-requires _ c =
    let n = c.args.left - 1 in
    let left = c.if-left-eq0.false in
    let whole : suc n ≡ c.args.left = omega (arith, left) in
    let within = c.requires.within in
    let told = sym (ap (option_map (λ m. m.now)) c.in-Some-making_at.is) ∙ c.making_at.ensures in
    let covered = covered_here c.args.query.now.flow.now (told_by c.args.query.now.sources.now) c.args.table.now n c.args.left c.args.path.now c.in-Some-making_at.making.now whole c.requires.covered told in
    (omega (arith, left), (c.requires.guide, (omega (arith, within), (covered, c.requires.known))))

pub climb-overflow_add-under : goal.climb-overflow_add-under
climb-overflow_add-under _ c =
    let flow = c.args.query.now.flow.now in
    let sources = told_by c.args.query.now.sources.now in
    let L = c.args.query.now.lists.now in
    let n = c.args.left - 1 in
    let left = c.if-left-eq0.false in
    let whole : suc n ≡ c.args.left = omega (arith, left) in
    let told = sym (ap (option_map (λ m. m.now)) c.in-Some-making_at.is) ∙ c.making_at.ensures in
    let here = made_here flow sources c.args.table.now n c.args.left c.args.path.now c.in-Some-making_at.making.now whole c.requires.covered told in
    let tells = subst (λ (o : Option ℕ). TellsMost flow sources L n (wanted_paths flow L here.candidate) o) c.in-Some-2.is
    (c.in_ok-climb_job-in-Some-making_at.ensures.tells here.candidate (chosen_placed flow sources c.args.path.now here.candidate here.chosen) here.is) in
    let low = tells.0 in
    let within = c.requires.within in
    omega (arith, low, within)

pub climb-overflow_add-under-in-Some-2 : goal.climb-overflow_add-under-in-Some-2
climb-overflow_add-under-in-Some-2 _ c =
    let flow = c.args.query.now.flow.now in
    let sources = told_by c.args.query.now.sources.now in
    let L = c.args.query.now.lists.now in
    let n = c.args.left - 1 in
    let left = c.if-left-eq0.false in
    let whole : suc n ≡ c.args.left = omega (arith, left) in
    let told = sym (ap (option_map (λ m. m.now)) c.in-Some-making_at.is) ∙ c.making_at.ensures in
    let here = made_here flow sources c.args.table.now n c.args.left c.args.path.now c.in-Some-making_at.making.now whole c.requires.covered told in
    let tells = subst (λ (o : Option ℕ). TellsMost flow sources L n (wanted_paths flow L here.candidate) o) c.in-Some-2.is
    (c.in_ok-climb_job-in-Some-making_at.ensures.tells here.candidate (chosen_placed flow sources c.args.path.now here.candidate here.chosen) here.is) in
    let low = tells.0 in
    let within = c.requires.within in
    omega (arith, low, within)

pub climb-returns-in-None-2-clause-tells : goal.climb-returns-in-None-2-clause-tells
climb-returns-in-None-2-clause-tells _ c =
    let flow = c.args.query.now.flow.now in
    let sources = told_by c.args.query.now.sources.now in
    let L = c.args.query.now.lists.now in
    let p = c.args.path.now in
    let n = c.args.left - 1 in
    let left = c.if-left-eq0.false in
    let whole : suc n ≡ c.args.left = omega (arith, left) in
    let told = sym (ap (option_map (λ m. m.now)) c.in-Some-making_at.is) ∙ c.making_at.ensures in
    let here = made_here flow sources c.args.table.now n c.args.left p c.in-Some-making_at.making.now whole c.requires.covered told in
    let tells = subst (λ (o : Option ℕ). TellsMost flow sources L n (wanted_paths flow L here.candidate) o) c.in-None-2.is
    (c.in_ok-climb_job-in-Some-making_at.ensures.tells here.candidate (chosen_placed flow sources p here.candidate here.chosen) here.is) in
    subst (λ (k : ℕ). height flow sources L k p ≡ k) whole (made_deep flow sources L n p here.candidate here.chosen tells)

pub climb-returns-in_ok-keep-in-Some-2-clause-known : goal.climb-returns-in_ok-keep-in-Some-2-clause-known
climb-returns-in_ok-keep-in-Some-2-clause-known _ c =
    let flow = c.args.query.now.flow.now in
    let sources = told_by c.args.query.now.sources.now in
    let L = c.args.query.now.lists.now in
    let p = c.args.path.now in
    let n = c.args.left - 1 in
    let left = c.if-left-eq0.false in
    let whole : suc n ≡ c.args.left = omega (arith, left) in
    let told = sym (ap (option_map (λ m. m.now)) c.in-Some-making_at.is) ∙ c.making_at.ensures in
    let here = made_here flow sources c.args.table.now n c.args.left p c.in-Some-making_at.making.now whole c.requires.covered told in
    let tells = subst (λ (o : Option ℕ). TellsMost flow sources L n (wanted_paths flow L here.candidate) o) c.in-Some-2.is
    (c.in_ok-climb_job-in-Some-making_at.ensures.tells here.candidate (chosen_placed flow sources p here.candidate here.chosen) here.is) in
    kept_more flow sources L c.climb_job.new.heights c.keep-in-Some-2.new.self p (c.in-Some-2.under + 1) c.in_ok-climb_job-in-Some-making_at.ensures.known
    (made flow sources L n p here.candidate c.in-Some-2.under here.chosen tells) c.in_ok-keep-in-Some-2.ensures

pub climb-returns-in_ok-keep-in-Some-2-clause-tells : goal.climb-returns-in_ok-keep-in-Some-2-clause-tells
climb-returns-in_ok-keep-in-Some-2-clause-tells _ c =
    let flow = c.args.query.now.flow.now in
    let sources = told_by c.args.query.now.sources.now in
    let L = c.args.query.now.lists.now in
    let p = c.args.path.now in
    let n = c.args.left - 1 in
    let left = c.if-left-eq0.false in
    let whole : suc n ≡ c.args.left = omega (arith, left) in
    let told = sym (ap (option_map (λ m. m.now)) c.in-Some-making_at.is) ∙ c.making_at.ensures in
    let here = made_here flow sources c.args.table.now n c.args.left p c.in-Some-making_at.making.now whole c.requires.covered told in
    let tells = subst (λ (o : Option ℕ). TellsMost flow sources L n (wanted_paths flow L here.candidate) o) c.in-Some-2.is
    (c.in_ok-climb_job-in-Some-making_at.ensures.tells here.candidate (chosen_placed flow sources p here.candidate here.chosen) here.is) in
    subst (λ (o : Option ℕ). Tells flow sources L c.args.left p o) (sym c.below-in-Some-2.ensures)
    (tells_below flow sources L c.args.left p (c.in-Some-2.under + 1) (made flow sources L n p here.candidate c.in-Some-2.under here.chosen tells))

-- ---- several paths

pub climb_all-returns-in_default-clause-tells : goal.climb_all-returns-in_default-clause-tells
climb_all-returns-in_default-clause-tells _ c =
    let flow = c.args.query.now.flow.now in
    let sources = told_by c.args.query.now.sources.now in
    let L = c.args.query.now.lists.now in
    one_deep flow sources L c.args.left c.args.paths.now c.loop-path.path-index c.path-item.result c.loop-path-test.true c.path-item.is
    (subst (λ (o : Option ℕ). Tells flow sources L c.args.left c.path-item.result o) (is_none c.in_ok-found.field-0 c.in_default.not-Some) c.in_ok-found.ensures.tells)

pub climb_all-loop-path-preserved : goal.climb_all-loop-path-preserved
climb_all-loop-path-preserved _ c =
    let flow = c.args.query.now.flow.now in
    let sources = told_by c.args.query.now.sources.now in
    let L = c.args.query.now.lists.now in
    let paths = c.args.paths.now in
    let i = c.loop-path.path-index in
    let p = c.path-item.result in
    let l = c.loop-path.invariant in
    let e : drop i paths ≡ p ∷ drop (i + 1) paths =
    at_drop_more (λ (xs : List Path). xs) paths i p c.loop-path-test.true ∙ ap (λ (x : Path). x ∷ drop (i + 1) paths) (sym c.path-item.is) in
    let tells = subst (λ (o : Option ℕ). Tells flow sources L c.args.left p o) c.in-Some.is c.in_ok-found.ensures.tells in
    let higher = c.higher-height.ensures in
    let low = l.within in
    let less = tells.0 in
    record {
      known = c.in_ok-found.ensures.known;
      within = omega (arith, higher, low, less);
      reaches = subst (λ (k : ℕ). Reaches flow sources L paths (drop (i + 1) paths) k) (sym higher)
          (one_more flow sources L c.args.left paths (drop (i + 1) paths) p c.loop-path.height c.in-Some.found
          (subst (λ (rest : List Path). Reaches flow sources L paths rest c.loop-path.height) e l.reaches) tells);
    }

pub climb_all-returns-clause-tells : goal.climb_all-returns-clause-tells
climb_all-returns-clause-tells _ c =
    let flow = c.args.query.now.flow.now in
    let sources = told_by c.args.query.now.sources.now in
    let L = c.args.query.now.lists.now in
    let l = c.loop-path.invariant in (
      l.within,
      λ m lt. l.reaches m lt
          ∙ ap (λ (ps : List Path). fold max c.loop-path.height (map (height flow sources L m) ps)) (no_more c.args.paths.now c.loop-path.path-index c.loop-path-test.false),
    )

-- ---- known files

pub climb_files-climb_all-requires : goal.climb_files-climb_all-requires
climb_files-climb_all-requires _ c =
    let flow = c.args.query.now.flow.now in
    let sources = told_by c.args.query.now.sources.now in
    let within = c.requires.within in (
      omega arith,
      (
        c.requires.guide,
        (
          within,
          (
            subst (λ (ps : List Path). AreCovered flow sources c.in_ok-table.table c.args.left ps) (sym c.as_slice.ensures)
                (all_less flow sources c.in_ok-table.table c.args.left 201 c.in_ok-files.files (omega (arith, within)) c.in_ok-table.ensures),
            c.requires.known,
          ),
        ),
      ),
    )

-- ---- a job

pub climb_job-returns-in_default-clause-tells : goal.climb_job-returns-in_default-clause-tells
climb_job-returns-in_default-clause-tells _ c = λ d placed is.
    let flow = c.args.query.now.flow.now in
    let sources = told_by c.args.query.now.sources.now in
    let L = c.args.query.now.lists.now in
    let first = filter is_path (first_wants flow d) in
    let tells = subst (λ (o : Option ℕ). TellsMost flow sources L c.args.left first o) (is_none c.in_ok-height.field-0 c.in_default.not-Some)
    (subst (λ (ps : List Path). TellsMost flow sources L c.args.left ps c.in_ok-height.field-0) (c.as_slice.ensures ∙ c.in_ok-first.ensures d placed is) c.in_ok-height.ensures.tells) in
    subst (λ (ps : List Path). TellsMost flow sources L c.args.left ps None) (wanted_are flow sources L d)
    (front_tells flow sources L c.args.left first (filter is_path (gathered_files flow L d)) tells)

pub climb_job-returns-clause-tells : goal.climb_job-returns-clause-tells
climb_job-returns-clause-tells _ c = λ d placed is.
    let flow = c.args.query.now.flow.now in
    let sources = told_by c.args.query.now.sources.now in
    let L = c.args.query.now.lists.now in
    let first = filter is_path (first_wants flow d) in
    let files = filter is_path (gathered_files flow L d) in
    let tells = subst (λ (o : Option ℕ). TellsMost flow sources L c.args.left first o) c.in-Some.is
    (subst (λ (ps : List Path). TellsMost flow sources L c.args.left ps c.in_ok-height.field-0) (c.as_slice.ensures ∙ c.in_ok-first.ensures d placed is) c.in_ok-height.ensures.tells) in
    subst (λ (o : Option ℕ). TellsMost flow sources L c.args.left (wanted_paths flow L d) o) (sym c.highest.ensures)
    (subst (λ (ps : List Path). TellsMost flow sources L c.args.left ps (option_map (max c.in-Some.height) c.in_ok-files.files)) (wanted_are flow sources L d)
    (both_tell flow sources L c.args.left first files c.in-Some.height c.in_ok-files.files tells (c.in_ok-files.ensures.tells d placed is)))
