use Rattle.std.proofs.Common.{arith, ◌-◌, ◌<◌, ◌∙◌, subst, sym, length, List}
use Rattle.std.specs.List.{AllByRecursion}
use Rattle.smk_world.specs.Trees.{Path}
use Rattle.smk_world.proofs.Devices.{looked_then, looked_on}
use Rattle.smk_chain_sight.specs.Telling.{IsListedAround}
use Rattle.smk_chain_sight.proofs.Eyes.{told_then, says_before}
use Rattle.smk_chain_sight.proofs.Spreading.{Level, many_at, same_at, still_at, within_at, first_at, closed_at, grown_at, more_at, told_at, told_last, grown_none, too_many, few_enough, never_few}
use Rattle.smk_chain_sight.proofs.reaching.+spread.Goals as goal

pub returns-in_err-last-clause-looked : goal.returns-in_err-last-clause-looked
returns-in_err-last-clause-looked g t c =
    looked_on _ c.in_err-last.was c.from_residual-in_err-last.ensures.1 c.last.ensures.looked

pub returns-then-levels-eq0-clause-looked : goal.returns-then-levels-eq0-clause-looked
returns-then-levels-eq0-clause-looked g t c =
    c.in_ok-last.ensures.looked

pub returns-then-levels-eq0-clause-told : goal.returns-then-levels-eq0-clause-told
returns-then-levels-eq0-clause-told g t c = c.in_ok-last.ensures.told

pub returns-then-levels-eq0-clause-reached : goal.returns-then-levels-eq0-clause-reached
returns-then-levels-eq0-clause-reached g t c =
    record {
      listed = λ few.
          told_last c.args.ground.now.flow.now c.args.eye.now c.last.new.eye c.args.from c.args.found.now.paths.items c.deref-paths.result.now c.in_ok-last.ensures.told.keeps (c.deref-paths.ensures.value ∙ c.in_ok-fresh.ensures) c.requires.so_far.listed c.in_ok-last.ensures.listed;
      whole = λ S says few. grown_none c.args.ground.now.flow.now S c.args.ground.now.lists.now c.args.levels c.args.found.now.paths.items c.if-levels-eq0.true;
      many = λ S says many.
          subst (λ (ys : List Path). 100000 < length ys) (grown_none c.args.ground.now.flow.now S c.args.ground.now.lists.now c.args.levels c.args.found.now.paths.items c.if-levels-eq0.true) many;
    }

pub returns-in_err-level-clause-looked : goal.returns-in_err-level-clause-looked
returns-in_err-level-clause-looked g t c =
    looked_on _ c.in_err-level.was c.from_residual-in_err-level.ensures.1 c.level.ensures.looked

pub returns-then-is_over-clause-looked : goal.returns-then-is_over-clause-looked
returns-then-is_over-clause-looked g t c =
    c.in_ok-level.ensures.looked

pub returns-then-is_over-clause-told : goal.returns-then-is_over-clause-told
returns-then-is_over-clause-told g t c = c.in_ok-level.ensures.told

pub returns-then-is_over-clause-reached : goal.returns-then-is_over-clause-reached
returns-then-is_over-clause-reached g t c =
    record {
      listed = λ few. absurd (never_few c.level.new.found.paths.items (too_many c.level.new.found.paths.items c.is_over.result c.if-is_over.true c.is_over.ensures) few);
      whole = λ S says few. absurd (never_few c.level.new.found.paths.items (too_many c.level.new.found.paths.items c.is_over.result c.if-is_over.true c.is_over.ensures) few);
      many = λ S says many.
          let l : Level c.args.ground.now.flow.now c.args.ground.now.lists.now c.level.new.eye c.args.from c.args.found.now.paths.items c.deref-paths.result.now c.level.new.found.paths.items =
          record { each = c.requires.so_far.kept.each; closed = λ S2 says2. c.requires.so_far.closed S2 (says_before c.args.eye.now c.level.new.eye S2 c.in_ok-level.ensures.told.keeps says2); is = c.deref-paths.ensures.value ∙ c.in_ok-fresh.ensures; advanced = c.in_ok-level.ensures.advanced } in
          many_at c.args.ground.now.flow.now c.args.ground.now.lists.now c.level.new.eye c.args.from c.args.found.now.paths.items c.deref-paths.result.now c.level.new.found.paths.items l c.args.levels (c.args.levels - 1) S says (omega (arith, c.if-levels-eq0.false)) many;
    }

pub returns-then-now-end-clause-looked : goal.returns-then-now-end-clause-looked
returns-then-now-end-clause-looked g t c =
    c.in_ok-level.ensures.looked

pub returns-then-now-end-clause-told : goal.returns-then-now-end-clause-told
returns-then-now-end-clause-told g t c = c.in_ok-level.ensures.told

pub returns-then-now-end-clause-reached : goal.returns-then-now-end-clause-reached
returns-then-now-end-clause-reached g t c =
    record {
      listed = λ few.
          let xs = c.args.found.now.paths.items in
          let new = c.level.new.found.paths.items in
          let l : Level c.args.ground.now.flow.now c.args.ground.now.lists.now c.level.new.eye c.args.from xs c.deref-paths.result.now new =
          record { each = c.requires.so_far.kept.each; closed = λ S2 says2. c.requires.so_far.closed S2 (says_before c.args.eye.now c.level.new.eye S2 c.in_ok-level.ensures.told.keeps says2); is = c.deref-paths.ensures.value ∙ c.in_ok-fresh.ensures; advanced = c.in_ok-level.ensures.advanced } in
          subst (λ (ys : List Path). AllByRecursion (IsListedAround c.args.ground.now.flow.now c.level.new.eye) ys)
          (sym (same_at c.args.ground.now.flow.now c.args.ground.now.lists.now c.level.new.eye c.args.from xs c.deref-paths.result.now new l (sym c.count-now.ensures ∙ c.if-now-end.true ∙ c.count-end.ensures)))
          (told_at c.args.ground.now.flow.now c.args.ground.now.lists.now c.level.new.eye c.args.from xs c.deref-paths.result.now new l c.args.eye.now c.in_ok-level.ensures.told.keeps c.requires.so_far.listed few);
      whole = λ S says few.
          let xs = c.args.found.now.paths.items in
          let new = c.level.new.found.paths.items in
          let l : Level c.args.ground.now.flow.now c.args.ground.now.lists.now c.level.new.eye c.args.from xs c.deref-paths.result.now new =
          record { each = c.requires.so_far.kept.each; closed = λ S2 says2. c.requires.so_far.closed S2 (says_before c.args.eye.now c.level.new.eye S2 c.in_ok-level.ensures.told.keeps says2); is = c.deref-paths.ensures.value ∙ c.in_ok-fresh.ensures; advanced = c.in_ok-level.ensures.advanced } in
          still_at c.args.ground.now.flow.now c.args.ground.now.lists.now c.level.new.eye c.args.from xs c.deref-paths.result.now new l c.args.levels S says few (sym c.count-now.ensures ∙ c.if-now-end.true ∙ c.count-end.ensures);
      many = λ S says many. absurd (never_few c.level.new.found.paths.items many (few_enough c.level.new.found.paths.items c.is_over.result c.if-is_over.false c.is_over.ensures));
    }

pub spread-requires : goal.spread-requires
spread-requires g t c κs within =
    let xs = c.args.found.now.paths.items in
    let new = c.level.new.found.paths.items in
    let few = few_enough new c.is_over.result c.if-is_over.false c.is_over.ensures in
    let l : Level c.args.ground.now.flow.now c.args.ground.now.lists.now c.level.new.eye c.args.from xs c.deref-paths.result.now new =
    record { each = c.requires.so_far.kept.each; closed = λ S2 says2. c.requires.so_far.closed S2 (says_before c.args.eye.now c.level.new.eye S2 c.in_ok-level.ensures.told.keeps says2); is = c.deref-paths.ensures.value ∙ c.in_ok-fresh.ensures; advanced = c.in_ok-level.ensures.advanced } in (
      omega (arith, c.if-levels-eq0.false),
      (
        within,
        (
          c.requires.guide,
          record {
            kept = c.in_ok-level.ensures.kept;
            within = within_at c.args.ground.now.flow.now c.args.ground.now.lists.now c.level.new.eye c.args.from xs c.deref-paths.result.now new l c.count-end.result c.count-end.ensures;
            listed = subst (λ (ys : List Path). AllByRecursion (IsListedAround c.args.ground.now.flow.now c.level.new.eye) ys)
                (sym (first_at c.args.ground.now.flow.now c.args.ground.now.lists.now c.level.new.eye c.args.from xs c.deref-paths.result.now new l c.count-end.result c.count-end.ensures))
                (told_at c.args.ground.now.flow.now c.args.ground.now.lists.now c.level.new.eye c.args.from xs c.deref-paths.result.now new l c.args.eye.now c.in_ok-level.ensures.told.keeps c.requires.so_far.listed few);
            closed = λ S says. closed_at c.args.ground.now.flow.now c.args.ground.now.lists.now c.level.new.eye c.args.from xs c.deref-paths.result.now new l c.count-end.result S says c.count-end.ensures few;
          },
        ),
      ),
    )

pub returns-in_err-spread-clause-looked : goal.returns-in_err-spread-clause-looked
returns-in_err-spread-clause-looked g t c =
    looked_then c.in_ok-level.ensures.looked (looked_on _ c.in_err-spread.was c.from_residual-in_err-spread.ensures.1 c.spread.ensures.looked)

pub returns-clause-looked : goal.returns-clause-looked
returns-clause-looked g t c =
    looked_then c.in_ok-level.ensures.looked c.in_ok-spread.ensures.looked

pub returns-clause-told : goal.returns-clause-told
returns-clause-told g t c = told_then c.in_ok-level.ensures.looked c.in_ok-level.ensures.told c.in_ok-spread.ensures.told

pub returns-clause-reached : goal.returns-clause-reached
returns-clause-reached g t c =
    record {
      listed = c.in_ok-spread.ensures.reached.listed;
      whole = λ S says few.
          let xs = c.args.found.now.paths.items in
          let new = c.level.new.found.paths.items in
          let l : Level c.args.ground.now.flow.now c.args.ground.now.lists.now c.level.new.eye c.args.from xs c.deref-paths.result.now new =
          record { each = c.requires.so_far.kept.each; closed = λ S2 says2. c.requires.so_far.closed S2 (says_before c.args.eye.now c.level.new.eye S2 c.in_ok-level.ensures.told.keeps says2); is = c.deref-paths.ensures.value ∙ c.in_ok-fresh.ensures; advanced = c.in_ok-level.ensures.advanced } in
          grown_at c.args.ground.now.flow.now c.args.ground.now.lists.now c.level.new.eye c.args.from xs c.deref-paths.result.now new l c.args.levels (c.args.levels - 1) S _ (says_before c.level.new.eye c.spread.new.eye S c.in_ok-spread.ensures.told.keeps says) (omega (arith, c.if-levels-eq0.false))
          (few_enough new c.is_over.result c.if-is_over.false c.is_over.ensures) (c.in_ok-spread.ensures.reached.whole S says few);
      many = λ S says many.
          let xs = c.args.found.now.paths.items in
          let new = c.level.new.found.paths.items in
          let l : Level c.args.ground.now.flow.now c.args.ground.now.lists.now c.level.new.eye c.args.from xs c.deref-paths.result.now new =
          record { each = c.requires.so_far.kept.each; closed = λ S2 says2. c.requires.so_far.closed S2 (says_before c.args.eye.now c.level.new.eye S2 c.in_ok-level.ensures.told.keeps says2); is = c.deref-paths.ensures.value ∙ c.in_ok-fresh.ensures; advanced = c.in_ok-level.ensures.advanced } in
          more_at c.args.ground.now.flow.now c.args.ground.now.lists.now c.level.new.eye c.args.from xs c.deref-paths.result.now new l c.args.levels (c.args.levels - 1) S (says_before c.level.new.eye c.spread.new.eye S c.in_ok-spread.ensures.told.keeps says) (omega (arith, c.if-levels-eq0.false))
          (few_enough new c.is_over.result c.if-is_over.false c.is_over.ensures) (c.in_ok-spread.ensures.reached.many S says many);
    }
