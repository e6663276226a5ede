use Rattle.std.proofs.Common.{ℕ, List, length, refl, sym, subst}
use Rattle.smk_core.specs.declared.phase.Phase.{Phase}
use Rattle.smk_core.specs.Lines.{ArePassed, AreReady, AreReadyBut, AreOfAll}
use Rattle.smk_core.proofs.Rolls.{IsFresh, fresh_many, fresh_known, fresh_rest, fresh_roll}
use Rattle.smk_core.proofs.jobs.Jobs.new.Goals as goal

pub settle_all-requires : goal.settle_all-requires
settle_all-requires c =
    let asks = c.args.asks.now in
    let given = c.args.befores.now in
    let befores = c.in_ok-befores.befores in
    let line = c.in_ok-ready.ready in
    let passed = c.in_ok-passed.passed.items in
    let phases = c.args.phases.items in
    let h : IsFresh (length asks) asks given befores line passed phases = record {
      count_is = refl;
      as_many = c.requires.as_many.0;
      phases_many = c.requires.as_many.1;
      same = c.in_ok-befores.ensures;
      line_asks = c.in_ok-ready.ensures.asks;
      line_present = c.in_ok-ready.ensures.none;
      passed_is = c.in_ok-passed.ensures;
    } in
    record {
      as_many =
          subst (λ (bs : List (List ℕ)). AreOfAll (length bs) line passed c.as_slice-3.result.now) (sym c.as_slice-2.ensures)
          (subst (λ (ps : List Phase). AreOfAll (length befores) line passed ps) (sym c.as_slice-3.ensures.value) (fresh_many (length asks) asks given befores line passed phases h));
      known =
          subst (λ (bs : List (List ℕ)). ArePassed c.as_slice-3.result.now bs passed) (sym c.as_slice-2.ensures)
          (subst (λ (ps : List Phase). ArePassed ps befores passed) (sym c.as_slice-3.ensures.value) (fresh_known (length asks) asks given befores line passed phases h));
      rest =
          subst (λ (bs : List (List ℕ)). AreReadyBut c.as_slice.result.now c.as_slice-3.result.now bs line.present) (sym c.as_slice-2.ensures)
          (subst (λ (ps : List Phase). AreReadyBut c.as_slice.result.now ps befores line.present) (sym c.as_slice-3.ensures.value)
          (subst (λ (js : List ℕ). AreReadyBut js phases befores line.present) (sym c.as_slice.ensures)
          (fresh_rest (length asks) asks given befores line passed phases h c.in_ok-all.all c.in_ok-all.ensures)));
    }

pub invariant_of-result : goal.invariant_of-result
invariant_of-result c =
    let asks = c.args.asks.now in
    let given = c.args.befores.now in
    let befores = c.in_ok-befores.befores in
    let line = c.in_ok-ready.ready in
    let passed = c.in_ok-passed.passed.items in
    let phases = c.args.phases.items in
    let now = c.settle_all.new.ready in
    let upto = c.settle_all.new.passed.items in
    let h : IsFresh (length asks) asks given befores line passed phases = record {
      count_is = refl;
      as_many = c.requires.as_many.0;
      phases_many = c.requires.as_many.1;
      same = c.in_ok-befores.ensures;
      line_asks = c.in_ok-ready.ensures.asks;
      line_present = c.in_ok-ready.ensures.none;
      passed_is = c.in_ok-passed.ensures;
    } in
    fresh_roll (length asks) asks given befores line passed phases h now upto c.in_ok-behind.behind.items
    (subst (λ (ps : List Phase). AreReady ps befores now.present) c.as_slice-3.ensures.value
    (subst (λ (bs : List (List ℕ)). AreReady c.as_slice-3.result.now bs now.present) c.as_slice-2.ensures c.settle_all.ensures.ready.0))
    c.settle_all.ensures.ready.1
    (subst (λ (ps : List Phase). ArePassed ps befores upto) c.as_slice-3.ensures.value
    (subst (λ (bs : List (List ℕ)). ArePassed c.as_slice-3.result.now bs upto) c.as_slice-2.ensures c.settle_all.ensures.known))
    (subst (λ (ps : List Phase). AreOfAll (length befores) now upto ps) c.as_slice-3.ensures.value
    (subst (λ (bs : List (List ℕ)). AreOfAll (length bs) now upto c.as_slice-3.result.now) c.as_slice-2.ensures c.settle_all.ensures.as_many))
    c.in_ok-behind.ensures.behind c.in_ok-behind.ensures.each
