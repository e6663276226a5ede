use Rattle.std.proofs.Common.{◌≡◌, ◌<◌, ℕ, true, List, Some, length, set, refl, sym, ap, ◌∙◌, subst}
use Rattle.std.specs.List.{slice_get}
use Rattle.std.proofs.lemmas.Option.{slice_get_read}
use Rattle.smk_core.specs.declared.phase.Phase.{Phase}
use Rattle.smk_core.specs.declared.phase.Phase.TheVariants.{Done}
use Rattle.smk_core.specs.Standing.{stands, is_running}
use Rattle.smk_core.specs.Lines.{Roll, ArePassed, AreReady, AreReadyBut, AreOfAll}
use Rattle.smk_core.proofs.Rolls.{running_inside, failed_roll, done_many, done_known, done_rest, done_roll}
use Rattle.smk_core.proofs.jobs.Jobs.end.Goals as goal

pub settle_all-requires : goal.settle_all-requires
settle_all-requires c =
    let s = c.self.inside in
    let job = c.args.job in
    let now : List Phase = set s.phases.items job Done in
    let runs : stands is_running s.phases.items job ≡ true = ap (λ (r : Roll). stands is_running r.phases job) c.self.view_is ∙ c.requires in
    let inside : job < length s.ready.asks = running_inside s.ready s.befores s.behind.items s.passed.items s.phases.items c.self.invariant job runs in
    let within : job < length s.behind.items = subst (λ (n : ℕ). job < n) (sym c.self.invariant.behind_many) inside in
    let at : slice_get s.behind.items job ≡ Some c.index.result.now = slice_get_read s.behind.items (length s.behind.items) job c.index.result.now refl within c.index.ensures in
    record {
      as_many =
          subst (λ (bs : List (List ℕ)). AreOfAll (length bs) s.ready s.passed.items c.as_slice-3.result.now) (sym c.as_slice-2.ensures)
          (subst (λ (ps : List Phase). AreOfAll (length s.befores) s.ready s.passed.items ps) (sym c.as_slice-3.ensures.value)
          (done_many s.ready s.befores s.behind.items s.passed.items s.phases.items c.self.invariant job));
      known =
          subst (λ (bs : List (List ℕ)). ArePassed c.as_slice-3.result.now bs s.passed.items) (sym c.as_slice-2.ensures)
          (subst (λ (ps : List Phase). ArePassed ps s.befores s.passed.items) (sym c.as_slice-3.ensures.value)
          (done_known s.ready s.befores s.behind.items s.passed.items s.phases.items c.self.invariant job runs));
      rest =
          subst (λ (bs : List (List ℕ)). AreReadyBut c.as_slice.result.now c.as_slice-3.result.now bs s.ready.present) (sym c.as_slice-2.ensures)
          (subst (λ (ps : List Phase). AreReadyBut c.as_slice.result.now ps s.befores s.ready.present) (sym c.as_slice-3.ensures.value)
          (subst (λ (js : List ℕ). AreReadyBut js now s.befores s.ready.present) (sym c.as_slice.ensures)
          (done_rest s.ready s.befores s.behind.items s.passed.items s.phases.items c.self.invariant job runs c.index.result.now at)));
    }

pub invariant_of-self : goal.invariant_of-self
invariant_of-self c =
    let s = c.self.inside in
    let runs : stands is_running s.phases.items c.args.job ≡ true = ap (λ (r : Roll). stands is_running r.phases c.args.job) c.self.view_is ∙ c.requires in
    failed_roll s.ready s.befores s.behind.items s.passed.items s.phases.items c.self.invariant c.args.job runs

pub invariant_of-self-2 : goal.invariant_of-self-2
invariant_of-self-2 c =
    let s = c.self.inside in
    let job = c.args.job in
    let now : List Phase = set s.phases.items job Done in
    done_roll s.ready s.befores s.behind.items s.passed.items s.phases.items c.self.invariant job c.settle_all.new.ready c.settle_all.new.passed.items
    (subst (λ (ps : List Phase). AreReady ps s.befores c.settle_all.new.ready.present) c.as_slice-3.ensures.value
    (subst (λ (bs : List (List ℕ)). AreReady c.as_slice-3.result.now bs c.settle_all.new.ready.present) c.as_slice-2.ensures c.settle_all.ensures.ready.0))
    c.settle_all.ensures.ready.1
    (subst (λ (ps : List Phase). ArePassed ps s.befores c.settle_all.new.passed.items) c.as_slice-3.ensures.value
    (subst (λ (bs : List (List ℕ)). ArePassed c.as_slice-3.result.now bs c.settle_all.new.passed.items) c.as_slice-2.ensures c.settle_all.ensures.known))
    (subst (λ (ps : List Phase). AreOfAll (length s.befores) c.settle_all.new.ready c.settle_all.new.passed.items ps) c.as_slice-3.ensures.value
    (subst (λ (bs : List (List ℕ)). AreOfAll (length bs) c.settle_all.new.ready c.settle_all.new.passed.items c.as_slice-3.result.now) c.as_slice-2.ensures c.settle_all.ensures.as_many))
