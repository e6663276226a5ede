use Rattle.std.proofs.Common.{◌≡◌, Some, sym, ap, ap₂, subst, ◌∙◌}
use Rattle.std.specs.Prelude.{slice_index_or, slice_set, IfOk, IfErr}
use Rattle.std.proofs.lemmas.Result.{IfOk-weaker, IfErr-weaker}
use Rattle.smk_plan.specs.declared.fault.PlanFault.TheVariants.{OutOfMemory}
use Rattle.smk_plan_states.specs.declared.rows.Own.TheVariants.{Unknown}
use Rattle.smk_plan_states.specs.Rows.{FitOwn}
use Rattle.smk_plan_states.specs.Served.{AreServed}
use Rattle.smk_plan_states.specs.Standing.{StandsBy}
use Rattle.smk_plan_states.specs.Stays.{Told}
use Rattle.smk_plan_table.specs.Plans.{plan_by}
use Rattle.smk_plan_live.specs.Kept.{own_now}
use Rattle.smk_plan_live.specs.Learning.{forgotten}
use Rattle.smk_plan_live.specs.Live.{LivePlan, seen_as}
use Rattle.smk_plan_live.specs.Lives.{AreRanked, IsNow, IsRefusedNow}
use Rattle.smk_plan_live.specs.Steps.{IsAhead, IsChangeOf, IsLast, StandsNext, plan_next, readers_at}
use Rattle.smk_plan_live.proofs.Changed.{exchanged, exchanged_back}
use Rattle.smk_plan_live.proofs.Installed.{follows_then, force_is, lent_is, lent_then, own_fits}
use Rattle.smk_plan_live.proofs.live.LivePlan.tell_changed.Goals as goal

pub tell-made-requires : goal.tell-made-requires
tell-made-requires g c =
    let r = c.self.inside in
    let v = c.self.view_is in
    let p : LivePlan = seen_as r.base r.settings r.ranking r.current r.known r.held r.table r.flags r.readers r.commanded r.limits in
    let n = c.args.number in
    let forced = c.args.forced in
    let x = c.args.change.now in
    let ahead : IsAhead p n forced = subst (λ (q : LivePlan). IsAhead q n forced) (sym v) c.requires.ahead in
    let change : IsChangeOf p n forced x = subst (λ (q : LivePlan). IsChangeOf q n forced x) (sym v) c.requires.change in (
      c.type_bounds.sync-J,
      (
        ahead.live.table,
        (ahead.changed.sound, force_is p n forced ahead x change c.as_slice-forces.result.now c.as_slice-forces.ensures.value),
      ),
    )

pub returns-clause-same : goal.returns-clause-same
returns-clause-same g c =
    let r = c.self.inside in
    let n = c.args.number in
    let x = c.args.change.now in
    let e = c.exchange.ensures in
    let back : c.exchange-2.new.self ≡ r.flags.outputs =
    c.exchange-2.ensures.list ∙ ap₂ (λ rows row. slice_set rows n row) e.list e.element ∙ exchanged r.flags.outputs n x.outputs in
    let again : c.exchange-2.new.element ≡ x.outputs =
    c.exchange-2.ensures.element ∙ ap₂ (λ rows row. slice_index_or rows n row) e.list e.element ∙ exchanged_back r.flags.outputs n x.outputs in (
      (λ i. seen_as r.base r.settings r.ranking r.current r.known r.held r.table (record r.flags { outputs = back i }) r.readers r.commanded r.limits) ∙ c.self.view_is,
      (λ i. record x { outputs = again i }),
    )

pub returns-clause-own : goal.returns-clause-own
returns-clause-own g c =
    let r = c.self.inside in
    let v = c.self.view_is in
    let p : LivePlan = seen_as r.base r.settings r.ranking r.current r.known r.held r.table r.flags r.readers r.commanded r.limits in
    let n = c.args.number in
    let forced = c.args.forced in
    let x = c.args.change.now in
    let ahead : IsAhead p n forced = subst (λ (q : LivePlan). IsAhead q n forced) (sym v) c.requires.ahead in
    let change : IsChangeOf p n forced x = subst (λ (q : LivePlan). IsChangeOf q n forced x) (sym v) c.requires.change in
    let was : c.args.own.now.items ≡ forgotten (slice_set p.flags.own n Unknown) (readers_at p.readers.items n) =
    subst (λ (q : LivePlan). c.args.own.now.items ≡ forgotten (slice_set q.flags.own n Unknown) (readers_at q.readers.items n)) (sym v) c.requires.own in
    let fits : AreServed p.base.jobs p.settings.targets → FitOwn c.tell-made.new.own.items (own_now p.settings p.base) =
    λ served.
    c.tell-made.ensures.fits p.settings ahead.changed.sound
    (force_is p n forced ahead x change c.as_slice-forces.result.now c.as_slice-forces.ensures.value served)
    (own_fits p n forced ahead x change c.args.own.now.items was served) in
    subst (λ (q : LivePlan). AreServed q.base.jobs q.settings.targets → FitOwn c.tell-made.new.own.items (own_now q.settings q.base)) v fits

pub returns-clause-now : goal.returns-clause-now
returns-clause-now g c =
    let r = c.self.inside in
    let v = c.self.view_is in
    let p : LivePlan = seen_as r.base r.settings r.ranking r.current r.known r.held r.table r.flags r.readers r.commanded r.limits in
    let n = c.args.number in
    let forced = c.args.forced in
    let x = c.args.change.now in
    let ahead : IsAhead p n forced = subst (λ (q : LivePlan). IsAhead q n forced) (sym v) c.requires.ahead in
    let change : IsChangeOf p n forced x = subst (λ (q : LivePlan). IsChangeOf q n forced x) (sym v) c.requires.change in
    let was : c.args.own.now.items ≡ forgotten (slice_set p.flags.own n Unknown) (readers_at p.readers.items n) =
    subst (λ (q : LivePlan). c.args.own.now.items ≡ forgotten (slice_set q.flags.own n Unknown) (readers_at q.readers.items n)) (sym v) c.requires.own in
    let fits : AreServed p.base.jobs p.settings.targets → FitOwn c.tell-made.new.own.items (own_now p.settings p.base) =
    λ served.
    c.tell-made.ensures.fits p.settings ahead.changed.sound
    (force_is p n forced ahead x change c.as_slice-forces.result.now c.as_slice-forces.ensures.value served)
    (own_fits p n forced ahead x change c.args.own.now.items was served) in
    let k = c.last-last.ensures in
    let last : IsLast p n c.last-last.result = record { ranking = k.ranking; job = k.job; readers = k.readers } in
    let rows = c.as_slice-outputs.result.now in
    let makers = c.as_slice-makers.result.now in
    let flags = c.as_slice-forces.result.now in
    let outputs : rows ≡ slice_set p.flags.outputs x.number x.outputs =
    c.as_slice-outputs.ensures ∙ c.exchange.ensures.list ∙ ap (λ m. slice_set p.flags.outputs m x.outputs) (sym change.number) in
    let is = lent_is p n forced ahead x change rows outputs makers flags c.as_slice-makers.ensures c.as_slice-forces.ensures.value in
    let follows = follows_then p n forced ahead x change c.last-last.result last rows makers flags is in
    let given = lent_then p n forced ahead x change rows outputs makers c.as_slice-makers.ensures c.tell-made.new.own.items fits c.as_slice-suspects.result.now
    c.as_slice-suspects.ensures.value in
    subst (λ (q : LivePlan). IfOk c.tell-made.result (λ made. IsNow q.settings q.base (plan_next q x made.ranked) made.held)) v
    (IfOk-weaker c.tell-made.result _ _
    (λ made told. subst (λ (lent : Told). IsNow p.settings p.base (plan_by p.table lent made.ranked) made.held) is (told follows given)) c.tell-made.ensures.now)

pub returns-clause-ranked : goal.returns-clause-ranked
returns-clause-ranked g c =
    let r = c.self.inside in
    let v = c.self.view_is in
    let p : LivePlan = seen_as r.base r.settings r.ranking r.current r.known r.held r.table r.flags r.readers r.commanded r.limits in
    let n = c.args.number in
    let forced = c.args.forced in
    let x = c.args.change.now in
    let ahead : IsAhead p n forced = subst (λ (q : LivePlan). IsAhead q n forced) (sym v) c.requires.ahead in
    let change : IsChangeOf p n forced x = subst (λ (q : LivePlan). IsChangeOf q n forced x) (sym v) c.requires.change in
    let was : c.args.own.now.items ≡ forgotten (slice_set p.flags.own n Unknown) (readers_at p.readers.items n) =
    subst (λ (q : LivePlan). c.args.own.now.items ≡ forgotten (slice_set q.flags.own n Unknown) (readers_at q.readers.items n)) (sym v) c.requires.own in
    let fits : AreServed p.base.jobs p.settings.targets → FitOwn c.tell-made.new.own.items (own_now p.settings p.base) =
    λ served.
    c.tell-made.ensures.fits p.settings ahead.changed.sound
    (force_is p n forced ahead x change c.as_slice-forces.result.now c.as_slice-forces.ensures.value served)
    (own_fits p n forced ahead x change c.args.own.now.items was served) in
    let k = c.last-last.ensures in
    let last : IsLast p n c.last-last.result = record { ranking = k.ranking; job = k.job; readers = k.readers } in
    let rows = c.as_slice-outputs.result.now in
    let makers = c.as_slice-makers.result.now in
    let flags = c.as_slice-forces.result.now in
    let outputs : rows ≡ slice_set p.flags.outputs x.number x.outputs =
    c.as_slice-outputs.ensures ∙ c.exchange.ensures.list ∙ ap (λ m. slice_set p.flags.outputs m x.outputs) (sym change.number) in
    let is = lent_is p n forced ahead x change rows outputs makers flags c.as_slice-makers.ensures c.as_slice-forces.ensures.value in
    let follows = follows_then p n forced ahead x change c.last-last.result last rows makers flags is in
    let given = lent_then p n forced ahead x change rows outputs makers c.as_slice-makers.ensures c.tell-made.new.own.items fits c.as_slice-suspects.result.now
    c.as_slice-suspects.ensures.value in
    subst (λ (q : LivePlan). IfOk c.tell-made.result (λ made. AreRanked q.settings q.base made.ranked.ranking (plan_next q x made.ranked))) v
    (IfOk-weaker c.tell-made.result _ _
    (λ made told. subst (λ (lent : Told). AreRanked p.settings p.base made.ranked.ranking (plan_by p.table lent made.ranked)) is (told follows given))
    c.tell-made.ensures.ranked)

pub returns-clause-standing : goal.returns-clause-standing
returns-clause-standing g c =
    let r = c.self.inside in
    let v = c.self.view_is in
    let p : LivePlan = seen_as r.base r.settings r.ranking r.current r.known r.held r.table r.flags r.readers r.commanded r.limits in
    let n = c.args.number in
    let forced = c.args.forced in
    let x = c.args.change.now in
    let ahead : IsAhead p n forced = subst (λ (q : LivePlan). IsAhead q n forced) (sym v) c.requires.ahead in
    let change : IsChangeOf p n forced x = subst (λ (q : LivePlan). IsChangeOf q n forced x) (sym v) c.requires.change in
    let was : c.args.own.now.items ≡ forgotten (slice_set p.flags.own n Unknown) (readers_at p.readers.items n) =
    subst (λ (q : LivePlan). c.args.own.now.items ≡ forgotten (slice_set q.flags.own n Unknown) (readers_at q.readers.items n)) (sym v) c.requires.own in
    let fits : AreServed p.base.jobs p.settings.targets → FitOwn c.tell-made.new.own.items (own_now p.settings p.base) =
    λ served.
    c.tell-made.ensures.fits p.settings ahead.changed.sound
    (force_is p n forced ahead x change c.as_slice-forces.result.now c.as_slice-forces.ensures.value served)
    (own_fits p n forced ahead x change c.args.own.now.items was served) in
    let k = c.last-last.ensures in
    let last : IsLast p n c.last-last.result = record { ranking = k.ranking; job = k.job; readers = k.readers } in
    let rows = c.as_slice-outputs.result.now in
    let makers = c.as_slice-makers.result.now in
    let flags = c.as_slice-forces.result.now in
    let outputs : rows ≡ slice_set p.flags.outputs x.number x.outputs =
    c.as_slice-outputs.ensures ∙ c.exchange.ensures.list ∙ ap (λ m. slice_set p.flags.outputs m x.outputs) (sym change.number) in
    let is = lent_is p n forced ahead x change rows outputs makers flags c.as_slice-makers.ensures c.as_slice-forces.ensures.value in
    let follows = follows_then p n forced ahead x change c.last-last.result last rows makers flags is in
    subst (λ (q : LivePlan). IfOk c.tell-made.result (λ made. AreServed q.base.jobs q.settings.targets → StandsNext q x made.ranked.ranking)) v
    (IfOk-weaker c.tell-made.result _ _
    (λ made told. λ served. subst (λ (lent : Told). StandsBy p.table lent made.ranked.ranking) is (told served (fits served) follows)) c.tell-made.ensures.standing)

pub returns-clause-refused : goal.returns-clause-refused
returns-clause-refused g c =
    let r = c.self.inside in
    let v = c.self.view_is in
    let p : LivePlan = seen_as r.base r.settings r.ranking r.current r.known r.held r.table r.flags r.readers r.commanded r.limits in
    let n = c.args.number in
    let forced = c.args.forced in
    let x = c.args.change.now in
    let ahead : IsAhead p n forced = subst (λ (q : LivePlan). IsAhead q n forced) (sym v) c.requires.ahead in
    let change : IsChangeOf p n forced x = subst (λ (q : LivePlan). IsChangeOf q n forced x) (sym v) c.requires.change in
    let was : c.args.own.now.items ≡ forgotten (slice_set p.flags.own n Unknown) (readers_at p.readers.items n) =
    subst (λ (q : LivePlan). c.args.own.now.items ≡ forgotten (slice_set q.flags.own n Unknown) (readers_at q.readers.items n)) (sym v) c.requires.own in
    let fits : AreServed p.base.jobs p.settings.targets → FitOwn c.tell-made.new.own.items (own_now p.settings p.base) =
    λ served.
    c.tell-made.ensures.fits p.settings ahead.changed.sound
    (force_is p n forced ahead x change c.as_slice-forces.result.now c.as_slice-forces.ensures.value served)
    (own_fits p n forced ahead x change c.args.own.now.items was served) in
    let k = c.last-last.ensures in
    let last : IsLast p n c.last-last.result = record { ranking = k.ranking; job = k.job; readers = k.readers } in
    let rows = c.as_slice-outputs.result.now in
    let makers = c.as_slice-makers.result.now in
    let flags = c.as_slice-forces.result.now in
    let outputs : rows ≡ slice_set p.flags.outputs x.number x.outputs =
    c.as_slice-outputs.ensures ∙ c.exchange.ensures.list ∙ ap (λ m. slice_set p.flags.outputs m x.outputs) (sym change.number) in
    let is = lent_is p n forced ahead x change rows outputs makers flags c.as_slice-makers.ensures c.as_slice-forces.ensures.value in
    let follows = follows_then p n forced ahead x change c.last-last.result last rows makers flags is in
    let given = lent_then p n forced ahead x change rows outputs makers c.as_slice-makers.ensures c.tell-made.new.own.items fits c.as_slice-suspects.result.now
    c.as_slice-suspects.ensures.value in
    subst (λ (q : LivePlan). IfErr c.tell-made.result (λ fault. (fault ≡ OutOfMemory → ⊥) → IsRefusedNow q.settings q.base fault)) v
    (IfErr-weaker c.tell-made.result _ _ (λ fault told. λ other. told other follows given) c.tell-made.ensures.refused)
