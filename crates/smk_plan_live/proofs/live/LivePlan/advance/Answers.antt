use Rattle.std.proofs.Common.{◌≡◌, ◌<◌, false, Some, length, ap, subst, sym, ◌∙◌}
use Rattle.smk_plan_live.specs.declared.base.Base.{Base}
use Rattle.smk_plan_live.specs.Live.{LivePlan, on_base, seen_as}
use Rattle.smk_plan_live.specs.Carried.{advanced, turned, filled}
use Rattle.smk_plan_live.specs.Lives.{IsLive, IsRefusedNow}
use Rattle.smk_plan_live.specs.Steps.{IsAhead, IsChanged}
use Rattle.smk_plan_live.proofs.Installed.{ahead_advanced, turned_back, filled_back}
use Rattle.smk_plan_live.proofs.live.LivePlan.advance.Goals as goal

pub settle-requires : goal.settle-requires
settle-requires g c =
    let r = c.self.inside in
    let p : LivePlan = seen_as r.base r.settings r.ranking r.current r.known r.held r.table r.flags r.readers r.commanded r.limits in
    let n = c.args.number in
    let rows = c.args.rows in
    let within = subst (λ (q : LivePlan). n < length q.base.jobs.jobs) (sym c.self.view_is) c.requires.within in
    let live = subst IsLive (sym c.self.view_is) c.requires.live in
    let changed =
    subst (λ (q : LivePlan). IsChanged q.settings q.base (advanced n c.args.phase c.args.state rows.entries rows.sights q.base) n false)
    (sym c.self.view_is) c.requires.changed in
    let is = c.fill-earlier.ensures.now ∙ ap (filled n (Some rows.entries) (Some rows.sights)) c.turn-before.ensures.now in (
      c.type_bounds.sync-J,
      (
        coe 1 0 (i. n < length (is i).jobs.jobs) within,
        coe 1 0 (i. IsAhead (on_base p (is i)) n false)
            (ahead_advanced p live n c.args.phase c.args.state rows.entries rows.sights false changed
            (on_base p (advanced n c.args.phase c.args.state rows.entries rows.sights p.base)).plan),
      ),
    )

pub returns-in-Err-clause-err : goal.returns-in-Err-clause-err
returns-in-Err-clause-err g c =
    let r = c.self.inside in
    let p : LivePlan = seen_as r.base r.settings r.ranking r.current r.known r.held r.table r.flags r.readers r.commanded r.limits in
    let n = c.args.number in
    let t = c.turn-before in
    let f = c.fill-earlier in
    let same = c.self-2.view_is ∙ c.in-Err.ensures.err in
    let back : c.turn.new.self ≡ r.base =
    c.turn.ensures.now
    ∙ ap (turned n t.result.0 t.result.1)
    (c.fill.ensures.now ∙ ap (filled n f.result.0 f.result.1) (ap (λ (x : LivePlan). x.base) same ∙ f.ensures.now)
    ∙ filled_back t.new.self n (Some c.args.rows.entries) f.result.0 (Some c.args.rows.sights) f.result.1 f.ensures.row f.ensures.sights ∙ t.ensures.now)
    ∙ turned_back r.base n c.args.phase t.result.0 c.args.state t.result.1 t.ensures.phase t.ensures.state
    in ap (λ (q : LivePlan). on_base q c.turn.new.self) same ∙ ap (on_base p) back ∙ c.self.view_is

pub returns-in-Err-clause-live : goal.returns-in-Err-clause-live
returns-in-Err-clause-live g c =
    let r = c.self.inside in
    let p : LivePlan = seen_as r.base r.settings r.ranking r.current r.known r.held r.table r.flags r.readers r.commanded r.limits in
    let n = c.args.number in
    let t = c.turn-before in
    let f = c.fill-earlier in
    let same = c.self-2.view_is ∙ c.in-Err.ensures.err in
    let back : c.turn.new.self ≡ r.base =
    c.turn.ensures.now
    ∙ ap (turned n t.result.0 t.result.1)
    (c.fill.ensures.now ∙ ap (filled n f.result.0 f.result.1) (ap (λ (x : LivePlan). x.base) same ∙ f.ensures.now)
    ∙ filled_back t.new.self n (Some c.args.rows.entries) f.result.0 (Some c.args.rows.sights) f.result.1 f.ensures.row f.ensures.sights ∙ t.ensures.now)
    ∙ turned_back r.base n c.args.phase t.result.0 c.args.state t.result.1 t.ensures.phase t.ensures.state
    in subst IsLive (sym (ap (λ (q : LivePlan). on_base q c.turn.new.self) same ∙ ap (on_base p) back ∙ c.self.view_is)) c.requires.live

pub returns-in-Err-clause-refused : goal.returns-in-Err-clause-refused
returns-in-Err-clause-refused g c = λ other.
    let r = c.self.inside in
    let n = c.args.number in
    let rows = c.args.rows in
    let is = c.fill-earlier.ensures.now ∙ ap (filled n (Some rows.entries) (Some rows.sights)) c.turn-before.ensures.now in
    subst (λ (q : LivePlan). IsRefusedNow q.settings (advanced n c.args.phase c.args.state rows.entries rows.sights q.base) c.in-Err.fault) c.self.view_is
    (subst (λ (x : Base). IsRefusedNow r.settings x c.in-Err.fault) is (c.in-Err.ensures.refused other))

pub returns-in-Ok-clause-ok : goal.returns-in-Ok-clause-ok
returns-in-Ok-clause-ok g c =
    let n = c.args.number in
    let rows = c.args.rows in (
      c.in-Ok.ensures.ok.0 ∙ ap (λ (q : LivePlan). q.settings) c.self.view_is,
      c.in-Ok.ensures.ok.1
          ∙ (c.fill-earlier.ensures.now ∙ ap (filled n (Some rows.entries) (Some rows.sights)) c.turn-before.ensures.now)
          ∙ ap (λ (q : LivePlan). advanced n c.args.phase c.args.state rows.entries rows.sights q.base) c.self.view_is,
    )
