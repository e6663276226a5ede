use Rattle.std.proofs.Common.{◌≡◌, ◌<◌, Some, length, ap, subst, sym, ◌∙◌}
use Rattle.smk_plan_live.specs.declared.base.Base.{Base}
use Rattle.smk_plan_live.specs.Live.{LivePlan, on_base, seen_as}
use Rattle.smk_plan_live.specs.Carried.{sighted}
use Rattle.smk_plan_live.specs.Lives.{IsLive, IsRefusedNow}
use Rattle.smk_plan_live.specs.Steps.{IsAhead, IsChanged}
use Rattle.smk_plan_live.proofs.Installed.{ahead_sighted, sighted_back}
use Rattle.smk_plan_live.proofs.live.LivePlan.see.Goals as goal

pub settle-requires : goal.settle-requires
settle-requires c =
    let r = c.self.inside in
    let p : LivePlan = seen_as r.base r.settings r.ranking r.current r.known r.held r.table r.flags r.readers r.commanded r.limits in
    let l = c.args.loss in
    let within = subst (λ (q : LivePlan). l.number < length q.base.jobs.jobs) (sym c.self.view_is) c.requires.within in
    let live = subst IsLive (sym c.self.view_is) c.requires.live in
    let changed =
    subst (λ (q : LivePlan). IsChanged q.settings q.base (sighted l.number (Some l.sights) q.base) l.number l.forced) (sym c.self.view_is) c.requires.changed in
    let is = c.sight_outputs-saw.ensures.now in (
      _,
      (
        coe 1 0 (i. l.number < length (is i).jobs.jobs) within,
        coe 1 0 (i. IsAhead (on_base p (is i)) l.number l.forced)
            (ahead_sighted p live l.number (Some l.sights) l.forced changed (on_base p (sighted l.number (Some l.sights) p.base)).plan),
      ),
    )

pub returns-in-Err-clause-err : goal.returns-in-Err-clause-err
returns-in-Err-clause-err c =
    let r = c.self.inside in
    let p : LivePlan = seen_as r.base r.settings r.ranking r.current r.known r.held r.table r.flags r.readers r.commanded r.limits in
    let n = c.args.loss.number in
    let s = c.sight_outputs-saw in
    let same = c.self-2.view_is ∙ c.in-Err.ensures.err in
    let back : c.sight_outputs.new.self ≡ r.base =
    c.sight_outputs.ensures.now ∙ ap (sighted n s.result) (ap (λ (x : LivePlan). x.base) same ∙ s.ensures.now)
    ∙ sighted_back r.base n (Some c.args.loss.sights) s.result s.ensures.was
    in ap (λ (q : LivePlan). on_base q c.sight_outputs.new.self) same ∙ ap (on_base p) back ∙ c.self.view_is

pub returns-in-Err-clause-live : goal.returns-in-Err-clause-live
returns-in-Err-clause-live c =
    let r = c.self.inside in
    let p : LivePlan = seen_as r.base r.settings r.ranking r.current r.known r.held r.table r.flags r.readers r.commanded r.limits in
    let n = c.args.loss.number in
    let s = c.sight_outputs-saw in
    let same = c.self-2.view_is ∙ c.in-Err.ensures.err in
    let back : c.sight_outputs.new.self ≡ r.base =
    c.sight_outputs.ensures.now ∙ ap (sighted n s.result) (ap (λ (x : LivePlan). x.base) same ∙ s.ensures.now)
    ∙ sighted_back r.base n (Some c.args.loss.sights) s.result s.ensures.was
    in subst IsLive (sym (ap (λ (q : LivePlan). on_base q c.sight_outputs.new.self) same ∙ ap (on_base p) back ∙ c.self.view_is)) c.requires.live

pub returns-in-Err-clause-refused : goal.returns-in-Err-clause-refused
returns-in-Err-clause-refused c = λ other.
    let r = c.self.inside in
    let l = c.args.loss in
    subst (λ (q : LivePlan). IsRefusedNow q.settings (sighted l.number (Some l.sights) q.base) c.in-Err.fault) c.self.view_is
    (subst (λ (x : Base). IsRefusedNow r.settings x c.in-Err.fault) c.sight_outputs-saw.ensures.now (c.in-Err.ensures.refused other))

pub returns-in-Ok-clause-ok : goal.returns-in-Ok-clause-ok
returns-in-Ok-clause-ok c =
    let l = c.args.loss in (
      c.in-Ok.ensures.ok.0 ∙ ap (λ (q : LivePlan). q.settings) c.self.view_is,
      c.in-Ok.ensures.ok.1 ∙ c.sight_outputs-saw.ensures.now ∙ ap (λ (q : LivePlan). sighted l.number (Some l.sights) q.base) c.self.view_is,
    )
