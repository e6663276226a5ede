-- What no job makes was seen as sources, by the plan that is told of.
use Rattle.std.proofs.Common.{◌≡◌, Bool, true, List, sym, subst, ◌∙◌}
use Rattle.std.specs.List.{list_all}
use Rattle.smk_chain.specs.declared.jobs.Jobs.{Jobs}
use Rattle.smk_chain.specs.declared.jobs.Maker.{Maker}
use Rattle.smk_plan_live.specs.declared.base.Base.{Base}
use Rattle.smk_plan_live.specs.Now.{known_now, seen_now}
use Rattle.smk_laws_begins.specs.Sources.{are_made_or_seen, is_made_or_seen}

pub seen_by :
    (b base : Base) (js : Jobs) (makers : List Maker) (are : Bool) →
    b ≡ base →
    js ≡ base.jobs →
    makers ≡ js.makers → are ≡ list_all (is_made_or_seen (known_now b) (seen_now b)) makers → are ≡ true → are_made_or_seen base ≡ true
seen_by b base js makers are same jobs items is test =
    subst (λ (x : Jobs). list_all (is_made_or_seen (known_now base) (seen_now base)) x.makers ≡ true) jobs
    (subst (λ ms. list_all (is_made_or_seen (known_now base) (seen_now base)) ms ≡ true) items
    (subst (λ (x : Base). list_all (is_made_or_seen (known_now x) (seen_now x)) makers ≡ true) same (sym is ∙ test)))
