use Rattle.std.proofs.Common.{None, length, map, refl, ap, ◌∙◌}
use Rattle.std.specs.Option.{option_or}
use Rattle.std.specs.BTreeMap.{get_by_text}
use Rattle.std.proofs.lemmas.List.{length-map}
use Rattle.smk_world.specs.Trees.{among}
use Rattle.smk_plan.specs.Sights.{sight_at}
use Rattle.smk_plan_live.specs.Carried.{told_upon, phase_from, began_from, entries_from, sights_from}
use Rattle.smk_plan_live.proofs.Grown.{no_later, all_later, or_three}
use Rattle.smk_plan_live.proofs.growing.grown.Goals as goal

pub returns-clause-sound : goal.returns-clause-sound
returns-clause-sound c =
    let b = c.args.base.now in
    let js = c.args.jobs.jobs in
    record {
      phases = ap length (c.of-4.ensures ∙ c.in_ok-rows.ensures.phases ∙ ap (map (phase_from b)) c.as_slice.ensures) ∙ length-map js (phase_from b);
      began = ap length (c.of-5.ensures ∙ c.in_ok-rows.ensures.began ∙ ap (map (began_from b)) c.as_slice.ensures) ∙ length-map js (began_from b);
      entries = ap length (c.of-2.ensures ∙ c.in_ok-rows.ensures.entries ∙ ap (map (entries_from b)) c.as_slice.ensures) ∙ length-map js (entries_from b);
      sights = ap length (c.of-3.ensures ∙ c.in_ok-rows.ensures.sights ∙ ap (map (sights_from b)) c.as_slice.ensures) ∙ length-map js (sights_from b);
      sited = c.in_ok-sited.ensures.sited;
      unnamed = c.in_ok-sited.ensures.named;
      came = λ q.
          no_later c.args.fresh b.came c.in_ok-late.late.came q (told_upon (among b.came q) (get_by_text b.later q) None) (get_by_text c.in_ok-late.late.later q)
          (c.in_ok-late.ensures.came q) (c.in_ok-late.ensures.later q) (λ out. ap (λ t. told_upon t (get_by_text b.later q) None) out);
      sources = c.in_ok-sited.ensures.sources;
    }

pub returns-clause-grown : goal.returns-clause-grown
returns-clause-grown c =
    let b = c.args.base.now in
    record {
      now = refl;
      stored = refl;
      phases = c.of-4.ensures ∙ c.in_ok-rows.ensures.phases ∙ ap (map (phase_from b)) c.as_slice.ensures;
      began = c.of-5.ensures ∙ c.in_ok-rows.ensures.began ∙ ap (map (began_from b)) c.as_slice.ensures;
      entries = c.of-2.ensures ∙ c.in_ok-rows.ensures.entries ∙ ap (map (entries_from b)) c.as_slice.ensures;
      sights = c.of-3.ensures ∙ c.in_ok-rows.ensures.sights ∙ ap (map (sights_from b)) c.as_slice.ensures;
      seen = λ q.
          ap (λ o. option_or o (sight_at b.seen q))
          (c.in_ok-late.ensures.later q ∙ ap (option_or (sight_at c.args.fresh q)) (all_later (among b.came q) (get_by_text b.later q) (c.requires.came q)))
          ∙ or_three (sight_at c.args.fresh q) (get_by_text b.later q) (sight_at b.seen q);
    }
