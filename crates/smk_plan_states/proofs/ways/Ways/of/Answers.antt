use Rattle.std.proofs.Common.{◌∙◌, ap, map, List}
use Rattle.smk_world.specs.Trees.{among}
use Rattle.smk_chain.specs.declared.jobs.Known.{Known}
use Rattle.smk_chain.specs.declared.jobs.Maker.{Maker}
use Rattle.smk_plan_states.specs.Lines.{tells_of, link_to}
use Rattle.smk_plan_states.specs.Ways.{folders_placed}
use Rattle.smk_plan_states.proofs.LookUps.{place_is}
use Rattle.smk_plan_states.proofs.ways.Ways.of.Goals as goal

pub returns : goal.returns
returns c =
    record {
      each_job = c.as_slice.ensures;
      each_maker = c.as_slice-2.ensures;
      folders = c.in_ok-all_folders.ensures ∙ ap (map folders_placed) c.as_slice-3.ensures;
      links = λ q. c.in_ok-links_in.ensures q ∙ place_is (tells_of q) c.as_slice-4.result.now ∙ ap (λ (ms : List Maker). link_to ms q) c.as_slice-4.ensures;
      listed = λ q. c.in_ok-listed_in.ensures q ∙ ap (λ (ks : List Known). among (map (λ (k : Known). k.folder) ks) q) c.as_slice-5.ensures;
    }
