-- What is whole of a job stays, where nothing changes at its outputs.
use Rattle.std.proofs.Common.{◌≡◌, Bool, true, false, ◌&&◌, ◌||◌, List, map, Option, Some, None, is_some, option_map, refl, sym, ap, ap₂, ◌∙◌, bytes_eq}
use Rattle.std.specs.List.{filter, find}
use Rattle.std.specs.Option.{option_and_then}
use Rattle.smk_base.specs.Path.{is_under}
use Rattle.smk_world.specs.declared.recipe.Kind.{Kind}
use Rattle.smk_world.specs.declared.recipe.Kind.TheVariants.{Folder as FolderKind}
use Rattle.smk_world.specs.declared.recipe.Out.{Out}
use Rattle.smk_world.specs.World.{out_paths}
use Rattle.smk_world.specs.Trees.{Path, Each, among, below, folder_over, folders_of, is_folder_kind, outs_of}
use Rattle.smk_flow.specs.declared.job.Job.{Job}
use Rattle.smk_store.specs.Images.{readable}
use Rattle.smk_store.specs.Stores.{Known, entry_of}
use Rattle.smk_plan.specs.declared.seen.Sight.{Sight}
use Rattle.smk_plan.specs.Sights.{sight_at}
use Rattle.smk_plan.specs.States.{makes, test_some}
use Rattle.smk_plan_facts.specs.declared.directories.Directory.{Directory}
use Rattle.smk_plan_facts.specs.Telling.{kept_of, is_file_stat, is_whole_sight, is_whole_in, directory_in, directories_of, is_file_member, or_no_members, is_output_in, is_made_by, is_made_in}
use Rattle.smk_plan_facts.proofs.Tests.{map_each, each_of, each_map, each_found, each_among, find_map, paths_of_outs}
use Rattle.smk_plan_facts.proofs.WholesTold.{directories_are, each_filtered}

module _
    (old new : List Known) (saw sees : List Sight) (IsFree : Path → Type 0) (known : (q : Path) → IsFree q → entry_of new q ≡ entry_of old q)
    (seen : (q : Path) → IsFree q → sight_at sees q ≡ sight_at saw q) where
  pub whole_same : (p : Path) (kind : Kind) → IsFree p → is_whole_in new sees p kind ≡ is_whole_in old saw p kind
  whole_same p kind free = ap₂ (λ e s. test_some (is_whole_sight (readable (kept_of e)) kind) s) (known p free) (seen p free)

  module _ (k : Job) (others : Each (λ (o : Out). IsFree o.path) (outs_of k.recipe)) where
    folders_free : Each IsFree (folders_of k.recipe)
    folders_free =
        each_map IsFree (λ (o : Out). o.path) (filter (λ (o : Out). is_folder_kind o.kind) (outs_of k.recipe))
        (each_filtered (λ (o : Out). IsFree o.path) (λ (o : Out). is_folder_kind o.kind) (outs_of k.recipe) others)

    directories_same : directories_of new sees k ≡ map (directory_in old saw) (folders_of k.recipe)
    directories_same =
        directories_are new sees k
        ∙ map_each (directory_in new sees) (directory_in old saw) (folders_of k.recipe)
        (each_of IsFree (λ p. directory_in new sees p ≡ directory_in old saw p)
        (λ p free. λ i. record { path = p; whole = whole_same p FolderKind free i }) (folders_of k.recipe) folders_free)

    -- a path that is an output
    output_free : (q : Path) → among (out_paths k.recipe) q ≡ true → IsFree q
    output_free q own =
        each_among IsFree (map (λ (o : Out). o.path) (outs_of k.recipe)) q (each_map IsFree (λ (o : Out). o.path) (outs_of k.recipe) others)
        (sym (ap (λ ps. among ps q) (paths_of_outs k.recipe.outputs)) ∙ own)

    -- what the job makes at a path is as whole as it was
    pub made_same : (q : Path) → makes k q ≡ true → is_made_in sees q (directories_of new sees k) ≡ is_made_in saw q (directories_of old saw k)
    made_same q made =
        ap (is_made_in sees q) directories_same
        ∙ ap (is_made_by sees q at) found ∙ go (folder_over k.recipe q) refl ∙ sym (ap (is_made_by saw q at) found)
        ∙ ap (is_made_in saw q) (sym (directories_are old saw k))
      where
        at : Option Directory
        at = find (λ (d : Directory). bytes_eq d.path q) (map (directory_in old saw) (folders_of k.recipe))

        found : find (λ (d : Directory). is_under q d.path) (map (directory_in old saw) (folders_of k.recipe)) ≡ option_map (directory_in old saw) (folder_over k.recipe q)
        found = find_map (λ (d : Directory). is_under q d.path) (directory_in old saw) (folders_of k.recipe)

        named : folder_over k.recipe q ≡ None → among (out_paths k.recipe) q ≡ true
        named e = left (among (out_paths k.recipe) q) (ap (λ (o : Option Path). among (out_paths k.recipe) q || is_some o) (sym e) ∙ made)
          where
            left : (b : Bool) → (b || false) ≡ true → b ≡ true
            left true h = refl
            left false h = h

        output : IsFree q → (o : Option Directory) → is_output_in sees q o ≡ is_output_in saw q o
        output free None = ap (test_some (λ (s : Sight). is_file_stat s.stat)) (seen q free)
        output free (Some d) = refl

        go :
            (o : Option Path) → folder_over k.recipe q ≡ o →
            is_made_by sees q at (option_map (directory_in old saw) o) ≡ is_made_by saw q at (option_map (directory_in old saw) o)
        go None e = output (output_free q (named e)) at
        go (Some f) e =
            ap
            (λ (o : Option Sight). is_whole_in old saw f FolderKind && is_file_member (or_no_members (option_and_then (λ (s : Sight). s.members) o)) (below f q))
            (seen f (each_found IsFree (is_under q) (folders_of k.recipe) f folders_free e))
