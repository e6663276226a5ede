-- The jobs that were derived, with what is told of them, agree with the folder.
use Rattle.std.proofs.Common.{◌≡◌, ℕ, Bool, true, false, ◌&&◌, filter, List, [], ◌++◌, map, length, refl, sym, ap, ◌∙◌, Option, Some, None, bytes_eq}
use Rattle.std.specs.Prelude.{is_some, nat_le, if◌then◌else◌}
use Rattle.std.specs.List.{AllByRecursion, flat_map}
use Rattle.std.proofs.lemmas.List.{length-map}
use Rattle.smk_base.proofs.Places.{and_first, and_second, same_place}
use Rattle.smk_base.specs.Place.{record_place}
use Rattle.smk_world.specs.declared.event.Node.{Node}
use Rattle.smk_world.specs.declared.event.Node.TheVariants.{Regular, Directory}
use Rattle.smk_world.specs.World.{World, IsFormed, is_named, reading}
use Rattle.smk_world.specs.Trees.{Path, is_path_text}
use Rattle.smk_pattern.specs.Shapes.{Text}
use Rattle.smk_flow.specs.Flows.{Flow, Candidate}
use Rattle.smk_choose.specs.declared.sources.Sources.{Sources as Told}
use Rattle.smk_choose.specs.Choose.{Sources}
use Rattle.smk_choose.specs.Told.{told_by}
use Rattle.smk_record.specs.declared.record.Record.{Record}
use Rattle.smk_record.specs.Records.{is_valid}
use Rattle.smk_store.specs.declared.store.Kept.TheVariants.{Absent, Unreadable, Held}
use Rattle.smk_store.specs.Images.{Image, seen, is_source, is_outside, kept_by, for_path, readable}
use Rattle.smk_store.specs.Loading.{IsStoreOf}
use Rattle.smk_store.proofs.Loads.{named_filter}
use Rattle.smk_chain.specs.declared.jobs.Jobs.{Jobs}
use Rattle.smk_chain.specs.Derive.{Listings, Derived, derivation, jobs, job, job_refusals, refused, chosen, sources_of, wants, clashes, spots, is_deep}
use Rattle.smk_chain.specs.Derive as derive
use Rattle.smk_chain_derive.specs.Clashes.{ListsKnown}
use Rattle.smk_chain_walk.specs.Links.{AreLinked, befores_of}
use Rattle.smk_plan.specs.Sights.{IsSeenOf}
use Rattle.smk_plan.specs.Summed.{AreSummed}
use Rattle.smk_plan.specs.declared.seen.Sight.{Sight}
use Rattle.smk_store.specs.Stores.{Known as Entry}
use Rattle.smk_plan_facts.specs.Facts.{NamesAll, HasOwnRecords}
use Rattle.smk_plan_states.specs.Served.{AreServed}
use Rattle.smk_plan_table.specs.Plans.{Agree}
use Rattle.smk_plan_preview.specs.Rounds.{IsSighted, AreReady}
use Rattle.smk_plan_preview.proofs.Derivations.{chain_derived}
use Rattle.smk_plan_preview.proofs.Reached.{WantsSame, targets_told as targets_same, chosen_told}
use Rattle.smk_chain_sight.proofs.Agree.{all_weaker, none_first, none_second}
use Rattle.smk_plan_preview.proofs.Links.{inputs_told, targets_told, reads_told}
use Rattle.smk_chain.proofs.Inputs.{each_recursive}
use Rattle.smk_plan_preview.proofs.Made.{linked_made}
use Rattle.smk_plan_preview.proofs.Served.{linked_served}

-- ## The image

-- the names of the image are the places at which something stands
pub names_all : (read : List ℕ → Option Record) (w : World) → IsFormed w → NamesAll (seen read w)
names_all read w formed p =
    named_filter (λ q. is_outside q && is_some (reading (w.nodes q))) p w.names
    ∙ by (is_outside p) (is_named p w.names) refl
  where
    anywhere : (b : Bool) → is_named p w.names ≡ b → is_some (reading (w.nodes p)) ≡ (is_some (reading (w.nodes p)) && b)
    anywhere true e = and_true (is_some (reading (w.nodes p)))
      where
        and_true : (x : Bool) → x ≡ (x && true)
        and_true true = refl
        and_true false = refl
    anywhere false e = ap is_some (formed.complete p e) ∙ sym (ap (λ (n : Option Node). is_some n && false) (formed.complete p e))

    by : (out named : Bool) → is_named p w.names ≡ named → ((out && is_some (reading (w.nodes p))) && named) ≡ is_some (if out then reading (w.nodes p) else None)
    by true named e = sym (anywhere named e)
    by false named e = refl

record_own : (p : Path) (o : Option Record) (r : Record) → readable (for_path p o) ≡ Some r → (r.path ≡ p) × (is_valid r ≡ true)
record_own p None r h = absurd (wrong h)
  where
    wrong : None ≡ Some r → ⊥
    wrong k = cc
record_own p (Some s) r h = by (bytes_eq s.path p && is_valid s) refl h
  where
    wrong : None ≡ Some r → ⊥
    wrong k = cc

    by : (b : Bool) → (bytes_eq s.path p && is_valid s) ≡ b → readable (if b then Held s else Unreadable) ≡ Some r → (r.path ≡ p) × (is_valid r ≡ true)
    by true e k =
        let same : s ≡ r = cc in (
          ap (λ (x : Record). x.path) (sym same) ∙ same_place s.path p (and_first (bytes_eq s.path p) (is_valid s) e),
          ap is_valid (sym same) ∙ and_second (bytes_eq s.path p) (is_valid s) e,
        )
    by false e k = absurd (wrong k)

own_kept : (read : List ℕ → Option Record) (p : Path) (n : Option Node) (r : Record) → readable (kept_by read p n) ≡ Some r → (r.path ≡ p) × (is_valid r ≡ true)
own_kept read p None r h = absurd (wrong h)
  where
    wrong : None ≡ Some r → ⊥
    wrong k = cc
own_kept read p (Some Directory) r h = absurd (wrong h)
  where
    wrong : None ≡ Some r → ⊥
    wrong k = cc
own_kept read p (Some (Regular bytes time read_only)) r h = by (nat_le (length bytes) 33554432) h
  where
    wrong : None ≡ Some r → ⊥
    wrong k = cc

    by : (b : Bool) → readable (if b then for_path p (read bytes) else Unreadable) ≡ Some r → (r.path ≡ p) × (is_valid r ≡ true)
    by true k = record_own p (read bytes) r k
    by false k = absurd (wrong k)

-- each record that reads is its path's own
pub own_records : (read : List ℕ → Option Record) (w : World) → HasOwnRecords (seen read w)
own_records read w p r h = by (is_path_text p) h
  where
    wrong : None ≡ Some r → ⊥
    wrong k = cc

    by : (b : Bool) → readable (if b then kept_by read p (reading (w.nodes (record_place p))) else Absent) ≡ Some r → (r.path ≡ p) × (is_valid r ≡ true)
    by true k = own_kept read p (reading (w.nodes (record_place p))) r k
    by false k = absurd (wrong k)

pub agree_of : (read : List ℕ → Option Record) (w : World) (flow : Flow) (targets : List Path) (L : Listings) (made : Jobs) (store : List Entry) (sights : List Sight) → IsFormed w → IsStoreOf (seen read w) store → IsSeenOf (seen read w) made sights
    → AreSummed (seen read w) made sights → AreReady flow targets L (seen read w) made → Agree (seen read w) made store sights targets
agree_of read w flow targets L made store sights formed stored sighted summed ready =
    record {
      named = names_all read w formed;
      recorded = own_records read w;
      stored = stored;
      sighted = sighted;
      summed = summed;
      served = ready.served;
      made = ready.built;
      read = ready.read;
      asked = ready.asked;
    }

-- ## Jobs

module _ (flow : Flow) (targets : List Path) (L : Listings) (image : Image) (sources : Told) (made : Jobs)
    (sighted : IsSighted flow targets L image sources) (none : job_refusals flow (told_by sources) image L targets ≡ [])
    (are : made.jobs ≡ jobs flow (told_by sources) L targets) (links : AreLinked flow (told_by sources) L targets made) where
  fine : flat_map (refused flow (told_by sources) L 201) targets ≡ []
  fine =
      none_first (flat_map (refused flow (told_by sources) L 201) targets) (clashes image [] (flat_map spots (jobs flow (told_by sources) L targets)))
      (none_second (map derive.Deep (filter (is_deep flow (told_by sources) image L targets) targets)) (flat_map (refused flow (told_by sources) L 201) targets ++ clashes image [] (flat_map spots (jobs flow (told_by sources) L targets))) none)

  abbrev IsKnown : Path → Type 0
  IsKnown q = is_source image q ≡ true → (told_by sources).is q ≡ true

  known_wants : AllByRecursion (λ (c : Candidate). AllByRecursion IsKnown (wants flow L c)) (chosen flow (told_by sources) L targets)
  known_wants =
      all_weaker (WantsSame flow (sources_of image) (told_by sources) L) (λ (c : Candidate). AllByRecursion IsKnown (wants flow L c))
      (λ c all. all_weaker (λ (w : Text). (told_by sources).is w ≡ is_source image w) IsKnown (λ w same is. same ∙ is) (wants flow L c) all)
      (chosen flow (told_by sources) L targets) (chosen_told flow (sources_of image) (told_by sources) L targets sighted.reached fine)

  known_targets : AllByRecursion IsKnown targets
  known_targets =
      all_weaker (λ (t : Path). (told_by sources).is t ≡ is_source image t) IsKnown (λ t same is. same ∙ is) targets (targets_same flow (sources_of image) (told_by sources) L targets sighted.reached)

  derived : derivation flow image L targets ≡ Derived made.jobs
  derived = chain_derived flow targets L image sources made.jobs sighted none are

  served : NamesAll image → ListsKnown image → AreServed made targets
  served names listed =
      linked_served flow (told_by sources) L targets made image names listed derived links are none
      (each_recursive (λ (t : Path). (told_by sources).is t ≡ is_source image t) targets (targets_same flow (sources_of image) (told_by sources) L targets sighted.reached))
      (reads_told flow (told_by sources) L targets made links image (λ (q : Path). (told_by sources).is q ≡ is_source image q) are (chosen_told flow (sources_of image) (told_by sources) L targets sighted.reached fine))

  pub ready_of : NamesAll image → ListsKnown image → AreReady flow targets L image made
  ready_of names listed =
      record {
        derived = derived;
        served = served names listed;
        built = linked_made flow (told_by sources) L targets made are links;
        read = inputs_told flow (told_by sources) L targets made links image are known_wants;
        asked = targets_told flow (told_by sources) L targets made links image known_targets;
      }

-- there is a list of those before it for each job
pub befores_each : (flow : Flow) (S : Sources) (L : Listings) (targets : List Path) (made : Jobs) → made.jobs ≡ jobs flow S L targets → AreLinked flow S L targets made → length made.befores ≡ length made.jobs
befores_each flow S L targets made are links =
    ap length links.befores ∙ length-map (chosen flow S L targets) (befores_of flow S L (chosen flow S L targets))
    ∙ sym (length-map (chosen flow S L targets) (job flow L)) ∙ sym (ap length are)
