-- A child that was waited for and whose job was closed: what is known of it from where the run stood.
use Rattle.std.proofs.Common.{◌≡◌, ℕ, Bool, true, false, not, List, [], ◌∷◌, map, filter, refl, sym, ap, subst, ◌∙◌, inl, inr, nat_eq, Option, Some, None, Ok}
use Rattle.std.specs.Prelude.{if◌then◌else◌}
use Rattle.smk_world.specs.declared.event.Child.{Child as WorldChild}
use Rattle.std.proofs.lemmas.Option.{same_Some}
use Rattle.std.specs.List.{list_all, slice_get}
use Rattle.smk_world.specs.declared.event.Change.{Change}
use Rattle.smk_world.specs.declared.event.Ended.{Ended}
use Rattle.smk_world.specs.declared.event.Event.{Event}
use Rattle.smk_world.specs.Calls.{HasOwners}
use Rattle.smk_world.specs.Runs.{Follows}
use Rattle.smk_world.specs.Trees.{Act, Each, IsIn, Path, is_path_text}
use Rattle.smk_world.specs.World.{World, after, out_paths, run}
use Rattle.smk_record.specs.Records.{is_valid, record_of}
use Rattle.smk_record.specs.Spelling.{ReadsRecords}
use Rattle.smk_flow.specs.declared.job.Job.{Job}
use Rattle.smk_job.specs.Jobs.{Underway}
use Rattle.smk_laws_job.proofs.Readable.{outputs_paths}
use Rattle.smk_run.specs.declared.ending.Ending.{Ending as End}
use Rattle.smk_run.specs.Closings.{IsClosedBy, wait_event}
use Rattle.smk_run.proofs.Calls.{settled_each}
use Rattle.smk_drive.specs.Moments.{Begun, Rules, ending, seen}
use Rattle.smk_drive_step.specs.declared.children.Child.{Child}
use Rattle.smk_drive_step.specs.Crews.{IsPutFor, goings}
use Rattle.smk_drive_course.specs.Stands.{NoneLeft, Stand, without_child}
use Rattle.smk_drive_course.specs.Steps.{Deed, IsWaitFor}
use Rattle.smk_laws_protocol.proofs.Basics.{in_here}
use Rattle.smk_laws_moments.proofs.QuietCalls.{IsQuiet, closing_quiet, quiet_run}
use Rattle.smk_laws_plan.proofs.CurrentLists.{get_in}
use Rattle.smk_laws_turns.specs.Hubs.{AreApart, IsAt, IsChildOf, IsHome, Parts, child_of}
use Rattle.smk_laws_turns.proofs.Apart.{makes_some}
use Rattle.smk_laws_turns.proofs.Homes.{home_stays}
use Rattle.smk_laws_closes.specs.Endings.{told_end}
use Rattle.smk_laws_closes.proofs.Around.{AreChildren, IsSplit, is_split, left_of}
use Rattle.smk_laws_closes.proofs.Endings.{ends_as_closed}

-- A run stood somewhere, a child was waited for, and its job closed so.
pub record Closing : Type 0 where
  pub act : Act
  pub rules : Rules
  pub entry : World
  pub h : Parts
  pub s : Stand
  pub w : World
  pub before : List Event
  pub deeds : List Deed
  pub c : Child
  pub places : List (Option Child)
  pub ended : Ended
  pub left : List Change
  pub closing : List Event
  pub how : End
  pub job : Job
  pub at : IsAt rules entry h s w before deeds
  pub reads : ReadsRecords rules.read
  pub owners : HasOwners w
  pub unbroken : s.broken ≡ false
  pub put : IsPutFor (Some c) None h.places places
  pub none_left : s.halted ≡ None → NoneLeft rules s w before
  pub number : ended.number ≡ c.going.number
  pub is : slice_get h.live.base.jobs.jobs c.job ≡ Some job
  pub closed : IsClosedBy c.going how ended.status (after w (wait_event ended left)) closing
  pub follows : Follows act w (wait_event ended left ∷ closing)

same_numbered : (gs : List Underway) (a b : Underway) → AreApart gs → IsIn gs a → IsIn gs b → a.number ≡ b.number → a ≡ b
same_numbered [] a b apart i j same = absurd i
same_numbered (g ∷ gs) a b apart (inl e) (inl k) same = e ∙ sym k
same_numbered (g ∷ gs) a b apart (inl e) (inr j) same = absurd (apart.0 b j (sym same ∙ ap (λ (x : Underway). x.number) e))
same_numbered (g ∷ gs) a b apart (inr i) (inl k) same = absurd (apart.0 a i (same ∙ ap (λ (x : Underway). x.number) k))
same_numbered (g ∷ gs) a b apart (inr i) (inr j) same = same_numbered gs a b apart.1 i j same

pub in_going : (places : List (Option Child)) (c : Child) → IsIn places (Some c) → IsIn (goings places) c.going
in_going [] c i = absurd i
in_going (None ∷ ps) c (inl e) = absurd (never c e)
  where
    never : (d : Child) → Some d ≡ None → ⊥
    never d h = cc
in_going (None ∷ ps) c (inr i) = in_going ps c i
in_going (Some d ∷ ps) c (inl e) = inl (ap (λ (x : Child). x.going) (same_Some c d e))
in_going (Some d ∷ ps) c (inr i) = inr (in_going ps c i)

valid_texts :
    (ps : List Path) (P : Path → Type 0) → ¬ (ps ≡ []) → Each P ps → (p : Path) × P p
valid_texts [] P some each = absurd (some refl)
valid_texts (p ∷ ps) P some each = (p, each.0)

filter_map_children : (n : ℕ) (rs : List Underway) →
    filter (λ (d : WorldChild). not (nat_eq d.number n)) (map child_of rs) ≡ map child_of (filter (λ (r : Underway). not (nat_eq r.number n)) rs)
filter_map_children n [] = refl
filter_map_children n (r ∷ rs) = go (not (nat_eq r.number n)) (filter_map_children n rs)
  where
    go :
        (b : Bool) →
        filter (λ (d : WorldChild). not (nat_eq d.number n)) (map child_of rs) ≡ map child_of (filter (λ (r : Underway). not (nat_eq r.number n)) rs) →
        (if b then child_of r ∷ filter (λ (d : WorldChild). not (nat_eq d.number n)) (map child_of rs)
        else filter (λ (d : WorldChild). not (nat_eq d.number n)) (map child_of rs))
        ≡ map child_of (if b then r ∷ filter (λ (r : Underway). not (nat_eq r.number n)) rs else filter (λ (r : Underway). not (nat_eq r.number n)) rs)
    go true h = ap (λ cs. child_of r ∷ cs) h
    go false h = h

module _ (x : Closing) where
  abbrev pub wait : Event
  wait = wait_event x.ended x.left

  -- the world as the child has ended, and once the job was closed
  abbrev pub ended_world : World
  ended_world = after x.w wait

  abbrev pub closed_world : World
  closed_world = run x.w (wait ∷ x.closing)

  abbrev pub jobs : List Job
  jobs = x.h.live.base.jobs.jobs

  -- the stand without the child
  abbrev pub without : Stand
  without = without_child (seen x.rules ended_world) x.c.going x.ended.status x.s

  pub child_in : IsIn x.h.places (Some x.c)
  child_in = subst (λ ps. IsIn ps (Some x.c)) (sym x.put.were_so) (in_here x.put.before x.put.after (Some x.c))

  abbrev pub its : IsChildOf jobs x.s.begun x.c
  its = x.at.theirs x.c child_in

  abbrev pub its_begun : Begun
  its_begun = its.as_begun

  pub its_job : its.job ≡ x.job
  its_job = same_Some its.job x.job (sym its.is ∙ x.is)

  pub begun_job : its_begun.job ≡ x.job
  begun_job = its.is_job ∙ its_job

  pub recipe : x.job.recipe ≡ x.c.going.recipe
  recipe = ap (λ (j : Job). j.recipe) (sym its_job) ∙ its.recipe

  pub begun_recipe : its_begun.job.recipe ≡ x.c.going.recipe
  begun_recipe = ap (λ (j : Job). j.recipe) begun_job ∙ recipe

  pub of_plan : IsIn jobs x.job
  of_plan = get_in jobs x.c.job x.job x.is

  pub ran : IsIn x.s.runs x.c.going
  ran = x.at.crew.run x.c.going (in_going x.h.places x.c child_in)

  pub waited : IsWaitFor x.c.going x.ended x.s
  waited = record { ran = ran; number = x.number }

  pub makes : ¬ (out_paths x.c.going.recipe ≡ [])
  makes = λ none. makes_some x.rules x.entry x.h x.s x.w x.before x.deeds x.at x.job of_plan (ap out_paths recipe ∙ none)

  pub are_children : AreChildren x.c.going x.s.runs
  are_children =
      record {
        ran = ran;
        alone = λ r i same. same_numbered (goings x.h.places) r x.c.going x.at.crew.apart (x.at.crew.placed r i) (x.at.crew.placed x.c.going ran) same;
        spaced = x.at.spaced;
        makes = makes;
      }

  -- its outputs are texts of paths, since its records can be written
  pub texts : list_all is_path_text (out_paths x.job.recipe) ≡ true
  texts =
      let g = x.c.going in
      let one = valid_texts (out_paths g.recipe) (λ p. is_valid (record_of p g.made g.recipe g.stamps []) ≡ true) makes (x.at.underway g ran).writable.valid in
      ap (λ r. list_all is_path_text (out_paths r)) recipe ∙ outputs_paths (record_of one.0 g.made g.recipe g.stamps []) one.1

  pub ended_home : IsHome x.entry ended_world
  ended_home = home_stays x.act x.entry x.w (wait ∷ []) (x.follows.0, tt) x.at.home

  pub closed_home : IsHome x.entry closed_world
  closed_home = home_stays x.act x.entry x.w (wait ∷ x.closing) x.follows x.at.home

  -- how it ended
  pub end_is : ending (seen x.rules ended_world) x.job x.ended.status ≡ told_end x.how
  end_is = ends_as_closed x.rules ended_world x.job x.c.going x.how x.ended.status x.closing ended_home.formed ended_home.tree recipe texts x.closed

  pub begun_end : ending (seen x.rules ended_world) its_begun.job x.ended.status ≡ told_end x.how
  begun_end = ap (λ (j : Job). ending (seen x.rules ended_world) j x.ended.status) begun_job ∙ end_is

  pub closed_children : closed_world.children ≡ ended_world.children
  closed_children =
      quiet_run ended_world x.closing (settled_each IsQuiet x.c.going (closing_quiet x.c.going) (Ok x.how) x.ended.status ended_world x.closing x.closed)

  pub left_children : ended_world.children ≡ map child_of (left_of x.c.going x.s.runs)
  left_children =
      ap (λ cs. filter (λ (d : WorldChild). not (nat_eq d.number x.ended.number)) cs) x.at.children
      ∙ (ap (λ n. filter (λ (d : WorldChild). not (nat_eq d.number n)) (map child_of x.s.runs)) x.number ∙ filter_map_children x.c.going.number x.s.runs)

  -- the jobs that have begun and run, in each world with the children that are left
  pub split_in : (v : World) → x.s.halted ≡ None → v.children ≡ ended_world.children → IsSplit x.w v x.s.begun without.begun its_begun (told_end x.how)
  split_in v unhalted same =
      subst (IsSplit x.w v x.s.begun without.begun its_begun) begun_end
      (is_split (seen x.rules ended_world) x.c.going x.ended.status x.w v x.s.begun its_begun x.s.runs begun_recipe (x.at.kept unhalted).once its.has_begun
      are_children x.at.children (same ∙ left_children))
