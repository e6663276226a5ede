-- While folders alone are made above the places of a plan's jobs, the plan in force stays, and what a job that begins is to have.
use Rattle.std.proofs.Common.{◌≡◌, ◌⊎◌, Bool, true, false, ◌&&◌, not, List, refl, sym, ap, subst, ◌∙◌, inl, inr, Option, Some, None, Ok, Err, bytes_eq, true≢false}
use Rattle.std.specs.Prelude.{IsSome, if◌then◌else◌}
use Rattle.std.specs.List.{list_any}
use Rattle.std.specs.Option.{option_and_then}
use Rattle.smk_base.specs.Path.{is_at_or_under, is_under}
use Rattle.smk_base.proofs.Places.{same_place}
use Rattle.smk_base.proofs.Under.{at_itself, at_or_under_cases}
use Rattle.smk_world.specs.declared.event.Call.{Call}
use Rattle.smk_world.specs.declared.event.Call.TheVariants.{Looked, ReadFile, ReadFolder, Written, Created, Removed, MadeParents, Settled, Protected, Started, Waited}
use Rattle.smk_world.specs.declared.event.Change.{Change}
use Rattle.smk_world.specs.declared.event.Child.{Child}
use Rattle.smk_world.specs.declared.event.Event.{Event}
use Rattle.smk_world.specs.declared.event.Node.{Node}
use Rattle.smk_world.specs.declared.event.Node.TheVariants.{Directory}
use Rattle.smk_world.specs.declared.event.NodeState.{NodeState}
use Rattle.smk_world.specs.declared.event.NodeState.TheVariants.{Owned, Known}
use Rattle.smk_world.specs.World.{World, IsFormed, after, reading, reads_nothing}
use Rattle.smk_world.specs.Calls.{Lets, failed}
use Rattle.smk_world.specs.Folders.{IsTree}
use Rattle.smk_world.specs.Requests.{request}
use Rattle.smk_world.specs.Trees.{Act, IsIn, Path}
use Rattle.smk_flow.specs.declared.job.Job.{Job}
use Rattle.smk_store.specs.declared.store.Kept.{Kept}
use Rattle.smk_store.specs.Images.{Image, readable, record_at}
use Rattle.smk_store.specs.Trust.{holder, stamp_now, unmarked_stamp}
use Rattle.smk_trigger.specs.declared.reason.State.{State}
use Rattle.smk_plan.specs.States.{IsPlan, Last, LastPlan, Plan}
use Rattle.smk_laws_plan.specs.Current.{IsComplete}
use Rattle.smk_laws_plan.proofs.CurrentLists.{and_left, and_right, any_none, none_some}
use Rattle.smk_laws_history.proofs.CurrentComplete.{seen_is_complete}
use Rattle.smk_laws_history.proofs.CurrentLaw.{last_is}
use Rattle.smk_drive.specs.Moments.{Begun, Rules, changes_at, is_changed, places, progress_of, seen}
use Rattle.smk_cli_target.proofs.PlanPlaces.{place_of}
use Rattle.smk_cli_target.proofs.PlanStays.{IsAlike, IsLike, is_like, listings_like, plan_like}
use Rattle.smk_cli_target.proofs.SparedWorlds.{HasNoChild, IsOver, IsSpared, MayChange, files_same, kept_same, marked_same, noted_same, spared_on, whole_is}
use Rattle.smk_laws_moments.specs.Owning.{sites}
use Rattle.smk_laws_moments.proofs.StandsOn.{last_done}
use Rattle.smk_laws_turns.proofs.Requests.{IsBeginning, out_placed}

nothing_reads : (s : NodeState) → reads_nothing s ≡ true → reading s ≡ None
nothing_reads Owned h = refl
nothing_reads (Known None besides) h = refl
nothing_reads (Known (Some n) besides) h = absurd (true≢false (sym h))

not_nothing : (a b : Bool) → a ≡ true → (a && not b) ≡ false → b ≡ true
not_nothing true true h k = refl
not_nothing true false h k = absurd (true≢false k)
not_nothing false b h k = absurd (true≢false (sym h))

module _ (rules : Rules) (v0 : World) (begun : List Begun) (p : Plan) (formed0 : IsFormed v0) (chain : LastPlan rules.flow (seen rules v0) rules.settings (progress_of v0 begun) p.lists p) where
  abbrev pub before : Image
  before = seen rules v0

  pub complete0 : IsComplete before
  complete0 = seen_is_complete rules.read v0 formed0

  pub is_plan : IsPlan rules.flow before rules.settings (progress_of v0 begun) p
  is_plan = last_is rules.flow before rules.settings (progress_of v0 begun) p.lists p chain

  -- folders above places of the plan, and the lock, may be new
  abbrev pub Spared : World → Type 0
  Spared v = IsSpared rules.read rules.flow v0 p.lists rules.settings.targets p.jobs complete0 is_plan.derived v

  abbrev Over : Path → Type 0
  Over q = IsOver rules.read rules.flow v0 p.lists rules.settings.targets p.jobs complete0 is_plan.derived q

  pub spared_first : Spared v0
  spared_first q = inl refl

  module _ (v : World) (formed : IsFormed v) (spared : Spared v) (children : v.children ≡ v0.children) where
    abbrev now : Image
    now = seen rules v

    kept : before.kept ≡ now.kept
    kept = kept_same rules.read rules.flow v0 p.lists rules.settings.targets p.jobs complete0 is_plan.derived v spared

    marked : before.marked ≡ now.marked
    marked = marked_same rules.read rules.flow v0 p.lists rules.settings.targets p.jobs complete0 is_plan.derived v spared

    noted : before.noted ≡ now.noted
    noted = noted_same rules.read rules.flow v0 p.lists rules.settings.targets p.jobs complete0 is_plan.derived v spared

    alike : IsAlike rules.flow rules.settings p before now
    alike =
        record {
          complete = seen_is_complete rules.read v formed;
          files = files_same rules.read rules.flow v0 p.lists rules.settings.targets p.jobs complete0 is_plan.derived v spared;
          whole = λ k q kind ik o.
              whole_is rules.read rules.flow v0 p.lists rules.settings.targets p.jobs complete0 is_plan.derived v spared formed0 formed k q kind ik o;
        }

    like : IsLike rules.flow rules.settings p before now
    like = is_like rules.flow rules.settings p before now kept marked noted alike

    abbrev running : List (Path × State)
    running = (progress_of v0 begun).running

    abbrev named : List Path
    named = (progress_of v0 begun).begun

    -- the plan is the last one there too
    pub force_there : LastPlan rules.flow now rules.settings (progress_of v begun) p.lists p
    force_there =
        subst (λ (cs : List Child). LastPlan rules.flow now rules.settings (progress_of (record v { children = cs }) begun) p.lists p) (sym children)
        (Last p (plan_like rules.flow rules.settings p before complete0 running named named (λ k. refl) is_plan now kept marked noted like)
        (listings_like rules.flow rules.settings p before complete0 running named named (λ k. refl) is_plan now kept marked noted like
        ∙ last_done rules before (progress_of v0 begun) p.lists p chain))

    pub record_same : (q : Path) → record_at now q ≡ record_at before q
    record_same q = ap (λ (f : Path → Kept). readable (f q)) (sym kept)

    pub stamp_same : (q : Path) → stamp_now now q ≡ stamp_now before q
    stamp_same q =
        let product : option_and_then (unmarked_stamp before) (holder before q) ≡ option_and_then (unmarked_stamp now) (holder now q) =
        ap (λ (z : Image). option_and_then (unmarked_stamp z) (holder z q)) (λ n. record now { kept = kept n; marked = marked n; noted = noted n }) in
        λ n. if like.source q n then like.stamp q n else sym product n

  -- ## A call with which a job begins, that changes none of its places

  module _ (j : Job) (planned : IsIn p.jobs j) where
    over_site : (r q : Path) → IsIn (sites j) r → is_under r q ≡ true → Over q
    over_site r q i under = (r, place_of rules.flow before p.lists rules.settings.targets p.jobs complete0 is_plan.derived j r planned i, under)

    alone : (call : Call) → IsBeginning j (request call) → HasNoChild Over call
    alone (Looked r a) h = tt
    alone (ReadFile r limit a) h = tt
    alone (ReadFolder r a) h = tt
    alone (Written r bytes a) h = tt
    alone (Created r a) h = tt
    alone (Removed r a) h = tt
    alone (MadeParents r a) h = tt
    alone (Settled rs a) h = tt
    alone (Protected r a) h = tt
    alone (Started recipe logs command a) h = absurd h
    alone (Waited a) h = absurd h

    module _ (v : World) (tree : IsTree v) where
      -- what reads nothing has nothing under it
      none_under : (r : Path) → reading (v.nodes r) ≡ None → (q : Path) → is_at_or_under q r ≡ true → reading (v.nodes q) ≡ None
      none_under r nothing q at = go (at_or_under_cases q r at)
        where
          under : (n : Option Node) → reading (v.nodes q) ≡ n → is_under q r ≡ true → n ≡ None
          under None is u = refl
          under (Some n) is u = absurd (none_some (reading (v.nodes r)) Directory nothing ((tree q (subst IsSome (sym is) refl)).folders r u))

          go : (q ≡ r) ⊎ (is_under q r ≡ true) → reading (v.nodes q) ≡ None
          go (inl same) = ap (λ x. reading (v.nodes x)) same ∙ nothing
          go (inr u) = under (reading (v.nodes q)) refl u

      may_change :
          (call : Call) (left : List Change) → IsBeginning j (request call) → failed call ≡ false → list_any (λ q. changes_at call v left q) (places j) ≡ false →
          (q : Path) → changes_at call v left q ≡ true → MayChange Over v call q
      may_change (Created r (Ok made)) left h ok none q changed =
          let is_it = same_place q r (and_right made (bytes_eq q r) changed) in
          absurd
          (true≢false (sym (subst (λ x. (made && bytes_eq x r) ≡ true) is_it changed) ∙ any_none (λ x. made && bytes_eq x r) (places j) r none h))
      may_change (Created r (Err e)) left h ok none q changed = absurd (true≢false ok)
      may_change (Removed r (Ok u)) left h ok none q changed =
          let here : reads_nothing (v.nodes r) ≡ true =
          not_nothing (is_at_or_under r r) (reads_nothing (v.nodes r)) (at_itself r)
          (any_none (λ x. is_at_or_under x r && not (reads_nothing (v.nodes x))) (places j) r none (out_placed j r h)) in
          inr (inr (none_under r (nothing_reads (v.nodes r) here)))
      may_change (Removed r (Err e)) left h ok none q changed = absurd (true≢false ok)
      may_change (MadeParents r (Ok u)) left h ok none q changed = inr (inl (refl, over_site r q h (and_left (is_under r q) _ changed)))
      may_change (MadeParents r (Err e)) left h ok none q changed = absurd (true≢false ok)
      may_change (Settled rs a) left h ok none q changed = absurd (true≢false (sym changed))
      may_change (Looked r a) left h ok none q changed = absurd h
      may_change (ReadFile r limit a) left h ok none q changed = absurd h
      may_change (ReadFolder r a) left h ok none q changed = absurd h
      may_change (Written r bytes a) left h ok none q changed = absurd h
      may_change (Protected r a) left h ok none q changed = absurd h
      may_change (Started recipe logs command a) left h ok none q changed = absurd h
      may_change (Waited a) left h ok none q changed = absurd h

      pub spared_next :
          (act : Act) (e : Event) → IsBeginning j (request e.call) → failed e.call ≡ false → Lets act v e.call e.left →
          list_any (is_changed v e) (places j) ≡ false → Spared v → Spared (after v e)
      spared_next act e h ok lets none spared =
          spared_on rules.read rules.flow v0 p.lists rules.settings.targets p.jobs complete0 is_plan.derived act v e.call e.left spared lets (alone e.call h)
          (may_change e.call e.left h ok none)
