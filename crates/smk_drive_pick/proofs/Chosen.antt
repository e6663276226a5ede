-- The best by what is told is the first of those that may begin and have the greatest priority.
use Rattle.std.proofs.Common.{◌≡◌, ◌∙◌, ℕ, ◌+◌, Bool, true, false, ◌&&◌, true≢false, List, ◌∷◌, map, zip, ap, sym, subst, arith, Option, Some, None, option_map, IfSome}
use Rattle.std.specs.List.{list_all, slice_get}
use Rattle.std.proofs.Math.Bool.{and-false}
use Rattle.smk_base.specs.declared.tree.Amount.{Amount}
use Rattle.smk_flow.specs.declared.job.Job.{Job}
use Rattle.smk_pick.specs.declared.room.Ask.{Ask}
use Rattle.smk_pick.specs.declared.room.Room.{Room}
use Rattle.smk_pick.specs.Rooms.{are_within}
use Rattle.smk_pick.specs.Shares.{Holds}
use Rattle.smk_trigger.specs.declared.reason.State.{State}
use Rattle.smk_plan.specs.States.{staged, test_some}
use Rattle.smk_plan_states.specs.Judged.{Judging}
use Rattle.smk_plan_states.specs.Ranks.{rank_of}
use Rattle.smk_drive.specs.Lawful.{ask_of, first_of}
use Rattle.smk_plan_live.specs.Limits.{asks_at_least}
use Rattle.smk_plan_live.specs.Live.{LivePlan}
use Rattle.smk_plan_live.specs.Lives.{IsLive}
use Rattle.smk_laws_plan.proofs.CurrentLists.{In, all_in, zip_first}
use Rattle.smk_drive_pick.specs.declared.next.Best.{Best}
use Rattle.smk_drive_pick.specs.declared.next.Ground.{Ground}
use Rattle.smk_drive_pick.specs.Picking.{AreToldOf, is_free, may_begin, plan_of, wrapped}
use Rattle.smk_drive_pick.specs.Told.{best_from}
use Rattle.smk_drive_pick.specs.Grounds.{IsGroundOf, is_full, may_begin_by}
use Rattle.smk_drive_pick.proofs.ByRank.{best_by}
use Rattle.smk_drive_pick.proofs.Firsts.{best_is, best_same}
use Rattle.smk_drive_pick.proofs.Freed.{free_is, whole_now}
use Rattle.smk_drive_pick.proofs.Full.{full_for}
use Rattle.smk_drive_pick.proofs.Lists.{filter_none}
use Rattle.smk_drive_pick.proofs.Rooms.{fits_beside}

-- it may begin, and keeps within the bounds beside the others
abbrev passes : Judging → LivePlan → ℕ → List Amount → List Ask → Job × State → Bool
passes at live cores bounds asks e = is_free at (plan_of live) e && are_within cores bounds (ask_of e.0 ∷ asks)

-- the job with the state may begin by what is told, by the rank of the state
abbrev by_rank : Ground → Room → ℕ → Job × State → Bool
by_rank told room n e = may_begin_by told room n (e.0, rank_of e.1)

pub next_is :
    (at : Judging) (live : LivePlan) (told : Ground) → IsLive live → AreToldOf at live (whole_now live) → IsGroundOf live told →
    (cores : ℕ) (bounds : List Amount) (room : Room) (asks : List Ask) → Holds cores bounds room asks →
    option_map (slice_get (staged (plan_of live)))
    (option_map (λ (b : Best). b.number) (best_from (may_begin_by told room) 0 None (zip live.base.jobs.jobs (map rank_of live.plan.states))))
    ≡ option_map wrapped (first_of (may_begin at (plan_of live) cores bounds asks))
next_is at live told alive judged is cores bounds room asks holds =
    ap (λ o. option_map (slice_get (staged (plan_of live))) (option_map (λ (b : Best). b.number) o))
    (best_by (may_begin_by told room) 0 None live.base.jobs.jobs live.plan.states
    ∙ best_same (by_rank told room) (passes at live cores bounds asks) 0 None (staged (plan_of live))
    (λ n e there. subst (λ m. by_rank told room m e ≡ passes at live cores bounds asks e) (omega arith) (one n e there)))
    ∙ best_is (passes at live cores bounds asks) (staged (plan_of live))
  where
    one : (n : ℕ) (e : Job × State) → slice_get (staged (plan_of live)) n ≡ Some e → by_rank told room n e ≡ passes at live cores bounds asks e
    one n e there = λ k. free_is at live told alive judged is n e there k && fits_beside cores bounds room asks (ask_of e.0) holds k

-- none is, where the room has no place left for as few threads as a job asks for
pub none_is :
    (at : Judging) (live : LivePlan) (least : Option ℕ) (room : Room) → test_some (is_full room) least ≡ true →
    IfSome least (λ n. list_all (asks_at_least n) live.base.jobs.jobs ≡ true) →
    (cores : ℕ) (bounds : List Amount) (asks : List Ask) → Holds cores bounds room asks →
    ◌≡◌ {A = Option (Job × State)} None (first_of (may_begin at (plan_of live) cores bounds asks))
none_is at live None room full all cores bounds asks holds = absurd (true≢false (sym full))
none_is at live (Some least) room full all cores bounds asks holds =
    sym (ap first_of (filter_none (passes at live cores bounds asks) (staged (plan_of live)) none))
  where
    none : (e : Job × State) → In e (staged (plan_of live)) → passes at live cores bounds asks e ≡ false
    none e there =
        ap (λ b. is_free at (plan_of live) e && b)
        (sym (fits_beside cores bounds room asks (ask_of e.0) holds)
        ∙ full_for room least e.0 full
        (all_in (asks_at_least least) live.base.jobs.jobs e.0 all (zip_first live.base.jobs.jobs live.plan.states e.0 e.1 there)))
        ∙ and-false (is_free at (plan_of live) e)
