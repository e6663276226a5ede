-- Where too little is left for an ask of few threads and of no amounts, too little is left for a job that asks for more.
use Rattle.std.proofs.Common.{◌≡◌, ℕ, ◌+◌, arith, Bool, true, false, not, ◌&&◌, ◌||◌, List, [], ◌∷◌, refl, sym, ◌∙◌, true≢false, ap, Option, Some, None}
use Rattle.std.specs.Prelude.{nat_le, nat_lt, min, if◌then◌else◌, slice_index_or}
use Rattle.std.proofs.Math.Bool.{and-false}
use Rattle.std.specs.List.{list_all, slice_get}
use Rattle.std.proofs.lemmas.Bool.{and_from, le-ltb}
use Rattle.std.proofs.lemmas.Bool.Decides.{nat_tests}
use Rattle.smk_base.specs.declared.tree.Amount.{Amount}
use Rattle.smk_flow.specs.declared.job.Job.{Job}
use Rattle.smk_pick.specs.declared.room.Room.{Room}
use Rattle.smk_pick.specs.declared.room.Share.{Share}
use Rattle.smk_pick.specs.Rooms.{amount, threads_in}
use Rattle.smk_pick.specs.Shares.{has_room, fits_in}
use Rattle.smk_drive.specs.Lawful.{ask_of}
use Rattle.smk_plan.specs.States.{test_some}
use Rattle.smk_plan_states.specs.declared.ranks.Rank.{Rank}
use Rattle.smk_plan_states.specs.Ranks.{is_to_run_rank}
use Rattle.smk_plan_live.specs.Limits.{asks_at_least}
use Rattle.smk_plan_live.specs.Phases.{has_begun}
use Rattle.smk_laws_plan.proofs.CurrentLists.{and_left, and_right}
use Rattle.smk_drive_pick.specs.declared.next.Best.{Best}
use Rattle.smk_drive_pick.specs.declared.next.Ground.{Ground}
use Rattle.smk_drive_pick.specs.Grounds.{is_free_by, is_full, lacks_by, may_begin_by}
use Rattle.smk_drive_pick.specs.Told.{better, if_passes}

less : (used asked bound : ℕ) → nat_le (used + asked) bound ≡ true → nat_le (used + 0) bound ≡ true
less used asked bound h = grind (arith, nat_tests)

all_less : (asked : List Amount) (shares : List Share) → list_all (has_room asked) shares ≡ true → list_all (has_room []) shares ≡ true
all_less asked [] h = refl
all_less asked (s ∷ shares) h =
    and_from (has_room [] s) (list_all (has_room []) shares)
    (less s.used (amount asked s.bound.name) s.bound.count (and_left (has_room asked s) (list_all (has_room asked) shares) h))
    (all_less asked shares (and_right (has_room asked s) (list_all (has_room asked) shares) h))

turned : (b : Bool) → not b ≡ true → b ≡ false
turned false h = refl
turned true h = absurd (true≢false (sym h))

fewer :
    (used least threads cores : ℕ) → nat_lt threads least ≡ false → nat_le (used + min threads cores) cores ≡ true →
    nat_le (used + min least cores) cores ≡ true
fewer used least threads cores no_less h = grind (arith, nat_tests)

neither : (b bare more all : Bool) → (more ≡ true → b ≡ true) → (all ≡ true → bare ≡ true) → (b && bare) ≡ false → (more && all) ≡ false
neither b bare false all f g h = refl
neither b bare true false f g h = refl
neither false bare true true f g h = absurd (true≢false (sym (f refl)))
neither true false true true f g h = absurd (true≢false (sym (g refl)))
neither true true true true f g h = h

-- where no place is left for so many threads, none is left for a job that asks for no fewer
pub full_for : (room : Room) (least : ℕ) (job : Job) → is_full room least ≡ true → asks_at_least least job ≡ true → fits_in room (ask_of job) ≡ false
full_for room least job full asks =
    neither (nat_le (room.threads + threads_in room.cores least) room.cores) (list_all (has_room []) room.shares.items)
    (nat_le (room.threads + threads_in room.cores job.threads) room.cores) (list_all (has_room job.amounts) room.shares.items)
    (fewer room.threads least job.threads room.cores (turned (nat_lt job.threads least) asks))
    (all_less job.amounts room.shares.items)
    (turned (nat_le (room.threads + threads_in room.cores least) room.cores && list_all (has_room []) room.shares.items) full)

-- nor for a job that asks for just as many
pub full_for_one : (room : Room) (job : Job) → is_full room job.threads ≡ true → fits_in room (ask_of job) ≡ false
full_for_one room job full = full_for room job.threads job full (ap not (le-ltb job.threads job.threads (omega arith)))

stays : (best : Option Best) → better best None ≡ best
stays None = refl
stays (Some b) = refl

-- the best so far stays, where the room is full for the job
pub stays_full :
    (told : Ground) (room : Room) (job : Job) (best : Option Best) (n : ℕ) (rank : Rank) → fits_in room (ask_of job) ≡ false →
    better best (if_passes (may_begin_by told room n) n (job, rank)) ≡ best
stays_full told room job best n rank full =
    ap (λ (b : Bool). better best (if b then Some (record { number = n; priority = job.priority }) else None))
    (ap (λ b. is_free_by told n rank && b) full ∙ and-false (is_free_by told n rank))
    ∙ stays best

-- or the job isn't to run or has begun
pub stays_out :
    (told : Ground) (room : Room) (job : Job) (best : Option Best) (n : ℕ) (rank : Rank) →
    (not (is_to_run_rank rank) || test_some has_begun (slice_get told.phases.now n)) ≡ true →
    better best (if_passes (may_begin_by told room n) n (job, rank)) ≡ best
stays_out told room job best n rank out =
    ap (λ (b : Bool). better best (if b then Some (record { number = n; priority = job.priority }) else None))
    (ap (λ b. b && fits_in room (ask_of job))
    (go (is_to_run_rank rank) (test_some has_begun (slice_get told.phases.now n)) (not (lacks_by told n) && not (slice_index_or told.used.items n false)) out))
    ∙ stays best
  where
    go : (runs begun x : Bool) → (not runs || begun) ≡ true → (runs && (not begun && x)) ≡ false
    go false begun x h = refl
    go true true x h = refl
    go true false x h = absurd (true≢false (sym h))
