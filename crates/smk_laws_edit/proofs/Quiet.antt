-- Calls that start nothing and wait for nothing: the same children run, and no job's child ends.
use Rattle.std.specs.List.{list_all, list_any}
use Rattle.std.proofs.Common.{◌≡◌, true, false, ◌&&◌, ◌||◌, List, [], ◌∷◌, ◌++◌, map, refl, sym, ap, None, Ok, Err, is_some, true≢false}
use Rattle.smk_base.specs.Place.{mark_place}
use Rattle.smk_world.specs.World.{World, children_after, out_paths}
use Rattle.smk_world.specs.declared.event.Call.TheVariants.{Created, Looked, MadeParents, Protected, ReadFile, ReadFolder, Removed, Settled, Started, Waited, Written}
use Rattle.smk_world.specs.declared.event.Call.{Call}
use Rattle.smk_world.specs.declared.event.Child.{Child}
use Rattle.smk_world.specs.declared.event.Event.{Event}
use Rattle.smk_flow.specs.declared.job.Job.{Job}
use Rattle.smk_laws_plan.proofs.CurrentLists.{or_first, or_left, or_right, or_second}
use Rattle.smk_drive.specs.Moments.{Begun, Rules, is_child_of, is_gone, is_rest, with_end}
use Rattle.smk_drive_course.specs.Keeping.{has_start, is_start}
use Rattle.smk_drive_course.specs.Moments.{starts}

pub some_begun : (b : Begun) (bs : List Begun) → b ∷ bs ≡ [] → ⊥
some_begun b bs h = cc

abbrev pub HasNoWait : Call → Type 0
HasNoWait (Waited r) = ⊥
HasNoWait c = Unit {0}

abbrev pub IsStartCall : Call → Type 0
IsStartCall (Started recipe logs command r) = Unit {0}
IsStartCall c = ⊥

-- but for a start or a wait the same children run
pub still_alone : (c : Call) → HasNoWait c → is_start c ≡ false → (cs : List Child) → children_after c cs ≡ cs
still_alone (Started recipe logs command (Ok n)) quiet none cs = absurd (true≢false none)
still_alone (Started recipe logs command (Err e)) quiet none cs = refl
still_alone (Waited r) quiet none cs = absurd quiet
still_alone (Looked p r) quiet none cs = refl
still_alone (ReadFile p limit r) quiet none cs = refl
still_alone (ReadFolder p r) quiet none cs = refl
still_alone (Written p bytes r) quiet none cs = refl
still_alone (Created p r) quiet none cs = refl
still_alone (Removed p r) quiet none cs = refl
still_alone (MadeParents p r) quiet none cs = refl
still_alone (Settled ps r) quiet none cs = refl
still_alone (Protected p r) quiet none cs = refl

-- and but for a wait no job's child ends
pub same_end : (rules : Rules) (w u : World) (c : Call) → HasNoWait c → (b : Begun) → with_end rules w u c b ≡ b
same_end rules w u (Started recipe logs command r) quiet b = refl
same_end rules w u (Waited r) quiet b = absurd quiet
same_end rules w u (Looked p r) quiet b = refl
same_end rules w u (ReadFile p limit r) quiet b = refl
same_end rules w u (ReadFolder p r) quiet b = refl
same_end rules w u (Written p bytes r) quiet b = refl
same_end rules w u (Created p r) quiet b = refl
same_end rules w u (Removed p r) quiet b = refl
same_end rules w u (MadeParents p r) quiet b = refl
same_end rules w u (Settled ps r) quiet b = refl
same_end rules w u (Protected p r) quiet b = refl

pub same_ends : (rules : Rules) (w u : World) (c : Call) → HasNoWait c → (bs : List Begun) → map (with_end rules w u c) bs ≡ bs
same_ends rules w u c quiet [] = refl
same_ends rules w u c quiet (b ∷ bs) = λ n. same_end rules w u c quiet b n ∷ same_ends rules w u c quiet bs n

-- where no child runs, a job whose child hasn't ended makes it no rest
pub no_rest : (u : World) → u.children ≡ [] → (b : Begun) (rest : List Begun) → b.ended ≡ None → is_rest u (b ∷ rest) ≡ false
no_rest u alone b rest unended =
    λ n. (list_any (is_child_of b.job) (alone n) || (is_some (unended n) && list_all (λ p. is_gone (u.nodes (mark_place p))) (out_paths b.job.recipe))) && is_rest u rest

pub unstarted_on : (events : List Event) (e : Event) → has_start events ≡ false → is_start e.call ≡ false → has_start (events ++ e ∷ []) ≡ false
unstarted_on [] e none here = ap (λ b. b || false) here
unstarted_on (d ∷ events) e none here =
    (λ n. or_left (is_start d.call) (has_start events) none n || unstarted_on events e (or_right (is_start d.call) (has_start events) none) here n)

pub starts_is : (j : Job) (c : Call) → starts j c ≡ true → is_start c ≡ true
starts_is j (Started recipe logs command (Ok n)) h = refl
starts_is j (Started recipe logs command (Err e)) h = absurd (true≢false (sym h))
starts_is j (Looked p r) h = absurd (true≢false (sym h))
starts_is j (ReadFile p limit r) h = absurd (true≢false (sym h))
starts_is j (ReadFolder p r) h = absurd (true≢false (sym h))
starts_is j (Written p bytes r) h = absurd (true≢false (sym h))
starts_is j (Created p r) h = absurd (true≢false (sym h))
starts_is j (Removed p r) h = absurd (true≢false (sym h))
starts_is j (MadeParents p r) h = absurd (true≢false (sym h))
starts_is j (Settled ps r) h = absurd (true≢false (sym h))
starts_is j (Protected p r) h = absurd (true≢false (sym h))
starts_is j (Waited r) h = absurd (true≢false (sym h))

pub has_start_at : (events : List Event) (e : Event) (rest : List Event) → is_start e.call ≡ true → has_start (events ++ e ∷ rest) ≡ true
has_start_at [] e rest h = or_first (is_start e.call) (has_start rest) h
has_start_at (d ∷ events) e rest h = or_second (is_start d.call) (has_start (events ++ e ∷ rest)) (has_start_at events e rest h)
