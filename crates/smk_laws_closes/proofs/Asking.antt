-- What the calls ask for with which a job is closed.
use Rattle.std.proofs.Common.{◌≡◌, ◌≢◌, ◌+◌, ◌≤◌, ℕ, true, false, List, [], ◌∷◌, ◌++◌, map, refl, arith, sym, ap, subst, ◌∙◌, Option, Some, None, Ok}
use Rattle.std.specs.Prelude.{Contains, is_none, nat_le, sum_by}
use Rattle.std.specs.List.{list_all}
use Rattle.std.proofs.lemmas.List.Sums.{sum_by-append, sum_by-cons}
use Rattle.smk_base.specs.declared.tree.Amount.{Amount}
use Rattle.smk_base.proofs.Under.{both_true}
use Rattle.smk_world.specs.declared.event.Call.TheVariants.{Waited}
use Rattle.smk_world.specs.declared.event.Ended.{Ended}
use Rattle.smk_world.specs.Devices.{Device, HasCalled, WhereTold}
use Rattle.smk_world.specs.Trees.{Act, IsIn}
use Rattle.smk_world.specs.World.{after}
use Rattle.smk_flow.specs.Flows.{Flow}
use Rattle.smk_pick.specs.declared.room.Ask.{Ask}
use Rattle.smk_pick.specs.declared.room.Room.{Room}
use Rattle.smk_pick.specs.declared.settings.Settings.{Settings}
use Rattle.smk_pick.specs.Rooms.{amount, threads_in}
use Rattle.smk_pick.specs.Shares.{Holds, has_used, is_used_in, share_of}
use Rattle.smk_job.specs.Jobs.{LetsClose}
use Rattle.smk_drive_step.specs.declared.children.Child.{Child}
use Rattle.smk_drive_step.specs.Crews.{IsPutFor}
use Rattle.smk_laws_protocol.proofs.Basics.{in_here}
use Rattle.smk_laws_turns.specs.Hubs.{Parts, asks_in}
use Rattle.smk_laws_turns.proofs.RoomToClose.{room_to_close}
use Rattle.smk_drive_hub.specs.Turned.{AreSeated, IsSteady, Somewhere, numbers_in}
use Rattle.smk_laws_closes.proofs.Seats.{none_in}
use Rattle.smk_laws_closes.proofs.Basis.{in_going}
use Rattle.smk_laws_closes.proofs.Counting.{asks_were}

-- ## The room

le_true : (m n : ℕ) → m ≤ n → nat_le m n ≡ true
le_true m n h = grind (arith, h)

one_of : (f : Ask → ℕ) (before after : List Ask) (a : Ask) → f a ≤ sum_by f (before ++ a ∷ after)
one_of f before after a =
    below (f a) (sum_by f before) (sum_by f (a ∷ after)) (sum_by f after) (sum_by f (before ++ a ∷ after)) (sum_by-append f before (a ∷ after)) (sum_by-cons f a after)
  where
    below : (m b c r t : ℕ) → t ≡ b + c → c ≡ m + r → m ≤ t
    below m b c r t h g = omega (arith, h, g)

all_used : (before after : List Ask) (a : Ask) (bounds : List Amount) → list_all (has_used a.amounts) (map (share_of (before ++ a ∷ after)) bounds) ≡ true
all_used before after a [] = refl
all_used before after a (b ∷ bounds) =
    both_true (has_used a.amounts (share_of (before ++ a ∷ after) b)) (list_all (has_used a.amounts) (map (share_of (before ++ a ∷ after)) bounds))
    (le_true (amount a.amounts b.name) (sum_by (λ (x : Ask). amount x.amounts b.name) (before ++ a ∷ after)) (one_of (λ (x : Ask). amount x.amounts b.name) before after a))
    (all_used before after a bounds)

-- what one of them asks for is in use
pub used_by_one : (cores : ℕ) (bounds : List Amount) (room : Room) (before after : List Ask) (a : Ask) → Holds cores bounds room (before ++ a ∷ after) → is_used_in room a ≡ true
used_by_one cores bounds room before after a h =
    both_true (nat_le (threads_in room.cores a.threads) room.threads) (list_all (has_used a.amounts) room.shares.items)
    (le_true (threads_in room.cores a.threads) room.threads
    (subst (λ n. threads_in n a.threads ≤ room.threads) (sym h.cores_are)
    (subst (λ n. threads_in cores a.threads ≤ n) (sym h.threads_are) (one_of (λ (x : Ask). threads_in cores x.threads) before after a))))
    (ap (list_all (has_used a.amounts)) h.shares_are ∙ all_used before after a bounds)

-- so it is of a child that is in its place
pub used_in_place :
    (flow : Flow) (settings : Settings) (h : Parts) (c : Child) (places : List (Option Child)) → IsSteady flow settings h → IsPutFor (Some c) None h.places places →
    is_used_in h.room c.ask ≡ true
used_in_place flow settings h c places steady put =
    used_by_one settings.cores settings.bounds h.room (asks_in put.before) (asks_in put.after) c.ask
    (subst (Holds settings.cores settings.bounds h.room) (asks_were c h.places places put) steady.room)

-- ## The outputs

pub lets_close :
    (act : Act) (flow : Flow) (settings : Settings) (h : Parts) (c : Child) (places : List (Option Child)) (ended : Ended) (a b : Device) →
    WhereTold a (Somewhere flow settings h) → IsPutFor (Some c) None h.places places → ended.number ≡ c.going.number → HasCalled act a b (Waited (Ok ended)) →
    WhereTold b (λ v. LetsClose v c.going.recipe)
lets_close act flow settings h c places ended a b somewhere put number called v told =
    let t = called.world.told v told in
    let x = somewhere t.0 t.1 in
    let there : IsIn h.places (Some c) = subst (λ ps. IsIn ps (Some c)) (sym put.were_so) (in_here put.before put.after (Some c)) in
    subst (λ u. LetsClose u c.going.recipe) (sym t.2.2)
    (room_to_close x.rules x.entry h x.stand t.0 x.before x.deeds c.going ended t.2.0 x.at (x.at.crew.run c.going (in_going h.places c there)) number)

-- ## Children

some_number : (places : List (Option Child)) → list_all is_none places ≡ false → (n : ℕ) × Contains (numbers_in places) n
some_number [] h = absurd (never h)
  where
    never : true ≡ false → ⊥
    never e = cc
some_number (None ∷ ps) h = some_number ps h
some_number (Some c ∷ ps) h = (c.going.number, (0, omega arith, refl))

-- where not all places are free a child of the device runs
pub some_running : (places : List (Option Child)) (running : List ℕ) → AreSeated places running → list_all is_none places ≡ false → running ≢ []
some_running places running seats some none =
    let n = some_number places some in none_in n.0 (subst (λ ns. Contains ns n.0) none (seats.runs n.0 n.1))
