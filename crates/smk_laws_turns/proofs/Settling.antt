-- What makes removals firm leaves what is seen.
use Rattle.std.proofs.Common.{◌≡◌, false, List, [], ◌∷◌, Ok, ap, subst, ◌∙◌, ◌||◌, ◌&&◌}
use Rattle.smk_world.specs.declared.event.Call.{Call}
use Rattle.smk_world.specs.declared.event.Call.TheVariants.{Removed, Settled}
use Rattle.smk_world.specs.declared.event.Change.{Change}
use Rattle.smk_world.specs.declared.event.Event.{Event}
use Rattle.smk_world.specs.Calls.{Lets, failed}
use Rattle.smk_world.specs.Requests.{request}
use Rattle.smk_world.specs.Requests.Request.{Remove, Settle}
use Rattle.smk_world.specs.Trees.{Act, Path}
use Rattle.smk_world.specs.World.{World, after, is_above, is_within, reads_folder}
use Rattle.smk_store.specs.Images.{image_by}
use Rattle.smk_laws_job.proofs.Abandoning.{removed_call, settled_call}
use Rattle.smk_drive.specs.Moments.{Rules, seen}
use Rattle.smk_laws_turns.specs.Begun.{SettlingLeaves}
use Rattle.smk_laws_turns.proofs.BegunCalls.{settled_reads}

abbrev pub settlement : List Path → Event
settlement ps = record { call = Settled ps (Ok tt); left = [] }

abbrev pub removal : Path → Event
removal p = record { call = Removed p (Ok tt); left = [] }

-- a settling and a removal that didn't fail leave no nodes of their own
pub is_settlement :
    (act : Act) (w : World) (ps : List Path) (call : Call) (left : List Change) → request call ≡ Settle ps → failed call ≡ false → Lets act w call left →
    record { call = call; left = left } ≡ settlement ps
is_settlement act w ps call left is quiet lets =
    let same = settled_call call ps is quiet in
    let none : left ≡ [] = subst (λ (c : Call). Lets act w c left) same lets in
    λ i. record { call = same i; left = none i }

pub is_removal :
    (act : Act) (w : World) (p : Path) (call : Call) (left : List Change) → request call ≡ Remove p → failed call ≡ false → Lets act w call left →
    record { call = call; left = left } ≡ removal p
is_removal act w p call left is quiet lets =
    let same = removed_call call p is quiet in
    let none : left ≡ [] = subst (λ (c : Call). Lets act w c left) same lets in
    λ i. record { call = same i; left = none i }

settled_seen : (rules : Rules) (w : World) (ps : List Path) → seen rules (after w (settlement ps)) ≡ seen rules w
settled_seen rules w ps =
    λ i. image_by rules.read w.names (λ q. settled_reads (is_within q ps || (is_above q ps && reads_folder (w.nodes q))) (w.nodes q) i)

pub settling_leaves : SettlingLeaves
settling_leaves act rules w ps [] done follows = absurd done
settling_leaves act rules w ps (e ∷ (f ∷ es)) done follows = absurd done.2
settling_leaves act rules w ps (e ∷ []) done follows =
    let same = is_settlement act w ps e.call e.left done.0 done.1 follows.0.lets in (
      ap (λ (d : Event). seen rules (after w d)) same ∙ settled_seen rules w ps,
      ap (λ (d : Event). (after w d).children) same,
    )
