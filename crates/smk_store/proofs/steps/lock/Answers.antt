use Rattle.std.proofs.Common.{◌≡◌, [], ◌∷◌, refl, ap, subst, ◌∙◌, true, false, get_or}
use Rattle.smk_base.specs.Place.{lock_place}
use Rattle.smk_world.specs.Requests.Request.{MakeParents, Create, Settle}
use Rattle.smk_world.proofs.Devices.{carried_as, carried_call, carried_then, carried_cut}
use Rattle.smk_store.proofs.Locking.{HasDoneSo, does_call, does_then, locked_cut}
use Rattle.smk_store.proofs.steps.lock.Goals as goal

pub returns-in_err-make_parents : goal.returns-in_err-make_parents
returns-in_err-make_parents g c =
    let p = c.index-as_slice-0.result in
    let is : p ≡ lock_place = c.index-as_slice-0.is ∙ ap (λ l. get_or l 0 p) (c.as_slice.ensures ∙ c.requires.lock) in
    locked_cut _ c.from_residual.ensures.0
    (carried_as (ap (λ q. MakeParents q ∷ Create lock_place ∷ Settle (lock_place ∷ []) ∷ []) is) refl
    (carried_cut (Create lock_place ∷ Settle (lock_place ∷ []) ∷ []) (carried_call (MakeParents p) refl refl c.in_err-make_parents.ensures)))

pub returns-in_err-create_new : goal.returns-in_err-create_new
returns-in_err-create_new g c =
    let p = c.index-as_slice-0.result in
    let is : p ≡ lock_place = c.index-as_slice-0.is ∙ ap (λ l. get_or l 0 p) (c.as_slice.ensures ∙ c.requires.lock) in
    locked_cut _ c.from_residual-in_err-create_new.ensures.0
    (carried_as (ap (λ q. MakeParents q ∷ Create q ∷ Settle (lock_place ∷ []) ∷ []) is) refl
    (carried_then (carried_call (MakeParents p) refl refl c.in_ok-make_parents.ensures) (carried_cut (Settle (lock_place ∷ []) ∷ []) (carried_call (Create p) refl refl c.in_err-create_new.ensures))))

pub returns-then-not-branch : goal.returns-then-not-branch
returns-then-not-branch g c =
    let p = c.index-as_slice-0.result in
    let is : p ≡ lock_place = c.index-as_slice-0.is ∙ ap (λ l. get_or l 0 p) (c.as_slice.ensures ∙ c.requires.lock) in
    (subst (λ q. HasDoneSo g.W.Files.act (MakeParents q ∷ Create q ∷ []) (false ∷ []) (g.W.Files.device c.args.work.now) (g.W.Files.device c.create_new.new.self)) is
    (does_then (does_call (MakeParents p) [] refl refl refl refl c.in_ok-make_parents.ensures) (does_call (Create p) (false ∷ []) refl refl refl (ap (λ m. m ∷ []) c.if-not-branch.true) c.in_ok-create_new.ensures))).acted

pub returns-in_err-settle : goal.returns-in_err-settle
returns-in_err-settle g c =
    let p = c.index-as_slice-0.result in
    let is : p ≡ lock_place = c.index-as_slice-0.is ∙ ap (λ l. get_or l 0 p) (c.as_slice.ensures ∙ c.requires.lock) in
    locked_cut _ c.from_residual-in_err-settle.ensures.0
    (carried_as (ap (λ q. MakeParents q ∷ Create q ∷ Settle (lock_place ∷ []) ∷ []) is) refl
    (carried_then (carried_then (carried_call (MakeParents p) refl refl c.in_ok-make_parents.ensures) (carried_call (Create p) refl refl c.in_ok-create_new.ensures))
    (carried_call (Settle (lock_place ∷ [])) refl (ap Settle c.requires.lock) c.in_err-settle.ensures)))

pub returns : goal.returns
returns g c =
    let p = c.index-as_slice-0.result in
    let is : p ≡ lock_place = c.index-as_slice-0.is ∙ ap (λ l. get_or l 0 p) (c.as_slice.ensures ∙ c.requires.lock) in
    (subst (λ q. HasDoneSo g.W.Files.act (MakeParents q ∷ Create q ∷ Settle (lock_place ∷ []) ∷ []) (true ∷ []) (g.W.Files.device c.args.work.now) (g.W.Files.device c.settle.new.self)) is
    (does_then (does_then (does_call (MakeParents p) [] refl refl refl refl c.in_ok-make_parents.ensures) (does_call (Create p) (true ∷ []) refl refl refl (ap (λ m. m ∷ []) c.if-not-branch.false) c.in_ok-create_new.ensures))
    (does_call (Settle (lock_place ∷ [])) [] refl (ap Settle c.requires.lock) refl refl c.in_ok-settle.ensures))).acted
