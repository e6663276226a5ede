-- The lock that is taken, or stands already.
use Rattle.std.proofs.Common.{◌≡◌, inl, Bool, true, false, List, [], ◌∷◌, ◌++◌, refl, sym, ap, subst, ◌∙◌, Some, None, Result, Ok, Err}
use Rattle.std.specs.Prelude.{if◌then◌else◌, IsSome, is_some}
use Rattle.smk_base.specs.Path.{is_under}
use Rattle.smk_base.specs.Place.{lock_place}
use Rattle.smk_world.specs.declared.event.Call.TheVariants.{Created}
use Rattle.smk_world.specs.declared.event.Event.{Event}
use Rattle.smk_world.specs.declared.event.Failed.{Failed}
use Rattle.smk_world.specs.declared.event.Node.{Node}
use Rattle.smk_world.specs.declared.event.Node.TheVariants.{Regular, Directory}
use Rattle.smk_world.specs.declared.event.NodeState.{NodeState}
use Rattle.smk_world.specs.declared.event.NodeState.TheVariants.{Owned, Known}
use Rattle.smk_world.specs.Calls.{Lets, MayRead, Reads}
use Rattle.smk_world.specs.Folders.{IsTree}
use Rattle.smk_world.specs.Requests.{Request, HasDone}
use Rattle.smk_world.specs.Requests.Request.{Create, MakeParents, Settle}
use Rattle.smk_world.specs.Runs.{Follows}
use Rattle.smk_world.specs.Trees.{Path, Act}
use Rattle.smk_world.specs.World.{World, after, run, reading, loose, standing, with_folder, node_after, children_after}
use Rattle.smk_store.specs.Steps.{HasLocked, made_by, all_made}
use Rattle.smk_store.specs.Unowned.{NoneOwned}
use Rattle.smk_keep_lock.specs.Changing.{IsSame}
use Rattle.smk_keep_lock.specs.Locking.{HasTaken}
use Rattle.smk_keep_lock.proofs.Named.{created_call, parents_call, settled_call}
use Rattle.smk_keep_lock.proofs.Staying.{AllKeepTo, KeepsTo, call_stays, carried_keep, changes_only}

-- ## One place

stands_unless : (s : NodeState) → (s ≡ Owned → ⊥) → ¬ (Reads None s) → IsSome (reading s)
stands_unless Owned free h = absurd (free refl)
stands_unless (Known None besides) free h = absurd (h refl)
stands_unless (Known (Some n) besides) free h = refl

none_reads : (s : NodeState) → MayRead None s → reading s ≡ None
none_reads Owned h = refl
none_reads (Known m besides) h = h

folder_stays : (s : NodeState) → reading s ≡ Some Directory → with_folder s ≡ s
folder_stays Owned h = absurd cc
folder_stays (Known None besides) h = absurd cc
folder_stays (Known (Some n) besides) h = refl

loose_reads : (n : Node) (s : NodeState) → (s ≡ Owned → ⊥) → IsSome (reading (loose (Some n) s))
loose_reads n Owned free = absurd (free refl)
loose_reads n (Known m besides) free = refl

-- ## The calls

abbrev tries : List Request
tries = MakeParents lock_place ∷ Create lock_place ∷ Settle (lock_place ∷ []) ∷ []

abbrev looks_only : List Request
looks_only = MakeParents lock_place ∷ Create lock_place ∷ []

keep : (w : World) (es : List Event) (result : Result Bool Failed) → HasLocked result w es → AllKeepTo (lock_place ∷ []) (lock_place ∷ []) es
keep w es (Ok true) h = carried_keep (lock_place ∷ []) (lock_place ∷ []) tries true es (inl refl, (inl refl, (tt, tt))) h.0
keep w es (Ok false) h = carried_keep (lock_place ∷ []) (lock_place ∷ []) looks_only true es (inl refl, (inl refl, tt)) h.0
keep w es (Err x) h = carried_keep (lock_place ∷ []) (lock_place ∷ []) tries false es (inl refl, (inl refl, (tt, tt))) h

module _ (act : Act) (w : World) (free : NoneOwned w) (tree : IsTree w) where
  made_now : (es : List Event) → Follows act w es → HasDone tries es → all_made es ≡ true ∷ [] → (reading (w.nodes lock_place) ≡ None) × IsSome (reading ((run w es).nodes lock_place))
  made_now [] follows h made = absurd h
  made_now (e1 ∷ []) follows h made = absurd h.2
  made_now (e1 ∷ (e2 ∷ [])) follows h made = absurd h.2.2
  made_now (e1 ∷ (e2 ∷ (e3 ∷ (e4 ∷ es)))) follows h made = absurd h.2.2.2
  made_now (e1 ∷ (e2 ∷ (e3 ∷ []))) follows h made =
      let v = after w e1 in
      let u = after v e2 in
      let c1 = parents_call e1.call lock_place h.0 h.1 in
      let c2 = created_call e2.call lock_place h.2.0 h.2.1 in
      let c3 = settled_call e3.call (lock_place ∷ []) h.2.2.0 h.2.2.1 in
      let all : all_made (e1 ∷ e2 ∷ e3 ∷ []) ≡ c2.0 ∷ [] = λ i. made_by (c1 i) ++ (made_by (c2.1 i) ++ (made_by (c3 i) ++ [])) in
      let same : c2.0 ∷ [] ≡ true ∷ [] = sym all ∙ made in
      let yes : c2.0 ≡ true = cc in
      let is : e2.call ≡ Created lock_place (Ok true) = c2.1 ∙ ap (λ b. Created lock_place (Ok b)) yes in
      let lets = subst (λ c. Lets act v c e2.left) is follows.1.0.lets in
      let first : v.nodes lock_place ≡ w.nodes lock_place = ap (λ c. node_after c e1.left w.children lock_place (w.nodes lock_place)) c1 in
      let second : u.nodes lock_place ≡ loose (Some (Regular [] lets.1.0 false)) (v.nodes lock_place) =
      ap (λ c. node_after c e2.left v.children lock_place (v.nodes lock_place)) is ∙ ap (λ l. loose (standing l lock_place) (v.nodes lock_place)) lets.1.1 in
      let third = (call_stays [] [] e3.left u.children lock_place (u.nodes lock_place) refl refl e3.call (subst (KeepsTo [] []) (sym h.2.2.0) tt)).0 in (
        sym (ap reading first) ∙ none_reads (v.nodes lock_place) lets.0,
        sym (ap is_some third)
            ∙ ap (λ s. is_some (reading s)) second
            ∙ loose_reads (Regular [] lets.1.0 false) (v.nodes lock_place) (λ o. free lock_place (sym first ∙ o)),
      )

  stood_there : (es : List Event) → Follows act w es → HasDone looks_only es → all_made es ≡ false ∷ [] → IsSome (reading (w.nodes lock_place)) × IsSame w (run w es)
  stood_there [] follows h made = absurd h
  stood_there (e1 ∷ []) follows h made = absurd h.2
  stood_there (e1 ∷ (e2 ∷ (e3 ∷ es))) follows h made = absurd h.2.2
  stood_there (e1 ∷ (e2 ∷ [])) follows h made =
      let v = after w e1 in
      let c1 = parents_call e1.call lock_place h.0 h.1 in
      let c2 = created_call e2.call lock_place h.2.0 h.2.1 in
      let all : all_made (e1 ∷ e2 ∷ []) ≡ c2.0 ∷ [] = λ i. made_by (c1 i) ++ (made_by (c2.1 i) ++ []) in
      let same : c2.0 ∷ [] ≡ false ∷ [] = sym all ∙ made in
      let not_made : c2.0 ≡ false = cc in
      let is : e2.call ≡ Created lock_place (Ok false) = c2.1 ∙ ap (λ b. Created lock_place (Ok b)) not_made in
      let lets = subst (λ c. Lets act v c e2.left) is follows.1.0.lets in
      let first : v.nodes lock_place ≡ w.nodes lock_place = ap (λ c. node_after c e1.left w.children lock_place (w.nodes lock_place)) c1 in
      let stands : IsSome (reading (w.nodes lock_place)) =
      sym (ap (λ s. is_some (reading s)) first) ∙ stands_unless (v.nodes lock_place) (λ o. free lock_place (sym first ∙ o)) lets.0 in (
        stands,
        (
          λ q. sym (ap (λ c. node_after c e2.left v.children q (v.nodes q)) is
              ∙ ap (λ c. node_after c e1.left w.children q (w.nodes q)) c1
              ∙ in_folder q (is_under lock_place q) refl stands),
          sym (ap (λ c. children_after c v.children) is ∙ ap (λ c. children_after c w.children) c1),
        ),
      )
    where
      in_folder : (q : Path) (b : Bool) → is_under lock_place q ≡ b → IsSome (reading (w.nodes lock_place)) → (if b then with_folder (w.nodes q) else w.nodes q) ≡ w.nodes q
      in_folder q true under stands = folder_stays (w.nodes q) ((tree lock_place stands).folders q under)
      in_folder q false under stands = refl

  pub took : (result : Result Bool Failed) (es : List Event) → Follows act w es → HasLocked result w es → HasTaken result w es
  took (Ok true) es follows h =
      record {
        calls = h;
        only = changes_only (lock_place ∷ []) (lock_place ∷ []) w es (keep w es (Ok true) h);
        taken = λ e. made_now es follows h.0 h.1;
        stood = λ e. absurd cc;
      }
  took (Ok false) es follows h =
      record {
        calls = h;
        only = changes_only (lock_place ∷ []) (lock_place ∷ []) w es (keep w es (Ok false) h);
        taken = λ e. absurd cc;
        stood = λ e. stood_there es follows h.0 h.1;
      }
  took (Err x) es follows h =
      record {
        calls = h;
        only = changes_only (lock_place ∷ []) (lock_place ∷ []) w es (keep w es (Err x) h);
        taken = λ e. absurd cc;
        stood = λ e. absurd cc;
      }
