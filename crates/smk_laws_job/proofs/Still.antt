-- What stands at users' places as a job is finished stays so until the job is closed.
use Rattle.std.proofs.Common.{◌≡◌, ℕ, Bool, true, false, ◌&&◌, ◌||◌, List, [], ◌∷◌, ◌++◌, map, refl, sym, ap, subst, ◌∙◌, Option}
use Rattle.std.specs.Prelude.{if◌then◌else◌}
use Rattle.smk_base.specs.Path.{is_path, is_at_or_under, own_folder}
use Rattle.smk_base.specs.Place.{mark_place, record_place}
use Rattle.smk_base.proofs.Apart.{path_outside, outside-own}
use Rattle.smk_base.proofs.Under.{never_both, false_unless}
use Rattle.smk_world.specs.declared.event.NodeState.{NodeState}
use Rattle.smk_world.specs.declared.event.NodeState.TheVariants.{Owned, Known}
use Rattle.smk_world.specs.World.{World, IsFormed, node_after, is_within, is_above, reading, reads_folder, firm}
use Rattle.smk_world.specs.Requests.Request.{MakeParents, Remove, Settle, Write}
use Rattle.smk_world.specs.Requests.{Request}
use Rattle.smk_world.specs.Trees.{Path, Act, Each}
use Rattle.smk_world.proofs.Names.{formed_after}
use Rattle.smk_record.specs.declared.record.Member.{Member}
use Rattle.smk_record.specs.declared.record.Record.{Record}
use Rattle.smk_store.specs.Images.{seen, members_under}
use Rattle.smk_store.specs.Steps.{write_each, remove_each, places_of, unmark_requests}
use Rattle.smk_store_members.specs.Members.{AreMembers, AllIsFound}
use Rattle.smk_store_members.proofs.Under.{same_members, all_alike, members_alike}
use Rattle.smk_job.proofs.Single.{Reaches, Stepped, touches, step_keeps}
use Rattle.smk_laws_job.proofs.Abandoning.{settled_call}

-- the world is formed, and the same reads outside the engine's folder
pub record IsStill (u v : World) : Type 0 where
  pub formed : IsFormed v
  pub reads : (q : Path) → is_at_or_under q own_folder ≡ false → reading (v.nodes q) ≡ reading (u.nodes q)

pub still_itself : (u : World) → IsFormed u → IsStill u u
still_itself u formed = record { formed = formed; reads = λ q out. refl }

formed_then : (act : Act) (r : Request) (w v : World) → Stepped act r w v → IsFormed w → IsFormed v
formed_then act r w v st formed = subst IsFormed (sym st.now) (formed_after w st.event formed)

pub firm_reads : (b : Bool) (s : NodeState) → reading (if b then firm s else s) ≡ reading s
firm_reads true Owned = refl
firm_reads true (Known now besides) = refl
firm_reads false s = refl

-- a settling
pub still_settled : (act : Act) (ps : List Path) (u w v : World) → Stepped act (Settle ps) w v → IsStill u w → IsStill u v
still_settled act ps u w v st still =
    record {
      formed = formed_then act (Settle ps) w v st still.formed;
      reads = λ q out.
          ap (λ (x : World). reading (x.nodes q)) st.now
          ∙ ap (λ c. reading (node_after c st.event.left w.children q (w.nodes q))) (settled_call st.event.call ps st.is st.quiet)
          ∙ firm_reads (is_within q ps || (is_above q ps && reads_folder (w.nodes q))) (w.nodes q)
          ∙ still.reads q out;
    }

-- a call that touches the engine's places alone
pub still_apart : (act : Act) (r : Request) (u w v : World) → ((q : Path) → is_at_or_under q own_folder ≡ false → touches r q ≡ false) → Stepped act r w v → IsStill u w → IsStill u v
still_apart act r u w v apart st still =
    record {
      formed = formed_then act r w v st still.formed;
      reads = λ q out. ap reading (step_keeps act r w v q st (apart q out)) ∙ still.reads q out;
    }

-- a settling, or a call that touches the engine's places alone
pub data Stays : Request → Type 0 where
  Settles : (ps : List Path) → Stays (Settle ps)
  Aside : (r : Request) → ((q : Path) → is_at_or_under q own_folder ≡ false → touches r q ≡ false) → Stays r

still_one : (act : Act) (r : Request) (u w v : World) → Stays r → Stepped act r w v → IsStill u w → IsStill u v
still_one act r u w v (Settles ps) st still = still_settled act ps u w v st still
still_one act r u w v (Aside _ apart) st still = still_apart act r u w v apart st still

-- such calls one after another
pub still_reaches : (act : Act) (rs : List Request) (u w v : World) → Each Stays rs → Reaches act rs w v → IsStill u w → IsStill u v
still_reaches act [] u w v h same still = subst (IsStill u) (sym same) still
still_reaches act (r ∷ rs) u w v h (x, st, more) still = still_reaches act rs u x v h.1 more (still_one act r u w x h.0 st still)

stays_both : (rs qs : List Request) → Each Stays rs → Each Stays qs → Each Stays (rs ++ qs)
stays_both [] qs h k = k
stays_both (r ∷ rs) qs h k = (h.0, stays_both rs qs h.1 k)

stays_writes : (ps : List Path) (full : Path → List ℕ) → Each Stays (write_each (map record_place ps) (map full ps))
stays_writes [] full = tt
stays_writes (p ∷ ps) full = (
  Aside (MakeParents (record_place p)) (λ q out. (outside-own q (record_place p) out refl).over),
  (Aside (Write (record_place p) (full p)) (λ q out. (outside-own q (record_place p) out refl).differs), stays_writes ps full),
)

-- outputs are settled, and their records written and settled
pub stays_puts : (ps : List Path) (full : Path → List ℕ) → Each Stays (Settle ps ∷ (write_each (map record_place ps) (map full ps) ++ Settle (map record_place ps) ∷ []))
stays_puts ps full = (Settles ps, stays_both (write_each (map record_place ps) (map full ps)) (Settle (map record_place ps) ∷ []) (stays_writes ps full) (Settles (map record_place ps), tt))

stays_marks : (ps : List Path) → Each Stays (remove_each (map mark_place ps))
stays_marks [] = tt
stays_marks (p ∷ ps) = (Aside (Remove (mark_place p)) (λ q out. (outside-own q (mark_place p) out refl).at_or_under), stays_marks ps)

-- marks are removed, and that is settled
pub stays_unmarked : (ps logs : List Path) → Each Stays (unmark_requests (places_of ps logs))
stays_unmarked ps logs = stays_both (remove_each (map mark_place ps)) (Settle (map mark_place ps) ∷ []) (stays_marks ps) (Settles (map mark_place ps), tt)

under_outside : (p q : Path) → is_path p ≡ true → is_at_or_under q p ≡ true → is_at_or_under q own_folder ≡ false
under_outside p q path at =
    false_unless (is_at_or_under q own_folder) (λ own. never_both (is_at_or_under q p) at (outside-own p q (path_outside p path) own).at_or_over)

-- a directory has the members that were found in it
pub still_members : (read : List ℕ → Option Record) (u v : World) (p : Path) (members : List Member) → IsStill u v → is_path p ≡ true → AllIsFound u.nodes p → AreMembers u.nodes p members
    → members ≡ members_under (seen read v) p
still_members read u v p members still path all are =
    let alike : (q : Path) → is_at_or_under q p ≡ true → reading (v.nodes q) ≡ reading (u.nodes q) = λ q at. still.reads q (under_outside p q path at) in
    same_members read v p still.formed path members (all_alike u.nodes v.nodes p alike all) (members_alike u.nodes v.nodes p alike members are)
