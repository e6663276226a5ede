-- What is seen at one path.
use Rattle.std.proofs.Common.{◌≡◌, ◌≢◌, inl, inr, Bool, true, false, List, refl, sym, ap, subst, ◌∙◌, Option, Some, None}
use Rattle.std.specs.Prelude.{IsSome}
use Rattle.smk_base.proofs.Under.{never_both, rest_under, at_itself, at_or_under_cases}
use Rattle.smk_world.specs.declared.event.Node.TheVariants.{Regular, Directory}
use Rattle.smk_world.specs.declared.event.NodeState.{NodeState}
use Rattle.smk_world.specs.declared.event.NodeState.TheVariants.{Owned, Known}
use Rattle.smk_world.specs.declared.event.Stat.{Stat}
use Rattle.smk_world.specs.World.{World, reading, reads_folder}
use Rattle.smk_world.specs.Calls.{stat_of}
use Rattle.smk_world.specs.Folders.{IsTree}
use Rattle.smk_world.specs.Trees.{Path, is_path_text}
use Rattle.smk_record.specs.declared.record.Member.{Member}
use Rattle.smk_store_members.specs.declared.listed.Listed.{Listed}
use Rattle.smk_store_members.specs.declared.listed.Listed.TheVariants.{Members, BadMember}
use Rattle.smk_store_members.specs.Members.{Nodes, IsOpenFolder, IsListed}
use Rattle.smk_store.specs.Unowned.{IsUnownedUnder}
use Rattle.smk_store.proofs.Looks.{unowned_still}
use Rattle.smk_store.proofs.Standing.{tree_folder}
use Rattle.smk_plan.specs.declared.seen.Sight.{Sight}
use Rattle.smk_plan.specs.Sights.{is_tellable}
use Rattle.smk_plan_look.specs.Seeing.{TellsGuard, IsListedAs, IsSightOf, is_read_only, is_folder_stat, members_in}
use Rattle.smk_plan_look.proofs.Waiting.{flag, read_only_same, guard_some, path_tellable}

pub open_folder : (nodes : Nodes) (p : Path) → IsUnownedUnder nodes p → reads_folder (nodes p) ≡ true → IsOpenFolder nodes p
open_folder nodes p free reads = record { folder = reads; unowned = free }

-- no child owns the path itself
pub itself_free : (nodes : Nodes) (p place : Path) → place ≡ p → IsUnownedUnder nodes p → nodes place ≢ Owned
itself_free nodes p place same free = subst (λ (q : Path). nodes q ≢ Owned) (sym same) (free p (at_itself p))

listed_in : (nodes : Nodes) (p : Path) (listed : Listed) → IsListed nodes p listed → IsListedAs nodes p (members_in listed)
listed_in nodes p (Members members) h = h
listed_in nodes p BadMember h = h

pub listed_as : (nodes : Nodes) (p : Path) (listed : Listed) (members : Option (List Member)) → members ≡ members_in listed → IsListed nodes p listed → IsListedAs nodes p members
listed_as nodes p listed members is h = subst (IsListedAs nodes p) (sym is) (listed_in nodes p listed h)

folder_stat : (s : NodeState) → is_folder_stat (stat_of (reading s)) ≡ reads_folder s
folder_stat Owned = refl
folder_stat (Known None besides) = refl
folder_stat (Known (Some (Regular bytes time read_only)) besides) = refl
folder_stat (Known (Some Directory) besides) = refl

pub folder_read_at : (nodes : Nodes) (p : Path) (stat : Stat) → stat ≡ stat_of (reading (nodes p)) → is_folder_stat stat ≡ true → reads_folder (nodes p) ≡ true
folder_read_at nodes p stat is h = sym (folder_stat (nodes p)) ∙ sym (ap is_folder_stat is) ∙ h

pub sight_still : (a b : Nodes) (p : Path) (s : Sight) → a ≡ b → IsSightOf a p s → IsSightOf b p s
sight_still a b p s same h = subst (λ (n : Nodes). IsSightOf n p s) same h

-- a folder, with what is under it
pub folder_seen : (w v : World) → v.nodes ≡ w.nodes → (p place : Path) (stat : Stat) (members : Option (List Member)) (guarded : Bool) → IsUnownedUnder w.nodes p → place ≡ p → is_path_text p ≡ true → reads_folder (w.nodes p) ≡ true → stat ≡ stat_of (reading (w.nodes p))
    → IsListedAs w.nodes p members → (IsUnownedUnder v.nodes place → reads_folder (v.nodes place) ≡ true → is_tellable place ≡ true → TellsGuard v.nodes place guarded)
    → IsSightOf w.nodes p (record { path = p; stat = stat; members = members; guarded = guarded; sum = None })
folder_seen w v same p place stat members guarded free at path reads is listed told =
    record {
      path = refl;
      stat = is;
      folder = λ h. listed;
      plain = λ h. absurd (never_both (reads_folder (w.nodes p)) reads h);
      unsummed = refl;
      guarded = subst (λ (n : Nodes). TellsGuard n p guarded) same
          (subst (λ (q : Path). TellsGuard v.nodes q guarded) at
          (told (subst (IsUnownedUnder v.nodes) (sym at) (unowned_still w.nodes v.nodes p same free)) (ap (λ (q : Path). reads_folder (v.nodes q)) at ∙ ap (λ (n : Nodes). reads_folder (n p)) same ∙ reads) (ap is_tellable at ∙ path_tellable p path)));
    }

-- anything else: nothing is under it
pub plain_seen : (w : World) → IsTree w → (p : Path) (stat : Stat) (guarded : Bool) → is_path_text p ≡ true → stat ≡ stat_of (reading (w.nodes p)) → is_folder_stat stat ≡ false → guarded ≡ is_read_only stat
    → IsSightOf w.nodes p (record { path = p; stat = stat; members = None; guarded = guarded; sum = None })
plain_seen w tree p stat guarded path is plain told =
    let no_folder : reads_folder (w.nodes p) ≡ false = sym (folder_stat (w.nodes p)) ∙ sym (ap is_folder_stat is) ∙ plain in
    let flagged : guarded ≡ flag (reading (w.nodes p)) = told ∙ ap is_read_only is ∙ read_only_same (reading (w.nodes p)) in
    record {
      path = refl;
      stat = is;
      folder = λ h. absurd (never_both (reads_folder (w.nodes p)) h no_folder);
      plain = λ h. refl;
      unsummed = refl;
      guarded = record {
        some = λ e. record { place = p; inside = at_itself p; guards = record { tellable = path_tellable p path; read_only = sym flagged ∙ e } };
        none = λ e h.
            elim (at_or_under_cases h.place p h.inside) [
              | inl same ↦ never_both (flag (reading (w.nodes h.place))) h.guards.read_only (ap (λ (q : Path). flag (reading (w.nodes q))) same ∙ sym flagged ∙ e)
              | inr under ↦
                  let r = rest_under h.place p under in
                  never_both (reads_folder (w.nodes p)) (tree_folder w tree p r.0 (subst (λ (q : Path). IsSome (reading (w.nodes q))) r.1 (guard_some (w.nodes h.place) h.guards.read_only))) no_folder
            ];
      };
    }
