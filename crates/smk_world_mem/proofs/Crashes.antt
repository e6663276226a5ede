-- The workspace that goes on after a crash.
use Rattle.std.proofs.Common.{◌≡◌, ◌+◌, ℕ, Bool, true, false, ◌&&◌, List, [], length, refl, ap, sym, subst, ◌∙◌, Option, Some, None, arith}
use Rattle.std.specs.Prelude.{if◌then◌else◌}
use Rattle.std.proofs.lemmas.Bool.{false≢true}
use Rattle.smk_world.specs.declared.event.Node.{Node}
use Rattle.smk_world.specs.declared.event.NodeState.TheVariants.{Owned}
use Rattle.smk_world.specs.declared.event.Child.{Child}
use Rattle.smk_world.specs.World.{World, MayLeave, IsFormed, reading, reads, node_in, firmly, is_named, is_within}
use Rattle.smk_world.specs.Calls.{owned_now, started_numbers}
use Rattle.smk_world.specs.Folders.{AreInFolders}
use Rattle.smk_world.proofs.Names.{or_false, reads_there, reads_rising}
use Rattle.smk_world_nodes.specs.Nodes.{node_at}
use Rattle.smk_world_nodes.specs.Steps.{seen, replay, empty_world, told_world, formed_told, Agrees, Orderly, AllBelow, Rooted}
use Rattle.smk_world_nodes.specs.declared.nodes.Nodes.{Nodes}
use Rattle.smk_world_nodes.specs.declared.step.Step.{Step}
use Rattle.smk_world_mem.specs.Setup.{Caused}
use Rattle.smk_world_crash.specs.declared.choice.Choice.{Choice}
use Rattle.smk_world_crash.specs.Crash.{left_at, touched, left_in, left_by, LeadTo, IsCrash, CrashOf}
use Rattle.smk_world_crash.proofs.Images.{may_read, may_be_left, named_both, left_same}

-- ## What it keeps

module _ (told : Bool) (nodes : Nodes) (more : List Step) (led : told ≡ true → LeadTo more nodes) where
  pub agrees_led : Agrees told nodes more
  agrees_led = λ is q. subst (λ s. seen (node_at nodes q) s ≡ node_at nodes q) (sym ((led is).nodes_are q)) refl

  pub rooted_led : Rooted told nodes
  rooted_led = λ is. (led is).tree

  orderly_none : Orderly told more [] 1
  orderly_none = λ is.
      let l = led is in record {
        children_are = l.children;
        started_below = subst (λ log. AllBelow 1 (started_numbers log)) (sym l.log) tt;
        started_counted = ap (λ log. length (started_numbers log) + 1) l.log;
        apart = tt;
        below = tt;
        distinct = tt;
        owned = λ q h. never (node_at nodes q) (sym (l.nodes_are q) ∙ h);
        held = λ q h. absurd (false≢true (ap (λ cs. is_within q (owned_now cs)) (sym l.children) ∙ h));
        alone = tt;
      }
    where
      never : {P : Type 0} (n : Option Node) → firmly n ≡ Owned → P
      never n e = cc

  pub orderly_led : (children : List Child) → children ≡ [] → Orderly told more children 1
  orderly_led children none = subst (λ cs. Orderly told more cs 1) (sym none) orderly_none

  pub caused_led : (failing : List ℕ) (stop_after : Option ℕ) (killed : List ℕ) → Caused told failing stop_after killed 0 0 1 more
  caused_led failing stop_after killed = λ is counts. record { counted = omega arith; numbered = omega arith }

-- ## What it is

module _ (choice : Choice) (children : List Child) (steps more : List Step) (nodes : Nodes) (same : (replay empty_world steps).children ≡ children)
    (are : (q : List ℕ) → node_at nodes q ≡ left_by choice children steps q) (led : LeadTo more nodes) where
  formed : (ss : List Step) → IsFormed (replay empty_world ss)
  formed ss = formed_told true ss (replay empty_world ss) refl

  reads_so : (q : List ℕ) → reading ((replay empty_world more).nodes q) ≡ left_in choice (replay empty_world steps) q
  reads_so q = ap reading (led.nodes_are q) ∙ are q ∙ left_same choice children steps q same

  in_image : (q : List ℕ) → node_in (reads (replay empty_world more)) q ≡ reading ((replay empty_world more).nodes q)
  in_image q = reads_there (replay empty_world more) q (formed more)

  may_stay : (q : List ℕ) → MayLeave ((replay empty_world steps).nodes q) (left_in choice (replay empty_world steps) q)
  may_stay q = go (is_named q (touched (replay empty_world steps))) refl
    where
      go : (b : Bool) → is_named q (touched (replay empty_world steps)) ≡ b
          → MayLeave ((replay empty_world steps).nodes q) (if b then left_at choice (is_named q (owned_now (replay empty_world steps).children)) ((replay empty_world steps).nodes q) else None)
      go true e = may_be_left choice (is_named q (owned_now (replay empty_world steps).children)) ((replay empty_world steps).nodes q)
      go false e =
          may_read ((replay empty_world steps).nodes q) None
          (sym ((formed steps).complete q (or_false (is_named q (owned_now (replay empty_world steps).children)) (is_named q (replay empty_world steps).names) (sym (named_both q (owned_now (replay empty_world steps).children) (replay empty_world steps).names) ∙ e)).1))

  is_crash : IsCrash choice (replay empty_world steps) (replay empty_world more)
  is_crash = record {
    left = record {
      leaves = record {
        each = λ q. subst (MayLeave ((replay empty_world steps).nodes q)) (sym (in_image q ∙ reads_so q)) (may_stay q);
        rising = reads_rising (replay empty_world more) (formed more);
      };
      tree = subst AreInFolders (λ i q. (sym (in_image q ∙ ap reading (led.nodes_are q))) i) led.tree;
    };
    chosen = reads_so;
    firm = λ q. led.nodes_are q ∙ ap firmly (sym (ap reading (led.nodes_are q)));
    children = led.children;
    log = led.log;
  }

-- both were told
pub crash_told : (choice : Choice) (told whole : Bool) (children : List Child) (next : ℕ) (steps more : List Step) (nodes : Nodes) → Orderly told steps children next
    → ((q : List ℕ) → node_at nodes q ≡ left_by choice children steps q) → (whole ≡ true → LeadTo more nodes)
    → (v : World) → told_world (told && whole) more ≡ Some v → CrashOf choice (told_world told steps) v
crash_told choice true true children next steps more nodes orderly are led v e =
    (replay empty_world steps, refl, subst (IsCrash choice (replay empty_world steps)) (same_world _ v e) (is_crash choice children steps more nodes (orderly refl).children_are are (led refl)))
  where
    same_world : (a b : World) → Some a ≡ Some b → a ≡ b
    same_world a b f = cc
crash_told choice true false children next steps more nodes orderly are led v e = cc
crash_told choice false whole children next steps more nodes orderly are led v e = cc
