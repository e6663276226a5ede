-- What a crash leaves of a workspace, by a choice.
use Rattle.std.specs.Prelude.{◌≡◌, ℕ, Bool, true, false, ◌&&◌, ◌||◌, List, [], ◌∷◌, ◌++◌, map, bytes_eq, codes, if◌then◌else◌, Option, None, Some, Ok, Err, is_some}
use Rattle.smk_base.specs.Path.{is_under, is_at_or_under}
use Rattle.smk_world.specs.declared.event.Node.{Node}
use Rattle.smk_world.specs.declared.event.Node.TheVariants.{Regular, Directory}
use Rattle.smk_world.specs.declared.event.Besides.TheVariants.{Anything, OneOf}
use Rattle.smk_world.specs.declared.event.NodeState.{NodeState}
use Rattle.smk_world.specs.declared.event.NodeState.TheVariants.{Owned, Known}
use Rattle.smk_world.specs.declared.event.Call.{Call}
use Rattle.smk_world.specs.declared.event.Call.TheVariants.{Looked, ReadFile, ReadFolder, Written, Created, Removed, MadeParents, Settled, Protected, Started, Waited}
use Rattle.smk_world.specs.declared.event.Change.{Change}
use Rattle.smk_world.specs.declared.event.Child.{Child}
use Rattle.smk_world.specs.World.{World, reading, reads, reads_nothing, loose, going, firm, firmly, with_folder, with_flag, settled, standing, is_within, is_named, owned_paths, owned_by, made_folders, folders_above, children_after}
use Rattle.smk_world.specs.Calls.{owned_now}
use Rattle.smk_world.specs.Folders.{AreInFolders, IsLeft, IsFirm}
use Rattle.smk_world_nodes.specs.Nodes.{node_at}
use Rattle.smk_world_nodes.specs.Steps.{now_there, replay, empty_world}
use Rattle.smk_world_nodes.specs.declared.nodes.Nodes.{Nodes}
use Rattle.smk_world_nodes.specs.declared.step.Step.{Step}
use Rattle.smk_world_nodes.specs.declared.step.Step.TheVariants.{Happened, Put, Gone}
use Rattle.smk_world_crash.specs.declared.choice.Choice.{Choice}
use Rattle.smk_world_crash.specs.declared.choice.Choice.TheVariants.{Least, Reading, Mixed}

-- ## At one place

-- the one that is nearer to nothing: nothing, and a file that may be written before one that may not
abbrev pub lesser : Option Node → Option Node → Option Node
lesser None m = None
lesser (Some n) None = None
lesser (Some (Regular bytes time true)) (Some m) = Some m
lesser (Some (Regular bytes time false)) (Some m) = Some (Regular bytes time false)
lesser (Some Directory) (Some m) = Some Directory

abbrev pub least_of : Option Node → List (Option Node) → Option Node
least_of n [] = n
least_of n (m ∷ ms) = least_of (lesser n m) ms

-- the least that a crash may leave: nothing where it may leave nothing, so that only what is firm stays
abbrev pub least : NodeState → Option Node
least Owned = None
least (Known now Anything) = None
least (Known now (OneOf ns)) = least_of now ns

-- what a file is given that may hold anything
abbrev pub other_bytes : List ℕ
other_bytes = codes "X"

-- a file with other bytes
abbrev pub spoilt : Option Node → Option Node
spoilt None = None
spoilt (Some (Regular bytes time read_only)) = Some (Regular other_bytes time read_only)
spoilt (Some Directory) = Some Directory

-- the first node
abbrev pub first_node : List (Option Node) → Option Node
first_node [] = None
first_node (None ∷ ns) = first_node ns
first_node (Some n ∷ ns) = Some n

-- what reads, or what was there before it went
abbrev pub or_back : Option Node → List (Option Node) → Option Node
or_back None ns = first_node ns
or_back (Some n) ns = Some n

-- Each file that may hold anything holds other bytes, those too that running children are to write, and what went is back.
abbrev pub mixed : Bool → NodeState → Option Node
mixed writes Owned = if writes then Some (Regular other_bytes 0 false) else None
mixed writes (Known now Anything) = spoilt now
mixed writes (Known now (OneOf ns)) = or_back now ns

-- what a crash leaves at a place: the least, or what reads there, or the mixture; running children may be to write the place
abbrev pub left_at : Choice → Bool → NodeState → Option Node
left_at Least writes s = least s
left_at Reading writes s = reading s
left_at Mixed writes s = mixed writes s

-- ## In a workspace

-- the places that have had something, or that running children are to write
abbrev pub touched : World → List (List ℕ)
touched w = owned_now w.children ++ w.names

abbrev pub left_in : Choice → World → List ℕ → Option Node
left_in choice w q = if is_named q (touched w) then left_at choice (is_named q (owned_now w.children)) (w.nodes q) else None

-- A crash leaves just this of the first world by the choice. Nothing runs there, nothing has been called, and each node is firm.
pub record IsCrash (choice : Choice) (w v : World) : Type 0 where
  pub left : IsLeft w (reads v)
  pub chosen : (q : List ℕ) → reading (v.nodes q) ≡ left_in choice w q
  pub firm : IsFirm v
  pub children : v.children ≡ []
  pub log : v.log ≡ []

-- what was told before the crash
abbrev pub CrashOf : Choice → Option World → World → Type 0
CrashOf choice told v = (w : World) × (told ≡ Some w) × IsCrash choice w v

-- ## States by steps

-- what the call takes for its child or gives back
abbrev pub reached_by : Call → List Child → List (List ℕ)
reached_by (Looked p r) cs = []
reached_by (ReadFile p limit r) cs = []
reached_by (ReadFolder p r) cs = []
reached_by (Written p bytes r) cs = []
reached_by (Created p r) cs = []
reached_by (Removed p r) cs = []
reached_by (MadeParents p r) cs = []
reached_by (Settled ps r) cs = []
reached_by (Protected p r) cs = []
reached_by (Started recipe logs command (Ok number)) cs = owned_paths recipe logs
reached_by (Started recipe logs command (Err e)) cs = []
reached_by (Waited (Ok ended)) cs = owned_by ended.number cs
reached_by (Waited (Err e)) cs = []

-- what stands at q after a call that reaches these places
abbrev pub moved_by : Call → List Change → List (List ℕ) → List ℕ → NodeState → NodeState
moved_by (Looked p r) left ps q s = s
moved_by (ReadFile p limit r) left ps q s = s
moved_by (ReadFolder p r) left ps q s = s
moved_by (Written p bytes r) left ps q s = if bytes_eq q p then loose (standing left q) s else s
moved_by (Created p (Ok made)) left ps q s = if made && bytes_eq q p then loose (standing left q) s else s
moved_by (Created p (Err e)) left ps q s = if reads_nothing s && bytes_eq q p then loose (standing left q) s else s
moved_by (Removed p r) left ps q s = if is_at_or_under q p then going (standing left q) s else s
moved_by (MadeParents p (Ok u)) left ps q s = if is_under p q then with_folder s else s
moved_by (MadeParents p (Err e)) left ps q s = if is_some (standing left q) && is_under p q then with_folder s else s
moved_by (Settled places (Ok u)) left ps q s = settled places q s
moved_by (Settled places (Err e)) left ps q s = s
moved_by (Protected p (Ok u)) left ps q s = if bytes_eq q p then with_flag s else s
moved_by (Protected p (Err e)) left ps q s = if bytes_eq q p then going (standing left q) (with_flag s) else s
moved_by (Started recipe logs command (Ok number)) left ps q s = if is_within q ps then Owned else s
moved_by (Started recipe logs command (Err e)) left ps q s = s
moved_by (Waited (Ok ended)) left ps q s = if is_within q ps then Known (standing left q) Anything else s
moved_by (Waited (Err e)) left ps q s = s

abbrev pub reached : Step → List Child → List (List ℕ)
reached (Happened e) cs = reached_by e.call cs
reached (Put p n) cs = []
reached (Gone p) cs = []

abbrev pub moved : Step → List (List ℕ) → List ℕ → NodeState → NodeState
moved (Happened e) ps q s = moved_by e.call e.left ps q s
moved (Put p n) ps q s = if bytes_eq q p then now_there (Some n) s else (if is_under p q then firm (with_folder s) else s)
moved (Gone p) ps q s = if is_at_or_under q p then now_there None s else s

abbrev pub children_then : Step → List Child → List Child
children_then (Happened e) cs = children_after e.call cs
children_then (Put p n) cs = cs
children_then (Gone p) cs = cs

-- what each of the steps reaches, where these children run before them
abbrev pub all_reached : List Child → List Step → List (List (List ℕ))
all_reached cs [] = []
all_reached cs (x ∷ xs) = reached x cs ∷ all_reached (children_then x cs) xs

-- the state of q after the steps, which reach these places
abbrev pub state_by : List ℕ → NodeState → List Step → List (List (List ℕ)) → NodeState
state_by q s [] rs = s
state_by q s (x ∷ xs) [] = s
state_by q s (x ∷ xs) (r ∷ rs) = state_by q (moved x r q s) xs rs

-- ## Names by steps

-- the names that the step adds
abbrev pub names_by : Step → List (List ℕ)
names_by (Happened e) = map (λ c. c.place) e.left ++ made_folders e.call
names_by (Put p n) = p ∷ folders_above p
names_by (Gone p) = []

abbrev pub all_names : List Step → List (List ℕ)
all_names [] = []
all_names (x ∷ xs) = names_by x ++ all_names xs

-- ## The steps that lead to nodes

-- the two folders over the lock: the only ones in the engine's own that no place names
abbrev pub own_folders : List (List ℕ)
own_folders = codes ".snakemake" ∷ (codes ".snakemake/smk" ∷ [])

-- the node is put there, unless it is one of those two and they were made already
abbrev pub put_there : Bool → List ℕ → Option Node → List Step
put_there own q None = []
put_there own q (Some n) = if own && is_named q own_folders then [] else Put q n ∷ []

abbrev pub puts : Bool → Nodes → List (List ℕ) → List Step
puts own nodes [] = []
puts own nodes (q ∷ qs) = put_there own q (node_at nodes q) ++ puts own nodes qs

-- the steps that make those two
abbrev pub own_steps : Bool → List Step
own_steps own = if own then Put (codes ".snakemake/smk/lock") (Regular [] 0 false) ∷ (Gone (codes ".snakemake/smk/lock") ∷ []) else []

-- what stands at q after the crash, where these children run after the steps
abbrev pub left_by : Choice → List Child → List Step → List ℕ → Option Node
left_by choice cs xs q = if is_named q (owned_now cs) || is_named q (all_names xs) then left_at choice (is_named q (owned_now cs)) (state_by q (firmly None) xs (all_reached [] xs)) else None

-- The steps lead to a world with just these nodes, each of them firm and in folders.
pub record LeadTo (steps : List Step) (nodes : Nodes) : Type 0 where
  pub nodes_are : (q : List ℕ) → (replay empty_world steps).nodes q ≡ firmly (node_at nodes q)
  pub tree : AreInFolders (node_at nodes)
  pub children : (replay empty_world steps).children ≡ []
  pub log : (replay empty_world steps).log ≡ []

-- no node but at these places
abbrev pub OnlyAt : List (List ℕ) → Nodes → Type 0
OnlyAt names nodes = (q : List ℕ) → is_named q names ≡ false → node_at nodes q ≡ None
