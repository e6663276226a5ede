-- What holds between the events of a run, and the law: every crash image is sound after every prefix.
use Rattle.std.specs.Prelude.{◌≡◌, ◌⊎◌, ◌≤◌, ℕ, Bool, true, false, ◌||◌, List, [], ◌∷◌, map, length, bytes_eq, option_map, Option, Some, None, Ok, Err, IsTrue, IsSome}
use Rattle.std.specs.List.{list_any}
use Rattle.smk_world.specs.declared.recipe.Out.{Out}
use Rattle.smk_base.specs.declared.tree.Tree.{Tree}
use Rattle.smk_record.specs.declared.record.Stamp.TheVariants.{Made}
use Rattle.smk_record.specs.declared.record.Record.{Record}
use Rattle.smk_world.specs.declared.event.Child.{Child}
use Rattle.smk_world.specs.declared.event.Node.{Node}
use Rattle.smk_world.specs.declared.event.Node.TheVariants.{Regular}
use Rattle.smk_world.specs.declared.event.NodeState.TheVariants.{Owned}
use Rattle.smk_world.specs.declared.event.Call.{Call}
use Rattle.smk_world.specs.declared.event.Call.TheVariants.{Written, Created, Removed, Protected, Started, Waited}
use Rattle.smk_world.specs.declared.event.Event.{Event}
use Rattle.smk_world.specs.Trees.{Path, is_path_text, outs_of, all_of, value_at, IsIn, Each}
use Rattle.smk_store.specs.Images.{is_outside}
use Rattle.smk_base.specs.Path.{overlaps, is_at_or_under}
use Rattle.smk_world.specs.World.{folders_above, in_paths, World, IsFormed, protected, reading, firmly, reads_nothing, standing, is_within, after}
use Rattle.smk_laws_protocol.specs.Protocol.{kept_at, IsAgain, Phase, Marking, Running, Ended, Firm, Recorded, Dropped, OpenJob, RunState, outputs, own, eased, begun_with, record_of, listed_of, keeps, is_running}
use Rattle.smk_record.specs.Records.{stamped, serials}
use Rattle.smk_store.specs.Trust.{Versions, Eased, none_eased}
use Rattle.smk_laws_protocol.proofs.View.{View, Clear, Sound, source_at, is_source}
use Rattle.smk_laws_protocol.proofs.Views.{EachImage}
use Rattle.smk_laws_protocol.proofs.Like.{AreLike}
use Rattle.smk_base.specs.Place.{mark_place, note_place}
use Rattle.smk_store.specs.Soundness.{Outside}
use Rattle.smk_world.specs.Calls.{any_overlap, are_apart}
use Rattle.smk_laws_protocol.proofs.Rows.{IsAtHand, now, IsApart}

-- ---- what a world lets a call answer and leave, as far as the law needs it

-- the contents of a recipe's inputs, and what stands at its outputs
abbrev pub trees_at : View → List Path → List (Option Tree)
trees_at v ps = map v.tree ps

module _ (o : Outside) where
  abbrev pub Lets : World → Event → Call → Type 0
  Lets w e (Written p bytes (Ok u)) = (time : ℕ) × (read_only : Bool) × (e.left ≡ record { place = p; node = Regular bytes time read_only } ∷ [])
  Lets w e (Written p bytes (Err x)) = (q : Path) → bytes_eq q p ≡ false → standing e.left q ≡ None
  Lets w e (Created p (Ok true)) = (reads_nothing (w.nodes p) ≡ true) × ((time : ℕ) × (e.left ≡ record { place = p; node = Regular [] time false } ∷ []))
  Lets w e (Created p (Ok false)) = (reads_nothing (w.nodes p) ≡ false) × (e.left ≡ [])
  Lets w e (Created p (Err x)) = (q : Path) → bytes_eq q p ≡ false → standing e.left q ≡ None
  Lets w e (Removed p (Ok u)) = e.left ≡ []
  Lets w e (Removed p (Err x)) = (q : Path) → is_at_or_under q p ≡ true → (standing e.left q ≡ None) ⊎ (standing e.left q ≡ reading (w.nodes q))
  Lets w e (Protected p (Err x)) = (standing e.left p ≡ None) ⊎ ((standing e.left p ≡ reading (w.nodes p)) ⊎ (standing e.left p ≡ option_map protected (reading (w.nodes p))))
  Lets w e (Waited (Ok end)) =
      (c : Child) × IsIn w.children c × (c.number ≡ end.number)
      × (end.status ≡ 0 → (trees : List Tree) → trees_at (now o w) (in_paths c.recipe) ≡ map Some trees
      → ((o.act c.recipe trees).status ≡ 0) × ((o.act c.recipe trees).outputs ≡ trees_at (now o (after w e)) (map (λ (x : Out). x.path) (outs_of c.recipe))))
  -- the number is no running child's
  Lets w e (Started recipe logs command (Ok number)) = Each (λ (c : Child). c.number ≡ number → ⊥) w.children
  Lets w e c = Unit {0}

  -- ---- between two events

  -- its marks are firm
  abbrev pub has_firm_marks : Phase → Bool
  has_firm_marks Marking = false
  has_firm_marks Recorded = false
  has_firm_marks Dropped = false
  has_firm_marks _ = true

  abbrev pub is_marking : Phase → Bool
  is_marking Marking = true
  is_marking _ = false

  -- its outputs are what act gives
  abbrev pub is_made : Phase → Bool
  is_made Firm = true
  is_made Recorded = true
  is_made _ = false

  abbrev pub IsFirmly : World → Path → Type 0
  IsFirmly w place = (n : Node) × (w.nodes place ≡ firmly (Some n))

  -- p is the path or a folder above it
  abbrev pub covers : Path → Path → Bool
  covers p q = bytes_eq q p || list_any (λ f. bytes_eq f p) (folders_above q)

  -- nothing of the job's output is left
  pub record IsGone (v : View) (p : Path) : Type 0 where
    pub no_record : v.record_at p ≡ None
    pub no_bytes : v.has_record p ≡ false
    pub nothing : (q : Path) → covers p q ≡ true → v.file q ≡ None

  -- the record of the output stands
  pub record IsKnown (now : View) (j : OpenJob) (v : View) (p : Path) : Type 0 where
    pub stands : v.has_record p ≡ true
    pub reads : v.record_at p ≡ Some (record_of j p)
    pub lists : v.listed p ≡ listed_of j p (now.members p)

  -- what act gives there on what stands at the inputs now
  abbrev pub given : View → OpenJob → Path → Option Tree
  given now j p = value_at o.act j.recipe p (all_of (trees_at now (in_paths j.recipe)))

  abbrev pub HoldsGiven : View → OpenJob → View → Path → Type 0
  HoldsGiven now j v p = (tree : Tree) × (given now j p ≡ Some tree) × (v.tree p ≡ Some tree)

  -- the child's status was 0, and what it left is what act gives
  abbrev pub IsActed : View → OpenJob → Type 0
  IsActed now j =
      (trees : List Tree) → trees_at now (in_paths j.recipe) ≡ map Some trees →
      ((o.act j.recipe trees).status ≡ 0) × ((o.act j.recipe trees).outputs ≡ trees_at now (outputs j))

  -- where a Restore found a record it stands, or the one that is written in its place
  abbrev pub IsKept : View → OpenJob → Type 0
  IsKept now j = (p : Path) (r : Record) → kept_at j.kept p ≡ Some r → (now.record_at p ≡ Some r) ⊎ (now.record_at p ≡ Some (record_of j p))

  -- the two vouch for the same, and the versions have the sources of both
  abbrev pub VouchesLike : Versions → OpenJob → Type 0
  VouchesLike H j = (p : Path) (r : Record) → kept_at j.kept p ≡ Some r → AreLike H r (record_of j p)

  -- what counts and overlaps the job's paths is an output of its
  abbrev pub HasNoClash : Eased → OpenJob → View → Type 0
  HasNoClash e j v = (q : Path) (r : Record) → Clear v e q r → list_any (overlaps q) (own j) ≡ true → IsIn (outputs j) q

  -- a record that overlaps the job's paths, marked or not, is an output's
  abbrev pub HasNoRecordClash : OpenJob → View → Type 0
  HasNoRecordClash j v = (q : Path) → IsSome (v.record_at q) → list_any (overlaps q) (own j) ≡ true → IsIn (outputs j) q

  -- no two records overlap: at most one speaks for a path
  abbrev pub HasNoNested : View → Type 0
  HasNoNested v = (p q : Path) → IsSome (v.record_at p) → IsSome (v.record_at q) → overlaps p q ≡ true → p ≡ q

  -- what an image has a record of has a record or a mark now
  abbrev pub HasKnown : View → View → Type 0
  HasKnown now v = (q : Path) → v.has_record q ≡ true → (now.has_record q || now.marked q) ≡ true

  -- no record that counts names its serial
  abbrev pub IsUnnamed : Eased → OpenJob → View → Type 0
  IsUnnamed e j v = (q x : Path) (r : Record) → Clear v e q r → IsIn (stamped r) (x, Made j.serial) → ⊥

  -- no record that counts has its serial, but those of its outputs
  abbrev pub IsUnused : Eased → OpenJob → View → Type 0
  IsUnused e j v = (q : Path) (r : Record) → Clear v e q r → r.made ≡ j.serial → IsIn (outputs j) q

  -- its serials are at most this
  abbrev pub IsNumbered : ℕ → OpenJob → Type 0
  IsNumbered top j = (j.serial ≤ top) × ((q : Path) (m : ℕ) → IsIn (begun_with j) (q, Made m) → m ≤ top)

  -- the one has another serial than the new one of the other, and doesn't name it
  abbrev pub NamesNot : OpenJob → OpenJob → Type 0
  NamesNot j k = k.kept ≡ [] → (j.serial ≡ k.serial → ⊥) × ((q : Path) → IsIn (begun_with j) (q, Made k.serial) → ⊥)

  -- no number is that of two running children
  abbrev pub RunsApart : OpenJob → OpenJob → Type 0
  RunsApart j k = (n : ℕ) → j.phase ≡ Running n → k.phase ≡ Running n → ⊥

  abbrev pub AreApart : OpenJob → OpenJob → Type 0
  AreApart j k = IsApart j k × NamesNot j k × NamesNot k j × RunsApart j k

  abbrev pub AreGone : OpenJob → View → Type 0
  AreGone j v = Each (IsGone v) (outputs j)

  abbrev pub HasSources : View → View → Type 0
  HasSources now v = (p : Path) → source_at v p ≡ source_at now p

  abbrev pub HasNoNew : View → View → Type 0
  HasNoNew now v = (p : Path) (r : Record) → v.record_at p ≡ Some r → v.marked p ≡ false → (now.record_at p ≡ Some r) × (now.listed p ≡ v.listed p)

  abbrev pub IsBounded : Eased → ℕ → View → Type 0
  IsBounded e top v = (p : Path) (r : Record) (n : ℕ) → Clear v e p r → IsIn (serials r) n → n ≤ top

  -- what holds of an open job in every phase
  pub record Fits (entry : World) (e : Eased) (top : ℕ) (w : World) (j : OpenJob) : Type 0 where
    pub paths : Each (λ p. IsTrue (is_outside p)) (own j)
    pub texts : Each (λ p. IsTrue (is_path_text p)) (own j)
    pub apart : are_apart (own j) ≡ true
    pub from_inputs : any_overlap (own j) (in_paths j.recipe) ≡ false
    pub no_source : (q : Path) → is_source (now o entry) q ≡ true → list_any (overlaps q) (own j) ≡ false
    pub each_stamped : length j.stamps ≡ length (in_paths j.recipe)
    pub kept_own : (p : Path) (r : Record) → kept_at j.kept p ≡ Some r → IsIn (outputs j) p × IsAgain r (record_of j p)
    -- a Restore has found a record of each output
    pub kept_all : (j.kept ≡ [] → ⊥) → (p : Path) → IsIn (outputs j) p → IsSome (kept_at j.kept p)
    pub no_record_clash : EachImage o.read w (HasNoRecordClash j)
    pub no_clash : EachImage o.read w (HasNoClash e j)
    pub unnamed : j.kept ≡ [] → EachImage o.read w (IsUnnamed e j)
    pub unused : j.kept ≡ [] → EachImage o.read w (IsUnused e j)
    pub numbered : IsNumbered top j
    -- its own new serial is none that it names
    pub names_other : j.kept ≡ [] → (q : Path) → IsIn (begun_with j) (q, Made j.serial) → ⊥
    pub at_hand : Each (IsAtHand o (now o w)) (begun_with j)

  -- what holds of it by its phase
  pub record InPhase (w : World) (j : OpenJob) : Type 0 where
    pub marks : has_firm_marks j.phase ≡ true → Each (λ p. IsFirmly w (mark_place p)) (outputs j)
    pub notes : is_marking j.phase ≡ false → Each (λ p. IsFirmly w (note_place p)) j.logs
    pub kept : keeps j.phase ≡ true → IsKept (now o w) j
    pub child : (n : ℕ) → j.phase ≡ Running n → (c : Child) × IsIn w.children c × (c.number ≡ n)
    pub ended : j.phase ≡ Ended 0 → IsActed (now o w) j
    pub made : is_made j.phase ≡ true → EachImage o.read w (λ v. Each (HoldsGiven (now o w) j v) (outputs j))
    pub known : j.phase ≡ Recorded → EachImage o.read w (λ v. Each (IsKnown (now o w) j v) (outputs j))
    pub gone : j.phase ≡ Dropped → EachImage o.read w (AreGone j)

  abbrev pub Pairwise : List OpenJob → Type 0
  Pairwise [] = Unit {0}
  Pairwise (j ∷ js) = Each (AreApart j) js × Pairwise js

  -- no unmarked record has a number above top
  abbrev pub IsTop : World → ℕ → Type 0
  IsTop w top = (p : Path) (r : Record) (n : ℕ) → (now o w).record_at p ≡ Some r → (now o w).marked p ≡ false → IsIn (serials r) n → n ≤ top

  abbrev pub IsOfJob : List OpenJob → Child → Type 0
  IsOfJob js c = (j : OpenJob) × IsIn js j × (j.phase ≡ Running c.number) × (c.recipe ≡ j.recipe) × (c.logs ≡ j.logs)

  -- what is owned is at or under a path of a job whose child runs
  abbrev pub HasOwners : List OpenJob → World → Type 0
  HasOwners js w = (q : Path) → w.nodes q ≡ Owned → (j : OpenJob) × IsIn js j × (is_running j.phase ≡ true) × (is_within q (own j) ≡ true)

  -- what holds of the images
  pub record Images (entry : World) (H : Versions) (e : Eased) (top : ℕ) (steady : Bool) (w : World) : Type 0 where
    pub formed : IsFormed w
    -- the headline, for every image; the marks of open Restores needn't count
    pub sound : EachImage o.read w (λ v. Sound o.act H v e)
    pub sources : EachImage o.read w (HasSources (now o entry))
    pub no_new : EachImage o.read w (HasNoNew (now o w))
    pub bounded : steady ≡ true → EachImage o.read w (IsBounded e top)
    pub no_nested : EachImage o.read w HasNoNested
    pub known : EachImage o.read w (HasKnown (now o w))
    pub unsteady : steady ≡ false → IsTop w top

  -- what holds between two events
  pub record Midway (entry : World) (H : Versions) (s : RunState) (w : World) : Type 0 where
    pub images : Images entry H (eased s) s.top s.steady w
    pub fits : Each (Fits entry (eased s) s.top w) s.jobs
    pub phases : Each (InPhase w) s.jobs
    pub like : Each (VouchesLike H) s.jobs
    pub apart : Pairwise s.jobs
    -- each child is that of an open job
    pub children : Each (IsOfJob s.jobs) w.children
    pub owned : HasOwners s.jobs w

  -- ---- the law

  -- the world as it reads and whatever a crash leaves of it is sound, with the same sources and no other record; no child runs
  pub record SoundWorld (w : World) (H : Versions) : Type 0 where
    pub formed : IsFormed w
    pub now_sound : Sound o.act H (now o w) none_eased
    pub after_crash : EachImage o.read w (λ v. Sound o.act H v none_eased)
    pub same_sources : EachImage o.read w (HasSources (now o w))
    pub no_new_record : EachImage o.read w (HasNoNew (now o w))
    pub no_nested : EachImage o.read w HasNoNested
    pub known : EachImage o.read w (HasKnown (now o w))
    pub no_child : w.children ≡ []
    pub no_owned : (q : Path) → w.nodes q ≡ Owned → ⊥

  abbrev pub at_entry : ℕ → RunState
  at_entry top = record { jobs = []; top = top; steady = false; faulted = false }

  abbrev pub SafeImages : World → World → Versions → Type 0
  SafeImages entry w H = EachImage o.read w (λ v. Sound o.act H v none_eased × ((p : Path) → source_at v p ≡ source_at (now o entry) p) × HasNoNested v)
