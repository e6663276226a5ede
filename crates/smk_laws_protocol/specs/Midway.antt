-- What holds between the events of a run, and the law: after every prefix each crash image is sound.
use Rattle.std.specs.Prelude.{◌≡◌, ◌⊎◌, ◌≤◌, ℕ, Bool, true, false, List, [], ◌∷◌, map, length, Option, Some, None, IsTrue, IsSome, Contains}
use Rattle.std.specs.List.{list_any}
use Rattle.smk_base.specs.Path.{is_at_or_under, overlaps}
use Rattle.smk_base.specs.Place.{mark_place, note_place}
use Rattle.smk_base.specs.declared.tree.Tree.{Tree}
use Rattle.smk_world.specs.declared.event.Node.{Node}
use Rattle.smk_world.specs.declared.event.NodeState.TheVariants.{Owned}
use Rattle.smk_world.specs.declared.event.Event.{Event}
use Rattle.smk_world.specs.declared.event.Child.{Child}
use Rattle.smk_world.specs.World.{World, IsFormed, firmly, run, in_paths, is_within}
use Rattle.smk_world.specs.Calls.{any_overlap, are_apart, started_numbers}
use Rattle.smk_world.specs.Runs.{Follows}
use Rattle.smk_world.specs.Trees.{Path, IsIn, Each, is_path_text, all_of, value_at}
use Rattle.smk_record.specs.declared.record.Stamp.TheVariants.{Made}
use Rattle.smk_record.specs.declared.record.Record.{Record}
use Rattle.smk_record.specs.Records.{stamped, serials, members_of}
use Rattle.smk_store.specs.Images.{Image, stands, is_source, file_at, core_at, record_at, members_under, tree_now}
use Rattle.smk_store.specs.Trust.{Eased, none_eased, Clear, Versions, SumsDiffer}
use Rattle.smk_store.specs.Safety.{KeepsSound}
use Rattle.smk_store.specs.Soundness.{Outside, Sound, SoundWorld, EachImage, SameSources, NoNewRecord, HasKnown}
use Rattle.smk_laws_protocol.specs.Protocol.{Phase, Marking, Running, Ended, Firm, Recorded, Dropped, OpenJob, RunState, outputs, own, eased, begun_with, record_of, listed_of, kept_at, keeps, is_running, IsAgain, IsApart, IsAtHand, now, Runs}

-- ## Words on phases

-- its marks are firm
abbrev pub has_firm_marks : Phase → Bool
has_firm_marks Marking = false
has_firm_marks Recorded = false
has_firm_marks Dropped = false
has_firm_marks phase = true

abbrev pub is_marking : Phase → Bool
is_marking Marking = true
is_marking phase = false

-- its outputs are what its command gives
abbrev pub is_made : Phase → Bool
is_made Firm = true
is_made Recorded = true
is_made phase = false

-- ## Words on one job

abbrev pub IsFirmly : World → Path → Type 0
IsFirmly w place = (n : Node) × (w.nodes place ≡ firmly (Some n))

-- the contents at some paths
abbrev pub trees_at : Image → List Path → List (Option Tree)
trees_at image ps = map (tree_now image) ps

-- nothing of an output is left
pub record IsGone (image : Image) (p : Path) : Type 0 where
  pub no_record : stands (image.kept p) ≡ false
  pub nothing : (q : Path) → is_at_or_under q p ≡ true → file_at image q ≡ None

-- the record of an output stands, with the members that are there now
pub record IsKnown (here : Image) (j : OpenJob) (image : Image) (p : Path) : Type 0 where
  pub reads : core_at image p ≡ Some (record_of j p)
  pub lists : members_of (record_at image p) ≡ listed_of j p (members_under here p)

-- a record that counts and overlaps the job's paths is an output's
abbrev pub HasNoClash : Eased → OpenJob → Image → Type 0
HasNoClash e j image = (q : Path) (r : Record) → Clear image e q r → list_any (overlaps q) (own j) ≡ true → IsIn (outputs j) q

-- so is any record that reads, marked or not
abbrev pub HasNoRecordClash : OpenJob → Image → Type 0
HasNoRecordClash j image = (q : Path) → IsSome (core_at image q) → list_any (overlaps q) (own j) ≡ true → IsIn (outputs j) q

-- no record that counts names its serial
abbrev pub IsUnnamed : Eased → OpenJob → Image → Type 0
IsUnnamed e j image = (q x : Path) (r : Record) → Clear image e q r → IsIn (stamped r) (x, Made j.serial) → ⊥

-- no record that counts has its serial, but those of its outputs
abbrev pub IsUnused : Eased → OpenJob → Image → Type 0
IsUnused e j image = (q : Path) (r : Record) → Clear image e q r → r.made ≡ j.serial → IsIn (outputs j) q

-- the serials that it names are at most this
abbrev pub IsNumbered : ℕ → OpenJob → Type 0
IsNumbered top j = (j.serial ≤ top) × ((q : Path) (m : ℕ) → IsIn (begun_with j) (q, Made m) → m ≤ top)

-- the one neither has the new serial of the other nor names it
abbrev pub NamesNot : OpenJob → OpenJob → Type 0
NamesNot j k = k.kept ≡ [] → (j.serial ≡ k.serial → ⊥) × ((q : Path) → IsIn (begun_with j) (q, Made k.serial) → ⊥)

-- no number is that of the child of both
abbrev pub RunsApart : OpenJob → OpenJob → Type 0
RunsApart j k = (n : ℕ) → j.phase ≡ Running n → k.phase ≡ Running n → ⊥

abbrev pub AreStrangers : OpenJob → OpenJob → Type 0
AreStrangers j k = IsApart j k × NamesNot j k × NamesNot k j × RunsApart j k

-- any two of them
abbrev pub AllStrangers : List OpenJob → Type 0
AllStrangers [] = Unit {0}
AllStrangers (j ∷ js) = Each (AreStrangers j) js × AllStrangers js

-- where a Restore found a record it stands, or the one that is written in its place
abbrev pub IsKeptIn : Image → OpenJob → Type 0
IsKeptIn here j =
    (p : Path) (r : Record) → kept_at j.kept p ≡ Some r → (core_at here p ≡ Some r) ⊎ (core_at here p ≡ Some (record_of j p))

abbrev pub IsBounded : Eased → ℕ → Image → Type 0
IsBounded e top image = (p : Path) (r : Record) (n : ℕ) → Clear image e p r → IsIn (serials r) n → n ≤ top

-- ## Words on children

abbrev pub IsOfJob : List OpenJob → Child → Type 0
IsOfJob js c = (j : OpenJob) × IsIn js j × (j.phase ≡ Running c.number) × (c.recipe ≡ j.recipe) × (c.logs ≡ j.logs)

-- what is owned is at or under a path of a job whose child runs
abbrev pub HasRunning : List OpenJob → World → Type 0
HasRunning js w = (q : Path) → w.nodes q ≡ Owned → (j : OpenJob) × IsIn js j × (is_running j.phase ≡ true) × (is_within q (own j) ≡ true)

-- each running child was started
abbrev pub AreStarted : World → Type 0
AreStarted w = Each (λ (c : Child). Contains (started_numbers w.log) c.number) w.children

module _ (o : Outside) where
  -- what the command gives at an output on what stands at the inputs now
  abbrev pub given : Image → OpenJob → Path → Option Tree
  given here j p = value_at o.act j.recipe p (all_of (trees_at here (in_paths j.recipe)))

  abbrev pub HoldsGiven : Image → OpenJob → Image → Path → Type 0
  HoldsGiven here j image p = (tree : Tree) × (given here j p ≡ Some tree) × (tree_now image p ≡ Some tree)

  -- the child's status was 0, and what it left is what the command gives
  abbrev pub IsActed : Image → OpenJob → Type 0
  IsActed here j =
      (trees : List Tree) →
      trees_at here (in_paths j.recipe) ≡ map Some trees →
      ((o.act j.recipe trees).status ≡ 0) × ((o.act j.recipe trees).outputs ≡ trees_at here (outputs j))

  -- no unmarked record names a serial above top
  abbrev pub IsTop : World → ℕ → Type 0
  IsTop w top = IsBounded none_eased top (now o w)

  -- What holds of the images. Each is sound, the marks of open Restores not counted, and has the sources of the entry, no further
  -- unmarked record, and no record of a path of which the world tells nothing; serials are at most the greatest: of each image once
  -- the marks are firm, and before of the world as it reads.
  pub record Images (entry : World) (H : Versions) (e : Eased) (top : ℕ) (steady : Bool) (w : World) : Type 0 where
    pub formed : IsFormed w
    pub sound : EachImage o.read w (λ i. Sound o.act H i e)
    pub sources : EachImage o.read w (SameSources (now o entry))
    pub no_new : EachImage o.read w (NoNewRecord (now o w))
    pub known : EachImage o.read w (HasKnown (now o w))
    pub bounded : steady ≡ true → EachImage o.read w (IsBounded e top)
    pub unsteady : steady ≡ false → IsTop w top

  -- What holds of an open job in every phase.
  pub record Fits (entry : World) (e : Eased) (top : ℕ) (w : World) (j : OpenJob) : Type 0 where
    pub paths : Each (λ p. IsTrue (is_path_text p)) (own j)
    pub apart : are_apart (own j) ≡ true
    pub from_inputs : any_overlap (own j) (in_paths j.recipe) ≡ false
    pub no_source : (q : Path) → is_source (now o entry) q ≡ true → list_any (overlaps q) (own j) ≡ false
    pub each_stamped : length j.stamps ≡ length (in_paths j.recipe)
    -- a Restore has found a record of each of its outputs, and no other
    pub kept_own : (p : Path) (r : Record) → kept_at j.kept p ≡ Some r → IsIn (outputs j) p × IsAgain r (record_of j p)
    pub kept_all : (j.kept ≡ [] → ⊥) → (p : Path) → IsIn (outputs j) p → IsSome (kept_at j.kept p)
    pub no_record_clash : EachImage o.read w (HasNoRecordClash j)
    pub no_clash : EachImage o.read w (HasNoClash e j)
    pub unnamed : j.kept ≡ [] → EachImage o.read w (IsUnnamed e j)
    pub unused : j.kept ≡ [] → EachImage o.read w (IsUnused e j)
    pub numbered : IsNumbered top j
    -- its own new serial is none that it names
    pub names_other : j.kept ≡ [] → (q : Path) → IsIn (begun_with j) (q, Made j.serial) → ⊥
    pub at_hand : Each (IsAtHand o (now o w)) (begun_with j)

  -- What holds of it by its phase.
  pub record InPhase (w : World) (j : OpenJob) : Type 0 where
    pub marks : has_firm_marks j.phase ≡ true → Each (λ p. IsFirmly w (mark_place p)) (outputs j)
    pub notes : is_marking j.phase ≡ false → Each (λ p. IsFirmly w (note_place p)) j.logs
    pub kept : keeps j.phase ≡ true → IsKeptIn (now o w) j
    pub child : (n : ℕ) → j.phase ≡ Running n → (c : Child) × IsIn w.children c × (c.number ≡ n)
    pub ended : j.phase ≡ Ended 0 → IsActed (now o w) j
    pub made : is_made j.phase ≡ true → EachImage o.read w (λ i. Each (HoldsGiven (now o w) j i) (outputs j))
    pub known : j.phase ≡ Recorded → EachImage o.read w (λ i. Each (IsKnown (now o w) j i) (outputs j))
    pub gone : j.phase ≡ Dropped → EachImage o.read w (λ i. Each (IsGone i) (outputs j))

  -- What holds between two events: of the images, of each open job, of any two of them, and of the children.
  pub record Midway (entry : World) (H : Versions) (s : RunState) (w : World) : Type 0 where
    pub images : Images entry H (eased s) s.top s.steady w
    pub fits : Each (Fits entry (eased s) s.top w) s.jobs
    pub phases : Each (InPhase w) s.jobs
    pub apart : AllStrangers s.jobs
    pub children : Each (IsOfJob s.jobs) w.children
    pub running : HasRunning s.jobs w
    pub started : AreStarted w

  -- ## The law

  abbrev pub at_entry : ℕ → RunState
  at_entry top = record { jobs = []; top = top; steady = false; faulted = false }

  -- every image is sound, and has the sources of the entry
  abbrev pub HasSafeImages : World → World → Versions → Type 0
  HasSafeImages entry w H = EachImage o.read w (λ i. Sound o.act H i none_eased × SameSources (now o entry) i)

  -- From a sound entry, whatever of the protocol has come so far, every image is safe; and where no child is left the world is
  -- sound.
  pub record IsSafe (entry : World) (H : Versions) : Type 0 where
    pub throughout :
        (top : ℕ) (es : List Event) (s : RunState) →
        IsTop entry top → Follows o.act entry es → Runs o (at_entry top) entry es s → HasSafeImages entry (run entry es) H
    pub at_exit :
        (top : ℕ) (es : List Event) (s : RunState) →
        IsTop entry top →
        Follows o.act entry es → Runs o (at_entry top) entry es s → (run entry es).children ≡ [] → SoundWorld o (run entry es) H

-- The protocol keeps every crash image sound, where no two different contents of sources have the same SHA-256.
abbrev pub ProtocolLaw : Type 0
ProtocolLaw = (o : Outside) (entry : World) (H : Versions) → SumsDiffer H → SoundWorld o entry H → IsSafe o entry H

-- What holds between two events holds after every prefix of a run.
abbrev pub HoldsMidway : Type 0
HoldsMidway =
    (o : Outside) (entry : World) (H : Versions) (top : ℕ) (es : List Event) (s : RunState) →
    SumsDiffer H → SoundWorld o entry H → IsTop o entry top → Follows o.act entry es → Runs o (at_entry o top) entry es s → Midway o entry H s (run entry es)

-- So a log that follows the protocol keeps what a call has to keep, to its end, and forgets no path.
abbrev pub ProtocolKeepsSound : Type 0
ProtocolKeepsSound =
    (o : Outside) (entry : World) (top : ℕ) (log : List Event) (s : RunState) →
    IsTop o entry top → Follows o.act entry log → Runs o (at_entry o top) entry log s → KeepsSound o entry log [] true
