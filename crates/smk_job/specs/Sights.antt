-- What stands at a job's outputs as it is finished, and what that makes of it.
use Rattle.std.specs.Prelude.{◌≡◌, ◌⊎◌, ℕ, Bool, true, false, List, [], ◌∷◌, ◌++◌, map, Option, Some, None, Result, Ok, Err}
use lib.ListN.{get_or}
use Rattle.smk_base.specs.Path.{is_at_or_under}
use Rattle.smk_world.specs.declared.event.Event.{Event}
use Rattle.smk_world.specs.declared.event.Failed.{Failed}
use Rattle.smk_world.specs.declared.event.Node.TheVariants.{Regular, Directory as DirectoryNode}
use Rattle.smk_world.specs.declared.event.NodeState.{NodeState}
use Rattle.smk_world.specs.declared.event.NodeState.TheVariants.{Owned, Known}
use Rattle.smk_world.specs.declared.event.Stat.{Stat}
use Rattle.smk_world.specs.declared.event.Stat.TheVariants.{Nothing, File, Folder as FolderStat}
use Rattle.smk_world.specs.declared.recipe.Kind.{Kind}
use Rattle.smk_world.specs.declared.recipe.Kind.TheVariants.{Plain, Folder}
use Rattle.smk_world.specs.declared.recipe.Out.{Out}
use Rattle.smk_world.specs.World.{World, run, reads_folder, reads_nothing}
use Rattle.smk_world.specs.Requests.{Request, request, AreQuiet, HasDone, IsCutShort}
use Rattle.smk_world.specs.Requests.Request.{Look, ListFolder}
use Rattle.smk_world.specs.Trees.{Path, Each, outs_of, is_folder_kind}
use Rattle.smk_record.specs.declared.record.Member.{Member}
pub use Rattle.smk_store_members.specs.Members.{Nodes, IsFound, member_places, IsThere, AreMembers}
pub use Rattle.smk_store_members.specs.Walks.{EndsFailed}
use Rattle.smk_job.specs.declared.fault.CloseFault.{CloseFault}
use Rattle.smk_job.specs.declared.fault.CloseFault.TheVariants.{NoOutput, WrongKind, BadMember, Device, OutOfMemory}
use Rattle.smk_job.specs.declared.sight.Wrong.{Wrong}
use Rattle.smk_job.specs.declared.sight.Wrong.TheVariants.{Absent, OtherKind, Unlisted}
use Rattle.smk_store.specs.declared.places.JobPlaces.{JobPlaces}
use Rattle.smk_job.specs.Jobs.{Underway, keep_requests, lose_requests, finish_requests, abandon_requests}

-- ## What stands at an output

-- a file
abbrev pub reads_file : NodeState → Bool
reads_file Owned = false
reads_file (Known None besides) = false
reads_file (Known (Some DirectoryNode) besides) = false
reads_file (Known (Some (Regular bytes time read_only)) besides) = true

-- what stands there is of this kind; of a directory these are the members
abbrev pub IsOfKind : Nodes → Path → Kind → List Member → Type 0
IsOfKind nodes p Plain members = (reads_file (nodes p) ≡ true) × (members ≡ [])
IsOfKind nodes p Folder members = (reads_folder (nodes p) ≡ true) × AreMembers nodes p members

-- what is wrong with what stands there
abbrev pub IsWrong : Nodes → Path → Kind → CloseFault → Type 0
IsWrong nodes p kind (NoOutput q) = (q ≡ p) × (reads_nothing (nodes p) ≡ true)
IsWrong nodes p Plain (WrongKind q) = (q ≡ p) × (reads_folder (nodes p) ≡ true)
IsWrong nodes p Folder (WrongKind q) = (q ≡ p) × (reads_file (nodes p) ≡ true)
IsWrong nodes p Plain (BadMember q) = ⊥
IsWrong nodes p Folder (BadMember q) = (q ≡ p) × (reads_folder (nodes p) ≡ true) × ((members : List Member) → AreMembers nodes p members → ⊥)
IsWrong nodes p kind Device = ⊥
IsWrong nodes p kind OutOfMemory = ⊥

-- no child owns what stands at the outputs
abbrev pub AreKnown : Nodes → List Out → Type 0
AreKnown nodes outs = Each (λ (out : Out). (q : Path) → is_at_or_under q out.path ≡ true → nodes q ≡ Owned → ⊥) outs

-- ## Looks

-- a folder at or under a directory output is listed
abbrev pub IsListing : Out → Request → Type 0
IsListing out (ListFolder q) = (is_folder_kind out.kind ≡ true) × (is_at_or_under q out.path ≡ true)
IsListing out r = ⊥

-- the output is looked at, and after that folders are listed
abbrev pub AreLooks : Out → List Event → Type 0
AreLooks out [] = ⊥
AreLooks out (e ∷ es) = (request e.call ≡ Look out.path) × Each (λ (d : Event). IsListing out (request d.call)) es

-- Each output was looked at, in order, and has these members.
abbrev pub AreSeen : Nodes → List Out → List (List Member) → List Event → Type 0
AreSeen nodes [] [] es = es ≡ []
AreSeen nodes [] (m ∷ members) es = ⊥
AreSeen nodes (out ∷ outs) [] es = ⊥
AreSeen nodes (out ∷ outs) (m ∷ members) es =
    (first : List Event) × (more : List Event) × (es ≡ first ++ more) × AreLooks out first × AreQuiet first × IsOfKind nodes out.path out.kind m × AreSeen nodes outs members more

-- The outputs were looked at in order up to the first with which something is wrong.
abbrev pub IsSeenWrong : Nodes → List Out → CloseFault → List Event → Type 0
IsSeenWrong nodes [] fault es = ⊥
IsSeenWrong nodes (out ∷ outs) fault es =
    (first : List Event) × (more : List Event) × (es ≡ first ++ more) × AreLooks out first × AreQuiet first
    × (((more ≡ []) × IsWrong nodes out.path out.kind fault) ⊎ ((m : List Member) × IsOfKind nodes out.path out.kind m × IsSeenWrong nodes outs fault more))

-- The outputs were looked at in order up to a look that failed.
abbrev pub IsBlind : List Out → List Event → Type 0
IsBlind [] es = ⊥
IsBlind (out ∷ outs) es =
    (first : List Event) × (more : List Event) × (es ≡ first ++ more) × AreLooks out first
    × (((more ≡ []) × EndsFailed first) ⊎ (AreQuiet first × IsBlind outs more))

-- The first outputs, in order, were looked at.
abbrev pub AreLookedAt : List Out → List Event → Type 0
AreLookedAt [] es = es ≡ []
AreLookedAt (out ∷ outs) es =
    (es ≡ []) ⊎ ((first : List Event) × (more : List Event) × (es ≡ first ++ more) × AreLooks out first × AreQuiet first × AreLookedAt outs more)

-- ## What `finish` does

-- the device failed
abbrev pub close_failed : Result (Unit {0}) CloseFault → Bool
close_failed (Ok u) = false
close_failed (Err (NoOutput p)) = false
close_failed (Err (WrongKind p)) = false
close_failed (Err (BadMember p)) = false
close_failed (Err Device) = true
close_failed (Err OutOfMemory) = false

-- the outputs were looked at, and then this was done
pub record HasSeen (P Q : List Event → Type 0) (es : List Event) : Type 0 where
  pub looks : List Event
  pub rest : List Event
  pub events : es ≡ looks ++ rest
  pub seen : P looks
  pub done : Q rest

-- all was well and all calls were made
abbrev pub IsDone : Underway → World → List Event → Type 0
IsDone j w es = (members : List (List Member)) × HasSeen (AreSeen w.nodes (outs_of j.recipe) members) (HasDone (finish_requests j members)) es

-- something was wrong, and the job was abandoned
abbrev pub IsAbandoned : Underway → CloseFault → World → List Event → Type 0
IsAbandoned j fault w es = HasSeen (IsSeenWrong w.nodes (outs_of j.recipe) fault) (HasDone (abandon_requests j)) es

-- a look failed, or a call after the looks
abbrev pub IsUnclosed : Underway → World → List Event → Type 0
IsUnclosed j w es =
    IsBlind (outs_of j.recipe) es
    ⊎ (((members : List (List Member)) × HasSeen (AreSeen w.nodes (outs_of j.recipe) members) (IsCutShort (finish_requests j members)) es)
    ⊎ ((fault : CloseFault) × HasSeen (IsSeenWrong w.nodes (outs_of j.recipe) fault) (IsCutShort (abandon_requests j)) es))

abbrev pub HasFinished : Underway → Result (Unit {0}) CloseFault → World → List Event → Type 0
HasFinished j (Ok u) w es = IsDone j w es
HasFinished j (Err (NoOutput p)) w es = IsAbandoned j (NoOutput p) w es
HasFinished j (Err (WrongKind p)) w es = IsAbandoned j (WrongKind p) w es
HasFinished j (Err (BadMember p)) w es = IsAbandoned j (BadMember p) w es
HasFinished j (Err Device) w es = IsUnclosed j w es
HasFinished j (Err OutOfMemory) w es = AreLookedAt (outs_of j.recipe) es

-- ## Jobs whose outputs are files

abbrev pub is_folder_out : Out → Bool
is_folder_out out = is_folder_kind out.kind

-- no members for any of these
abbrev pub nones : List Out → List (List Member)
nones outs = map (λ (out : Out). []) outs

-- what is wrong with an output of this kind that is seen so
abbrev pub wrong_of : Kind → Stat → Option Wrong
wrong_of kind Nothing = Some Absent
wrong_of Plain (File time read_only) = None
wrong_of Folder (File time read_only) = Some OtherKind
wrong_of Plain FolderStat = Some OtherKind
wrong_of Folder FolderStat = None

-- the fault of an output
abbrev pub wrong_fault : Wrong → Path → CloseFault
wrong_fault Absent p = NoOutput p
wrong_fault OtherKind p = WrongKind p
wrong_fault Unlisted p = BadMember p

abbrev pub path_at : List Out → ℕ → Path
path_at outs i = get_or (map (λ (out : Out). out.path) outs) i []

-- the looks changed nothing, and the first outputs are files
abbrev pub AreFilesSoFar : List Out → List Out → World → List Event → Type 0
AreFilesSoFar outs seen w es = ((run w es).nodes ≡ w.nodes) × (AreKnown w.nodes outs → AreSeen w.nodes seen (nones seen) es)

-- what looks at files found: all is well, or something is wrong with the output of this number, from 0; or a look failed
abbrev pub HasLookedOver : List Out → Result (Option (ℕ × Wrong)) Failed → Nodes → List Event → Type 0
HasLookedOver outs (Ok None) nodes es = AreSeen nodes outs (nones outs) es
HasLookedOver outs (Ok (Some (i, wrong))) nodes es = IsSeenWrong nodes outs (wrong_fault wrong (path_at outs i)) es
HasLookedOver outs (Err e) nodes es = IsBlind outs es

-- the same of outputs that no child owns
abbrev pub HasSeenFiles : List Out → Result (Option (ℕ × Wrong)) Failed → World → List Event → Type 0
HasSeenFiles outs result w es = AreKnown w.nodes outs → HasLookedOver outs result w.nodes es

-- what was done with a job whose outputs are files: all calls, or those up to one that failed
abbrev pub HasSettled : List Out → JobPlaces → List (List ℕ) → Result (Option (ℕ × Wrong)) Failed → Nodes → List Event → Type 0
HasSettled outs places records (Ok None) nodes es = HasSeen (AreSeen nodes outs (nones outs)) (HasDone (keep_requests places records)) es
HasSettled outs places records (Ok (Some (i, wrong))) nodes es =
    HasSeen (IsSeenWrong nodes outs (wrong_fault wrong (path_at outs i))) (HasDone (lose_requests places)) es
HasSettled outs places records (Err e) nodes es =
    IsBlind outs es
    ⊎ (HasSeen (AreSeen nodes outs (nones outs)) (IsCutShort (keep_requests places records)) es
    ⊎ ((fault : CloseFault) × HasSeen (IsSeenWrong nodes outs fault) (IsCutShort (lose_requests places)) es))

-- the same of outputs that no child owns
abbrev pub HasSettledFiles : List Out → JobPlaces → List (List ℕ) → Result (Option (ℕ × Wrong)) Failed → World → List Event → Type 0
HasSettledFiles outs places records result w es = AreKnown w.nodes outs → HasSettled outs places records result w.nodes es
