-- What a look at an output with all that is under it came to.
use Rattle.std.specs.Prelude.{◌≡◌, ℕ, ◌<◌, true, false, length, List, [], ◌∷◌, Result, Ok, Err, if◌then◌else◌}
use Rattle.smk_base.specs.Path.{is_at_or_under}
use Rattle.smk_world.specs.declared.event.Event.{Event}
use Rattle.smk_world.specs.declared.event.NodeState.TheVariants.{Owned}
use Rattle.smk_world.specs.declared.event.WorkFault.{WorkFault}
use Rattle.smk_world.specs.declared.event.WorkFault.TheVariants.{Failed, OutOfMemory}
use Rattle.smk_world.specs.declared.recipe.Kind.TheVariants.{Folder}
use Rattle.smk_world.specs.declared.recipe.Out.{Out}
use Rattle.smk_world.specs.declared.recipe.Recipe.{Recipe}
use Rattle.smk_world.specs.World.{World, reads_folder}
use Rattle.smk_world.specs.Calls.{device_failed}
use Rattle.smk_world.specs.Devices.{AreLooks as OnlyLooks}
use Rattle.smk_world.specs.Requests.{request, AreQuiet}
use Rattle.smk_world.specs.Trees.{Path, Each}
use Rattle.smk_record.specs.declared.record.Stamp.{Stamp}
use Rattle.smk_record.specs.declared.record.Member.{Member}
use Rattle.smk_record.specs.Records.{record_of, is_valid}
use Rattle.smk_record.specs.Spelling.{spelling}
use Rattle.smk_job.specs.declared.fault.CloseFault.{CloseFault}
use Rattle.smk_job.specs.declared.fault.CloseFault.TheVariants.{Device, OutOfMemory as NoMemory}
use Rattle.smk_job.specs.declared.folders.Sight.{Sight}
use Rattle.smk_job.specs.declared.folders.Sight.TheVariants.{Good, Bad}
use Rattle.smk_job.specs.declared.folders.View.{View}
use Rattle.smk_job.specs.declared.folders.View.TheVariants.{Records, Wrongly}
use Rattle.smk_job.specs.declared.sight.Wrong.TheVariants.{Unlisted}
use Rattle.smk_job.specs.Sights.{Nodes, IsOfKind, IsWrong, IsListing, AreKnown, AreLooks, EndsFailed, AreSeen, IsSeenWrong, IsBlind, AreLookedAt, wrong_fault, path_at}

-- what the records of a job have in common
pub record Core : Type 0 where
  pub recipe : Recipe
  pub stamps : List Stamp
  pub made : ℕ

abbrev pub core : Recipe → List Stamp → ℕ → Core
core recipe stamps made = record { recipe = recipe; stamps = stamps; made = made }

-- the bytes of the record of the output with these members
abbrev pub bytes_of : Core → Path → List Member → List ℕ
bytes_of k p members = spelling (record_of p k.made k.recipe k.stamps members)

-- good, with the record's bytes, where the record is valid
abbrev pub sight_of : Core → Path → List Member → Sight
sight_of k p members = if is_valid (record_of p k.made k.recipe k.stamps members) then Good (bytes_of k p members) else Bad Unlisted

-- no child owns what is at or under the path
abbrev pub IsFree : Nodes → Path → Type 0
IsFree nodes p = (q : Path) → is_at_or_under q p ≡ true → nodes q ≡ Owned → ⊥

-- the directory at the path, as an output
abbrev pub folder_out : Path → Out
folder_out p = record { path = p; kind = Folder }

abbrev pub AreListed : Out → List Event → Type 0
AreListed out es = Each (λ (e : Event). IsListing out (request e.call)) es

abbrev pub IsGood : Core → Nodes → Out → List ℕ → Type 0
IsGood k nodes out bytes = (members : List Member) × IsOfKind nodes out.path out.kind members × (bytes ≡ bytes_of k out.path members)

-- what the output is, by what it is made of
abbrev pub IsSo : Core → Nodes → Out → Sight → Type 0
IsSo k nodes out (Good bytes) = IsGood k nodes out bytes
IsSo k nodes out (Bad wrong) = IsWrong nodes out.path out.kind (wrong_fault wrong out.path)

-- folders were listed, of an output of whose kind something stands there
abbrev pub HasListed : Core → Nodes → Out → Result Sight WorkFault → List Event → Type 0
HasListed k nodes out (Ok sight) es = AreListed out es × AreQuiet es × IsSo k nodes out sight
HasListed k nodes out (Err Failed) es = AreListed out es × EndsFailed es
HasListed k nodes out (Err OutOfMemory) es = AreListed out es × AreQuiet es

-- Looks were made. Where a folder stands at the path, and no child owns what is at or under it, they were these.
pub record HasLookedInto (k : Core) (p : Path) (result : Result Sight WorkFault) (w : World) (es : List Event) : Type 0 where
  pub looks : OnlyLooks (device_failed result) es
  pub listed : IsFree w.nodes p → reads_folder (w.nodes p) ≡ true → HasListed k w.nodes (folder_out p) result es

-- the output was looked at
abbrev pub HasView : Core → Nodes → Out → Result Sight WorkFault → List Event → Type 0
HasView k nodes out (Ok sight) es = AreLooks out es × AreQuiet es × IsSo k nodes out sight
HasView k nodes out (Err Failed) es = AreLooks out es × EndsFailed es
HasView k nodes out (Err OutOfMemory) es = AreLooks out es × AreQuiet es

-- Looks were made. Where no child owns what is at or under the output, they were these.
pub record HasLookedAt (k : Core) (out : Out) (result : Result Sight WorkFault) (w : World) (es : List Event) : Type 0 where
  pub looks : OnlyLooks (device_failed result) es
  pub view : IsFree w.nodes out.path → HasView k w.nodes out result es

-- the bytes of the records of the outputs, each with its members
abbrev pub bytes_all : Core → List Out → List (List Member) → List (List ℕ)
bytes_all k [] members = []
bytes_all k (o ∷ outs) [] = []
bytes_all k (o ∷ outs) (m ∷ members) = bytes_of k o.path m ∷ bytes_all k outs members

-- these outputs were seen, and the records have these bytes
abbrev pub AreGood : Core → Nodes → List Out → List (List ℕ) → List Event → Type 0
AreGood k nodes outs records es = (members : List (List Member)) × AreSeen nodes outs members es × (records ≡ bytes_all k outs members)

-- all outputs were looked at, or those up to the first with which something is wrong, or up to want of memory or a failure
abbrev pub HasViewed : Core → Nodes → List Out → Result View WorkFault → List Event → Type 0
HasViewed k nodes outs (Ok (Records records)) es = AreGood k nodes outs records es
HasViewed k nodes outs (Ok (Wrongly i wrong)) es = IsSeenWrong nodes outs (wrong_fault wrong (path_at outs i)) es
HasViewed k nodes outs (Err Failed) es = IsBlind outs es
HasViewed k nodes outs (Err OutOfMemory) es = AreLookedAt outs es

-- Looks were made. Where no child owns what is at or under the outputs, those up to here were seen, and the records have these bytes.
pub record AreGoodSoFar (k : Core) (outs seen : List Out) (records : List (List ℕ)) (w : World) (es : List Event) : Type 0 where
  pub looks : OnlyLooks false es
  pub good : AreKnown w.nodes outs → AreGood k w.nodes seen records es

-- Looks were made. Where no child owns what is at or under the outputs, they were these.
pub record HasLookedThrough (k : Core) (outs : List Out) (result : Result View WorkFault) (w : World) (es : List Event) : Type 0 where
  pub looks : OnlyLooks (device_failed result) es
  pub viewed : AreKnown w.nodes outs → HasViewed k w.nodes outs result es

-- there is a record for each of so many outputs, or the number is that of one of them
abbrev pub IsSized : ℕ → View → Type 0
IsSized n (Records records) = length records ≡ n
IsSized n (Wrongly i wrong) = i < n

-- the fault of a call, as that of closing
abbrev pub close_fault : WorkFault → CloseFault
close_fault Failed = Device
close_fault OutOfMemory = NoMemory
