-- How a path is forgotten: what is looked at first, and which calls come then.
use Rattle.std.specs.Prelude.{◌≡◌, ◌≢◌, ◌⊎◌, Bool, true, false, List, [], ◌∷◌, ◌++◌, Option, Some, None, Result, Ok, Err}
use Rattle.std.specs.List.{flat_map}
use Rattle.std.specs.Cmp.Lexicographic.{slice_cmp}
use Rattle.std.specs.Ordering.{nat_cmp}
use Rattle.std.specs.declared.cmp.Ordering.TheVariants.{Less}
use Rattle.smk_base.specs.Path.{is_at_or_under}
use Rattle.smk_base.specs.Place.{record_place, mark_place, note_place, records_folder, marks_folder, notes_folder}
use Rattle.smk_world.specs.declared.event.Event.{Event}
use Rattle.smk_world.specs.World.{World, reading}
use Rattle.smk_world.specs.Devices.{AreLooks}
use Rattle.smk_world.specs.Requests.{Request, HasDone, IsCutShort}
use Rattle.smk_world.specs.Requests.Request.{Remove, Settle}
use Rattle.smk_world.specs.Trees.{Path, IsIn}
use Rattle.smk_record.specs.declared.record.Stamp.{Stamp}
use Rattle.smk_record.specs.declared.record.Record.{Record}
use Rattle.smk_record.specs.Records.{stamped, source_time}
use Rattle.smk_store.specs.declared.fault.StoreFault.{StoreFault}
use Rattle.smk_store.specs.declared.fault.StoreFault.TheVariants.{StampSeen, Device, OutOfMemory}
use Rattle.smk_store.specs.Images.{Content, content_of, readable}
use Rattle.smk_store.specs.Stores.{Known}

-- ## Times that were seen before

-- the inputs of a record, where there is one, each with its stamp
abbrev pub inputs_of : Option Record → List (Path × Stamp)
inputs_of None = []
inputs_of (Some r) = stamped r

-- the inputs of all records that read, marked or not
abbrev pub all_inputs : List Known → List (Path × Stamp)
all_inputs ks = flat_map (λ (k : Known). inputs_of (readable k.entry.kept)) ks

-- at or under the path p a file stands at q whose time a record holds as the stamp of that source
pub record IsSeen (ks : List Known) (w : World) (p q : Path) : Type 0 where
  pub under : is_at_or_under q p ≡ true
  pub file : Content
  pub stands : content_of (reading (w.nodes q)) ≡ Some file
  pub stamp : Stamp
  pub held : IsIn (all_inputs ks) (q, stamp)
  pub same : source_time stamp ≡ Some file.time

-- the first of these files, in byte order
pub record IsFirstSeen (ks : List Known) (w : World) (p q : Path) : Type 0 where
  pub seen : IsSeen ks w p q
  pub first : (x : Path) → IsSeen ks w p x → slice_cmp nat_cmp x q ≢ Less

-- there is none
abbrev pub AreUnseen : List Known → World → Path → Type 0
AreUnseen ks w p = (q : Path) → ¬ (IsSeen ks w p q)

-- ## The calls

-- The path and the engine's three folders are made firm; the record and the note are removed, and that is made firm; then the mark is
-- removed, and that is made firm.
abbrev pub forget_requests : Path → List Request
forget_requests p =
    Settle (p ∷ records_folder ∷ marks_folder ∷ notes_folder ∷ [])
    ∷ Remove (record_place p)
    ∷ Remove (note_place p)
    ∷ Settle (record_place p ∷ note_place p ∷ [])
    ∷ Remove (mark_place p)
    ∷ Settle (mark_place p ∷ [])
    ∷ []

-- none of them comes where nothing is known of the path
abbrev pub forget_if : Bool → Path → List Request
forget_if true p = forget_requests p
forget_if false p = []

-- first looks, none of which failed, and then events that are in P
abbrev pub LooksThen : (List Event → Type 0) → List Event → Type 0
LooksThen P es = (looks : List Event) × (calls : List Event) × (es ≡ looks ++ calls) × AreLooks false looks × P calls

-- What was done, by the answer: after looks the path was forgotten, where no time was seen before and something was known of it; or
-- nothing came after the looks; or a call failed, which was a look or one of the others.
abbrev pub HasForgotten : List Known → Path → Result Bool StoreFault → World → List Event → Type 0
HasForgotten ks p (Ok was_known) w es = AreUnseen ks w p × LooksThen (λ calls. HasDone (forget_if was_known p) calls) es
HasForgotten ks p (Err (StampSeen q)) w es = IsFirstSeen ks w p q × AreLooks false es
HasForgotten ks p (Err Device) w es = AreLooks true es ⊎ (AreUnseen ks w p × LooksThen (λ calls. IsCutShort (forget_requests p) calls) es)
HasForgotten ks p (Err OutOfMemory) w es = AreLooks false es
