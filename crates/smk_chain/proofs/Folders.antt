-- Images of small folders.
use Rattle.std.specs.Prelude.{ℕ, false, List, [], ◌∷◌, ◌++◌, bytes_eq, if◌then◌else◌}
use Rattle.smk_world.specs.declared.event.Node.{Node}
use Rattle.smk_world.specs.declared.event.Node.TheVariants.{Regular, Directory}
use Rattle.smk_world.specs.World.{Nodes, node_in, places_in, add_names}
use Rattle.smk_world.specs.Trees.{Path, among}
use Rattle.smk_flow.specs.declared.job.Job.{Job}
use Rattle.smk_flow.specs.Flows.{Flow}
use Rattle.smk_record.specs.declared.record.Stamp.{Stamp}
use Rattle.smk_record.specs.declared.record.Member.{Member}
use Rattle.smk_record.specs.declared.record.Record.{Record}
use Rattle.smk_store.specs.declared.store.Kept.{Kept}
use Rattle.smk_store.specs.declared.store.Kept.TheVariants.{Absent, Held}
use Rattle.smk_store.specs.Images.{Image}
use Rattle.smk_chain.specs.Derive.{Listings, jobs, sources_of}
use Rattle.smk_world.specs.World.{out_paths}

abbrev pub file : Path → ℕ → List ℕ → Path × Node
file p time bytes = (p, Regular bytes time false)

abbrev pub folder : Path → Path × Node
folder p = (p, Directory)

abbrev pub kept_in : List Record → Path → Kept
kept_in [] p = Absent
kept_in (r ∷ rs) p = if bytes_eq r.path p then Held r else kept_in rs p

abbrev pub record_paths : List Record → List Path
record_paths [] = []
record_paths (r ∷ rs) = r.path ∷ record_paths rs

-- these nodes, records and marks
abbrev pub image_with : Nodes → List Record → List Path → Image
image_with nodes records marks =
    record {
      names = places_in nodes;
      node = node_in nodes;
      kept = kept_in records;
      marked = among marks;
      noted = λ p. false;
      known = add_names (record_paths records) (add_names marks []);
      locked = false;
    }

abbrev pub fresh : Nodes → Image
fresh nodes = image_with nodes [] []

-- the record of a job's output
abbrev pub record_of : Job → Path → ℕ → List Stamp → List Member → Record
record_of j p made stamps members = record { format = 2; path = p; made = made; recipe = j.recipe; stamps = stamps; members = members }

abbrev pub all_records : Job → List Path → ℕ → List Stamp → List Member → List Record
all_records j [] made stamps members = []
all_records j (p ∷ ps) made stamps members = record_of j p made stamps members ∷ all_records j ps made stamps members

-- for each job its serial, the stamps of its inputs and the members of its output
abbrev pub recorded : List Job → List (ℕ × List Stamp × List Member) → List Record
recorded [] xs = []
recorded (j ∷ js) [] = []
recorded (j ∷ js) (x ∷ xs) = all_records j (out_paths j.recipe) x.0 x.1 x.2 ++ recorded js xs

abbrev pub jobs_in : Flow → Image → Listings → List Path → List Job
jobs_in flow image L targets = jobs flow (sources_of image) L targets
