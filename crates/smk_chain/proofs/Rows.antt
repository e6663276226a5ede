-- Derivations, refusals and clean values, computed.
use Rattle.std.specs.Prelude.{◌≡◌, ℕ, zero, suc, true, false, List, [], ◌∷◌, ◌++◌, map, codes, Some, None, refl, length}
use Rattle.smk_base.specs.declared.tree.Tree.TheVariants.{File}
use Rattle.smk_world.specs.World.{out_paths}
use Rattle.smk_world.specs.Trees.{Path, first}
use Rattle.smk_pattern.specs.Reading.{or_empty}
use Rattle.smk_flow.specs.declared.job.Job.{Job}
use Rattle.smk_flow.specs.Flows.{Flow}
use Rattle.smk_record.specs.declared.record.Stamp.TheVariants.{Time}
use Rattle.smk_store.specs.Images.{Image, sources}
use Rattle.smk_chain.specs.Derive.{Listings, Refusal, NoRule, NoInput, TwoJobs, MissingMember, NoCommand, Clash, refusals, refused, sources_of, is_deep}
use Rattle.smk_chain.specs.Mean.{setting_of, mean}
use Rattle.smk_flow.proofs.Examples.{copy, copy_with, copying, cat, unordered, clusters, gunzip, steps, nested, swapped, commands, rule, input, output, gathering, flow_of}
use Rattle.smk_chain.proofs.Folders.{file, fresh, image_with, recorded, jobs_in}

abbrev names : List Job → List Path
names js = map (λ (j : Job). or_empty (first (out_paths j.recipe))) js

abbrev refused_in : Flow → Image → Listings → List Path → List Refusal
refused_in flow image L targets = refusals flow (sources_of image) image L targets

-- ## Sources

abbrev one_file : Image
one_file = fresh (file (codes "in.txt") 1000 (codes "hello\n") ∷ [])

pub sources_are : sources one_file ≡ codes "in.txt" ∷ []
sources_are = refl

-- ## Chains

abbrev zipped : Image
zipped = fresh (file (codes "x.gz") 1 (codes "q") ∷ [])

pub one_unpacked : names (jobs_in gunzip zipped [] (codes "x" ∷ [])) ≡ codes "x" ∷ []
one_unpacked = refl

pub nothing_to_unpack : names (jobs_in gunzip zipped [] (codes "x.gz" ∷ [])) ≡ []
nothing_to_unpack = refl

pub lacks_input : refused gunzip (sources_of zipped) [] 201 (codes "y") ≡ NoInput (codes "y") 0 (codes "y.gz") ∷ []
lacks_input = refl

abbrev plus : ℕ → Path
plus zero = []
plus (suc n) = 43 ∷ plus n

abbrev start : Image
start = fresh (file (codes "f") 1 (codes "q") ∷ [])

pub two_hundred : length (jobs_in steps start [] ((102 ∷ plus 200) ∷ [])) ≡ 200
two_hundred = refl

pub one_more : refused steps (sources_of start) [] 201 (102 ∷ plus 201) ≡ NoInput (102 ∷ plus 201) 0 (102 ∷ plus 200) ∷ []
one_more = refl

-- each step is preferred to the rule that needs nothing, so the chain is too long although every path is available
abbrev preferred : Flow
preferred =
    record {
      rules = steps.rules ++ rule false (codes "jump") [] (output [] (codes "{p}+")) cat ∷ [];
      orders = record { names = codes "step" ∷ codes "jump" ∷ []; file = codes "Snakefile"; line = 1 } ∷ [];
    }

pub deep : is_deep preferred (sources_of start) start [] [] (102 ∷ plus 201) ≡ true
deep = refl

pub not_deep : is_deep preferred (sources_of start) start [] [] (102 ∷ plus 200) ≡ false
not_deep = refl

-- ## Refusals

pub ambiguous : refused_in unordered (fresh (file (codes "r/a_1.fq") 1 [] ∷ file (codes "r/a_2.fq") 1 [] ∷ [])) [] (codes "m/a.bam" ∷ []) ≡ TwoJobs (codes "m/a.bam") 0 1 ∷ []
ambiguous = refl

pub no_rule : refused_in copy one_file [] (codes "x" ∷ []) ≡ NoRule (codes "x") ∷ []
no_rule = refl

abbrev no_command : Flow
no_command = flow_of (record (copying cat) { command = None } ∷ [])

pub without_command : refused_in no_command one_file [] (codes "out.txt" ∷ []) ≡ NoCommand 0 ∷ []
without_command = refl

abbrev sample : Image
sample = fresh (file (codes "samples/a.txt") 1 (codes "x\ny\n") ∷ [])

abbrev two_known : Listings
two_known = record { folder = codes "clustering/a"; files = codes "1.txt" ∷ codes "2.txt" ∷ [] } ∷ []

pub missing_member : refused_in clusters sample two_known (codes "clustering/a/9.txt" ∷ []) ≡ MissingMember (codes "clustering/a/9.txt") ∷ []
missing_member = refl

-- a gathered text that isn't a path is no input
abbrev outside_folder : Flow
outside_folder = flow_of (clusters.rules ++ rule false (codes "g") (gathering (codes "clustering") (codes "{i}.txt") (codes "../{i}.txt") ∷ []) (output [] (codes "g/{sample}")) cat ∷ [])

pub not_a_path : refused outside_folder (sources_of sample) two_known 201 (codes "g/a") ≡ NoInput (codes "g/a") 3 (codes "../1.txt") ∷ NoInput (codes "g/a") 3 (codes "../2.txt") ∷ []
not_a_path = refl

-- an output under the path of an old record
abbrev after_copy : Image
after_copy =
    image_with (file (codes "in.txt") 1000 (codes "hello\n") ∷ file (codes "out.txt") 1001 (codes "hello\n") ∷ [])
    (recorded (jobs_in copy one_file [] (codes "out.txt" ∷ [])) ((1, Time 1000 ∷ [], []) ∷ [])) []

pub clash : refused_in nested after_copy [] (codes "out.txt/d" ∷ []) ≡ Clash (codes "out.txt/d") (codes "out.txt") ∷ []
clash = refl

-- a product is no source, and no rule has it any more
abbrev other : Flow
other = flow_of (rule false (codes "other") (input (codes "out.txt") ∷ []) (output [] (codes "other.txt")) cat ∷ [])

pub old_product : refused_in other after_copy [] (codes "out.txt" ∷ []) ≡ NoRule (codes "out.txt") ∷ []
old_product = refl

pub of_old_product : refused_in other after_copy [] (codes "other.txt" ∷ []) ≡ NoInput (codes "other.txt") 0 (codes "out.txt") ∷ []
of_old_product = refl

-- ## One job by either of its outputs

pub one_job : names (jobs_in swapped one_file [] (codes "1-2.x" ∷ codes "2-1.y" ∷ [])) ≡ codes "1-2.x" ∷ []
one_job = refl

pub no_clash : refused_in swapped one_file [] (codes "1-2.x" ∷ codes "2-1.y" ∷ []) ≡ []
no_clash = refl

-- ## Clean values

pub copied : mean (setting_of copy commands (λ j. true) one_file) 200 (codes "out.txt") ≡ Some (File (codes "hello\n"))
copied = refl

pub source_itself : mean (setting_of copy commands (λ j. true) one_file) 0 (codes "in.txt") ≡ Some (File (codes "hello\n"))
source_itself = refl

pub no_field : mean (setting_of copy commands (λ j. false) one_file) 200 (codes "out.txt") ≡ None
no_field = refl

pub failing : mean (setting_of (copy_with (codes "fail {input}")) commands (λ j. true) one_file) 200 (codes "out.txt") ≡ None
failing = refl

-- through a checkpoint whose files are gathered
pub gathered : mean (setting_of clusters commands (λ j. true) sample) 200 (codes "aggregated/a.txt") ≡ Some (File (codes "x\ny\n"))
gathered = refl

abbrev empty_sample : Image
empty_sample = fresh (file (codes "samples/e.txt") 1 [] ∷ [])

pub gathered_none : mean (setting_of clusters commands (λ j. true) empty_sample) 200 (codes "aggregated/e.txt") ≡ Some (File [])
gathered_none = refl
