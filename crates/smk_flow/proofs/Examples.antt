-- Some workflows, and what their commands do.
use Rattle.std.specs.Prelude.{ℕ, Bool, true, false, List, [], ◌∷◌, map, codes, Some, None, ◌==◌, ◌+◌, bytes_eq, if◌then◌else◌}
use Rattle.std.specs.List.{flat_map, enumerate_from}
use Rattle.smk_base.specs.declared.tree.Tree.{Tree}
use Rattle.smk_base.specs.declared.tree.Tree.TheVariants.{File, Folder as Entries}
use Rattle.smk_base.specs.declared.tree.TreeEntry.{TreeEntry}
use Rattle.smk_world.specs.Trees.{Act, outs_of}
use Rattle.smk_pattern.specs.Shapes.{Text}
use Rattle.smk_flow.specs.declared.rule.RulePart.{RulePart}
use Rattle.smk_flow.specs.declared.rule.InPart.{InPart}
use Rattle.smk_flow.specs.declared.rule.OutPart.{OutPart}
use Rattle.smk_flow.specs.declared.rule.Flag.{Flag}
use Rattle.smk_flow.specs.declared.rule.Flag.TheVariants.{Temp, Folder}
use Rattle.smk_flow.specs.Flows.{Flow}

-- ## Rules

abbrev pub input : Text → InPart
input t = record { name = []; texts = t ∷ []; gather = None }

abbrev pub output : List Flag → Text → OutPart
output flags t = record { name = []; outs = record { text = t; flags = flags } ∷ [] }

abbrev pub gathering : Text → Text → Text → InPart
gathering checkpoint listed wanted = record { name = []; texts = []; gather = Some (record { checkpoint = checkpoint; listed = listed; wanted = wanted }) }

abbrev pub rule : Bool → Text → List InPart → OutPart → Text → RulePart
rule checkpoint name inputs out command =
    record {
      name = name;
      checkpoint = checkpoint;
      inputs = inputs;
      outputs = out ∷ [];
      params = [];
      logs = [];
      threads = 1;
      amounts = [];
      words = [];
      priority = 0;
      limits = [];
      default_target = false;
      command = Some command;
      file = codes "Snakefile";
      line = 1;
    }

abbrev pub flow_of : List RulePart → Flow
flow_of rules = record { rules = rules; orders = [] }

abbrev pub cat : Text
cat = codes "cat {input} > {output}"

abbrev pub cp : Text
cp = codes "cp -p {input} {output}"

abbrev pub split : Text
split = codes "lines {input} {output}"

abbrev pub tee : Text
tee = codes "cat {input} | tee {output} > /dev/null"

-- ## Workflows

-- one file is copied
abbrev pub copying : Text → RulePart
copying command = rule false (codes "copy") (input (codes "in.txt") ∷ []) (output [] (codes "out.txt")) command

abbrev pub copy_with : Text → Flow
copy_with command = flow_of (copying command ∷ [])

abbrev pub copy : Flow
copy = copy_with cat

-- two rules for one path, the one with more inputs preferred
abbrev pub paired : RulePart
paired = rule false (codes "paired") (input (codes "r/{s}_1.fq") ∷ input (codes "r/{s}_2.fq") ∷ []) (output [] (codes "m/{s}.bam")) cat

abbrev pub single : RulePart
single = rule false (codes "single") (input (codes "r/{s}_1.fq") ∷ []) (output [] (codes "m/{s}.bam")) cat

abbrev pub unordered : Flow
unordered = flow_of (paired ∷ single ∷ [])

abbrev pub ordered : Flow
ordered = record unordered { orders = record { names = codes "paired" ∷ codes "single" ∷ []; file = codes "Snakefile"; line = 1 } ∷ [] }

-- a checkpoint whose files are gathered
abbrev pub clustering : RulePart
clustering =
    rule true (codes "clustering") (input (codes "samples/{sample}.txt") ∷ []) (record {
      name = codes "clusters";
      outs = record { text = codes "clustering/{sample}"; flags = Folder ∷ [] } ∷ [];
    }) split

abbrev pub intermediate : RulePart
intermediate = rule false (codes "intermediate") (input (codes "clustering/{sample}/{i}.txt") ∷ []) (output [] (codes "post/{sample}/{i}.txt")) cat

abbrev pub aggregate : RulePart
aggregate =
    rule false (codes "aggregate") (gathering (codes "clustering") (codes "{i}.txt") (codes "post/{sample}/{i}.txt") ∷ []) (output [] (codes "aggregated/{sample}.txt")) cat

abbrev pub clusters : Flow
clusters = flow_of (clustering ∷ intermediate ∷ aggregate ∷ [])

-- a temporary file with two users
abbrev pub temporary_with : Text → Flow
temporary_with command =
    flow_of
    (rule false (codes "t") (input (codes "s") ∷ []) (output (Temp ∷ []) (codes "t")) cat
    ∷ rule false (codes "u") (input (codes "t") ∷ []) (output [] (codes "u")) cat
    ∷ rule false (codes "v") (input (codes "t") ∷ []) (output [] (codes "v")) command
    ∷ [])

-- any path is made of the same with `.gz`
abbrev pub gunzip : Flow
gunzip = flow_of (rule false (codes "gunzip") (input (codes "{f}.gz") ∷ []) (output [] (codes "{f}")) cat ∷ [])

-- any path with `+` is made of the same without
abbrev pub steps : Flow
steps = flow_of (rule false (codes "step") (input (codes "{p}") ∷ []) (output [] (codes "{p}+")) cat ∷ [])

-- a directory under the path that another rule has made
abbrev pub nested : Flow
nested = flow_of (rule false (codes "dir") (input (codes "in.txt") ∷ []) (output (Folder ∷ []) (codes "out.txt/d")) split ∷ [])

-- two outputs whose wildcards stand in another order
abbrev pub swapped : Flow
swapped =
    flow_of
    (record (rule false (codes "both") (input (codes "in.txt") ∷ []) (output [] (codes "{a}-{b}.x")) tee) {
      outputs =
          record { name = []; outs = record { text = codes "{a}-{b}.x"; flags = [] } ∷ record { text = codes "{b}-{a}.y"; flags = [] } ∷ [] } ∷ [];
    } ∷ [])

-- ## Commands

abbrev pub bytes_of : Tree → List ℕ
bytes_of (File bytes) = bytes
bytes_of (Entries entries) = []

abbrev pub line_to : ℕ → List Text → List Text
line_to b [] = (b ∷ []) ∷ []
line_to b (line ∷ lines) = (b ∷ line) ∷ lines

-- lines with their line ends
abbrev pub lines_of : List ℕ → List Text
lines_of [] = []
lines_of (b ∷ bytes) = if b == 10 then (10 ∷ []) ∷ lines_of bytes else line_to b (lines_of bytes)

abbrev pub numbered_file : ℕ × Text → TreeEntry
numbered_file e = record { name = (48 + e.0) ∷ codes ".txt"; bytes = Some e.1 }

-- `cat`, `cp` and `tee` join their inputs; `lines` makes a file for each line; any other command fails
abbrev pub commands : Act
commands r inputs =
    let text = flat_map bytes_of inputs in
    if bytes_eq r.template split
    then record { status = 0; outputs = Some (Entries (map numbered_file (enumerate_from 1 (lines_of text)))) ∷ [] }
    else
    (if bytes_eq r.template cat
    then record { status = 0; outputs = Some (File text) ∷ [] }
    else
    (if bytes_eq r.template cp
    then record { status = 0; outputs = Some (File text) ∷ [] }
    else
    (if bytes_eq r.template tee then record { status = 0; outputs = map (λ o. Some (File text)) (outs_of r) }
    else record { status = 127; outputs = map (λ o. None) (outs_of r) })))
