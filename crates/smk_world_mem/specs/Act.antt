-- What the commands of the workspace do.
use Rattle.std.specs.Prelude.{◌≡◌, ℕ, Bool, List, [], ◌∷◌, ◌++◌, ◌/◌, ◌-◌, take, map, length, Option, None, Some, ◌+◌, ◌==◌, if◌then◌else◌, bytes_eq, nat_eq, codes, decimal, unwrap_or, false}
use Rattle.std.specs.Cmp.Lexicographic.{slice_cmp}
use Rattle.std.specs.Ordering.{nat_cmp}
use Rattle.std.specs.declared.cmp.Ordering.{Ordering}
use Rattle.std.specs.declared.cmp.Ordering.TheVariants.{Less, Equal, Greater}
use Rattle.smk_base.specs.declared.tree.Tree.{Tree}
use Rattle.smk_base.specs.declared.tree.Tree.TheVariants.{File, Folder}
use Rattle.smk_base.specs.declared.tree.TreeEntry.{TreeEntry}
use Rattle.smk_world.specs.declared.recipe.Recipe.{Recipe}
use Rattle.smk_world.specs.declared.recipe.Values.{Values}
use Rattle.std.specs.List.{flat_map, ends_with}
use Rattle.smk_world.specs.declared.event.Node.{Node}
use Rattle.smk_world.specs.declared.event.Node.TheVariants.{Regular, Directory}
use Rattle.smk_world.specs.declared.event.Change.{Change}
use Rattle.smk_world.specs.declared.event.Child.{Child}
use Rattle.smk_world.specs.declared.event.Ended.{Ended}
use Rattle.smk_world.specs.World.{out_paths, in_paths, is_named}
use Rattle.smk_world.specs.Calls.{Acted, in_folder}
use Rattle.smk_world_nodes.specs.Nodes.{node_at}
use Rattle.smk_world_nodes.specs.declared.nodes.Nodes.{Nodes}
use Rattle.smk_world_mem.specs.declared.command.Command.{Command}
use Rattle.smk_world_mem.specs.declared.command.Command.TheVariants.{Cat, Keep, Tee, Echo, Lines, Half, Fail, Killed, Unknown}

-- ## Templates

-- the errors of the command go into its logs
abbrev pub has_log : List ℕ → Bool
has_log template = ends_with nat_eq template (codes " 2> {log}")

-- the template without that end
abbrev pub without_log : List ℕ → List ℕ
without_log template = if has_log template then take (length template - 9) template else template

abbrev pub command_named : List ℕ → Command
command_named text =
    if bytes_eq text (codes "cat {input} > {output}") then Cat
    else (if bytes_eq text (codes "cp -p {input} {output}") then Keep
    else (if bytes_eq text (codes "cat {input} | tee {output} > /dev/null") then Tee
    else (if bytes_eq text (codes "echo {params.text} > {output}") then Echo
    else (if bytes_eq text (codes "lines {input} {output}") then Lines
    else (if bytes_eq text (codes "half {input} > {output}") then Half
    else (if bytes_eq text (codes "fail {input}") then Fail else Unknown))))))

-- what the template runs; a child that is killed counts as a command of its own
abbrev pub command_of : Bool → List ℕ → Command
command_of killed template = if killed then Killed else command_named (without_log template)

-- ## Commands

abbrev pub status_of : Command → ℕ
status_of Cat = 0
status_of Keep = 0
status_of Tee = 0
status_of Echo = 0
status_of Lines = 0
status_of Half = 1
status_of Fail = 1
status_of Killed = 137
status_of Unknown = 127

abbrev pub first_of : List (List ℕ) → List (List ℕ)
first_of [] = []
first_of (p ∷ ps) = p ∷ []

-- the outputs that the command writes, as files
abbrev pub written_of : Command → List (List ℕ) → List (List ℕ)
written_of Cat outs = first_of outs
written_of Keep outs = first_of outs
written_of Tee outs = outs
written_of Echo outs = first_of outs
written_of Lines outs = []
written_of Half outs = first_of outs
written_of Fail outs = []
written_of Killed outs = first_of outs
written_of Unknown outs = []

-- the outputs that it makes folders of
abbrev pub filled_of : Command → List (List ℕ) → List (List ℕ)
filled_of Cat outs = []
filled_of Keep outs = []
filled_of Tee outs = []
filled_of Echo outs = []
filled_of Lines outs = first_of outs
filled_of Half outs = []
filled_of Fail outs = []
filled_of Killed outs = []
filled_of Unknown outs = []

-- the values of the first parameter with this name
abbrev pub values_of : List ℕ → List Values → List (List ℕ)
values_of name [] = []
values_of name (v ∷ vs) = if bytes_eq v.name name then v.values else values_of name vs

-- each word after a space
abbrev pub spaced : List (List ℕ) → List ℕ
spaced words = flat_map (λ w. 32 ∷ w) words

-- the words joined by one space
abbrev pub joined_words : List (List ℕ) → List ℕ
joined_words [] = []
joined_words (w ∷ ws) = w ++ spaced ws

-- the line that the values of `text` make
abbrev pub line_of : List Values → List ℕ
line_of params = joined_words (values_of (codes "text") params) ++ 10 ∷ []

-- what each written output holds, from what the inputs hold
abbrev pub text_of : Command → List Values → List ℕ → List ℕ
text_of Cat params bytes = bytes
text_of Keep params bytes = bytes
text_of Tee params bytes = bytes
text_of Echo params bytes = line_of params
text_of Lines params bytes = []
text_of Half params bytes = take (length bytes / 2) bytes
text_of Fail params bytes = []
text_of Killed params bytes = take (length bytes / 2) bytes
text_of Unknown params bytes = []

-- the line, unless it is empty
abbrev pub last_line : List ℕ → List (List ℕ)
last_line [] = []
last_line (b ∷ line) = (b ∷ line) ∷ []

-- the lines, without their ends, of which the first has begun
abbrev pub lines_from : List ℕ → List ℕ → List (List ℕ)
lines_from line [] = last_line line
lines_from line (b ∷ bytes) = if b == 10 then line ∷ lines_from [] bytes else lines_from (line ++ b ∷ []) bytes

-- the lines; what follows the last line end is one where it isn't empty
abbrev pub lines_of : List ℕ → List (List ℕ)
lines_of bytes = lines_from [] bytes

-- what the file of the line with this number is called
abbrev pub line_name : ℕ → List ℕ
line_name number = decimal number ++ codes ".txt"

abbrev pub entry_placed : Ordering → TreeEntry → TreeEntry → List TreeEntry → List TreeEntry → List TreeEntry
entry_placed Less e f fs more = e ∷ (f ∷ fs)
entry_placed Equal e f fs more = e ∷ fs
entry_placed Greater e f fs more = f ∷ more

-- the entries and this one, in byte order
abbrev pub add_entry : TreeEntry → List TreeEntry → List TreeEntry
add_entry e [] = e ∷ []
add_entry e (f ∷ fs) = entry_placed (slice_cmp nat_cmp e.name f.name) e f fs (add_entry e fs)

-- each line with a line end, by the name of its number
abbrev pub line_entries : ℕ → List (List ℕ) → List TreeEntry
line_entries number [] = []
line_entries number (line ∷ lines) = add_entry (record { name = line_name number; bytes = Some (line ++ 10 ∷ []) }) (line_entries (number + 1) lines)

-- the bytes of files, joined
abbrev pub joined : List Tree → List ℕ
joined [] = []
joined (File bytes ∷ trees) = bytes ++ joined trees
joined (Folder entries ∷ trees) = joined trees

-- what stands at an output then
abbrev pub output_of : Command → List (List ℕ) → List Values → List ℕ → List ℕ → Option Tree
output_of command outs params bytes p =
    if is_named p (written_of command outs) then Some (File (text_of command params bytes))
    else (if is_named p (filled_of command outs) then Some (Folder (line_entries 1 (lines_of bytes))) else None)

abbrev pub acted : Command → Recipe → List Tree → Acted
acted command recipe trees = record {
  status = status_of command;
  outputs = map (output_of command (out_paths recipe) recipe.params (joined trees)) (out_paths recipe);
}

abbrev pub mem_act : Recipe → List Tree → Acted
mem_act recipe trees = acted (command_named (without_log recipe.template)) recipe trees

-- ## As the workspace does it

-- the bytes of a regular file
abbrev pub bytes_of : Option Node → List ℕ
bytes_of None = []
bytes_of (Some (Regular bytes time read_only)) = bytes
bytes_of (Some Directory) = []

-- its time
abbrev pub time_of : Option Node → Option ℕ
time_of None = None
time_of (Some (Regular bytes time read_only)) = Some time
time_of (Some Directory) = None

-- the bytes of the files there, joined
abbrev pub joined_at : Nodes → List (List ℕ) → List ℕ
joined_at nodes ps = flat_map (λ p. bytes_of (node_at nodes p)) ps

-- the time of the first of these files
abbrev pub first_time : Nodes → List (List ℕ) → Option ℕ
first_time nodes [] = None
first_time nodes (p ∷ ps) = time_of (node_at nodes p)

-- the time of what is written: that of the first input where it is kept, and else a new one
abbrev pub time_with : Command → Option ℕ → ℕ → ℕ
time_with Cat first now = now
time_with Keep first now = unwrap_or first now
time_with Tee first now = now
time_with Echo first now = now
time_with Lines first now = now
time_with Half first now = now
time_with Fail first now = now
time_with Killed first now = now
time_with Unknown first now = now

abbrev pub logs_of : List ℕ → List (List ℕ) → List (List ℕ)
logs_of template logs = if has_log template then logs else []

-- the same file at each of the places
abbrev pub files_at : List (List ℕ) → List ℕ → ℕ → List Change
files_at ps bytes time = map (λ p. record { place = p; node = Regular bytes time false }) ps

-- the files of the lines in the folder
abbrev pub line_files : List ℕ → ℕ → List (List ℕ) → ℕ → List Change
line_files folder number [] now = []
line_files folder number (line ∷ lines) now =
    record { place = in_folder folder (line_name number); node = Regular (line ++ 10 ∷ []) now false } ∷ line_files folder (number + 1) lines now

-- the folders, and in each of them the lines
abbrev pub folders_at : List (List ℕ) → List ℕ → ℕ → List Change
folders_at [] bytes now = []
folders_at (p ∷ ps) bytes now = record { place = p; node = Directory } ∷ (line_files p 1 (lines_of bytes) now ++ folders_at ps bytes now)

-- the first, where there is one, and else the second
abbrev pub or_then : Option Node → Option Node → Option Node
or_then None m = m
or_then (Some n) m = Some n

-- what the command leaves, of these bytes
abbrev pub left_of : Command → Recipe → List (List ℕ) → List ℕ → ℕ → ℕ → List Change
left_of command recipe logs bytes time now =
    folders_at (filled_of command (out_paths recipe)) bytes now
    ++ (files_at (written_of command (out_paths recipe)) (text_of command recipe.params bytes) time ++ files_at (logs_of recipe.template logs) [] now)

-- the nodes that the end of a child leaves
abbrev pub left_by : Bool → Recipe → List (List ℕ) → Nodes → ℕ → List Change
left_by killed recipe logs nodes now =
    left_of (command_of killed recipe.template) recipe logs (joined_at nodes (in_paths recipe)) (time_with (command_of killed recipe.template) (first_time nodes (in_paths recipe)) now) now

-- the child ended, killed or as its command does
abbrev pub EndsAs : Bool → Ended → Option Child → Type 0
EndsAs killed ended None = ⊥
EndsAs killed ended (Some c) = ended.status ≡ status_of (command_of killed c.recipe.template)
