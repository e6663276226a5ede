-- How a record is written, to the byte.
use Rattle.std.specs.Prelude.{◌≡◌, ◌↔◌, ℕ, Bool, ◌&&◌, List, [], ◌∷◌, ◌++◌, map, length, drop, decimal, ◌==◌, codes, if◌then◌else◌, ◌^◌, ◌<◌, nat_lt, Option, Some, IsTrue}
use Rattle.std.specs.List.{list_all, flat_map}
use Rattle.hex.specs.Hex.{encode_lower}
use Rattle.smk_base.specs.declared.sum.Sum.{Sum as Digest}
use Rattle.smk_base.specs.declared.tree.Pair.{Pair}
use Rattle.smk_world.specs.declared.recipe.Values.{Values}
use Rattle.smk_world.specs.declared.recipe.Item.{Item}
use Rattle.smk_world.specs.declared.recipe.OutItem.{OutItem}
use Rattle.smk_world.specs.declared.recipe.Out.{Out}
use Rattle.smk_world.specs.declared.recipe.Recipe.{Recipe}
use Rattle.smk_world.specs.Trees.{Path, is_text, is_folder_kind}
use Rattle.smk_record.specs.declared.record.Stamp.{Stamp}
use Rattle.smk_record.specs.declared.record.Stamp.TheVariants.{Time, Sum, Made}
use Rattle.smk_record.specs.declared.record.Member.{Member}
use Rattle.smk_record.specs.declared.record.Record.{Record}
use Rattle.smk_record.specs.Records.{is_valid}

-- a number in decimal, and a line end
abbrev pub num : ℕ → List ℕ
num n = decimal n ++ 10 ∷ []

-- a text after its length
abbrev pub text : List ℕ → List ℕ
text t = decimal (length t) ++ 58 ∷ (t ++ 10 ∷ [])

-- a list after its length
abbrev pub list : {A : Type 0} → (A → List ℕ) → List A → List ℕ
list spell xs = num (length xs) ++ flat_map spell xs

abbrev pub pair : Pair → List ℕ
pair p = text p.name ++ text p.value

abbrev pub values : Values → List ℕ
values v = text v.name ++ list text v.values

-- a SHA-256 in lower-case digits, and a line end
abbrev pub sum : Digest → List ℕ
sum s = encode_lower s.0 ++ 10 ∷ []

abbrev pub stamp : Stamp → List ℕ
stamp (Time t) = codes "T" ++ num t
stamp (Sum t s) = (codes "S" ++ num t) ++ sum s
stamp (Made m) = codes "M" ++ num m

-- each path with its stamp; the stamps that are left
abbrev pub stamped_paths : List Path → List Stamp → List ℕ
stamped_paths [] stamps = []
stamped_paths (p ∷ ps) [] = []
stamped_paths (p ∷ ps) (s ∷ stamps) = text p ++ (stamp s ++ stamped_paths ps stamps)

abbrev pub items : List Item → List Stamp → List ℕ
items [] stamps = []
items (i ∷ rest) stamps =
    (text i.name ++ (num (length i.paths) ++ stamped_paths i.paths stamps)) ++ items rest (drop (length i.paths) stamps)

-- F for a file, D for a folder
abbrev pub letter : Bool → List ℕ
letter folder = if folder then codes "D" else codes "F"

abbrev pub out : Out → List ℕ
out o = letter (is_folder_kind o.kind) ++ text o.path

abbrev pub out_item : OutItem → List ℕ
out_item o = text o.name ++ list out o.outs

abbrev pub member : Member → List ℕ
member m = letter m.folder ++ text m.name

-- the line that names the format
abbrev pub first_line : ℕ → List ℕ
first_line format = codes "SMK" ++ num format

-- all but the members
abbrev pub head : Record → List ℕ
head r =
    first_line r.format
    ++ (text r.path
    ++ (num r.made
    ++ (text r.recipe.template
    ++ (list pair r.recipe.wildcards
    ++ (list values r.recipe.params
    ++ ((num (length r.recipe.inputs) ++ items r.recipe.inputs r.stamps)
    ++ list out_item r.recipe.outputs))))))

-- the bytes of a record
abbrev pub spelling : Record → List ℕ
spelling r = head r ++ list member r.members

-- ## Reading

-- the texts of a recipe that aren't paths
abbrev pub texts : Recipe → List (List ℕ)
texts recipe =
    recipe.template
    ∷ (flat_map (λ (p : Pair). p.name ∷ p.value ∷ []) recipe.wildcards
    ++ (flat_map (λ (v : Values). v.name ∷ v.values) recipe.params
    ++ (map (λ (i : Item). i.name) recipe.inputs ++ map (λ (o : OutItem). o.name) recipe.outputs)))

-- 32 bytes
abbrev pub is_sum : List ℕ → Bool
is_sum bytes = length bytes == 32 && list_all (λ b. nat_lt b 256) bytes

-- its number has at most 64 bits, and its SHA-256 is 32 bytes
abbrev pub is_writable_stamp : Stamp → Bool
is_writable_stamp (Time t) = nat_lt t (2 ^ 64)
is_writable_stamp (Sum t s) = nat_lt t (2 ^ 64) && is_sum s.0
is_writable_stamp (Made m) = nat_lt m (2 ^ 64)

-- Its texts are UTF-8, its numbers have at most 64 bits, and each SHA-256 is 32 bytes: so is every record that is ever written.
abbrev pub is_writable : Record → Bool
is_writable r = list_all is_text (texts r.recipe) && (nat_lt r.made (2 ^ 64) && list_all is_writable_stamp r.stamps)

-- What a reader of records finds in these bytes: the valid record that they spell, and nothing where they spell none.
abbrev pub IsReadAs : List ℕ → Option Record → Type 0
IsReadAs bytes found = (r : Record) → (found ≡ Some r) ↔ ((bytes ≡ spelling r) × IsTrue (is_valid r && is_writable r))

-- A reader of records: fewer than 2^64 bytes are read as the valid record that they spell, and as nothing where they spell none.
abbrev pub ReadsRecords : (List ℕ → Option Record) → Type 0
ReadsRecords read =
    (bytes : List ℕ) (r : Record) →
    length bytes < 2 ^ 64 → (read bytes ≡ Some r) ↔ ((bytes ≡ spelling r) × IsTrue (is_valid r && is_writable r))
