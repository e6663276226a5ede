-- Reading the values that the front of some bytes spells, each with the bytes after it.
use Rattle.std.specs.Prelude.{◌≡◌, ℕ, zero, suc, Bool, true, false, ◌&&◌, not, List, [], ◌∷◌, ◌++◌, length, take, drop, codes, ◌==◌, ◌^◌, nat_lt, nat_le, bytes_eq, if◌then◌else◌, Option, Some, None, Result, Ok, Err}
use Rattle.std.specs.Option.{option_and_then}
use Rattle.std.specs.Str.Parse.{digits_value}
use Rattle.hex.specs.Hex.{decode_sized, encode_lower}
use Rattle.hex.specs.declared.error.FromHexError.{FromHexError}
use Rattle.smk_base.specs.Path.{is_path}
use Rattle.smk_base.specs.declared.sum.Sum.{Sum as Digest}
use Rattle.smk_base.specs.declared.tree.Pair.{Pair}
use Rattle.smk_base.specs.Digests.{digest}
use Rattle.smk_world.specs.declared.recipe.Kind.{Kind}
use Rattle.smk_world.specs.declared.recipe.Kind.TheVariants.{Plain, Folder}
use Rattle.smk_world.specs.declared.recipe.Values.{Values}
use Rattle.smk_world.specs.declared.recipe.Item.{Item}
use Rattle.smk_world.specs.declared.recipe.OutItem.{OutItem}
use Rattle.smk_world.specs.declared.recipe.Out.{Out}
use Rattle.smk_world.specs.declared.recipe.Recipe.{Recipe}
use Rattle.smk_world.specs.Trees.{Path, is_text}
use Rattle.smk_record.specs.declared.record.Stamp.{Stamp}
use Rattle.smk_record.specs.declared.record.Stamp.TheVariants.{Time, Sum, Made}
use Rattle.smk_record.specs.declared.record.Member.{Member}
use Rattle.smk_record.specs.declared.record.Record.{Record}
use Rattle.smk_record.specs.declared.stop.Stop.{Stop}
use Rattle.smk_record.specs.declared.stop.Stop.TheVariants.{Unread, OutOfMemory}
use Rattle.smk_record.specs.Records.{is_valid, is_format}

infixl 10 ◌>>=◌
abbrev pub ◌>>=◌ : {A B : Type 0} → Option A → (A → Option B) → Option B
o >>= f = option_and_then f o

-- a value and the bytes after it
abbrev pub Taken : Type 0 → Type 0
Taken A = Option (A × List ℕ)

-- what reads a value
abbrev pub Reader : Type 0 → Type 0
Reader A = List ℕ → Taken A

-- what a function returned, seen by view, is what is read, unless memory ran out
abbrev pub Stops : {Y : Type 0} → Stop → Option Y → Type 0
Stops OutOfMemory read = Unit {0}
Stops Unread read = read ≡ None

abbrev pub Gives : {X Y : Type 0} → (X → Y) → Result X Stop → Option Y → Type 0
Gives view (Ok x) read = read ≡ Some (view x)
Gives view (Err e) read = Stops e read

-- ## Numbers and texts

abbrev pub is_digit : ℕ → Bool
is_digit b = nat_le 48 b && nat_le b 57

-- how many digits stand at the front
abbrev pub digits_len : List ℕ → ℕ
digits_len [] = 0
digits_len (b ∷ bytes) = if is_digit b then suc (digits_len bytes) else 0

-- a digit, and a further one only after another than 0
abbrev pub is_numeral : List ℕ → Bool
is_numeral [] = false
is_numeral (b ∷ []) = true
is_numeral (b ∷ (c ∷ digits)) = not (b == 48)

-- the number of at most 64 bits that the digits spell
unfoldable pub number_of : List ℕ → Option ℕ
number_of digits = if is_numeral digits && nat_lt (digits_value 10 digits) (2 ^ 64) then Some (digits_value 10 digits) else None

-- what stands after the byte
abbrev pub after_byte : ℕ → List ℕ → Option (List ℕ)
after_byte end [] = None
after_byte end (b ∷ bytes) = if b == end then Some bytes else None

-- a number, and this byte
unfoldable pub number_in : ℕ → Reader ℕ
number_in end bytes = do
  rest ← after_byte end (drop (digits_len bytes) bytes)
  n ← number_of (take (digits_len bytes) bytes)
  Some (n, rest)

-- so many bytes of text, and a line end
unfoldable pub text_of : ℕ → Reader (List ℕ)
text_of n bytes = do
  rest ← after_byte 10 (drop n bytes)
  if is_text (take n bytes) then Some (take n bytes, rest) else None

unfoldable pub text_in : Reader (List ℕ)
text_in bytes = do
  n ← number_in 58 bytes
  text_of n.0 n.1

unfoldable pub path_in : Reader Path
path_in bytes = do
  t ← text_in bytes
  if is_path t.0 then Some t else None

-- ## Values with parts

-- one value, then another
abbrev pub both_in : {A B C : Type 0} → (A → B → C) → Reader A → Reader B → Reader C
both_in make first second bytes = do
  a ← first bytes
  b ← second a.1
  Some (make a.0 b.0, b.1)

abbrev pub paired : {A B : Type 0} → A → B → A × B
paired a b = (a, b)

-- so many values, one after the other
unfoldable pub some_in : {A : Type 0} → Reader A → ℕ → Reader (List A)
some_in one zero bytes = Some ([], bytes)
some_in one (suc n) bytes = do
  first ← one bytes
  others ← some_in one n first.1
  Some (first.0 ∷ others.0, others.1)

-- a list after its length
unfoldable pub list_in : {A : Type 0} → Reader A → Reader (List A)
list_in one bytes = do
  n ← number_in 10 bytes
  some_in one n.0 n.1

-- D for a folder, F for a file
abbrev pub flag_in : Reader Bool
flag_in [] = None
flag_in (b ∷ bytes) = if b == 68 then Some (true, bytes) else if b == 70 then Some (false, bytes) else None

-- the digest of the bytes, where these are the lower-case digits that spell it
abbrev pub spelled_by : List ℕ → Result (List ℕ) FromHexError → Option Digest
spelled_by digits (Ok bytes) = if bytes_eq (encode_lower bytes) digits then Some (digest bytes) else None
spelled_by digits (Err e) = None

-- the digest that lower-case digits spell
unfoldable pub sum_of : List ℕ → Option Digest
sum_of digits = spelled_by digits (decode_sized digits 32)

-- 64 digits, and a line end
unfoldable pub sum_in : Reader Digest
sum_in bytes = do
  rest ← after_byte 10 (drop 64 bytes)
  s ← sum_of (take 64 bytes)
  Some (s, rest)

-- a time, and a SHA-256
unfoldable pub summed_in : Reader (ℕ × Digest)
summed_in = both_in paired (number_in 10) sum_in

unfoldable pub stamp_in : Reader Stamp
stamp_in [] = None
stamp_in (b ∷ bytes) =
    if b == 84 then (number_in 10 bytes >>= λ n. Some (Time n.0, n.1))
    else if b == 83 then (summed_in bytes >>= λ x. Some (Sum x.0.0 x.0.1, x.1))
    else if b == 77 then (number_in 10 bytes >>= λ n. Some (Made n.0, n.1))
    else None

abbrev pub kind_of : Bool → Kind
kind_of true = Folder
kind_of false = Plain

unfoldable pub pair_in : Reader Pair
pair_in = both_in (λ name value. record { name = name; value = value }) text_in text_in

unfoldable pub values_in : Reader Values
values_in = both_in (λ name values. record { name = name; values = values }) text_in (list_in text_in)

unfoldable pub out_in : Reader Out
out_in = both_in (λ folder path. record { path = path; kind = kind_of folder }) flag_in path_in

unfoldable pub out_item_in : Reader OutItem
out_item_in = both_in (λ name outs. record { name = name; outs = outs }) text_in (list_in out_in)

unfoldable pub member_in : Reader Member
member_in = both_in (λ folder name. record { folder = folder; name = name }) flag_in path_in

-- ## Inputs with their stamps, and records

-- so many values, each with stamps, and the stamps of all
unfoldable pub each_in : {A B : Type 0} → (B → List Stamp) → Reader (A × B) → ℕ → Reader (List A × List Stamp)
each_in stamps one zero bytes = Some (([], []), bytes)
each_in stamps one (suc n) bytes = do
  first ← one bytes
  others ← each_in stamps one n first.1
  Some ((first.0.0 ∷ others.0.0, stamps first.0.1 ++ others.0.1), others.1)

-- a path with its stamp
unfoldable pub stamped_in : Reader (Path × Stamp)
stamped_in = both_in (λ path stamp. (path, stamp)) path_in stamp_in

-- the one stamp
abbrev pub alone : Stamp → List Stamp
alone s = s ∷ []

-- an item, and the stamps of its paths
unfoldable pub item_in : Reader (Item × List Stamp)
item_in bytes = do
  name ← text_in bytes
  n ← number_in 10 name.1
  paths ← each_in alone stamped_in n.0 n.1
  Some ((record { name = name.0; paths = paths.0.0 }, paths.0.1), paths.1)

abbrev pub all : List Stamp → List Stamp
all stamps = stamps

-- the inputs, and the stamps of all their paths
unfoldable pub inputs_in : Reader (List Item × List Stamp)
inputs_in bytes = do
  n ← number_in 10 bytes
  each_in all item_in n.0 n.1

-- a recipe, and the stamps of its inputs
unfoldable pub recipe_in : Reader (Recipe × List Stamp)
recipe_in =
    both_in (λ template x. (record { template = template; wildcards = x.0; params = x.1.0; inputs = x.1.1.0.0; outputs = x.1.1.1 }, x.1.1.0.1)) text_in
    (both_in paired (list_in pair_in) (both_in paired (list_in values_in) (both_in paired inputs_in (list_in out_item_in))))

-- the number of a format, and a line end
unfoldable pub format_in : Reader ℕ
format_in bytes = do
  n ← number_in 10 bytes
  if is_format n.0 then Some n else None

-- what follows the front
unfoldable pub fields_in : Reader Record
fields_in =
    both_in (λ format x. record { format = format; path = x.0; made = x.1.0; recipe = x.1.1.0.0; stamps = x.1.1.0.1; members = x.1.1.1 }) format_in
    (both_in paired path_in (both_in paired (number_in 10) (both_in paired recipe_in (list_in member_in))))

-- what follows the front
abbrev pub after_front : List ℕ → List ℕ → Option (List ℕ)
after_front [] bytes = Some bytes
after_front (c ∷ front) [] = None
after_front (c ∷ front) (b ∷ bytes) = if b == c then after_front front bytes else None

-- a valid record, where these are all its bytes
unfoldable pub record_in : List ℕ → Option Record
record_in bytes = do
  fields ← after_front (codes "SMK") bytes
  found ← fields_in fields
  if length found.1 == 0 && is_valid found.0 then Some found.0 else None
