-- What files read as, as they stand in the working folder.
use Rattle.std.specs.Prelude.{◌≡◌, ℕ, zero, suc, ◌+◌, Bool, true, false, ◌||◌, ◌==◌, if◌then◌else◌, List, [], ◌∷◌, ◌++◌, take, drop, Result, Ok, Err}
use Rattle.std.specs.Char.{is_ascii_alphanumeric}
use Rattle.std.specs.List.{prefix_len, flat_map}
use Rattle.smk_base.specs.Path.{is_path}
use Rattle.smk_world.specs.declared.event.Found.{Found}
use Rattle.smk_world.specs.declared.event.Found.TheVariants.{Nothing, TooBig as FoundTooBig, Held}
use Rattle.smk_world.specs.Calls.{found_of}
use Rattle.smk_lex.specs.declared.token.Token.{Token}
use Rattle.smk_lex.specs.declared.token.LexFault.{LexFault}
use Rattle.smk_lex.specs.declared.token.LexFault.TheVariants as lex
use Rattle.smk_lex.specs.Layout.{lexed}
use Rattle.smk_parse_tree.specs.declared.syntax.Statement.{Statement}
use Rattle.smk_parse_tree.specs.declared.syntax.Syntax.{Syntax}
use Rattle.smk_parse_tree.specs.declared.syntax.Form.{Form}
use Rattle.smk_parse_tree.specs.declared.syntax.Form.TheVariants.{Assign, Rule, Order, LocalRules, ConfigFile, Include, Container, Limits}
use Rattle.smk_parse_expr.specs.declared.symbol.ParseFault.{ParseFault}
use Rattle.smk_parse_expr.specs.declared.symbol.ParseFault.TheVariants as grammar
use Rattle.smk_parse.specs.Lines.{line_of}
use Rattle.smk_parse.specs.Files.{parsed}
use Rattle.smk_eval_files.specs.declared.files.ReadFile.{ReadFile}
use Rattle.smk_flaws.specs.declared.flaw.FileFlaw.TheVariants.{BadIndent, OpenText, BadByte, Unexpected, Unsupported, Doubled, IncludeDepth, NoFile, TooBig}
use Rattle.smk_flaws.specs.declared.fault.FileFault.{FileFault}
use Rattle.smk_flaws.specs.declared.fault.FileFault.TheVariants.{Flawed, Device, OutOfMemory}
use Rattle.smk_eval_files.specs.Looks.{Nodes, at}

abbrev pub and_then : {A B : Type 0} → Result A FileFault → (A → Result B FileFault) → Result B FileFault
and_then (Ok a) next = next a
and_then (Err fault) next = Err fault

-- a fault of the files, and not of the device or of memory
abbrev pub is_told : FileFault → Bool
is_told (Flawed flaw) = true
is_told Device = false
is_told OutOfMemory = false

abbrev pub is_device : FileFault → Bool
is_device (Flawed flaw) = false
is_device Device = true
is_device OutOfMemory = false

abbrev pub device_failed : {T : Type 0} → Result T FileFault → Bool
device_failed (Ok t) = false
device_failed (Err fault) = is_device fault

-- The answer is what is meant, a value or a fault, unless the device failed or memory was short.
abbrev pub Answers : {A : Type 0} → Result A FileFault → Result A FileFault → Type 0
Answers meant (Ok a) = meant ≡ Ok a
Answers meant (Err fault) = is_told fault ≡ true → meant ≡ Err fault

-- ## Bytes

-- the most bytes that a file has
abbrev pub file_limit : ℕ
file_limit = 1048576

abbrev pub bytes_in : List ℕ → Found → Result (List ℕ) FileFault
bytes_in file Nothing = Err (Flawed (NoFile file))
bytes_in file (FoundTooBig size) = Err (Flawed (TooBig file))
bytes_in file (Held bytes) = Ok bytes

-- the bytes of the file at this path
abbrev pub bytes_at : Nodes → List ℕ → Result (List ℕ) FileFault
bytes_at nodes file = bytes_in file (found_of file_limit (at nodes file))

-- ## Syntax

-- a letter, a digit or `_`
abbrev pub is_word_byte : ℕ → Bool
is_word_byte b = is_ascii_alphanumeric b || b == 95

-- the word at the front
abbrev pub front_word : List ℕ → List ℕ
front_word z = take (prefix_len is_word_byte z) z

-- the word at this place of a source
abbrev pub word_at : List ℕ → ℕ → List ℕ
word_at source place = front_word (drop place source)

abbrev pub of_lex : List ℕ → List ℕ → LexFault → FileFault
of_lex file source (lex.BadIndent place) = Flawed (BadIndent file (line_of source place))
of_lex file source (lex.OpenText place) = Flawed (OpenText file (line_of source place))
of_lex file source (lex.BadByte place) = Flawed (BadByte file (line_of source place))
of_lex file source lex.OutOfMemory = OutOfMemory

abbrev pub of_parse : List ℕ → List ℕ → ParseFault → FileFault
of_parse file source (grammar.Unexpected place) = Flawed (Unexpected file (line_of source place))
of_parse file source (grammar.Unsupported place) = Flawed (Unsupported file (line_of source place) (word_at source place))
of_parse file source (grammar.Doubled place) = Flawed (Doubled file (line_of source place) (word_at source place))
of_parse file source grammar.OutOfMemory = OutOfMemory

abbrev pub parsed_in : List ℕ → List ℕ → Result Syntax ParseFault → Result Syntax FileFault
parsed_in file source (Ok syntax) = Ok syntax
parsed_in file source (Err fault) = Err (of_parse file source fault)

abbrev pub lexed_in : List ℕ → List ℕ → Result (List Token) LexFault → Result Syntax FileFault
lexed_in file source (Ok tokens) = parsed_in file source (parsed source tokens)
lexed_in file source (Err fault) = Err (of_lex file source fault)

-- the syntax of a source in a file
abbrev pub syntax_in : List ℕ → List ℕ → Result Syntax FileFault
syntax_in file source = lexed_in file source (lexed source)

abbrev pub read_as : List ℕ → Result Syntax FileFault → Result ReadFile FileFault
read_as file (Ok syntax) = Ok (record { file = file; syntax = syntax })
read_as file (Err fault) = Err fault

-- ## Includes

abbrev pub include_of : Form → List (List ℕ)
include_of (Assign name x) = []
include_of (Rule form) = []
include_of (Order names) = []
include_of (LocalRules names) = []
include_of (ConfigFile t) = []
include_of (Include t) = t ∷ []
include_of (Container t) = []
include_of (Limits items) = []

-- the texts of the includes, in order
abbrev pub includes : List Statement → List (List ℕ)
includes = flat_map (λ (s : Statement). include_of s.form)

-- the place behind the last slash, of bytes that stand from `place` on; `last` where they have none
abbrev pub folder_end : ℕ → ℕ → List ℕ → ℕ
folder_end place last [] = last
folder_end place last (b ∷ z) = folder_end (place + 1) (if b == 47 then place + 1 else last) z

-- a path as it is written beside a file: in the file's folder
abbrev pub beside : List ℕ → List ℕ → List ℕ
beside file t = take (folder_end 0 0 file) file ++ t

-- the path that an include of a file names
abbrev pub target : List ℕ → List ℕ → Result (List ℕ) FileFault
target file t = if is_path (beside file t) then Ok (beside file t) else Err (Flawed (NoFile t))

abbrev pub Files : Type 0
Files = Result (List ReadFile) FileFault

-- what follows the files that are read already
abbrev pub onto : List ReadFile → Files → Files
onto made more = and_then more (λ fs. Ok (made ++ fs))

-- the files of these includes of a file, in order, each read by `read`
abbrev pub included : (List ℕ → Files) → List ℕ → List (List ℕ) → Files
included read file [] = Ok []
included read file (t ∷ ts) = and_then (and_then (target file t) read) (λ fs. onto fs (included read file ts))

-- a file with its includes, which are read by `read`
abbrev pub with_includes : (List ℕ → Files) → ReadFile → Files
with_includes read f = onto (f ∷ []) (included read f.file (includes f.syntax.statements))

-- The file at this path and its includes, which lie less than `depth` deep within each other: depth first, in order.
abbrev pub files_from : Nodes → ℕ → List ℕ → Files
files_from nodes zero file = and_then (bytes_at nodes file) (λ source. Err (Flawed (IncludeDepth file)))
files_from nodes (suc depth) file =
    and_then (bytes_at nodes file) (λ source. and_then (read_as file (syntax_in file source)) (with_includes (files_from nodes depth)))

-- the file at this path and its includes, up to 16 deep
abbrev pub files_at : Nodes → List ℕ → Files
files_at nodes file = files_from nodes 17 file
