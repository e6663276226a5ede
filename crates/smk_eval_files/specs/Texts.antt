-- The statements of files, those of included files in their places.
use Rattle.std.specs.Prelude.{ℕ, Bool, true, false, List, [], ◌∷◌, ◌++◌, if◌then◌else◌}
use Rattle.smk_parse_tree.specs.declared.syntax.Statement.{Statement}
use Rattle.smk_parse_tree.specs.declared.syntax.Form.{Form}
use Rattle.smk_parse_tree.specs.declared.syntax.Form.TheVariants.{Assign, Rule, Order, LocalRules, ConfigFile, Include, Container, Limits}
use Rattle.smk_eval_files.specs.declared.files.ReadFile.{ReadFile}

-- a statement, with the file in which it stands
pub record Entry : Type 0 where
  pub file : List ℕ
  pub statement : Statement

abbrev pub is_include : Form → Bool
is_include (Assign name x) = false
is_include (Rule form) = false
is_include (Order names) = false
is_include (LocalRules names) = false
is_include (ConfigFile t) = false
is_include (Include t) = true
is_include (Container t) = false
is_include (Limits items) = false

-- A whole text is the statements of a file, those of its includes in their places. The texts of the files that come later in the list
-- are known: an include is the first of them.
abbrev pub first_text : List (List Entry) → List Entry
first_text [] = []
first_text (text ∷ texts) = text

abbrev pub other_texts : List (List Entry) → List (List Entry)
other_texts [] = []
other_texts (text ∷ texts) = texts

-- what a statement stands for
abbrev pub put : List ℕ → Statement → List (List Entry) → List Entry
put file s later = if is_include s.form then first_text later else record { file = file; statement = s } ∷ []

-- the texts that it leaves
abbrev pub left : Statement → List (List Entry) → List (List Entry)
left s later = if is_include s.form then other_texts later else later

-- the text of these statements of a file
abbrev pub text : List ℕ → List Statement → List (List Entry) → List Entry
text file [] later = []
text file (s ∷ ss) later = put file s later ++ text file ss (left s later)

-- the texts that they leave
abbrev pub after : List Statement → List (List Entry) → List (List Entry)
after [] later = later
after (s ∷ ss) later = after ss (left s later)

-- the texts of files, each without those of its includes
abbrev pub texts : List ReadFile → List (List Entry)
texts [] = []
texts (f ∷ fs) = text f.file f.syntax.statements (texts fs) ∷ after f.syntax.statements (texts fs)

-- the statements of the first file with all its includes in their places
abbrev pub whole : List ReadFile → List Entry
whole files = first_text (texts files)
