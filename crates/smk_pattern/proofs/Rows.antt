-- Bindings of some paths, computed.
use Rattle.std.specs.Prelude.{◌≡◌, [], ◌∷◌, codes, Some, None, refl}
use Rattle.smk_base.specs.declared.tree.Pair.{Pair}
use Rattle.smk_pattern.specs.Shapes.{Text}
use Rattle.smk_pattern.specs.Grammar.{plain, hole}
use Rattle.smk_pattern.specs.Reading.{pieces, fill, fill_words}
use Rattle.smk_pattern.specs.Bound.{binding_of}

abbrev pair : Text → Text → Pair
pair name value = record { name = name; value = value }

-- the first wildcard takes as much as it can
pub first_longest : binding_of [] (codes "{dataset}.{group}.txt") (codes "101.B.normal.txt") ≡ Some (pair (codes "dataset") (codes "101.B") ∷ pair (codes "group") (codes "normal") ∷ [])
first_longest = refl

-- blanks round a name don't count
pub with_blanks : binding_of [] (codes "{ dataset }.{group}.txt") (codes "101.B.normal.txt") ≡ binding_of [] (codes "{dataset}.{group}.txt") (codes "101.B.normal.txt")
with_blanks = refl

-- equal names have equal values
pub equal_names : binding_of [] (codes "{s}/{s}.bam") (codes "a/b.bam") ≡ None
equal_names = refl

pub equal_names_fit : binding_of [] (codes "{s}/{s}.bam") (codes "a/a.bam") ≡ Some (pair (codes "s") (codes "a") ∷ [])
equal_names_fit = refl

-- no value is empty
pub not_empty : binding_of [] (codes "{s}.bam") (codes ".bam") ≡ None
not_empty = refl

-- the binding is put by name, in whichever order the wildcards stand
pub by_one_order : binding_of [] (codes "{b}-{a}.y") (codes "2-1.y") ≡ binding_of [] (codes "{a}-{b}.x") (codes "1-2.x")
by_one_order = refl

-- a constraint may have braces, and stands after the comma and its blanks
pub braces : pieces (codes "a{ n, [0-9]{2}}b") ≡ plain (codes "a") ∷ hole (codes "n") (Some (codes "[0-9]{2}")) ∷ plain (codes "b") ∷ []
braces = refl

-- in a parameter a brace that closes no name stands for itself
pub words : fill_words (pair (codes "s") (codes "a") ∷ []) (codes "x{s}{ s}{}{{s}") ≡ codes "xa{ s}{}{a"
words = refl

pub filled : fill (pair (codes "s") (codes "a") ∷ []) (codes "r/{s}_1.fq") ≡ codes "r/a_1.fq"
filled = refl
