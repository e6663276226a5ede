-- Two records, as they are written in each format.
use Rattle.std.specs.Prelude.{◌≡◌, ℕ, ◌&&◌, ◌^◌, true, false, List, [], ◌∷◌, codes, refl, length}
use Rattle.std.specs.Fmt.{digits}
use Rattle.hex.specs.Hex.{encode_with}
use Rattle.smk_base.specs.Digests.{digest}
use Rattle.smk_world.specs.declared.recipe.Kind.TheVariants.{Plain, Folder}
use Rattle.smk_record.specs.declared.record.Stamp.TheVariants.{Time, Sum, Made}
use Rattle.smk_record.specs.declared.record.Record.{Record}
use Rattle.smk_record.specs.Records.{is_valid}
use Rattle.smk_record.specs.Spelling.{spelling, is_writable}

abbrev pub copied : Record
copied =
    record {
      format = 1;
      path = codes "out.txt";
      made = 1;
      recipe = record {
        template = codes "cat {input} > {output}";
        wildcards = [];
        params = [];
        inputs = record { name = []; paths = codes "in.txt" ∷ [] } ∷ [];
        outputs = record { name = []; outs = record { path = codes "out.txt"; kind = Plain } ∷ [] } ∷ [];
      };
      stamps = Time 1000 ∷ [];
      members = [];
    }

pub copied_is_valid : is_valid copied ≡ true
copied_is_valid = refl

pub copied_spelling : spelling copied ≡ codes "SMK1\n7:out.txt\n1\n22:cat {input} > {output}\n0\n0\n1\n0:\n1\n6:in.txt\nT1000\n1\n0:\n1\nF7:out.txt\n0\n"
unfolding digits
copied_spelling = refl

abbrev pub clustered : Record
clustered =
    record {
      format = 1;
      path = codes "clustering/a";
      made = 1;
      recipe = record {
        template = codes "lines {input} {output}";
        wildcards = record { name = codes "sample"; value = codes "a" } ∷ [];
        params = [];
        inputs = record { name = []; paths = codes "samples/a.txt" ∷ [] } ∷ [];
        outputs = record { name = codes "clusters"; outs = record { path = codes "clustering/a"; kind = Folder } ∷ [] } ∷ [];
      };
      stamps = Time 1 ∷ [];
      members =
          record { folder = false; name = codes "1.txt" }
          ∷ record { folder = false; name = codes "2.txt" }
          ∷ record { folder = false; name = codes "3.txt" }
          ∷ [];
    }

pub clustered_is_valid : is_valid clustered ≡ true
clustered_is_valid = refl

pub clustered_spelling : spelling clustered ≡ codes "SMK1\n12:clustering/a\n1\n22:lines {input} {output}\n1\n6:sample\n1:a\n0\n1\n0:\n1\n13:samples/a.txt\nT1\n1\n8:clusters\n1\nD12:clustering/a\n3\nF5:1.txt\nF5:2.txt\nF5:3.txt\n"
unfolding digits
clustered_spelling = refl

-- the SHA-256 of the bytes `hello` and a line end
abbrev pub hello : List ℕ
hello = 88 ∷ 145 ∷ 181 ∷ 181 ∷ 34 ∷ 213 ∷ 223 ∷ 8 ∷ 109 ∷ 15 ∷ 240 ∷ 177 ∷ 16 ∷ 251 ∷ 217 ∷ 210 ∷ 27 ∷ 180 ∷ 252 ∷ 113 ∷ 99 ∷ 175 ∷ 52 ∷ 208 ∷ 130 ∷ 134 ∷ 162 ∷ 232 ∷ 70 ∷ 246 ∷ 190 ∷ 3 ∷ []

-- the SHA-256 of the lines `x`, `y` and `z`
abbrev pub letters : List ℕ
letters = 129 ∷ 136 ∷ 75 ∷ 95 ∷ 44 ∷ 182 ∷ 142 ∷ 220 ∷ 98 ∷ 134 ∷ 54 ∷ 61 ∷ 204 ∷ 70 ∷ 153 ∷ 169 ∷ 19 ∷ 162 ∷ 213 ∷ 186 ∷ 5 ∷ 129 ∷ 141 ∷ 15 ∷ 220 ∷ 67 ∷ 186 ∷ 104 ∷ 187 ∷ 153 ∷ 11 ∷ 216 ∷ []

abbrev pub copied_now : Record
copied_now = record copied { format = 2; stamps = Sum 1000 (digest hello) ∷ [] }

abbrev pub clustered_now : Record
clustered_now = record clustered { format = 2; stamps = Sum 1 (digest letters) ∷ [] }

pub both_now_valid : is_valid copied_now && is_valid clustered_now ≡ true
both_now_valid = refl

pub copied_now_spelling : spelling copied_now ≡ codes "SMK2\n7:out.txt\n1\n22:cat {input} > {output}\n0\n0\n1\n0:\n1\n6:in.txt\nS1000\n5891b5b522d5df086d0ff0b110fbd9d21bb4fc7163af34d08286a2e846f6be03\n1\n0:\n1\nF7:out.txt\n0\n"
unfolding digits encode_with
copied_now_spelling = refl

pub lengths : length (spelling copied) ∷ length (spelling clustered) ∷ length (spelling copied_now) ∷ length (spelling clustered_now) ∷ [] ≡ 89 ∷ 154 ∷ 154 ∷ 219 ∷ []
unfolding digits encode_with
lengths = refl

pub both_writable : is_writable copied && is_writable clustered ≡ true
both_writable = refl

pub both_now_writable : is_writable copied_now && is_writable clustered_now ≡ true
both_now_writable = refl

-- a SHA-256 in format 1, a format that isn't read, and a SHA-256 of 33 bytes
pub sum_too_early : is_valid (record copied_now { format = 1 }) ≡ false
sum_too_early = refl

pub no_format : is_valid (record copied_now { format = 3 }) ≡ false
no_format = refl

pub too_long : is_writable (record copied_now { stamps = Sum 1000 (digest (0 ∷ hello)) ∷ [] }) ≡ false
too_long = refl

-- a number of 65 bits, and a serial that an input's stamp has too
pub too_great : is_writable (record copied { made = 2 ^ 64 }) ≡ false
too_great = refl

pub not_above_input : is_valid (record copied { stamps = Made 1 ∷ [] }) ≡ false
not_above_input = refl

pub no_serial : is_valid (record copied { made = 0 }) ≡ false
no_serial = refl

-- members where the output is a file
pub file_with_members : is_valid (record copied { members = clustered.members }) ≡ false
file_with_members = refl
