-- Commands of one job, computed.
use Rattle.std.proofs.Common.{◌≡◌, [], ◌∷◌, ◌++◌, Some, None, codes, refl}
use Rattle.std.specs.Fmt.{digits}
use Rattle.smk_world.specs.declared.recipe.Kind.TheVariants.{Plain}
use Rattle.smk_flow.specs.declared.job.Job.{Job}
use Rattle.smk_template.specs.Templates.{Text}
use Rattle.smk_format.specs.Fields.{values_by, place_in, place_of}
use Rattle.smk_format.specs.Commands.{missing, command, excess}

-- a job of this template
abbrev job : Text → Job
job template = record {
  rule = 0;
  recipe = record {
    template = template;
    wildcards = record { name = codes "s"; value = codes "x" } ∷ [];
    params = record { name = []; values = codes "1" ∷ codes "2" ∷ [] } ∷ record { name = codes "k"; values = codes "v" ∷ [] } ∷ [];
    inputs = record { name = []; paths = codes "a" ∷ codes "b" ∷ [] } ∷ record { name = codes "more"; paths = codes "c" ∷ codes "d" ∷ [] } ∷ [];
    outputs = record { name = codes "made"; outs = record { path = codes "out"; kind = Plain } ∷ [] } ∷ [];
  };
  gathers = [];
  logs = codes "l.log" ∷ codes "m.log" ∷ [];
  threads = 8;
  amounts = record { name = codes "mem_mb"; count = 4000 } ∷ [];
  words = record { name = codes "disk"; value = codes "ssd" } ∷ [];
  priority = 0;
  temps = [];
  guards = [];
}

-- it has this command with 5 threads
abbrev Gives : Text → Text → Type 0
Gives template text = (missing (job template) ≡ None) × (command (job template) 5 ≡ text)

pub gives_all_inputs : Gives (codes "cat {input} > {output}") (codes "cat a b c d > out")
unfolding digits values_by place_in place_of
gives_all_inputs = (refl, refl)

pub gives_places : Gives (codes "{input[0]},{input[3]},{input.more}") (codes "a,d,c d")
unfolding digits values_by place_in place_of
gives_places = (refl, refl)

pub gives_outputs : Gives (codes "{output[0]} {output.made}") (codes "out out")
unfolding digits values_by place_in place_of
gives_outputs = (refl, refl)

pub gives_params : Gives (codes "{params}|{params[0]}|{params[1]}|{params.k}") (codes "1 2 v|1 2|v|v")
unfolding digits values_by place_in place_of
gives_params = (refl, refl)

pub gives_logs : Gives (codes "{log} {log[1]}") (codes "l.log m.log m.log")
unfolding digits values_by place_in place_of
gives_logs = (refl, refl)

pub gives_threads_and_wildcards : Gives (codes "{threads} {wildcards.s}") (codes "5 x")
unfolding digits values_by place_in place_of
gives_threads_and_wildcards = (refl, refl)

pub gives_resources : Gives (codes "{resources.mem_mb} {resources.disk}") (codes "4000 ssd")
unfolding digits values_by place_in place_of
gives_resources = (refl, refl)

pub gives_braces : Gives (codes "{{{input}}} {{}}") (codes "{a b c d} {}")
unfolding digits values_by place_in place_of
gives_braces = (refl, refl)

pub gives_nothing : Gives [] []
unfolding digits values_by place_in place_of
gives_nothing = (refl, refl)

pub misses_other_word : missing (job (codes "{inputs}")) ≡ Some (codes "{inputs}")
unfolding digits values_by place_in place_of
misses_other_word = refl

pub misses_first_of_two : missing (job (codes "{input[4]} {x}")) ≡ Some (codes "{input[4]}")
unfolding digits values_by place_in place_of
misses_first_of_two = refl

pub misses_needless_zero : missing (job (codes "{input[00]}")) ≡ Some (codes "{input[00]}")
unfolding digits values_by place_in place_of
misses_needless_zero = refl

pub misses_sign : missing (job (codes "{input[-1]}")) ≡ Some (codes "{input[-1]}")
unfolding digits values_by place_in place_of
misses_sign = refl

pub misses_great_place : missing (job (codes "{input[18446744073709551616]}")) ≡ Some (codes "{input[18446744073709551616]}")
unfolding digits values_by place_in place_of
misses_great_place = refl

pub misses_empty_name : missing (job (codes "{input.}")) ≡ Some (codes "{input.}")
unfolding digits values_by place_in place_of
misses_empty_name = refl

pub misses_name_of_a_log : missing (job (codes "{log.a}")) ≡ Some (codes "{log.a}")
unfolding digits values_by place_in place_of
misses_name_of_a_log = refl

pub misses_no_wildcard : missing (job (codes "{wildcards}")) ≡ Some (codes "{wildcards}")
unfolding digits values_by place_in place_of
misses_no_wildcard = refl

pub misses_place_of_threads : missing (job (codes "{threads[0]}")) ≡ Some (codes "{threads[0]}")
unfolding digits values_by place_in place_of
misses_place_of_threads = refl

pub misses_empty_field : missing (job (codes "{}")) ≡ Some (codes "{}")
unfolding digits values_by place_in place_of
misses_empty_field = refl

pub misses_closing : missing (job (codes "a } b")) ≡ Some (codes "}")
unfolding digits values_by place_in place_of
misses_closing = refl

pub misses_opening : missing (job (codes "a {input b")) ≡ Some (codes "{input b")
unfolding digits values_by place_in place_of
misses_opening = refl

pub misses_two_openings : missing (job (codes "a {input{output}")) ≡ Some (codes "{input")
unfolding digits values_by place_in place_of
misses_two_openings = refl

pub nul_first : excess (codes "a" ++ 0 ∷ []) ≡ Some 0
nul_first = refl
