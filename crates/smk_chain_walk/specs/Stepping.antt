-- What is told at a path, and what is known of the job that makes it before its wants are walked.
use Rattle.std.specs.Prelude.{◌≡◌, ◌≢◌, ℕ, List, [], ◌∷◌, map, filter, Option, Some, None, Result, Ok, Err}
use Rattle.std.specs.List.{find, flat_map}
use Rattle.smk_base.specs.Path.{is_under}
use Rattle.smk_world.specs.declared.recipe.Out.{Out}
use Rattle.smk_world.specs.declared.recipe.OutItem.{OutItem}
use Rattle.smk_world.specs.Trees.{Path, is_folder_kind}
use Rattle.smk_flow.specs.Flows.{Flow, Candidate, rule_name}
use Rattle.smk_choose.specs.declared.choice.Lack.{Lack}
use Rattle.smk_choose.specs.declared.choice.Making.{Making}
use Rattle.smk_choose.specs.declared.table.Choices.{Choices}
use Rattle.smk_choose.specs.Choose.{Sources, Source, Make, choose}
use Rattle.smk_choose.specs.Told.{making, CoversAll}
use Rattle.smk_chain.specs.declared.fault.ChainFault.{ChainFault}
use Rattle.smk_chain.specs.declared.fault.ChainFault.TheVariants as told
use Rattle.smk_chain.specs.Derive.{Listings, wants, wanted_paths, gathered_files, refused_at}
use Rattle.smk_choose_wants.specs.declared.wanted.Want.{Want}
use Rattle.smk_choose_wants.specs.declared.wanted.Want.TheVariants as want
use Rattle.smk_pattern.specs.Shapes.{Text}
use Rattle.smk_choose_wants.specs.Wants.{want_of}
use denote.Ref.{Bor}
use Rattle.smk_chain_walk.specs.declared.stepping.Step.{Step}

-- the fault where nothing makes the path
abbrev pub lack_fault : Flow → Path → Option Lack → ChainFault
lack_fault flow p None = told.NoRule p
lack_fault flow p (Some l) = told.NoInput p (rule_name flow l.rule) l.wanted

-- by which table the choices of what the job wants are known: the one at hand, where it gathers no files, or one of its own
abbrev pub IsInner : Flow → Sources → Listings → Candidate → Option Choices → Type 0
IsInner flow sources L c None = gathered_files flow L c ≡ []
IsInner flow sources L c (Some own) = CoversAll flow sources own 201 (wanted_paths flow L c)

-- what is known of a chosen job, of which nothing is refused itself
pub record IsStep (flow : Flow) (sources : Sources) (L : Listings) (p : Path) (m : Making) (ws : List Want) (own : Option Choices) : Type 0 where
  pub candidate : Candidate
  pub chosen : choose flow sources p ≡ Make candidate
  pub is : m ≡ making candidate
  pub calm : refused_at flow L p (Make candidate) ≡ []
  pub wants : ws ≡ map want_of (wants flow L candidate)
  pub inner : IsInner flow sources L candidate own

-- the path that is wanted, where it is one
abbrev pub path_in : Want → List Path
path_in (want.Path p) = p ∷ []
path_in (want.NoPath t) = []

-- the text that is wanted
abbrev pub text_in : Want → Text
text_in (want.Path p) = p
text_in (want.NoPath t) = t

-- the first directory among these outputs that has the path under it
abbrev pub over_in : List Out → Path → Option Path
over_in outs p = find (is_under p) (map (λ (o : Out). o.path) (filter (λ (o : Out). is_folder_kind o.kind) outs))

abbrev pub outs_in : List OutItem → List Out
outs_in items = flat_map (λ (i : OutItem). i.outs) items

-- a job is chosen for the path, and nothing is refused of the path itself; or it is a source
abbrev pub IsPermitted : Flow → Sources → Listings → Path → Option Making → Type 0
IsPermitted flow sources L p None = choose flow sources p ≡ Source
IsPermitted flow sources L p (Some m) = (c : Candidate) × (choose flow sources p ≡ Make c) × (m ≡ making c) × (refused_at flow L p (Make c) ≡ [])

-- a step where a job is chosen for the path; none where it is a source
abbrev pub IsBegun : Flow → Sources → Listings → Path → Option Step → Type 0
IsBegun flow sources L p None = choose flow sources p ≡ Source
IsBegun flow sources L p (Some step) = IsStep flow sources L p step.making.now step.wants step.own

abbrev pub inner_table : Option Choices → Choices → Choices
inner_table None table = table
inner_table (Some own) table = own

-- the path that is wanted, or the fault that it is none
abbrev pub IsWanted : Flow → Path → ℕ → Want → Result (Bor Path) ChainFault → Type 0
IsWanted flow p rule (want.Path w) (Ok found) = found.now ≡ w
IsWanted flow p rule (want.NoPath t) (Ok found) = ⊥
IsWanted flow p rule (want.Path w) (Err fault) = ⊥
IsWanted flow p rule (want.NoPath t) (Err fault) = fault ≢ told.OutOfMemory → fault ≡ told.NoInput p (rule_name flow rule) t
