-- Whole runs, computed.
use Rattle.std.specs.Prelude.{◌≡◌, ℕ, true, false, List, [], ◌∷◌, ◌++◌, map, codes, bytes_eq, ◌||◌, refl, reverse}
use Rattle.std.specs.List.{flat_map}
use Rattle.std.specs.Fmt.{digits}
use Rattle.smk_base.specs.Place.{record_place}
use Rattle.smk_world.specs.declared.event.Node.TheVariants.{Regular}
use Rattle.smk_world.specs.World.{World, Nodes, world_of}
use Rattle.smk_world.specs.Trees.{Path}
use Rattle.smk_flow.specs.declared.job.Job.{Job}
use Rattle.smk_flow.specs.declared.rule.RulePart.{RulePart}
use Rattle.smk_flow.specs.declared.rule.Flag.{Flag}
use Rattle.smk_flow.specs.Flows.{Flow}
use Rattle.smk_record.specs.declared.record.Stamp.TheVariants.{Time, Made}
use Rattle.smk_record.specs.declared.record.Record.{Record}
use Rattle.smk_chain.specs.Derive.{jobs}
use Rattle.smk_pick.specs.declared.settings.Settings.{Settings}
use Rattle.smk_plan.specs.States.{job_path}
use Rattle.smk_drive.specs.Moments.{Rules}
use Rattle.smk_drive.specs.Reports.{listing_text}
use Rattle.smk_flow.proofs.Examples.{copy, clusters, cat, tee, split, rule, input, output, gathering, flow_of}
use Rattle.smk_chain.proofs.Folders.{fresh, recorded, jobs_in}
use Rattle.smk_plan.proofs.Plans.{with_targets, aggregated, cluster_records, three_known, a_member, plan_with, after_copy, out_txt, one_sample, member_gone}
use Rattle.smk_drive.proofs.Turns.{rules_with, whole_run, drive, start}

abbrev lines : List (List ℕ) → List ℕ
lines texts = flat_map (λ t. t ++ 10 ∷ []) texts

-- ## Listings

pub edited_listing : listing_text copy (plan_with copy (after_copy 2000) out_txt []) ≡ lines
    (codes "run copy out.txt: updated in.txt" ∷ codes "plan: 1 to run, 0 to restore, 0 open, 0 clean" ∷ [])
unfolding digits
edited_listing = refl

pub checkpoint_listing : listing_text clusters (plan_with clusters one_sample aggregated []) ≡ lines
    (codes "run clustering clustering/a: new" ∷ codes "open aggregate aggregated/a.txt" ∷ codes "plan: 1 to run, 0 to restore, 1 open, 0 clean" ∷ [])
unfolding digits
checkpoint_listing = refl

pub restored_listing : listing_text clusters (plan_with clusters member_gone aggregated []) ≡ lines
    (codes "restore clustering clustering/a" ∷ codes "open aggregate aggregated/a.txt" ∷ codes "plan: 0 to run, 1 to restore, 1 open, 0 clean" ∷ [])
unfolding digits
restored_listing = refl

-- ## A checkpoint

abbrev entry : World
entry = world_of ((codes "samples/a.txt", Regular (codes "x\ny\nz\n") 1 false) ∷ [])

-- the checkpoint, what its listing calls for, and what gathers that
pub checkpoint_run : whole_run (rules_with clusters aggregated cluster_records) entry 10 ≡ lines
    (codes "start clustering clustering/a"
    ∷ codes "done clustering clustering/a"
    ∷ codes "start intermediate post/a/1.txt"
    ∷ codes "done intermediate post/a/1.txt"
    ∷ codes "start intermediate post/a/2.txt"
    ∷ codes "done intermediate post/a/2.txt"
    ∷ codes "start intermediate post/a/3.txt"
    ∷ codes "done intermediate post/a/3.txt"
    ∷ codes "start aggregate aggregated/a.txt"
    ∷ codes "done aggregate aggregated/a.txt"
    ∷ codes "current aggregated/a.txt"
    ∷ codes "summary: 5 started, 5 done, 0 failed"
    ∷ [])
unfolding digits
checkpoint_run = refl

-- ## Children side by side, and a plan that is made anew while one runs

abbrev two_cores : List Path → Settings
two_cores targets = record (with_targets targets) { cores = 2 }

abbrev both : Flow
both = flow_of (clusters.rules ++ copy.rules)

abbrev both_targets : Settings
both_targets = two_cores (codes "aggregated/a.txt" ∷ codes "out.txt" ∷ [])

abbrev both_nodes : Nodes
both_nodes = (codes "in.txt", Regular (codes "q") 1 false) ∷ (codes "samples/a.txt", Regular (codes "x\ny\nz\n") 1 false) ∷ []

abbrev both_records : List Record
both_records =
    recorded (jobs_in both (fresh both_nodes) three_known both_targets.targets)
    ((1, Time 1 ∷ [], map a_member (codes "1.txt" ∷ codes "2.txt" ∷ codes "3.txt" ∷ []))
    ∷ (3, Made 1 ∷ [], [])
    ∷ (4, Made 1 ∷ [], [])
    ∷ (5, Made 1 ∷ [], [])
    ∷ (6, Made 3 ∷ Made 4 ∷ Made 5 ∷ [], [])
    ∷ (2, Time 1 ∷ [], [])
    ∷ [])

pub side_by_side : whole_run (rules_with both both_targets both_records) (world_of both_nodes) 12 ≡ lines
    (codes "start clustering clustering/a"
    ∷ codes "start copy out.txt"
    ∷ codes "done clustering clustering/a"
    ∷ codes "start intermediate post/a/1.txt"
    ∷ codes "done copy out.txt"
    ∷ codes "start intermediate post/a/2.txt"
    ∷ codes "done intermediate post/a/1.txt"
    ∷ codes "start intermediate post/a/3.txt"
    ∷ codes "done intermediate post/a/2.txt"
    ∷ codes "done intermediate post/a/3.txt"
    ∷ codes "start aggregate aggregated/a.txt"
    ∷ codes "done aggregate aggregated/a.txt"
    ∷ codes "current aggregated/a.txt"
    ∷ codes "current out.txt"
    ∷ codes "summary: 6 started, 6 done, 0 failed"
    ∷ [])
unfolding digits
side_by_side = refl

-- ## A Restore waits for a child that reads what it made

abbrev pair_rule : RulePart
pair_rule =
    record (rule false (codes "pair") (input (codes "p.txt") ∷ []) (output [] (codes "o1")) tee) {
      outputs = record { name = []; outs = record { text = codes "o1"; flags = [] } ∷ record { text = codes "o2"; flags = [] } ∷ [] } ∷ [];
    }

abbrev waiting : Flow
waiting =
    flow_of
    (rule true (codes "c") (input (codes "in.txt") ∷ []) (output (Flag.Folder ∷ []) (codes "d")) split
    ∷ pair_rule
    ∷ rule false (codes "x") (input (codes "o1") ∷ []) (output [] (codes "x.txt")) cat
    ∷ rule false (codes "y") (input (codes "o2") ∷ []) (output [] (codes "y/{i}.txt")) cat
    ∷ rule false (codes "g") (gathering (codes "c") (codes "{i}.txt") (codes "y/{i}.txt") ∷ []) (output [] (codes "g.txt")) cat
    ∷ [])

abbrev waiting_targets : Settings
waiting_targets = two_cores (codes "x.txt" ∷ codes "g.txt" ∷ [])

-- in plan order: pair, x, c, y, g
abbrev waiting_jobs : List Job
waiting_jobs =
    jobs waiting (record { is = λ p. bytes_eq p (codes "in.txt") || bytes_eq p (codes "p.txt"); holds = λ p. false })
    (record { folder = codes "d"; files = codes "1.txt" ∷ [] } ∷ []) waiting_targets.targets

pub waiting_order : map job_path waiting_jobs ≡ codes "o1" ∷ codes "x.txt" ∷ codes "d" ∷ codes "y/1.txt" ∷ codes "g.txt" ∷ []
waiting_order = refl

abbrev waiting_records : List Record
waiting_records =
    recorded waiting_jobs
    ((1, Time 1 ∷ [], [])
    ∷ (2, Made 1 ∷ [], [])
    ∷ (3, Time 1 ∷ [], map a_member (codes "1.txt" ∷ []))
    ∷ (4, Made 1 ∷ [], [])
    ∷ (5, Made 4 ∷ [], [])
    ∷ [])

-- `pair` has run, and its second output is gone
abbrev waiting_nodes : Nodes
waiting_nodes =
    (record_place (codes "o1"), Regular (codes "o1") 1 false)
    ∷ (record_place (codes "o2"), Regular (codes "o2") 1 false)
    ∷ (codes "in.txt", Regular (codes "a\n") 1 false)
    ∷ (codes "o1", Regular (codes "b\n") 2 false)
    ∷ (codes "p.txt", Regular (codes "b\n") 1 false)
    ∷ []

abbrev waiting_rules : Rules
waiting_rules = rules_with waiting waiting_targets waiting_records

pub waits_for_reader : drive reverse waiting_rules (world_of waiting_nodes) 10 (start waiting_rules (world_of waiting_nodes)) ≡ lines
    (codes "start x x.txt"
    ∷ codes "start c d"
    ∷ codes "done c d"
    ∷ codes "done x x.txt"
    ∷ codes "start pair o1"
    ∷ codes "done pair o1"
    ∷ codes "start y y/1.txt"
    ∷ codes "done y y/1.txt"
    ∷ codes "start g g.txt"
    ∷ codes "done g g.txt"
    ∷ codes "current x.txt"
    ∷ codes "current g.txt"
    ∷ codes "summary: 5 started, 5 done, 0 failed"
    ∷ [])
unfolding digits
waits_for_reader = refl
