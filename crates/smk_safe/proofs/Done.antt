-- What a turn leaves that is done.
use Rattle.std.proofs.Common.{◌≡◌, ℕ, true, false, ◌||◌, List, [], ◌∷◌, ◌++◌, refl, ap, sym, subst, ◌∙◌, Option, Ok, IsTrue, arith, true≢false}
use Rattle.std.specs.Prelude.{map, nat_eq, Contains}
use Rattle.std.specs.List.{list_any, IsDistinct}
use Rattle.std.proofs.lemmas.Bool.{or_right}
use Rattle.smk_base.specs.Path.{is_path, own_folder, is_at_or_under, overlaps}
use Rattle.smk_world.specs.declared.event.Call.TheVariants.{Waited}
use Rattle.smk_world.specs.declared.event.Change.{Change}
use Rattle.smk_world.specs.declared.event.Ended.{Ended}
use Rattle.smk_world.specs.declared.event.Event.{Event}
use Rattle.smk_world.specs.declared.event.NodeState.{NodeState}
use Rattle.smk_world.specs.declared.event.NodeState.TheVariants.{Owned, Known}
use Rattle.smk_world.specs.declared.recipe.Out.{Out}
use Rattle.smk_world.specs.World.{World, after, run, is_within, in_paths, out_paths, firm, firmly, numbers}
use Rattle.smk_world.specs.Calls.{Lets, HasOwners, owned_now, started_numbers}
use Rattle.smk_world.specs.Runs.{Follows}
use Rattle.smk_world.specs.Requests.{Request, HasDone}
use Rattle.smk_world.specs.Trees.{Path, Act, Each, outs_of}
use Rattle.smk_world.proofs.Runs.{run_append}
use Rattle.smk_world.proofs.Owners.{AreNumbered, numbered_after, numbered_run, owned_after, owned_run}
use Rattle.smk_record.specs.declared.record.Member.{Member}
use Rattle.smk_job.specs.Jobs.{begin_requests, finish_requests, bytes_with}
use Rattle.smk_job.specs.Sights.{AreSeen}
use Rattle.smk_job.proofs.Children.{is_crew, done_children}
use Rattle.smk_job.proofs.Launching.{before_start, before_files}
use Rattle.smk_job.proofs.Outs.{paths_same}
use Rattle.smk_job.proofs.Single.{IsKnown}
use Rattle.smk_run.specs.declared.ending.Ending.TheVariants.{Good, Status, NoOutput, WrongKind, BadMember}
use Rattle.smk_run.specs.Digesting.{HasDigested}
use Rattle.smk_run.specs.Stamps.{Serials}
use Rattle.smk_run.specs.Closings.{wait_event}
use Rattle.smk_run.specs.Turns.{Course, Unbegun, Unstarted, Unclosed, Closed, Turn, found, as_underway, HasGone, HasStampedAnd, IsTurnBy, is_done}
use Rattle.smk_safe.specs.Leaving.{owned, MayCome, IsFirm, IsRecorded, HasLeft, DoneTurnLeaves}
use Rattle.smk_safe.proofs.Keeping.{Spares, AreAside, run_kept}
use Rattle.smk_run.proofs.Calls.{each_first, OfLooks, done_each, seen_each, digested_each}
use Rattle.smk_safe.proofs.Sparing.{IsOffTurn, spared_begin, spared_looks, off_overlap}
use Rattle.smk_safe.proofs.Kept.{IsAllKnown, AllFirm, has_kept, keep_files, apart_differ, differ_first}
use Rattle.smk_safe.proofs.TreeMoves.{StaysUnder, stays_same, stays_firm, contents_moved, outputs_moved, IsMadeFirm, kind_firm}
use Rattle.smk_run.proofs.Telling.{files_children, started_after}
use Rattle.smk_safe.proofs.Starting.{HasEnded, has_ended}

-- ## Its events, one part after another

pub record HasParts (made : Serials) (t : Turn) (w : World) (es : List Event) : Type 0 where
  pub seen : List Event
  pub first : List Event
  pub looks : List Event
  pub last : List Event
  pub number : ℕ
  pub ended : Ended
  pub left : List Change
  pub members : List (List Member)
  pub events : es ≡ seen ++ (first ++ (wait_event ended left ∷ (looks ++ last)))
  pub stamped : HasDigested made (in_paths t.job.recipe) (found t.looked) w seen
  pub begun : HasDone (begin_requests t.job.recipe t.job.logs t.command) first
  pub started : started_numbers first ≡ number ∷ []
  pub good : ended.status ≡ 0
  pub outputs : AreSeen (after (run (run w seen) first) (wait_event ended left)).nodes (outs_of t.job.recipe) members looks
  pub kept : HasDone (finish_requests (as_underway t number) members) last

good_parts : (made : Serials) (t : Turn) (w : World) (es : List Event) → HasStampedAnd made t (HasGone t (Closed Good)) w es → HasParts made t w es
good_parts made t w es h =
    let b = h.then_did in
    let c = b.then_did in
    let d = c.then_did in
    let s = d.1.1 in
    record {
      seen = h.seen;
      first = b.first;
      looks = s.looks;
      last = s.rest;
      number = b.number;
      ended = c.ended;
      left = c.left;
      members = d.1.0;
      events =
          h.events ∙ ap (λ (l : List Event). h.seen ++ l)
          (b.events ∙ ap (λ (l : List Event). b.first ++ l)
          (c.events ∙ ap (λ (l : List Event). wait_event c.ended c.left ∷ l) s.events));
      stamped = h.stamped;
      begun = b.begun;
      started = b.started;
      good = d.0;
      outputs = s.seen;
      kept = s.done;
    }

parts_by : (made : Serials) (t : Turn) (c : Course) (w : World) (es : List Event) → IsTurnBy made t c w es → is_done c ≡ true → HasParts made t w es
parts_by made t Unbegun w es h done = absurd (true≢false (sym done))
parts_by made t Unstarted w es h done = absurd (true≢false (sym done))
parts_by made t Unclosed w es h done = absurd (true≢false (sym done))
parts_by made t (Closed Good) w es h done = good_parts made t w es h
parts_by made t (Closed (Status n)) w es h done = absurd (true≢false (sym done))
parts_by made t (Closed (NoOutput p)) w es h done = absurd (true≢false (sym done))
parts_by made t (Closed (WrongKind p)) w es h done = absurd (true≢false (sym done))
parts_by made t (Closed (BadMember p)) w es h done = absurd (true≢false (sym done))

-- ## Nothing runs

pub follows_split : (act : Act) (w : World) (es fs : List Event) → Follows act w (es ++ fs) → Follows act w es × Follows act (run w es) fs
follows_split act w [] fs h = (tt, h)
follows_split act w (e ∷ es) fs h = let more = follows_split act (after w e) es fs h.1 in ((h.0, more.0), more.1)

no_numbers : (w : World) → w.children ≡ [] → IsDistinct nat_eq (numbers w.children)
unfolding IsDistinct
no_numbers w none = subst (λ cs. IsDistinct nat_eq (numbers cs)) (sym none) tt

never_in : (n : ℕ) → Contains [] n → ⊥
never_in n h = omega (arith, h.1)

idle_numbered : (w : World) → w.children ≡ [] → AreNumbered w
idle_numbered w none = record {
  distinct = no_numbers w none;
  started = λ n h. absurd (never_in n (subst (λ cs. Contains (numbers cs) n) none h));
}

known_else : (s : NodeState) → (s ≡ Owned → ⊥) → IsKnown s
known_else Owned never = absurd (never refl)
known_else (Known now besides) never = tt

pub idle_known : (w : World) → w.children ≡ [] → HasOwners w → IsAllKnown w
idle_known w none owners = λ q. known_else (w.nodes q) (λ e. true≢false (sym (owners q e) ∙ ap (λ cs. is_within q (owned_now cs)) none))

-- ## The inputs are as they were

pub begun_kept : (made : Serials) (t : Turn) (w : World) (seen first : List Event) (q : Path) → w.children ≡ []
    → HasDigested made (in_paths t.job.recipe) (found t.looked) w seen → HasDone (begin_requests t.job.recipe t.job.logs t.command) first → (run w seen).children ≡ []
    → IsOffTurn true q t → (run (run w seen) first).nodes q ≡ w.nodes q
begun_kept made t w seen first q none stamped begun still h =
    run_kept true q (run w seen) first
    (done_each (Spares true q) (begin_requests t.job.recipe t.job.logs t.command) first (spared_begin true t.job.recipe t.job.logs t.command q h) begun)
    (subst (AreAside q) (sym still) tt)
    ∙ run_kept true q w seen (digested_each (Spares true q) (spared_looks true q) made (in_paths t.job.recipe) (found t.looked) w seen stamped) (subst (AreAside q) (sym none) tt)

pub inputs_stay : (t : Turn) (w u : World) → ((q : Path) → IsOffTurn true q t → u.nodes q ≡ w.nodes q)
    → (ps : List Path) → Each (λ p. (is_at_or_under p own_folder ≡ false) × (list_any (overlaps p) (owned t) ≡ false)) ps → Each (StaysUnder w u) ps
inputs_stay t w u same [] h = tt
inputs_stay t w u same (p ∷ ps) h = (
  (λ q at. stays_same (w.nodes q) (u.nodes q) (same q (off_overlap t p q h.0.0 h.0.1 at))),
  inputs_stay t w u same ps h.1,
)

-- ## The outputs

-- what is at or under one of these is within all
pub within_each : (all ps : List Path) → ((q : Path) → is_within q ps ≡ true → is_within q all ≡ true) → Each (λ p. (q : Path) → is_at_or_under q p ≡ true → is_within q all ≡ true) ps
within_each all [] h = tt
within_each all (p ∷ ps) h = (
  (λ q at. h q (ap (λ v. v || is_within q ps) at)),
  within_each all ps (λ q k. h q (or_right (is_at_or_under q p) (is_within q ps) k)),
)

outputs_stay : (w v : World) (all ps : List Path) → ((q : Path) → is_within q all ≡ true → v.nodes q ≡ firm (w.nodes q))
    → Each (λ p. (q : Path) → is_at_or_under q p ≡ true → is_within q all ≡ true) ps → Each (StaysUnder w v) ps
outputs_stay w v all [] same h = tt
outputs_stay w v all (p ∷ ps) same h = ((λ q at. stays_firm (w.nodes q) (v.nodes q) (same q (h.0 q at))), outputs_stay w v all ps same h.1)

firm_now : (s t : NodeState) → t ≡ firm s → IsKnown s → IsFirm t
firm_now s t e known = go s (λ n k. (n, e ∙ k)) known
  where
    go : (x : NodeState) → ((n : Option _) → firm x ≡ firmly n → IsFirm t) → IsKnown x → IsFirm t
    go Owned f h = absurd h
    go (Known now besides) f h = f now refl

all_recorded : (t : Turn) (number : ℕ) (w v : World) (outs : List Out) (members : List (List Member)) (looks : List Event)
    → AreSeen w.nodes outs members looks
    → AllFirm v (map (λ (out : Out). out.path) outs) (bytes_with (as_underway t number) (map (λ (out : Out). out.path) outs) members)
    → ((q : Path) → is_within q (map (λ (out : Out). out.path) outs) ≡ true → v.nodes q ≡ firm (w.nodes q))
    → Each (IsRecorded t v) outs
all_recorded t number w v [] members looks seen firm_files same = tt
all_recorded t number w v (out ∷ outs) [] looks seen firm_files same = absurd seen
all_recorded t number w v (out ∷ outs) (m ∷ members) looks (first, more, e, looked, quiet, kind, next) firm_files same =
    let here : IsMadeFirm w.nodes v.nodes out.path = λ q at. same q (ap (λ b. b || is_within q (map (λ (o : Out). o.path) outs)) at) in (
      record {
        members = m;
        kind = kind_firm w.nodes v.nodes out.path out.kind m here kind;
        time = firm_files.0.0;
        read_only = firm_files.0.1;
        stands = firm_files.0.2;
      },
      all_recorded t number w v outs members more next firm_files.1 (λ q k. same q (or_right (is_at_or_under q out.path) (is_within q (map (λ (o : Out). o.path) outs)) k)),
    )

-- ## All of it

crewless : OfLooks (λ (r : Request). is_crew r ≡ false)
crewless = record { look = λ p. refl; read = λ p limit. refl; listed = λ p. refl }

left_by : (act : Act) (made : Serials) (t : Turn) (w : World) (seen first looks last : List Event) (number : ℕ) (ended : Ended) (left : List Change) (members : List (List Member))
    → MayCome t w
    → Follows act w seen → Follows act (run w seen) first → Lets act (run (run w seen) first) (Waited (Ok ended)) left
    → Follows act (after (run (run w seen) first) (wait_event ended left)) looks → Follows act (run (after (run (run w seen) first) (wait_event ended left)) looks) last
    → HasDigested made (in_paths t.job.recipe) (found t.looked) w seen → HasDone (begin_requests t.job.recipe t.job.logs t.command) first → started_numbers first ≡ number ∷ [] → ended.status ≡ 0
    → AreSeen (after (run (run w seen) first) (wait_event ended left)).nodes (outs_of t.job.recipe) members looks
    → HasDone (finish_requests (as_underway t number) members) last
    → HasLeft act t w (run (run (after (run (run w seen) first) (wait_event ended left)) looks) last)
left_by act made t w seen first looks last number ended left members may f1 f2 lets f3 f4 stamped begun started good outputs kept =
    let recipe = t.job.recipe in
    let outs = out_paths recipe in
    let w1 = run w seen in
    let u = run w1 first in
    let v0 = after u (wait_event ended left) in
    let v1 = run v0 looks in
    let v = run v1 last in
    let bytes = bytes_with (as_underway t number) outs members in
    let none1 : w1.children ≡ [] = files_children w seen (digested_each (λ (r : Request). is_crew r ≡ false) crewless made (in_paths recipe) (found t.looked) w seen stamped) ∙ may.none_runs in
    let runs = started_after (before_start recipe t.job.logs) recipe t.job.logs t.command number w1 first (before_files recipe t.job.logs) begun started ∙ ap (λ cs. cs ++ record { number = number; recipe = recipe; logs = t.job.logs } ∷ []) none1 in
    let end : HasEnded act recipe ended u v0 = has_ended act recipe t.job.logs number u ended left runs lets in
    let none2 : v1.children ≡ [] = files_children v0 looks (seen_each (λ (r : Request). is_crew r ≡ false) crewless v0.nodes (outs_of recipe) members looks outputs) ∙ end.children in
    let none3 : v.children ≡ [] = done_children (finish_requests (as_underway t number) members) v1 last (keep_files outs t.job.logs bytes) kept ∙ none2 in
    let numbered = idle_numbered w may.none_runs in
    let numbered1 = numbered_run act w seen f1 numbered in
    let owners1 = owned_run act w seen f1 numbered may.owners in
    let numbered_u = numbered_run act w1 first f2 numbered1 in
    let owners_u = owned_run act w1 first f2 numbered1 owners1 in
    let owners_v0 = owned_after u (wait_event ended left) numbered_u owners_u in
    let numbered_v0 = numbered_after act u (wait_event ended left) lets numbered_u in
    let owners_v1 = owned_run act v0 looks f3 numbered_v0 owners_v0 in
    let numbered_v1 = numbered_run act v0 looks f3 numbered_v0 in
    let known0 = idle_known v0 end.children owners_v0 in
    let same_nodes : (q : Path) → v1.nodes q ≡ v0.nodes q =
    λ q. run_kept true q v0 looks (seen_each (Spares true q) (spared_looks true q) v0.nodes (outs_of recipe) members looks outputs) (subst (AreAside q) (sym end.children) tt) in
    let paths = each_first (λ p. IsTrue (is_path p)) outs t.job.logs may.users in
    let differ = differ_first outs t.job.logs (apart_differ (owned t) may.apart) in
    let done = has_kept act outs t.job.logs bytes v1 last paths differ (idle_known v1 none2 owners_v1) f4 kept in
    let firmed : (q : Path) → is_within q outs ≡ true → v.nodes q ≡ firm (v0.nodes q) = λ q within. done.outputs q within ∙ ap firm (same_nodes q) in
    let same_paths = paths_same recipe.outputs in
    record {
      none_runs = none3;
      owners = owned_run act v1 last f4 numbered_v1 owners_v1;
      given = λ apart trees contents.
          let now = end.success good trees
          (contents_moved w u (in_paths recipe) trees (inputs_stay t w u (λ q h. begun_kept made t w seen first q may.none_runs stamped begun none1 h) (in_paths recipe) apart) contents) in
          (now.0, outputs_moved v0 v outs (act recipe trees).outputs (outputs_stay v0 v outs outs firmed (within_each outs outs (λ q h. h))) now.1);
      settled = λ q within. firm_now (v0.nodes q) (v.nodes q) (firmed q within) (known0 q);
      recorded = all_recorded t number v0 v (outs_of recipe) members looks outputs
          (subst (λ ps. AllFirm v ps (bytes_with (as_underway t number) ps members)) (sym same_paths) done.recorded)
          (subst (λ ps. (q : Path) → is_within q ps ≡ true → v.nodes q ≡ firm (v0.nodes q)) (sym same_paths) firmed);
      unmarked = done.unmarked;
    }

left_parts : (act : Act) (made : Serials) (t : Turn) (w : World) (es : List Event) → MayCome t w → Follows act w es → HasParts made t w es → HasLeft act t w (run w es)
left_parts act made t w es may follows h =
    let wait = wait_event h.ended h.left in
    let w1 = run w h.seen in
    let u = run w1 h.first in
    let v0 = after u wait in
    let a = follows_split act w h.seen (h.first ++ (wait ∷ (h.looks ++ h.last))) (subst (Follows act w) h.events follows) in
    let b = follows_split act w1 h.first (wait ∷ (h.looks ++ h.last)) a.1 in
    let c = follows_split act v0 h.looks h.last b.1.1 in
    let end : run w es ≡ run (run v0 h.looks) h.last =
    ap (run w) h.events ∙ run_append w h.seen (h.first ++ (wait ∷ (h.looks ++ h.last))) ∙ run_append w1 h.first (wait ∷ (h.looks ++ h.last)) ∙ run_append v0 h.looks h.last in
    subst (HasLeft act t w) (sym end)
    (left_by act made t w h.seen h.first h.looks h.last h.number h.ended h.left h.members may a.0 b.0 b.1.0.lets c.0 c.1 h.stamped h.begun h.started h.good h.outputs h.kept)

pub done_turn_leaves : DoneTurnLeaves
done_turn_leaves act made t w es may follows is done = left_parts act made t w es may follows (parts_by made t t.course w es is done)
