-- The folder of a run stays one that can be, and looks leave all.
use Rattle.std.proofs.Common.{◌≡◌, inl, inr, ℕ, Bool, true, false, not, List, [], ◌∷◌, ◌++◌, cond, refl, ap, sym, subst, Ok, arith}
use Rattle.std.specs.Prelude.{Contains, nat_eq}
use Rattle.std.specs.List.{filter}
use Rattle.std.proofs.lemmas.List.Elements.{Contains-append_left, Contains-append_right, Contains-append_cases, Contains-push_cases}
use Rattle.smk_world.specs.declared.event.Call.{Call}
use Rattle.smk_world.specs.declared.event.Call.TheVariants.{Started, Waited}
use Rattle.smk_world.specs.declared.event.Change.{Change}
use Rattle.smk_world.specs.declared.event.Child.{Child}
use Rattle.smk_world.specs.declared.event.Event.{Event}
use Rattle.smk_world.specs.Calls.{started_number, started_numbers}
use Rattle.smk_world.specs.Trees.{IsIn}
use Rattle.smk_world.specs.World.{World, after, numbers, reading, run}
use Rattle.smk_world.proofs.Folders.{tree_run}
use Rattle.smk_world.proofs.Names.{formed_run}
use Rattle.smk_store.specs.Images.{image_by}
use Rattle.smk_store.specs.Soundness.{SameSources}
use Rattle.smk_flow.specs.declared.job.Job.{Job}
use Rattle.smk_drive.specs.Moments.{Rules, seen}
use Rattle.smk_laws_plan.specs.Signs.{HasOwnSigns}
use Rattle.smk_laws_moments.proofs.LooksLike.{like_looks}
use Rattle.smk_laws_turns.specs.Hubs.{IsOurs, IsSigned}
use Rattle.smk_laws_turns.specs.Homes.{HomeStays, IsLookedAt, LooksLeaveAll, LooksLeaveOurs}

-- ## The children that run were started

-- each child that runs was started
abbrev AreStarted : World → Type 0
AreStarted w = (n : ℕ) → Contains (numbers w.children) n → Contains (started_numbers w.log) n

-- the children but those with this number
abbrev others : ℕ → List Child → List Child
others number cs = filter (λ c. not (nat_eq c.number number)) cs

contains_first : (m n : ℕ) (ns : List ℕ) → m ≡ n → Contains (m ∷ ns) n
contains_first m n ns e = (0, omega arith, e)

contains_fewer : (n number : ℕ) (cs : List Child) → Contains (numbers (others number cs)) n → Contains (numbers cs) n
contains_fewer n number [] h = h
contains_fewer n number (c ∷ cs) h = at (not (nat_eq c.number number)) (λ k. Contains-append_right (c.number ∷ []) (numbers cs) n (contains_fewer n number cs k)) h
  where
    at : (v : Bool) → (Contains (numbers (others number cs)) n → Contains (numbers (c ∷ cs)) n) → Contains (numbers (cond v (c ∷ others number cs) (others number cs))) n → Contains (numbers (c ∷ cs)) n
    at true later h =
        elim (Contains-append_cases (c.number ∷ []) (numbers (others number cs)) n h) [
          | inl k ↦ Contains-append_left (c.number ∷ []) (numbers cs) n k
          | inr k ↦ later k
        ]
    at false later h = later h

numbers_added : (cs : List Child) (c : Child) → numbers (cs ++ c ∷ []) ≡ numbers cs ++ c.number ∷ []
numbers_added [] c = refl
numbers_added (d ∷ cs) c = ap (λ ns. d.number ∷ ns) (numbers_added cs c)

started_before : (n : ℕ) (es fs : List Event) → Contains (started_numbers es) n → Contains (started_numbers (es ++ fs)) n
started_before n [] fs h = absurd (omega (arith, h.1))
started_before n (e ∷ es) fs h =
    elim (Contains-append_cases (started_number e.call) (started_numbers es) n h) [
      | inl k ↦ Contains-append_left (started_number e.call) (started_numbers (es ++ fs)) n k
      | inr k ↦ Contains-append_right (started_number e.call) (started_numbers (es ++ fs)) n (started_before n es fs k)
    ]

started_last : (n : ℕ) (es : List Event) (e : Event) → Contains (started_number e.call) n → Contains (started_numbers (es ++ e ∷ [])) n
started_last n [] e h = Contains-append_left (started_number e.call) [] n h
started_last n (d ∷ es) e h = Contains-append_right (started_number d.call) (started_numbers (es ++ e ∷ [])) n (started_last n es e h)

started_after : (w : World) (call : Call) (left : List Change) → AreStarted w → AreStarted (after w (record { call = call; left = left }))
started_after w (Started recipe logs command (Ok number)) left h n k =
    let event : Event = record { call = Started recipe logs command (Ok number); left = left } in
    elim (Contains-push_cases (numbers w.children) number n (subst (λ ns. Contains ns n) (numbers_added w.children (record { number = number; recipe = recipe; logs = logs })) k)) [
      | inl j ↦ started_before n w.log (event ∷ []) (h n j)
      | inr e ↦ started_last n w.log event (contains_first number n [] e)
    ]
started_after w (Waited (Ok ended)) left h n k = started_before n w.log (record { call = Waited (Ok ended); left = left } ∷ []) (h n (contains_fewer n ended.number w.children k))
started_after w call left h n k = started_before n w.log (record { call = call; left = left } ∷ []) (h n k)

started_run : (w : World) (es : List Event) → AreStarted w → AreStarted (run w es)
started_run w [] h = h
started_run w (e ∷ es) h = started_run (after w e) es (started_after w e.call e.left h)

pub home_stays : HomeStays
home_stays act entry w es follows home = record {
  found = home.found;
  formed = formed_run w es home.formed;
  tree = tree_run act w es home.tree follows;
  numbered = started_run w es home.numbered;
}

-- ## Looks

pub looks_leave_all : LooksLeaveAll
looks_leave_all act failure w es looks follows =
    let like = like_looks act failure w es looks follows in record { names = sym like.0; nodes = sym like.1; children = sym like.2 }

-- what the run has made of its folder is there still
pub ours_stay : (rules : Rules) (entry w v : World) (jobs : List Job) → IsLookedAt w v → IsOurs rules entry jobs w → IsOurs rules entry jobs v
ours_stay rules entry w v jobs same ours =
    let seen_same : seen rules w ≡ seen rules v = λ i. image_by rules.read (sym same.names i) (λ q. reading (sym same.nodes i q)) in
    record {
      sources = subst (SameSources (seen rules entry)) seen_same ours.sources;
      signs = subst (λ x. HasOwnSigns (seen rules entry) x jobs) seen_same ours.signs;
      gone = subst (λ x. HasOwnSigns x (seen rules entry) jobs) seen_same ours.gone;
      signed = λ c i. subst (λ x. IsSigned x c.recipe c.logs) seen_same (ours.signed c (subst (λ cs. IsIn cs c) same.children i));
    }

pub looks_leave_ours : LooksLeaveOurs
looks_leave_ours act failure rules entry w jobs es looks follows ours = ours_stay rules entry w (run w es) jobs (looks_leave_all act failure w es looks follows) ours
