-- Turns that are fed by clean values succeed one after another.
use Rattle.std.proofs.Common.{◌≡◌, inl, inr, ℕ, true, false, not, ◌&&◌, List, [], ◌∷◌, ◌++◌, refl, ap, sym, subst, ◌∙◌, Option, Some, None, IsTrue, true≢false}
use Rattle.std.specs.Prelude.{map, bytes_eq, if◌then◌else◌, ◌==◌}
use Rattle.std.specs.List.{list_any, AllZip}
use Rattle.std.proofs.lemmas.Bool.{eq-eqb, and_parts, not-true}
use Rattle.smk_job.proofs.Lists.{each_in}
use Rattle.smk_safe.proofs.Clean.{apart_first, none_in, picked, passed}
use Rattle.smk_chain.proofs.Inputs.{each_append}
use Rattle.smk_base.specs.Path.{is_path, overlaps}
use Rattle.smk_base.specs.declared.tree.Tree.{Tree}
use Rattle.smk_base.specs.declared.tree.Tree.TheVariants.{File, Folder}
use Rattle.smk_base.proofs.Under.{at_itself}
use Rattle.smk_base.proofs.Apart.{path_outside}
use Rattle.smk_base.proofs.Places.{place_itself}
use Rattle.smk_world.specs.declared.event.Event.{Event}
use Rattle.smk_world.specs.declared.recipe.Kind.{Kind}
use Rattle.smk_world.specs.declared.recipe.Kind.TheVariants.{Plain, Folder as FolderKind}
use Rattle.smk_world.specs.declared.recipe.Out.{Out}
use Rattle.smk_world.specs.World.{World, run, in_paths, out_paths}
use Rattle.smk_world.specs.Calls.{ContentsAre, HasOwners, MaybeTreeAt, OutputsAre, TreeAt, are_apart, HoldsBytes}
use Rattle.smk_world.specs.Runs.{Follows}
use Rattle.smk_world.specs.Trees.{Path, Each, IsIn, all_of, are_good, is_good, outs_of, tree_among, tree_given, value_at}
use Rattle.smk_world.proofs.Runs.{run_append}
use Rattle.smk_flow.specs.declared.job.Job.{Job}
use Rattle.smk_choose.specs.Choose.{choose, Make}
use Rattle.smk_chain.specs.Mean.{Setting, clean_value}
use Rattle.smk_job.proofs.Outs.{paths_same}
use Rattle.smk_run.specs.Stamps.{Serials}
use Rattle.smk_run.specs.Statuses.{AreGiven}
use Rattle.smk_run.specs.Turns.{Turn, AreTurns, IsTurn, is_closed, is_done}
use Rattle.smk_safe.specs.Leaving.{owned, MayCome}
use Rattle.smk_safe.specs.Clean.{IsCleanIn}
use Rattle.smk_safe.specs.Running.{AreArranged, IsOrderly, LeavesAlone}
use Rattle.smk_safe.proofs.Sparing.{off_overlap, turn_kept}
use Rattle.smk_safe.proofs.Done.{done_turn_leaves, follows_split}
use Rattle.smk_laws_plan.proofs.CurrentLists.{some_inj}
use Rattle.smk_laws_plan.proofs.CurrentValues.{all_parts}
use Rattle.smk_laws_driven.specs.TurnsSucceeding.{CanSucceed}
use Rattle.smk_laws_driven.specs.Feeding.{AreFed, FedTurnsSucceed, IsGoodTurn, IsLeftAlone, NextTurnIsFed}
use Rattle.smk_laws_driven.proofs.TurnsSucceeding.{good_jobs_can_succeed, told_split, turns_succeed}

-- ## Lists

each_map : {A : Type 0} (P Q : A → Type 0) → ((x : A) → P x → Q x) → (xs : List A) → Each P xs → Each Q xs
each_map P Q f [] h = tt
each_map P Q f (x ∷ xs) h = (f x h.0, each_map P Q f xs h.1)

in_first : {A : Type 0} (xs ys : List A) (x : A) → IsIn xs x → IsIn (xs ++ ys) x
in_first [] ys x h = absurd h
in_first (y ∷ xs) ys x (inl e) = inl e
in_first (y ∷ xs) ys x (inr h) = inr (in_first xs ys x h)

-- ## The tree at one output

plain_good : (p : Path) (kind : Kind) (t : Option Tree) → kind ≡ Plain → is_good p kind t ≡ true → (held : List ℕ) × (t ≡ Some (File held))
plain_good p FolderKind t e h = cc
plain_good p Plain None e h = absurd (true≢false (sym h))
plain_good p Plain (Some (File held)) e h = (held, refl)
plain_good p Plain (Some (Folder entries)) e h = absurd (true≢false (sym h))

-- the file that the command made of an output stands there
pub record IsMadeFile (outs : List Out) (trees : List (Option Tree)) (v : World) (p : Path) : Type 0 where
  pub held : List ℕ
  pub holds : HoldsBytes held (v.nodes p)
  pub is : tree_among outs trees p ≡ Some (File held)

made_file :
    (v : World) (outs : List Out) (trees : List (Option Tree)) (p : Path) → are_apart (map (λ (out : Out). out.path) outs) ≡ true →
    Each (λ (out : Out). out.kind ≡ Plain) outs → are_good outs trees ≡ true →
    IsIn (map (λ (out : Out). out.path) outs) p → AllZip (λ q tree. MaybeTreeAt v q tree) (map (λ (out : Out). out.path) outs) trees → IsMadeFile outs trees v p
made_file v [] trees p apart plain good i h = absurd i
made_file v (out ∷ outs) [] p apart plain good i h = absurd h
made_file v (out ∷ outs) (t ∷ trees) p apart plain good (inl e) h =
    let f = plain_good out.path out.kind t plain.0 (and_parts (is_good out.path out.kind t) (are_good outs trees) good).0 in
    record {
      held = f.0;
      holds = subst (λ x. HoldsBytes f.0 (v.nodes x)) (sym e) (subst (MaybeTreeAt v out.path) f.1 h.0);
      is = picked out.path p t (tree_among outs trees p) (ap (bytes_eq out.path) e ∙ place_itself out.path) ∙ f.1;
    }
made_file v (out ∷ outs) (t ∷ trees) p apart plain good (inr i) h =
    let ps = map (λ (o : Out). o.path) outs in
    let both = and_parts (not (list_any (overlaps out.path) ps)) (are_apart ps) apart in
    let later = made_file v outs trees p both.1 plain.1 (and_parts (is_good out.path out.kind t) (are_good outs trees) good).1 i h.1 in
    record {
      held = later.held;
      holds = later.holds;
      is = passed out.path p t (tree_among outs trees p) (none_in out.path p ps (not-true (list_any (overlaps out.path) ps) both.0) i) ∙ later.is;
    }

-- ## One turn

module _ (S : Setting) where
  -- inputs that hold their clean values have them as contents
  contents_of :
      (w : World) (ps : List Path) (trees : List Tree) → Each (IsCleanIn S 200 w) ps → all_of (map (clean_value S) ps) ≡ Some trees →
      AllZip (λ p tree. TreeAt w p tree) ps trees
  contents_of w [] trees h e = subst (λ ts. AllZip (λ p tree. TreeAt w p tree) [] ts) (some_inj [] trees e) tt
  contents_of w (p ∷ ps) trees h e =
      let r = all_parts (clean_value S p) (map (clean_value S) ps) trees e in
      let same = some_inj (File h.0.held) r.0 (sym h.0.clean ∙ r.2) in
      subst (λ ts. AllZip (λ p tree. TreeAt w p tree) (p ∷ ps) ts) (sym r.4) (subst (TreeAt w p) same h.0.holds, contents_of w ps r.1 h.1 r.3)

  -- what the turn leaves alone holds its clean value still
  held_on :
      (made : Serials) (t : Turn) (ts : List Turn) (w : World) (es : List Event) (p : Path) → w.children ≡ [] → IsTurn made t w es →
      IsLeftAlone (t ∷ ts) p → IsCleanIn S 200 w p → IsCleanIn S 200 (run w es) p
  held_on made t ts w es p none is alone h =
      let same : (run w es).nodes p ≡ w.nodes p = turn_kept true made t w es p none is (off_overlap t p p alone.outside alone.clear.0 (at_itself p)) in
      record { held = h.held; holds = subst (HoldsBytes h.held) (sym same) h.holds; clean = h.clean }

  left_later : (t : Turn) (ts : List Turn) (p : Path) → IsLeftAlone (t ∷ ts) p → IsLeftAlone ts p
  left_later t ts p h = record { outside = h.outside; clear = h.clear.1 }

  -- of a done turn an output for which its job is chosen holds its clean value
  made_clean :
      (t : Turn) (g : IsGoodTurn S t) (v : World) (p : Path) → are_apart (owned t) ≡ true → OutputsAre v t.job.recipe (S.act t.job.recipe g.good.inputs).outputs →
      IsIn (out_paths t.job.recipe) p → choose S.flow S.sources p ≡ Make g.by → IsCleanIn S 200 v p
  made_clean t g v p apart outputs i e =
      let recipe = t.job.recipe in
      let can = good_jobs_can_succeed S g.lists g.by t g.good g.of_job g.plain in
      let same_paths = paths_same recipe.outputs in
      let f =
      made_file v (outs_of recipe) (S.act recipe g.good.inputs).outputs p
      (subst (λ ps. are_apart ps ≡ true) (sym same_paths) (apart_first (out_paths recipe) t.job.logs apart)) g.plain can.good
      (subst (λ ps. IsIn ps p) (sym same_paths) i)
      (subst (λ ps. AllZip (λ q tree. MaybeTreeAt v q tree) ps (S.act recipe g.good.inputs).outputs) (sym same_paths) outputs) in
      let given : tree_given (outs_of recipe) (S.act recipe g.good.inputs) p ≡ Some (File f.held) =
      ap (λ b. if b then tree_among (outs_of recipe) (S.act recipe g.good.inputs).outputs p else None) (both can) ∙ f.is in
      record {
        held = f.held;
        holds = f.holds;
        clean = g.good.outputs p e ∙ ap (λ (j : Job). value_at S.act j.recipe p (Some g.good.inputs)) (sym g.of_job) ∙ given;
      }
    where
      both :
          CanSucceed S.act t g.good.inputs →
          ((S.act t.job.recipe g.good.inputs).status == 0 && are_good (outs_of t.job.recipe) (S.act t.job.recipe g.good.inputs).outputs) ≡ true
      both can = let a = eq-eqb (S.act t.job.recipe g.good.inputs).status 0 can.status in let b = can.good in λ i. a i && b i

  -- and later turns leave its outputs alone
  output_alone : (t : Turn) (ts : List Turn) (p : Path) → IsOrderly t → Each (LeavesAlone t) ts → IsIn (out_paths t.job.recipe) p → IsLeftAlone ts p
  output_alone t ts p orderly alone i =
      let own = in_first (out_paths t.job.recipe) t.job.logs p i in
      record {
        outside = path_outside p (each_in (λ p. IsTrue (is_path p)) (owned t) p orderly.users own);
        clear = each_map (LeavesAlone t) (λ (u : Turn). list_any (overlaps p) (owned u) ≡ false) (λ u h. each_in (λ p. list_any (overlaps p) (owned u) ≡ false) (owned t) p h.own own) ts alone;
      }

  -- ## All turns

  -- what holds as turns come
  pub record IsFed (held : List Path) (ts : List Turn) (w : World) : Type 0 where
    pub none_runs : w.children ≡ []
    pub owners : HasOwners w
    pub clean : Each (IsCleanIn S 200 w) held
    pub alone : Each (IsLeftAlone ts) held
    pub arranged : AreArranged ts
    pub feeds : AreFed S held ts

  pub may_come : (held : List Path) (t : Turn) (ts : List Turn) (w : World) → IsFed held (t ∷ ts) w → MayCome t w
  may_come held t ts w h =
      record { none_runs = h.none_runs; owners = h.owners; users = h.arranged.0.users; apart = h.arranged.0.apart }

  pub inputs_clean : (held : List Path) (t : Turn) (ts : List Turn) (w : World) → IsFed held (t ∷ ts) w → Each (IsCleanIn S 200 w) (in_paths t.job.recipe)
  inputs_clean held t ts w h =
      each_map (IsIn held) (IsCleanIn S 200 w) (λ p i. each_in (IsCleanIn S 200 w) held p h.clean i) (in_paths t.job.recipe) h.feeds.1

  both_on :
      (made : Serials) (t : Turn) (ts : List Turn) (w : World) (es : List Event) (ps : List Path) → w.children ≡ [] → IsTurn made t w es →
      Each (IsLeftAlone (t ∷ ts)) ps → Each (IsCleanIn S 200 w) ps → Each (IsCleanIn S 200 (run w es)) ps
  both_on made t ts w es [] none is alone h = tt
  both_on made t ts w es (p ∷ ps) none is alone h = (held_on made t ts w es p none is alone.0 h.0, both_on made t ts w es ps none is alone.1 h.1)

  -- a turn that is closed is done, and the next ones are fed
  step :
      (made : Serials) (held : List Path) (t : Turn) (ts : List Turn) (w : World) (es : List Event) → IsFed held (t ∷ ts) w → Follows S.act w es →
      AreGiven S.act ⊥ w es → IsTurn made t w es → is_closed t.course ≡ true → (is_done t.course ≡ true) × ((more : List Path) × IsFed more ts (run w es))
  step made held t ts w es h follows told is closed =
      let recipe = t.job.recipe in
      let g = h.feeds.0 in
      let new_held = h.feeds.2.0 in
      let may = may_come held t ts w h in
      let values =
      subst (λ (j : Job). all_of (map (clean_value S) (in_paths j.recipe)) ≡ Some g.good.inputs) (sym g.of_job) g.good.clean in
      let contents : ContentsAre w recipe g.good.inputs = contents_of w (in_paths recipe) g.good.inputs (inputs_clean held t ts w h) values in
      let can = good_jobs_can_succeed S g.lists g.by t g.good g.of_job g.plain in
      let done = turns_succeed S.act made t g.good.inputs w es can may h.arranged.1 contents follows told is closed in
      let left = done_turn_leaves S.act made t w es may follows is done in
      let outputs = (left.given h.arranged.1 g.good.inputs contents).1 in
      let still : Each (IsCleanIn S 200 (run w es)) held = both_on made t ts w es held h.none_runs is h.alone h.clean in
      let new : Each (IsCleanIn S 200 (run w es)) new_held =
      each_map (λ p. IsIn (out_paths recipe) p × (choose S.flow S.sources p ≡ Make g.by)) (IsCleanIn S 200 (run w es))
      (λ p k. made_clean t g (run w es) p h.arranged.0.apart outputs k.0 k.1) new_held h.feeds.2.1 in
      let old_alone : Each (IsLeftAlone ts) held = each_map (IsLeftAlone (t ∷ ts)) (IsLeftAlone ts) (λ p k. left_later t ts p k) held h.alone in
      let new_alone : Each (IsLeftAlone ts) new_held =
      each_map (λ p. IsIn (out_paths recipe) p × (choose S.flow S.sources p ≡ Make g.by)) (IsLeftAlone ts)
      (λ p k. output_alone t ts p h.arranged.0 h.arranged.2 k.0) new_held h.feeds.2.1 in (
        done,
        (
          held ++ new_held,
          record {
            none_runs = left.none_runs;
            owners = left.owners;
            clean = each_append (IsCleanIn S 200 (run w es)) held new_held still new;
            alone = each_append (IsLeftAlone ts) held new_held old_alone new_alone;
            arranged = h.arranged.3;
            feeds = h.feeds.2.2;
          },
        ),
      )

  all_done :
      (made : Serials) (held : List Path) (ts : List Turn) (w : World) (es : List Event) → IsFed held ts w → Follows S.act w es → AreGiven S.act ⊥ w es →
      AreTurns made ts w es → Each (λ (t : Turn). is_closed t.course ≡ true) ts → Each (λ (t : Turn). is_done t.course ≡ true) ts
  all_done made held [] w es h follows told are closed = tt
  all_done made held (t ∷ ts) w es h follows told (first, more, e, is, later) closed =
      let f = follows_split S.act w first more (subst (Follows S.act w) e follows) in
      let s = told_split S.act w first more (subst (AreGiven S.act ⊥ w) e told) in
      let now = step made held t ts w first h f.0 s.0 is closed.0 in
      (now.0, all_done made now.1.0 ts (run w first) more now.1.1 f.1 s.1 later closed.1)

  -- the turn after these is fed
  next_fed :
      (made : Serials) (held : List Path) (before : List Turn) (t : Turn) (w : World) (es : List Event) → IsFed held (before ++ t ∷ []) w →
      Follows S.act w es → AreGiven S.act ⊥ w es → AreTurns made before w es → Each (λ (u : Turn). is_closed u.course ≡ true) before →
      Each (λ (u : Turn). is_done u.course ≡ true) before × MayCome t (run w es) × Each (IsCleanIn S 200 (run w es)) (in_paths t.job.recipe)
  next_fed made held [] t w es h follows told are closed =
      subst (λ (fs : List Event). Unit {0} × MayCome t (run w fs) × Each (IsCleanIn S 200 (run w fs)) (in_paths t.job.recipe)) (sym are)
      (tt, may_come held t [] w h, inputs_clean held t [] w h)
  next_fed made held (u ∷ before) t w es h follows told (first, more, e, is, later) closed =
      let f = follows_split S.act w first more (subst (Follows S.act w) e follows) in
      let s = told_split S.act w first more (subst (AreGiven S.act ⊥ w) e told) in
      let now = step made held u (before ++ t ∷ []) w first h f.0 s.0 is closed.0 in
      let rest = next_fed made now.1.0 before t (run w first) more now.1.1 f.1 s.1 later closed.1 in
      let end : run w es ≡ run (run w first) more = ap (run w) e ∙ run_append w first more in
      ((now.0, rest.0), subst (MayCome t) (sym end) rest.1, subst (λ v. Each (IsCleanIn S 200 v) (in_paths t.job.recipe)) (sym end) rest.2)

pub fed_turns_succeed : FedTurnsSucceed
fed_turns_succeed S made held ts w es none owners clean alone arranged feeds follows told are closed =
    all_done S made held ts w es (record { none_runs = none; owners = owners; clean = clean; alone = alone; arranged = arranged; feeds = feeds }) follows told are closed

pub next_turn_is_fed : NextTurnIsFed
next_turn_is_fed S made held before t w es none owners clean alone arranged feeds follows told are closed =
    next_fed S made held before t w es (record { none_runs = none; owners = owners; clean = clean; alone = alone; arranged = arranged; feeds = feeds }) follows told are
    closed
