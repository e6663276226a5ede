-- What a walk from a path comes to, put together from its steps.
use Rattle.std.proofs.Common.{◌≡◌, ◌≢◌, ◌∙◌, ℕ, suc, ◌≤◌, true, false, List, [], ◌∷◌, ◌++◌, Option, Some, None, Ok, Err, refl, sym, ap, subst, true≢false}
use Rattle.std.specs.Prelude.{is_some}
use Rattle.std.specs.List.{flat_map, AllByRecursion, list_all}
use Rattle.std.proofs.lemmas.List.Concat.{flat_map-append}
use Rattle.smk_base.specs.Path.{is_path}
use Rattle.smk_world.specs.Trees.{Path}
use Rattle.smk_pattern.specs.Shapes.{Text}
use Rattle.smk_flow.specs.Flows.{Flow, Candidate, rule_name}
use Rattle.smk_choose.specs.Choose.{Sources, Source, Make, choose}
use Rattle.smk_chain.specs.declared.fault.ChainFault.{ChainFault}
use Rattle.smk_chain.specs.declared.fault.ChainFault.TheVariants as told
use Rattle.smk_chain.specs.Derive.{Listings, Refusal, NoInput, refused_at, wants}
use Rattle.smk_chain.specs.Told.{first_told, TellsFirst}
use Rattle.smk_chain_walk.specs.declared.reached.Reached.{Reached}
use Rattle.smk_chain_walk.specs.Numbers.{has, added, all_added}
use Rattle.smk_chain_walk.specs.Steps.{Fits, refused_for, called_for, asked, done_at, is_done, Holds, Keeps, Walked}
use Rattle.smk_chain_walk.proofs.Depths.{refused_make, called_make, refused_front, called_source, refused_unmade, flat_nil, all_map, want_calm, all_push, flat_push}
use Rattle.smk_chain_walk.proofs.Adding.{all_there, all_added_append, all_added_has}

-- ---- faults

pub first_more : (flow : Flow) (rs more : List Refusal) (f : ChainFault) → first_told flow rs ≡ Some f → first_told flow (rs ++ more) ≡ Some f
first_more flow [] more f e = absurd cc
first_more flow (r ∷ rs) more f e = e

-- what comes first of some of the refusals comes first of all of them, where none comes before
pub tells_in : (flow : Flow) (before rs more : List Refusal) (f : ChainFault) → before ≡ [] → TellsFirst flow rs f → TellsFirst flow (before ++ (rs ++ more)) f
tells_in flow before rs more f e t = λ ne. subst (λ b. first_told flow (b ++ (rs ++ more)) ≡ Some f) (sym e) (first_more flow rs more f (t ne))

pub tells_memory : (flow : Flow) (rs : List Refusal) (f : ChainFault) → f ≡ told.OutOfMemory → TellsFirst flow rs f
tells_memory flow rs f e = λ ne. absurd (ne e)

module _ (flow : Flow) (sources : Sources) (L : Listings) where
  pub walked_done : (old : Reached) (p : Path) → is_done old p ≡ true → Walked flow sources L old old p (Ok tt)
  walked_done old p e = λ cs h. go cs h (done_at old p) refl e
    where
      go : (cs : List Candidate) → Holds flow sources L old cs → (o : Option (Option ℕ)) → done_at old p ≡ o → is_some o ≡ true →
          (refused_for flow sources L p ≡ []) × Holds flow sources L old (all_added cs (called_for flow sources L p)) × (is_done old p ≡ true) × Keeps old old
      go cs h (Some number) at s =
          let d = h.done p number at in
          (d.calm, subst (Holds flow sources L old) (sym (all_there cs (called_for flow sources L p) d.called)) h, e, λ q k. k)
      go cs h None at s = absurd (true≢false (sym s))

  pub walked_refused : (old new : Reached) (p : Path) (f : ChainFault) → TellsFirst flow (refused_at flow L p (choose flow sources p)) f → Walked flow sources L old new p (Err f)
  walked_refused old new p f t = λ cs h.
      let front = refused_front flow sources L p in
      subst (λ rs. TellsFirst flow rs f) (sym front.1) (tells_in flow [] (refused_at flow L p (choose flow sources p)) front.0 f refl t)

  pub walked_memory : (old new : Reached) (p : Path) (f : ChainFault) → f ≡ told.OutOfMemory → Walked flow sources L old new p (Err f)
  walked_memory old new p f e = λ cs h. tells_memory flow (refused_for flow sources L p) f e

  pub walked_source : (old new : Reached) (p : Path) → choose flow sources p ≡ Source → ((cs : List Candidate) → Holds flow sources L old cs → Holds flow sources L new cs) →
      is_done new p ≡ true → Keeps old new → Walked flow sources L old new p (Ok tt)
  walked_source old new p e noted done keeps = λ cs h.
      (refused_unmade flow sources L p Source e refl, subst (λ xs. Holds flow sources L new (all_added cs xs)) (sym (called_source flow sources L p e)) (noted cs h), done, keeps)

  -- ---- over what a job wants

  -- walks from these wants, one after another, refused nothing and added their jobs
  abbrev pub SoFar : Reached → Reached → Path → ℕ → List Text → Type 0
  SoFar old now p rule ws =
      (cs : List Candidate) → Holds flow sources L old cs →
      (flat_map (asked flow sources L p rule) ws ≡ []) × Holds flow sources L now (all_added cs (flat_map (called_for flow sources L) ws))
      × AllByRecursion (λ (w : Text). is_done now w ≡ true) ws × Keeps old now

  pub so_far_none : (old : Reached) (p : Path) (rule : ℕ) → SoFar old old p rule []
  so_far_none old p rule = λ cs h. (refl, h, tt, λ q k. k)

  is_asked : (p : Path) (rule : ℕ) (w : Text) → is_path w ≡ true → asked flow sources L p rule w ≡ refused_for flow sources L w
  is_asked p rule w e = ap (λ b. elim b as (λ _. List Refusal) [ true ↦ refused_for flow sources L w | false ↦ NoInput p rule w ∷ [] ]) e

  no_asked : (p : Path) (rule : ℕ) (w : Text) → is_path w ≡ false → asked flow sources L p rule w ≡ NoInput p rule w ∷ []
  no_asked p rule w e = ap (λ b. elim b as (λ _. List Refusal) [ true ↦ refused_for flow sources L w | false ↦ NoInput p rule w ∷ [] ]) e

  pub so_far_more : (old now new : Reached) (p : Path) (rule : ℕ) (ws : List Text) (w : Text) → SoFar old now p rule ws → is_path w ≡ true →
      Walked flow sources L now new w (Ok tt) → SoFar old new p rule (ws ++ w ∷ [])
  so_far_more old now new p rule ws w so is walked = λ cs h.
      let s = so cs h in
      let k = walked (all_added cs (flat_map (called_for flow sources L) ws)) s.1 in (
        flat_push (asked flow sources L p rule) ws w ∙ ap (λ rs. rs ++ asked flow sources L p rule w) s.0 ∙ is_asked p rule w is ∙ k.0,
        subst (λ xs. Holds flow sources L new (all_added cs xs)) (sym (flat_push (called_for flow sources L) ws w))
            (subst (Holds flow sources L new) (sym (all_added_append cs (flat_map (called_for flow sources L) ws) (called_for flow sources L w))) k.1),
        all_push (λ (x : Text). is_done new x ≡ true) ws w (all_map (λ (x : Text). is_done now x ≡ true) (λ (x : Text). is_done new x ≡ true) (λ x e. k.3 x e) ws s.2) k.2,
        λ q e. k.3 q (s.3 q e),
      )

  -- the walk ends with the fault of one of the wants
  stopped : (old now new : Reached) (p : Path) (n : ℕ) (c : Candidate) (ws rest : List Text) (w : Text) (f : ChainFault) → suc n ≤ 200 → Fits flow sources L (suc n) p →
      choose flow sources p ≡ Make c → refused_at flow L p (Make c) ≡ [] → wants flow L c ≡ ws ++ w ∷ rest → SoFar old now p c.rule ws →
      ((cs : List Candidate) → Holds flow sources L now cs → TellsFirst flow (asked flow sources L p c.rule w) f) → Walked flow sources L old new p (Err f)
  stopped old now new p n c ws rest w f le fits e calm split so tells = λ cs h.
      let s = so cs h in
      let ask = asked flow sources L p c.rule in
      let whole : refused_for flow sources L p ≡ flat_map ask ws ++ (ask w ++ flat_map ask rest) =
      refused_make flow sources L n p c le fits e ∙ ap (λ rs. rs ++ flat_map ask (wants flow L c)) calm ∙ ap (flat_map ask) split ∙ flat_map-append ask ws (w ∷ rest) in
      subst (λ rs. TellsFirst flow rs f) (sym whole)
      (tells_in flow (flat_map ask ws) (ask w) (flat_map ask rest) f s.0 (tells (all_added cs (flat_map (called_for flow sources L) ws)) s.1))

  pub stopped_under : (old now new : Reached) (p : Path) (n : ℕ) (c : Candidate) (ws rest : List Text) (w : Text) (f : ChainFault) → suc n ≤ 200 → Fits flow sources L (suc n) p →
      choose flow sources p ≡ Make c → refused_at flow L p (Make c) ≡ [] → wants flow L c ≡ ws ++ w ∷ rest → SoFar old now p c.rule ws → is_path w ≡ true →
      Walked flow sources L now new w (Err f) → Walked flow sources L old new p (Err f)
  stopped_under old now new p n c ws rest w f le fits e calm split so is walked =
      stopped old now new p n c ws rest w f le fits e calm split so (λ cs h. subst (λ rs. TellsFirst flow rs f) (sym (is_asked p c.rule w is)) (walked cs h))

  pub stopped_here : (old now new : Reached) (p : Path) (n : ℕ) (c : Candidate) (ws rest : List Text) (w : Text) (f : ChainFault) → suc n ≤ 200 → Fits flow sources L (suc n) p →
      choose flow sources p ≡ Make c → refused_at flow L p (Make c) ≡ [] → wants flow L c ≡ ws ++ w ∷ rest → SoFar old now p c.rule ws → is_path w ≡ false →
      (f ≢ told.OutOfMemory → f ≡ told.NoInput p (rule_name flow c.rule) w) → Walked flow sources L old new p (Err f)
  stopped_here old now new p n c ws rest w f le fits e calm split so none is =
      stopped old now new p n c ws rest w f le fits e calm split so
      (λ cs h. subst (λ rs. TellsFirst flow rs f) (sym (no_asked p c.rule w none)) (λ ne. ap Some (sym (is ne))))

  -- what all of the wants are
  all_paths : (p : Path) (rule : ℕ) (ws : List Text) → AllByRecursion (λ w. asked flow sources L p rule w ≡ []) ws → list_all is_path ws ≡ true
  all_paths p rule [] h = refl
  all_paths p rule (w ∷ ws) h = ap (λ b. Rattle.std.specs.Prelude.◌&&◌ b (list_all is_path ws)) (want_calm (refused_for flow sources L) p rule w h.0).0 ∙ all_paths p rule ws h.1

  -- the walk ends with the job itself
  pub settled : (old now new : Reached) (p : Path) (n : ℕ) (c : Candidate) → suc n ≤ 200 → Fits flow sources L (suc n) p →
      choose flow sources p ≡ Make c → refused_at flow L p (Make c) ≡ [] → SoFar old now p c.rule (wants flow L c) →
      ((cs : List Candidate) → list_all is_path (wants flow L c) ≡ true → AllByRecursion (λ (w : Text). is_done now w ≡ true) (wants flow L c) → refused_for flow sources L p ≡ [] →
      AllByRecursion (λ d. has (added cs c) d ≡ true) (called_for flow sources L p) → Holds flow sources L now cs → Holds flow sources L new (added cs c)) →
      is_done new p ≡ true → Keeps now new → Walked flow sources L old new p (Ok tt)
  settled old now new p n c le fits e calm so put done keeps = λ cs h.
      let s = so cs h in
      let ws = wants flow L c in
      let ask = asked flow sources L p c.rule in
      let all = flat_map (called_for flow sources L) ws in
      let none : refused_for flow sources L p ≡ [] = refused_make flow sources L n p c le fits e ∙ ap (λ rs. rs ++ flat_map ask ws) calm ∙ s.0 in
      let called : called_for flow sources L p ≡ all ++ c ∷ [] = called_make flow sources L n p c le fits e s.0 in
      let whole : all_added cs (called_for flow sources L p) ≡ added (all_added cs all) c = ap (all_added cs) called ∙ all_added_append cs all (c ∷ []) in (
        none,
        subst (Holds flow sources L new) (sym whole)
            (put (all_added cs all) (all_paths p c.rule ws (flat_nil ask ws s.0)) s.2 none
            (subst (λ ds. AllByRecursion (λ d. has ds d ≡ true) (called_for flow sources L p)) whole (all_added_has cs (called_for flow sources L p))) s.1),
        done,
        λ q f. keeps q (s.3 q f),
      )
