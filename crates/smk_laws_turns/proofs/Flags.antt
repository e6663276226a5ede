-- Chains of plans go by what stands where, and not by which files are read-only.
use Rattle.std.proofs.Common.{◌≡◌, ℕ, Bool, true, false, ◌&&◌, ◌||◌, not, List, map, filter, refl, sym, ap, subst, ◌∙◌, Option, Some, None, option_map, is_some}
use Rattle.std.specs.Prelude.{if◌then◌else◌}
use Rattle.std.specs.List.{list_any}
use lib.Pointwise.{pointwise}
use Rattle.smk_base.specs.Path.{is_under}
use Rattle.smk_base.specs.Place.{mark_place, note_place, record_place}
use Rattle.smk_world.specs.declared.event.Child.{Child}
use Rattle.smk_world.specs.declared.event.Node.{Node}
use Rattle.smk_world.specs.declared.event.Node.TheVariants.{Directory, Regular}
use Rattle.smk_world.specs.declared.event.NodeState.{NodeState}
use Rattle.smk_world.specs.declared.event.NodeState.TheVariants.{Owned, Known}
use Rattle.smk_world.specs.declared.recipe.Kind.{Kind}
use Rattle.smk_world.specs.declared.recipe.Kind.TheVariants.{Plain, Folder}
use Rattle.smk_world.specs.World.{World, IsFormed, folders_above, reading}
use Rattle.smk_world.specs.Trees.{Path, below, is_path_text}
use Rattle.smk_record.specs.declared.record.Record.{Record}
use Rattle.smk_record.specs.Records.{members_of, same_member}
use Rattle.smk_store.specs.declared.store.Kept.TheVariants.{Absent}
use Rattle.smk_store.specs.Images.{Image, content_of, file_at, image_by, is_directory, is_file, is_outside, is_source, is_whole, kept_by, readable, seen, source_at, stands}
use Rattle.smk_store.specs.Trust.{content_stamp, source_stamp}
use Rattle.smk_chain.specs.Derive.{Listings}
use Rattle.smk_plan.specs.States.{LastPlan, Plan, Progress}
use Rattle.smk_laws_history.proofs.CurrentComplete.{seen_is_complete}
use Rattle.smk_drive.specs.Moments.{Begun, IsInForce, Rules, progress_of}
use Rattle.smk_cli_target.proofs.PlanStays.{IsLike, chain_like}

-- a node, be it read-only or not
abbrev pub bare : Option Node → Option Node
bare None = None
bare (Some Directory) = Some Directory
bare (Some (Regular bytes time read_only)) = Some (Regular bytes time false)

abbrev bare_state : NodeState → NodeState
bare_state Owned = Owned
bare_state (Known now besides) = Known (bare now) besides

bare_reads : (s : NodeState) → reading (bare_state s) ≡ bare (reading s)
bare_reads Owned = refl
bare_reads (Known now besides) = refl

abbrev bare_world : World → World
bare_world w = record w { nodes = λ q. bare_state (w.nodes q) }

bare_none : (n : Option Node) → n ≡ None → bare n ≡ None
bare_none n h = ap bare h

bare_formed : (w : World) → IsFormed w → IsFormed (bare_world w)
bare_formed w formed = record { rising = formed.rising; complete = λ q h. bare_reads (w.nodes q) ∙ bare_none (reading (w.nodes q)) (formed.complete q h) }

-- ## What goes by the bare node

some_same : (n : Option Node) → is_some (bare n) ≡ is_some n
some_same None = refl
some_same (Some Directory) = refl
some_same (Some (Regular bytes time read_only)) = refl

file_same : (n : Option Node) → is_some (content_of (bare n)) ≡ is_some (content_of n)
file_same None = refl
file_same (Some Directory) = refl
file_same (Some (Regular bytes time read_only)) = refl

stamp_same : (n : Option Node) → option_map content_stamp (content_of (bare n)) ≡ option_map content_stamp (content_of n)
stamp_same None = refl
stamp_same (Some Directory) = refl
stamp_same (Some (Regular bytes time read_only)) = refl

folder_same : (n : Option Node) → is_directory (bare n) ≡ is_directory n
folder_same None = refl
folder_same (Some Directory) = refl
folder_same (Some (Regular bytes time read_only)) = refl

module _ (read : List ℕ → Option Record) where
  record_same : (p : Path) (n : Option Node) → kept_by read p (bare n) ≡ kept_by read p n
  record_same p None = refl
  record_same p (Some Directory) = refl
  record_same p (Some (Regular bytes time read_only)) = refl

  module _ (w : World) (formed : IsFormed w) where
    abbrev i : Image
    i = seen read w

    abbrev x : Image
    x = seen read (bare_world w)

    -- the node there, in each
    abbrev n0 : Path → Option Node
    n0 q = reading (w.nodes q)

    abbrev n1 : Path → Option Node
    n1 q = reading (bare_state (w.nodes q))

    kept : x.kept ≡ i.kept
    kept = λ k p. if is_path_text p then (ap (kept_by read p) (bare_reads (w.nodes (record_place p))) ∙ record_same p (n0 (record_place p))) k else Absent

    some : (q : Path) → is_some (n1 q) ≡ is_some (n0 q)
    some q = ap is_some (bare_reads (w.nodes q)) ∙ some_same (n0 q)

    marked : x.marked ≡ i.marked
    marked = λ k p. is_path_text p && some (mark_place p) k

    noted : x.noted ≡ i.noted
    noted = λ k p. is_path_text p && some (note_place p) k

    names : x.names ≡ i.names
    names = λ k. filter (λ q. is_outside q && some q k) w.names

    outside : (p : Path) → (f : Option Node → Bool) → ((n : Option Node) → f (bare n) ≡ f n) → f (x.node p) ≡ f (i.node p)
    outside p f same = go (is_outside p)
      where
        go : (b : Bool) → f (if b then n1 p else None) ≡ f (if b then n0 p else None)
        go true = ap f (bare_reads (w.nodes p)) ∙ same (n0 p)
        go false = refl

    file : (p : Path) → is_file x p ≡ is_file i p
    file p = outside p (λ n. is_some (content_of n)) file_same

    folder : (p : Path) → is_directory (x.node p) ≡ is_directory (i.node p)
    folder p = outside p is_directory folder_same

    source : (p : Path) → is_source x p ≡ is_source i p
    source p =
        λ k.
        is_path_text p
        && (file p k
        && not
        ((stands (kept k p) || (marked k p || noted k p))
        || list_any (λ q. stands (kept k q) || (marked k q || noted k q)) (folders_above p)))

    stamp_at : (p : Path) → option_map content_stamp (file_at x p) ≡ option_map content_stamp (file_at i p)
    stamp_at p = go (is_outside p)
      where
        go : (b : Bool) → option_map content_stamp (content_of (if b then n1 p else None)) ≡ option_map content_stamp (content_of (if b then n0 p else None))
        go true = ap (λ n. option_map content_stamp (content_of n)) (bare_reads (w.nodes p)) ∙ stamp_same (n0 p)
        go false = refl

    stamp : (p : Path) → source_stamp (source_at x p) ≡ source_stamp (source_at i p)
    stamp p = ap (λ b. source_stamp (if b then file_at x p else None)) (source p) ∙ go (is_source i p)
      where
        go : (b : Bool) → source_stamp (if b then file_at x p else None) ≡ source_stamp (if b then file_at i p else None)
        go true = stamp_at p
        go false = refl

    whole : (p : Path) (kind : Kind) → is_whole x p kind ≡ is_whole i p kind
    whole p Plain = file p
    whole p Folder =
        λ k.
        folder p k
        && (is_some (readable (kept k p))
        && pointwise same_member (map (λ q. record { folder = folder q k; name = below p q }) (filter (λ q. is_under q p) (names k))) (members_of (readable (kept k p))))

    -- the one is like the other
    bare_like : (rules : Rules) (plan : Plan) → IsLike rules.flow rules.settings plan i x
    bare_like rules plan =
        record {
          complete = seen_is_complete read (bare_world w) (bare_formed w formed);
          file = file;
          source = source;
          stamp = stamp;
          whole = λ k p kind ik o. whole p kind;
        }

    like_bare : (rules : Rules) (plan : Plan) → IsLike rules.flow rules.settings plan x i
    like_bare rules plan =
        record {
          complete = seen_is_complete read w formed;
          file = λ p. sym (file p);
          source = λ p. sym (source p);
          stamp = λ p. sym (stamp p);
          whole = λ k p kind ik o. sym (whole p kind);
        }

    to_bare : (rules : Rules) (progress : Progress) (L : Listings) (plan : Plan) → LastPlan rules.flow i rules.settings progress L plan → LastPlan rules.flow x rules.settings progress L plan
    to_bare rules progress L plan =
        chain_like rules.flow rules.settings progress i x (seen_is_complete read w formed) (sym kept) (sym marked) (sym noted) (bare_like rules) L plan

    from_bare : (rules : Rules) (progress : Progress) (L : Listings) (plan : Plan) → LastPlan rules.flow x rules.settings progress L plan → LastPlan rules.flow i rules.settings progress L plan
    from_bare rules progress L plan =
        chain_like rules.flow rules.settings progress x i (seen_is_complete read (bare_world w) (bare_formed w formed)) kept marked noted (like_bare rules) L plan

-- two worlds in which the same stands where, but for the flags
pub record IsAsBare (v w : World) : Type 0 where
  pub names : w.names ≡ v.names
  pub nodes : (q : Path) → bare (reading (w.nodes q)) ≡ bare (reading (v.nodes q))
  pub children : w.children ≡ v.children

bare_back : (v w : World) → IsAsBare v w → IsAsBare w v
bare_back v w same = record { names = sym same.names; nodes = λ q. sym (same.nodes q); children = sym same.children }

module _ (rules : Rules) (begun : List Begun) where
  chain_there :
      (v w : World) → IsFormed v → IsFormed w → IsAsBare v w → (L : Listings) (plan : Plan) → LastPlan rules.flow (seen rules.read v) rules.settings (progress_of v begun) L plan →
      LastPlan rules.flow (seen rules.read w) rules.settings (progress_of w begun) L plan
  chain_there v w formed_v formed_w same L plan chain =
      let images : seen rules.read (bare_world v) ≡ seen rules.read (bare_world w) =
      λ k.
      image_by rules.read (sym same.names k) (λ q. (bare_reads (v.nodes q) ∙ (sym (same.nodes q) ∙ sym (bare_reads (w.nodes q)))) k) in
      from_bare rules.read w formed_w rules (progress_of w begun) L plan
      (subst (λ (x : Image). LastPlan rules.flow x rules.settings (progress_of w begun) L plan) images
      (subst (λ (cs : List Child). LastPlan rules.flow (seen rules.read (bare_world v)) rules.settings (progress_of (record v { children = cs }) begun) L plan) (sym same.children)
      (to_bare rules.read v formed_v rules (progress_of v begun) L plan chain)))

  -- the same plan is in force, or none
  pub force_there : (v w : World) → IsFormed v → IsFormed w → IsAsBare v w → (L : Listings) (plan : Option Plan) → IsInForce rules v begun L plan → IsInForce rules w begun L plan
  force_there v w formed_v formed_w same L None none = λ plan chain. none plan (chain_there w v formed_w formed_v (bare_back v w same) L plan chain)
  force_there v w formed_v formed_w same L (Some plan) chain = chain_there v w formed_v formed_w same L plan chain
