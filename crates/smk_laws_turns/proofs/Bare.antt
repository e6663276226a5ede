-- Plans go by what stands where, and not by which files are read-only.
use Rattle.std.proofs.Common.{◌≡◌, ℕ, Bool, true, false, ◌&&◌, ◌||◌, not, List, [], ◌∷◌, ◌++◌, map, filter, flat_map, length, refl, sym, ap, ◌∙◌, Option, Some, None, option_map, is_some}
use Rattle.std.specs.Prelude.{bytes_eq, if◌then◌else◌, nat_lt}
use Rattle.std.specs.List.{list_any}
use lib.Pointwise.{pointwise}
use Rattle.smk_base.specs.Path.{is_under, overlaps}
use Rattle.smk_base.specs.Place.{mark_place, note_place, record_place}
use Rattle.smk_world.specs.declared.event.Node.{Node}
use Rattle.smk_world.specs.declared.event.Node.TheVariants.{Directory, Regular}
use Rattle.smk_world.specs.declared.recipe.Kind.{Kind}
use Rattle.smk_world.specs.declared.recipe.Kind.TheVariants.{Plain, Folder}
use Rattle.smk_world.specs.Trees.{Path, below, is_path_text}
use Rattle.smk_world.specs.World.{World, IsFormed, add_names, folders_above, reading}
use Rattle.smk_flow.specs.Flows.{Flow}
use Rattle.smk_choose.specs.Choose.{Sources}
use Rattle.smk_record.specs.declared.record.Record.{Record}
use Rattle.smk_record.specs.Records.{members_of, same_member}
use Rattle.smk_store.specs.declared.store.Kept.TheVariants.{Absent}
use Rattle.smk_store.specs.Images.{Image, content_of, file_at, is_directory, is_file, is_outside}
use Rattle.smk_store.specs.Images.{is_source, is_whole, kept_by, known_by, readable, seen, source_at, stands}
use Rattle.smk_store.specs.Trust.{content_stamp, source_stamp}
use Rattle.smk_chain.specs.Derive.{Clash, Deep, Listings, TooManyPaths, clashes, derivation, hinders}
use Rattle.smk_chain.specs.Derive.{is_deep, jobs, outcome, reach, refused, refused_if, sources_of, spots}
use Rattle.smk_pick.specs.declared.settings.Settings.{Settings}
use Rattle.smk_plan.specs.States.{IsPlan, Plan, Progress, new_listings}
use Rattle.smk_laws_history.proofs.CurrentComplete.{seen_is_complete}
use Rattle.smk_cli_target.proofs.PlanStays.{IsLike, listings_like, plan_like}
use Rattle.smk_laws_turns.specs.Guarded.{bare_node}

some_same : (n : Option Node) → is_some (bare_node n) ≡ is_some n
some_same None = refl
some_same (Some Directory) = refl
some_same (Some (Regular bytes time read_only)) = refl

file_same : (n : Option Node) → is_some (content_of (bare_node n)) ≡ is_some (content_of n)
file_same None = refl
file_same (Some Directory) = refl
file_same (Some (Regular bytes time read_only)) = refl

stamp_same : (n : Option Node) → option_map content_stamp (content_of (bare_node n)) ≡ option_map content_stamp (content_of n)
stamp_same None = refl
stamp_same (Some Directory) = refl
stamp_same (Some (Regular bytes time read_only)) = refl

folder_same : (n : Option Node) → is_directory (bare_node n) ≡ is_directory n
folder_same None = refl
folder_same (Some Directory) = refl
folder_same (Some (Regular bytes time read_only)) = refl

-- from one world to another, in which the same stands where but for the flags
module _
    (read : List ℕ → Option Record) (w y : World) (formed : IsFormed w) (formed_now : IsFormed y) (names : y.names ≡ w.names)
    (nodes : (q : Path) → bare_node (reading (y.nodes q)) ≡ bare_node (reading (w.nodes q))) where
  abbrev i : Image
  i = seen read w

  abbrev x : Image
  x = seen read y

  by_bare : {A : Type 0} (f : Option Node → A) → ((n : Option Node) → f (bare_node n) ≡ f n) → (q : Path) → f (reading (y.nodes q)) ≡ f (reading (w.nodes q))
  by_bare f same q = sym (same (reading (y.nodes q))) ∙ (ap f (nodes q) ∙ same (reading (w.nodes q)))

  record_same : (p : Path) (n : Option Node) → kept_by read p (bare_node n) ≡ kept_by read p n
  record_same p None = refl
  record_same p (Some Directory) = refl
  record_same p (Some (Regular bytes time read_only)) = refl

  pub kept : x.kept ≡ i.kept
  kept = λ k p. if is_path_text p then by_bare (kept_by read p) (record_same p) (record_place p) k else Absent

  some : (q : Path) → is_some (reading (y.nodes q)) ≡ is_some (reading (w.nodes q))
  some q = by_bare is_some some_same q

  pub marked : x.marked ≡ i.marked
  marked = λ k p. is_path_text p && some (mark_place p) k

  noted : x.noted ≡ i.noted
  noted = λ k p. is_path_text p && some (note_place p) k

  names_same : x.names ≡ i.names
  names_same = λ k. filter (λ q. is_outside q && some q k) (names k)

  outside : {A : Type 0} (p : Path) (f : Option Node → A) → ((n : Option Node) → f (bare_node n) ≡ f n) → f (x.node p) ≡ f (i.node p)
  outside p f same = go (is_outside p)
    where
      go : (b : Bool) → f (if b then reading (y.nodes p) else None) ≡ f (if b then reading (w.nodes p) else None)
      go true = by_bare f same p
      go false = refl

  file : (p : Path) → is_file x p ≡ is_file i p
  file p = outside p (λ n. is_some (content_of n)) file_same

  folder : (p : Path) → is_directory (x.node p) ≡ is_directory (i.node p)
  folder p = outside p is_directory folder_same

  source : (p : Path) → is_source x p ≡ is_source i p
  source p =
      λ k.
      is_path_text p
      && (file p k
      && not
      ((stands (kept k p) || (marked k p || noted k p))
      || list_any (λ q. stands (kept k q) || (marked k q || noted k q)) (folders_above p)))

  stamp : (p : Path) → source_stamp (source_at x p) ≡ source_stamp (source_at i p)
  stamp p = ap (λ b. source_stamp (if b then file_at x p else None)) (source p) ∙ go (is_source i p)
    where
      go : (b : Bool) → source_stamp (if b then file_at x p else None) ≡ source_stamp (if b then file_at i p else None)
      go true = outside p (λ n. option_map content_stamp (content_of n)) stamp_same
      go false = refl

  whole : (p : Path) (kind : Kind) → is_whole x p kind ≡ is_whole i p kind
  whole p Plain = file p
  whole p Folder =
      λ k.
      folder p k
      && (is_some (readable (kept k p))
      && pointwise same_member (map (λ q. record { folder = folder q k; name = below p q }) (filter (λ q. is_under q p) (names_same k)))
      (members_of (readable (kept k p))))

  like : (flow : Flow) (settings : Settings) (plan : Plan) → IsLike flow settings plan i x
  like flow settings plan =
      record { complete = seen_is_complete read y formed_now; file = file; source = source; stamp = stamp; whole = λ k p kind ik o. whole p kind }

  -- so the plan of the one is that of the other, and the same becomes known
  pub plan_moves :
      (flow : Flow) (settings : Settings) (progress : Progress) (plan : Plan) → IsPlan flow i settings progress plan →
      IsPlan flow x settings progress plan
  plan_moves flow settings progress plan is =
      plan_like flow settings plan i (seen_is_complete read w formed) progress.running progress.begun progress.begun (λ k. refl) is x (sym kept) (sym marked)
      (sym noted) (like flow settings plan)

  pub listings_move :
      (flow : Flow) (settings : Settings) (progress : Progress) (plan : Plan) → IsPlan flow i settings progress plan →
      new_listings x settings progress plan ≡ new_listings i settings progress plan
  listings_move flow settings progress plan is =
      listings_like flow settings plan i (seen_is_complete read w formed) progress.running progress.begun progress.begun (λ k. refl) is x (sym kept)
      (sym marked)
      (sym noted) (like flow settings plan)

  -- and derivations are the same
  pub sources_move : sources_of x ≡ sources_of i
  sources_move = λ k. record { is = λ p. source p k; holds = λ p. list_any (overlaps p) (filter (λ q. source q k) (names_same k)) }

  known_same : x.known ≡ i.known
  known_same = λ k. add_names (flat_map known_by (filter (λ q. some q k) (names k))) []

  hinders_same : (s : Path × Bool) (q : Path) → hinders x s q ≡ hinders i s q
  hinders_same (p, true) q = λ k. overlaps p q && (noted k q || ((stands (kept k q) || marked k q) && not (bytes_eq p q)))
  hinders_same (p, false) q = λ k. overlaps p q && ((stands (kept k q) || marked k q) || (noted k q && not (bytes_eq p q)))

  clashes_same : (earlier : List Path) (ss : List (Path × Bool)) → clashes x earlier ss ≡ clashes i earlier ss
  clashes_same earlier [] = refl
  clashes_same earlier (s ∷ ss) =
      λ k.
      map (Clash s.0) (filter (overlaps s.0) earlier ++ filter (λ q. hinders_same s q k) (known_same k)) ++ clashes_same (earlier ++ s.0 ∷ []) ss k

  pub derivation_moves : (flow : Flow) (L : Listings) (targets : List Path) → derivation flow x L targets ≡ derivation flow i L targets
  derivation_moves flow L targets =
      λ k.
      outcome
      (refused_if (nat_lt 100000 (length (reach flow (sources_move k) L 400 targets))) TooManyPaths
      ++ (map Deep (filter (is_deep flow (sources_move k) x L targets) targets)
      ++ (flat_map (refused flow (sources_move k) L 201) targets
      ++ (ap (λ (S : Sources). clashes x [] (flat_map spots (jobs flow S L targets))) sources_move
      ∙ clashes_same [] (flat_map spots (jobs flow (sources_of i) L targets))) k))) (jobs flow (sources_move k) L targets)
