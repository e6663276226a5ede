-- How images differ, by what stands in places of two worlds.
use Rattle.std.proofs.Common.{◌≡◌, ◌⊎◌, inl, inr, Bool, true, false, ◌&&◌, List, [], ◌∷◌, Option, Some, None, is_some, refl, sym, ap, subst, ◌∙◌, bytes_eq}
use Rattle.std.specs.Prelude.{if◌then◌else◌}
use Rattle.std.specs.List.{list_any}
use Rattle.smk_base.specs.Path.{is_at_or_under}
use Rattle.smk_base.specs.Place.{note_place}
use Rattle.smk_base.proofs.Places.{and_first, and_second, same_place}
use Rattle.smk_base.proofs.Under.{at_itself, both_true, never_both, or_cases, or_first, or_second}
use Rattle.smk_world.specs.declared.event.Node.{Node}
use Rattle.smk_world.specs.Calls.{stat_of}
use Rattle.smk_world.specs.Trees.{Path, among, is_path_text}
use Rattle.smk_world.specs.World.{reading}
use Rattle.smk_record.specs.Records.{are_valid_members}
use Rattle.smk_store.specs.declared.store.Kept.TheVariants.{Absent}
use Rattle.smk_store.specs.Images.{Content, Image, content_of, file_at, image_by, is_directory, is_outside, kept_by, members_under, seen}
use Rattle.smk_plan.specs.Sights.{is_guarded, is_tellable}
use Rattle.smk_plan.specs.States.{test_some}
use Rattle.smk_plan_facts.specs.Facts.{NamesAll}
use Rattle.smk_plan_live.specs.Lives.{IsAgreed}
use Rattle.smk_plan_live.proofs.Restoring.{any_at}
use Rattle.smk_plan_preview.proofs.Agreed.{names_all, own_records}
use Rattle.smk_laws_history.proofs.HistoryPlaces.{members_same}
use Rattle.smk_laws_moments.proofs.LooksLike.{like_looks}
use Rattle.smk_laws_turns.specs.Places.{DiffersByPlaces, LooksAgree, SameIsSeen}
use Rattle.smk_laws_turns.proofs.Carrying.{same_tests}

-- ## Read-only files

any_named : (f : Path → Bool) (ps : List Path) (q : Path) → among ps q ≡ true → f q ≡ true → list_any f ps ≡ true
any_named f [] q at h = absurd (never_both false at refl)
any_named f (p ∷ ps) q at h = go (or_cases (bytes_eq q p) (among ps q) at) (λ later. any_named f ps q later h)
  where
    go : (bytes_eq q p ≡ true) ⊎ (among ps q ≡ true) → (among ps q ≡ true → list_any f ps ≡ true) → list_any f (p ∷ ps) ≡ true
    go (inl e) more = or_first (f p) (list_any f ps) (subst (λ x. f x ≡ true) (same_place q p e) h)
    go (inr later) more = or_second (f p) (list_any f ps) (more later)

node_some : (n : Option Node) → test_some (λ (f : Content). f.read_only) (content_of n) ≡ true → is_some n ≡ true
node_some None h = absurd (never_both false h refl)
node_some (Some n) h = refl

abbrev is_read_only_under : Image → Path → Path → Bool
is_read_only_under image p q = is_at_or_under q p && (is_tellable q && test_some (λ (f : Content). f.read_only) (file_at image q))

guarded_moves :
    (a b : Image) (p : Path) → NamesAll b → ((q : Path) → is_at_or_under q p ≡ true → b.node q ≡ a.node q) → is_guarded a p ≡ true → is_guarded b p ≡ true
guarded_moves a b p names same h =
    let r = any_at (is_read_only_under a p) a.names h in
    of (r.1) r.3
  where
    of : (q : Path) → is_read_only_under a p q ≡ true → is_guarded b p ≡ true
    of q is =
        let under = and_first (is_at_or_under q p) (is_tellable q && test_some (λ (f : Content). f.read_only) (file_at a q)) is in
        let rest = and_second (is_at_or_under q p) (is_tellable q && test_some (λ (f : Content). f.read_only) (file_at a q)) is in
        let guards : test_some (λ (f : Content). f.read_only) (content_of (b.node q)) ≡ true =
        ap (λ n. test_some (λ (f : Content). f.read_only) (content_of n)) (same q under)
        ∙ and_second (is_tellable q) (test_some (λ (f : Content). f.read_only) (file_at a q)) rest
        in
        any_named (is_read_only_under b p) b.names q (names q ∙ node_some (b.node q) guards)
        (both_true (is_at_or_under q p) (is_tellable q && test_some (λ (f : Content). f.read_only) (file_at b q)) under
        (both_true (is_tellable q) (test_some (λ (f : Content). f.read_only) (file_at b q))
        (and_first (is_tellable q) (test_some (λ (f : Content). f.read_only) (file_at a q)) rest) guards))

-- ## Sights

pub same_is_seen : SameIsSeen
same_is_seen read w v p formed formed' same =
    record {
      sight =
          λ i.
          record {
            path = p;
            stat = stat_of (node p (at_itself p) i);
            members = if is_directory (node p (at_itself p) i) && are_valid_members p (members i) then Some (members i) else None;
            guarded = guarded i;
            sum = None;
          };
      file = ap content_of (node p (at_itself p));
    }
  where
    node : (q : Path) → is_at_or_under q p ≡ true → (seen read v).node q ≡ (seen read w).node q
    node q at = ap (λ (n : Option Node). if is_outside q then n else None) (same q at)

    members : members_under (seen read v) p ≡ members_under (seen read w) p
    members = members_same read w v formed formed' p same

    guarded : is_guarded (seen read v) p ≡ is_guarded (seen read w) p
    guarded =
        same_tests (is_guarded (seen read v) p) (is_guarded (seen read w) p)
        (guarded_moves (seen read v) (seen read w) p (names_all read w formed) (λ q at. sym (node q at)))
        (guarded_moves (seen read w) (seen read v) p (names_all read v formed') node)

-- ## Images

pub differs_by_places : DiffersByPlaces
differs_by_places read w v jobs targets paths formed formed' leaves aside uncovered files wanted summed =
    record {
      named = names_all read v formed';
      recorded = own_records read v;
      kept = λ p out. ap (λ (n : Option Node). if is_path_text p then kept_by read p n else Absent) (leaves.records p out);
      marks = λ p out. ap (λ (n : Option Node). is_path_text p && is_some n) (leaves.marks p out);
      notes = λ p h.
          both_true (is_path_text p) (is_some (reading (v.nodes (note_place p))))
          (and_first (is_path_text p) (is_some (reading (w.nodes (note_place p)))) h)
          (leaves.notes p (and_second (is_path_text p) (is_some (reading (w.nodes (note_place p)))) h));
      outputs = λ j in_jobs o in_outs out. same_is_seen read w v o.path formed formed' (leaves.outputs j in_jobs o in_outs out);
      sources = λ p at.
          record { same = same_is_seen read w v p formed formed' (leaves.sources p at); aside = aside p at; uncovered = uncovered p at };
      files = files;
      wanted = wanted;
      summed = summed;
    }

pub looks_agree : LooksAgree
looks_agree act read settings b w looks are follows agreed =
    let like = like_looks act false w looks are follows in
    subst (λ image. IsAgreed image settings b) (λ i. image_by read (like.0 i) (λ q. reading (like.1 i q))) agreed
