-- How a job ended that was closed, by what stands as its child has ended.
use Rattle.std.proofs.Common.{◌≡◌, ℕ, zero, suc, Bool, true, false, not, List, [], ◌∷◌, map, filter_map, refl, sym, ap, subst, ◌∙◌, inl, inr, Option, Some, None, true≢false}
use Rattle.std.specs.Prelude.{if◌then◌else◌, option_map}
use Rattle.std.specs.List.{cons_option, list_all}
use Rattle.smk_base.specs.declared.tree.Tree.{Tree}
use Rattle.smk_base.specs.declared.tree.Tree.TheVariants.{File, Folder}
use Rattle.smk_base.specs.declared.tree.TreeEntry.{TreeEntry}
use Rattle.smk_base.specs.Path.{is_path}
use Rattle.smk_base.proofs.Apart.{path_outside}
use Rattle.smk_base.proofs.Places.{and_first, and_second}
use Rattle.smk_base.proofs.Under.{false_unless}
use Rattle.smk_world.specs.declared.event.Event.{Event}
use Rattle.smk_world.specs.declared.event.Node.{Node}
use Rattle.smk_world.specs.declared.event.Node.TheVariants.{Directory, Regular}
use Rattle.smk_world.specs.declared.event.NodeState.{NodeState}
use Rattle.smk_world.specs.declared.event.NodeState.TheVariants.{Known, Owned}
use Rattle.smk_world.specs.declared.recipe.Kind.{Kind}
use Rattle.smk_world.specs.declared.recipe.Kind.TheVariants.{Plain, Folder as FolderKind}
use Rattle.smk_world.specs.declared.recipe.Out.{Out}
use Rattle.smk_world.specs.declared.recipe.Recipe.{Recipe}
use Rattle.smk_world.specs.Folders.{IsTree}
use Rattle.smk_world.specs.Trees.{Path, are_members, below, first, is_path_text, is_text, outs_of}
use Rattle.smk_world.specs.World.{IsFormed, World, out_paths, reading, reads_folder, reads_nothing}
use Rattle.smk_flow.specs.declared.job.Job.{Job}
use Rattle.smk_record.specs.declared.record.Member.{Member}
use Rattle.smk_record.specs.declared.record.Record.{Record}
use Rattle.smk_store.specs.Images.{Image, bytes_of, entry_under, is_directory, is_folder, members_under, names_under, tree_now}
use Rattle.smk_store.specs.Images as images
use Rattle.smk_store_members.proofs.Trees.{tree_found}
use Rattle.smk_store_members.proofs.Under.{same_members}
use Rattle.smk_job.specs.declared.fault.CloseFault.{CloseFault}
use Rattle.smk_job.specs.declared.fault.CloseFault.TheVariants as close
use Rattle.smk_job.specs.Jobs.{Underway}
use Rattle.smk_job.specs.Sights.{AreSeen, IsOfKind, IsSeenWrong, IsWrong, reads_file}
use Rattle.smk_job.proofs.Outs.{paths_same}
use Rattle.smk_report.specs.Lines.{BadMember, Ending, Good, NoOutput, Status, WrongKind}
use Rattle.smk_run.specs.declared.ending.Ending.TheVariants as ended
use Rattle.smk_drive.specs.Moments.{Rules, ending, fault_of, or_good, seen}
use Rattle.smk_laws_closes.specs.Endings.{EndsAsClosed}
use Rattle.smk_laws_closes.proofs.Members.{members_found}

-- ## One output

abbrev tree_of : List TreeEntry → Option Node → Option Tree
tree_of entries n = if is_directory n then Some (Folder entries) else option_map File (bytes_of n)

abbrev unless_members : Path → List TreeEntry → Option Ending
unless_members p entries = if are_members p (map (λ (e : TreeEntry). e.name) entries) then None else Some (BadMember p)

of_nothing : (p : Path) (kind : Kind) (entries : List TreeEntry) (s : NodeState) → reads_nothing s ≡ true → fault_of p kind (tree_of entries (reading s)) ≡ Some (NoOutput p)
of_nothing p kind entries Owned h = absurd (true≢false (sym h))
of_nothing p Plain entries (Known None besides) h = refl
of_nothing p FolderKind entries (Known None besides) h = refl
of_nothing p kind entries (Known (Some n) besides) h = absurd (true≢false (sym h))

of_file : (p : Path) (entries : List TreeEntry) (s : NodeState) → reads_file s ≡ true → fault_of p Plain (tree_of entries (reading s)) ≡ None
of_file p entries Owned h = absurd (true≢false (sym h))
of_file p entries (Known None besides) h = absurd (true≢false (sym h))
of_file p entries (Known (Some Directory) besides) h = absurd (true≢false (sym h))
of_file p entries (Known (Some (Regular bytes time read_only)) besides) h = refl

no_folder : (p : Path) (entries : List TreeEntry) (s : NodeState) → reads_file s ≡ true → fault_of p FolderKind (tree_of entries (reading s)) ≡ Some (WrongKind p)
no_folder p entries Owned h = absurd (true≢false (sym h))
no_folder p entries (Known None besides) h = absurd (true≢false (sym h))
no_folder p entries (Known (Some Directory) besides) h = absurd (true≢false (sym h))
no_folder p entries (Known (Some (Regular bytes time read_only)) besides) h = refl

no_file : (p : Path) (entries : List TreeEntry) (s : NodeState) → reads_folder s ≡ true → fault_of p Plain (tree_of entries (reading s)) ≡ Some (WrongKind p)
no_file p entries Owned h = absurd (true≢false (sym h))
no_file p entries (Known None besides) h = absurd (true≢false (sym h))
no_file p entries (Known (Some Directory) besides) h = refl
no_file p entries (Known (Some (Regular bytes time read_only)) besides) h = absurd (true≢false (sym h))

of_folder :
    (p : Path) (entries : List TreeEntry) (s : NodeState) → reads_folder s ≡ true → fault_of p FolderKind (tree_of entries (reading s)) ≡ unless_members p entries
of_folder p entries Owned h = absurd (true≢false (sym h))
of_folder p entries (Known None besides) h = absurd (true≢false (sym h))
of_folder p entries (Known (Some Directory) besides) h = refl
of_folder p entries (Known (Some (Regular bytes time read_only)) besides) h = absurd (true≢false (sym h))

entry_names : (image : Image) (p : Path) (qs : List Path) →
    map (λ (e : TreeEntry). e.name) (map (entry_under image p) qs) ≡ map (λ (m : Member). m.name) (map (λ q. record { folder = is_folder image q; name = below p q }) qs)
entry_names image p [] = refl
entry_names image p (q ∷ qs) = ap (λ ns. below p q ∷ ns) (entry_names image p qs)

-- what is wrong, as it is told; nothing of a call that failed
abbrev told_wrong : CloseFault → Option Ending
told_wrong (close.NoOutput p) = Some (NoOutput p)
told_wrong (close.WrongKind p) = Some (WrongKind p)
told_wrong (close.BadMember p) = Some (BadMember p)
told_wrong close.Device = None
told_wrong close.OutOfMemory = None

-- ## The outputs in the world

module _ (read : List ℕ → Option Record) (w : World) (formed : IsFormed w) (tree : IsTree w) where
  abbrev image : Image
  image = images.seen read w

  abbrev entries : Path → List TreeEntry
  entries p = map (entry_under image p) (names_under image p)

  abbrev wrong_at : Out → Option Ending
  wrong_at o = fault_of o.path o.kind (tree_now image o.path)

  path_of : (p : Path) → is_path_text p ≡ true → is_path p ≡ true
  path_of p text = and_first (is_path p) (is_text p) text

  node_is : (p : Path) → is_path_text p ≡ true → image.node p ≡ reading (w.nodes p)
  node_is p text = ap (λ (b : Bool). if b then reading (w.nodes p) else None) (ap not (path_outside p (path_of p text)))

  tree_is : (p : Path) → is_path_text p ≡ true → tree_now image p ≡ tree_of (entries p) (reading (w.nodes p))
  tree_is p text = ap (tree_of (entries p)) (node_is p text)

  fault_is : (p : Path) (kind : Kind) → is_path_text p ≡ true → fault_of p kind (tree_now image p) ≡ fault_of p kind (tree_of (entries p) (reading (w.nodes p)))
  fault_is p kind text = ap (fault_of p kind) (tree_is p text)

  listed : (p : Path) → are_members p (map (λ (e : TreeEntry). e.name) (entries p)) ≡ are_members p (map (λ (m : Member). m.name) (members_under image p))
  listed p = ap (are_members p) (entry_names image p (names_under image p))

  is_well : (p : Path) (kind : Kind) (m : List Member) → is_path_text p ≡ true → IsOfKind w.nodes p kind m → fault_of p kind (tree_now image p) ≡ None
  is_well p Plain m text is = fault_is p Plain text ∙ of_file p (entries p) (w.nodes p) is.0
  is_well p FolderKind m text is =
      let same : m ≡ members_under image p = same_members read w p formed (path_of p text) m (tree_found w tree p) is.1 in
      let good = listed p ∙ (ap (λ ms. are_members p (map (λ (x : Member). x.name) ms)) (sym same) ∙ and_first (are_members p (map (λ (x : Member). x.name) m)) _ is.1.valid) in
      fault_is p FolderKind text
      ∙ (of_folder p (entries p) (w.nodes p) is.0 ∙ ap (λ (b : Bool). if b then None else Some (BadMember p)) good)

  is_wrong : (p : Path) (kind : Kind) (fault : CloseFault) → is_path_text p ≡ true → IsWrong w.nodes p kind fault →
      (e : Ending) × (fault_of p kind (tree_now image p) ≡ Some e) × (told_wrong fault ≡ Some e)
  is_wrong p kind (close.NoOutput q) text h =
      (NoOutput p, fault_is p kind text ∙ of_nothing p kind (entries p) (w.nodes p) h.1, ap (λ x. Some (NoOutput x)) h.0)
  is_wrong p Plain (close.WrongKind q) text h =
      (WrongKind p, fault_is p Plain text ∙ no_file p (entries p) (w.nodes p) h.1, ap (λ x. Some (WrongKind x)) h.0)
  is_wrong p FolderKind (close.WrongKind q) text h =
      (WrongKind p, fault_is p FolderKind text ∙ no_folder p (entries p) (w.nodes p) h.1, ap (λ x. Some (WrongKind x)) h.0)
  is_wrong p Plain (close.BadMember q) text h = absurd h
  is_wrong p FolderKind (close.BadMember q) text h =
      let bad : are_members p (map (λ (e : TreeEntry). e.name) (entries p)) ≡ false =
      false_unless (are_members p (map (λ (e : TreeEntry). e.name) (entries p)))
      (λ good. h.2 (members_under image p) (members_found read w formed tree p (path_of p text) (sym (listed p) ∙ good))) in (
        BadMember p,
        fault_is p FolderKind text ∙ (of_folder p (entries p) (w.nodes p) h.1 ∙ ap (λ (b : Bool). if b then None else Some (BadMember p)) bad),
        ap (λ x. Some (BadMember x)) h.0,
      )
  is_wrong p kind close.Device text h = absurd (none kind h)
    where
      none : (k : Kind) → IsWrong w.nodes p k close.Device → ⊥
      none Plain h = h
      none FolderKind h = h
  is_wrong p kind close.OutOfMemory text h = absurd (none kind h)
    where
      none : (k : Kind) → IsWrong w.nodes p k close.OutOfMemory → ⊥
      none Plain h = h
      none FolderKind h = h

  abbrev wrongs : List Out → List Ending
  wrongs outs = filter_map wrong_at outs

  abbrev paths_of : List Out → List Path
  paths_of outs = map (λ (o : Out). o.path) outs

  all_well : (outs : List Out) (ms : List (List Member)) (es : List Event) → list_all is_path_text (paths_of outs) ≡ true → AreSeen w.nodes outs ms es → wrongs outs ≡ []
  all_well [] [] es text h = refl
  all_well [] (m ∷ ms) es text h = absurd h
  all_well (o ∷ outs) [] es text h = absurd h
  all_well (o ∷ outs) (m ∷ ms) es text (front, more, e, l, quiet, kind, rest) =
      ap (λ f. cons_option f (wrongs outs)) (is_well o.path o.kind m (and_first (is_path_text o.path) _ text) kind)
      ∙ all_well outs ms more (and_second (is_path_text o.path) _ text) rest

  one_wrong : (outs : List Out) (fault : CloseFault) (es : List Event) → list_all is_path_text (paths_of outs) ≡ true → IsSeenWrong w.nodes outs fault es →
      (e : Ending) × (first (wrongs outs) ≡ Some e) × (told_wrong fault ≡ Some e)
  one_wrong [] fault es text h = absurd h
  one_wrong (o ∷ outs) fault es text (front, more, e, l, quiet, inl (none, wrong)) =
      let x = is_wrong o.path o.kind fault (and_first (is_path_text o.path) _ text) wrong in (x.0, ap (λ f. first (cons_option f (wrongs outs))) x.1, x.2)
  one_wrong (o ∷ outs) fault es text (front, more, e, l, quiet, inr (m, kind, rest)) =
      let x = one_wrong outs fault more (and_second (is_path_text o.path) _ text) rest in (
        x.0,
        ap (λ f. first (cons_option f (wrongs outs))) (is_well o.path o.kind m (and_first (is_path_text o.path) _ text) kind) ∙ x.1,
        x.2,
      )

-- ## The job

same_texts : (r q : Recipe) → r ≡ q → list_all is_path_text (out_paths r) ≡ true → list_all is_path_text (map (λ (o : Out). o.path) (outs_of q)) ≡ true
same_texts r q same text = ap (list_all is_path_text) (paths_same q.outputs ∙ ap out_paths (sym same)) ∙ text

one_some : (x y : Ending) → Some x ≡ Some y → x ≡ y
one_some x y e = ap or_good e

wrongly :
    (rules : Rules) (w : World) (j : Job) (g : Underway) (fault : CloseFault) (e : Ending) (status : ℕ) (looks : List Event) →
    IsFormed w → IsTree w → j.recipe ≡ g.recipe → list_all is_path_text (out_paths j.recipe) ≡ true →
    status ≡ 0 → told_wrong fault ≡ Some e → IsSeenWrong w.nodes (outs_of g.recipe) fault looks → ending (seen rules w) j status ≡ e
wrongly rules w j g fault e status looks formed tree recipe text zeroth told saw =
    let x = one_wrong rules.read w formed tree (outs_of g.recipe) fault looks (same_texts j.recipe g.recipe recipe text) saw in
    subst (λ n. ending (seen rules w) j n ≡ e) (sym zeroth)
    (ap (λ (r : Recipe). or_good (first (wrongs rules.read w formed tree (outs_of r)))) recipe
    ∙ (ap or_good x.1 ∙ one_some x.0 e (sym x.2 ∙ told)))

pub ends_as_closed : EndsAsClosed
ends_as_closed rules w j g ended.Good status es formed tree recipe text h =
    let outs = outs_of g.recipe in
    let none = all_well rules.read w formed tree outs h.1.0 h.1.1.looks (same_texts j.recipe g.recipe recipe text) h.1.1.seen in
    subst (λ n. ending (seen rules w) j n ≡ Good) (sym h.0)
    (ap (λ (r : Recipe). or_good (first (wrongs rules.read w formed tree (outs_of r)))) recipe ∙ ap (λ (fs : List Ending). or_good (first fs)) none)
ends_as_closed rules w j g (ended.Status n) zero es formed tree recipe text h = absurd (h.1 refl)
ends_as_closed rules w j g (ended.Status n) (suc m) es formed tree recipe text h = ap Status (sym h.0)
ends_as_closed rules w j g (ended.NoOutput p) status es formed tree recipe text h =
    wrongly rules w j g (close.NoOutput p) (NoOutput p) status h.1.looks formed tree recipe text h.0 refl h.1.seen
ends_as_closed rules w j g (ended.WrongKind p) status es formed tree recipe text h =
    wrongly rules w j g (close.WrongKind p) (WrongKind p) status h.1.looks formed tree recipe text h.0 refl h.1.seen
ends_as_closed rules w j g (ended.BadMember p) status es formed tree recipe text h =
    wrongly rules w j g (close.BadMember p) (BadMember p) status h.1.looks formed tree recipe text h.0 refl h.1.seen
