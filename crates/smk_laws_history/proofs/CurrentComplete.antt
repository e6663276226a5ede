-- The image of a formed world has complete lists.
use Rattle.std.proofs.Common.{◌≡◌, ◌⊎◌, ℕ, Bool, true, false, not, cond, ◌&&◌, ◌||◌, ◌==◌, List, [], ◌∷◌, ◌++◌, length, drop, filter, flat_map, refl, sym, ap, subst, inl, inr, ◌∙◌, Option, Some, None, is_some, true≢false, codes}
use Rattle.std.specs.Prelude.{bytes_eq, if◌then◌else◌}
use Rattle.std.proofs.lemmas.List.{drop_at}
use Rattle.smk_base.specs.Path.{parts, to_first}
use Rattle.smk_base.specs.Place.{joined_name, name_of, record_place, mark_place, note_place}
use Rattle.smk_base.proofs.Places.{same_place, place_itself}
use Rattle.smk_base.proofs.Apart.{no_slashes, with_slashes, parts_no_slash, parts_joined}
use Rattle.smk_base.proofs.Names.{parts_some}
use Rattle.smk_base.proofs.Paths.{parts-joined}
use Rattle.smk_base.proofs.Under.{no_slash}
use Rattle.smk_world.specs.declared.event.Node.{Node}
use Rattle.smk_world.specs.World.{World, IsFormed, reading, is_named}
use Rattle.smk_world.specs.Trees.{Path, is_path_text}
use Rattle.smk_world.proofs.Names.{not_added_any}
use Rattle.smk_record.specs.declared.record.Record.{Record}
use Rattle.smk_store.specs.declared.store.Kept.TheVariants.{Absent}
use Rattle.smk_store.specs.Images.{stands, is_outside, without_signs, told_of, known_by, kept_by, is_known, seen}
use Rattle.smk_laws_plan.specs.Current.{SeenIsComplete}
use Rattle.smk_laws_plan.proofs.CurrentLists.{In, in_left, in_right, in_flat, in_filter, and_left, and_right, and_both, or_cases, not_true, clash_of}
use Rattle.smk_laws_plan.proofs.CurrentPaths.{among_in, in_among}

-- ## Names and the paths that they stand for

one_part : (part : Path) → no_slash part ≡ true → parts part ≡ part ∷ []
one_part [] h = refl
one_part (b ∷ part) h =
    ap (λ v. if v then [] ∷ parts part else to_first b (parts part)) (not_true (b == 47) (and_left (not (b == 47)) (no_slash part) h))
    ∙ ap (to_first b) (one_part part (and_right (not (b == 47)) (no_slash part) h))

unsigned_next : (sign : ℕ) (part : Path) (ps : List Path) → (ps ≡ [] → ⊥) → without_signs ((sign ∷ part) ∷ ps) ≡ part ++ 47 ∷ without_signs ps
unsigned_next sign part [] never = absurd (never refl)
unsigned_next sign part (q ∷ ps) never = refl

unsigned : (ps : List Path) → no_slashes ps ≡ true → (ps ≡ [] → ⊥) → without_signs (parts (joined_name ps)) ≡ with_slashes ps
unsigned [] h never = absurd (never refl)
unsigned (part ∷ []) h never = ap (λ ps. without_signs (to_first 61 ps)) (one_part part (and_left (no_slash part) true h))
unsigned (part ∷ (next ∷ rest)) h never =
    ap without_signs
    (parts-joined (43 ∷ part) (joined_name (next ∷ rest))
    ∙ ap (λ ps. to_first 43 ps ++ parts (joined_name (next ∷ rest))) (one_part part (and_left (no_slash part) (no_slashes (next ∷ rest)) h)))
    ∙ unsigned_next 43 part (parts (joined_name (next ∷ rest))) (parts_some (joined_name (next ∷ rest)))
    ∙ ap (λ t. part ++ 47 ∷ t) (unsigned (next ∷ rest) (and_right (no_slash part) (no_slashes (next ∷ rest)) h) (λ e. cc))

-- the path whose name stands there is found again
named_path : (p : Path) → without_signs (parts (name_of p)) ≡ p
named_path p = unsigned (parts p) (parts_no_slash p) (parts_some p) ∙ parts_joined p

abbrev told_with : Path → Path → Path → List Path
told_with folder place q = if bytes_eq place (folder ++ name_of q) && is_path_text q then q ∷ [] else []

told_itself : (folder p : Path) → is_path_text p ≡ true → In p (told_of folder (folder ++ name_of p))
told_itself folder p h =
    let same : without_signs (parts (drop (length folder) (folder ++ name_of p))) ≡ p =
    ap (λ t. without_signs (parts t)) (drop_at folder (name_of p) (length folder) refl) ∙ named_path p in
    let told : told_of folder (folder ++ name_of p) ≡ p ∷ [] =
    ap (told_with folder (folder ++ name_of p)) same
    ∙ ap (λ b. if b then p ∷ [] else []) (and_both (bytes_eq (folder ++ name_of p) (folder ++ name_of p)) (is_path_text p) (place_itself (folder ++ name_of p)) h) in
    subst (In p) (sym told) (inl refl)

-- ## Names where something stands

named_filter : (T : Path → Bool) (ns : List Path) (p : Path) → is_named p (filter T ns) ≡ (is_named p ns && T p)
named_filter T [] p = refl
named_filter T (q ∷ ns) p = go (bytes_eq p q) refl (T q) refl (named_filter T ns p)
  where
    rest : List Path
    rest = filter T ns

    kept : (b : Bool) → T p ≡ true → b ≡ (b && T p)
    kept true e = sym e
    kept false e = refl

    go : (b : Bool) → bytes_eq p q ≡ b → (c : Bool) → T q ≡ c → is_named p (filter T ns) ≡ (is_named p ns && T p) → is_named p (cond c (q ∷ filter T ns) (filter T ns)) ≡ ((bytes_eq p q || is_named p ns) && T p)
    go true e true f ih =
        ap (λ x. x || is_named p (filter T ns)) e ∙ sym (ap T (same_place p q e) ∙ f) ∙ ap (λ x. (x || is_named p ns) && T p) (sym e)
    go true e false f ih =
        let never : T p ≡ false = ap T (same_place p q e) ∙ f in
        ih ∙ ap (λ x. is_named p ns && x) never ∙ and_false (is_named p ns) ∙ sym never ∙ ap (λ x. (x || is_named p ns) && T p) (sym e)
      where
        and_false : (v : Bool) → (v && false) ≡ false
        and_false true = refl
        and_false false = refl
    go false e true f ih = ap (λ x. x || is_named p (filter T ns)) e ∙ ih ∙ ap (λ x. (x || is_named p ns) && T p) (sym e)
    go false e false f ih = ih ∙ ap (λ x. (x || is_named p ns) && T p) (sym e)

stood : (read : List ℕ → Option Record) (p : Path) (b : Bool) (n : Option Node) → stands (cond b (kept_by read p n) Absent) ≡ true → (b ≡ true) × (is_some n ≡ true)
stood read p true None h = absurd (true≢false (sym h))
stood read p true (Some n) h = (refl, refl)
stood read p false n h = absurd (true≢false (sym h))

module _ (read : List ℕ → Option Record) (w : World) (formed : IsFormed w) where
  abbrev nodes : Path → Option Node
  nodes q = reading (w.nodes q)

  names_complete : (p : Path) → is_named p (seen read w).names ≡ is_some ((seen read w).node p)
  names_complete p = named_filter (λ q. is_outside q && is_some (nodes q)) w.names p ∙ go (is_named p w.names) refl (is_outside p)
    where
      go : (b : Bool) → is_named p w.names ≡ b → (o : Bool) → (b && (o && is_some (nodes p))) ≡ is_some (cond o (nodes p) None)
      go true e true = refl
      go true e false = refl
      go false e true = sym (ap is_some (formed.complete p e))
      go false e false = refl

  is_there : (place : Path) → is_some (nodes place) ≡ true → In place w.names
  is_there place h = go (is_named place w.names) refl
    where
      go : (b : Bool) → is_named place w.names ≡ b → In place w.names
      go true e = among_in w.names place e
      go false e = absurd (clash_of (is_some (nodes place)) h (ap is_some (formed.complete place e)))

  told_at : (place p : Path) → is_some (nodes place) ≡ true → In p (known_by place) → is_named p (seen read w).known ≡ true
  told_at place p h k = go (is_named p (seen read w).known) refl
    where
      go : (b : Bool) → is_named p (seen read w).known ≡ b → b ≡ true
      go true e = refl
      go false e =
          absurd (clash_of (is_named p (flat_map known_by (filter (λ q. is_some (nodes q)) w.names)))
          (in_among (flat_map known_by (filter (λ q. is_some (nodes q)) w.names)) p
          (in_flat known_by (filter (λ q. is_some (nodes q)) w.names) place p (in_filter (λ q. is_some (nodes q)) w.names place (is_there place h) h) k))
          ((not_added_any p (flat_map known_by (filter (λ q. is_some (nodes q)) w.names)) [] e).0))

  by_record : (p : Path) → stands ((seen read w).kept p) ≡ true → is_named p (seen read w).known ≡ true
  by_record p h =
      let s = stood read p (is_path_text p) (nodes (record_place p)) h in
      told_at (record_place p) p s.1 (in_left p (told_of (codes ".snakemake/smk/records/") (record_place p)) _ (told_itself (codes ".snakemake/smk/records/") p s.0))

  by_mark : (p : Path) → (seen read w).marked p ≡ true → is_named p (seen read w).known ≡ true
  by_mark p h =
      told_at (mark_place p) p (and_right (is_path_text p) _ h)
      (in_right p (told_of (codes ".snakemake/smk/records/") (mark_place p)) (told_of (codes ".snakemake/smk/marks/") (mark_place p) ++ told_of (codes ".snakemake/smk/logs/") (mark_place p))
      (in_left p (told_of (codes ".snakemake/smk/marks/") (mark_place p)) (told_of (codes ".snakemake/smk/logs/") (mark_place p))
      (told_itself (codes ".snakemake/smk/marks/") p (and_left (is_path_text p) _ h))))

  by_note : (p : Path) → (seen read w).noted p ≡ true → is_named p (seen read w).known ≡ true
  by_note p h =
      told_at (note_place p) p (and_right (is_path_text p) _ h)
      (in_right p (told_of (codes ".snakemake/smk/records/") (note_place p)) (told_of (codes ".snakemake/smk/marks/") (note_place p) ++ told_of (codes ".snakemake/smk/logs/") (note_place p))
      (in_right p (told_of (codes ".snakemake/smk/marks/") (note_place p)) (told_of (codes ".snakemake/smk/logs/") (note_place p))
      (told_itself (codes ".snakemake/smk/logs/") p (and_left (is_path_text p) _ h))))

  known_complete : (p : Path) → is_known (seen read w) p ≡ true → is_named p (seen read w).known ≡ true
  known_complete p h = go (or_cases (stands ((seen read w).kept p)) _ h)
    where
      more : ((seen read w).marked p ≡ true) ⊎ ((seen read w).noted p ≡ true) → is_named p (seen read w).known ≡ true
      more (inl k) = by_mark p k
      more (inr k) = by_note p k

      go : (stands ((seen read w).kept p) ≡ true) ⊎ (((seen read w).marked p || (seen read w).noted p) ≡ true) → is_named p (seen read w).known ≡ true
      go (inl k) = by_record p k
      go (inr k) = more (or_cases ((seen read w).marked p) ((seen read w).noted p) k)

pub seen_is_complete : SeenIsComplete
seen_is_complete read w formed = record { names = names_complete read w formed; known = known_complete read w formed }
