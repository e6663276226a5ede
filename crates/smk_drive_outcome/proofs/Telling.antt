-- What is told of the outputs of a job, as the image of the folder has it.
use Rattle.std.proofs.Common.{◌≡◌, ℕ, zero, suc, ◌+◌, ◌<◌, Bool, true, false, List, [], ◌∷◌, ◌++◌, map, length, take, get_or, refl, sym, ap, subst, ◌∙◌, Option, Some, None, arith, length-append}
use Rattle.std.specs.Prelude.{IsSome, nat_le, if◌then◌else◌}
use Rattle.std.specs.List.{list_all}
use Rattle.std.proofs.lemmas.List.{length-map, map_push}
use Rattle.smk_base.specs.Path.{is_path}
use Rattle.smk_base.specs.Place.{record_place}
use Rattle.smk_base.proofs.Places.{and_first, and_second}
use Rattle.smk_base.proofs.Under.{never_both}
use Rattle.smk_world.specs.declared.event.Found.TheVariants.{Held, TooBig}
use Rattle.smk_world.specs.declared.event.Node.{Node}
use Rattle.smk_world.specs.declared.event.Node.TheVariants.{Regular, Directory}
use Rattle.smk_world.specs.declared.event.NodeState.{NodeState}
use Rattle.smk_world.specs.World.{World, IsFormed, reading}
use Rattle.smk_world.specs.Calls.{found_of, stat_of}
use Rattle.smk_world.specs.Folders.{IsTree}
use Rattle.smk_world.specs.Trees.{Path, Each, is_path_text, is_text}
use Rattle.smk_record.specs.declared.record.Record.{Record}
use Rattle.smk_store.specs.declared.store.Entry.{Entry}
use Rattle.smk_store.specs.declared.store.Kept.TheVariants.{Absent}
use Rattle.smk_store.specs.Images.{kept_by, seen}
use Rattle.smk_store.specs.Unowned.{IsUnownedUnder}
use Rattle.smk_plan.specs.declared.seen.Sight.{Sight}
use Rattle.smk_plan.specs.Sights.{sight_of}
use Rattle.smk_plan_look.specs.Seeing.{are_paths}
use Rattle.smk_plan_look.proofs.Images.{sight_is}
use Rattle.smk_drive_outcome.specs.declared.outcome.Outcome.{Outcome}
use Rattle.smk_drive_outcome.specs.Outcomes.{AreOutcomes, TellsUnowned, entry_by, is_missing, kept_without, unmarked_entry}

-- ## One record

missing_file : (bytes : List ℕ) (b : Bool) → is_missing (if b then Held bytes else TooBig (length bytes)) ≡ false
missing_file bytes true = refl
missing_file bytes false = refl

-- where no file was found, nothing or a folder stands
pub without_is : (read : List ℕ → Option Record) (p : Path) (n : Option Node)
    → is_missing (found_of 33554432 n) ≡ true → kept_without (stat_of n) ≡ kept_by read p n
without_is read p None h = refl
without_is read p (Some Directory) h = refl
without_is read p (Some (Regular bytes time read_only)) h =
    absurd (never_both (is_missing (found_of 33554432 (Some (Regular bytes time read_only)))) h (missing_file bytes (nat_le (length bytes) 33554432)))

-- where a file was found, something stands
pub some_stands : (n : Option Node) → is_missing (found_of 33554432 n) ≡ false → IsSome n
some_stands None h = absurd (never_both true refl h)
some_stands (Some n) h = refl

-- ## Entries

-- the path at a place among texts of paths
pub text_at : (ps : List Path) (i : ℕ) (p : Path) → i < length ps → p ≡ get_or ps i p → list_all is_path_text ps ≡ true → is_path_text p ≡ true
text_at [] i p lt at all = absurd (omega (arith, lt))
text_at (q ∷ ps) zero p lt at all = ap is_path_text at ∙ and_first (is_path_text q) (list_all is_path_text ps) all
text_at (q ∷ ps) (suc i) p lt at all = text_at ps i p (omega (arith, lt)) at (and_second (is_path_text q) (list_all is_path_text ps) all)

-- one entry more
pub entry_pushed : (read : List ℕ → Option Record) (a b : Path → NodeState) (ps : List Path) (i : ℕ) (p : Path) (old new : List Entry)
    → take (i + 1) ps ≡ take i ps ++ p ∷ [] → a ≡ b
    → new ≡ old ++ entry_by read a p ∷ [] → old ≡ map (entry_by read b) (take i ps) → new ≡ map (entry_by read b) (take (i + 1) ps)
entry_pushed read a b ps i p old new taken same is before =
    is
    ∙ ap (λ (n : Path → NodeState). old ++ entry_by read n p ∷ []) same
    ∙ ap (λ (es : List Entry). es ++ entry_by read b p ∷ []) before
    ∙ sym (map_push (entry_by read b) (take i ps) p)
    ∙ ap (map (entry_by read b)) (sym taken)

-- both lists are longer by one
pub longer : (old new : List Entry) (was now : List Sight) (e : Entry) (s : Sight)
    → new ≡ old ++ e ∷ [] → now ≡ was ++ s ∷ [] → length old ≡ length was → length new ≡ length now
longer old new was now e s is are same =
    ap length is ∙ length-append old (e ∷ []) ∙ ap (λ (n : ℕ). n + 1) same ∙ sym (length-append was (s ∷ [])) ∙ sym (ap length are)

pub as_long : (sights : List Sight) (ps : List Path) → are_paths sights ≡ ps → length sights ≡ length ps
as_long sights ps is = sym (length-map sights (λ (s : Sight). s.path)) ∙ ap length is

module _ (read : List ℕ → Option Record) (w : World) where
  entry_is : (p : Path) (b : Bool) → b ≡ true
      → entry_by read w.nodes p
      ≡ record { kept = if b then kept_by read p (reading (w.nodes (record_place p))) else Absent; marked = false; noted = false }
  entry_is p true h = refl
  entry_is p false h = absurd (never_both false h refl)

  pub entries_are : (paths : List Path) → list_all is_path_text paths ≡ true → map (entry_by read w.nodes) paths ≡ map (unmarked_entry (seen read w)) paths
  entries_are [] h = refl
  entries_are (p ∷ paths) h =
      ap (λ e. e ∷ map (entry_by read w.nodes) paths) (entry_is p (is_path_text p) (and_first (is_path_text p) (list_all is_path_text paths) h))
      ∙ ap (λ es. unmarked_entry (seen read w) p ∷ es) (entries_are paths (and_second (is_path_text p) (list_all is_path_text paths) h))

  -- ## Sights

  pub sights_are : IsFormed w → IsTree w → (sights : List Sight)
      → list_all is_path_text (map (λ (s : Sight). s.path) sights) ≡ true → Each (IsUnownedUnder w.nodes) (map (λ (s : Sight). s.path) sights)
      → Each (TellsUnowned w.nodes) sights → sights ≡ map (sight_of (seen read w)) (map (λ (s : Sight). s.path) sights)
  sights_are formed tree [] texts free told = refl
  sights_are formed tree (s ∷ sights) texts free told =
      let text : is_path_text s.path ≡ true = and_first (is_path_text s.path) (list_all is_path_text (map (λ (x : Sight). x.path) sights)) texts in
      let rest = and_second (is_path_text s.path) (list_all is_path_text (map (λ (x : Sight). x.path) sights)) texts in
      ap (λ x. x ∷ sights) (sight_is read w formed tree s.path s (and_first (is_path s.path) (is_text s.path) text) (told.0 free.0))
      ∙ ap (λ xs. sight_of (seen read w) s.path ∷ xs) (sights_are formed tree sights rest free.1 told.1)

  pub outcomes_are : IsFormed w → IsTree w → (paths : List Path) (o : Outcome)
      → list_all is_path_text paths ≡ true → Each (IsUnownedUnder w.nodes) paths → are_paths o.sights ≡ paths
      → o.entries ≡ map (entry_by read w.nodes) paths → Each (TellsUnowned w.nodes) o.sights → AreOutcomes (seen read w) paths o
  outcomes_are formed tree paths o texts free are entries told =
      record {
        entries = entries ∙ entries_are paths texts;
        sights = sights_are formed tree o.sights (subst (λ (ps : List Path). list_all is_path_text ps ≡ true) (sym are) texts)
            (subst (Each (IsUnownedUnder w.nodes)) (sym are) free) told ∙ ap (map (sight_of (seen read w))) are;
      }
