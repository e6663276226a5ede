-- Which paths are off a job's places and logs.
use Rattle.std.proofs.Common.{◌≡◌, inl, inr, true, false, List, [], ◌∷◌, ◌++◌, map, refl, sym, ap, subst, ◌∙◌, bytes_eq}
use Rattle.smk_base.specs.Path.{is_path, overlaps}
use Rattle.smk_base.specs.Place.{mark_place, note_place, record_place}
use Rattle.smk_base.proofs.Apart.{IsApart, apart_flipped, mark-mark, mark-note, path-mark, path-note, path-record, record-mark, record-note, record-record}
use Rattle.smk_base.proofs.Places.{place_itself}
use Rattle.smk_base.proofs.Under.{never_both, or_first, or_second}
use Rattle.smk_world.specs.Trees.{Each, IsIn, Path, among}
use Rattle.smk_world.specs.World.{out_paths, owned_paths}
use Rattle.smk_flow.specs.declared.job.Job.{Job}
use Rattle.smk_laws_turns.specs.Off.{IsOff, PathsAreOff, SignsAreOff}

abbrev AreFree : Path → List Path → Type 0
AreFree p ps = Each (λ s. overlaps s p ≡ false) ps

free_append : (p : Path) (xs ys : List Path) → AreFree p xs → AreFree p ys → AreFree p (xs ++ ys)
free_append p [] ys first second = second
free_append p (x ∷ xs) ys first second = (first.0, free_append p xs ys first.1 second)

free_left : (p : Path) (xs ys : List Path) → AreFree p (xs ++ ys) → AreFree p xs
free_left p [] ys both = tt
free_left p (x ∷ xs) ys both = (both.0, free_left p xs ys both.1)

free_right : (p : Path) (xs ys : List Path) → AreFree p (xs ++ ys) → AreFree p ys
free_right p [] ys both = both
free_right p (x ∷ xs) ys both = free_right p xs ys both.1

free_mapped : (p : Path) (f : Path → Path) (ps : List Path) → ((q : Path) → IsIn ps q → IsApart (f q) p) → AreFree p (map f ps)
free_mapped p f [] apart = tt
free_mapped p f (q ∷ ps) apart = ((apart q (inl refl)).overlap, free_mapped p f ps (λ x at. apart x (inr at)))

free_paths : (p : Path) (ps : List Path) → Each (λ q. is_path q ≡ true) ps → ((q : Path) → is_path q ≡ true → IsApart q p) → AreFree p ps
free_paths p [] paths apart = tt
free_paths p (q ∷ ps) paths apart = ((apart q paths.0).overlap, free_paths p ps paths.1 apart)

-- what is off outputs, logs and the places of these
off_by :
    (j : Job) (p : Path) → AreFree p (owned_paths j.recipe j.logs) → ((q : Path) → IsIn (out_paths j.recipe) q → IsApart (mark_place q) p) →
    ((q : Path) → IsIn (out_paths j.recipe) q → IsApart (record_place q) p) → ((q : Path) → IsApart (note_place q) p) → IsOff j p
off_by j p owned marks records notes =
    free_append p
    (out_paths j.recipe ++ (map mark_place (out_paths j.recipe) ++ (map record_place (out_paths j.recipe) ++ map note_place j.logs))) j.logs
    (free_append p (out_paths j.recipe) (map mark_place (out_paths j.recipe) ++ (map record_place (out_paths j.recipe) ++ map note_place j.logs))
    (free_left p (out_paths j.recipe) j.logs owned)
    (free_append p (map mark_place (out_paths j.recipe)) (map record_place (out_paths j.recipe) ++ map note_place j.logs)
    (free_mapped p mark_place (out_paths j.recipe) marks)
    (free_append p (map record_place (out_paths j.recipe)) (map note_place j.logs) (free_mapped p record_place (out_paths j.recipe) records)
    (free_mapped p note_place j.logs (λ q at. notes q)))))
    (free_right p (out_paths j.recipe) j.logs owned)

pub paths_are_off : PathsAreOff
paths_are_off j p path owned =
    off_by j p owned (λ q at. apart_flipped p (mark_place q) (path-mark p q path)) (λ q at. apart_flipped p (record_place q) (path-record p q path))
    (λ q. apart_flipped p (note_place q) (path-note p q path))

in_among : (ps : List Path) (p : Path) → IsIn ps p → among ps p ≡ true
in_among [] p at = absurd at
in_among (q ∷ ps) p (inl e) = or_first (bytes_eq p q) (among ps p) (ap (bytes_eq p) (sym e) ∙ place_itself p)
in_among (q ∷ ps) p (inr at) = or_second (bytes_eq p q) (among ps p) (in_among ps p at)

pub signs_are_off : SignsAreOff
signs_are_off j p paths out = (
  off_by j (mark_place p) (free_paths (mark_place p) (owned_paths j.recipe j.logs) paths (λ q path. path-mark q p path))
      (λ q at. mark-mark q p (another q at)) (λ q at. record-mark q p)
      (λ q. apart_flipped (mark_place p) (note_place q) (mark-note p q)),
  off_by j (record_place p) (free_paths (record_place p) (owned_paths j.recipe j.logs) paths (λ q path. path-record q p path))
      (λ q at. apart_flipped (record_place p) (mark_place q) (record-mark p q)) (λ q at. record-record q p (another q at))
      (λ q. apart_flipped (record_place p) (note_place q) (record-note p q)),
)
  where
    another : (q : Path) → IsIn (out_paths j.recipe) q → q ≡ p → ⊥
    another q at same =
        never_both (among (out_paths j.recipe) p)
        (subst (λ x. among (out_paths j.recipe) x ≡ true) same (in_among (out_paths j.recipe) q at)) out
