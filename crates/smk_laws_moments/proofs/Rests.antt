-- A rest stays one where the same children run, and what is gone stays gone.
use Rattle.std.proofs.Common.{◌≡◌, Bool, true, false, ◌&&◌, ◌||◌, List, [], ◌∷◌, refl, sym, ap, ◌∙◌, is_some, true≢false}
use Rattle.std.specs.List.{list_all}
use Rattle.smk_base.specs.Place.{mark_place}
use Rattle.smk_world.specs.World.{World, out_paths}
use Rattle.smk_world.specs.Trees.{Path}
use Rattle.smk_drive.specs.Moments.{Begun, is_closed, is_gone, is_rest, runs}

all_mono : {A : Type 0} (f g : A → Bool) → ((x : A) → f x ≡ true → g x ≡ true) → (xs : List A) → list_all f xs ≡ true → list_all g xs ≡ true
all_mono f g more [] h = refl
all_mono f g more (x ∷ xs) h = both (f x) (g x) (list_all f xs) (list_all g xs) (more x) (all_mono f g more xs) h
  where
    both : (a b c d : Bool) → (a ≡ true → b ≡ true) → (c ≡ true → d ≡ true) → (a && c) ≡ true → (b && d) ≡ true
    both false b c d first rest k = absurd (true≢false (sym k))
    both true b c d first rest k = ap (λ x. x && d) (first refl) ∙ rest k

pub closed_mono : (w v : World) → ((q : Path) → is_gone (w.nodes q) ≡ true → is_gone (v.nodes q) ≡ true) → (b : Begun) → is_closed w b ≡ true → is_closed v b ≡ true
closed_mono w v more b h = go (is_some b.ended) h
  where
    go : (c : Bool) → (c && list_all (λ p. is_gone (w.nodes (mark_place p))) (out_paths b.job.recipe)) ≡ true → (c && list_all (λ p. is_gone (v.nodes (mark_place p))) (out_paths b.job.recipe)) ≡ true
    go false k = absurd (true≢false (sym k))
    go true k = all_mono (λ p. is_gone (w.nodes (mark_place p))) (λ p. is_gone (v.nodes (mark_place p))) (λ p. more (mark_place p)) (out_paths b.job.recipe) k

-- a rest stays one where the same children run, and what is gone stays so
pub rest_mono :
    (w v : World) (begun : List Begun) → w.children ≡ v.children → ((q : Path) → is_gone (w.nodes q) ≡ true → is_gone (v.nodes q) ≡ true) →
    is_rest w begun ≡ true → is_rest v begun ≡ true
rest_mono w v begun same more h =
    all_mono (λ (b : Begun). runs w b.job || is_closed w b) (λ (b : Begun). runs v b.job || is_closed v b) one begun h
  where
    either : (a b c d : Bool) → a ≡ b → (c ≡ true → d ≡ true) → (a || c) ≡ true → (b || d) ≡ true
    either true b c d same2 later k = ap (λ x. x || d) (sym same2)
    either false b c d same2 later k = ap (λ x. x || d) (sym same2) ∙ later k

    one : (b : Begun) → (runs w b.job || is_closed w b) ≡ true → (runs v b.job || is_closed v b) ≡ true
    one b k = either (runs w b.job) (runs v b.job) (is_closed w b) (is_closed v b) (ap (λ cs. runs (record w { children = cs }) b.job) same) (closed_mono w v more b) k
