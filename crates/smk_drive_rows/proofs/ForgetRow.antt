-- `--cleanup-metadata` of two paths, one with a mark and one with a note: these go, and nothing else; and calls that leave one, or take more.
use Rattle.std.proofs.Common.{◌≡◌, ℕ, true, false, List, [], ◌∷◌, ◌++◌, codes, Option, Ok, is_some, refl, sym, ap, ◌∙◌, arith, true≢false}
use Rattle.smk_base.specs.Place.{record_place, mark_place, note_place, lock_place, records_folder, marks_folder, notes_folder}
use Rattle.smk_world.specs.declared.event.Node.TheVariants.{Regular, Directory}
use Rattle.smk_world.specs.declared.event.Event.{Event}
use Rattle.smk_world.specs.declared.event.Call.TheVariants.{Created, Removed, MadeParents, Settled}
use Rattle.smk_world.specs.World.{World, Nodes, world_of, run}
use Rattle.smk_world.specs.Trees.{Path}
use Rattle.smk_pattern.specs.Shapes.{Text}
use Rattle.smk_drive.proofs.Turns.{event, put}
use Rattle.smk_words_reading.specs.declared.asked.Asked.TheVariants.{Forget}
use Rattle.smk_words_reading.specs.Asks.{IsAsked}
use Rattle.smk_words_reading.proofs.Whole.{read_asked}
use Rattle.smk_cli_target.specs.Files.{seen}
use Rattle.smk_cli_target.specs.Clauses.{HasForgotten, IsWholeFor, forgotten_lines, own_places}
use Rattle.smk_drive_rows.proofs.Confined.{stays_elsewhere}

abbrev pub a : Path
a = codes "a.txt"

abbrev pub b : Path
b = codes "b.txt"

-- ## The words

abbrev pub words : List Text
words = codes "--cleanup-metadata" ∷ a ∷ codes "--cleanup-metadata" ∷ b ∷ []

pub is_asked : IsAsked words (Forget (a ∷ b ∷ []) false)
is_asked = read_asked words (Forget (a ∷ b ∷ []) false) refl

-- ## The call

abbrev pub nodes : Nodes
nodes =
    (codes ".snakemake", Directory)
    ∷ (codes ".snakemake/smk", Directory)
    ∷ (notes_folder, Directory)
    ∷ (note_place b, Regular [] 1 false)
    ∷ (marks_folder, Directory)
    ∷ (mark_place a, Regular [] 1 false)
    ∷ (a, Regular (codes "x") 1 false)
    ∷ (b, Regular (codes "y") 1 false)
    ∷ (codes "in.txt", Regular (codes "z") 1 false)
    ∷ []

abbrev pub entry : World
entry = world_of nodes

abbrev locking : List Event
locking =
    event (MadeParents lock_place (Ok tt)) []
    ∷ event (Created lock_place (Ok true)) (put lock_place [] ∷ [])
    ∷ event (Settled (lock_place ∷ []) (Ok tt)) []
    ∷ []

abbrev unlocking : List Event
unlocking = event (Removed lock_place (Ok tt)) [] ∷ event (Settled (lock_place ∷ []) (Ok tt)) [] ∷ []

abbrev forgetting : Path → List Event
forgetting p =
    event (Settled (p ∷ records_folder ∷ marks_folder ∷ notes_folder ∷ []) (Ok tt)) []
    ∷ event (Removed (record_place p) (Ok tt)) []
    ∷ event (Removed (note_place p) (Ok tt)) []
    ∷ event (Settled (record_place p ∷ note_place p ∷ []) (Ok tt)) []
    ∷ event (Removed (mark_place p) (Ok tt)) []
    ∷ event (Settled (mark_place p ∷ []) (Ok tt)) []
    ∷ []

abbrev pub log : List Event
log = locking ++ (forgetting a ++ (forgetting b ++ unlocking))

pub has_forgotten : HasForgotten (a ∷ b ∷ []) false 0 entry (run entry log)
has_forgotten =
    record {
      only = stays_elsewhere (own_places (a ∷ b ∷ [])) (lock_place ∷ []) nodes log refl;
      all = λ zero. (refl, (refl, tt));
      lock = λ zero. refl;
      front = λ three. absurd (omega arith);
    }

pub its_text : IsWholeFor 0 (forgotten_lines (seen entry) [] (a ∷ b ∷ [])) (codes "forgotten a.txt\nforgotten b.txt\n")
its_text = (([], refl), λ zero. refl)

-- a path that comes again is known no more
pub again : IsWholeFor 0 (forgotten_lines (seen entry) [] (a ∷ a ∷ [])) (codes "forgotten a.txt\nnothing known of a.txt\n")
again = (([], refl), λ zero. refl)

-- ## Wrong calls

-- the note is left
pub leaves_one : HasForgotten (a ∷ b ∷ []) false 0 entry (run entry (locking ++ (forgetting a ++ unlocking))) → ⊥
leaves_one h = true≢false ((h.all refl).1.0)

-- the lock is left
some_node : {A : Type 0} (x y : Option A) → is_some x ≡ true → is_some y ≡ false → x ≡ y → ⊥
some_node x y s n e = true≢false (sym s ∙ (ap is_some e ∙ n))

pub leaves_lock : HasForgotten (a ∷ b ∷ []) false 0 entry (run entry (locking ++ (forgetting a ++ forgetting b))) → ⊥
leaves_lock h = some_node _ _ refl refl (h.lock refl)

-- a source goes too
pub takes_source : (status : ℕ) → HasForgotten (a ∷ b ∷ []) false status entry (run entry (event (Removed (codes "in.txt") (Ok tt)) [] ∷ [])) → ⊥
takes_source status h = some_node _ _ refl refl (h.only (codes "in.txt") refl refl).0
