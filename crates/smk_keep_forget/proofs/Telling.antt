-- What was put, over all turns.
use Rattle.std.proofs.Common.{◌≡◌, false, List, [], ◌∷◌, ◌++◌, refl, sym, ap, subst, ◌∙◌, Some, Result, Ok, Err}
use Rattle.smk_world.specs.Devices.{Device, Sunk, WhereTold, HasActed, HasLooked}
use Rattle.smk_world.specs.Trees.{Path, Act}
use Rattle.smk_world.specs.World.{World, run}
use Rattle.smk_world.proofs.Devices.{still}
use Rattle.smk_store.specs.Images.{is_known}
use Rattle.smk_store.specs.Loading.{IsStoreOf}
use Rattle.smk_store.specs.Stores.{Known}
use Rattle.smk_report.specs.Lines.{forgotten_line}
use Rattle.smk_keep_lock.specs.Putting.{IsWholeFor, Put}
use Rattle.smk_keep_lock.proofs.Telling.{put_as, whole_text}
use Rattle.smk_keep_forget.specs.declared.fault.ForgetFault.{ForgetFault}
use Rattle.smk_keep_forget.specs.Answers.{forget_status}
use Rattle.smk_keep_forget.specs.Seen.{seen, forgotten_lines}
use Rattle.smk_keep_forget.specs.Steps.{IsLineFor}
use Rattle.smk_keep_forget.specs.Turns.{IsStoreBut}
use Rattle.smk_keep_forget.proofs.Going.{SoFar, acted_at, but_none, known_now}
use Rattle.smk_keep_forget.proofs.Lines.{line_after, lines_cut, lines_next, lines_same, put_then}
use Rattle.smk_keep_forget.proofs.Turns.{known_same, store_same}

-- the lines of these paths were put
abbrev pub LinesSoFar : Device → List Known → List Path → Sunk → Sunk → Type 0
LinesSoFar d old done a b = WhereTold d (λ w. IsStoreBut [] w old → Put a b (λ t. t ≡ forgotten_lines (seen w) [] done))

-- of the path's line this was put
abbrev pub LineNow : Device → List Known → List Path → Path → Result (Unit {0}) ForgetFault → Sunk → Sunk → Type 0
LineNow d now done p r a b = WhereTold d (λ w. IsStoreBut done w now → Put a b (IsLineFor r (forgotten_line (is_known (seen w) p) p)))

-- by a store that was just loaded
pub told_loaded : (act : Act) (d e : Device) (ks : List Known) (paths : List Path) (r : Result (Unit {0}) ForgetFault) (a b : Sunk) → HasLooked act d e false → WhereTold d (λ w. IsStoreOf (seen w) ks)
    → WhereTold e (λ w. IsStoreBut [] w ks → Put a b (IsWholeFor (forget_status r) (forgotten_lines (seen w) [] paths))) → WhereTold d (λ w. Put a b (IsWholeFor (forget_status r) (forgotten_lines (seen w) [] paths)))
told_loaded act d e ks paths r a b looked store told w at =
    let v = still w looked at in
    subst (λ l. Put a b (IsWholeFor (forget_status r) l)) (lines_same (seen v.0) (seen w) [] paths (known_same v.0 w v.2))
    (told v.0 v.1 (but_none v.0 ks (store_same w v.0 ks (sym v.2) (store w at))))

module _ (act : Act) (d e : Device) (old now : List Known) where
  -- the path's line is the one by what was known before all turns
  line_then : (done : List Path) (p : Path) (r : Result (Unit {0}) ForgetFault) (b c : Sunk) → HasActed act (SoFar old done now) d e false → LineNow e now done p r b c
      → (w : World) → d.world ≡ Some w → IsStoreBut [] w old → Put b c (IsLineFor r (line_after (seen w) done p))
  line_then done p r b c h told w at but =
      let t = acted_at act (SoFar old done now) d e w h at in
      let far = t.2 but in
      subst (λ l. Put b c (IsLineFor r l)) (ap (λ k. forgotten_line k p) (known_now act w done t.0 t.1 far.0 p)) (told (run w t.0) t.3 far.1)

  pub told_next : (done all : List Path) (p : Path) (a b c : Sunk) → all ≡ done ++ p ∷ [] → HasActed act (SoFar old done now) d e false → LinesSoFar d old done a b → LineNow e now done p (Ok tt) b c → LinesSoFar d old all a c
  told_next done all p a b c is h before told w at but =
      put_then a b c (λ t. t ≡ forgotten_lines (seen w) [] done) (λ t. t ≡ line_after (seen w) done p) (λ t. t ≡ forgotten_lines (seen w) [] all)
      (λ s t e f. ap (λ l. l ++ t) e ∙ ap (λ l. forgotten_lines (seen w) [] done ++ l) f ∙ sym (lines_next (seen w) done p) ∙ sym (ap (forgotten_lines (seen w) []) is))
      (before w at but) (line_then done p (Ok tt) b c h told w at but)

  pub told_cut : (paths done later : List Path) (p : Path) (f : ForgetFault) (a b c : Sunk) → paths ≡ done ++ p ∷ later → HasActed act (SoFar old done now) d e false → LinesSoFar d old done a b → LineNow e now done p (Err f) b c
      → WhereTold d (λ w. IsStoreBut [] w old → Put a c (IsWholeFor (forget_status {T = Unit {0}} (Err f)) (forgotten_lines (seen w) [] paths)))
  told_cut paths done later p f a b c split h before told w at but =
      put_then a b c (λ t. t ≡ forgotten_lines (seen w) [] done) (IsLineFor (Err f) (line_after (seen w) done p)) (IsWholeFor (forget_status {T = Unit {0}} (Err f)) (forgotten_lines (seen w) [] paths))
      (λ s t e k. lines_cut (seen w) done later paths p f s t (line_after (seen w) done p) split refl e k)
      (before w at but) (line_then done p (Err f) b c h told w at but)

pub told_all : (d : Device) (old : List Known) (paths done : List Path) (a b : Sunk) → done ≡ paths → LinesSoFar d old done a b → WhereTold d (λ w. IsStoreBut [] w old → Put a b (IsWholeFor 0 (forgotten_lines (seen w) [] paths)))
told_all d old paths done a b is before w at but =
    put_as a b (λ t. t ≡ forgotten_lines (seen w) [] done) (IsWholeFor 0 (forgotten_lines (seen w) [] paths))
    (λ t e. whole_text (forgotten_lines (seen w) [] paths) t (e ∙ ap (forgotten_lines (seen w) []) is)) (before w at but)
